-- What a plan doesn't break stays where it is committed.
use Rattle.std.specs.Prelude.{◌≡◌, ℕ, true, false, List, [], ◌∷◌, refl}
use Rattle.std.specs.List.{list_any, flat_map, AllByRecursion}
use Rattle.std.specs.Str.{bytes_eq}
use Rattle.std.proofs.Common.{sym, ◌∙◌, ap, inl, inr}
use Rattle.std.proofs.lemmas.Bool.{true≢false, and_from, or_left, or_right, or_parts}
use Rattle.dd_names.specs.declared.object_name.ObjectKey.{ObjectKey}
use Rattle.dd_errors.specs.Errors.{ErrorValue}
use Rattle.dd_catalog.specs.Catalog.{Catalog, sight_of}
use Rattle.dd_catalog.specs.Valid.{IsValid}
use Rattle.dd_catalog.specs.Walks.{Walk}
use Rattle.dd_catalog.proofs.ObjectNames.{object_itself}
use Rattle.rules_outcome.specs.Choices.{Choice, Same, Changes, Lists, catalog_behind}
use Rattle.rules_locks.specs.Holdings.{Holding}
use Rattle.rules_locks.specs.Claims.{Claim, KeepSchemas, KeepSchema, KeepObjects, KeepObject, KeepChildren, KeepFree, ChangeSchema, ChangeObject, JoinParent, TakeName}
use Rattle.rules_locks.specs.Locks.{Intent, Reads, look_claims, choice_claims, change_claims}
use Rattle.rules_locks.specs.Evictions.{is_broken, is_hit}
use Rattle.rules_locks.specs.Held.{HasPlan}
use Rattle.rules_locks.proofs.Places.{bytes_itself}
use Rattle.rules_locks.proofs.Covers.{flat_all}
use Rattle.rules_locks_laws.proofs.Catalogs.{IsIn}
use Rattle.rules_locks_laws.proofs.Stays.{DoNotClash, sight_stays}
use Rattle.rules_locks_laws.proofs.Claimed.{changes_claimed}

-- none of the claims breaks it
abbrev IsWhole : List Claim → Claim → Type 0
IsWhole claims keep = list_any (is_broken keep) claims ≡ false

broken : (keep : Claim) (does : Claim) (claims : List Claim) → IsIn does claims → is_broken keep does ≡ true → list_any (is_broken keep) claims ≡ true
broken keep does [] there breaks = absurd there
broken keep does (c ∷ claims) (inl here) breaks = or_left (is_broken keep c) (list_any (is_broken keep) claims) (ap (is_broken keep) here ∙ breaks)
broken keep does (c ∷ claims) (inr later) breaks = or_right (is_broken keep c) (list_any (is_broken keep) claims) (broken keep does claims later breaks)

no_break : (claims : List Claim) (keep does : Claim) → is_broken keep does ≡ true → IsWhole claims keep → IsIn does claims → ⊥
no_break claims keep does breaks whole there = true≢false (sym (broken keep does claims there breaks) ∙ whole)

unbroken_apart : (claims : List Claim) → DoNotClash (IsWhole claims) (λ does. IsIn does claims)
unbroken_apart claims = record {
  schemas = λ name whole any own. no_break claims KeepSchemas (ChangeSchema name) refl whole own;
  schema = λ name whole any own. no_break claims (KeepSchema name) (ChangeSchema name) (bytes_itself name) whole own;
  objects = λ object whole any own. no_break claims (KeepObjects object.schema) (ChangeObject object) (bytes_itself object.schema) whole own;
  object = λ object whole any own. no_break claims (KeepObject object) (ChangeObject object) (object_itself object) whole own;
  children = λ parent whole any own. no_break claims (KeepChildren parent) (JoinParent parent) (object_itself parent) whole own;
  name = λ schema folded whole any own. no_break claims (KeepFree schema folded) (TakeName schema folded) (and_from (bytes_eq schema schema) (bytes_eq folded folded) (bytes_itself schema) (bytes_itself folded)) whole own;
}

all_here : {A : Type 0} (all xs : List A) → ((x : A) → IsIn x xs → IsIn x all) → AllByRecursion (λ x. IsIn x all) xs
all_here all [] within = tt
all_here all (x ∷ xs) within = (within x (inl refl), all_here all xs (λ y there. within y (inr there)))

none_broken : (claims keeps : List Claim) → list_any (λ (keep : Claim). list_any (is_broken keep) claims) keeps ≡ false → AllByRecursion (IsWhole claims) keeps
none_broken claims [] none = tt
none_broken claims (keep ∷ keeps) none = let (here, later) = or_parts (list_any (is_broken keep) claims) (list_any (λ (k : Claim). list_any (is_broken k) claims) keeps) none in (here, none_broken claims keeps later)

pub unhit_stays : (cat : Catalog) (space : ℕ) (held : Holding) (intent : Intent) (check : Walk ErrorValue Choice) (choice : Choice) → IsValid cat → IsValid (catalog_behind space choice cat)
    → (plan : HasPlan cat intent check held choice) → (key : ObjectKey) → is_hit (choice_claims plan.steps choice) key (sight_of cat key) ≡ false → sight_of (catalog_behind space choice cat) key ≡ sight_of cat key
unhit_stays cat space held intent check Same valid valid_behind plan key whole = refl
unhit_stays cat space held intent check (Lists listing) valid valid_behind plan key whole = refl
unhit_stays cat space held intent check (Changes changes session) valid valid_behind plan key whole =
    let claims = flat_map (change_claims plan.steps) changes in
    sight_stays (IsWhole claims) (λ does. IsIn does claims) (unbroken_apart claims) space cat changes
    (changes_claimed cat (λ does. IsIn does claims) plan.steps changes plan.stand (flat_all (λ does. IsIn does claims) (change_claims plan.steps) changes (all_here claims claims (λ x there. there))))
    valid valid_behind key (none_broken claims (look_claims Reads key (sight_of cat key)) whole)
