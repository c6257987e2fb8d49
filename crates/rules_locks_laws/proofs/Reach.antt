-- How far the changes of a plan reach.
use Rattle.std.specs.Prelude.{◌≡◌, ◌⊎◌, ℕ, Bool, true, false, ◌&&◌, not, List, Option, Some, None, refl}
use Rattle.std.specs.FinMap as finite_map
use Rattle.std.proofs.Common.{sym, ◌∙◌, ap, inl, inr}
use Rattle.std.proofs.lemmas.Bool.{true≢false, and_parts, and_from, false_from_ne_true}
use Rattle.dd_names.specs.declared.object_name.ObjName.{ObjName}
use Rattle.dd_errors.specs.Errors.{ErrorValue}
use Rattle.dd_catalog.specs.Catalog.{Catalog, Placed, is_same_object}
use Rattle.dd_catalog.specs.Walks.{Walk, done}
use Rattle.rules_outcome.specs.Choices.{Change, Choice, Same, Changes, Lists, applied, catalog_behind}
use Rattle.metadata_locks.specs.declared.request.LockKey.TheVariants as on
use Rattle.metadata_locks.specs.declared.request.Mode.TheVariants.{IX, X}
use Rattle.rules_locks.specs.Holdings.{Holding}
use Rattle.rules_locks.specs.Claims.{reads_object, changes_object}
use Rattle.rules_locks.specs.Locks.{Intent, change_claims, refers_in, names_in}
use Rattle.rules_locks.specs.Held.{HasPlan}
use Rattle.rules_locks.proofs.Covers.{flat_all}
use Rattle.rules_locks_laws.specs.Reach.{refers, has_name, is_child, owns, Reaches}
use Rattle.rules_locks_laws.proofs.Catalogs.{Left, objects_left, schema_left}
use Rattle.rules_locks_laws.proofs.Stays.{keys_there, left_keys, ChangesObject, ChangesSchema, ClaimsChanges}
use Rattle.rules_locks_laws.proofs.Claimed.{IsCovered, end_covered, changes_claimed}

refers_there : (parent : ObjName) (found : Option Placed) → refers parent found ≡ refers_in (keys_there found) parent
refers_there parent None = refl
refers_there parent (Some placed) = refl

name_there : (folded : List ℕ) (found : Option Placed) → has_name folded found ≡ names_in (keys_there found) folded
name_there folded None = refl
name_there folded (Some placed) = refl

module _ (held : Holding) (space : ℕ) (cat : Catalog) (changes : List Change) (claims : ClaimsChanges (IsCovered held) cat changes) where
  schema_reached : (name : List ℕ) → (finite_map.contains_key (applied space changes cat).schemas name ≡ finite_map.contains_key cat.schemas name) ⊎ ((held on.All IX ≡ true) × (held (on.Schema name) X ≡ true))
  schema_reached name = elim (schema_left space changes cat name) [
    | inl same ↦ inl same
    | inr changed ↦
        let own : ChangesSchema (IsCovered held) name = claims.schemas name changed.after changed.among in
        inr (own.any, own.own)
  ]

  object_reached : (name : ObjName) → (finite_map.get (applied space changes cat).objects name ≡ finite_map.get cat.objects name) ⊎ ((held on.All IX ≡ true) × (changes_object held name ≡ true))
  object_reached name = elim (objects_left space changes cat name) [
    | inl same ↦ inl same
    | inr left ↦
        let own : ChangesObject (IsCovered held) name (finite_map.get cat.objects name) left.after = claims.objects name left.after left.among in
        inr (own.any, own.own)
  ]

  child_reached : (parent object : ObjName) → is_child (applied space changes cat) parent object ≡ true → (is_child cat parent object ≡ true) ⊎ (reads_object held parent ≡ true)
  child_reached parent object is = on (objects_left space changes cat object)
    where
      parts : (refers parent (finite_map.get (applied space changes cat).objects object) ≡ true) × (not (is_same_object object parent) ≡ true)
      parts = and_parts (refers parent (finite_map.get (applied space changes cat).objects object)) (not (is_same_object object parent)) is

      apart : is_same_object object parent ≡ false
      apart = false_from_ne_true (is_same_object object parent) (λ same. true≢false (sym parts.1 ∙ ap not same))

      was_there : (b : Bool) → refers parent (finite_map.get cat.objects object) ≡ b → Left space changes object (finite_map.get (applied space changes cat).objects object)
          → (is_child cat parent object ≡ true) ⊎ (reads_object held parent ≡ true)
      was_there true was left = inl (and_from (refers parent (finite_map.get cat.objects object)) (not (is_same_object object parent)) was parts.1)
      was_there false was left =
          let own : ChangesObject (IsCovered held) object (finite_map.get cat.objects object) left.after = claims.objects object left.after left.among in
          inr (own.parents parent
          (sym (ap (λ keys. refers_in keys parent) (left_keys space left.after)) ∙ sym (ap (λ o. refers_in (keys_there o) parent) left.is) ∙ sym (refers_there parent (finite_map.get (applied space changes cat).objects object)) ∙ parts.0)
          apart (sym (refers_there parent (finite_map.get cat.objects object)) ∙ was))

      on : (finite_map.get (applied space changes cat).objects object ≡ finite_map.get cat.objects object) ⊎ Left space changes object (finite_map.get (applied space changes cat).objects object)
          → (is_child cat parent object ≡ true) ⊎ (reads_object held parent ≡ true)
      on (inl same) = inl (sym (ap (λ o. refers parent o && not (is_same_object object parent)) same) ∙ is)
      on (inr left) = was_there (refers parent (finite_map.get cat.objects object)) refl left

  name_reached : (object : ObjName) (folded : List ℕ) → owns (applied space changes cat) object folded ≡ true → (owns cat object folded ≡ true) ⊎ (held (on.Constraint object.schema folded) X ≡ true)
  name_reached object folded is = either (objects_left space changes cat object)
    where
      was_there : (b : Bool) → owns cat object folded ≡ b → Left space changes object (finite_map.get (applied space changes cat).objects object)
          → (owns cat object folded ≡ true) ⊎ (held (on.Constraint object.schema folded) X ≡ true)
      was_there true was left = inl was
      was_there false was left =
          let own : ChangesObject (IsCovered held) object (finite_map.get cat.objects object) left.after = claims.objects object left.after left.among in
          inr (own.names folded
          (sym (ap (λ keys. names_in keys folded) (left_keys space left.after)) ∙ sym (ap (λ o. names_in (keys_there o) folded) left.is) ∙ sym (name_there folded (finite_map.get (applied space changes cat).objects object)) ∙ is)
          (sym (name_there folded (finite_map.get cat.objects object)) ∙ was))

      either : (finite_map.get (applied space changes cat).objects object ≡ finite_map.get cat.objects object) ⊎ Left space changes object (finite_map.get (applied space changes cat).objects object)
          → (owns cat object folded ≡ true) ⊎ (held (on.Constraint object.schema folded) X ≡ true)
      either (inl same) = inl (sym (ap (has_name folded) same) ∙ is)
      either (inr left) = was_there (owns cat object folded) refl left

  changes_reach : Reaches held cat (applied space changes cat)
  changes_reach = record { schemas = schema_reached; objects = object_reached; children = child_reached; names = name_reached }

nothing_reached : (held : Holding) (cat : Catalog) → Reaches held cat cat
nothing_reached held cat = record { schemas = λ name. inl refl; objects = λ name. inl refl; children = λ parent object is. inl is; names = λ object folded is. inl is }

pub plan_reaches : (cat : Catalog) (space : ℕ) (held : Holding) (intent : Intent) (check : Walk ErrorValue Choice) (choice : Choice) → HasPlan cat intent check held choice → Reaches held cat (catalog_behind space choice cat)
plan_reaches cat space held intent check Same plan = nothing_reached held cat
plan_reaches cat space held intent check (Lists listing) plan = nothing_reached held cat
plan_reaches cat space held intent check (Changes changes session) plan =
    changes_reach held space cat changes
    (changes_claimed cat (IsCovered held) plan.steps changes plan.stand (flat_all (IsCovered held) (change_claims plan.steps) changes (end_covered intent plan.steps (done (Changes changes session)) held plan.all)))
