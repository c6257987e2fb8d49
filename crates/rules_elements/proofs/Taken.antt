-- The names that a table's indexes have so far, and the search for a free one.
use Rattle.std.proofs.Common.{◌≡◌, ℕ, zero, suc, ◌+◌, ◌-◌, ◌<◌, ◌≤◌, Bool, true, false, ◌||◌, cond, List, [], ◌∷◌, ◌++◌, length, refl, sym, ◌∙◌, ap, subst, arith, length-append}
use Rattle.std.specs.Prelude.{◌==◌, Option, Some, None}
use Rattle.std.specs.List.{list_any}
use Rattle.std.specs.Ordering.{is_eq}
use Rattle.std.specs.Str.{bytes_eq}
use Rattle.std.specs.BTreeSet.{BTreeSet, contains}
use Rattle.std.specs.BTreeMap.{get, is_at}
use Rattle.std.specs.Map.{lookup}
use Rattle.std.proofs.lemmas.Bool.{eqb-true, eqb-false}
use Rattle.std.proofs.lemmas.Slice.Eq.{bytes_eq-Decides}
use Rattle.std.proofs.lemmas.Map.Text.{is_eq-slice_cmp}
use Rattle.std.proofs.lemmas.List.Folds.{list_any-append}
use Rattle.dd_names.specs.Names.{fold, same, name_cmp}
use Rattle.dd_definitions.specs.Indexes.{primary_name}
use Rattle.dd_definitions.specs.declared.indexes.IndexDef.{IndexDef}
use Rattle.rules_elements.specs.declared.taken_names.TakenNames.{TakenNames}
use Rattle.rules_elements.specs.Keys.{has_index_named, is_taken, numbered, free_from, free_name}
use Rattle.rules_elements.specs.Taken.{IsTried, AreNamesOf}
use Rattle.rules_elements.proofs.Free.{next_number}

-- ## Numbers that were tried

pub first_number : (indexes : List IndexDef) (base : List ℕ) → IsTried indexes base 1
first_number indexes base = record { some = omega arith; few = omega arith; taken = λ n from below. absurd (omega arith) }

pub one_tried : (indexes : List IndexDef) (base : List ℕ) (number : ℕ) → number < length indexes + 2 → is_taken indexes (numbered base number) ≡ true → IsTried indexes base number → IsTried indexes base (number + 1)
one_tried indexes base number lt taken tried = record { some = omega arith; few = omega arith; taken = λ n from below. at n from (omega arith) (n == number) refl }
  where
    below_other : (n m : ℕ) → n ≤ m → (n ≡ m → ⊥) → n < m
    below_other n m le other = omega (arith, other)

    at : (n : ℕ) → 1 ≤ n → n ≤ number → (b : Bool) → (n == number) ≡ b → is_taken indexes (numbered base n) ≡ true
    at n from le true is = ap (λ m. is_taken indexes (numbered base m)) (eqb-true n number is) ∙ taken
    at n from le false is = tried.taken n from (let apart = eqb-false n number is in let other : n ≡ number → ⊥ = apart in below_other n number le other)

still_taken : (indexes : List IndexDef) (index : IndexDef) (name : List ℕ) → is_taken indexes name ≡ true → is_taken (indexes ++ index ∷ []) name ≡ true
still_taken indexes index name taken =
    ap (λ b. b || same name primary_name) (list_any-append (λ (i : IndexDef). same i.name name) indexes (index ∷ []))
    ∙ at (has_index_named indexes name) (same index.name name || false) (same name primary_name) taken
  where
    at : (a b p : Bool) → (a || p) ≡ true → ((a || b) || p) ≡ true
    at true b p is = refl
    at false true p is = refl
    at false false p is = is

tried_still : (indexes : List IndexDef) (index : IndexDef) (base : List ℕ) (number : ℕ) → IsTried indexes base number → IsTried (indexes ++ index ∷ []) base number
tried_still indexes index base number tried =
    let longer : length (indexes ++ index ∷ []) ≡ length indexes + 1 = length-append indexes (index ∷ []) in
    let few : number ≤ length indexes + 2 = tried.few in
    record { some = tried.some; few = omega arith; taken = λ n from below. still_taken indexes index (numbered base n) (tried.taken n from below) }

-- ## The search

goes_on : (indexes : List IndexDef) (base : List ℕ) (k number : ℕ) → number ≡ k + 1 → number ≤ length indexes + 2 → ((n : ℕ) → 1 ≤ n → n < number → is_taken indexes (numbered base n) ≡ true)
    → free_from indexes base number (length indexes + 2 - number) ≡ free_name indexes base
goes_on indexes base zero number is few taken =
    let tries : length indexes + 2 - 1 ≡ length indexes + 1 = omega arith in
    ap (λ m. free_from indexes base m (length indexes + 2 - m)) is ∙ ap (free_from indexes base 1) tries
goes_on indexes base (suc k) number is few taken =
    let next : number ≡ k + 1 + 1 = omega arith in
    ap (λ m. free_from indexes base m (length indexes + 2 - m)) next
    ∙ next_number indexes base (k + 1) (length indexes + 2) (free_name indexes base) (omega arith) (taken (k + 1) (omega arith) (omega arith)) (goes_on indexes base k (k + 1) refl (omega arith) (λ n from below. taken n from (omega arith)))

-- what is below a number that was tried needs no search
from_tried : (indexes : List IndexDef) (base : List ℕ) (number : ℕ) → IsTried indexes base number → free_from indexes base number (length indexes + 2 - number) ≡ free_name indexes base
from_tried indexes base number tried =
    let some : 1 ≤ number = tried.some in
    let before : number ≡ number - 1 + 1 = omega arith in
    goes_on indexes base (number - 1) number before tried.few tried.taken

pub free_here : (indexes : List IndexDef) (base : List ℕ) (number : ℕ) → number < length indexes + 2 → is_taken indexes (numbered base number) ≡ false → IsTried indexes base number → numbered base number ≡ free_name indexes base
free_here indexes base number lt free tried =
    let tries : length indexes + 2 - number ≡ suc (length indexes + 2 - (number + 1)) = omega arith in
    sym (ap (λ b. cond b (free_from indexes base (number + 1) (length indexes + 2 - (number + 1))) (numbered base number)) free)
    ∙ sym (ap (free_from indexes base number) tries) ∙ from_tried indexes base number tried

pub free_last : (indexes : List IndexDef) (base : List ℕ) (number : ℕ) → length indexes + 2 ≤ number → IsTried indexes base number → numbered base number ≡ free_name indexes base
free_last indexes base number le tried =
    let tries : length indexes + 2 - number ≡ 0 = omega arith in
    sym (ap (free_from indexes base number) tries) ∙ from_tried indexes base number tried

-- ## The names

pub names_of_none : (names : TakenNames) → names.folded.keys ≡ [] → names.tried.entries ≡ [] → AreNamesOf names []
names_of_none names none none_tried = record {
  folded = λ q. ap (λ ks. list_any (λ k. is_eq (name_cmp q k)) ks) none;
  tried = λ base number is. let nothing : None ≡ Some number = sym (ap (λ es. lookup (is_at (name_cmp base)) es) none_tried) ∙ is in cc;
}

text_added : (key q : List ℕ) (b : Bool) → cond (is_eq (name_cmp key q)) true b ≡ (b || (bytes_eq key q || false))
text_added key q b = ap (λ t. cond t true b) (is_eq-slice_cmp key q) ∙ at (bytes_eq key q) b
  where
    at : (t b : Bool) → cond t true b ≡ (b || (t || false))
    at true true = refl
    at true false = refl
    at false true = refl
    at false false = refl

pub one_name_more : (old new : TakenNames) (indexes : List IndexDef) (index : IndexDef) (name key : List ℕ) → index.name ≡ name → key ≡ fold name → new.tried ≡ old.tried
    → ((q : List ℕ) → contains name_cmp new.folded q ≡ cond (is_eq (name_cmp key q)) true (contains name_cmp old.folded q)) → AreNamesOf old indexes → AreNamesOf new (indexes ++ index ∷ [])
one_name_more old new indexes index name key named is same_tried adds names = record {
  folded = λ q. adds q ∙ text_added key q (contains name_cmp old.folded q)
      ∙ ap (λ b. b || (bytes_eq key q || false)) (names.folded q)
      ∙ ap (λ k. list_any (λ (i : IndexDef). bytes_eq (fold i.name) q) indexes || (bytes_eq k q || false)) (is ∙ ap fold (sym named))
      ∙ sym (list_any-append (λ (i : IndexDef). bytes_eq (fold i.name) q) indexes (index ∷ []));
  tried = λ base number found. tried_still indexes index base number (names.tried base number (ap (λ m. get name_cmp m base) (sym same_tried) ∙ found));
}

pub name_there : (names : TakenNames) (indexes : List IndexDef) (name key : List ℕ) (has : Bool) → key ≡ fold name → has ≡ contains name_cmp names.folded key → AreNamesOf names indexes → has ≡ has_index_named indexes name
name_there names indexes name key has is answer are = answer ∙ are.folded key ∙ ap (λ k. list_any (λ (i : IndexDef). bytes_eq (fold i.name) k) indexes) is

pub one_number_more : (old new : TakenNames) (indexes : List IndexDef) (base key : List ℕ) (number : ℕ) → key ≡ base → new.folded ≡ old.folded
    → ((q : List ℕ) → get name_cmp new.tried q ≡ cond (is_eq (name_cmp key q)) (Some number) (get name_cmp old.tried q)) → IsTried indexes base number → AreNamesOf old indexes → AreNamesOf new indexes
one_number_more old new indexes base key number is same_folded adds tried names = record {
  folded = λ q. ap (λ s. contains name_cmp s q) same_folded ∙ names.folded q;
  tried = λ other found is_found. at other found (is_eq (name_cmp key other)) refl (sym (adds other) ∙ is_found);
}
  where
    at : (other : List ℕ) (found : ℕ) (b : Bool) → is_eq (name_cmp key other) ≡ b → cond b (Some number) (get name_cmp old.tried other) ≡ Some found → IsTried indexes other found
    at other found true same is_found =
        let same_name : base ≡ other = sym is ∙ (bytes_eq-Decides key other).0 (sym (is_eq-slice_cmp key other) ∙ same) in
        let same_number : number ≡ found = cc in
        subst (λ b. IsTried indexes b found) same_name (subst (IsTried indexes base) same_number tried)
    at other found false apart is_found = names.tried other found is_found
