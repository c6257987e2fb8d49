-- Objects in lists.
use Rattle.std.specs.Prelude.{◌≡◌, ◌⊎◌, ℕ, Bool, true, false, cond, ◌&&◌, not, List, [], ◌∷◌, Some, None, refl}
use Rattle.std.specs.List.{list_any, find}
use Rattle.std.specs.FinMap as finite_map
use Rattle.std.specs.Str.{bytes_eq}
use Rattle.std.proofs.Common.{sym, ◌∙◌, ap, subst, inl, inr}
use Rattle.std.proofs.lemmas.Bool.{and_from, or_cases, or_left, or_right, not_from_false, cond_both}
use Rattle.dd_names.specs.declared.object_name.ObjName.{ObjName}
use Rattle.dd_catalog.specs.Catalog.{Catalog, Placed, object_cmp, is_same_object, refers_to, names_among, children_among}
use Rattle.dd_catalog.specs.Valid.{Has}
use Rattle.dd_catalog.proofs.ObjectNames.{tied_is_same, same_object, object_itself}
use Rattle.rules_create.proofs.Names.{bytes_same}

-- ## Lists that have an item

abbrev pub IsIn : {A : Type 0} → A → List A → Type 0
IsIn x [] = ⊥
IsIn x (y ∷ ys) = (y ≡ x) ⊎ IsIn x ys

pub any_in : {A : Type 0} (like : A → A → Bool) → ((a b : A) → like a b ≡ true → a ≡ b) → (x : A) (xs : List A) → list_any (like x) xs ≡ true → IsIn x xs
any_in like exact x [] any = cc
any_in like exact x (y ∷ ys) any =
    elim (or_cases (like x y) (list_any (like x) ys) any) [
      | inl here ↦ inl (sym (exact x y here))
      | inr later ↦ inr (any_in like exact x ys later)
    ]

found_in : (q : ObjName) (p : Placed) (es : List (ObjName × Placed)) → finite_map.find object_cmp q es ≡ Some p → IsIn (q, p) es
found_in q p [] is = cc
found_in q p (e ∷ es) is = on (is_same_object q e.0) refl (sym (ap (λ b. cond b (Some e.1) (finite_map.find object_cmp q es)) (tied_is_same q e.0)) ∙ is) (found_in q p es)
  where
    on : (b : Bool) → is_same_object q e.0 ≡ b → cond b (Some e.1) (finite_map.find object_cmp q es) ≡ Some p → (finite_map.find object_cmp q es ≡ Some p → IsIn (q, p) es) → IsIn (q, p) (e ∷ es)
    on true same is rest =
        let name : e.0 ≡ q = sym (same_object q e.0 same) in
        let held : e.1 ≡ p = cc in
        inl (λ i. (name i, held i))
    on false apart is rest = inr (rest is)

-- what the catalog has is among its entries
pub entry_in : (cat : Catalog) (q : ObjName) (p : Placed) → Has cat q p → IsIn (q, p) (finite_map.entries cat.objects)
entry_in cat q p has = found_in q p (finite_map.entries cat.objects) (sym (finite_map.get-entries cat.objects q) ∙ has.is)

-- an entry whose name isn't the one that is looked for
pub not_found : (q : ObjName) (e : ObjName × Placed) (es : List (ObjName × Placed)) → finite_map.find object_cmp q (e ∷ es) ≡ None → (is_same_object q e.0 ≡ false) × (finite_map.find object_cmp q es ≡ None)
not_found q e es is = on (is_same_object q e.0) refl (sym (ap (λ b. cond b (Some e.1) (finite_map.find object_cmp q es)) (tied_is_same q e.0)) ∙ is)
  where
    on : (b : Bool) → is_same_object q e.0 ≡ b → cond b (Some e.1) (finite_map.find object_cmp q es) ≡ None → (is_same_object q e.0 ≡ false) × (finite_map.find object_cmp q es ≡ None)
    on true same is = cc
    on false apart is = (apart, is)

-- ## Names and children

pub name_in : (schema : List ℕ) (q : ObjName) (p : Placed) (es : List (ObjName × Placed)) → IsIn (q, p) es → bytes_eq q.schema schema ≡ true → list_any (bytes_eq q.name) (names_among schema es) ≡ true
name_in schema q p [] there is = absurd there
name_in schema q p (e ∷ es) (inl here) is =
    subst (λ (x : ObjName × Placed). list_any (bytes_eq q.name) (names_among schema (x ∷ es)) ≡ true) (sym here)
    (subst (λ b. list_any (bytes_eq q.name) (cond b (q.name ∷ names_among schema es) (names_among schema es)) ≡ true) (sym is) (or_left (bytes_eq q.name q.name) (list_any (bytes_eq q.name) (names_among schema es)) (bytes_same q.name q.name refl)))
name_in schema q p (e ∷ es) (inr later) is =
    let rest : list_any (bytes_eq q.name) (names_among schema es) ≡ true = name_in schema q p es later is in
    cond_both (bytes_eq e.0.schema schema) (e.0.name ∷ names_among schema es) (names_among schema es) (λ ys. list_any (bytes_eq q.name) ys ≡ true)
    (λ _. or_right (bytes_eq q.name e.0.name) (list_any (bytes_eq q.name) (names_among schema es)) rest) (λ _. rest)

pub child_in : (parent q : ObjName) (p : Placed) (es : List (ObjName × Placed)) → IsIn (q, p) es → (refers_to parent p && not (is_same_object q parent)) ≡ true → list_any (is_same_object q) (children_among parent es) ≡ true
child_in parent q p [] there is = absurd there
child_in parent q p (e ∷ es) (inl here) is =
    subst (λ (x : ObjName × Placed). list_any (is_same_object q) (children_among parent (x ∷ es)) ≡ true) (sym here)
    (subst (λ b. list_any (is_same_object q) (cond b (q ∷ children_among parent es) (children_among parent es)) ≡ true) (sym is) (or_left (is_same_object q q) (list_any (is_same_object q) (children_among parent es)) (object_itself q)))
child_in parent q p (e ∷ es) (inr later) is =
    let rest : list_any (is_same_object q) (children_among parent es) ≡ true = child_in parent q p es later is in
    cond_both (refers_to parent e.1 && not (is_same_object e.0 parent)) (e.0 ∷ children_among parent es) (children_among parent es) (λ ys. list_any (is_same_object q) ys ≡ true)
    (λ _. or_right (is_same_object q e.0) (list_any (is_same_object q) (children_among parent es)) rest) (λ _. rest)

-- where none that stays is found, each goes
all_go : (goes : ObjName → Bool) (q : ObjName) (children : List ObjName) → find (λ child. not (goes child)) children ≡ None → list_any (is_same_object q) children ≡ true → goes q ≡ true
all_go goes q [] none there = cc
all_go goes q (c ∷ children) none there = on (goes c) refl none (or_cases (is_same_object q c) (list_any (is_same_object q) children) there) (all_go goes q children)
  where
    on : (b : Bool) → goes c ≡ b → cond (not b) (Some c) (find (λ child. not (goes child)) children) ≡ None → ((is_same_object q c ≡ true) ⊎ (list_any (is_same_object q) children ≡ true))
        → (find (λ child. not (goes child)) children ≡ None → list_any (is_same_object q) children ≡ true → goes q ≡ true) → goes q ≡ true
    on true is none (inl same) rest = ap goes (same_object q c same) ∙ is
    on true is none (inr later) rest = rest none later
    on false is none there rest = cc

-- a table goes with its children, where none of them stays
pub child_goes : (cat : Catalog) (goes : ObjName → Bool) (parent : ObjName) → find (λ child. not (goes child)) (children_among parent (finite_map.entries cat.objects)) ≡ None → goes parent ≡ true
    → (child : ObjName) (placed : Placed) → Has cat child placed → refers_to parent placed ≡ true → goes child ≡ true
child_goes cat goes parent none going child placed has refers = on (is_same_object child parent) refl
  where
    on : (b : Bool) → is_same_object child parent ≡ b → goes child ≡ true
    on true same = ap goes (same_object child parent same) ∙ going
    on false apart = all_go goes child (children_among parent (finite_map.entries cat.objects)) none
        (child_in parent child placed (finite_map.entries cat.objects) (entry_in cat child placed has) (and_from (refers_to parent placed) (not (is_same_object child parent)) refers (not_from_false (is_same_object child parent) apart)))
