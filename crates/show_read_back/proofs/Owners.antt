-- The owner of a constraint in a valid catalog.
use Rattle.std.specs.Prelude.{◌≡◌, ◌⊎◌, ℕ, Bool, true, false, cond, ◌&&◌, not, List, [], ◌∷◌, Some, refl}
use Rattle.std.specs.declared.cmp.Ordering.{Ordering}
use Rattle.std.specs.declared.cmp.Ordering.TheVariants.{Less, Equal, Greater}
use Rattle.std.specs.Cmp.{IsTotalOrder, tied_then}
use Rattle.std.specs.FinMap as finite_map
use Rattle.std.specs.Ordering.{eq_by_cmp, is_eq, is_lt}
use Rattle.std.specs.Str.{bytes_eq}
use Rattle.std.proofs.Common.{sym, ◌∙◌, ap, subst, inl, inr, T}
use Rattle.std.proofs.lemmas.Bool.{true≢false, and_parts, and_from, cond_both}
use Rattle.std.proofs.lemmas.Cmp.{nat_list_cmp_total, on_total, then_total, tied_itself}
use Rattle.std.proofs.lemmas.Map.Text.{is_eq-slice_cmp}
use Rattle.dd_names.specs.Names.{name_cmp}
use Rattle.dd_names.specs.declared.object_name.ObjName.{ObjName}
use Rattle.dd_catalog.specs.Sights.{Sight, OwnerThere}
use Rattle.dd_catalog.specs.Catalog.{Catalog, Placed, object_cmp, is_same_object, has_constraint, owner_among}
use Rattle.dd_catalog.specs.Valid.{Has}
use Rattle.rules_elements.specs.ForeignKeys.{is_owned_elsewhere}
use Rattle.rules_create.proofs.Names.{bytes_are, bytes_same}

-- ## Names of objects

pub same_object : (a b : ObjName) → is_same_object a b ≡ true → a ≡ b
same_object a b is =
    let (schemas, names) = and_parts (bytes_eq a.schema b.schema) (bytes_eq a.name b.name) is in
    let schema : a.schema ≡ b.schema = bytes_are a.schema b.schema schemas in
    let name : a.name ≡ b.name = bytes_are a.name b.name names in
    λ i. record { schema = schema i; name = name i }

pub object_itself : (a b : ObjName) → a ≡ b → is_same_object a b ≡ true
object_itself a b e = and_from (bytes_eq a.schema b.schema) (bytes_eq a.name b.name) (bytes_same a.schema b.schema (ap (λ (o : ObjName). o.schema) e)) (bytes_same a.name b.name (ap (λ (o : ObjName). o.name) e))

object_total : IsTotalOrder object_cmp
object_total = then_total (on_total (λ (o : ObjName). o.schema) nat_list_cmp_total) (on_total (λ (o : ObjName). o.name) nat_list_cmp_total)

-- two names tie where their bytes are the same
tied_is_same : (a b : ObjName) → eq_by_cmp object_cmp a b ≡ is_same_object a b
tied_is_same a b =
    sym (tied_then (name_cmp a.schema b.schema) (name_cmp a.name b.name))
    ∙ ap (λ v. v && is_eq (name_cmp a.name b.name)) (is_eq-slice_cmp a.schema b.schema)
    ∙ ap (λ v. bytes_eq a.schema b.schema && v) (is_eq-slice_cmp a.name b.name)

-- ## What entries have

abbrev IsIn : ObjName → Placed → List (ObjName × Placed) → Type 0
IsIn name placed [] = ⊥
IsIn name placed (e ∷ es) = ((name ≡ e.0) × (placed ≡ e.1)) ⊎ IsIn name placed es

front : (a b : Bool) → T (a && b) → T a
front true b t = tt
front false b t = absurd t

second : (a b : Bool) → T (a && b) → T b
second true b t = t
second false b t = absurd t

not_below_itself : (r : Ordering) → T (is_lt r) → r ≡ Equal → ⊥
not_below_itself Less t e = true≢false (ap is_lt e)
not_below_itself Equal t e = t
not_below_itself Greater t e = t

-- a name in front of all others isn't one of them
not_behind : (first name : ObjName) (placed : Placed) (es : List (ObjName × Placed)) → T (finite_map.Entries.below_all object_cmp first es) → IsIn name placed es → first ≡ name → ⊥
not_behind first name placed [] below there same = there
not_behind first name placed (e ∷ es) below (inl here) same =
    not_below_itself (object_cmp first e.0) (front (is_lt (object_cmp first e.0)) (finite_map.Entries.below_all object_cmp first es) below)
    (subst (λ (o : ObjName). object_cmp first o ≡ Equal) (same ∙ here.0) (tied_itself object_total first))
not_behind first name placed (e ∷ es) below (inr later) same =
    not_behind first name placed es (second (is_lt (object_cmp first e.0)) (finite_map.Entries.below_all object_cmp first es) below) later same

find_in : (name : ObjName) (placed : Placed) (es : List (ObjName × Placed)) → T (finite_map.is_sorted object_cmp es) → IsIn name placed es → finite_map.find object_cmp name es ≡ Some placed
find_in name placed [] sorted there = absurd there
find_in name placed (e ∷ es) sorted (inl here) =
    ap (λ (b : Bool). cond b (Some e.1) (finite_map.find object_cmp name es)) (tied_is_same name e.0 ∙ object_itself name e.0 here.0) ∙ ap (λ (p : Placed). Some p) (sym here.1)
find_in name placed (e ∷ es) sorted (inr later) =
    on (is_same_object name e.0) refl (find_in name placed es (second (finite_map.Entries.below_all object_cmp e.0 es) (finite_map.is_sorted object_cmp es) sorted) later)
  where
    on : (b : Bool) → is_same_object name e.0 ≡ b → finite_map.find object_cmp name es ≡ Some placed → finite_map.find object_cmp name (e ∷ es) ≡ Some placed
    on true same rest = absurd (not_behind e.0 name placed es (front (finite_map.Entries.below_all object_cmp e.0 es) (finite_map.is_sorted object_cmp es) sorted) later (sym (same_object name e.0 same)))
    on false other rest = ap (λ (b : Bool). cond b (Some e.1) (finite_map.find object_cmp name es)) (tied_is_same name e.0 ∙ other) ∙ rest

has_entry : (cat : Catalog) (name : ObjName) (placed : Placed) → IsIn name placed (finite_map.entries cat.objects) → Has cat name placed
has_entry cat name placed there =
    record { is = finite_map.get-entries cat.objects name ∙ find_in name placed (finite_map.entries cat.objects) (finite_map.entries_sorted cat.objects) there }

-- ## Owners

-- where each table with the constraint is this one, it has no other owner
owner_is : (table : ObjName) (schema folded : List ℕ) (es : List (ObjName × Placed))
    → ((owner : ObjName) (placed : Placed) → IsIn owner placed es → owner.schema ≡ schema → has_constraint folded placed ≡ true → owner ≡ table)
    → is_owned_elsewhere table (owner_among schema folded es) ≡ false
owner_is table schema folded [] alone = refl
owner_is table schema folded (e ∷ es) alone =
    cond_both (bytes_eq e.0.schema schema && has_constraint folded e.1) (OwnerThere e.0) (owner_among schema folded es) (λ (s : Sight). is_owned_elsewhere table s ≡ false)
    (λ is. let (schemas, has) = and_parts (bytes_eq e.0.schema schema) (has_constraint folded e.1) is in
    ap not (object_itself e.0 table (alone e.0 e.1 (inl (refl, refl)) (bytes_are e.0.schema schema schemas) has)))
    (λ _. owner_is table schema folded es (λ owner placed there. alone owner placed (inr there)))

pub not_owned_elsewhere : (cat : Catalog) (table : ObjName) (schema folded : List ℕ)
    → ((owner : ObjName) (placed : Placed) → Has cat owner placed → owner.schema ≡ schema → has_constraint folded placed ≡ true → owner ≡ table)
    → is_owned_elsewhere table (owner_among schema folded (finite_map.entries cat.objects)) ≡ false
not_owned_elsewhere cat table schema folded alone =
    owner_is table schema folded (finite_map.entries cat.objects) (λ owner placed there. alone owner placed (has_entry cat owner placed there))
