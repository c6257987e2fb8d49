-- What is seen behind changes of a catalog: objects, owners of constraints, and children.
use Rattle.std.specs.Prelude.{◌≡◌, ◌⊎◌, ℕ, Bool, true, false, ◌&&◌, not, List, [], ◌∷◌, filter, Option, Some, None, is_some, if◌then◌else◌, refl}
use Rattle.std.specs.FinMap as finite_map
use Rattle.std.specs.Str.{bytes_eq}
use Rattle.std.proofs.Common.{sym, ◌∙◌, ap, inl, inr}
use Rattle.std.proofs.lemmas.Bool.{true≢false, and_parts, and_from, not-true, not_from_false}
use Rattle.dd_names.specs.declared.object_name.ObjName.{ObjName}
use Rattle.dd_names.specs.declared.object_name.ObjectKey.TheVariants as keys
use Rattle.dd_catalog.specs.Sights.{Sight, Nothing, OwnerThere}
use Rattle.dd_catalog.specs.Catalog.{Catalog, Placed, is_same_object, refers_to, has_constraint, children_among, owner_among, object_seen, sight_of}
use Rattle.rules_outcome.specs.Choices.{After, Gone, NewSchema, FreshTable, KeptTable, NewView, KeptView}
use Rattle.rules_elements.specs.ForeignKeys.{is_owned_elsewhere}
use Rattle.rules_create.proofs.Names.{bytes_are, bytes_same}
use Rattle.rules_rename.specs.Overlays.{Overlay, is_changed, changed_objects, after_seen, object_behind, children_behind, owner_before, or_before, seen_behind}
use Rattle.rules_valid.proofs.RenamedLists.{IsIn, in_filter, filter_in}
use Rattle.rules_valid.proofs.RenamedNames.{is_same, not_same, in_puts_first, in_puts_second, puts_in}
use Rattle.rules_valid.proofs.RenamedPlaces.{Places, placed_after, placed_over, places_behind, places_changed, Lists, lists_entries, lists_changed}
use Rattle.rules_valid.proofs.RenamedSound.{IsSound}

-- ## Objects

after_is_seen : (change : After) → after_seen change ≡ object_seen (placed_after change)
after_is_seen Gone = refl
after_is_seen NewSchema = refl
after_is_seen (FreshTable parts) = refl
after_is_seen (KeptTable space parts) = refl
after_is_seen (NewView parts) = refl
after_is_seen (KeptView parts) = refl

object_over : (change : Option After) (before : Option Placed) → object_behind change (object_seen before) ≡ object_seen (placed_over change before)
object_over None before = refl
object_over (Some change) before = after_is_seen change

-- an object is seen as it stands behind the changes
pub object_is_seen : (cat : Catalog) (overlay : Overlay) (name : ObjName) → seen_behind overlay (keys.Object name) (sight_of cat (keys.Object name)) ≡ object_seen (places_behind overlay (finite_map.get cat.objects) name)
unfolding seen_behind
object_is_seen cat overlay name = object_over (finite_map.get overlay name) (finite_map.get cat.objects name)

-- ## What is changed and what isn't

changed_stands : (change : Option After) (before : Option Placed) (placed : Placed) → placed_over change None ≡ Some placed → placed_over change before ≡ Some placed
changed_stands None before placed is = cc
changed_stands (Some change) before placed is = is

-- what stands is changed, or it stood before and isn't changed
either_stands : (change : Option After) (before : Option Placed) (placed : Placed) → placed_over change before ≡ Some placed → (placed_over change None ≡ Some placed) ⊎ ((is_some change ≡ false) × (before ≡ Some placed))
either_stands None before placed is = inr (refl, is)
either_stands (Some change) before placed is = inl is

unchanged : (change : Option After) (before : Option Placed) → is_some change ≡ false → placed_over change before ≡ before
unchanged None before is = refl
unchanged (Some change) before is = cc

-- ## Owners

pub record IsOwner (schema folded : List ℕ) (at : Places) (owner : ObjName) : Type 0 where
  pub placed : Placed
  pub there : at owner ≡ Some placed
  pub schema_is : owner.schema ≡ schema
  pub has : has_constraint folded placed ≡ true

pub record IsFound (schema folded : List ℕ) (objects : List (ObjName × Placed)) : Type 0 where
  pub owner : ObjName
  pub placed : Placed
  pub there : IsIn (owner, placed) objects
  pub schema_is : owner.schema ≡ schema
  pub has : has_constraint folded placed ≡ true
  pub seen : owner_among schema folded objects ≡ OwnerThere owner

abbrev pub IsNone : List ℕ → List ℕ → List (ObjName × Placed) → Type 0
IsNone schema folded objects = (owner_among schema folded objects ≡ Nothing) × ((o : ObjName) (placed : Placed) → IsIn (o, placed) objects → o.schema ≡ schema → has_constraint folded placed ≡ true → ⊥)

pub find_owner : (schema folded : List ℕ) (objects : List (ObjName × Placed)) → IsFound schema folded objects ⊎ IsNone schema folded objects
find_owner schema folded [] = inr (refl, λ o placed is _ _. absurd is)
find_owner schema folded (e ∷ es) = on (bytes_eq e.0.schema schema && has_constraint folded e.1) refl (find_owner schema folded es)
  where
    on : (b : Bool) → (bytes_eq e.0.schema schema && has_constraint folded e.1) ≡ b → IsFound schema folded es ⊎ IsNone schema folded es → IsFound schema folded (e ∷ es) ⊎ IsNone schema folded (e ∷ es)
    on true is rest =
        let (schemas, has) = and_parts (bytes_eq e.0.schema schema) (has_constraint folded e.1) is in
        inl (record {
          owner = e.0;
          placed = e.1;
          there = inl refl;
          schema_is = bytes_are e.0.schema schema schemas;
          has = has;
          seen = ap (λ (b : Bool). if b then OwnerThere e.0 else owner_among schema folded es) is;
        })
    on false is (inl found) =
        inl (record {
          owner = found.owner;
          placed = found.placed;
          there = inr found.there;
          schema_is = found.schema_is;
          has = found.has;
          seen = ap (λ (b : Bool). if b then OwnerThere e.0 else owner_among schema folded es) is ∙ found.seen;
        })
    on false is (inr none) = inr (ap (λ (b : Bool). if b then OwnerThere e.0 else owner_among schema folded es) is ∙ none.0, others)
      where
        others : (o : ObjName) (placed : Placed) → IsIn (o, placed) (e ∷ es) → o.schema ≡ schema → has_constraint folded placed ≡ true → ⊥
        others o placed (inl here) schema_is has =
            let first : bytes_eq e.0.schema schema ≡ true = bytes_same e.0.schema schema (ap (λ (p : ObjName × Placed). p.0.schema) (sym here) ∙ schema_is) in
            let second : has_constraint folded e.1 ≡ true = ap (λ (p : ObjName × Placed). has_constraint folded p.1) (sym here) ∙ has in
            true≢false (sym (and_from (bytes_eq e.0.schema schema) (has_constraint folded e.1) first second) ∙ is)
        others o placed (inr later) schema_is has = none.1 o placed later schema_is has

-- the list's owner is one of the places, or there is none
abbrev SeesOwner : List ℕ → List ℕ → Places → Sight → Type 0
SeesOwner schema folded at seen = ((owner : ObjName) × IsOwner schema folded at owner × (seen ≡ OwnerThere owner)) ⊎ ((seen ≡ Nothing) × ((o : ObjName) → IsOwner schema folded at o → ⊥))

sees_owner : (schema folded : List ℕ) (objects : List (ObjName × Placed)) (at : Places) → Lists objects at → SeesOwner schema folded at (owner_among schema folded objects)
sees_owner schema folded objects at lists = elim (find_owner schema folded objects) [
  | inl found ↦ inl (found.owner, record { placed = found.placed; there = lists.holds found.owner found.placed found.there; schema_is = found.schema_is; has = found.has }, found.seen)
  | inr none ↦ inr (none.0, λ o is. none.1 o is.placed (lists.all o is.placed is.there) is.schema_is is.has)
]

one_owner : (schemas : List ℕ → Bool) (at : Places) (schema folded : List ℕ) (a b : ObjName) → IsSound schemas at → IsOwner schema folded at a → IsOwner schema folded at b → a ≡ b
one_owner schemas at schema folded a b sound one other = sound.constraints_distinct a b one.placed other.placed folded one.there other.there (one.schema_is ∙ sym other.schema_is) one.has other.has

-- where another table has the constraint, another is seen
pub owner_is_seen : (schemas : List ℕ → Bool) (cat : Catalog) (overlay : Overlay) → IsSound schemas (finite_map.get cat.objects) → IsSound schemas (places_behind overlay (finite_map.get cat.objects))
    → (schema folded : List ℕ) (from owner : ObjName) → IsOwner schema folded (places_behind overlay (finite_map.get cat.objects)) owner → (owner ≡ from → ⊥)
    → is_owned_elsewhere from (seen_behind overlay (keys.Constraint schema folded) (sight_of cat (keys.Constraint schema folded))) ≡ true
unfolding seen_behind
owner_is_seen schemas cat overlay before sound schema folded from owner is apart =
    on (owner_among schema folded (changed_objects overlay)) (sees_owner schema folded (changed_objects overlay) (places_changed overlay) (lists_changed overlay))
    (owner_among schema folded (finite_map.entries cat.objects)) (sees_owner schema folded (finite_map.entries cat.objects) (finite_map.get cat.objects) (lists_entries cat.objects))
  where
    elsewhere : (o : ObjName) → o ≡ owner → not (is_same_object o from) ≡ true
    elsewhere o same = not_from_false (is_same_object o from) (not_same o from (λ e. apart (sym same ∙ e)))

    behind : (o : ObjName) → IsOwner schema folded (places_changed overlay) o → IsOwner schema folded (places_behind overlay (finite_map.get cat.objects)) o
    behind o made = record { placed = made.placed; there = changed_stands (finite_map.get overlay o) (finite_map.get cat.objects o) made.placed made.there; schema_is = made.schema_is; has = made.has }

    on_cat : (seen : Sight) → SeesOwner schema folded (finite_map.get cat.objects) seen → is_changed overlay owner ≡ false → IsOwner schema folded (finite_map.get cat.objects) owner → is_owned_elsewhere from (owner_before overlay seen) ≡ true
    on_cat seen (inl (o, found, seen_is)) unchanged_is stood =
        let same : o ≡ owner = one_owner schemas (finite_map.get cat.objects) schema folded o owner before found stood in
        ap (λ (s : Sight). is_owned_elsewhere from (owner_before overlay s)) seen_is
        ∙ ap (λ (b : Bool). is_owned_elsewhere from (if b then Nothing else OwnerThere o)) (ap (is_changed overlay) same ∙ unchanged_is)
        ∙ elsewhere o same
    on_cat seen (inr (nothing, none)) unchanged_is stood = absurd (none owner stood)

    on : (made : Sight) → SeesOwner schema folded (places_changed overlay) made → (seen : Sight) → SeesOwner schema folded (finite_map.get cat.objects) seen → is_owned_elsewhere from (or_before made (owner_before overlay seen)) ≡ true
    on made (inl (o, found, made_is)) seen sees =
        ap (λ (s : Sight). is_owned_elsewhere from (or_before s (owner_before overlay seen))) made_is
        ∙ elsewhere o (one_owner schemas (places_behind overlay (finite_map.get cat.objects)) schema folded o owner sound (behind o found) is)
    on made (inr (nothing, none)) seen sees =
        ap (λ (s : Sight). is_owned_elsewhere from (or_before s (owner_before overlay seen))) nothing
        ∙ elim (either_stands (finite_map.get overlay owner) (finite_map.get cat.objects owner) is.placed is.there) [
          | inl changed ↦ absurd (none owner (record { placed = is.placed; there = changed; schema_is = is.schema_is; has = is.has }))
          | inr stood ↦ on_cat seen sees stood.0 (record { placed = is.placed; there = stood.1; schema_is = is.schema_is; has = is.has })
        ]

-- ## Children

pub record IsChild (parent : ObjName) (at : Places) (child : ObjName) : Type 0 where
  pub placed : Placed
  pub there : at child ≡ Some placed
  pub refers : refers_to parent placed ≡ true
  pub other : child ≡ parent → ⊥

record IsChildIn (parent : ObjName) (objects : List (ObjName × Placed)) (child : ObjName) : Type 0 where
  placed : Placed
  there : IsIn (child, placed) objects
  refers : refers_to parent placed ≡ true
  other : child ≡ parent → ⊥

child_among : (parent child : ObjName) (objects : List (ObjName × Placed)) → IsIn child (children_among parent objects) → IsChildIn parent objects child
child_among parent child [] is = absurd is
child_among parent child (e ∷ es) is = on (refers_to parent e.1 && not (is_same_object e.0 parent)) refl is (λ later. child_among parent child es later)
  where
    more : IsChildIn parent es child → IsChildIn parent (e ∷ es) child
    more found = record { placed = found.placed; there = inr found.there; refers = found.refers; other = found.other }

    on : (b : Bool) → (refers_to parent e.1 && not (is_same_object e.0 parent)) ≡ b → IsIn child (if b then e.0 ∷ children_among parent es else children_among parent es)
        → (IsIn child (children_among parent es) → IsChildIn parent es child) → IsChildIn parent (e ∷ es) child
    on true test (inl here) rest =
        let (refers, other) = and_parts (refers_to parent e.1) (not (is_same_object e.0 parent)) test in
        record {
          placed = e.1;
          there = inl (λ i. (here i, e.1));
          refers = refers;
          other = λ same. true≢false (sym (is_same e.0 parent (sym here ∙ same)) ∙ not-true (is_same_object e.0 parent) other);
        }
    on true test (inr later) rest = more (rest later)
    on false test later rest = more (rest later)

among_children : (parent child : ObjName) (placed : Placed) (objects : List (ObjName × Placed)) → refers_to parent placed ≡ true → (child ≡ parent → ⊥) → IsIn (child, placed) objects → IsIn child (children_among parent objects)
among_children parent child placed [] refers other is = absurd is
among_children parent child placed (e ∷ es) refers other is = on (refers_to parent e.1 && not (is_same_object e.0 parent)) refl is (λ later. among_children parent child placed es refers other later)
  where
    on : (b : Bool) → (refers_to parent e.1 && not (is_same_object e.0 parent)) ≡ b → IsIn (child, placed) (e ∷ es) → (IsIn (child, placed) es → IsIn child (children_among parent es))
        → IsIn child (if b then e.0 ∷ children_among parent es else children_among parent es)
    on true test (inl here) rest = inl (ap (λ (p : ObjName × Placed). p.0) here)
    on true test (inr later) rest = inr (rest later)
    on false test (inl here) rest =
        let first : refers_to parent e.1 ≡ true = ap (λ (p : ObjName × Placed). refers_to parent p.1) (sym here) ∙ refers in
        let second : not (is_same_object e.0 parent) ≡ true = not_from_false (is_same_object e.0 parent) (not_same e.0 parent (λ same. other (ap (λ (p : ObjName × Placed). p.0) here ∙ same))) in
        absurd (true≢false (sym (and_from (refers_to parent e.1) (not (is_same_object e.0 parent)) first second) ∙ test))
    on false test (inr later) rest = rest later

-- the children that are seen
abbrev pub seen_children : Catalog → Overlay → ObjName → List ObjName
seen_children cat overlay parent = children_behind overlay parent (children_among parent (finite_map.entries cat.objects))

-- each refers to the table behind the changes
pub seen_are_children : (cat : Catalog) (overlay : Overlay) (parent child : ObjName) → IsIn child (seen_children cat overlay parent) → IsChild parent (places_behind overlay (finite_map.get cat.objects)) child
seen_are_children cat overlay parent child is =
    elim (puts_in child (children_among parent (changed_objects overlay)) (filter (λ c. not (is_changed overlay c)) (children_among parent (finite_map.entries cat.objects))) is) [
      | inl made ↦
          let found : IsChildIn parent (changed_objects overlay) child = child_among parent child (changed_objects overlay) made in
          let changed : places_changed overlay child ≡ Some found.placed = lists.holds child found.placed found.there in
          record {
            placed = found.placed;
            there = changed_stands (finite_map.get overlay child) (finite_map.get cat.objects child) found.placed changed;
            refers = found.refers;
            other = found.other;
          }
      | inr stood ↦
          let (stays, among) = filter_in (λ c. not (is_changed overlay c)) child (children_among parent (finite_map.entries cat.objects)) stood in
          let found : IsChildIn parent (finite_map.entries cat.objects) child = child_among parent child (finite_map.entries cat.objects) among in
          record {
            placed = found.placed;
            there = unchanged (finite_map.get overlay child) (finite_map.get cat.objects child) (not-true (is_changed overlay child) stays) ∙ before.holds child found.placed found.there;
            refers = found.refers;
            other = found.other;
          }
    ]
  where
    lists : Lists (changed_objects overlay) (places_changed overlay)
    lists = lists_changed overlay

    before : Lists (finite_map.entries cat.objects) (finite_map.get cat.objects)
    before = lists_entries cat.objects

-- and each that does is seen
pub children_are_seen : (cat : Catalog) (overlay : Overlay) (parent child : ObjName) → IsChild parent (places_behind overlay (finite_map.get cat.objects)) child → IsIn child (seen_children cat overlay parent)
children_are_seen cat overlay parent child is =
    let rest : List ObjName = filter (λ c. not (is_changed overlay c)) (children_among parent (finite_map.entries cat.objects)) in
    elim (either_stands (finite_map.get overlay child) (finite_map.get cat.objects child) is.placed is.there) [
      | inl changed ↦ in_puts_first child (children_among parent (changed_objects overlay)) rest (among_children parent child is.placed (changed_objects overlay) is.refers is.other (lists.all child is.placed changed))
      | inr stood ↦ in_puts_second child (children_among parent (changed_objects overlay)) rest
          (in_filter (λ c. not (is_changed overlay c)) child (children_among parent (finite_map.entries cat.objects)) (not_from_false (is_changed overlay child) stood.0)
          (among_children parent child is.placed (finite_map.entries cat.objects) is.refers is.other (before.all child is.placed stood.1)))
    ]
  where
    lists : Lists (changed_objects overlay) (places_changed overlay)
    lists = lists_changed overlay

    before : Lists (finite_map.entries cat.objects) (finite_map.get cat.objects)
    before = lists_entries cat.objects
