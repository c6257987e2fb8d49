-- What stands at each name, in a catalog, behind changes, and in a list.
use Rattle.std.specs.Prelude.{◌≡◌, Bool, true, false, ◌&&◌, List, [], ◌∷◌, Option, Some, None, if◌then◌else◌, refl}
use Rattle.std.specs.FinMap as finite_map
use Rattle.std.specs.List.{flat_map}
use Rattle.std.specs.Ordering.{eq_by_cmp, is_lt}
use Rattle.std.specs.declared.cmp.Ordering.{Ordering}
use Rattle.std.specs.declared.cmp.Ordering.TheVariants.{Less, Equal, Greater}
use Rattle.std.proofs.Common.{sym, ◌∙◌, ap, subst, inl, inr, T}
use Rattle.std.proofs.lemmas.Bool.{true≢false}
use Rattle.std.proofs.lemmas.Cmp.{tied_itself}
use Rattle.dd_names.specs.declared.object_name.ObjName.{ObjName}
use Rattle.dd_catalog.specs.Catalog.{Placed, Table, View, object_cmp}
use Rattle.dd_catalog.proofs.ObjectNames.{object_total}
use Rattle.rules_outcome.specs.Choices.{After, Gone, NewSchema, FreshTable, KeptTable, NewView, KeptView}
use Rattle.rules_rename.specs.Overlays.{Overlay, placed_of, changed_objects}
use Rattle.rules_valid.proofs.RenamedLists.{IsIn, in_front, in_back, in_either}
use Rattle.rules_valid.proofs.RenamedNames.{ties, tied_is}

-- ## What is found in entries

both_true : (a b : Bool) → T (a && b) → (a ≡ true) × T b
both_true true b t = (refl, t)
both_true false b t = absurd t

front : (a b : Bool) → T (a && b) → T a
front true b t = tt
front false b t = absurd t

second : (a b : Bool) → T (a && b) → T b
second true b t = t
second false b t = absurd t

not_below_itself : (r : Ordering) → is_lt r ≡ true → r ≡ Equal → ⊥
not_below_itself Less is e = true≢false (ap is_lt e)
not_below_itself Equal is e = true≢false (sym is)
not_below_itself Greater is e = true≢false (sym is)

-- a name in front of all others isn't one of them
not_behind : {X : Type 0} (first name : ObjName) (x : X) (es : List (ObjName × X)) → T (finite_map.Entries.below_all object_cmp first es) → IsIn (name, x) es → first ≡ name → ⊥
not_behind first name x [] below is same = absurd is
not_behind {X = X} first name x (e ∷ es) below is same =
    let (here, rest) = both_true (is_lt (object_cmp first e.0)) (finite_map.Entries.below_all object_cmp first es) below in
    elim is [
      | inl found ↦
          let name_is : name ≡ e.0 = ap (λ (p : ObjName × X). p.0) found in
          not_below_itself (object_cmp first e.0) here (subst (λ (o : ObjName). object_cmp first o ≡ Equal) (same ∙ name_is) (tied_itself object_total first))
      | inr later ↦ not_behind first name x es rest later same
    ]

pub found_in : {X : Type 0} (name : ObjName) (x : X) (es : List (ObjName × X)) → finite_map.find object_cmp name es ≡ Some x → IsIn (name, x) es
found_in name x [] found = cc
found_in {X = X} name x (e ∷ es) found = on (eq_by_cmp object_cmp name e.0) refl found (λ later. found_in name x es later)
  where
    on : (b : Bool) → eq_by_cmp object_cmp name e.0 ≡ b → (if b then Some e.1 else finite_map.find object_cmp name es) ≡ Some x → (finite_map.find object_cmp name es ≡ Some x → IsIn (name, x) es) → IsIn (name, x) (e ∷ es)
    on true tied here rest =
        let names : name ≡ e.0 = tied_is name e.0 tied in
        let values : x ≡ e.1 = cc in
        inl (λ i. (names i, values i))
    on false apart later rest = inr (rest later)

pub in_found : {X : Type 0} (name : ObjName) (x : X) (es : List (ObjName × X)) → T (finite_map.is_sorted object_cmp es) → IsIn (name, x) es → finite_map.find object_cmp name es ≡ Some x
in_found name x [] sorted is = absurd is
in_found {X = X} name x (e ∷ es) sorted is = on (eq_by_cmp object_cmp name e.0) refl is (in_found name x es (second (finite_map.Entries.below_all object_cmp e.0 es) (finite_map.is_sorted object_cmp es) sorted))
  where
    on : (b : Bool) → eq_by_cmp object_cmp name e.0 ≡ b → IsIn (name, x) (e ∷ es) → (IsIn (name, x) es → finite_map.find object_cmp name es ≡ Some x) → (if b then Some e.1 else finite_map.find object_cmp name es) ≡ Some x
    on true tied (inl here) rest = ap (λ (p : ObjName × X). Some p.1) (sym here)
    on true tied (inr later) rest = absurd (not_behind e.0 name x es (front (finite_map.Entries.below_all object_cmp e.0 es) (finite_map.is_sorted object_cmp es) sorted) later (sym (tied_is name e.0 tied)))
    on false apart (inl here) rest = absurd (true≢false (sym (ties name e.0 (ap (λ (p : ObjName × X). p.0) here)) ∙ apart))
    on false apart (inr later) rest = rest later

-- a name in front isn't found behind it
pub not_found_before : {X : Type 0} (first : ObjName) (value : X) (es : List (ObjName × X)) → T (finite_map.is_sorted object_cmp ((first, value) ∷ es)) → ((name : ObjName) → first ≡ name → finite_map.find object_cmp name es ≡ None) × T (finite_map.is_sorted object_cmp es)
not_found_before {X = X} first value es sorted = (λ name same. on name same (finite_map.find object_cmp name es) refl, second (finite_map.Entries.below_all object_cmp first es) (finite_map.is_sorted object_cmp es) sorted)
  where
    on : (name : ObjName) → first ≡ name → (found : Option X) → finite_map.find object_cmp name es ≡ found → found ≡ None
    on name same None is = refl
    on name same (Some x) is = absurd (not_behind first name x es (front (finite_map.Entries.below_all object_cmp first es) (finite_map.is_sorted object_cmp es) sorted) (found_in name x es is) same)

-- ## Places

-- what stands at each name
abbrev pub Places : Type 0
Places = ObjName → Option Placed

abbrev pub placed_after : After → Option Placed
placed_after Gone = None
placed_after NewSchema = None
placed_after (FreshTable parts) = Some (Table 0 parts)
placed_after (KeptTable space parts) = Some (Table space parts)
placed_after (NewView parts) = Some (View parts)
placed_after (KeptView parts) = Some (View parts)

abbrev pub placed_over : Option After → Option Placed → Option Placed
placed_over None before = before
placed_over (Some after) before = placed_after after

-- what stands behind the changes
abbrev pub places_behind : Overlay → Places → Places
places_behind overlay at name = placed_over (finite_map.get overlay name) (at name)

-- what is changed, as it stands then
abbrev pub places_changed : Overlay → Places
places_changed overlay name = placed_over (finite_map.get overlay name) None

-- the list has just what stands at the places
pub record Lists (objects : List (ObjName × Placed)) (at : Places) : Type 0 where
  pub holds : (name : ObjName) (placed : Placed) → IsIn (name, placed) objects → at name ≡ Some placed
  pub all : (name : ObjName) (placed : Placed) → at name ≡ Some placed → IsIn (name, placed) objects

pub lists_entries : (objects : finite_map.FinMap object_cmp Placed) → Lists (finite_map.entries objects) (finite_map.get objects)
lists_entries objects = record {
  holds = λ name placed is. finite_map.get-entries objects name ∙ in_found name placed (finite_map.entries objects) (finite_map.entries_sorted objects) is;
  all = λ name placed got. found_in name placed (finite_map.entries objects) (sym (finite_map.get-entries objects name) ∙ got);
}

-- ## What is changed

placed_in : (name : ObjName) (after : After) (placed : Placed) → placed_after after ≡ Some placed → IsIn (name, placed) (placed_of (name, after))
placed_in name Gone placed is = cc
placed_in name NewSchema placed is = cc
placed_in name (FreshTable parts) placed is = let same : Table 0 parts ≡ placed = cc in inl (λ i. (name, sym same i))
placed_in name (KeptTable space parts) placed is = let same : Table space parts ≡ placed = cc in inl (λ i. (name, sym same i))
placed_in name (NewView parts) placed is = let same : View parts ≡ placed = cc in inl (λ i. (name, sym same i))
placed_in name (KeptView parts) placed is = let same : View parts ≡ placed = cc in inl (λ i. (name, sym same i))

record IsMade (name object : ObjName) (after : After) (placed : Placed) : Type 0 where
  same : object ≡ name
  is : placed_after after ≡ Some placed

made_of : (name object : ObjName) (placed made : Placed) → IsIn {X = ObjName × Placed} (name, placed) ((object, made) ∷ []) → (object ≡ name) × ◌≡◌ {A = Option Placed} (Some made) (Some placed)
made_of name object placed made (inl here) = (ap (λ (p : ObjName × Placed). p.0) (sym here), ap (λ (p : ObjName × Placed). Some p.1) (sym here))
made_of name object placed made (inr none) = absurd none

in_placed : (name object : ObjName) (after : After) (placed : Placed) → IsIn (name, placed) (placed_of (object, after)) → IsMade name object after placed
in_placed name object Gone placed is = absurd is
in_placed name object NewSchema placed is = absurd is
in_placed name object (FreshTable parts) placed is = let (same, made) = made_of name object placed (Table 0 parts) is in record { same = same; is = made }
in_placed name object (KeptTable space parts) placed is = let (same, made) = made_of name object placed (Table space parts) is in record { same = same; is = made }
in_placed name object (NewView parts) placed is = let (same, made) = made_of name object placed (View parts) is in record { same = same; is = made }
in_placed name object (KeptView parts) placed is = let (same, made) = made_of name object placed (View parts) is in record { same = same; is = made }

changed_in : (name : ObjName) (after : After) (placed : Placed) (es : List (ObjName × After)) → placed_after after ≡ Some placed → IsIn (name, after) es → IsIn (name, placed) (flat_map placed_of es)
changed_in name after placed [] made is = absurd is
changed_in name after placed (e ∷ es) made (inl here) =
    in_front (name, placed) (placed_of e) (flat_map placed_of es) (subst (λ (p : ObjName × After). IsIn (name, placed) (placed_of p)) here (placed_in name after placed made))
changed_in name after placed (e ∷ es) made (inr later) = in_back (name, placed) (placed_of e) (flat_map placed_of es) (changed_in name after placed es made later)

in_changed : (name : ObjName) (placed : Placed) (es : List (ObjName × After)) → IsIn (name, placed) (flat_map placed_of es) → (after : After) × IsIn (name, after) es × (placed_after after ≡ Some placed)
in_changed name placed [] is = absurd is
in_changed name placed (e ∷ es) is = elim (in_either (name, placed) (placed_of e) (flat_map placed_of es) is) [
  | inl here ↦ let made : IsMade name e.0 e.1 placed = in_placed name e.0 e.1 placed here in (e.1, inl (λ i. (sym made.same i, e.1)), made.is)
  | inr later ↦ let (after, there, made) = in_changed name placed es later in (after, inr there, made)
]

pub lists_changed : (overlay : Overlay) → Lists (changed_objects overlay) (places_changed overlay)
lists_changed overlay = record {
  holds = λ name placed is.
      let (after, there, made) = in_changed name placed (finite_map.entries overlay) is in
      let got : finite_map.get overlay name ≡ Some after = finite_map.get-entries overlay name ∙ in_found name after (finite_map.entries overlay) (finite_map.entries_sorted overlay) there in
      ap (λ (known : Option After). placed_over known None) got ∙ made;
  all = λ name placed is. on name placed (finite_map.get overlay name) refl is;
}
  where
    on : (name : ObjName) (placed : Placed) (known : Option After) → finite_map.get overlay name ≡ known → placed_over known None ≡ Some placed → IsIn (name, placed) (changed_objects overlay)
    on name placed None got is = cc
    on name placed (Some after) got is = changed_in name after placed (finite_map.entries overlay) is (found_in name after (finite_map.entries overlay) (sym (finite_map.get-entries overlay name) ∙ got))
