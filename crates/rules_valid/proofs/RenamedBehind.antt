-- What stands behind more changes, and in the catalog that the changes make.
use Rattle.std.specs.Prelude.{◌≡◌, ◌⊎◌, ℕ, Bool, true, false, List, [], ◌∷◌, Option, Some, None, if◌then◌else◌, refl}
use Rattle.std.specs.FinMap as finite_map
use Rattle.std.specs.List.{AllByRecursion}
use Rattle.std.specs.Ordering.{eq_by_cmp}
use Rattle.std.specs.declared.cmp.Ordering.{Ordering}
use Rattle.std.specs.declared.cmp.Ordering.TheVariants.{Less, Equal, Greater}
use Rattle.std.proofs.Common.{sym, ◌∙◌, ap, subst, inl, inr, T}
use Rattle.std.proofs.lemmas.List.{nil_from_length}
use Rattle.dd_names.specs.declared.object_name.ObjName.{ObjName}
use Rattle.dd_names.specs.declared.object_name.ObjectKey.TheVariants as keys
use Rattle.dd_catalog.specs.Catalog.{Catalog, Placed, Table, View, object_cmp}
use Rattle.dd_catalog.proofs.ObjectNames.{object_total}
use Rattle.rules_outcome.specs.Choices.{After, Gone, NewSchema, FreshTable, KeptTable, NewView, KeptView, applied_at, applied}
use Rattle.rules_rename.specs.Overlays.{Overlay, put_change, with_changes, changes_in}
use Rattle.rules_valid.proofs.RenamedLists.{IsIn}
use Rattle.rules_valid.proofs.RenamedNames.{ties, tied_is, not_tied, same_or_not}
use Rattle.rules_valid.proofs.RenamedPlaces.{Places, placed_after, placed_over, places_behind, not_found_before}

-- ## More changes

-- behind one more change
pub behind_here : (overlay : Overlay) (at : Places) (object : ObjName) (change : After) (name : ObjName) → name ≡ object → places_behind (put_change overlay (object, change)) at name ≡ placed_after change
behind_here overlay at object change name same = ap (λ (known : Option After). placed_over known (at name)) (finite_map.get-insert object_total overlay object change name ∙ ap (λ b. if b then Some change else finite_map.get overlay name) (ties name object same))

pub behind_else : (overlay : Overlay) (at : Places) (object : ObjName) (change : After) (name : ObjName) → (name ≡ object → ⊥) → places_behind (put_change overlay (object, change)) at name ≡ places_behind overlay at name
behind_else overlay at object change name apart = ap (λ (known : Option After). placed_over known (at name)) (finite_map.get-insert object_total overlay object change name ∙ ap (λ b. if b then Some change else finite_map.get overlay name) (not_tied name object apart))

-- the names that are changed
abbrev pub names_of : List (ObjName × After) → List ObjName
names_of [] = []
names_of (c ∷ changes) = c.0 ∷ names_of changes

-- where each change makes what is to stand there, and what isn't changed stands there already, all stands there behind them
pub behind_all : (Q : ObjName → Option Placed → Type 0) (at : Places) (overlay : Overlay) (changes : List (ObjName × After)) → ((name : ObjName) → Q name (places_behind overlay at name) ⊎ IsIn name (names_of changes))
    → AllByRecursion (λ (c : ObjName × After). Q c.0 (placed_after c.1)) changes → (name : ObjName) → Q name (places_behind (with_changes overlay changes) at name)
behind_all Q at overlay [] before all name = elim (before name) [ inl stands ↦ stands | inr none ↦ absurd none ]
behind_all Q at overlay (c ∷ changes) before all name = behind_all Q at (put_change overlay c) changes next all.1 name
  where
    next : (o : ObjName) → Q o (places_behind (put_change overlay c) at o) ⊎ IsIn o (names_of changes)
    next o = elim (same_or_not o c.0) [
      | inl same ↦ inl (subst (Q o) (sym (behind_here overlay at c.0 c.1 o same)) (subst (λ (p : ObjName). Q p (placed_after c.1)) (sym same) all.0))
      | inr apart ↦ elim (before o) [
        | inl stands ↦ inl (subst (Q o) (sym (behind_else overlay at c.0 c.1 o apart)) stands)
        | inr changed ↦ elim changed [ inl here ↦ absurd (apart here) | inr later ↦ inr later ]
      ]
    ]

-- ## Changes that a renaming makes

-- no tablespace is made
abbrev pub IsKeeping : After → Type 0
IsKeeping Gone = Unit {0}
IsKeeping NewSchema = ⊥
IsKeeping (FreshTable parts) = ⊥
IsKeeping (KeptTable space parts) = Unit {0}
IsKeeping (NewView parts) = Unit {0}
IsKeeping (KeptView parts) = Unit {0}

abbrev pub AreKeeping : List (ObjName × After) → Type 0
AreKeeping changes = AllByRecursion (λ (c : ObjName × After). IsKeeping c.1) changes

pub record KeepsSpaces (overlay : Overlay) : Type 0 where
  pub all : AllByRecursion (λ (c : ObjName × After). IsKeeping c.1) (finite_map.entries overlay)

abbrev no_changes : Overlay
no_changes = finite_map.empty

pub none_keeps : KeepsSpaces finite_map.empty
none_keeps =
    let none : finite_map.entries no_changes ≡ [] = nil_from_length (finite_map.entries no_changes) (sym (finite_map.len-entries no_changes) ∙ finite_map.len-empty object_cmp After) in
    record { all = subst AreKeeping (sym none) tt }

put_keeps : (object : ObjName) (change : After) (entries : List (ObjName × After)) → IsKeeping change → AreKeeping entries → AreKeeping (finite_map.put object_cmp object change entries)
put_keeps object change [] here all = (here, tt)
put_keeps object change (e ∷ es) here all = on (object_cmp object e.0) (put_keeps object change es here all.1)
  where
    on : (r : Ordering) → AreKeeping (finite_map.put object_cmp object change es) → AreKeeping (finite_map.Entries.by_order r ((object, change) ∷ e ∷ es) ((e.0, change) ∷ es) (e ∷ finite_map.put object_cmp object change es))
    on Less rest = (here, all)
    on Equal rest = (here, all.1)
    on Greater rest = (all.0, rest)

pub more_keep : (overlay : Overlay) (changes : List (ObjName × After)) → KeepsSpaces overlay → AllByRecursion (λ (c : ObjName × After). IsKeeping c.1) changes → KeepsSpaces (with_changes overlay changes)
more_keep overlay [] keeps all = keeps
more_keep overlay (c ∷ changes) keeps all =
    more_keep (put_change overlay c) changes (record { all = subst AreKeeping (sym (finite_map.entries-insert object_total overlay c.0 c.1)) (put_keeps c.0 c.1 (finite_map.entries overlay) all.0 keeps.all) }) all.1

-- ## The catalog that they make

applied_schemas : (space : ℕ) (name : ObjName) (change : After) (cat : Catalog) → (applied_at space (keys.Object name) change cat).schemas ≡ cat.schemas
applied_schemas space name Gone cat = refl
applied_schemas space name NewSchema cat = refl
applied_schemas space name (FreshTable parts) cat = refl
applied_schemas space name (KeptTable kept parts) cat = refl
applied_schemas space name (NewView parts) cat = refl
applied_schemas space name (KeptView parts) cat = refl

pub all_schemas : (space : ℕ) (es : List (ObjName × After)) (cat : Catalog) → (applied space (changes_in es) cat).schemas ≡ cat.schemas
all_schemas space [] cat = refl
all_schemas space (e ∷ es) cat = all_schemas space es (applied_at space (keys.Object e.0) e.1 cat) ∙ applied_schemas space e.0 e.1 cat

applied_one : (space : ℕ) (object : ObjName) (change : After) (cat : Catalog) (name : ObjName) → IsKeeping change
    → finite_map.get (applied_at space (keys.Object object) change cat).objects name ≡ (if eq_by_cmp object_cmp name object then placed_after change else finite_map.get cat.objects name)
applied_one space object Gone cat name keeping = finite_map.get-remove object_total cat.objects object name
applied_one space object NewSchema cat name keeping = absurd keeping
applied_one space object (FreshTable parts) cat name keeping = absurd keeping
applied_one space object (KeptTable kept parts) cat name keeping = finite_map.get-insert object_total cat.objects object (Table kept parts) name
applied_one space object (NewView parts) cat name keeping = finite_map.get-insert object_total cat.objects object (View parts) name
applied_one space object (KeptView parts) cat name keeping = finite_map.get-insert object_total cat.objects object (View parts) name

pub all_applied : (space : ℕ) (es : List (ObjName × After)) (cat : Catalog) (name : ObjName) → T (finite_map.is_sorted object_cmp es) → AreKeeping es
    → finite_map.get (applied space (changes_in es) cat).objects name ≡ placed_over (finite_map.find object_cmp name es) (finite_map.get cat.objects name)
all_applied space [] cat name sorted keeping = refl
all_applied space (e ∷ es) cat name sorted keeping =
    let (first, rest) = not_found_before e.0 e.1 es sorted in
    all_applied space es (applied_at space (keys.Object e.0) e.1 cat) name rest keeping.1
    ∙ ap (placed_over (finite_map.find object_cmp name es)) (applied_one space e.0 e.1 cat name keeping.0)
    ∙ on (eq_by_cmp object_cmp name e.0) refl (first name)
  where
    on : (b : Bool) → eq_by_cmp object_cmp name e.0 ≡ b → (e.0 ≡ name → finite_map.find object_cmp name es ≡ None)
        → placed_over (finite_map.find object_cmp name es) (if b then placed_after e.1 else finite_map.get cat.objects name) ≡ placed_over (if b then Some e.1 else finite_map.find object_cmp name es) (finite_map.get cat.objects name)
    on true tied none = ap (λ (known : Option After). placed_over known (placed_after e.1)) (none (sym (tied_is name e.0 tied)))
    on false apart none = refl

-- the catalog behind the changes has what stands behind them
pub catalog_places : (space : ℕ) (overlay : Overlay) (cat : Catalog) (name : ObjName) → KeepsSpaces overlay
    → finite_map.get (applied space (changes_in (finite_map.entries overlay)) cat).objects name ≡ places_behind overlay (finite_map.get cat.objects) name
catalog_places space overlay cat name keeps =
    all_applied space (finite_map.entries overlay) cat name (finite_map.entries_sorted overlay) keeps.all
    ∙ ap (λ (known : Option After). placed_over known (finite_map.get cat.objects name)) (sym (finite_map.get-entries overlay name))
