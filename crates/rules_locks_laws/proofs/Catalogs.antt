-- What changes leave at each key of a catalog.
use Rattle.std.specs.Prelude.{◌≡◌, ◌⊎◌, ℕ, Bool, true, false, cond, ◌&&◌, not, List, [], ◌∷◌, map, filter, Option, Some, None, is_some, if◌then◌else◌, refl}
use Rattle.std.specs.List.{AllByRecursion}
use Rattle.std.specs.FinMap as finite_map
use Rattle.std.specs.Str.{bytes_eq}
use Rattle.std.proofs.Common.{sym, ◌∙◌, ap, subst, inl, inr}
use Rattle.std.proofs.lemmas.Bool.{false_from_ne_true}
use Rattle.std.proofs.lemmas.Cmp.{nat_list_cmp_total}
use Rattle.std.proofs.lemmas.Map.Text.{is_eq-slice_cmp}
use Rattle.dd_names.specs.declared.object_name.ObjName.{ObjName}
use Rattle.dd_names.specs.declared.object_name.ObjectKey.{ObjectKey}
use Rattle.dd_names.specs.declared.object_name.ObjectKey.TheVariants as keys
use Rattle.dd_catalog.specs.Sights.{Sight, Nothing, OwnerThere}
use Rattle.dd_catalog.specs.Catalog.{Catalog, NameSet, Placed, Table, View, object_cmp, is_same_object, refers_to, has_constraint, names_among, children_among, owner_among}
use Rattle.rules_outcome.specs.Choices.{After, Gone, NewSchema, FreshTable, KeptTable, NewView, KeptView, Change, change, applied_at, applied}
use Rattle.dd_catalog.proofs.ObjectNames.{object_total, object_alone, tied_is_same, same_object, object_itself, get_inserted, get_without}
use Rattle.rules_locks.proofs.Places.{bytes_are}
use Rattle.rules_locks_laws.proofs.Entries.{if_passes, same_filter, find_passing}

-- ## Objects behind changes

abbrev pub IsIn : {A : Type 0} → A → List A → Type 0
IsIn x [] = ⊥
IsIn x (y ∷ ys) = (y ≡ x) ⊎ IsIn x ys

-- an object that a change left
abbrev pub left_there : ℕ → After → Option Placed
left_there space Gone = None
left_there space NewSchema = None
left_there space (FreshTable parts) = Some (Table space parts)
left_there space (KeptTable kept parts) = Some (Table kept parts)
left_there space (NewView parts) = Some (View parts)
left_there space (KeptView parts) = Some (View parts)

-- a change at this key left what is found
pub record Left (space : ℕ) (changes : List Change) (name : ObjName) (found : Option Placed) : Type 0 where
  pub after : After
  pub among : IsIn (change (keys.Object name) after) changes
  pub is : found ≡ left_there space after

abbrev OneLeft : ℕ → ObjectKey → After → Catalog → ObjName → Type 0
OneLeft space key after cat name =
    (finite_map.get (applied_at space key after cat).objects name ≡ finite_map.get cat.objects name) ⊎ ((key ≡ keys.Object name) × (finite_map.get (applied_at space key after cat).objects name ≡ left_there space after))

at_key : (object name : ObjName) (new old : Option Placed) (found : Option Placed) → found ≡ cond (is_same_object name object) new old → (found ≡ old) ⊎ ((keys.Object object ≡ keys.Object name) × (found ≡ new))
at_key object name new old found is = on (is_same_object name object) refl is
  where
    on : (b : Bool) → is_same_object name object ≡ b → found ≡ cond b new old → (found ≡ old) ⊎ ((keys.Object object ≡ keys.Object name) × (found ≡ new))
    on true same found_is = inr (ap (λ (o : ObjName). keys.Object o) (sym (same_object name object same)), found_is)
    on false apart found_is = inl found_is

one_left : (space : ℕ) (key : ObjectKey) (after : After) (cat : Catalog) (name : ObjName) → OneLeft space key after cat name
one_left space (keys.Schema schema) Gone cat name = inl refl
one_left space (keys.Schema schema) NewSchema cat name = inl refl
one_left space (keys.Schema schema) (FreshTable parts) cat name = inl refl
one_left space (keys.Schema schema) (KeptTable kept parts) cat name = inl refl
one_left space (keys.Schema schema) (NewView parts) cat name = inl refl
one_left space (keys.Schema schema) (KeptView parts) cat name = inl refl
one_left space (keys.Object object) Gone cat name = at_key object name None (finite_map.get cat.objects name) _ (get_without cat.objects object name)
one_left space (keys.Object object) NewSchema cat name = inl refl
one_left space (keys.Object object) (FreshTable parts) cat name = at_key object name (Some (Table space parts)) (finite_map.get cat.objects name) _ (get_inserted cat.objects object (Table space parts) name)
one_left space (keys.Object object) (KeptTable kept parts) cat name = at_key object name (Some (Table kept parts)) (finite_map.get cat.objects name) _ (get_inserted cat.objects object (Table kept parts) name)
one_left space (keys.Object object) (NewView parts) cat name = at_key object name (Some (View parts)) (finite_map.get cat.objects name) _ (get_inserted cat.objects object (View parts) name)
one_left space (keys.Object object) (KeptView parts) cat name = at_key object name (Some (View parts)) (finite_map.get cat.objects name) _ (get_inserted cat.objects object (View parts) name)
one_left space keys.Schemas after cat name = inl refl
one_left space (keys.Objects schema) after cat name = inl refl
one_left space (keys.Children parent) after cat name = inl refl
one_left space (keys.Constraint schema folded) after cat name = inl refl

pub objects_left : (space : ℕ) (changes : List Change) (cat : Catalog) (name : ObjName)
    → (finite_map.get (applied space changes cat).objects name ≡ finite_map.get cat.objects name) ⊎ Left space changes name (finite_map.get (applied space changes cat).objects name)
objects_left space [] cat name = inl refl
objects_left space (c ∷ changes) cat name = on (objects_left space changes (applied_at space c.key c.after cat) name) (one_left space c.key c.after cat name)
  where
    on : {found : Option Placed} → (found ≡ finite_map.get (applied_at space c.key c.after cat).objects name) ⊎ Left space changes name found → OneLeft space c.key c.after cat name → (found ≡ finite_map.get cat.objects name) ⊎ Left space (c ∷ changes) name found
    on (inr later) one = inr (record { after = later.after; among = inr later.among; is = later.is })
    on (inl same) (inl before) = inl (same ∙ before)
    on (inl same) (inr here) = inr (record { after = c.after; among = inl (λ i. record { key = here.0 i; after = c.after }); is = same ∙ here.1 })

-- ## Schemas behind changes

-- a change at this schema's key is among them
pub record SchemaChanged (changes : List Change) (name : List ℕ) : Type 0 where
  pub after : After
  pub among : IsIn (change (keys.Schema name) after) changes

-- a change at some schema's key is among them
pub record SomeSchema (changes : List Change) : Type 0 where
  pub name : List ℕ
  pub after : After
  pub among : IsIn (change (keys.Schema name) after) changes

not_at : (name schema : List ℕ) (m : NameSet) → bytes_eq name schema ≡ false → finite_map.contains_key (finite_map.insert m schema tt) name ≡ finite_map.contains_key m name
not_at name schema m apart =
    ap is_some (finite_map.get-insert nat_list_cmp_total m schema tt name) ∙ ap (λ b. is_some (cond b (Some tt) (finite_map.get m name))) (is_eq-slice_cmp name schema ∙ apart)

not_gone : (name schema : List ℕ) (m : NameSet) → bytes_eq name schema ≡ false → finite_map.contains_key (finite_map.remove m schema) name ≡ finite_map.contains_key m name
not_gone name schema m apart =
    ap is_some (finite_map.get-remove nat_list_cmp_total m schema name) ∙ ap (λ b. is_some (cond b None (finite_map.get m name))) (is_eq-slice_cmp name schema ∙ apart)

abbrev OneSchema : ℕ → ObjectKey → After → Catalog → List ℕ → Type 0
OneSchema space key after cat name = (finite_map.contains_key (applied_at space key after cat).schemas name ≡ finite_map.contains_key cat.schemas name) ⊎ (key ≡ keys.Schema name)

at_schema : (space : ℕ) (schema : List ℕ) (after : After) (cat : Catalog) (name : List ℕ) (b : Bool) → bytes_eq name schema ≡ b → OneSchema space (keys.Schema schema) after cat name
at_schema space schema after cat name true same = inr (ap (λ (n : List ℕ). keys.Schema n) (sym (bytes_are name schema same)))
at_schema space schema Gone cat name false apart = inl (not_gone name schema cat.schemas apart)
at_schema space schema NewSchema cat name false apart = inl (not_at name schema cat.schemas apart)
at_schema space schema (FreshTable parts) cat name false apart = inl (not_at name schema cat.schemas apart)
at_schema space schema (KeptTable kept parts) cat name false apart = inl (not_at name schema cat.schemas apart)
at_schema space schema (NewView parts) cat name false apart = inl (not_at name schema cat.schemas apart)
at_schema space schema (KeptView parts) cat name false apart = inl (not_at name schema cat.schemas apart)

same_schemas : (space : ℕ) (object : ObjName) (after : After) (cat : Catalog) → (applied_at space (keys.Object object) after cat).schemas ≡ cat.schemas
same_schemas space object Gone cat = refl
same_schemas space object NewSchema cat = refl
same_schemas space object (FreshTable parts) cat = refl
same_schemas space object (KeptTable kept parts) cat = refl
same_schemas space object (NewView parts) cat = refl
same_schemas space object (KeptView parts) cat = refl

one_schema : (space : ℕ) (key : ObjectKey) (after : After) (cat : Catalog) (name : List ℕ) → OneSchema space key after cat name
one_schema space (keys.Schema schema) after cat name = at_schema space schema after cat name (bytes_eq name schema) refl
one_schema space (keys.Object object) after cat name = inl (ap (λ (m : NameSet). finite_map.contains_key m name) (same_schemas space object after cat))
one_schema space keys.Schemas after cat name = inl refl
one_schema space (keys.Objects schema) after cat name = inl refl
one_schema space (keys.Children parent) after cat name = inl refl
one_schema space (keys.Constraint schema folded) after cat name = inl refl

pub schema_left : (space : ℕ) (changes : List Change) (cat : Catalog) (name : List ℕ)
    → (finite_map.contains_key (applied space changes cat).schemas name ≡ finite_map.contains_key cat.schemas name) ⊎ SchemaChanged changes name
schema_left space [] cat name = inl refl
schema_left space (c ∷ changes) cat name = on (schema_left space changes (applied_at space c.key c.after cat) name) (one_schema space c.key c.after cat name)
  where
    on : {found : Bool} → (found ≡ finite_map.contains_key (applied_at space c.key c.after cat).schemas name) ⊎ SchemaChanged changes name → OneSchema space c.key c.after cat name → (found ≡ finite_map.contains_key cat.schemas name) ⊎ SchemaChanged (c ∷ changes) name
    on (inr later) one = inr (record { after = later.after; among = inr later.among })
    on (inl same) (inl before) = inl (same ∙ before)
    on (inl same) (inr here) = inr (record { after = c.after; among = inl (λ i. record { key = here i; after = c.after }) })

abbrev AllSame : ℕ → ObjectKey → After → Catalog → Type 0
AllSame space key after cat = ((applied_at space key after cat).schemas ≡ cat.schemas) ⊎ ((name : List ℕ) × (key ≡ keys.Schema name))

all_same : (space : ℕ) (key : ObjectKey) (after : After) (cat : Catalog) → AllSame space key after cat
all_same space (keys.Schema schema) after cat = inr (schema, refl)
all_same space (keys.Object object) after cat = inl (same_schemas space object after cat)
all_same space keys.Schemas after cat = inl refl
all_same space (keys.Objects schema) after cat = inl refl
all_same space (keys.Children parent) after cat = inl refl
all_same space (keys.Constraint schema folded) after cat = inl refl

pub schemas_left : (space : ℕ) (changes : List Change) (cat : Catalog) → ((applied space changes cat).schemas ≡ cat.schemas) ⊎ SomeSchema changes
schemas_left space [] cat = inl refl
schemas_left space (c ∷ changes) cat = on (schemas_left space changes (applied_at space c.key c.after cat)) (all_same space c.key c.after cat)
  where
    on : {found : NameSet} → (found ≡ (applied_at space c.key c.after cat).schemas) ⊎ SomeSchema changes → AllSame space c.key c.after cat → (found ≡ cat.schemas) ⊎ SomeSchema (c ∷ changes)
    on (inr later) one = inr (record { name = later.name; after = later.after; among = inr later.among })
    on (inl same) (inl before) = inl (same ∙ before)
    on (inl same) (inr here) = inr (record { name = here.0; after = c.after; among = inl (λ i. record { key = here.1 i; after = c.after }) })

-- ## Lists of objects

abbrev Entry : Type 0
Entry = ObjName × Placed

abbrev pub is_child_of : ObjName → Entry → Bool
is_child_of parent e = refers_to parent e.1 && not (is_same_object e.0 parent)

abbrev pub is_in_schema : List ℕ → Entry → Bool
is_in_schema schema e = bytes_eq e.0.schema schema

abbrev pub is_owner : List ℕ → List ℕ → Entry → Bool
is_owner schema folded e = bytes_eq e.0.schema schema && has_constraint folded e.1

pub children_are : (parent : ObjName) (es : List Entry) → children_among parent es ≡ map (λ (e : Entry). e.0) (filter (is_child_of parent) es)
children_are parent [] = refl
children_are parent (e ∷ es) = on (is_child_of parent e) (children_are parent es)
  where
    on : (b : Bool) → children_among parent es ≡ map (λ (e : Entry). e.0) (filter (is_child_of parent) es)
        → (if b then e.0 ∷ children_among parent es else children_among parent es) ≡ map (λ (e : Entry). e.0) (cond b (e ∷ filter (is_child_of parent) es) (filter (is_child_of parent) es))
    on true rest = ap (λ l. e.0 ∷ l) rest
    on false rest = rest

pub names_are : (schema : List ℕ) (es : List Entry) → names_among schema es ≡ map (λ (e : Entry). e.0.name) (filter (is_in_schema schema) es)
names_are schema [] = refl
names_are schema (e ∷ es) = on (is_in_schema schema e) (names_are schema es)
  where
    on : (b : Bool) → names_among schema es ≡ map (λ (e : Entry). e.0.name) (filter (is_in_schema schema) es)
        → (if b then e.0.name ∷ names_among schema es else names_among schema es) ≡ map (λ (e : Entry). e.0.name) (cond b (e ∷ filter (is_in_schema schema) es) (filter (is_in_schema schema) es))
    on true rest = ap (λ l. e.0.name ∷ l) rest
    on false rest = rest

abbrev pub first_owner : List Entry → Sight
first_owner [] = Nothing
first_owner (e ∷ es) = OwnerThere e.0

pub owner_is : (schema folded : List ℕ) (es : List Entry) → owner_among schema folded es ≡ first_owner (filter (is_owner schema folded) es)
owner_is schema folded [] = refl
owner_is schema folded (e ∷ es) = on (is_owner schema folded e) (owner_is schema folded es)
  where
    on : (b : Bool) → owner_among schema folded es ≡ first_owner (filter (is_owner schema folded) es)
        → (if b then OwnerThere e.0 else owner_among schema folded es) ≡ first_owner (cond b (e ∷ filter (is_owner schema folded) es) (filter (is_owner schema folded) es))
    on true rest = refl
    on false rest = rest

-- nothing that passes is found
abbrev pub IsOut : (Entry → Bool) → ObjName → Option Placed → Type 0
IsOut test name found = if_passes object_cmp test name found ≡ None

-- where what changed neither passed nor passes the test, the same entries pass
pub same_entries_pass : (test : Entry → Bool) (space : ℕ) (changes : List Change) (cat : Catalog)
    → ((name : ObjName) → Left space changes name (finite_map.get (applied space changes cat).objects name) → IsOut test name (finite_map.get cat.objects name) × IsOut test name (finite_map.get (applied space changes cat).objects name))
    → filter test (finite_map.entries (applied space changes cat).objects) ≡ filter test (finite_map.entries cat.objects)
same_entries_pass test space changes cat out =
    same_filter object_cmp object_alone object_total test (applied space changes cat).objects cat.objects (λ name. on name (objects_left space changes cat name))
  where
    on : (name : ObjName) → (finite_map.get (applied space changes cat).objects name ≡ finite_map.get cat.objects name) ⊎ Left space changes name (finite_map.get (applied space changes cat).objects name)
        → if_passes object_cmp test name (finite_map.get (applied space changes cat).objects name) ≡ if_passes object_cmp test name (finite_map.get cat.objects name)
    on name (inl same) = ap (if_passes object_cmp test name) same
    on name (inr left) = let (before, behind) = out name left in behind ∙ sym before

-- ## Single entries that pass

-- nothing is out that doesn't pass
pub out_where : (test : Entry → Bool) (name : ObjName) (found : Option Placed) → ((v : Placed) → found ≡ Some v → test (name, v) ≡ true → ⊥) → IsOut test name found
out_where test name None fails = refl
out_where test name (Some v) fails = ap (λ b. cond b (Some v) None) (false_from_ne_true (test (name, v)) (λ passes. fails v refl passes))

-- an entry that passes is found among those that do
pub found_passing : (test : Entry → Bool) (cat : Catalog) (name : ObjName) (v : Placed) → finite_map.get cat.objects name ≡ Some v → test (name, v) ≡ true
    → finite_map.find object_cmp name (filter test (finite_map.entries cat.objects)) ≡ Some v
found_passing test cat name v is passes =
    find_passing object_cmp object_alone test cat.objects name ∙ ap (if_passes object_cmp test name) is ∙ ap (λ b. cond b (Some v) None) passes

-- what holds of each entry's name holds of what is found
pub found_in : (P : ObjName → Type 0) (name : ObjName) (v : Placed) (es : List Entry) → finite_map.find object_cmp name es ≡ Some v → AllByRecursion P (map (λ (e : Entry). e.0) es) → P name
found_in P name v [] is all = cc
found_in P name v (e ∷ es) is all = on (is_same_object name e.0) refl (sym (ap (λ b. cond b (Some e.1) (finite_map.find object_cmp name es)) (tied_is_same name e.0)) ∙ is) (λ later. found_in P name v es later all.1)
  where
    on : (b : Bool) → is_same_object name e.0 ≡ b → cond b (Some e.1) (finite_map.find object_cmp name es) ≡ Some v → (finite_map.find object_cmp name es ≡ Some v → P name) → P name
    on true same found later = subst P (sym (same_object name e.0 same)) all.0
    on false apart found later = later found

-- the first entry that passes is in the catalog, and passes
pub record FirstPasses (test : Entry → Bool) (cat : Catalog) (e : Entry) : Type 0 where
  pub there : finite_map.get cat.objects e.0 ≡ Some e.1
  pub passes : test e ≡ true

pub first_passes : (test : Entry → Bool) (cat : Catalog) (e : Entry) (es : List Entry) → filter test (finite_map.entries cat.objects) ≡ e ∷ es → FirstPasses test cat e
first_passes test cat e es is = on (finite_map.get cat.objects e.0) refl found
  where
    found : if_passes object_cmp test e.0 (finite_map.get cat.objects e.0) ≡ Some e.1
    found =
        sym (find_passing object_cmp object_alone test cat.objects e.0) ∙ ap (finite_map.find object_cmp e.0) is
        ∙ ap (λ b. cond b (Some e.1) (finite_map.find object_cmp e.0 es)) (tied_is_same e.0 e.0 ∙ object_itself e.0)

    passed : (b : Bool) (v : Placed) → test (e.0, v) ≡ b → finite_map.get cat.objects e.0 ≡ Some v → cond b (Some v) None ≡ Some e.1 → FirstPasses test cat e
    passed true v passes there found_is =
        let same : v ≡ e.1 = cc in
        record { there = there ∙ ap Some same; passes = sym (ap (λ (w : Placed). test (e.0, w)) same) ∙ passes }
    passed false v passes there found_is = cc

    on : (o : Option Placed) → finite_map.get cat.objects e.0 ≡ o → if_passes object_cmp test e.0 o ≡ Some e.1 → FirstPasses test cat e
    on None there found_is = cc
    on (Some v) there found_is = passed (test (e.0, v)) v refl there found_is
