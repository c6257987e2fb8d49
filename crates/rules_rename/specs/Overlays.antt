-- What stands at each key behind changes to some objects, though the look-up shows what stood before them.
use Rattle.std.specs.Prelude.{ℕ, Bool, ◌&&◌, not, List, [], ◌∷◌, ◌++◌, filter, Option, Some, None, if◌then◌else◌, is_some}
use Rattle.std.specs.FinMap as finite_map
use Rattle.std.specs.Ordering.{is_le}
use Rattle.std.specs.List.{flat_map}
use Rattle.dd_names.specs.declared.object_name.ObjName.{ObjName}
use Rattle.dd_names.specs.declared.object_name.ObjectKey.{ObjectKey}
use Rattle.dd_names.specs.declared.object_name.ObjectKey.TheVariants as keys
use Rattle.dd_catalog.specs.Sights.{Sight, Nothing, TableThere, ViewThere, ChildrenThere, OwnerThere}
use Rattle.dd_catalog.specs.Walks.{Walk, done, refuse, ask}
use Rattle.dd_catalog.specs.Catalog.{Placed, Table, View, object_cmp, children_among, owner_among}
use Rattle.rules_outcome.specs.Choices.{After, Gone, NewSchema, FreshTable, KeptTable, NewView, KeptView, Change, change}
use Rattle.rules_schema.specs.Drops.{children_seen}

-- the objects that are changed, each with what it is then
abbrev pub Overlay : Type 0
Overlay = finite_map.FinMap object_cmp After

abbrev pub is_changed : Overlay → ObjName → Bool
is_changed overlay object = finite_map.contains_key overlay object

-- an object behind its change; a table with a new tablespace has no space yet
abbrev pub placed_of : ObjName × After → List (ObjName × Placed)
placed_of (object, Gone) = []
placed_of (object, NewSchema) = []
placed_of (object, FreshTable parts) = (object, Table 0 parts) ∷ []
placed_of (object, KeptTable space parts) = (object, Table space parts) ∷ []
placed_of (object, NewView parts) = (object, View parts) ∷ []
placed_of (object, KeptView parts) = (object, View parts) ∷ []

-- the changed objects that are there
abbrev pub changed_objects : Overlay → List (ObjName × Placed)
changed_objects overlay = flat_map placed_of (finite_map.entries overlay)

abbrev pub after_seen : After → Sight
after_seen Gone = Nothing
after_seen NewSchema = Nothing
after_seen (FreshTable parts) = TableThere 0 parts
after_seen (KeptTable space parts) = TableThere space parts
after_seen (NewView parts) = ViewThere parts
after_seen (KeptView parts) = ViewThere parts

abbrev pub object_behind : Option After → Sight → Sight
object_behind None seen = seen
object_behind (Some after) seen = after_seen after

-- in the order of names
abbrev pub put_name : ObjName → List ObjName → List ObjName
put_name object [] = object ∷ []
put_name object (next ∷ objects) = if is_le (object_cmp next object) then next ∷ put_name object objects else object ∷ next ∷ objects

abbrev pub put_names : List ObjName → List ObjName → List ObjName
put_names [] objects = objects
put_names (object ∷ more) objects = put_name object (put_names more objects)

-- the children among what is changed, and those that aren't changed
abbrev pub children_behind : Overlay → ObjName → List ObjName → List ObjName
children_behind overlay parent before = put_names (children_among parent (changed_objects overlay)) (filter (λ child. not (is_changed overlay child)) before)

abbrev pub owner_before : Overlay → Sight → Sight
owner_before overlay (OwnerThere owner) = if is_changed overlay owner then Nothing else OwnerThere owner
owner_before overlay seen = seen

abbrev pub or_before : Sight → Sight → Sight
or_before Nothing before = before
or_before owner before = owner

-- the owner among what is changed, or else one that isn't changed
abbrev pub owner_behind : Overlay → List ℕ → List ℕ → Sight → Sight
owner_behind overlay schema folded seen = or_before (owner_among schema folded (changed_objects overlay)) (owner_before overlay seen)

-- what stands at a key of an object, of children or of a constraint behind the changes, where `seen` stood before
unfoldable pub seen_behind : Overlay → ObjectKey → Sight → Sight
seen_behind overlay (keys.Object name) seen = object_behind (finite_map.get overlay name) seen
seen_behind overlay (keys.Children parent) seen = ChildrenThere (children_behind overlay parent (children_seen seen))
seen_behind overlay (keys.Constraint schema folded) seen = owner_behind overlay schema folded seen
seen_behind overlay key seen = seen

-- a check that sees what stands behind the changes
abbrev pub behind_changes : {E A : Type 0} → Overlay → Walk E A → Walk E A
behind_changes overlay (done x) = done x
behind_changes overlay (refuse e) = refuse e
behind_changes overlay (ask key go) = ask key (λ seen. behind_changes overlay (go (seen_behind overlay key seen)))

abbrev pub put_change : Overlay → ObjName × After → Overlay
put_change overlay (object, after) = finite_map.insert overlay object after

abbrev pub with_changes : Overlay → List (ObjName × After) → Overlay
with_changes overlay [] = overlay
with_changes overlay (c ∷ changes) = with_changes (put_change overlay c) changes

-- the changes in the order of names, one a name
abbrev pub changes_in : List (ObjName × After) → List Change
changes_in [] = []
changes_in (c ∷ changes) = change (keys.Object c.0) c.1 ∷ changes_in changes
