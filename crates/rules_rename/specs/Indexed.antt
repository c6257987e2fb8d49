-- The maps in which the changes are kept: what is left at each name, and under the keys of children and of constraints the
-- tables among which those are that stand there.
use Rattle.std.specs.Prelude.{◌≡◌, Bool, List, [], ◌∷◌}
use Rattle.std.specs.BTreeMap as tree
use Rattle.dd_names.specs.declared.object_name.ObjName.{ObjName}
use Rattle.dd_names.specs.declared.object_name.ObjectKey.{ObjectKey}
use Rattle.dd_definitions.specs.declared.foreign_keys.ForeignKeyDef.{ForeignKeyDef}
use Rattle.dd_catalog.specs.declared.object.Object.{Object}
use Rattle.dd_catalog.specs.Catalog.{object_cmp}
use Rattle.dd_catalog.specs.Sights.{Sight, Nothing, OwnerThere}
use Rattle.dd_index.specs.Keys.{stands, names_where, HasKeys}
use Rattle.dd_index.specs.Index.{Covers, Enters}
use Rattle.dd_index.specs.declared.tables_at.TablesAt.{TablesAt}
use Rattle.rules_rename.specs.Left.{keys_left}
use Rattle.rules_rename.specs.Puts.{Put}
use Rattle.rules_rename.specs.declared.overlay.Shift.{Shift}

-- what is left at the name stands at the key
abbrev pub left_stands : ObjectKey → ObjName → Object → Bool
left_stands key name object = stands key name (keys_left object)

-- the changed tables that stand at the key
abbrev pub standing : ObjectKey → List Put → List ObjName
standing key puts = names_where (left_stands key) puts

-- each changed table that stands at a key is among the tables of the key
abbrev pub IsIndexed : TablesAt → tree.BTreeMap ObjName Object → Type 0
IsIndexed tables left = Covers tables left_stands (λ name. tree.get object_cmp left name)

-- the table of that name is among those of its keys, which are the later ones of the shift
pub record IsReady (tables : TablesAt) (shift : Shift) (name : ObjName) (foreign_keys : List ForeignKeyDef) : Type 0 where
  pub named : shift.name ≡ name
  pub keys : HasKeys shift.after name foreign_keys
  pub entered : Enters tables name shift.after.keys

abbrev pub first_owner : List ObjName → Sight
first_owner [] = Nothing
first_owner (table ∷ tables) = OwnerThere table
