-- The tables that stand at keys, beside the objects.
use Rattle.std.specs.Prelude.{◌≡◌, ◌≢◌, true, List}
use Rattle.std.specs.BTreeMap as tree
use Rattle.dd_names.specs.declared.object_name.ObjName.{ObjName}
use Rattle.dd_names.specs.declared.object_name.ObjectKey.{ObjectKey}
use Rattle.dd_definitions.specs.declared.foreign_keys.ForeignKeyDef.{ForeignKeyDef}
use Rattle.dd_catalog.specs.Catalog.{Placed, object_cmp}
use Rattle.dd_index.specs.Keys.{passes, placed_stands, HasKeys}
use Rattle.dd_index.specs.Index.{has, Enters}
use Rattle.dd_index.specs.declared.tables_at.TablesAt.{TablesAt}
use Rattle.plain_catalog.specs.declared.object_map.Shift.{Shift}

-- each object that stands at a key is among the tables of the key
pub record IsIndexed (tables : TablesAt) (objects : tree.BTreeMap ObjName Placed) : Type 0 where
  pub all : (key : ObjectKey) (name : ObjName) → passes (placed_stands key) name (tree.get object_cmp objects name) ≡ true → has tables key name ≡ true

-- the table of that name is among those of its keys, which are the later ones of the shift
pub record IsReady (tables : TablesAt) (shift : Shift) (name : ObjName) (foreign_keys : List ForeignKeyDef) : Type 0 where
  pub named : shift.name ≡ name
  pub keys : HasKeys shift.after name foreign_keys
  pub entered : Enters tables name shift.after.keys

-- all but perhaps this table
pub record KeepsWithout (old new : TablesAt) (name : ObjName) : Type 0 where
  pub keeps : (key : ObjectKey) (other : ObjName) → other ≢ name → has old key other ≡ true → has new key other ≡ true
