-- The tables that are kept under each key.
use Rattle.std.specs.Prelude.{◌≡◌, Bool, true, false, List, Option, Some, None}
use Rattle.std.specs.List.{list_any}
use Rattle.std.specs.BTreeMap as tree
use Rattle.std.specs.BTreeSet as sorted
use Rattle.dd_names.specs.declared.object_name.ObjName.{ObjName}
use Rattle.dd_names.specs.declared.object_name.ObjectKey.{ObjectKey}
use Rattle.dd_catalog.specs.Catalog.{object_cmp}
use Rattle.dd_index.specs.Keys.{key_cmp, passes}
use Rattle.dd_index.specs.declared.tables_at.TablesAt.{TablesAt}

abbrev pub has_name : ObjName → Option (sorted.BTreeSet ObjName) → Bool
has_name table None = false
has_name table (Some tables) = sorted.contains object_cmp tables table

-- the table is among those of the key
abbrev pub has : TablesAt → ObjectKey → ObjName → Bool
has index key table = has_name table (tree.get key_cmp index.tables key)

pub record HasNone (index : TablesAt) : Type 0 where
  pub none : (key : ObjectKey) (table : ObjName) → has index key table ≡ false

pub record KeepsAll (old new : TablesAt) : Type 0 where
  pub keeps : (key : ObjectKey) (table : ObjName) → has old key table ≡ true → has new key table ≡ true

-- all but perhaps this table at this key
pub record KeepsOthers (old new : TablesAt) (key : ObjectKey) (table : ObjName) : Type 0 where
  pub keeps : (k : ObjectKey) (t : ObjName) → ((k ≡ key) × (t ≡ table) → ⊥) → has old k t ≡ true → has new k t ≡ true

-- all but perhaps this table at other keys
pub record KeepsBut (old new : TablesAt) (table : ObjName) (keys : sorted.BTreeSet ObjectKey) : Type 0 where
  pub keeps : (k : ObjectKey) (t : ObjName) → (t ≡ table → sorted.contains key_cmp keys k ≡ true) → has old k t ≡ true → has new k t ≡ true

-- the table is among those of these keys
pub record Enters (index : TablesAt) (table : ObjName) (keys : List ObjectKey) : Type 0 where
  pub all : (key : ObjectKey) → list_any (tree.is_at (key_cmp key)) keys ≡ true → has index key table ≡ true

-- each object that stands at a key is among those of the key
pub record Covers {X : Type 0} (index : TablesAt) (test : ObjectKey → ObjName → X → Bool) (at : ObjName → Option X) : Type 0 where
  pub all : (key : ObjectKey) (name : ObjName) → passes (test key) name (at name) ≡ true → has index key name ≡ true
