-- No number of an SDI is a float.
use Rattle.std.proofs.Common.{◌≡◌, ℕ, false, List, [], ◌∷◌, Option, Some, None, map, refl}
use Rattle.serde_json.specs.Data.{Data, string}
use Rattle.serde_json.specs.View.{items_of}
use Rattle.serde_json.specs.Written.{has_float, items_have_float}
use Rattle.dd_definitions.specs.declared.columns.ColumnDef.{ColumnDef}
use Rattle.dd_definitions.specs.declared.indexes.IndexDef.{IndexDef}
use Rattle.dd_definitions.specs.declared.foreign_keys.ForeignKeyDef.{ForeignKeyDef}
use Rattle.dd_definitions.specs.declared.parts.TableParts.{TableParts}
use Rattle.sdi_text.specs.Values.{default_value, column_value, index_value, foreign_key_value, table_value}

each : {X : Type 0} (value_of : X → Data) → ((x : X) → has_float (value_of x) ≡ false) → (xs : List X) → items_have_float (items_of (map value_of xs)) ≡ false
each value_of none [] = refl
each value_of none (x ∷ xs) = rw (none x) (each value_of none xs)

default : (kept : Option (List ℕ)) → has_float (default_value kept) ≡ false
default None = refl
default (Some text) = refl

column : (c : ColumnDef) → has_float (column_value c) ≡ false
column c = rw (default c.default) refl

names : (ns : List (List ℕ)) → items_have_float (items_of (map string ns)) ≡ false
names ns = each string (λ name. refl) ns

index : (i : IndexDef) → has_float (index_value i) ≡ false
index i = rw (names i.columns) refl

foreign_key : (k : ForeignKeyDef) → has_float (foreign_key_value k) ≡ false
foreign_key k = rw (names k.columns, names k.parent_columns) refl

pub table : (parts : TableParts) (space : ℕ) → has_float (table_value parts space) ≡ false
table parts space = rw (each column_value column parts.columns, each foreign_key_value foreign_key parts.foreign_keys, each index_value index parts.indexes) refl
