-- The value that an SDI is: a table with its tablespace's number. The members of each object are in byte order of their
-- keys.
use Rattle.std.specs.Prelude.{ℕ, List, Option, Some, None, codes, map}
use Rattle.serde_json.specs.Data.{Data, Members, null, boolean, number, unsigned, string, array, object, member, no_members, put}
use Rattle.serde_json.specs.View.{items_of}
use Rattle.dd_names.specs.declared.object_name.ObjName.{ObjName}
use Rattle.dd_definitions.specs.declared.columns.ColumnDef.{ColumnDef}
use Rattle.dd_definitions.specs.declared.indexes.IndexDef.{IndexDef}
use Rattle.dd_definitions.specs.declared.foreign_keys.ForeignKeyDef.{ForeignKeyDef}
use Rattle.dd_definitions.specs.declared.parts.TableParts.{TableParts}
use Rattle.show_text.specs.Columns.{type_text}
use Rattle.show_text.specs.Keys.{rule_name}
use Rattle.sdi_text.specs.Words.{class_word}

-- an array with a value for each item
abbrev pub array_of : {X : Type 0} → (X → Data) → List X → Data
array_of value_of items = array (items_of (map value_of items))

abbrev pub default_value : Option (List ℕ) → Data
default_value None = null
default_value (Some text) = string text

abbrev pub column_members : ColumnDef → Members
column_members column =
    member (codes "auto") (boolean column.auto) (member (codes "default") (default_value column.default)
    (member (codes "name") (string column.name) (member (codes "nullable") (boolean column.nullable)
    (member (codes "type") (string (type_text column.kind)) no_members))))

abbrev pub column_value : ColumnDef → Data
column_value column = object (column_members column)

abbrev pub index_members : IndexDef → Members
index_members index =
    member (codes "columns") (array_of string index.columns) (member (codes "kind") (string (class_word index.class))
    (member (codes "name") (string index.name) no_members))

abbrev pub index_value : IndexDef → Data
index_value index = object (index_members index)

abbrev pub foreign_key_members : ForeignKeyDef → Members
foreign_key_members key =
    member (codes "columns") (array_of string key.columns) (member (codes "name") (string key.name)
    (member (codes "on_delete") (string (rule_name key.on_delete)) (member (codes "on_update") (string (rule_name key.on_update))
    (member (codes "parent_columns") (array_of string key.parent_columns) (member (codes "parent_name") (string key.parent.name)
    (member (codes "parent_schema") (string key.parent.schema) no_members))))))

abbrev pub foreign_key_value : ForeignKeyDef → Data
foreign_key_value key = object (foreign_key_members key)

abbrev pub table_members : TableParts → ℕ → Members
table_members parts space =
    member (codes "columns") (array_of column_value parts.columns) (member (codes "dd_version") (number (unsigned 1))
    (member (codes "foreign_keys") (array_of foreign_key_value parts.foreign_keys) (member (codes "indexes") (array_of index_value parts.indexes)
    (member (codes "name") (string parts.name.name) (member (codes "schema") (string parts.name.schema)
    (member (codes "space") (number (unsigned space)) no_members))))))

abbrev pub table_value : TableParts → ℕ → Data
table_value parts space = object (table_members parts space)

-- ---- for private clauses: some of the members, put among others

abbrev pub front_put : ColumnDef → Members → Members
front_put column old = put (codes "name") (string column.name) (put (codes "default") (default_value column.default) (put (codes "auto") (boolean column.auto) old))

abbrev pub child_put : ForeignKeyDef → Members → Members
child_put key old = put (codes "name") (string key.name) (put (codes "columns") (array_of string key.columns) old)

abbrev pub rules_put : ForeignKeyDef → Members → Members
rules_put key old = put (codes "on_update") (string (rule_name key.on_update)) (put (codes "on_delete") (string (rule_name key.on_delete)) old)

abbrev pub parent_put : ForeignKeyDef → Members → Members
parent_put key old =
    put (codes "parent_schema") (string key.parent.schema) (put (codes "parent_name") (string key.parent.name)
    (put (codes "parent_columns") (array_of string key.parent_columns) old))

abbrev pub lists_put : TableParts → Members → Members
lists_put parts old =
    put (codes "indexes") (array_of index_value parts.indexes) (put (codes "foreign_keys") (array_of foreign_key_value parts.foreign_keys)
    (put (codes "columns") (array_of column_value parts.columns) old))

abbrev pub name_put : ObjName → Members → Members
name_put name old = put (codes "schema") (string name.schema) (put (codes "name") (string name.name) old)
