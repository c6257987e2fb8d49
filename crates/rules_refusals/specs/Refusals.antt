-- The refusals of statements, each named by the symbol of its error in the server, with the arguments of its text.
use Rattle.std.specs.Prelude.{ℕ, List, [], ◌∷◌, codes}
use Prim.Native.String.{String}
use Rattle.dd_names.specs.declared.object_name.ObjName.{ObjName}
use Rattle.dd_errors.specs.Errors.{ErrorValue}

abbrev pub error_with : ℕ → List (List ℕ) → ErrorValue
error_with number args = record { number = number; args = args }

-- ---- schemas

abbrev pub db_create_exists : List ℕ → ErrorValue
db_create_exists schema = error_with 1007 (schema ∷ [])

abbrev pub db_drop_exists : List ℕ → ErrorValue
db_drop_exists schema = error_with 1008 (schema ∷ [])

abbrev pub no_db : ErrorValue
no_db = error_with 1046 []

abbrev pub bad_db : List ℕ → ErrorValue
bad_db schema = error_with 1049 (schema ∷ [])

-- ---- tables and views

abbrev pub table_exists : List ℕ → ErrorValue
table_exists name = error_with 1050 (name ∷ [])

-- the names of all tables that aren't there
abbrev pub bad_table : List ℕ → ErrorValue
bad_table names = error_with 1051 (names ∷ [])

abbrev pub nonuniq_table : List ℕ → ErrorValue
nonuniq_table name = error_with 1066 (name ∷ [])

abbrev pub no_such_table : ObjName → ErrorValue
no_such_table name = error_with 1146 (name.schema ∷ name.name ∷ [])

-- the schema, the name, and what it isn't
abbrev pub wrong_object : ObjName → List ℕ → ErrorValue
wrong_object name wanted = error_with 1347 (name.schema ∷ name.name ∷ wanted ∷ [])

abbrev pub forbid_schema_change : List ℕ → List ℕ → ErrorValue
forbid_schema_change from to = error_with 1450 (from ∷ to ∷ [])

-- the child table, and its constraint
abbrev pub truncate_illegal_fk : ObjName → List ℕ → ErrorValue
truncate_illegal_fk child constraint = error_with 1701 (child.schema ∷ child.name ∷ constraint ∷ [])

-- ---- queries and views

abbrev pub non_uniq_error : List ℕ → ErrorValue
non_uniq_error column = error_with 1052 (column ∷ [])

-- a table of the information schema
abbrev pub unknown_table : List ℕ → ErrorValue
unknown_table name = error_with 1109 (name ∷ [])

abbrev pub view_wrong_list : ErrorValue
view_wrong_list = error_with 1353 []

abbrev pub view_invalid : ObjName → ErrorValue
view_invalid name = error_with 1356 (name.schema ∷ name.name ∷ [])

-- ---- columns

-- the column, and where it is looked for
abbrev pub bad_field_error : List ℕ → List ℕ → ErrorValue
bad_field_error column place = error_with 1054 (column ∷ place ∷ [])

abbrev pub dup_fieldname : List ℕ → ErrorValue
dup_fieldname name = error_with 1060 (name ∷ [])

abbrev pub wrong_field_spec : List ℕ → ErrorValue
wrong_field_spec column = error_with 1063 (column ∷ [])

abbrev pub invalid_default : List ℕ → ErrorValue
invalid_default column = error_with 1067 (column ∷ [])

abbrev pub too_big_fieldlength : List ℕ → List ℕ → ErrorValue
too_big_fieldlength column most = error_with 1074 (column ∷ most ∷ [])

abbrev pub wrong_auto_key : ErrorValue
wrong_auto_key = error_with 1075 []

abbrev pub cant_remove_all_fields : ErrorValue
cant_remove_all_fields = error_with 1090 []

-- a column, an index or a constraint
abbrev pub cant_drop_field_or_key : List ℕ → ErrorValue
cant_drop_field_or_key name = error_with 1091 (name ∷ [])

abbrev pub table_must_have_columns : ErrorValue
table_must_have_columns = error_with 1113 []

abbrev pub too_many_fields : ErrorValue
too_many_fields = error_with 1117 []

-- ---- indexes

abbrev pub too_long_ident : List ℕ → ErrorValue
too_long_ident name = error_with 1059 (name ∷ [])

abbrev pub dup_keyname : List ℕ → ErrorValue
dup_keyname name = error_with 1061 (name ∷ [])

abbrev pub multiple_pri_key : ErrorValue
multiple_pri_key = error_with 1068 []

abbrev pub too_many_keys : ErrorValue
too_many_keys = error_with 1069 []

abbrev pub too_many_key_parts : ErrorValue
too_many_key_parts = error_with 1070 []

abbrev pub key_column_does_not_exist : List ℕ → ErrorValue
key_column_does_not_exist name = error_with 1072 (name ∷ [])

abbrev pub primary_cant_have_null : ErrorValue
primary_cant_have_null = error_with 1171 []

abbrev pub wrong_name_for_index : List ℕ → ErrorValue
wrong_name_for_index name = error_with 1280 (name ∷ [])

abbrev pub drop_index_fk : List ℕ → ErrorValue
drop_index_fk index = error_with 1553 (index ∷ [])

-- ---- foreign keys

abbrev pub wrong_fk_def : List ℕ → ErrorValue
wrong_fk_def constraint = error_with 1239 (constraint ∷ [])

abbrev pub fk_no_index_parent : List ℕ → List ℕ → ErrorValue
fk_no_index_parent constraint parent = error_with 1822 (constraint ∷ parent ∷ [])

abbrev pub fk_cannot_open_parent : List ℕ → ErrorValue
fk_cannot_open_parent parent = error_with 1824 (parent ∷ [])

abbrev pub fk_dup_name : List ℕ → ErrorValue
fk_dup_name constraint = error_with 1826 (constraint ∷ [])

abbrev pub fk_column_not_null : List ℕ → List ℕ → ErrorValue
fk_column_not_null column constraint = error_with 1830 (column ∷ constraint ∷ [])

abbrev pub fk_column_cannot_drop : List ℕ → List ℕ → ErrorValue
fk_column_cannot_drop column constraint = error_with 1828 (column ∷ constraint ∷ [])

-- the column, the constraint, and the child table
abbrev pub fk_column_cannot_drop_child : List ℕ → List ℕ → List ℕ → ErrorValue
fk_column_cannot_drop_child column constraint child = error_with 1829 (column ∷ constraint ∷ child ∷ [])

-- the table, the constraint, and the child table
abbrev pub fk_cannot_drop_parent : List ℕ → List ℕ → List ℕ → ErrorValue
fk_cannot_drop_parent table constraint child = error_with 3730 (table ∷ constraint ∷ child ∷ [])

abbrev pub fk_incompatible_columns : List ℕ → List ℕ → List ℕ → ErrorValue
fk_incompatible_columns column parent_column constraint = error_with 3780 (column ∷ parent_column ∷ constraint ∷ [])

-- ---- limits of this dictionary

-- a limit in decimal
abbrev pub beyond_limit : String → ErrorValue
beyond_limit limit = error_with 9001 (codes limit ∷ [])

abbrev pub views_too_deep : ErrorValue
views_too_deep = error_with 9003 []
