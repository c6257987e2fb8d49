-- Definitions whose names are names.
use Rattle.std.specs.Prelude.{Bool, ◌&&◌}
use Rattle.std.specs.List.{list_all}
use Rattle.dd_names.specs.Names.{is_name}
use Rattle.dd_names.specs.declared.object_name.ObjName.{ObjName}
use Rattle.dd_definitions.specs.declared.columns.ColumnDef.{ColumnDef}
use Rattle.dd_definitions.specs.declared.foreign_keys.ForeignKeyDef.{ForeignKeyDef}
use Rattle.dd_definitions.specs.declared.indexes.IndexDef.{IndexDef}
use Rattle.dd_definitions.specs.declared.parts.TableParts.{TableParts}
use Rattle.dd_definitions.specs.declared.view_parts.ViewColumn.{ViewColumn}
use Rattle.dd_definitions.specs.declared.view_parts.ViewParts.{ViewParts}
use Rattle.dd_definitions.specs.declared.view_parts.ViewSource.{ViewSource}

abbrev pub is_object_named : ObjName → Bool
is_object_named object = is_name object.schema && is_name object.name

-- ---- tables

abbrev pub is_column_named : ColumnDef → Bool
is_column_named column = is_name column.name

abbrev pub is_index_named : IndexDef → Bool
is_index_named index = is_name index.name && list_all is_name index.columns

abbrev pub is_foreign_key_named : ForeignKeyDef → Bool
is_foreign_key_named key = is_name key.name && list_all is_name key.columns && is_object_named key.parent && list_all is_name key.parent_columns

-- each name in the table is one
unfoldable pub has_names : TableParts → Bool
has_names parts =
    is_object_named parts.name && list_all is_column_named parts.columns && list_all is_index_named parts.indexes && list_all is_foreign_key_named parts.foreign_keys

-- ---- views

abbrev pub is_source_named : ViewSource → Bool
is_source_named source = is_object_named source.object && is_name source.alias

abbrev pub is_output_named : ViewColumn → Bool
is_output_named output = is_name output.column && is_name output.output

-- each name in the view is one
unfoldable pub view_has_names : ViewParts → Bool
view_has_names parts = is_object_named parts.name && list_all is_source_named parts.sources && list_all is_output_named parts.outputs
