-- Objects of a valid catalog have paths of their own.
use Rattle.std.specs.Prelude.{◌≡◌, true, ◌&&◌, Some}
use Rattle.std.specs.FinMap as finite_map
use Rattle.std.specs.List.{list_all}
use Rattle.std.proofs.Common.{sym, ◌∙◌, ap}
use Rattle.std.proofs.lemmas.Bool.{and_parts}
use Rattle.dd_names.specs.Names.{is_name}
use Rattle.dd_names.specs.Paths.{IsObjName, path}
use Rattle.dd_names.specs.declared.object_name.ObjName.{ObjName}
use Rattle.dd_names.proofs.Apart.{objects}
use Rattle.dd_definitions.specs.Named.{is_object_named, is_column_named, is_index_named, is_foreign_key_named, has_names, is_source_named, is_output_named, view_has_names}
use Rattle.dd_definitions.specs.declared.parts.TableParts.{TableParts}
use Rattle.dd_definitions.specs.declared.view_parts.ViewParts.{ViewParts}
use Rattle.dd_catalog.specs.Catalog.{Catalog, Placed, Table, View}
use Rattle.dd_catalog.specs.Valid.{own_name, is_placed_named, Has, IsValid}
use Rattle.dd_catalog.proofs.ObjectNames.{name_is}

pub object_is : (name : ObjName) → is_object_named name ≡ true → IsObjName name
object_is name is =
    let (schema, own) = and_parts (is_name name.schema) (is_name name.name) is in
    record { schema = name_is name.schema schema; name = name_is name.name own }

table_named : (parts : TableParts) → has_names parts ≡ true → is_object_named parts.name ≡ true
unfolding has_names
table_named parts is =
    let (front, _) = and_parts (is_object_named parts.name && list_all is_column_named parts.columns && list_all is_index_named parts.indexes) (list_all is_foreign_key_named parts.foreign_keys) is in
    let (more, _) = and_parts (is_object_named parts.name && list_all is_column_named parts.columns) (list_all is_index_named parts.indexes) front in
    (and_parts (is_object_named parts.name) (list_all is_column_named parts.columns) more).0

view_named : (parts : ViewParts) → view_has_names parts ≡ true → is_object_named parts.name ≡ true
unfolding view_has_names
view_named parts is =
    let (front, _) = and_parts (is_object_named parts.name && list_all is_source_named parts.sources) (list_all is_output_named parts.outputs) is in
    (and_parts (is_object_named parts.name) (list_all is_source_named parts.sources) front).0

own_named : (placed : Placed) → is_placed_named placed ≡ true → is_object_named (own_name placed) ≡ true
own_named (Table space parts) is = table_named parts is
own_named (View parts) is = view_named parts is

-- the name of an object is one
pub has_object_name : (cat : Catalog) (name : ObjName) (placed : Placed) → IsValid cat → Has cat name placed → IsObjName name
has_object_name cat name placed valid has = object_is name (ap is_object_named (sym (valid.names_carried name placed has)) ∙ own_named placed (valid.named name placed has))

placed_is : (placed other : Placed) → Some placed ≡ Some other → placed ≡ other
placed_is placed other is = cc

pub paths_apart : (cat : Catalog) (a b : ObjName) (placed other : Placed) → IsValid cat → Has cat a placed → Has cat b other → path a ≡ path b → (a ≡ b) × (placed ≡ other)
paths_apart cat a b placed other valid has there same =
    let one : a ≡ b = objects a b (has_object_name cat a placed valid has) (has_object_name cat b other valid there) same in
    (one, placed_is placed other (sym has.is ∙ ap (finite_map.get cat.objects) one ∙ there.is))
