-- What goes beside a table.
use Rattle.std.specs.Prelude.{Bool}
use Rattle.std.specs.BTreeSet.{contains}
use Rattle.dd_names.specs.declared.object_name.ObjName.{ObjName}
use Rattle.dd_catalog.specs.Catalog.{object_cmp}
use Rattle.rules_schema.specs.Schemas.{is_in}
use Rattle.rules_schema.specs.declared.children.Going.{Going}
use Rattle.rules_schema.specs.declared.children.Going.TheVariants.{Schema, Tables}

-- whether the object goes
abbrev pub goes : Going → ObjName → Bool
goes (Schema schema) object = is_in schema.now object
goes (Tables tables) object = contains object_cmp tables.now object
