-- The tables that a statement has looked at.
use Rattle.std.specs.Prelude.{◌≡◌, ℕ, Option, Some}
use Rattle.dd_names.specs.declared.object_name.ObjName.{ObjName}
use Rattle.dd_names.specs.declared.object_name.ObjectKey.{ObjectKey}
use Rattle.dd_names.specs.declared.object_name.ObjectKey.TheVariants as keys
use Rattle.dd_definitions.specs.declared.parts.TableParts.{TableParts}
use Rattle.dd_catalog.specs.declared.object.Object.{Object}
use Rattle.dd_catalog.specs.declared.object.Object.TheVariants as objects
use Rattle.rules_alter.specs.Statements as statements
use Rattle.rules_alter_statements.specs.declared.statements.Found.{Found}
use Rattle.rules_alter_statements.specs.declared.edits.TableIds.{TableIds}

-- the table that is altered, as its function has it
abbrev pub found : Found → statements.Found
found table = record { space = table.space; parts = table.parts }

-- a table with these ids is known to stand at the name
pub record IsAt (known : ObjectKey → Option Object) (name : ObjName) (ids : TableIds) : Type 0 where
  pub parts : TableParts
  pub is : known (keys.Object name) ≡ Some (objects.Table ids.id ids.schema ids.space parts)
