-- Actions of ALTER TABLE that say names.
use Rattle.std.specs.Prelude.{Bool, true}
use Rattle.std.specs.List.{list_all}
use Rattle.dd_names.specs.Names.{is_name}
use Rattle.sql_ast.specs.Names.{is_column_named, is_foreign_key_named, is_key_named, is_object_named}
use Rattle.sql_ast.specs.declared.action.AlterAction.{AlterAction}
use Rattle.sql_ast.specs.declared.action.AlterAction.TheVariants as actions

-- each name is one from which the action makes a name in the table, or of it
abbrev pub is_action_named : AlterAction → Bool
is_action_named (actions.AddColumn column place) = is_column_named column
is_action_named (actions.AddColumns columns) = list_all is_column_named columns
is_action_named (actions.AddKey words) = is_key_named words
is_action_named (actions.AddForeignKey words) = is_foreign_key_named words
is_action_named (actions.ModifyColumn column place) = is_column_named column
is_action_named (actions.ChangeColumn name column place) = is_column_named column
is_action_named (actions.RenameColumn from to) = is_name to
is_action_named (actions.RenameIndex from to) = is_name to
is_action_named (actions.RenameTable to) = is_object_named to
is_action_named action = true
