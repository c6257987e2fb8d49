-- The actions of ALTER TABLE, each on the table that the actions before it left.
use Rattle.std.specs.Prelude.{◌||◌}
use Rattle.dd_errors.specs.Errors.{ErrorValue}
use Rattle.sql_ast.specs.declared.action.AlterAction.{AlterAction}
use Rattle.sql_ast.specs.declared.action.AlterAction.TheVariants as actions
use Rattle.dd_definitions.specs.Indexes.{primary_name}
use Rattle.dd_catalog.specs.Walks.{Walk, done, ◌>>=◌}
use Rattle.rules_alter.specs.declared.states.Altering.{Altering}
use Rattle.rules_alter.specs.Columns.{add_column, add_columns, change_column, drop_column, drop_default, rename_column, set_default}
use Rattle.rules_alter.specs.ForeignKeys.{add_foreign_key, drop_foreign_key}
use Rattle.rules_alter.specs.Keys.{add_key, drop_index, rename_index}
use Rattle.rules_alter.specs.Rebuilds.{asks_rebuild}

-- what an action makes of the table; a new name of the table is no matter of the actions
abbrev pub acted : AlterAction → Altering → Walk ErrorValue Altering
acted (actions.AddColumn column place) state = add_column column place state
acted (actions.AddColumns columns) state = add_columns columns state
acted (actions.AddKey words) state = add_key words state
acted (actions.AddForeignKey words) state = add_foreign_key words state
acted (actions.DropColumn name) state = drop_column name state
acted (actions.ModifyColumn column place) state = change_column column.name column place state
acted (actions.ChangeColumn name column place) state = change_column name column place state
acted (actions.RenameColumn from to) state = rename_column from to state
acted (actions.SetDefault name value) state = set_default name value state
acted (actions.DropDefault name) state = drop_default name state
acted (actions.DropIndex name) state = drop_index name state
acted actions.DropPrimaryKey state = drop_index primary_name state
acted (actions.DropForeignKey name) state = drop_foreign_key name state
acted (actions.RenameIndex from to) state = rename_index from to state
acted (actions.RenameTable to) state = done state
acted actions.Force state = done state
acted actions.Engine state = done state

-- a table is rebuilt once, however many actions ask for it
abbrev pub rebuilt_behind : AlterAction → Altering → Altering → Altering
rebuilt_behind action before behind = record behind { is_rebuilt = before.is_rebuilt || asks_rebuild action before.parts behind.parts }

unfoldable pub one_action : Altering → AlterAction → Walk ErrorValue Altering
one_action before action = do
  behind ← acted action before
  done (rebuilt_behind action before behind)
