-- SHOW COLUMNS.
use Rattle.std.specs.Prelude.{[]}
use Rattle.dd_names.specs.declared.object_name.ObjName.{ObjName}
use Rattle.dd_names.specs.declared.object_name.ObjectKey.TheVariants as keys
use Rattle.dd_errors.specs.Errors.{ErrorValue}
use Rattle.sql_types.specs.declared.words.ObjRef.{ObjRef}
use Rattle.sql_ast.specs.declared.session.SessionState.{SessionState}
use Rattle.dd_catalog.specs.Sights.{Sight, TableThere, ViewThere}
use Rattle.dd_catalog.specs.Walks.{Walk, done, refuse, ◌>>=◌, look_at}
use Rattle.rules_outcome.specs.Choices.{Choice, Lists}
use Rattle.rules_refusals.specs.Refusals.{no_such_table}
use Rattle.rules_named.specs.Named.{one_named}
use Rattle.info_schema.specs.Columns.{columns_rows}
use Rattle.rules_views.specs.Columns.{source_seen}

-- the rows of a view have no keys
unfoldable pub view_columns : ObjName → Sight → Walk ErrorValue Choice
view_columns object seen = do
  found ← source_seen 32 object [] [] object seen
  done (Lists (columns_rows found.shown.columns []))

abbrev pub columns_shown : ObjName → Sight → Walk ErrorValue Choice
columns_shown object (TableThere space parts) = done (Lists (columns_rows parts.columns parts.indexes))
columns_shown object (ViewThere parts) = view_columns object (ViewThere parts)
columns_shown object seen = refuse (no_such_table object)

-- SHOW COLUMNS. No schema is written, and none is current: 1046. A schema that isn't there: 1049. Then the object is looked at:
-- neither table nor view 1146. The columns of a table, or those that a view has through its sources, else 1356 or 9003.
unfoldable pub show_columns : SessionState → ObjRef → Walk ErrorValue Choice
show_columns session ref = do
  object ← one_named session.current ref
  seen ← look_at (keys.Object object)
  columns_shown object seen
