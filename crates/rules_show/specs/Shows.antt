-- SHOW CREATE DATABASE, SHOW CREATE TABLE and SHOW CREATE VIEW. They change nothing.
use Rattle.std.specs.Prelude.{ℕ, List, codes}
use Rattle.dd_names.specs.declared.object_name.ObjName.{ObjName}
use Rattle.dd_names.specs.declared.object_name.ObjectKey.TheVariants as keys
use Rattle.dd_errors.specs.Errors.{ErrorValue}
use Rattle.sql_types.specs.declared.words.ObjRef.{ObjRef}
use Rattle.sql_ast.specs.declared.session.SessionState.{SessionState}
use Rattle.dd_catalog.specs.Sights.{Sight, TableThere, ViewThere}
use Rattle.dd_catalog.specs.Walks.{Walk, done, refuse, ◌>>=◌, look_at}
use Rattle.rules_outcome.specs.Choices.{Choice, Lists}
use Rattle.rules_refusals.specs.Refusals.{no_such_table, wrong_object}
use Rattle.rules_named.specs.Named.{schema_there, one_named}
use Rattle.rules_show.specs.Listings.{database_listed, table_listed, view_listed}

-- SHOW CREATE DATABASE. A schema that isn't there: 1049. Its name and its text.
unfoldable pub show_create_database : List ℕ → Walk ErrorValue Choice
show_create_database name = do
  _ ← schema_there name
  done (Lists (database_listed name))

-- A table or a view as it stands. Neither: 1146.
abbrev pub object_shown : ObjName → Sight → Walk ErrorValue Choice
object_shown object (TableThere space parts) = done (Lists (table_listed parts))
object_shown object (ViewThere parts) = done (Lists (view_listed parts))
object_shown object seen = refuse (no_such_table object)

-- A table: 1347. Else as SHOW CREATE TABLE shows it.
abbrev pub view_shown : ObjName → Sight → Walk ErrorValue Choice
view_shown object (TableThere space parts) = refuse (wrong_object object (codes "VIEW"))
view_shown object seen = object_shown object seen

-- SHOW CREATE TABLE. No schema is written, and none is current: 1046. A schema that isn't there: 1049. Then the object is looked
-- at: neither table nor view 1146. The table's name and its text; of a view those that SHOW CREATE VIEW shows.
unfoldable pub show_create_table : SessionState → ObjRef → Walk ErrorValue Choice
show_create_table session ref = do
  object ← one_named session.current ref
  seen ← look_at (keys.Object object)
  object_shown object seen

-- SHOW CREATE VIEW. No schema is written, and none is current: 1046. A schema that isn't there: 1049. Then the object is looked
-- at: a table 1347, neither 1146. The view's name and its text.
unfoldable pub show_create_view : SessionState → ObjRef → Walk ErrorValue Choice
show_create_view session ref = do
  object ← one_named session.current ref
  seen ← look_at (keys.Object object)
  view_shown object seen
