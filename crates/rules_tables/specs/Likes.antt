-- CREATE TABLE LIKE.
use Rattle.std.specs.Prelude.{Bool, List, [], codes, if◌then◌else◌}
use Rattle.dd_names.specs.declared.object_name.ObjName.{ObjName}
use Rattle.dd_names.specs.declared.object_name.ObjectKey.TheVariants as keys
use Rattle.dd_errors.specs.Errors.{ErrorValue}
use Rattle.sql_types.specs.declared.words.ObjRef.{ObjRef}
use Rattle.dd_definitions.specs.declared.parts.TableParts.{TableParts}
use Rattle.sql_ast.specs.declared.session.SessionState.{SessionState}
use Rattle.dd_catalog.specs.Sights.{Sight, TableThere, ViewThere}
use Rattle.dd_catalog.specs.Walks.{Walk, done, refuse, ◌>>=◌, look_at}
use Rattle.rules_outcome.specs.Choices.{Choice}
use Rattle.rules_refusals.specs.Refusals.{no_such_table, table_exists, wrong_object}
use Rattle.rules_named.specs.Named.{is_nothing, own_schema_there, resolved, unless}
use Rattle.rules_create.specs.Tables.{table_made}

-- the columns and the indexes of a table under another name, without its foreign keys
abbrev pub like : ObjName → TableParts → TableParts
like table parts = record { name = table; columns = parts.columns; indexes = parts.indexes; foreign_keys = [] }

-- the table that is copied; a view: 1347; nothing: 1146
abbrev pub source_seen : ObjName → Sight → Walk ErrorValue TableParts
source_seen source (TableThere space parts) = done parts
source_seen source (ViewThere parts) = refuse (wrong_object source (codes "BASE TABLE"))
source_seen source seen = refuse (no_such_table source)

abbrev pub like_seen : SessionState → Bool → ObjName → TableParts → Sight → Walk ErrorValue Choice
like_seen session if_not_exists table parts seen =
    if is_nothing seen then done (table_made session table (like table parts)) else unless if_not_exists (table_exists table.name)

-- the two names, the table's and the source's, whose schemas are there
pub record Two : Type 0 where
  pub table : ObjName
  pub source : ObjName

abbrev pub two : ObjName → ObjName → Two
two table source = record { table = table; source = source }

unfoldable pub both_resolved : SessionState → ObjRef → ObjRef → Walk ErrorValue Two
both_resolved session table source = do
  made ← resolved session.current table
  copied ← resolved session.current source
  done (two made copied)

unfoldable pub both_schemas_there : Two → Walk ErrorValue (Unit {0})
both_schemas_there names = do
  _ ← own_schema_there names.table
  own_schema_there names.source

-- first 1046 of each, then 1049
unfoldable pub both_named : SessionState → ObjRef → ObjRef → Walk ErrorValue Two
both_named session table source = do
  names ← both_resolved session table source
  _ ← both_schemas_there names
  done names

unfoldable pub like_named : SessionState → Bool → Two → Walk ErrorValue Choice
like_named session if_not_exists names = do
  there ← look_at (keys.Object names.source)
  parts ← source_seen names.source there
  seen ← look_at (keys.Object names.table)
  like_seen session if_not_exists names.table parts seen

-- The source absent: 1146; a view: 1347. Present: done without change with IF NOT EXISTS, else 1050. Then a table with the
-- columns and the indexes of the source.
unfoldable pub create_like : SessionState → Bool → ObjRef → ObjRef → Walk ErrorValue Choice
create_like session if_not_exists table source = both_named session table source >>= like_named session if_not_exists
