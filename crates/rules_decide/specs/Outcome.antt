-- What each statement comes to.
use Rattle.std.specs.Prelude.{Bool, true, false, Option, Some, None, Result}
use Rattle.std.specs.Option.{option_map}
use Rattle.dd_errors.specs.Errors.{ErrorValue}
use Rattle.sql_ast.specs.declared.schema.SchemaStatement.{SchemaStatement}
use Rattle.sql_ast.specs.declared.schema.SchemaStatement.TheVariants as schemas
use Rattle.sql_ast.specs.declared.session.SessionState.{SessionState}
use Rattle.sql_ast.specs.declared.session.SessionStatement.{SessionStatement}
use Rattle.sql_ast.specs.declared.session.SessionStatement.TheVariants as sessions
use Rattle.sql_ast.specs.declared.show.ShowStatement.{ShowStatement}
use Rattle.sql_ast.specs.declared.show.ShowStatement.TheVariants as shows
use Rattle.sql_ast.specs.declared.show.ShownCreation.{ShownCreation}
use Rattle.sql_ast.specs.declared.show.ShownCreation.TheVariants as creations
use Rattle.sql_ast.specs.declared.statement.Statement.{Statement}
use Rattle.sql_ast.specs.declared.statement.Statement.TheVariants as is
use Rattle.sql_ast.specs.declared.table.TableBody.{TableBody}
use Rattle.sql_ast.specs.declared.table.TableBody.TheVariants as bodies
use Rattle.sql_ast.specs.declared.table.TableStatement.{TableStatement}
use Rattle.sql_ast.specs.declared.table.TableStatement.TheVariants as tables
use Rattle.sql_types.specs.declared.words.ObjRef.{ObjRef}
use Rattle.dd_catalog.specs.Catalog.{Catalog, all_of}
use Rattle.dd_catalog.specs.Walks.{Walk, Found, run, refuse}
use Rattle.dd_catalog.specs.declared.stop.Stop.{Stop}
use Rattle.rules_outcome.specs.declared.decided.Decided.{Decided}
use Rattle.rules_outcome.specs.Choices.{Choice}
use Rattle.rules_outcome.specs.Decided.{Decides}
use Rattle.rules_schema.specs.Schemas.{create_database, drop_database}
use Rattle.rules_schema.specs.Sessions.{use_schema, set_tries}
use Rattle.rules_schema.specs.Listings.{show_databases, show_tables}
use Rattle.rules_schema.specs.Drops.{drop_table}
use Rattle.rules_create.specs.Tables.{create_table}
use Rattle.rules_tables.specs.Likes.{create_like}
use Rattle.rules_tables.specs.Truncates.{truncate}
use Rattle.rules_rename.specs.Renames.{rename}
use Rattle.info_schema.specs.Listings.{information}
use Rattle.rules_views.specs.Shows.{show_columns}
use Rattle.rules_show.specs.Shows.{show_create_database, show_create_table, show_create_view}

-- ---- each family

abbrev pub schema_outcome : SessionState → SchemaStatement → Walk ErrorValue Choice
schema_outcome session (schemas.Create if_not_exists name) = create_database session if_not_exists name
schema_outcome session (schemas.Drop if_exists name) = drop_database session if_exists name

abbrev pub body_outcome : SessionState → Bool → ObjRef → TableBody → Walk ErrorValue Choice
body_outcome session if_not_exists table (bodies.Like source) = create_like session if_not_exists table source
body_outcome session if_not_exists table (bodies.Elements elements) = create_table session if_not_exists table elements

abbrev pub table_outcome : SessionState → TableStatement → Option (Walk ErrorValue Choice)
table_outcome session (tables.Create words) = Some (body_outcome session words.if_not_exists words.table words.body)
table_outcome session (tables.Drop if_exists dropped) = Some (drop_table session if_exists dropped)
table_outcome session (tables.Rename pairs) = Some (rename session pairs)
table_outcome session (tables.Truncate table) = Some (truncate session table)
table_outcome session statement = None

abbrev pub creation_outcome : SessionState → ShownCreation → Walk ErrorValue Choice
creation_outcome session (creations.Database name) = show_create_database name
creation_outcome session (creations.Table object) = show_create_table session object
creation_outcome session (creations.View object) = show_create_view session object

abbrev pub show_outcome : SessionState → ShowStatement → Walk ErrorValue Choice
show_outcome session shows.Databases = show_databases
show_outcome session (shows.Tables schema) = show_tables session schema
show_outcome session (shows.Columns object) = show_columns session object
show_outcome session (shows.Creation shown) = creation_outcome session shown
show_outcome session (shows.Information table) = information table

abbrev pub session_outcome : SessionState → SessionStatement → Walk ErrorValue Choice
session_outcome session (sessions.Use name) = use_schema session name
session_outcome session (sessions.SetTries value) = set_tries session value

-- ---- all of them

-- the check of a statement, where it is of a kind whose outcome is defined
abbrev pub outcome : SessionState → Statement → Option (Walk ErrorValue Choice)
outcome session (is.Schema statement) = Some (schema_outcome session statement)
outcome session (is.Table statement) = table_outcome session statement
outcome session (is.View statement) = None
outcome session (is.Show statement) = Some (show_outcome session statement)
outcome session (is.Session statement) = Some (session_outcome session statement)
outcome session (is.Bad error) = Some (refuse error)

-- ---- the kinds that are decided

abbrev pub is_table_decided : TableStatement → Bool
is_table_decided (tables.Create words) = true
is_table_decided (tables.Drop if_exists dropped) = true
is_table_decided (tables.Rename pairs) = true
is_table_decided (tables.Truncate table) = true
is_table_decided statement = false

-- all but ALTER TABLE and the statements of indexes and views
abbrev pub is_decided : Statement → Bool
is_decided (is.Schema statement) = true
is_decided (is.Table statement) = is_table_decided statement
is_decided (is.View statement) = false
is_decided (is.Show statement) = true
is_decided (is.Session statement) = true
is_decided (is.Bad error) = true

-- what a statement comes to over a whole catalog
abbrev pub outcome_over : Catalog → SessionState → Statement → Option (Found ErrorValue Choice)
outcome_over cat session statement = option_map (run (all_of cat)) (outcome session statement)

-- what is decided is what the check comes to, where there is one
abbrev pub DecidesIf : Result Decided Stop → Option (Found ErrorValue Choice) → Type 0
DecidesIf answer None = ⊥
DecidesIf answer (Some found) = Decides answer found
