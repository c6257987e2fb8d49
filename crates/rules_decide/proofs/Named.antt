-- The current schema behind each statement that says names is a name, or there is none.
use Rattle.std.specs.Prelude.{◌≡◌, Bool, true, Option, Some}
use Rattle.std.proofs.Common.{subst}
use Rattle.dd_errors.specs.Errors.{ErrorValue}
use Rattle.sql_types.specs.declared.words.ObjRef.{ObjRef}
use Rattle.sql_ast.specs.Names.{says_names, session_says_names}
use Rattle.sql_ast.specs.declared.schema.SchemaStatement.{SchemaStatement}
use Rattle.sql_ast.specs.declared.schema.SchemaStatement.TheVariants as schemas
use Rattle.sql_ast.specs.declared.session.SessionState.{SessionState}
use Rattle.sql_ast.specs.declared.session.SessionStatement.{SessionStatement}
use Rattle.sql_ast.specs.declared.session.SessionStatement.TheVariants as sessions
use Rattle.sql_ast.specs.declared.statement.Statement.{Statement}
use Rattle.sql_ast.specs.declared.statement.Statement.TheVariants as is
use Rattle.sql_ast.specs.declared.table.TableBody.{TableBody}
use Rattle.sql_ast.specs.declared.table.TableBody.TheVariants as bodies
use Rattle.sql_ast.specs.declared.table.TableStatement.{TableStatement}
use Rattle.sql_ast.specs.declared.table.TableStatement.TheVariants as tables
use Rattle.dd_catalog.specs.Walks.{Walk, refuse}
use Rattle.rules_outcome.specs.Choices.{Choice}
use Rattle.rules_valid.specs.Keeps.{KeepsNamed}
use Rattle.rules_valid.proofs.Emptied.{truncate_leaves}
use Rattle.rules_valid.proofs.Likes.{create_like_leaves}
use Rattle.rules_valid.proofs.Sessions.{use_leaves, set_leaves, create_database_leaves, drop_database_leaves, create_table_leaves, drop_table_leaves, rename_leaves}
use Rattle.rules_decide.proofs.Listings.{listings_leave, show_lists}
use Rattle.rules_decide.specs.Outcome.{schema_outcome, body_outcome, table_outcome, session_outcome, outcome}

some_is : {A : Type 0} {x y : A} → ◌≡◌ {A = Option A} (Some x) (Some y) → x ≡ y
some_is e = cc

-- the check of the statement, which leaves such a session, is this one
same_leaves : {session : SessionState} {one other : Walk ErrorValue Choice} → KeepsNamed session one → ◌≡◌ {A = Option (Walk ErrorValue Choice)} (Some one) (Some other) → KeepsNamed session other
same_leaves {session = session} kept e = subst (λ check. KeepsNamed session check) (some_is e) kept

-- ## Each family

schema_leaves : (session : SessionState) (statement : SchemaStatement) → KeepsNamed session (schema_outcome session statement)
schema_leaves session (schemas.Create if_not_exists name) = create_database_leaves session if_not_exists name
schema_leaves session (schemas.Drop if_exists name) = drop_database_leaves session if_exists name

body_leaves : (session : SessionState) (if_not_exists : Bool) (table : ObjRef) (body : TableBody) → KeepsNamed session (body_outcome session if_not_exists table body)
body_leaves session if_not_exists table (bodies.Like source) = create_like_leaves session if_not_exists table source
body_leaves session if_not_exists table (bodies.Elements elements) = create_table_leaves session if_not_exists table elements

tables_leaves : (session : SessionState) (statement : TableStatement) (check : Walk ErrorValue Choice) → table_outcome session statement ≡ Some check → KeepsNamed session check
tables_leaves session (tables.Create words) check e = same_leaves (body_leaves session words.if_not_exists words.table words.body) e
tables_leaves session (tables.Drop if_exists dropped) check e = same_leaves (drop_table_leaves session if_exists dropped) e
tables_leaves session (tables.Rename pairs) check e = same_leaves (rename_leaves session pairs) e
tables_leaves session (tables.Truncate table) check e = same_leaves (truncate_leaves session table) e
tables_leaves session _ check e = cc

session_leaves : (session : SessionState) (statement : SessionStatement) → session_says_names statement ≡ true → KeepsNamed session (session_outcome session statement)
session_leaves session (sessions.Use name) said = use_leaves session name said
session_leaves session (sessions.SetTries value) said = set_leaves session value

refusal_leaves : (session : SessionState) (error : ErrorValue) → KeepsNamed session (refuse error)
refusal_leaves session error = record { named = λ look choice named found. cc }

pub outcome_named : (session : SessionState) (statement : Statement) → says_names statement ≡ true → (check : Walk ErrorValue Choice) → outcome session statement ≡ Some check → KeepsNamed session check
outcome_named session (is.Schema statement) said check e = same_leaves (schema_leaves session statement) e
outcome_named session (is.Table statement) said check e = tables_leaves session statement check e
outcome_named session (is.View statement) said check e = cc
outcome_named session (is.Show statement) said check e = same_leaves (listings_leave (show_lists session statement)) e
outcome_named session (is.Session statement) said check e = same_leaves (session_leaves session statement said) e
outcome_named session (is.Bad error) said check e = same_leaves (refusal_leaves session error) e
