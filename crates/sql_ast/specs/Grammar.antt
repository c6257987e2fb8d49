-- The rules of statements.
use Rattle.std.specs.Prelude.{ℕ, Bool, true, false, List, Option, Some, None}
use Rattle.sql_grammar.specs.Grammar.{Grammar, means, many}
use Rattle.sql_grammar.specs.Rules.{sign_of, ◌⊳◌, ◌⊲◌, gives, flag, opt, listed}
use Rattle.sql_types.specs.declared.words.ObjRef.{ObjRef}
use Rattle.sql_ast.specs.declared.schema.SchemaStatement.TheVariants as schemas
use Rattle.sql_ast.specs.declared.session.SessionStatement.TheVariants as sessions
use Rattle.sql_ast.specs.declared.show.ShowStatement.TheVariants as shows
use Rattle.sql_ast.specs.declared.show.ShownCreation.TheVariants as creations
use Rattle.sql_ast.specs.declared.table.IndexStatement.TheVariants as indexes
use Rattle.sql_ast.specs.declared.table.RenamePair.{RenamePair}
use Rattle.sql_ast.specs.declared.table.TableBody.{TableBody}
use Rattle.sql_ast.specs.declared.table.TableBody.TheVariants.{Like, Elements}
use Rattle.sql_ast.specs.declared.table.TableStatement.TheVariants as tables
use Rattle.sql_ast.specs.declared.view.ViewStatement.TheVariants as views
use Rattle.sql_ast.specs.declared.statement.Statement.{Statement}
use Rattle.sql_ast.specs.declared.statement.Statement.TheVariants as is
use Rattle.sql_ast.specs.GrammarParts.{the, ◌∣◌, ◌&◌, maybe, a_name, a_number, object, names, cols, db, index_or_key, from_or_in, if_not_exists, if_exists, db_option, table_option}
use Rattle.sql_ast.specs.GrammarKeys.{element}
use Rattle.sql_ast.specs.GrammarActions.{action}
use Rattle.sql_ast.specs.GrammarViews.{select, view_words}

-- ---- CREATE

-- create_db = CREATE db [IF NOT EXISTS] name {db_option}, behind CREATE
unfoldable pub create_db : Grammar Statement
create_db = means (λ p. is.Schema (schemas.Create p.0 p.1)) (db ⊳ (if_not_exists & (a_name ⊲ many db_option)))

-- LIKE object
unfoldable pub like_object : Grammar TableBody
like_object = means Like (the "LIKE" ⊳ object)

-- LIKE object | ( LIKE object ) | ( element {, element} ) {[,] option}
unfoldable pub body : Grammar TableBody
body = like_object ∣ (sign_of 40 ⊳ ((like_object ⊲ sign_of 41) ∣ means Elements (listed element ⊲ sign_of 41 ⊲ many (maybe (sign_of 44) ⊳ table_option))))

abbrev pub table_of : Bool → ObjRef → TableBody → Statement
table_of if_not_exists table body = is.Table (tables.Create (record { if_not_exists = if_not_exists; table = table; body = body }))

-- create_table = CREATE TABLE [IF NOT EXISTS] object ( element {, element} ) {[,] option}
-- create_like = CREATE TABLE [IF NOT EXISTS] object (LIKE object | ( LIKE object )), behind CREATE
unfoldable pub create_table : Grammar Statement
create_table = means (λ p. table_of p.0 p.1.0 p.1.1) (the "TABLE" ⊳ (if_not_exists & object & body))

-- create_index = CREATE [UNIQUE] INDEX name ON object cols, behind CREATE
unfoldable pub create_index : Grammar Statement
create_index = means (λ p. is.Table (tables.Index (indexes.Create p.0 p.1.0 p.1.1.0 p.1.1.1)))
    ((gives true (the "UNIQUE" ⊳ the "INDEX") ∣ gives false (the "INDEX")) & a_name & (the "ON" ⊳ (object & cols)))

-- create_view = CREATE [ALGORITHM = UNDEFINED] [DEFINER = part @ part] [SQL SECURITY DEFINER]
--               VIEW object [names] AS SELECT item {, item} FROM source {, source}, behind CREATE
unfoldable pub create_view : Grammar Statement
create_view = means (λ p. is.View (views.Create p.0 p.1.0 p.1.1)) (view_words ⊳ the "VIEW" ⊳ (object & opt names & (the "AS" ⊳ select)))

unfoldable pub create : Grammar Statement
create = the "CREATE" ⊳ (create_db ∣ create_table ∣ create_index ∣ create_view)

-- ---- DROP

-- drop_db = DROP db [IF EXISTS] name, behind DROP
unfoldable pub drop_db : Grammar Statement
drop_db = means (λ p. is.Schema (schemas.Drop p.0 p.1)) (db ⊳ (if_exists & a_name))

-- drop_table = DROP TABLE [IF EXISTS] object {, object} [RESTRICT|CASCADE], behind DROP
unfoldable pub drop_table : Grammar Statement
drop_table = means (λ p. is.Table (tables.Drop p.0 p.1)) (the "TABLE" ⊳ (if_exists & (listed object ⊲ maybe (the "RESTRICT" ∣ the "CASCADE"))))

-- drop_index = DROP INDEX name ON object, behind DROP
unfoldable pub drop_index : Grammar Statement
drop_index = means (λ p. is.Table (tables.Index (indexes.Drop p.0 p.1))) (the "INDEX" ⊳ (a_name & (the "ON" ⊳ object)))

-- drop_view = DROP VIEW [IF EXISTS] object {, object}, behind DROP
unfoldable pub drop_view : Grammar Statement
drop_view = means (λ p. is.View (views.Drop p.0 p.1)) (the "VIEW" ⊳ (if_exists & listed object))

unfoldable pub drop : Grammar Statement
drop = the "DROP" ⊳ (drop_db ∣ drop_table ∣ drop_index ∣ drop_view)

-- ---- SHOW

-- a schema behind the object takes the place of its own
abbrev pub in_named_schema : ObjRef → Option (List ℕ) → ObjRef
in_named_schema object None = object
in_named_schema object (Some schema) = record object { schema = Some schema }

-- show = SHOW (DATABASES|SCHEMAS) | SHOW TABLES [(FROM|IN) name]
--      | SHOW (COLUMNS|FIELDS) (FROM|IN) object [(FROM|IN) name]
--      | SHOW CREATE db name | SHOW CREATE TABLE object | SHOW CREATE VIEW object
unfoldable pub show : Grammar Statement
show = the "SHOW" ⊳ (
    gives (is.Show shows.Databases) (the "DATABASES" ∣ the "SCHEMAS")
    ∣ means (λ s. is.Show (shows.Tables s)) (the "TABLES" ⊳ opt (from_or_in ⊳ a_name))
    ∣ means (λ p. is.Show (shows.Columns (in_named_schema p.0 p.1))) ((the "COLUMNS" ∣ the "FIELDS") ⊳ from_or_in ⊳ (object & opt (from_or_in ⊳ a_name)))
    ∣ (the "CREATE" ⊳ (
    means (λ n. is.Show (shows.Creation (creations.Database n))) (db ⊳ a_name)
    ∣ means (λ o. is.Show (shows.Creation (creations.Table o))) (the "TABLE" ⊳ object)
    ∣ means (λ o. is.Show (shows.Creation (creations.View o))) (the "VIEW" ⊳ object))))

-- ---- the others

-- use = USE name
unfoldable pub use_schema : Grammar Statement
use_schema = means (λ n. is.Session (sessions.Use n)) (the "USE" ⊳ a_name)

abbrev pub pair_of : ObjRef → ObjRef → RenamePair
pair_of from to = record { from = from; to = to }

-- rename = RENAME TABLE object TO object {, object TO object}
unfoldable pub rename : Grammar Statement
rename = means (λ pairs. is.Table (tables.Rename pairs)) (the "RENAME" ⊳ the "TABLE" ⊳ listed (means (λ p. pair_of p.0 p.1) (object & (the "TO" ⊳ object))))

-- truncate = TRUNCATE [TABLE] object
unfoldable pub truncate : Grammar Statement
truncate = means (λ o. is.Table (tables.Truncate o)) (the "TRUNCATE" ⊳ maybe (the "TABLE") ⊳ object)

-- alter = ALTER TABLE object action {, action}
unfoldable pub alter : Grammar Statement
alter = means (λ p. is.Table (tables.Alter p.0 p.1)) (the "ALTER" ⊳ the "TABLE" ⊳ (object & listed action))

-- table = TABLE INFORMATION_SCHEMA . name
unfoldable pub table : Grammar Statement
table = means (λ n. is.Show (shows.Information n)) (the "TABLE" ⊳ the "INFORMATION_SCHEMA" ⊳ sign_of 46 ⊳ a_name)

-- set = SET [SESSION] lock_wait_timeout = number
unfoldable pub set : Grammar Statement
set = means (λ n. is.Session (sessions.SetTries n)) (the "SET" ⊳ maybe (the "SESSION") ⊳ the "LOCK_WAIT_TIMEOUT" ⊳ sign_of 61 ⊳ a_number)

unfoldable pub statement : Grammar Statement
statement = create ∣ drop ∣ show ∣ use_schema ∣ rename ∣ truncate ∣ alter ∣ table ∣ set
