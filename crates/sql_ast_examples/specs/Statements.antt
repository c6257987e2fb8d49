-- Statements, written shortly.
use Rattle.std.specs.Prelude.{ℕ, Bool, List, Option}
use Rattle.sql_types.specs.declared.words.ObjRef.{ObjRef}
use Rattle.sql_ast.specs.declared.action.AlterAction.{AlterAction}
use Rattle.sql_ast.specs.declared.element.Element.{Element}
use Rattle.sql_ast.specs.declared.schema.SchemaStatement.TheVariants as schemas
use Rattle.sql_ast.specs.declared.session.SessionStatement.TheVariants as sessions
use Rattle.sql_ast.specs.declared.show.ShowStatement.TheVariants as shows
use Rattle.sql_ast.specs.declared.show.ShownCreation.TheVariants as creations
use Rattle.sql_ast.specs.declared.statement.Statement.{Statement}
use Rattle.sql_ast.specs.declared.statement.Statement.TheVariants as is
use Rattle.sql_ast.specs.declared.table.IndexStatement.TheVariants as indexes
use Rattle.sql_ast.specs.declared.table.RenamePair.{RenamePair}
use Rattle.sql_ast.specs.declared.table.TableBody.TheVariants.{Like, Elements}
use Rattle.sql_ast.specs.declared.table.TableStatement.TheVariants as tables
use Rattle.sql_ast.specs.declared.view.Select.{Select}
use Rattle.sql_ast.specs.declared.view.ViewStatement.TheVariants as views

-- ---- schemas and the session; each says first whether IF [NOT] EXISTS stands, where it may

abbrev pub create_database : Bool → List ℕ → Statement
create_database if_not_exists name = is.Schema (schemas.Create if_not_exists name)

abbrev pub drop_database : Bool → List ℕ → Statement
drop_database if_exists name = is.Schema (schemas.Drop if_exists name)

abbrev pub use_schema : List ℕ → Statement
use_schema name = is.Session (sessions.Use name)

abbrev pub set_tries : ℕ → Statement
set_tries value = is.Session (sessions.SetTries value)

-- ---- tables and their indexes

abbrev pub create_table : Bool → ObjRef → List Element → Statement
create_table if_not_exists table elements = is.Table (tables.Create (record { if_not_exists = if_not_exists; table = table; body = Elements elements }))

-- the table, and its pattern
abbrev pub create_like : Bool → ObjRef → ObjRef → Statement
create_like if_not_exists table source = is.Table (tables.Create (record { if_not_exists = if_not_exists; table = table; body = Like source }))

abbrev pub drop_table : Bool → List ObjRef → Statement
drop_table if_exists dropped = is.Table (tables.Drop if_exists dropped)

abbrev pub rename_tables : List RenamePair → Statement
rename_tables pairs = is.Table (tables.Rename pairs)

abbrev pub truncate_table : ObjRef → Statement
truncate_table table = is.Table (tables.Truncate table)

abbrev pub alter_table : ObjRef → List AlterAction → Statement
alter_table table actions = is.Table (tables.Alter table actions)

-- whether it is unique, its name, its table and its columns
abbrev pub create_index : Bool → List ℕ → ObjRef → List (List ℕ) → Statement
create_index unique name table columns = is.Table (tables.Index (indexes.Create unique name table columns))

abbrev pub drop_index : List ℕ → ObjRef → Statement
drop_index name table = is.Table (tables.Index (indexes.Drop name table))

-- ---- views

abbrev pub create_view : ObjRef → Option (List (List ℕ)) → Select → Statement
create_view view columns query = is.View (views.Create view columns query)

abbrev pub drop_view : Bool → List ObjRef → Statement
drop_view if_exists dropped = is.View (views.Drop if_exists dropped)

-- ---- SHOW and TABLE

abbrev pub show_databases : Statement
show_databases = is.Show shows.Databases

abbrev pub show_tables : Option (List ℕ) → Statement
show_tables schema = is.Show (shows.Tables schema)

abbrev pub show_columns : ObjRef → Statement
show_columns object = is.Show (shows.Columns object)

abbrev pub show_create_database : List ℕ → Statement
show_create_database name = is.Show (shows.Creation (creations.Database name))

abbrev pub show_create_table : ObjRef → Statement
show_create_table object = is.Show (shows.Creation (creations.Table object))

abbrev pub show_create_view : ObjRef → Statement
show_create_view object = is.Show (shows.Creation (creations.View object))

abbrev pub information_table : List ℕ → Statement
information_table name = is.Show (shows.Information name)
