-- Statements whose names are names, as each statement's are by its types.
use Rattle.std.specs.Prelude.{ℕ, Bool, true, ◌&&◌, List, Option, Some, None}
use Rattle.std.specs.List.{list_all}
use Rattle.dd_names.specs.Names.{is_name}
use Rattle.sql_types.specs.declared.words.ColumnWords.{ColumnWords}
use Rattle.sql_types.specs.declared.words.FkWords.{FkWords}
use Rattle.sql_types.specs.declared.words.KeyWords.{KeyWords}
use Rattle.sql_types.specs.declared.words.ObjRef.{ObjRef}
use Rattle.sql_ast.specs.declared.element.Element.{Element}
use Rattle.sql_ast.specs.declared.element.Element.TheVariants as elements
use Rattle.sql_ast.specs.declared.schema.SchemaStatement.{SchemaStatement}
use Rattle.sql_ast.specs.declared.schema.SchemaStatement.TheVariants as schemas
use Rattle.sql_ast.specs.declared.session.SessionState.{SessionState}
use Rattle.sql_ast.specs.declared.session.SessionStatement.{SessionStatement}
use Rattle.sql_ast.specs.declared.session.SessionStatement.TheVariants as sessions
use Rattle.sql_ast.specs.declared.statement.Statement.{Statement}
use Rattle.sql_ast.specs.declared.statement.Statement.TheVariants as is
use Rattle.sql_ast.specs.declared.table.RenamePair.{RenamePair}
use Rattle.sql_ast.specs.declared.table.TableBody.{TableBody}
use Rattle.sql_ast.specs.declared.table.TableBody.TheVariants as bodies
use Rattle.sql_ast.specs.declared.table.TableStatement.{TableStatement}
use Rattle.sql_ast.specs.declared.table.TableStatement.TheVariants as tables

-- ---- parts

-- a name, where there is one
abbrev pub is_named : Option (List ℕ) → Bool
is_named None = true
is_named (Some name) = is_name name

abbrev pub is_object_named : ObjRef → Bool
is_object_named object = is_named object.schema && is_name object.name

abbrev pub is_column_named : ColumnWords → Bool
is_column_named column = is_name column.name

abbrev pub is_key_named : KeyWords → Bool
is_key_named key = is_named key.constraint && is_named key.name && list_all is_name key.columns

abbrev pub is_foreign_key_named : FkWords → Bool
is_foreign_key_named key =
    is_named key.constraint && is_named key.name && list_all is_name key.columns && is_object_named key.parent && list_all is_name key.parent_columns

abbrev pub is_element_named : Element → Bool
is_element_named (elements.Column column) = is_column_named column
is_element_named (elements.Key key) = is_key_named key
is_element_named (elements.ForeignKey key) = is_foreign_key_named key

abbrev pub is_pair_named : RenamePair → Bool
is_pair_named pair = is_object_named pair.from && is_object_named pair.to

-- ---- statements that change something

abbrev pub schema_says_names : SchemaStatement → Bool
schema_says_names (schemas.Create if_not_exists name) = is_name name
schema_says_names (schemas.Drop if_exists name) = is_name name

abbrev pub body_says_names : TableBody → Bool
body_says_names (bodies.Like source) = is_object_named source
body_says_names (bodies.Elements said) = list_all is_element_named said

abbrev pub table_says_names : TableStatement → Bool
table_says_names (tables.Create words) = is_object_named words.table && body_says_names words.body
table_says_names (tables.Rename pairs) = list_all is_pair_named pairs
table_says_names statement = true

abbrev pub session_says_names : SessionStatement → Bool
session_says_names (sessions.Use name) = is_name name
session_says_names (sessions.SetTries value) = true

-- each name is one from which a statement that is decided so far makes a schema, a table or the current schema
abbrev pub says_names : Statement → Bool
says_names (is.Schema statement) = schema_says_names statement
says_names (is.Table statement) = table_says_names statement
says_names (is.Session statement) = session_says_names statement
says_names statement = true

-- the current schema, if there is one, is a name
abbrev pub session_is_named : SessionState → Bool
session_is_named session = is_named session.current
