-- The canonical text of a statement: its tokens divided by one blank.
use Rattle.std.specs.Prelude.{ℕ, Bool, true, false, List, [], ◌∷◌, ◌++◌, decimal, ◌&&◌}
use Rattle.dd_names.specs.Names.{is_name}
use Rattle.sql_ast.specs.declared.element.Element.{Element}
use Rattle.sql_ast.specs.declared.schema.SchemaStatement.{SchemaStatement}
use Rattle.sql_ast.specs.declared.schema.SchemaStatement.TheVariants as schemas
use Rattle.sql_ast.specs.declared.session.SessionStatement.{SessionStatement}
use Rattle.sql_ast.specs.declared.session.SessionStatement.TheVariants as sessions
use Rattle.sql_ast.specs.declared.show.ShowStatement.{ShowStatement}
use Rattle.sql_ast.specs.declared.show.ShowStatement.TheVariants as shows
use Rattle.sql_ast.specs.declared.show.ShownCreation.{ShownCreation}
use Rattle.sql_ast.specs.declared.show.ShownCreation.TheVariants as creations
use Rattle.sql_ast.specs.declared.table.IndexStatement.{IndexStatement}
use Rattle.sql_ast.specs.declared.table.IndexStatement.TheVariants as indexes
use Rattle.sql_ast.specs.declared.table.RenamePair.{RenamePair}
use Rattle.sql_ast.specs.declared.table.TableBody.{TableBody}
use Rattle.sql_ast.specs.declared.table.TableBody.TheVariants as bodies
use Rattle.sql_ast.specs.declared.table.TableStatement.{TableStatement}
use Rattle.sql_ast.specs.declared.table.TableStatement.TheVariants as tables
use Rattle.sql_ast.specs.declared.view.ViewStatement.{ViewStatement}
use Rattle.sql_ast.specs.declared.view.ViewStatement.TheVariants as views
use Rattle.sql_ast.specs.declared.statement.Statement.{Statement}
use Rattle.sql_ast.specs.declared.statement.Statement.TheVariants as is
use Rattle.sql_pieces.specs.Pieces.{Piece, as_name, as_sign, as_digits, written, spaced}
use Rattle.sql_text.specs.Parts.{word, opens, closes, divided, where_some, where_true, names_pieces, object_pieces, if_not_exists_pieces, if_exists_pieces, is_number, are_names, is_object, if_some, some_each}
use Rattle.sql_text.specs.Keys.{element_pieces, is_element}
use Rattle.sql_text.specs.Actions.{action_pieces, is_action}
use Rattle.sql_text.specs.Views.{select_pieces, is_select}

-- ---- parts

-- ( element {, element} )
abbrev pub elements_pieces : List Element → List Piece
elements_pieces elements = opens ∷ (divided element_pieces elements ++ closes ∷ [])

-- LIKE object | ( element {, element} )
abbrev pub body_pieces : TableBody → List Piece
body_pieces (bodies.Like source) = word "LIKE" ∷ object_pieces source
body_pieces (bodies.Elements elements) = elements_pieces elements

-- object TO object
abbrev pub pair_pieces : RenamePair → List Piece
pair_pieces pair = object_pieces pair.from ++ word "TO" ∷ object_pieces pair.to

-- FROM name
abbrev pub from_pieces : List ℕ → List Piece
from_pieces schema = word "FROM" ∷ as_name schema ∷ []

-- ---- the tokens of a statement, each statement by the first of its spellings

abbrev pub schema_canonical : SchemaStatement → List Piece
schema_canonical (schemas.Create if_not_exists name) = word "CREATE" ∷ word "DATABASE" ∷ (if_not_exists_pieces if_not_exists ++ as_name name ∷ [])
schema_canonical (schemas.Drop if_exists name) = word "DROP" ∷ word "DATABASE" ∷ (if_exists_pieces if_exists ++ as_name name ∷ [])

abbrev pub index_canonical : IndexStatement → List Piece
index_canonical (indexes.Create unique name table columns) =
    word "CREATE" ∷ (where_true (word "UNIQUE" ∷ []) unique ++ word "INDEX" ∷ as_name name ∷ word "ON" ∷ (object_pieces table ++ names_pieces columns))
index_canonical (indexes.Drop name table) = word "DROP" ∷ word "INDEX" ∷ as_name name ∷ word "ON" ∷ object_pieces table

abbrev pub table_canonical : TableStatement → List Piece
table_canonical (tables.Create words) =
    word "CREATE" ∷ word "TABLE" ∷ (if_not_exists_pieces words.if_not_exists ++ (object_pieces words.table ++ body_pieces words.body))
table_canonical (tables.Drop if_exists dropped) = word "DROP" ∷ word "TABLE" ∷ (if_exists_pieces if_exists ++ divided object_pieces dropped)
table_canonical (tables.Rename pairs) = word "RENAME" ∷ word "TABLE" ∷ divided pair_pieces pairs
table_canonical (tables.Truncate table) = word "TRUNCATE" ∷ object_pieces table
table_canonical (tables.Alter table actions) = word "ALTER" ∷ word "TABLE" ∷ (object_pieces table ++ divided action_pieces actions)
table_canonical (tables.Index statement) = index_canonical statement

abbrev pub view_canonical : ViewStatement → List Piece
view_canonical (views.Create view columns query) =
    word "CREATE" ∷ word "VIEW" ∷ (object_pieces view ++ (where_some names_pieces columns ++ word "AS" ∷ select_pieces query))
view_canonical (views.Drop if_exists dropped) = word "DROP" ∷ word "VIEW" ∷ (if_exists_pieces if_exists ++ divided object_pieces dropped)

abbrev pub creation_canonical : ShownCreation → List Piece
creation_canonical (creations.Database name) = word "SHOW" ∷ word "CREATE" ∷ word "DATABASE" ∷ as_name name ∷ []
creation_canonical (creations.Table object) = word "SHOW" ∷ word "CREATE" ∷ word "TABLE" ∷ object_pieces object
creation_canonical (creations.View object) = word "SHOW" ∷ word "CREATE" ∷ word "VIEW" ∷ object_pieces object

abbrev pub show_canonical : ShowStatement → List Piece
show_canonical shows.Databases = word "SHOW" ∷ word "DATABASES" ∷ []
show_canonical (shows.Tables schema) = word "SHOW" ∷ word "TABLES" ∷ where_some from_pieces schema
show_canonical (shows.Columns object) = word "SHOW" ∷ word "COLUMNS" ∷ word "FROM" ∷ object_pieces object
show_canonical (shows.Creation shown) = creation_canonical shown
show_canonical (shows.Information table) = word "TABLE" ∷ word "INFORMATION_SCHEMA" ∷ as_sign 46 ∷ as_name table ∷ []

abbrev pub session_canonical : SessionStatement → List Piece
session_canonical (sessions.Use name) = word "USE" ∷ as_name name ∷ []
session_canonical (sessions.SetTries value) = word "SET" ∷ word "lock_wait_timeout" ∷ as_sign 61 ∷ as_digits (decimal value) ∷ []

-- a text outside the grammar has none
abbrev pub canonical : Statement → List Piece
canonical (is.Schema statement) = schema_canonical statement
canonical (is.Table statement) = table_canonical statement
canonical (is.View statement) = view_canonical statement
canonical (is.Show statement) = show_canonical statement
canonical (is.Session statement) = session_canonical statement
canonical (is.Bad error) = []

-- the bytes of the canonical text
abbrev pub canonical_text : Statement → List ℕ
canonical_text s = written (spaced (canonical s))

-- ---- which statements have a text

abbrev pub is_pair : RenamePair → Bool
is_pair pair = is_object pair.from && is_object pair.to

abbrev pub is_body : TableBody → Bool
is_body (bodies.Like source) = is_object source
is_body (bodies.Elements elements) = some_each is_element elements

abbrev pub schema_is_spellable : SchemaStatement → Bool
schema_is_spellable (schemas.Create if_not_exists name) = is_name name
schema_is_spellable (schemas.Drop if_exists name) = is_name name

abbrev pub index_is_spellable : IndexStatement → Bool
index_is_spellable (indexes.Create unique name table columns) = is_name name && is_object table && are_names columns
index_is_spellable (indexes.Drop name table) = is_name name && is_object table

abbrev pub table_is_spellable : TableStatement → Bool
table_is_spellable (tables.Create words) = is_object words.table && is_body words.body
table_is_spellable (tables.Drop if_exists dropped) = some_each is_object dropped
table_is_spellable (tables.Rename pairs) = some_each is_pair pairs
table_is_spellable (tables.Truncate table) = is_object table
table_is_spellable (tables.Alter table actions) = is_object table && some_each is_action actions
table_is_spellable (tables.Index statement) = index_is_spellable statement

abbrev pub view_is_spellable : ViewStatement → Bool
view_is_spellable (views.Create view columns query) = is_object view && if_some are_names columns && is_select query
view_is_spellable (views.Drop if_exists dropped) = some_each is_object dropped

abbrev pub creation_is_spellable : ShownCreation → Bool
creation_is_spellable (creations.Database name) = is_name name
creation_is_spellable (creations.Table object) = is_object object
creation_is_spellable (creations.View object) = is_object object

abbrev pub show_is_spellable : ShowStatement → Bool
show_is_spellable shows.Databases = true
show_is_spellable (shows.Tables schema) = if_some is_name schema
show_is_spellable (shows.Columns object) = is_object object
show_is_spellable (shows.Creation shown) = creation_is_spellable shown
show_is_spellable (shows.Information table) = is_name table

abbrev pub session_is_spellable : SessionStatement → Bool
session_is_spellable (sessions.Use name) = is_name name
session_is_spellable (sessions.SetTries value) = is_number value

-- Whether the statement has a text: it isn't a text outside the grammar, its names are names, its numbers fit 128 bits, no
-- list is empty where the grammar wants one, and keys have the names that the grammar gives them.
abbrev pub is_spellable : Statement → Bool
is_spellable (is.Schema statement) = schema_is_spellable statement
is_spellable (is.Table statement) = table_is_spellable statement
is_spellable (is.View statement) = view_is_spellable statement
is_spellable (is.Show statement) = show_is_spellable statement
is_spellable (is.Session statement) = session_is_spellable statement
is_spellable (is.Bad error) = false
