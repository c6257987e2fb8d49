-- The text of the actions of ALTER TABLE.
use Rattle.std.specs.Prelude.{Bool, true, List, [], ◌∷◌, ◌++◌, ◌&&◌}
use Rattle.dd_names.specs.Names.{is_name}
use Rattle.sql_ast.specs.declared.action.Place.{Place}
use Rattle.sql_ast.specs.declared.action.Place.TheVariants.{First, After}
use Rattle.sql_ast.specs.declared.action.AlterAction.{AlterAction}
use Rattle.sql_ast.specs.declared.action.AlterAction.TheVariants as does
use Rattle.sql_pieces.specs.Pieces.{Piece, as_name}
use Rattle.sql_text.specs.Parts.{word, opens, closes, divided, object_pieces, where_some, is_object, if_some, some_each}
use Rattle.sql_text.specs.Columns.{literal_pieces, column_pieces, is_literal, is_column}
use Rattle.sql_text.specs.Keys.{key_pieces, foreign_key_pieces, is_key, is_foreign_key}

-- FIRST | AFTER name
abbrev pub place_pieces : Place → List Piece
place_pieces First = word "FIRST" ∷ []
place_pieces (After n) = word "AFTER" ∷ as_name n ∷ []

-- one of: ADD name column [place], ADD ( name column {, name column} ), ADD key, DROP name, MODIFY name column [place],
-- CHANGE name name column [place], RENAME COLUMN name TO name, ALTER name SET DEFAULT literal, ALTER name DROP DEFAULT,
-- DROP INDEX name, DROP PRIMARY KEY, DROP FOREIGN KEY name, RENAME INDEX name TO name, RENAME object, FORCE, ENGINE InnoDB
abbrev pub action_pieces : AlterAction → List Piece
action_pieces (does.AddColumn c place) = word "ADD" ∷ (column_pieces c ++ where_some place_pieces place)
action_pieces (does.AddColumns cs) = word "ADD" ∷ opens ∷ (divided column_pieces cs ++ closes ∷ [])
action_pieces (does.AddKey k) = word "ADD" ∷ key_pieces k
action_pieces (does.AddForeignKey f) = word "ADD" ∷ foreign_key_pieces f
action_pieces (does.DropColumn n) = word "DROP" ∷ as_name n ∷ []
action_pieces (does.ModifyColumn c place) = word "MODIFY" ∷ (column_pieces c ++ where_some place_pieces place)
action_pieces (does.ChangeColumn n c place) = word "CHANGE" ∷ as_name n ∷ (column_pieces c ++ where_some place_pieces place)
action_pieces (does.RenameColumn from to) = word "RENAME" ∷ word "COLUMN" ∷ as_name from ∷ word "TO" ∷ as_name to ∷ []
action_pieces (does.SetDefault n literal) = word "ALTER" ∷ as_name n ∷ word "SET" ∷ word "DEFAULT" ∷ literal_pieces literal
action_pieces (does.DropDefault n) = word "ALTER" ∷ as_name n ∷ word "DROP" ∷ word "DEFAULT" ∷ []
action_pieces (does.DropIndex n) = word "DROP" ∷ word "INDEX" ∷ as_name n ∷ []
action_pieces does.DropPrimaryKey = word "DROP" ∷ word "PRIMARY" ∷ word "KEY" ∷ []
action_pieces (does.DropForeignKey n) = word "DROP" ∷ word "FOREIGN" ∷ word "KEY" ∷ as_name n ∷ []
action_pieces (does.RenameIndex from to) = word "RENAME" ∷ word "INDEX" ∷ as_name from ∷ word "TO" ∷ as_name to ∷ []
action_pieces (does.RenameTable to) = word "RENAME" ∷ object_pieces to
action_pieces does.Force = word "FORCE" ∷ []
action_pieces does.Engine = word "ENGINE" ∷ word "InnoDB" ∷ []

-- ---- which of these have a text

abbrev pub is_place : Place → Bool
is_place First = true
is_place (After n) = is_name n

abbrev pub is_action : AlterAction → Bool
is_action (does.AddColumn c place) = is_column c && if_some is_place place
is_action (does.AddColumns cs) = some_each is_column cs
is_action (does.AddKey k) = is_key k
is_action (does.AddForeignKey f) = is_foreign_key f
is_action (does.DropColumn n) = is_name n
is_action (does.ModifyColumn c place) = is_column c && if_some is_place place
is_action (does.ChangeColumn n c place) = is_name n && is_column c && if_some is_place place
is_action (does.RenameColumn from to) = is_name from && is_name to
is_action (does.SetDefault n literal) = is_name n && is_literal literal
is_action (does.DropDefault n) = is_name n
is_action (does.DropIndex n) = is_name n
is_action does.DropPrimaryKey = true
is_action (does.DropForeignKey n) = is_name n
is_action (does.RenameIndex from to) = is_name from && is_name to
is_action (does.RenameTable to) = is_object to
is_action does.Force = true
is_action does.Engine = true
