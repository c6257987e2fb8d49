-- The rules of ALTER TABLE.
use Rattle.std.specs.Prelude.{ℕ, List, Option, Some, None}
use Rattle.sql_grammar.specs.Grammar.{Grammar, means}
use Rattle.sql_grammar.specs.Rules.{◌⊳◌, ◌⊲◌, gives, opt, listed, in_parentheses}
use Rattle.sql_types.specs.declared.literal.Literal.{Literal}
use Rattle.sql_ast.specs.declared.element.Element.{Element}
use Rattle.sql_ast.specs.declared.element.Element.TheVariants.{Column, Key, ForeignKey}
use Rattle.sql_ast.specs.declared.action.Place.{Place}
use Rattle.sql_ast.specs.declared.action.Place.TheVariants.{First, After}
use Rattle.sql_ast.specs.declared.action.AlterAction.{AlterAction}
use Rattle.sql_ast.specs.declared.action.AlterAction.TheVariants as does
use Rattle.sql_ast.specs.GrammarParts.{the, ◌∣◌, ◌&◌, maybe, a_name, object, index_or_key, engine_option}
use Rattle.sql_ast.specs.GrammarColumns.{literal, named_column}
use Rattle.sql_ast.specs.GrammarKeys.{key}

-- [place], where place = FIRST | AFTER name
unfoldable pub place : Grammar (Option Place)
place = opt (gives First (the "FIRST") ∣ means After (the "AFTER" ⊳ a_name))

-- [COLUMN]
unfoldable pub maybe_column : Grammar (Unit {0})
maybe_column = maybe (the "COLUMN")

-- an element that is added
abbrev pub adds : Element → AlterAction
adds (Column column) = does.AddColumn column None
adds (Key k) = does.AddKey k
adds (ForeignKey f) = does.AddForeignKey f

-- name column [place] | ( name column {, name column} )
unfoldable pub added_columns : Grammar AlterAction
added_columns = means (λ p. does.AddColumn p.0 p.1) (named_column & place) ∣ means does.AddColumns (in_parentheses (listed named_column))

-- ADD [COLUMN] name column [place] | ADD [COLUMN] ( name column {, name column} ) | ADD key
unfoldable pub add_action : Grammar AlterAction
add_action = the "ADD" ⊳ ((the "COLUMN" ⊳ added_columns) ∣ added_columns ∣ means adds key)

-- DROP [COLUMN] name | DROP (INDEX|KEY) name | DROP PRIMARY KEY | DROP FOREIGN KEY name
unfoldable pub drop_action : Grammar AlterAction
drop_action = the "DROP" ⊳ (
    means does.DropColumn (the "COLUMN" ⊳ a_name)
    ∣ means does.DropColumn a_name
    ∣ means does.DropIndex (index_or_key ⊳ a_name)
    ∣ gives does.DropPrimaryKey (the "PRIMARY" ⊳ the "KEY")
    ∣ means does.DropForeignKey (the "FOREIGN" ⊳ the "KEY" ⊳ a_name))

-- MODIFY [COLUMN] name column [place]
unfoldable pub modify_action : Grammar AlterAction
modify_action = means (λ p. does.ModifyColumn p.0 p.1) (the "MODIFY" ⊳ maybe_column ⊳ (named_column & place))

-- CHANGE [COLUMN] name name column [place]
unfoldable pub change_action : Grammar AlterAction
change_action = means (λ p. does.ChangeColumn p.0 p.1.0 p.1.1) (the "CHANGE" ⊳ maybe_column ⊳ (a_name & named_column & place))

-- name TO name
unfoldable pub name_to_name : Grammar (List ℕ × List ℕ)
name_to_name = a_name & (the "TO" ⊳ a_name)

-- RENAME COLUMN name TO name | RENAME (INDEX|KEY) name TO name | RENAME [TO|AS] object
unfoldable pub rename_action : Grammar AlterAction
rename_action = the "RENAME" ⊳ (
    means (λ p. does.RenameColumn p.0 p.1) (the "COLUMN" ⊳ name_to_name)
    ∣ means (λ p. does.RenameIndex p.0 p.1) (index_or_key ⊳ name_to_name)
    ∣ means does.RenameTable (maybe (the "TO" ∣ the "AS") ⊳ object))

abbrev pub default_action : List ℕ → Option Literal → AlterAction
default_action name None = does.DropDefault name
default_action name (Some value) = does.SetDefault name value

-- ALTER [COLUMN] name SET DEFAULT literal | ALTER [COLUMN] name DROP DEFAULT
unfoldable pub alter_action : Grammar AlterAction
alter_action = means (λ p. default_action p.0 p.1)
    (the "ALTER" ⊳ maybe_column ⊳ (a_name & (means Some (the "SET" ⊳ the "DEFAULT" ⊳ literal) ∣ gives None (the "DROP" ⊳ the "DEFAULT"))))

-- action = one of these | FORCE | ENGINE [=] InnoDB
unfoldable pub action : Grammar AlterAction
action = add_action ∣ drop_action ∣ modify_action ∣ change_action ∣ rename_action ∣ alter_action
    ∣ gives does.Force (the "FORCE") ∣ gives does.Engine engine_option
