-- Each refusal of each action, and the order of refusals.
use Rattle.std.specs.Prelude.{ℕ, true, List, [], ◌∷◌, Some, None, codes}
use Prim.Native.String.{String}
use Rattle.sql_types.specs.declared.choices.FkRule.TheVariants.{SetNull}
use Rattle.sql_types.specs.declared.choices.IndexClass.TheVariants.{Primary, Plain}
use Rattle.sql_types.specs.declared.literal.Literal.TheVariants as literals
use Rattle.sql_types.specs.declared.words.TypeWords.TheVariants as words
use Rattle.sql_ast.specs.declared.action.AlterAction.{AlterAction}
use Rattle.sql_ast.specs.declared.action.AlterAction.TheVariants as actions
use Rattle.sql_ast.specs.declared.action.Place.TheVariants.{After}
use Rattle.rules_alter.specs.Statements.{alter_table, create_index, drop_index}
use Rattle.rules_alter_examples.specs.Catalogs.{Case, alter, bigint_words, column, error, int_words, key_words, named, not_null_column, null_column, reference, session}

abbrev one : String → AlterAction → ℕ → List (List ℕ) → Case
one table action number args = (alter table (action ∷ []), error number args)

-- the table, and a new name of it
abbrev pub tables_refused : List Case
tables_refused =
    (alter "x" [], error 1146 (codes "d" ∷ codes "x" ∷ []))
    ∷ (alter "v" [], error 1347 (codes "d" ∷ codes "v" ∷ codes "BASE TABLE" ∷ []))
    ∷ (alter_table (record session { current = None }) (named "t") [], error 1046 [])
    ∷ (alter_table session (record { schema = Some (codes "f"); name = codes "t" }) [], error 1049 (codes "f" ∷ []))
    ∷ one "t" (actions.RenameTable (record { schema = Some (codes "f"); name = codes "t" })) 1049 (codes "f" ∷ [])
    ∷ one "t" (actions.RenameTable (named "p")) 1050 (codes "p" ∷ [])
    ∷ one "t" (actions.RenameTable (named "t")) 1050 (codes "t" ∷ [])
    ∷ (alter "s" (actions.RenameTable (named "c") ∷ actions.RenameTable (named "q") ∷ actions.RenameTable (named "v") ∷ []), error 1050 (codes "v" ∷ []))
    ∷ []

abbrev pub columns_refused : List Case
columns_refused =
    -- ADD COLUMN
    one "t" (actions.AddColumn (column "A" int_words) None) 1060 (codes "A" ∷ [])
    ∷ one "t" (actions.AddColumn (column "c" (words.Char 256)) None) 1074 (codes "c" ∷ codes "255" ∷ [])
    ∷ one "t" (actions.AddColumn (record (column "c" words.Date) { auto = true }) None) 1063 (codes "c" ∷ [])
    ∷ one "t" (actions.AddColumn (record (not_null_column "c" int_words) { default = Some literals.Null }) None) 1067 (codes "c" ∷ [])
    ∷ one "t" (actions.AddColumn (column "c" int_words) (Some (After (codes "x")))) 1054 (codes "x" ∷ codes "t" ∷ [])
    ∷ one "t" (actions.AddColumn (column "c" int_words) (Some (After (codes "c")))) 1054 (codes "c" ∷ codes "t" ∷ [])
    ∷ one "t" (actions.AddColumn (record (column "c" int_words) { primary = true }) None) 1068 []
    ∷ one "t" (actions.AddColumn (record (column "c" int_words) { auto = true }) None) 1075 []
    ∷ one "t" (actions.AddColumns (column "c" int_words ∷ column "C" int_words ∷ [])) 1060 (codes "C" ∷ [])
    -- DROP COLUMN
    ∷ one "t" (actions.DropColumn (codes "x")) 1091 (codes "x" ∷ [])
    ∷ one "c" (actions.DropColumn (codes "p")) 1090 []
    ∷ one "s" (actions.DropColumn (codes "UP")) 1828 (codes "UP" ∷ codes "s_ibfk_1" ∷ [])
    ∷ one "s" (actions.DropColumn (codes "id")) 1829 (codes "id" ∷ codes "s_ibfk_1" ∷ codes "s" ∷ [])
    ∷ one "p" (actions.DropColumn (codes "id")) 1829 (codes "id" ∷ codes "c_ibfk_1" ∷ codes "c" ∷ [])
    -- MODIFY and CHANGE COLUMN
    ∷ one "t" (actions.ModifyColumn (column "x" int_words) None) 1054 (codes "x" ∷ codes "t" ∷ [])
    ∷ one "t" (actions.ChangeColumn (codes "a") (column "B" int_words) None) 1060 (codes "B" ∷ [])
    ∷ one "t" (actions.ChangeColumn (codes "a") (column "c" (words.VarChar 16384)) None) 1074 (codes "c" ∷ codes "16383" ∷ [])
    ∷ one "t" (actions.ChangeColumn (codes "a") (column "c" int_words) (Some (After (codes "a")))) 1054 (codes "a" ∷ codes "t" ∷ [])
    ∷ one "t" (actions.ChangeColumn (codes "a") (column "c" int_words) (Some (After (codes "c")))) 1054 (codes "c" ∷ codes "t" ∷ [])
    ∷ one "t" (actions.ModifyColumn (record (column "b" int_words) { primary = true }) None) 1068 []
    ∷ one "t" (actions.ModifyColumn (null_column "a" int_words) None) 1171 []
    ∷ one "t" (actions.ModifyColumn (record (column "a" int_words) { default = Some literals.Null }) None) 1171 []
    -- RENAME COLUMN
    ∷ one "t" (actions.RenameColumn (codes "x") (codes "y")) 1054 (codes "x" ∷ codes "t" ∷ [])
    ∷ one "t" (actions.RenameColumn (codes "a") (codes "N")) 1060 (codes "N" ∷ [])
    -- defaults
    ∷ one "t" (actions.SetDefault (codes "x") literals.Null) 1054 (codes "x" ∷ codes "t" ∷ [])
    ∷ one "t" (actions.SetDefault (codes "A") literals.Null) 1067 (codes "A" ∷ [])
    ∷ one "t" (actions.SetDefault (codes "b") (literals.Str (codes "x"))) 1067 (codes "b" ∷ [])
    ∷ one "t" (actions.DropDefault (codes "x")) 1054 (codes "x" ∷ codes "t" ∷ [])
    ∷ []

abbrev pub keys_refused : List Case
keys_refused =
    one "t" (actions.AddKey (key_words Primary None (codes "b" ∷ []))) 1068 []
    ∷ one "t" (actions.AddKey (key_words Plain (Some (codes "primary")) (codes "b" ∷ []))) 1280 (codes "primary" ∷ [])
    ∷ one "t" (actions.AddKey (key_words Plain None (codes "x" ∷ []))) 1072 (codes "x" ∷ [])
    ∷ one "t" (actions.AddKey (key_words Plain None (codes "b" ∷ codes "B" ∷ []))) 1060 (codes "B" ∷ [])
    ∷ one "t" (actions.AddKey (key_words Plain (Some (codes "UB")) (codes "a" ∷ []))) 1061 (codes "UB" ∷ [])
    ∷ (create_index session true (codes "kn") (named "t") (codes "a" ∷ []), error 1061 (codes "kn" ∷ []))
    -- NULL is written for the column by this statement, under whatever name
    ∷ (alter "c" (actions.ModifyColumn (null_column "p" int_words) None ∷ actions.AddKey (key_words Primary None (codes "p" ∷ [])) ∷ []), error 1171 [])
    ∷ (alter "c" (actions.SetDefault (codes "p") literals.Null ∷ actions.RenameColumn (codes "p") (codes "q") ∷ actions.AddKey (key_words Primary None (codes "q" ∷ [])) ∷ []), error 1171 [])
    -- DROP INDEX and DROP PRIMARY KEY
    ∷ one "t" (actions.DropIndex (codes "x")) 1091 (codes "x" ∷ [])
    ∷ one "c" (actions.DropPrimaryKey) 1091 (codes "PRIMARY" ∷ [])
    ∷ one "c" (actions.DropIndex (codes "P")) 1553 (codes "P" ∷ [])
    ∷ (drop_index session (codes "p") (named "c"), error 1553 (codes "p" ∷ []))
    ∷ one "p" (actions.DropIndex (codes "primary")) 1553 (codes "primary" ∷ [])
    ∷ one "p" actions.DropPrimaryKey 1553 (codes "PRIMARY" ∷ [])
    ∷ one "s" actions.DropPrimaryKey 1553 (codes "PRIMARY" ∷ [])
    ∷ (alter "t" (actions.AddForeignKey (reference (Some (codes "f")) "b" "p" "id") ∷ actions.DropIndex (codes "ub") ∷ []), error 1553 (codes "ub" ∷ []))
    -- RENAME INDEX
    ∷ one "t" (actions.RenameIndex (codes "x") (codes "PRIMARY")) 1091 (codes "x" ∷ [])
    ∷ one "t" (actions.RenameIndex (codes "primary") (codes "y")) 1280 (codes "primary" ∷ [])
    ∷ one "t" (actions.RenameIndex (codes "ub") (codes "Primary")) 1280 (codes "Primary" ∷ [])
    ∷ one "t" (actions.RenameIndex (codes "ub") (codes "UN")) 1061 (codes "UN" ∷ [])
    ∷ []

abbrev pub foreign_keys_refused : List Case
foreign_keys_refused =
    one "t" (actions.AddForeignKey (reference (Some (codes "f")) "b" "x" "id")) 1824 (codes "x" ∷ [])
    ∷ one "t" (actions.AddForeignKey (record (reference None "b" "p" "id") { parent_columns = [] })) 1239 (codes "foreign key without name" ∷ [])
    ∷ one "t" (actions.AddForeignKey (reference (Some (codes "f")) "b" "t" "n")) 3780 (codes "b" ∷ codes "n" ∷ codes "f" ∷ [])
    -- a column is named as the statement writes it
    ∷ one "t" (actions.AddForeignKey (reference (Some (codes "f")) "B" "t" "n")) 3780 (codes "B" ∷ codes "n" ∷ codes "f" ∷ [])
    ∷ one "t" (actions.AddForeignKey (reference (Some (codes "f")) "a" "c" "q")) 1822 (codes "f" ∷ codes "c" ∷ [])
    ∷ one "t" (actions.AddForeignKey (reference (Some (codes "C_ibfk_1")) "a" "p" "id")) 1826 (codes "C_ibfk_1" ∷ [])
    ∷ one "t" (actions.AddForeignKey (record (reference (Some (codes "f")) "a" "p" "id") { on_delete = SetNull })) 1830 (codes "a" ∷ codes "f" ∷ [])
    ∷ one "t" (actions.AddForeignKey (record (reference (Some (codes "f")) "A" "p" "id") { on_delete = SetNull })) 1830 (codes "A" ∷ codes "f" ∷ [])
    ∷ one "t" (actions.DropForeignKey (codes "x")) 1091 (codes "x" ∷ [])
    -- behind all actions, a column of the child's or of the parent's of another kind
    ∷ one "c" (actions.ModifyColumn (column "p" bigint_words) None) 3780 (codes "p" ∷ codes "id" ∷ codes "c_ibfk_1" ∷ [])
    ∷ one "p" (actions.ChangeColumn (codes "id") (column "k" bigint_words) None) 3780 (codes "p" ∷ codes "k" ∷ codes "c_ibfk_1" ∷ [])
    ∷ []
