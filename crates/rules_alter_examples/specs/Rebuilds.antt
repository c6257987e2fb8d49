-- Which statements give a table a new tablespace.
use Rattle.std.specs.Prelude.{◌≡◌, Bool, true, false, List, [], ◌∷◌, Some, None, map, codes}
use Rattle.dd_errors.specs.Errors.{ErrorValue}
use Rattle.sql_types.specs.declared.choices.IndexClass.TheVariants.{Primary, Plain}
use Rattle.sql_types.specs.declared.literal.Literal.TheVariants as literals
use Rattle.sql_types.specs.declared.words.TypeWords.TheVariants as words
use Rattle.sql_ast.specs.declared.action.AlterAction.TheVariants as actions
use Rattle.sql_ast.specs.declared.action.Place.TheVariants.{First}
use Rattle.dd_catalog.specs.Walks.{Walk, Found, fine, run}
use Rattle.dd_catalog.specs.WalkLaws.{go_on}
use Rattle.rules_outcome.specs.Choices.{Choice, takes_space}
use Rattle.rules_alter_examples.specs.Catalogs.{alter, bigint_words, column, int_words, key_words, known, named, not_null_column, reference}

abbrev pub takes : Walk ErrorValue Choice → Found ErrorValue Bool
takes check = go_on (run known check) (λ choice. fine (takes_space choice))

-- each of the statements is done, and takes a number for a tablespace or takes none
abbrev pub AllTake : List (Walk ErrorValue Choice × Bool) → Type 0
AllTake cases = map (λ (c : Walk ErrorValue Choice × Bool). takes c.0) cases ≡ map (λ (c : Walk ErrorValue Choice × Bool). fine c.1) cases

abbrev pub whole_rebuilt : List (Walk ErrorValue Choice × Bool)
whole_rebuilt =
    (alter "t" [], false)
    ∷ (alter "t" (actions.Force ∷ []), true)
    ∷ (alter "t" (actions.Engine ∷ []), true)
    ∷ (alter "t" (actions.RenameTable (named "q") ∷ []), false)
    ∷ (alter "t" (actions.RenameTable (named "q") ∷ actions.Force ∷ []), true)
    ∷ []

abbrev pub columns_rebuilt : List (Walk ErrorValue Choice × Bool)
columns_rebuilt =
    (alter "t" (actions.AddColumn (column "c" int_words) None ∷ []), false)
    ∷ (alter "t" (actions.AddColumn (column "c" int_words) (Some First) ∷ []), false)
    ∷ (alter "c" (actions.AddColumn (record (column "k" int_words) { primary = true }) None ∷ []), true)
    ∷ (alter "t" (actions.AddColumns (column "c" int_words ∷ column "e" words.Date ∷ []) ∷ []), false)
    ∷ (alter "t" (actions.DropColumn (codes "b") ∷ []), false)
    ∷ (alter "t" (actions.DropColumn (codes "a") ∷ []), true)
    ∷ (alter "t" (actions.ModifyColumn (column "b" int_words) None ∷ []), false)
    ∷ (alter "t" (actions.ModifyColumn (column "b" int_words) (Some First) ∷ []), false)
    ∷ (alter "t" (actions.ModifyColumn (not_null_column "b" int_words) None ∷ []), false)
    ∷ (alter "t" (actions.ModifyColumn (column "b" bigint_words) None ∷ []), true)
    ∷ (alter "t" (actions.ModifyColumn (column "n" (words.VarChar 6)) None ∷ []), true)
    ∷ (alter "t" (actions.ModifyColumn (column "a" int_words) None ∷ []), false)
    ∷ (alter "t" (actions.ModifyColumn (record (column "a" int_words) { auto = true }) None ∷ []), false)
    ∷ (alter "t" (actions.ChangeColumn (codes "a") (column "k" int_words) None ∷ []), false)
    ∷ (alter "t" (actions.ChangeColumn (codes "b") (column "k" bigint_words) None ∷ []), true)
    ∷ (alter "t" (actions.RenameColumn (codes "a") (codes "k") ∷ []), false)
    ∷ (alter "t" (actions.SetDefault (codes "b") (literals.Str (codes "7")) ∷ []), false)
    ∷ (alter "t" (actions.DropDefault (codes "b") ∷ []), false)
    ∷ []

abbrev pub keys_rebuilt : List (Walk ErrorValue Choice × Bool)
keys_rebuilt =
    (alter "t" (actions.AddKey (key_words Plain None (codes "b" ∷ [])) ∷ []), false)
    ∷ (alter "c" (actions.AddKey (key_words Primary None (codes "p" ∷ [])) ∷ []), true)
    ∷ (alter "t" (actions.DropIndex (codes "ub") ∷ []), false)
    ∷ (alter "t" (actions.DropIndex (codes "primary") ∷ []), true)
    ∷ (alter "t" (actions.DropPrimaryKey ∷ []), true)
    ∷ (alter "t" (actions.DropPrimaryKey ∷ actions.AddKey (key_words Primary None (codes "a" ∷ [])) ∷ []), true)
    ∷ (alter "t" (actions.RenameIndex (codes "ub") (codes "w") ∷ []), false)
    ∷ (alter "t" (actions.AddForeignKey (reference (Some (codes "f")) "b" "p" "id") ∷ []), false)
    ∷ (alter "c" (actions.DropForeignKey (codes "c_ibfk_1") ∷ []), false)
    ∷ []
