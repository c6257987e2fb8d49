-- The definitions that statements leave.
use Rattle.std.specs.Prelude.{ℕ, true, List, [], ◌∷◌, Some, None, codes}
use Prim.Native.String.{String}
use Rattle.dd_errors.specs.Errors.{ErrorValue}
use Rattle.dd_names.specs.declared.object_name.ObjectKey.TheVariants as keys
use Rattle.sql_types.specs.declared.choices.ColumnType.TheVariants as types
use Rattle.sql_types.specs.declared.choices.IndexClass.TheVariants.{Primary, Unique, Plain}
use Rattle.sql_types.specs.declared.words.TypeWords.TheVariants as words
use Rattle.sql_ast.specs.declared.action.AlterAction.TheVariants as actions
use Rattle.sql_ast.specs.declared.action.Place.TheVariants.{First}
use Rattle.dd_definitions.specs.declared.parts.TableParts.{TableParts}
use Rattle.dd_catalog.specs.Walks.{Found, fine}
use Rattle.rules_outcome.specs.Choices.{FreshTable, Gone, KeptTable, Change, Changes, Choice, change}
use Rattle.rules_alter.specs.Statements.{create_index}
use Rattle.rules_alter_examples.specs.Catalogs.{Case, alter, column, in_d, index, int, int_words, key, named, not_null, not_null_column, nullable, reference, session, table, table_c, table_p, table_t}

abbrev kept : String → ℕ → TableParts → Change
kept name space parts = change (keys.Object (in_d name)) (KeptTable space parts)

abbrev fresh : String → TableParts → Change
fresh name parts = change (keys.Object (in_d name)) (FreshTable parts)

abbrev left : List Change → Found ErrorValue Choice
left changes = fine (Changes changes session)

abbrev pub definitions : List Case
definitions =
    -- a renamed column of a parent is renamed in the child, and each action sees what the one before it left
    (
      alter "p" (actions.RenameColumn (codes "id") (codes "k") ∷ actions.AddColumn (column "b" int_words) (Some First) ∷ []),
      left (kept "p" 1 (table "p" (nullable "b" int ∷ not_null "k" int ∷ nullable "a" int ∷ []) (index Primary "PRIMARY" "k" ∷ index Plain "a" "a" ∷ []) [])
          ∷ kept "c" 2 (record table_c { foreign_keys = key "c_ibfk_1" "p" (in_d "p") "k" ∷ [] }) ∷ []),
    )
    ∷ (
      alter "t" (actions.RenameColumn (codes "a") (codes "k") ∷ actions.DropColumn (codes "k") ∷ []),
      left (fresh "t" (table "t" (nullable "b" int ∷ not_null "n" (types.VarChar 5) ∷ []) (index Unique "un" "n" ∷ index Unique "ub" "b" ∷ index Plain "kn" "n" ∷ []) []) ∷ []),
    )
    -- MODIFY keeps the indexes of its column, and an index that comes to another class stands behind those of it
    ∷ (
      alter "t" (actions.ModifyColumn (not_null_column "b" int_words) None ∷ []),
      left (kept "t" 4 (record table_t { columns = not_null "a" int ∷ not_null "b" int ∷ not_null "n" (types.VarChar 5) ∷ [] }) ∷ []),
    )
    ∷ (
      alter "t" (actions.ModifyColumn (column "n" (words.VarChar 5)) None ∷ []),
      left (kept "t" 4 (table "t" (not_null "a" int ∷ nullable "b" int ∷ nullable "n" (types.VarChar 5) ∷ [])
          (index Primary "PRIMARY" "a" ∷ index Unique "ub" "b" ∷ index Unique "un" "n" ∷ index Plain "kn" "n" ∷ []) []) ∷ []),
    )
    -- a new index stands behind those of its class
    ∷ (
      create_index session true (codes "ua") (named "t") (codes "a" ∷ []),
      left (kept "t" 4 (record table_t { indexes = index Primary "PRIMARY" "a" ∷ index Unique "un" "n" ∷ index Unique "ua" "a" ∷ index Unique "ub" "b" ∷ index Plain "kn" "n" ∷ [] }) ∷ []),
    )
    -- the foreign key makes its index, and one that is dropped needs none any more
    ∷ (
      alter "t" (actions.AddColumn (column "c" int_words) None ∷ actions.AddForeignKey (reference (Some (codes "f")) "c" "p" "ID") ∷ []),
      left (kept "t" 4 (record table_t {
        columns = not_null "a" int ∷ nullable "b" int ∷ not_null "n" (types.VarChar 5) ∷ nullable "c" int ∷ [];
        indexes = index Primary "PRIMARY" "a" ∷ index Unique "un" "n" ∷ index Unique "ub" "b" ∷ index Plain "kn" "n" ∷ index Plain "f" "c" ∷ [];
        foreign_keys = key "f" "c" (in_d "p") "id" ∷ [];
      }) ∷ []),
    )
    ∷ (
      alter "c" (actions.DropForeignKey (codes "C_IBFK_1") ∷ actions.DropIndex (codes "p") ∷ []),
      left (kept "c" 2 (record table_c { indexes = []; foreign_keys = [] }) ∷ []),
    )
    -- a table of another name takes its children and its foreign keys with it
    ∷ (
      alter "p" (actions.RenameTable (named "q") ∷ []),
      left (change (keys.Object (in_d "p")) Gone ∷ kept "q" 1 (record table_p { name = in_d "q" }) ∷ kept "c" 2 (record table_c { foreign_keys = key "c_ibfk_1" "p" (in_d "q") "id" ∷ [] }) ∷ []),
    )
    ∷ (
      alter "c" (actions.RenameTable (named "q") ∷ actions.Force ∷ []),
      left (change (keys.Object (in_d "c")) Gone ∷ fresh "q" (record table_c { name = in_d "q"; foreign_keys = key "q_ibfk_1" "p" (in_d "p") "id" ∷ [] }) ∷ []),
    )
    ∷ []
