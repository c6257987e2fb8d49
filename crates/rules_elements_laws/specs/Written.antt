-- How a refusal names the columns of a foreign key.
use Rattle.std.specs.Prelude.{◌≡◌, ℕ, List, map}
use Rattle.dd_definitions.specs.declared.columns.ColumnDef.{ColumnDef}
use Rattle.dd_catalog.specs.Walks.{fine, run}
use Rattle.dd_catalog.specs.WalkLaws.{Look}
use Rattle.rules_elements.specs.ForeignKeys.{as_written}
use Rattle.rules_elements.specs.Keys.{key_columns}

-- the columns of a key, which the table spells, are named as the statement writes them, each by its own word
abbrev pub ColumnsAreNamedAsWritten : Type 0
ColumnsAreNamedAsWritten = (look : Look) (columns : List ColumnDef) (written spelled : List (List ℕ)) → run look (key_columns columns written) ≡ fine spelled → map (as_written written) spelled ≡ written
