-- What a column has that the rules take.
use Rattle.std.specs.Prelude.{◌≡◌, Bool, true, ◌&&◌, ◌||◌, not}
use Rattle.std.specs.Option.{is_none}
use Rattle.sql_types.specs.declared.words.ColumnWords.{ColumnWords}
use Rattle.dd_definitions.specs.Columns.{is_typed}
use Rattle.dd_definitions.specs.Indexes.{is_integer}
use Rattle.dd_definitions.specs.declared.columns.ColumnDef.{ColumnDef}
use Rattle.dd_catalog.specs.Walks.{fine, run}
use Rattle.dd_catalog.specs.WalkLaws.{Look}
use Rattle.rules_elements.specs.Columns.{column_of}

-- an AUTO_INCREMENT column is of integer type, not nullable and without default
abbrev pub is_auto_by_itself : ColumnDef → Bool
is_auto_by_itself column = not column.auto || (is_integer column.kind && (not column.nullable && is_none column.default))

-- the type is within its limit, a default fits it, and an AUTO_INCREMENT column is as it should be by itself
pub record IsFit (column : ColumnDef) : Type 0 where
  pub typed : is_typed column ≡ true
  pub auto : is_auto_by_itself column ≡ true

-- each column that the rules take is fit
abbrev pub ColumnsAreFit : Type 0
ColumnsAreFit = (look : Look) (words : ColumnWords) (column : ColumnDef) → run look (column_of words) ≡ fine column → IsFit column
