-- The columns of a table.
use Rattle.std.specs.Prelude.{ℕ, Bool, true, false, ◌&&◌, nat_le, List, length}
use Rattle.std.specs.List.{list_all, list_any, count_by}
use Rattle.std.specs.Str.{bytes_eq}
use Rattle.dd_names.specs.Names.{same}
use Rattle.sql_types.specs.declared.choices.ColumnType.{ColumnType}
use Rattle.sql_types.specs.declared.choices.ColumnType.TheVariants as kinds
use Rattle.dd_definitions.specs.declared.columns.ColumnDef.{ColumnDef}
use Rattle.dd_definitions.specs.Defaults.{is_fitting_default}
use Rattle.dd_definitions.specs.Distinct.{are_distinct}

-- the names of the two differ in case at most
abbrev pub is_same_column : ColumnDef → ColumnDef → Bool
is_same_column a b = same a.name b.name

-- there are 1 to 1017 columns, whose names differ in more than case
unfoldable pub are_columns_named : List ColumnDef → Bool
are_columns_named columns = nat_le 1 (length columns) && nat_le (length columns) 1017 && are_distinct is_same_column columns

-- a CHAR has at most 255 characters and a VARCHAR at most 16383
unfoldable pub is_short_type : ColumnType → Bool
is_short_type (kinds.Int size unsigned) = true
is_short_type kinds.Bool = true
is_short_type (kinds.Char most) = nat_le most 255
is_short_type (kinds.VarChar most) = nat_le most 16383
is_short_type kinds.Date = true
is_short_type kinds.DateTime = true

-- the type is within its limit, and a default fits it
unfoldable pub is_typed : ColumnDef → Bool
is_typed column = is_short_type column.kind && is_fitting_default column.kind column.default

-- the columns of a table, each by itself and beside the others
unfoldable pub are_columns_formed : List ColumnDef → Bool
are_columns_formed columns = are_columns_named columns && list_all is_typed columns

-- a column is spelled so, byte for byte
unfoldable pub is_column : List ColumnDef → List ℕ → Bool
is_column columns name = list_any (λ (c : ColumnDef). bytes_eq c.name name) columns

-- a column that is spelled so may be NULL
unfoldable pub is_nullable : List ColumnDef → List ℕ → Bool
is_nullable columns name = list_any (λ (c : ColumnDef). bytes_eq c.name name && c.nullable) columns

-- 1 to 16 names of columns, spelled as the table spells them, no two alike
unfoldable pub are_key_columns : List ColumnDef → List (List ℕ) → Bool
are_key_columns columns names =
    nat_le 1 (length names) && nat_le (length names) 16 && are_distinct bytes_eq names && list_all (is_column columns) names
