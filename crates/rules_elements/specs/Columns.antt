-- A column by itself, as a statement writes it. Its faults are looked for from left to right: the length is too big, 1074;
-- AUTO_INCREMENT on a type that isn't integer, 1063; the default, 1067.
use Rattle.std.specs.Prelude.{ℕ, Bool, true, ◌&&◌, ◌||◌, not, nat_lt, List, Option, Some, None, unwrap_or, if◌then◌else◌, codes}
use Rattle.dd_errors.specs.Errors.{ErrorValue}
use Rattle.sql_types.specs.declared.choices.ColumnType.{ColumnType}
use Rattle.sql_types.specs.declared.choices.ColumnType.TheVariants as types
use Rattle.sql_types.specs.declared.literal.Literal.{Literal}
use Rattle.sql_types.specs.declared.literal.Literal.TheVariants as literals
use Rattle.sql_types.specs.declared.words.TypeWords.{TypeWords}
use Rattle.sql_types.specs.declared.words.TypeWords.TheVariants as words
use Rattle.sql_types.specs.declared.words.ColumnWords.{ColumnWords}
use Rattle.dd_definitions.specs.Indexes.{is_integer}
use Rattle.dd_definitions.specs.declared.columns.ColumnDef.{ColumnDef}
use Rattle.dd_catalog.specs.Walks.{Walk, done, refuse, ◌>>=◌, refuse_if}
use Rattle.rules_elements.specs.Defaults.{decimal_text, kept_by}
use Rattle.rules_refusals.specs.Refusals.{too_big_fieldlength, wrong_field_spec, invalid_default}

-- a length is at most 255 characters for CHAR and 16383 for VARCHAR
unfoldable pub column_type : List ℕ → TypeWords → Walk ErrorValue ColumnType
column_type column (words.Int size unsigned) = done (types.Int size unsigned)
column_type column words.Bool = done types.Bool
column_type column (words.Char length) = if nat_lt 255 length then refuse (too_big_fieldlength column (codes "255")) else done (types.Char length)
column_type column (words.VarChar length) = if nat_lt 16383 length then refuse (too_big_fieldlength column (codes "16383")) else done (types.VarChar length)
column_type column words.Date = done types.Date
column_type column words.DateTime = done types.DateTime

-- NOT NULL isn't written
abbrev pub is_null_allowed : ColumnWords → Bool
is_null_allowed column = unwrap_or column.nullable true

-- the text that is kept, which an AUTO_INCREMENT column never has
abbrev pub kept_unless : Bool → List ℕ → Option (List ℕ) → Walk ErrorValue (Option (List ℕ))
kept_unless auto column None = refuse (invalid_default column)
kept_unless auto column (Some text) = if auto then refuse (invalid_default column) else done (Some text)

-- NULL is kept as no default
abbrev pub null_kept : ColumnWords → Walk ErrorValue (Option (List ℕ))
null_kept column = if column.auto || not (is_null_allowed column) then refuse (invalid_default column.name) else done None

-- The default as it is kept. NULL is refused for a column that is NOT NULL, any default for one that is AUTO_INCREMENT, and a
-- text that its type doesn't keep. A number is taken as its decimal text.
unfoldable pub kept_default : ColumnWords → ColumnType → Option Literal → Walk ErrorValue (Option (List ℕ))
kept_default column kind None = done None
kept_default column kind (Some literals.Null) = null_kept column
kept_default column kind (Some (literals.Number text)) = kept_unless column.auto column.name (kept_by kind (decimal_text text))
kept_default column kind (Some (literals.Str text)) = kept_unless column.auto column.name (kept_by kind text)

-- AUTO_INCREMENT makes the column NOT NULL
abbrev pub defined_column : ColumnWords → ColumnType → Option (List ℕ) → ColumnDef
defined_column column kind default =
    record { name = column.name; kind = kind; nullable = is_null_allowed column && not column.auto; default = default; auto = column.auto }

-- the column of this type with its default as it is kept
abbrev pub column_with_default : ColumnWords → ColumnType → Walk ErrorValue ColumnDef
column_with_default column kind = kept_default column kind column.default >>= λ default. done (defined_column column kind default)

unfoldable pub column_of : ColumnWords → Walk ErrorValue ColumnDef
column_of column = do
  kind ← column_type column.name column.kind
  _ ← refuse_if (column.auto && not (is_integer kind)) (wrong_field_spec column.name)
  column_with_default column kind
