-- Default values as columns keep them.
use Rattle.std.specs.Prelude.{ℕ, Bool, false, ◌&&◌, ◌==◌, not, nat_le, List, [], ◌∷◌, Option, Some, None, if◌then◌else◌, codes}
use Rattle.sql_types.specs.Numbers.{behind_sign, is_number_text}
use Rattle.sql_types.specs.declared.choices.IntSize.TheVariants as sizes
use Rattle.sql_types.specs.declared.choices.ColumnType.{ColumnType}
use Rattle.sql_types.specs.declared.choices.ColumnType.TheVariants as types
use Rattle.dd_definitions.specs.Defaults.{height, depth, value_behind, begins_with_zero, is_short_text}

-- ## Numbers

abbrev pub is_negative : List ℕ → Bool
is_negative [] = false
is_negative (c ∷ text) = c == 45

-- the digits without zeros in front, and `0` where there are no others
abbrev pub without_zeros : List ℕ → List ℕ
without_zeros [] = codes "0"
without_zeros (digit ∷ digits) = if digit == 48 then without_zeros digits else digit ∷ digits

-- a minus in front of all but zero
abbrev pub signed_text : Bool → List ℕ → List ℕ
signed_text negative digits = if negative && not (begins_with_zero digits) then 45 ∷ digits else digits

-- a number without zeros in front, `+` or `-0`; what isn't a number stays as it is
unfoldable pub decimal_text : List ℕ → List ℕ
decimal_text text = if is_number_text text then signed_text (is_negative text) (without_zeros (behind_sign text)) else text

-- a number from -`below` to `above`
unfoldable pub is_in_range : ℕ → ℕ → List ℕ → Bool
is_in_range below above text = is_number_text text && nat_le (value_behind 0 (behind_sign text)) (if is_negative text then below else above)

-- ## What a type keeps

-- the number, where it is one in the range
unfoldable pub kept_number : ℕ → ℕ → List ℕ → Option (List ℕ)
kept_number below above text = if is_in_range below above text then Some (decimal_text text) else None

-- the text, where it has no more characters than that
unfoldable pub kept_text : ℕ → List ℕ → Option (List ℕ)
kept_text most text = if is_short_text most text then Some text else None

-- the text as the type keeps it, if it does: an integer type a number of its range, a string type a text within its length;
-- BOOL is a TINYINT, and DATE and DATETIME keep none
unfoldable pub kept_by : ColumnType → List ℕ → Option (List ℕ)
kept_by (types.Int size unsigned) text = kept_number (depth size unsigned) (height size unsigned) text
kept_by types.Bool text = kept_number (depth sizes.Tiny false) (height sizes.Tiny false) text
kept_by (types.Char most) text = kept_text most text
kept_by (types.VarChar most) text = kept_text most text
kept_by types.Date text = None
kept_by types.DateTime text = None
