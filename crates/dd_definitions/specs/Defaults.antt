-- Which defaults a column of each type keeps.
use Rattle.std.specs.Prelude.{ℕ, ◌+◌, ◌-◌, ◌*◌, ◌^◌, ◌==◌, Bool, true, false, ◌&&◌, ◌||◌, not, nat_le, List, [], ◌∷◌, length, Option, Some, None, if◌then◌else◌}
use Rattle.std.specs.List.{list_all, count_by}
use Rattle.std.specs.Char.{is_ascii_digit}
use Rattle.sql_types.specs.declared.choices.IntSize.{IntSize}
use Rattle.sql_types.specs.declared.choices.IntSize.TheVariants as sizes
use Rattle.sql_types.specs.declared.choices.ColumnType.{ColumnType}
use Rattle.sql_types.specs.declared.choices.ColumnType.TheVariants as kinds

-- how many bits an integer of a size has
abbrev pub bits : IntSize → ℕ
bits sizes.Tiny = 8
bits sizes.Small = 16
bits sizes.Medium = 24
bits sizes.Normal = 32
bits sizes.Big = 64

-- the greatest number of an integer type, which is unsigned or not
abbrev pub height : IntSize → Bool → ℕ
height size true = 2 ^ bits size - 1
height size false = 2 ^ (bits size - 1) - 1

-- how far the type's least number is below 0
abbrev pub depth : IntSize → Bool → ℕ
depth size true = 0
depth size false = 2 ^ (bits size - 1)

-- the number that decimal digits stand for behind digits that stand for `before`
abbrev pub value_behind : ℕ → List ℕ → ℕ
value_behind before [] = before
value_behind before (digit ∷ digits) = value_behind (10 * before + (digit - 48)) digits

-- one decimal digit or more
abbrev pub are_digits : List ℕ → Bool
are_digits text = nat_le 1 (length text) && list_all is_ascii_digit text

abbrev pub begins_with_zero : List ℕ → Bool
begins_with_zero [] = false
begins_with_zero (digit ∷ digits) = digit == 48

-- the digits of a number from 1 on, without zeros in front, that is at most `most`
unfoldable pub is_positive : ℕ → List ℕ → Bool
is_positive most digits = are_digits digits && not (begins_with_zero digits) && nat_le (value_behind 0 digits) most

abbrev pub is_zero : List ℕ → Bool
is_zero text = begins_with_zero text && nat_le (length text) 1

-- decimal text of a number from -`below` to `above`, without zeros in front, `+` or `-0`
unfoldable pub is_integer_text : ℕ → ℕ → List ℕ → Bool
is_integer_text below above [] = false
is_integer_text below above (c ∷ digits) =
    if c == 45 then is_positive below digits else is_zero (c ∷ digits) || is_positive above (c ∷ digits)

-- a byte of UTF-8 text that begins a character
abbrev pub begins_character : ℕ → Bool
begins_character byte = not (nat_le 128 byte && nat_le byte 191)

-- text of at most `most` characters
unfoldable pub is_short_text : ℕ → List ℕ → Bool
is_short_text most text = nat_le (count_by begins_character text) most

-- a text fits a type: a number of an integer type's range, a text within a string type's length; BOOL is a TINYINT, and none
-- fits DATE and DATETIME
unfoldable pub fits : ColumnType → List ℕ → Bool
fits (kinds.Int size unsigned) text = is_integer_text (depth size unsigned) (height size unsigned) text
fits kinds.Bool text = is_integer_text (depth sizes.Tiny false) (height sizes.Tiny false) text
fits (kinds.Char most) text = is_short_text most text
fits (kinds.VarChar most) text = is_short_text most text
fits kinds.Date text = false
fits kinds.DateTime text = false

-- the default, if there is one, fits the type
abbrev pub is_fitting_default : ColumnType → Option (List ℕ) → Bool
is_fitting_default kind None = true
is_fitting_default kind (Some text) = fits kind text
