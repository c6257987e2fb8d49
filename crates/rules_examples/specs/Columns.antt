-- Columns, and the defaults that each type keeps.
use Rattle.std.specs.Prelude.{ℕ, true, false, List, [], ◌∷◌, Some, None, codes}
use Prim.Native.String.{String}
use Rattle.dd_errors.specs.Errors.{ErrorValue}
use Rattle.sql_types.specs.declared.choices.IntSize.{IntSize}
use Rattle.sql_types.specs.declared.choices.IntSize.TheVariants.{Tiny, Small, Medium, Normal, Big}
use Rattle.sql_types.specs.declared.choices.ColumnType.{ColumnType}
use Rattle.sql_types.specs.declared.choices.ColumnType.TheVariants as types
use Rattle.sql_types.specs.declared.literal.Literal.{Literal}
use Rattle.sql_types.specs.declared.literal.Literal.TheVariants.{Null, Number, Str}
use Rattle.sql_types.specs.declared.words.TypeWords.{TypeWords}
use Rattle.sql_types.specs.declared.words.TypeWords.TheVariants as words
use Rattle.dd_definitions.specs.declared.columns.ColumnDef.{ColumnDef}
use Rattle.dd_catalog.specs.Walks.{Walk, Found, fine}
use Rattle.rules_elements.specs.Columns.{column_of}
use Rattle.rules_examples.specs.Words.{error, written, kept, int_words, int}

abbrev pub Case : Type 0
Case = Walk ErrorValue ColumnDef × Found ErrorValue ColumnDef

-- a type of a few bits or characters, as it is written and as it is kept
abbrev pub Both : Type 0
Both = TypeWords × ColumnType

abbrev pub signed : IntSize → Both
signed size = (words.Int size false, types.Int size false)

abbrev pub unsigned : IntSize → Both
unsigned size = (words.Int size true, types.Int size true)

abbrev pub bool : Both
bool = (words.Bool, types.Bool)

abbrev pub char : ℕ → Both
char length = (words.Char length, types.Char length)

abbrev pub var_char : ℕ → Both
var_char length = (words.VarChar length, types.VarChar length)

-- a column with a default, and the text that is kept
abbrev pub keeps : Both → Literal → String → Case
keeps both literal text = (column_of (written both.0 None (Some literal) false), fine (kept both.1 true (Some (codes text)) false))

abbrev pub number : String → Literal
number text = Number (codes text)

abbrev pub text : String → Literal
text words = Str (codes words)

abbrev pub refuses : Both → Literal → Case
refuses both literal = (column_of (written both.0 None (Some literal) false), error 1067 (codes "v" ∷ []))

abbrev pub kept_defaults : List Case
kept_defaults =
    keeps (signed Normal) (number "007") "7"
    ∷ keeps (signed Normal) (number "-0") "0"
    ∷ keeps (signed Normal) (number "+5") "5"
    ∷ keeps (signed Normal) (number "-007") "-7"
    ∷ keeps (signed Normal) (number "000") "0"
    ∷ keeps (signed Normal) (text "+08") "8"
    ∷ keeps (signed Tiny) (number "-128") "-128"
    ∷ keeps (signed Tiny) (number "127") "127"
    ∷ keeps (unsigned Tiny) (number "255") "255"
    ∷ keeps (unsigned Tiny) (number "-0") "0"
    ∷ keeps bool (number "127") "127"
    ∷ keeps (signed Small) (number "-32768") "-32768"
    ∷ keeps (signed Small) (number "32767") "32767"
    ∷ keeps (unsigned Small) (number "65535") "65535"
    ∷ keeps (signed Medium) (number "-8388608") "-8388608"
    ∷ keeps (signed Medium) (number "8388607") "8388607"
    ∷ keeps (unsigned Medium) (number "16777215") "16777215"
    ∷ keeps (signed Normal) (number "-2147483648") "-2147483648"
    ∷ keeps (signed Normal) (number "2147483647") "2147483647"
    ∷ keeps (unsigned Normal) (number "4294967295") "4294967295"
    ∷ keeps (signed Big) (number "-9223372036854775808") "-9223372036854775808"
    ∷ keeps (signed Big) (number "9223372036854775807") "9223372036854775807"
    ∷ keeps (unsigned Big) (number "18446744073709551615") "18446744073709551615"
    ∷ keeps (char 3) (text "abc") "abc"
    ∷ keeps (char 2) (number "+007") "7"
    ∷ keeps (var_char 2) (text "07") "07"
    ∷ keeps (var_char 0) (text "") ""
    ∷ []

-- two characters of two bytes each
abbrev pub two_characters : Literal
two_characters = Str (195 ∷ 169 ∷ 195 ∷ 169 ∷ [])

abbrev pub refused_defaults : List Case
refused_defaults =
    refuses (signed Tiny) (number "-129")
    ∷ refuses (signed Tiny) (number "128")
    ∷ refuses (unsigned Tiny) (number "256")
    ∷ refuses (unsigned Tiny) (number "-1")
    ∷ refuses bool (number "128")
    ∷ refuses bool (number "-129")
    ∷ refuses (signed Small) (number "-32769")
    ∷ refuses (signed Small) (number "32768")
    ∷ refuses (unsigned Small) (number "65536")
    ∷ refuses (signed Medium) (number "-8388609")
    ∷ refuses (signed Medium) (number "8388608")
    ∷ refuses (unsigned Medium) (number "16777216")
    ∷ refuses (signed Normal) (number "-2147483649")
    ∷ refuses (signed Normal) (number "2147483648")
    ∷ refuses (unsigned Normal) (number "4294967296")
    ∷ refuses (signed Big) (number "-9223372036854775809")
    ∷ refuses (signed Big) (number "9223372036854775808")
    ∷ refuses (unsigned Big) (number "18446744073709551616")
    ∷ refuses (signed Normal) (text "")
    ∷ refuses (signed Normal) (text "-")
    ∷ refuses (signed Normal) (text "1a")
    ∷ refuses (signed Normal) (text " 1")
    ∷ refuses (char 2) (text "abc")
    ∷ refuses (char 2) (number "100")
    ∷ refuses (var_char 1) two_characters
    ∷ refuses (words.Date, types.Date) (text "2020-01-01")
    ∷ refuses (words.DateTime, types.DateTime) (number "0")
    ∷ []

-- what a column is kept as, and the first of its faults
abbrev pub columns : List Case
columns =
    (column_of (written int_words None None false), fine (kept int true None false))
    ∷ (column_of (written int_words (Some false) None false), fine (kept int false None false))
    ∷ (column_of (written int_words (Some true) (Some Null) false), fine (kept int true None false))
    ∷ (column_of (written words.Date None (Some Null) false), fine (kept types.Date true None false))
    ∷ (column_of (written int_words None None true), fine (kept int false None true))
    ∷ (column_of (written (words.Char 255) None None false), fine (kept (types.Char 255) true None false))
    ∷ (column_of (written (words.VarChar 16383) None None false), fine (kept (types.VarChar 16383) true None false))
    ∷ (column_of (written (words.VarChar 2) None (Some two_characters) false), fine (kept (types.VarChar 2) true (Some (195 ∷ 169 ∷ 195 ∷ 169 ∷ [])) false))
    ∷ (column_of (written (words.Char 256) None None false), error 1074 (codes "v" ∷ codes "255" ∷ []))
    ∷ (column_of (written (words.VarChar 16384) None None false), error 1074 (codes "v" ∷ codes "16383" ∷ []))
    ∷ (column_of (written (words.Char 256) None None true), error 1074 (codes "v" ∷ codes "255" ∷ []))
    ∷ (column_of (written (words.Char 1) None None true), error 1063 (codes "v" ∷ []))
    ∷ (column_of (written words.Date None (Some (text "x")) true), error 1063 (codes "v" ∷ []))
    ∷ (column_of (written int_words (Some false) (Some Null) false), error 1067 (codes "v" ∷ []))
    ∷ (column_of (written int_words None (Some Null) true), error 1067 (codes "v" ∷ []))
    ∷ (column_of (written int_words None (Some (number "1")) true), error 1067 (codes "v" ∷ []))
    ∷ []
