-- The columns of SHOW CREATE TABLE are spelled as the grammar reads them.
use Rattle.std.proofs.Common.{◌≡◌, ℕ, ◌<◌, ◌^◌, Bool, true, false, List, [], ◌∷◌, ◌++◌, Option, Some, None, refl, arith, nat_le}
use Rattle.std.specs.Prelude.{codes}
use Rattle.std.specs.List.{list_all}
use Rattle.std.proofs.lemmas.Bool.{lt-ltb, leb-true}
use Rattle.dd_names.specs.Names.{is_name}
use Rattle.sql_grammar.specs.Lexemes as lexemes
use Rattle.sql_grammar.specs.Lexemes.{width, takes}
use Rattle.sql_grammar.specs.Grammar.{Grammar, one, many}
use Rattle.sql_lex.specs.Bytes.{is_blank}
use Rattle.sql_types.specs.declared.choices.IntSize.{IntSize}
use Rattle.sql_types.specs.declared.choices.IntSize.TheVariants as sizes
use Rattle.sql_types.specs.declared.choices.ColumnType.{ColumnType}
use Rattle.sql_types.specs.declared.choices.ColumnType.TheVariants as types
use Rattle.sql_types.specs.declared.literal.Literal.TheVariants as literals
use Rattle.sql_types.specs.declared.words.TypeWords.{TypeWords}
use Rattle.sql_types.specs.declared.words.TypeWords.TheVariants as kind
use Rattle.dd_definitions.specs.Columns.{is_short_type}
use Rattle.dd_definitions.specs.declared.columns.ColumnDef.{ColumnDef}
use Rattle.sql_ast.specs.declared.element.Element.TheVariants.{Column}
use Rattle.sql_ast.specs.GrammarColumns.{literal, int_size, int_type, unsigned, or_one, a_type, Attribute, null_is, default_is, is_auto, attribute, with_attributes, plain_column, named_column}
use Rattle.sql_ast.specs.GrammarKeys.{element}
use Rattle.sql_pieces.specs.Pieces.{Piece, gap, as_digits, as_string, blank}
use Rattle.sql_text.specs.Parts.{word, number_pieces, is_number}
use Rattle.sql_text.proofs.Spells.{Spells, both, by, by_is, left, right, none, present, absent, a_word, word_then, enclosed, no_more, just_one, one_more}
use Rattle.sql_text.proofs.SpelledParts.{name_spelled, string_spelled, number_spelled}
use Rattle.show_text_laws.specs.Said.{type_said, null_said, default_said, column_said, column_element}
use Rattle.show_text_laws.specs.Pieces.{size_word, sign_pieces, type_pieces, null_pieces, default_pieces, column_pieces}

-- blanks say nothing
pub gap_then : {A : Type 0} {g : Grammar A} {ps : List Piece} {v : A} (bs : List ℕ) → list_all is_blank bs ≡ true → Spells g ps v → Spells g (gap bs ∷ ps) v
gap_then bs e p = let alone = p.alone in record { alone = rw (e, alone) refl; says = p.says }

pub blank_then : {A : Type 0} {g : Grammar A} {ps : List Piece} {v : A} → Spells g ps v → Spells g (blank ∷ ps) v
blank_then p = gap_then (32 ∷ []) refl p

-- ---- types

size_spelled : (s : IntSize) → Spells int_size (size_word s ∷ []) s
unfolding int_size
size_spelled sizes.Tiny = left (by (λ x. sizes.Tiny) (a_word refl))
size_spelled sizes.Small = right (left (by (λ x. sizes.Small) (a_word refl)))
size_spelled sizes.Medium = right (right (left (by (λ x. sizes.Medium) (a_word refl))))
size_spelled sizes.Normal = right (right (right (left (by (λ x. sizes.Normal) (left (a_word refl))))))
size_spelled sizes.Big = right (right (right (right (by (λ x. sizes.Big) (a_word refl)))))

sign_spelled : (b : Bool) → Spells unsigned (sign_pieces b) b
unfolding unsigned
sign_spelled true = left (by (λ x. true) (blank_then (a_word refl)))
sign_spelled false = right (right none)

no_width : (s : IntSize) (u : Bool) → kind.Int s u ≡ int_type s None u
no_width sizes.Tiny u = refl
no_width sizes.Small u = refl
no_width sizes.Medium u = refl
no_width sizes.Normal u = refl
no_width sizes.Big u = refl

int_spelled : (s : IntSize) (u : Bool) → Spells a_type (size_word s ∷ sign_pieces u) (kind.Int s u)
unfolding a_type
int_spelled s u = left (by_is (λ (p : IntSize × (Option (List ℕ) × Bool)). int_type p.0 p.1.0 p.1.1) (no_width s u) (both (size_spelled s) (both absent (sign_spelled u))))

width_spelled : Spells (one width) (as_digits (codes "1") ∷ []) (codes "1")
unfolding takes
width_spelled = record { alone = refl; says = λ after. (lexemes.number (codes "1"), refl, refl, refl) }

bool_spelled : Spells a_type (type_pieces types.Bool) kind.Bool
unfolding a_type
bool_spelled =
    left (by_is (λ (p : IntSize × (Option (List ℕ) × Bool)). int_type p.0 p.1.0 p.1.1) refl (both (size_spelled sizes.Tiny) (both (present (enclosed width_spelled)) (sign_spelled false))))

char_spelled : (n : ℕ) → is_number n ≡ true → Spells a_type (word "char" ∷ number_pieces n) (kind.Char n)
unfolding a_type
char_spelled n h = right (right (left (by (λ (o : Option ℕ). kind.Char (or_one o)) (word_then refl (present (enclosed (number_spelled n h)))))))

varchar_spelled : (n : ℕ) → is_number n ≡ true → Spells a_type (word "varchar" ∷ number_pieces n) (kind.VarChar n)
unfolding a_type
varchar_spelled n h = right (right (right (left (by (λ (n : ℕ). kind.VarChar n) (word_then refl (enclosed (number_spelled n h)))))))

date_spelled : Spells a_type (word "date" ∷ []) kind.Date
unfolding a_type
date_spelled = right (right (right (right (left (by (λ x. kind.Date) (a_word refl))))))

date_time_spelled : Spells a_type (word "datetime" ∷ []) kind.DateTime
unfolding a_type
date_time_spelled = right (right (right (right (right (by (λ x. kind.DateTime) (a_word refl))))))

small_number : (n most : ℕ) → most < 2 ^ 128 → nat_le n most ≡ true → is_number n ≡ true
small_number n most small h = let k = leb-true n most h in lt-ltb n (2 ^ 128) (omega (arith, small, k))

type_spelled : (k : ColumnType) → is_short_type k ≡ true → Spells a_type (type_pieces k) (type_said k)
unfolding is_short_type
type_spelled (types.Int s u) h = int_spelled s u
type_spelled types.Bool h = bool_spelled
type_spelled (types.Char n) h = char_spelled n (small_number n 255 (omega arith) h)
type_spelled (types.VarChar n) h = varchar_spelled n (small_number n 16383 (omega arith) h)
type_spelled types.Date h = date_spelled
type_spelled types.DateTime h = date_time_spelled

-- ---- attributes

nulls : Bool → List Attribute
nulls true = []
nulls false = null_is false ∷ []

defaults : Bool → Bool → Option (List ℕ) → List Attribute
defaults true nullable default = is_auto ∷ []
defaults false nullable (Some text) = default_is (literals.Str text) ∷ []
defaults false true None = default_is literals.Null ∷ []
defaults false false None = []

not_null : Spells attribute (blank ∷ word "NOT" ∷ blank ∷ word "NULL" ∷ []) (null_is false)
unfolding attribute
not_null = left (by (λ x. null_is false) (blank_then (word_then refl (blank_then (a_word refl)))))

auto_one : Spells attribute (blank ∷ word "AUTO_INCREMENT" ∷ []) is_auto
unfolding attribute
auto_one = right (right (right (left (by (λ x. is_auto) (blank_then (a_word refl))))))

null_literal : Spells literal (word "NULL" ∷ []) literals.Null
unfolding literal
null_literal = left (by (λ x. literals.Null) (a_word refl))

text_literal : (s : List ℕ) → Spells literal (as_string s ∷ []) (literals.Str s)
unfolding literal
text_literal s = right (left (by literals.Str (string_spelled s)))

default_null : Spells attribute (blank ∷ word "DEFAULT" ∷ blank ∷ word "NULL" ∷ []) (default_is literals.Null)
unfolding attribute
default_null = right (right (left (by default_is (blank_then (word_then refl (blank_then null_literal))))))

default_text : (s : List ℕ) → Spells attribute (blank ∷ word "DEFAULT" ∷ blank ∷ as_string s ∷ []) (default_is (literals.Str s))
unfolding attribute
default_text s = right (right (left (by default_is (blank_then (word_then refl (blank_then (text_literal s)))))))

defaults_spelled : (auto nullable : Bool) (default : Option (List ℕ)) → Spells (many attribute) (default_pieces auto nullable default) (defaults auto nullable default)
unfolding defaults
defaults_spelled true nullable default = just_one auto_one
defaults_spelled false nullable (Some text) = just_one (default_text text)
defaults_spelled false true None = just_one default_null
defaults_spelled false false None = no_more

attributes_spelled : (nullable : Bool) (ps : List Piece) (more : List Attribute) → Spells (many attribute) ps more → Spells (many attribute) (null_pieces nullable ++ ps) (nulls nullable ++ more)
unfolding nulls
attributes_spelled true ps more p = p
attributes_spelled false ps more p = one_more not_null p

-- ---- what the attributes make of a column

column_again : (n : List ℕ) (k : TypeWords) (auto nullable : Bool) (default : Option (List ℕ))
    → record { name = n; kind = k; nullable = null_said nullable; default = default_said auto nullable default; auto = auto; unique = false; primary = false }
    ≡ with_attributes (plain_column n k) (nulls nullable ++ defaults auto nullable default)
unfolding nulls defaults
column_again n k true true default = refl
column_again n k true false default = refl
column_again n k false true (Some text) = refl
column_again n k false false (Some text) = refl
column_again n k false true None = refl
column_again n k false false None = refl

column_spelled : (c : ColumnDef) → is_name c.name ≡ true → is_short_type c.kind ≡ true → Spells named_column (column_pieces c) (column_said c)
unfolding named_column
column_spelled c h k =
    by_is (λ (p : List ℕ × (TypeWords × List Attribute)). with_attributes (plain_column p.0 p.1.0) p.1.1) (column_again c.name (type_said c.kind) c.auto c.nullable c.default)
    (both (name_spelled c.name h) (blank_then (both (type_spelled c.kind k) (attributes_spelled c.nullable _ _ (defaults_spelled c.auto c.nullable c.default)))))

pub column_element_spelled : (c : ColumnDef) → is_name c.name ≡ true → is_short_type c.kind ≡ true → Spells element (column_pieces c) (column_element c)
unfolding element
column_element_spelled c h k = left (by Column (column_spelled c h k))
