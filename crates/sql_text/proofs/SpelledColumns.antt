-- Columns are spelled as the grammar reads them.
use Rattle.std.proofs.Common.{◌≡◌, ℕ, Bool, true, false, cond, not, ◌&&◌, ◌||◌, List, [], ◌∷◌, ◌++◌, length, nat_lt, Option, Some, None, refl, sym, ap, subst, ◌∙◌, inl, inr, arith}
use Rattle.std.specs.Prelude.{codes, ◌==◌}
use Rattle.std.specs.List.{list_all}
use Rattle.std.specs.Char.{is_ascii_digit}
use Rattle.std.proofs.lemmas.Bool.{eqb-true, lt-ltb}
use Rattle.dd_names.specs.Names.{is_name}
use Rattle.sql_grammar.specs.Lexemes as lexemes
use Rattle.sql_grammar.specs.Lexemes.{Lexeme, keyword, mark, amount, text, takes, begins}
use Rattle.sql_grammar.specs.Grammar.{many, if_next}
use Rattle.sql_grammar.specs.Rules.{◌⊳◌}
use Rattle.sql_grammar.proofs.Bits.{and_true, not_true}
use Rattle.sql_types.specs.Numbers.{is_number_text}
use Rattle.sql_types.specs.declared.choices.IntSize.{IntSize}
use Rattle.sql_types.specs.declared.choices.IntSize.TheVariants.{Tiny, Small, Medium, Normal, Big}
use Rattle.sql_types.specs.declared.literal.Literal.{Literal}
use Rattle.sql_types.specs.declared.literal.Literal.TheVariants.{Null, Number, Str}
use Rattle.sql_types.specs.declared.words.TypeWords.{TypeWords}
use Rattle.sql_types.specs.declared.words.TypeWords.TheVariants as kind
use Rattle.sql_types.specs.declared.words.ColumnWords.{ColumnWords}
use Rattle.sql_ast.specs.GrammarParts.{the}
use Rattle.sql_ast.specs.GrammarColumns.{sign_written, literal, int_size, int_type, unsigned, or_one, a_type, Attribute, null_is, default_is, is_auto, is_unique, is_primary, attribute, with_attribute, with_attributes, plain_column, named_column}
use Rattle.sql_pieces.specs.Pieces.{Piece, as_digits, as_sign, tokens, is_alone}
use Rattle.sql_pieces.proofs.Strings.{either}
use Rattle.sql_text.specs.Parts.{word, where_some, where_true, number_pieces, is_number, if_some}
use Rattle.sql_text.specs.Columns.{signed_pieces, literal_pieces, size_word, char_pieces, type_pieces, null_pieces, default_pieces, attributes_pieces, column_pieces, is_literal, is_type, is_column}
use Rattle.sql_text.proofs.Spells.{Spells, SpellsNoKey, NoKey, weaken, both, both_weak, by, by_is, by_no_key, by_is_no_key, left, right, left_no_key, right_no_key, none, present, absent, a_word, word_then, enclosed, no_more, just_one, just_one_no_key, many_joined, many_joined_no_key, any_then}
use Rattle.sql_text.proofs.SpelledParts.{name_spelled, digits_spelled, string_spelled, number_spelled}

-- ---- literals

digits_alone : (ds : List ℕ) → (length ds == 0) ≡ false → list_all is_ascii_digit ds ≡ true → is_alone (as_digits ds) ≡ true
digits_alone [] h k = absurd cc
digits_alone (d ∷ ds) h k = let some : nat_lt 0 (length (d ∷ ds)) ≡ true = lt-ltb 0 (length (d ∷ ds)) (omega arith) in rw (k, some) refl

abbrev SignAndDigits : List ℕ → Type 0
SignAndDigits digits = not (length digits == 0) && list_all is_ascii_digit digits ≡ true

number_digits : (ds : List ℕ) → SignAndDigits ds → is_alone (as_digits ds) ≡ true
number_digits ds h =
    let k = and_true (not (length ds == 0)) (list_all is_ascii_digit ds) h in
    digits_alone ds (not_true (length ds == 0) k.0) k.1

plus_spelled : Spells sign_written (as_sign 43 ∷ []) (43 ∷ [])
unfolding takes
plus_spelled = left (record { alone = refl; says = λ after. (lexemes.sign 43, refl, refl, refl) })

minus_spelled : Spells sign_written (as_sign 45 ∷ []) (45 ∷ [])
unfolding takes
minus_spelled = right (left (record { alone = refl; says = λ after. (lexemes.sign 45, refl, refl, refl) }))

no_sign_spelled : Spells sign_written [] []
no_sign_spelled = right (right none)

number_is : (sign ds : List ℕ) (ps : List Piece) → Spells sign_written ps sign → SignAndDigits ds → Spells literal (ps ++ as_digits ds ∷ []) (Number (sign ++ ds))
unfolding literal
number_is sign ds ps p h = right (right (by (λ (x : List ℕ × List ℕ). Number (x.0 ++ x.1)) (both p (digits_spelled ds (number_digits ds h)))))

signed_spelled : (c : ℕ) (ds : List ℕ) → is_number_text (c ∷ ds) ≡ true → Spells literal (signed_pieces (c ∷ ds)) (Number (c ∷ ds))
signed_spelled c ds h = elim (either (c == 43)) [
  | inl plus ↦
      let e = eqb-true c 43 plus in
      let at_plus : is_number_text (43 ∷ ds) ≡ true = subst (λ (x : ℕ). is_number_text (x ∷ ds) ≡ true) e h in
      subst (λ (x : ℕ). Spells literal (signed_pieces (x ∷ ds)) (Number (x ∷ ds))) (sym e) (number_is (43 ∷ []) ds (as_sign 43 ∷ []) plus_spelled at_plus)
  | inr no_plus ↦ elim (either (c == 45)) [
    | inl minus ↦
        let e = eqb-true c 45 minus in
        let at_minus : is_number_text (45 ∷ ds) ≡ true = subst (λ (x : ℕ). is_number_text (x ∷ ds) ≡ true) e h in
        subst (λ (x : ℕ). Spells literal (signed_pieces (x ∷ ds)) (Number (x ∷ ds))) (sym e) (number_is (45 ∷ []) ds (as_sign 45 ∷ []) minus_spelled at_minus)
    | inr no_minus ↦
        let no_sign : (c == 43 || c == 45) ≡ false = rw (no_plus, no_minus) refl in
        let whole : SignAndDigits (c ∷ ds) = subst (λ (b : Bool). SignAndDigits (cond b ds (c ∷ ds))) no_sign h in
        subst (λ (b : Bool). Spells literal (cond b (as_sign c ∷ as_digits ds ∷ []) (as_digits (c ∷ ds) ∷ [])) (Number (c ∷ ds))) (sym no_sign) (number_is [] (c ∷ ds) [] no_sign_spelled whole)
  ]
]

number_literal : (text : List ℕ) → is_number_text text ≡ true → Spells literal (signed_pieces text) (Number text)
number_literal [] h = absurd cc
number_literal (c ∷ ds) h = signed_spelled c ds h

pub literal_spelled : (l : Literal) → is_literal l ≡ true → Spells literal (literal_pieces l) l
unfolding literal
literal_spelled Null h = left (by (λ x. Null) (a_word refl))
literal_spelled (Number digits) h = number_literal digits h
literal_spelled (Str s) h = right (left (by Str (string_spelled s)))

-- ---- types

size_spelled : (s : IntSize) → Spells int_size (size_word s ∷ []) s
unfolding int_size
size_spelled Tiny = left (by (λ x. Tiny) (a_word refl))
size_spelled Small = right (left (by (λ x. Small) (a_word refl)))
size_spelled Medium = right (right (left (by (λ x. Medium) (a_word refl))))
size_spelled Normal = right (right (right (left (by (λ x. Normal) (left (a_word refl))))))
size_spelled Big = right (right (right (right (by (λ x. Big) (a_word refl)))))

unsigned_spelled : (b : Bool) → Spells unsigned (where_true (word "UNSIGNED" ∷ []) b) b
unfolding unsigned
unsigned_spelled true = left (by (λ x. true) (a_word refl))
unsigned_spelled false = right (right none)

int_plain : (s : IntSize) (u : Bool) → kind.Int s u ≡ int_type s None u
int_plain Tiny u = refl
int_plain Small u = refl
int_plain Medium u = refl
int_plain Normal u = refl
int_plain Big u = refl

int_spelled : (s : IntSize) (u : Bool) → Spells a_type (type_pieces (kind.Int s u)) (kind.Int s u)
unfolding a_type
int_spelled s u = left (by_is (λ (p : IntSize × (Option (List ℕ) × Bool)). int_type p.0 p.1.0 p.1.1) (int_plain s u) (both (size_spelled s) (both absent (unsigned_spelled u))))

char_length : (n : ℕ) → is_number n ≡ true → Spells a_type (word "CHAR" ∷ number_pieces n) (kind.Char n)
unfolding a_type
char_length n h = right (right (left (by (λ (o : Option ℕ). kind.Char (or_one o)) (word_then refl (present (enclosed (number_spelled n h)))))))

char_one : Spells a_type (word "CHAR" ∷ []) (kind.Char 1)
unfolding a_type
char_one = right (right (left (by (λ (o : Option ℕ). kind.Char (or_one o)) (word_then refl absent))))

char_spelled : (n : ℕ) → is_number n ≡ true → Spells a_type (char_pieces n) (kind.Char n)
char_spelled n h = elim (either (n == 1)) [
  | inl same ↦ let e = eqb-true n 1 same in subst (λ (x : ℕ). Spells a_type (char_pieces x) (kind.Char x)) (sym e) char_one
  | inr other ↦ subst (λ (b : Bool). Spells a_type (word "CHAR" ∷ cond b [] (number_pieces n)) (kind.Char n)) (sym other) (char_length n h)
]

pub type_spelled : (k : TypeWords) → is_type k ≡ true → Spells a_type (type_pieces k) k
unfolding a_type
type_spelled (kind.Int s u) h = int_spelled s u
type_spelled kind.Bool h = right (left (by (λ x. kind.Bool) (left (a_word refl))))
type_spelled (kind.Char n) h = char_spelled n h
type_spelled (kind.VarChar n) h = right (right (right (left (by (λ (n : ℕ). kind.VarChar n) (word_then refl (enclosed (number_spelled n h)))))))
type_spelled kind.Date h = right (right (right (right (left (by (λ x. kind.Date) (a_word refl))))))
type_spelled kind.DateTime h = right (right (right (right (right (by (λ x. kind.DateTime) (a_word refl))))))

-- ---- attributes

null_said : Option Bool → List Attribute
null_said None = []
null_said (Some b) = null_is b ∷ []

default_said : Option Literal → List Attribute
default_said None = []
default_said (Some l) = default_is l ∷ []

said_if : Attribute → Bool → List Attribute
said_if a false = []
said_if a true = a ∷ []

null_one : (b : Bool) → Spells attribute (null_pieces b) (null_is b)
unfolding attribute
null_one false = left (by (λ x. null_is false) (word_then refl (a_word refl)))
null_one true = right (left (by (λ x. null_is true) (a_word refl)))

null_spelled : (o : Option Bool) → Spells (many attribute) (where_some null_pieces o) (null_said o)
unfolding null_said
null_spelled None = no_more
null_spelled (Some b) = just_one (null_one b)

default_one : (l : Literal) → is_literal l ≡ true → Spells attribute (default_pieces l) (default_is l)
unfolding attribute
default_one l h = right (right (left (by default_is (word_then refl (literal_spelled l h)))))

default_spelled : (o : Option Literal) → if_some is_literal o ≡ true → Spells (many attribute) (where_some default_pieces o) (default_said o)
unfolding default_said
default_spelled None h = no_more
default_spelled (Some l) h = just_one (default_one l h)

auto_one : Spells attribute (word "AUTO_INCREMENT" ∷ []) is_auto
unfolding attribute
auto_one = right (right (right (left (by (λ x. is_auto) (a_word refl)))))

auto_spelled : (b : Bool) → Spells (many attribute) (where_true (word "AUTO_INCREMENT" ∷ []) b) (said_if is_auto b)
unfolding said_if
auto_spelled false = no_more
auto_spelled true = just_one auto_one

-- UNIQUE, where KEY doesn't follow
no_key : SpellsNoKey (if_next (keyword (codes "KEY"))) [] false
no_key = record { alone = refl; says = λ after quiet. inr (quiet, refl, refl) }

unique_one : SpellsNoKey attribute (word "UNIQUE" ∷ []) is_unique
unfolding attribute
unique_one =
    let key : SpellsNoKey (the "UNIQUE" ⊳ if_next (keyword (codes "KEY"))) (word "UNIQUE" ∷ []) false =
    by_no_key (λ (x : Unit {0} × Bool). x.1) (both_weak (weaken (a_word {k = codes "UNIQUE"} {w = codes "UNIQUE"} refl)) no_key (λ after quiet. quiet)) in
    right_no_key (right_no_key (right_no_key (right_no_key (left_no_key (by_no_key (λ (x : Bool). is_unique) key)))))

unique_spelled : (b : Bool) → SpellsNoKey (many attribute) (where_true (word "UNIQUE" ∷ []) b) (said_if is_unique b)
unfolding said_if
unique_spelled false = weaken no_more
unique_spelled true = just_one_no_key unique_one

primary_one : Spells attribute (word "PRIMARY" ∷ word "KEY" ∷ []) is_primary
unfolding attribute
primary_one = right (right (right (right (right (left (by (λ x. is_primary) (left (word_then refl (a_word refl)))))))))

primary_spelled : (b : Bool) → Spells (many attribute) (where_true (word "PRIMARY" ∷ word "KEY" ∷ []) b) (said_if is_primary b)
unfolding said_if
primary_spelled false = no_more
primary_spelled true = just_one primary_one

primary_no_key : (b : Bool) (after : List Lexeme) → NoKey after → NoKey (tokens (where_true (word "PRIMARY" ∷ word "KEY" ∷ []) b) ++ after)
unfolding takes
primary_no_key false after h = h
primary_no_key true after h = refl

-- all of them, in order
attributes_said : ColumnWords → List Attribute
attributes_said c = null_said c.nullable ++ (default_said c.default ++ (said_if is_auto c.auto ++ (said_if is_unique c.unique ++ said_if is_primary c.primary)))

attributes_spelled : (c : ColumnWords) → if_some is_literal c.default ≡ true → SpellsNoKey (many attribute) (attributes_pieces c) (attributes_said c)
unfolding attributes_said
attributes_spelled c h =
    many_joined (null_spelled c.nullable) (many_joined (default_spelled c.default h) (many_joined (auto_spelled c.auto)
    (many_joined_no_key (unique_spelled c.unique) (weaken (primary_spelled c.primary)) (primary_no_key c.primary))))

-- ---- what the attributes make of a column

abbrev column_of : List ℕ → TypeWords → Option Bool → Option Literal → Bool → Bool → Bool → ColumnWords
column_of n k nullable default auto unique primary = record { name = n; kind = k; nullable = nullable; default = default; auto = auto; unique = unique; primary = primary }

with_more : (c : ColumnWords) (xs ys : List Attribute) → with_attributes c (xs ++ ys) ≡ with_attributes (with_attributes c xs) ys
with_more c [] ys = refl
with_more c (x ∷ xs) ys = with_more (with_attribute c x) xs ys

null_kept : (n : List ℕ) (k : TypeWords) (o : Option Bool) → with_attributes (plain_column n k) (null_said o) ≡ column_of n k o None false false false
unfolding null_said
null_kept n k None = refl
null_kept n k (Some b) = refl

default_kept : (n : List ℕ) (k : TypeWords) (o : Option Bool) (d : Option Literal) → with_attributes (column_of n k o None false false false) (default_said d) ≡ column_of n k o d false false false
unfolding default_said
default_kept n k o None = refl
default_kept n k o (Some l) = refl

auto_kept : (n : List ℕ) (k : TypeWords) (o : Option Bool) (d : Option Literal) (a : Bool) → with_attributes (column_of n k o d false false false) (said_if is_auto a) ≡ column_of n k o d a false false
unfolding said_if
auto_kept n k o d false = refl
auto_kept n k o d true = refl

unique_kept : (n : List ℕ) (k : TypeWords) (o : Option Bool) (d : Option Literal) (a u : Bool) → with_attributes (column_of n k o d a false false) (said_if is_unique u) ≡ column_of n k o d a u false
unfolding said_if
unique_kept n k o d a false = refl
unique_kept n k o d a true = refl

primary_kept : (n : List ℕ) (k : TypeWords) (o : Option Bool) (d : Option Literal) (a u p : Bool) → with_attributes (column_of n k o d a u false) (said_if is_primary p) ≡ column_of n k o d a u p
unfolding said_if
primary_kept n k o d a u false = refl
primary_kept n k o d a u true = refl

column_again : (c : ColumnWords) → c ≡ with_attributes (plain_column c.name c.kind) (attributes_said c)
unfolding attributes_said
column_again c =
    let xs : List Attribute = null_said c.nullable in
    let ys : List Attribute = default_said c.default in
    let zs : List Attribute = said_if is_auto c.auto in
    let us : List Attribute = said_if is_unique c.unique in
    let ps : List Attribute = said_if is_primary c.primary in
    sym (
    with_more (plain_column c.name c.kind) xs (ys ++ (zs ++ (us ++ ps)))
    ∙ ap (λ (d : ColumnWords). with_attributes d (ys ++ (zs ++ (us ++ ps)))) (null_kept c.name c.kind c.nullable)
    ∙ with_more (column_of c.name c.kind c.nullable None false false false) ys (zs ++ (us ++ ps))
    ∙ ap (λ (d : ColumnWords). with_attributes d (zs ++ (us ++ ps))) (default_kept c.name c.kind c.nullable c.default)
    ∙ with_more (column_of c.name c.kind c.nullable c.default false false false) zs (us ++ ps)
    ∙ ap (λ (d : ColumnWords). with_attributes d (us ++ ps)) (auto_kept c.name c.kind c.nullable c.default c.auto)
    ∙ with_more (column_of c.name c.kind c.nullable c.default c.auto false false) us ps
    ∙ ap (λ (d : ColumnWords). with_attributes d ps) (unique_kept c.name c.kind c.nullable c.default c.auto c.unique)
    ∙ primary_kept c.name c.kind c.nullable c.default c.auto c.unique c.primary
    )

-- ---- columns

pub named_spelled : (c : ColumnWords) → is_column c ≡ true → SpellsNoKey named_column (column_pieces c) c
unfolding named_column
named_spelled c h =
    let k = and_true (is_name c.name && is_type c.kind) (if_some is_literal c.default) h in
    let m = and_true (is_name c.name) (is_type c.kind) k.0 in
    by_is_no_key (λ (p : List ℕ × (TypeWords × List Attribute)). with_attributes (plain_column p.0 p.1.0) p.1.1) (column_again c)
    (any_then (name_spelled c.name m.0) (any_then (type_spelled c.kind m.1) (attributes_spelled c k.1)))
