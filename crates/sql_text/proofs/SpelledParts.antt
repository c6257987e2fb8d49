-- The small parts of statements are spelled as the grammar reads them.
use Rattle.std.proofs.Common.{◌≡◌, ℕ, ◌<◌, ◌^◌, Bool, true, false, ◌&&◌, List, [], ◌∷◌, ◌++◌, Option, Some, None, refl, arith}
use Rattle.std.specs.Prelude.{decimal}
use Rattle.std.proofs.lemmas.Bool.{ltb-true}
use Rattle.dd_names.specs.Names.{is_name}
use Rattle.sql_grammar.specs.Lexemes as lexemes
use Rattle.sql_grammar.specs.Lexemes.{Lexeme, mark, name, amount, text, takes, value_from}
use Rattle.sql_grammar.specs.Grammar.{one}
use Rattle.sql_grammar.specs.Rules.{◌⊲◌}
use Rattle.sql_grammar.proofs.Bits.{and_true}
use Rattle.sql_types.specs.declared.words.ObjRef.{ObjRef}
use Rattle.sql_ast.specs.GrammarParts.{the, maybe, a_name, a_number, number_of, in_schema, object, names, cols, db, index_or_key, from_or_in, if_not_exists, if_exists}
use Rattle.sql_pieces.specs.Pieces.{Piece, as_name, as_digits, as_string, is_alone}
use Rattle.sql_pieces.proofs.Numbers.{decimal_alone}
use Rattle.sql_text.specs.Parts.{word, where_some, name_pieces, names_pieces, schema_pieces, object_pieces, if_not_exists_pieces, if_exists_pieces, is_number, are_names, is_object, if_some}
use Rattle.sql_text.proofs.Spells.{Spells, both, by, by_is, before_none, left, there, not_there, present, absent, left_out, a_word, word_then, sign_then, enclosed, each_divided}

all_one : (p : Piece) → is_alone p ≡ true → (is_alone p && true) ≡ true
all_one p h = rw h refl

-- ---- one token

pub name_spelled : (n : List ℕ) → is_name n ≡ true → Spells a_name (name_pieces n) n
unfolding takes
name_spelled n h = record { alone = all_one (as_name n) h; says = λ after. (lexemes.quoted n, refl, refl, refl) }

pub digits_spelled : (ds : List ℕ) → is_alone (as_digits ds) ≡ true → Spells (one amount) (as_digits ds ∷ []) ds
unfolding takes
digits_spelled ds h = record { alone = all_one (as_digits ds) h; says = λ after. (lexemes.number ds, refl, refl, refl) }

pub string_spelled : (s : List ℕ) → Spells (one text) (as_string s ∷ []) s
unfolding takes
string_spelled s = record { alone = refl; says = λ after. (lexemes.string s, refl, refl, refl) }

number_again : (n : ℕ) → n < 2 ^ 128 → n ≡ number_of (decimal n)
number_again n h = let e = (decimal_alone n h).1 in rw e (omega (arith, h))

pub number_spelled : (n : ℕ) → is_number n ≡ true → Spells a_number (as_digits (decimal n) ∷ []) n
number_spelled n h =
    let k = ltb-true n (2 ^ 128) h in
    by_is number_of (number_again n k) (digits_spelled (decimal n) (decimal_alone n k).0)

-- ---- names, objects, numbers

pub names_spelled : (ns : List (List ℕ)) → are_names ns ≡ true → Spells names (names_pieces ns) ns
unfolding names
names_spelled ns h = enclosed (each_divided name_spelled ns h)

column_spelled : (n : List ℕ) → is_name n ≡ true → Spells (a_name ⊲ maybe (the "ASC")) (name_pieces n) n
column_spelled n h = before_none (name_spelled n h) left_out

pub cols_spelled : (ns : List (List ℕ)) → are_names ns ≡ true → Spells cols (names_pieces ns) ns
unfolding cols
cols_spelled ns h = before_none (enclosed (each_divided column_spelled ns h)) left_out

object_is : (schema : Option (List ℕ)) (n : List ℕ) → if_some is_name schema ≡ true → is_name n ≡ true → Spells object (where_some schema_pieces schema ++ name_pieces n) (record { schema = schema; name = n })
unfolding object
object_is None n h k = by (λ (p : List ℕ × Option (List ℕ)). in_schema p.0 p.1) (both (name_spelled n k) absent)
object_is (Some s) n h k = by (λ (p : List ℕ × Option (List ℕ)). in_schema p.0 p.1) (both (name_spelled s h) (present (sign_then refl (name_spelled n k))))

pub object_spelled : (o : ObjRef) → is_object o ≡ true → Spells object (object_pieces o) o
object_spelled o h = let k = and_true (if_some is_name o.schema) (is_name o.name) h in object_is o.schema o.name k.0 k.1

-- ---- words

pub if_not_exists_spelled : (b : Bool) → Spells if_not_exists (if_not_exists_pieces b) b
unfolding if_not_exists
if_not_exists_spelled true = there (word_then refl (word_then refl (a_word refl)))
if_not_exists_spelled false = not_there

pub if_exists_spelled : (b : Bool) → Spells if_exists (if_exists_pieces b) b
unfolding if_exists
if_exists_spelled true = there (word_then refl (a_word refl))
if_exists_spelled false = not_there

pub db_spelled : Spells db (word "DATABASE" ∷ []) tt
unfolding db
db_spelled = left (a_word refl)

pub index_spelled : Spells index_or_key (word "INDEX" ∷ []) tt
unfolding index_or_key
index_spelled = left (a_word refl)

pub from_spelled : Spells from_or_in (word "FROM" ∷ []) tt
unfolding from_or_in
from_spelled = left (a_word refl)
