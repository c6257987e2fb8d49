-- A word of the grammar and a sign are no long names.
use Rattle.std.proofs.Common.{◌≡◌, ℕ, Bool, true, false, ◌&&◌, List, length, ltb, leb, refl, arith}
use Rattle.std.proofs.lemmas.Bool.{ltb-true, leb-true, false_from_ne_true}
use Rattle.sql_grammar.specs.Lexemes.{Lexeme, word, number, quoted, string, sign, broken, keyword, mark, name, exactly, takes, is_long, is_name, content}
use Rattle.sql_grammar.proofs.Bits.{and_true}

narrow : (b : Bool) (w : List ℕ) → leb (length w) 64 ≡ true → (b && ltb 64 (length w)) ≡ false
narrow false w h = refl
narrow true w h = false_from_ne_true (ltb 64 (length w)) (λ e. let a = leb-true (length w) 64 h in let b = ltb-true 64 (length w) e in omega arith)

pub word_is_short : (k : List ℕ) (l : Lexeme) → takes (keyword k) l ≡ true → is_long l ≡ false
unfolding takes is_long
word_is_short k (word w) h = narrow (is_name (word w)) w (and_true (leb (length w) 64) _ h).0
word_is_short k (number w) h = refl
word_is_short k (quoted w) h = absurd cc
word_is_short k (string w) h = refl
word_is_short k (sign c) h = refl
word_is_short k broken h = absurd cc

pub sign_is_short : (m : ℕ) (l : Lexeme) → takes (mark m) l ≡ true → is_long l ≡ false
unfolding takes is_long
sign_is_short k (word w) h = absurd cc
sign_is_short k (number w) h = refl
sign_is_short k (quoted w) h = absurd cc
sign_is_short k (string w) h = refl
sign_is_short k (sign c) h = refl
sign_is_short m broken h = absurd cc

pub string_is_short : (s : List ℕ) (l : Lexeme) → takes (exactly s) l ≡ true → is_long l ≡ false
unfolding takes is_long
string_is_short s (word w) h = absurd cc
string_is_short s (number w) h = refl
string_is_short s (quoted w) h = absurd cc
string_is_short s (string w) h = refl
string_is_short s (sign c) h = refl
string_is_short s broken h = absurd cc

pub name_is_long : (l : Lexeme) → takes name l ≡ true → is_long l ≡ ltb 64 (length (content l))
unfolding takes is_long
name_is_long l h = rw h refl
