-- Which terminals never take the same token.
use Rattle.std.proofs.Common.{◌≡◌, ℕ, true, false, not, List, [], ◌∷◌, length, leb, refl, sym, ◌∙◌, inl, inr}
use Rattle.std.specs.Prelude.{bytes_eq, ◌==◌}
use Rattle.std.proofs.lemmas.Slice.Eq.{bytes_eq-Decides}
use Rattle.std.proofs.lemmas.Bool.{eqb-true, eq-eqb}
use Rattle.sql_grammar.specs.Lexemes.{Lexeme, word, number, quoted, string, sign, broken, Terminal, keyword, mark, name, amount, width, text, exactly, takes, takes_some, begins}
use Rattle.dd_names.specs.Names.{fold}
use Rattle.dd_names.specs.Reserved.{is_reserved}
use Rattle.sql_grammar.specs.Checks.{apart, apart_from, all_apart}
use Rattle.sql_grammar.proofs.Bits.{bit, or_true, and_true, not_true}

equal : (x y : List ℕ) → bytes_eq x y ≡ true → x ≡ y
equal x y e = (bytes_eq-Decides x y).0 e

keywords : (u k j : List ℕ) → not (bytes_eq k j) ≡ true → bytes_eq u k ≡ true → bytes_eq u j ≡ true → ⊥
keywords u k j a p q =
    let e : bytes_eq k j ≡ true = (bytes_eq-Decides k j).1 (sym (equal u k p) ∙ equal u j q) in
    let f = not_true (bytes_eq k j) a in
    cc

-- being reserved depends on the word in lower case alone
reserved_alike : (u k : List ℕ) → fold u ≡ fold k → is_reserved u ≡ is_reserved k
unfolding is_reserved
reserved_alike u k e = rw e refl

no_name : (u k : List ℕ) → is_reserved k ≡ true → bytes_eq (fold u) (fold k) ≡ true → not (is_reserved u) ≡ true → ⊥
no_name u k a p q =
    let e : is_reserved u ≡ true = reserved_alike u k (equal (fold u) (fold k) p) ∙ a in
    let f = not_true (is_reserved u) q in
    cc

at_word : (s t : Terminal) (w : List ℕ) → apart s t ≡ true → takes s (word w) ≡ true → takes t (word w) ≡ true → ⊥
unfolding takes
at_word (keyword k) (keyword j) w a p q = keywords (fold w) (fold k) (fold j) a (and_true (leb (length w) 64) _ p).1 (and_true (leb (length w) 64) _ q).1
at_word (keyword k) name w a p q = no_name w k a (and_true (leb (length w) 64) _ p).1 q
at_word name (keyword k) w a p q = no_name w k a (and_true (leb (length w) 64) _ q).1 p
at_word name name w a p q = absurd cc
at_word (keyword k) _ w a p q = absurd cc
at_word name _ w a p q = absurd cc
at_word _ t w a p q = absurd cc

at_number : (s t : Terminal) (w : List ℕ) → apart s t ≡ true → takes s (number w) ≡ true → takes t (number w) ≡ true → ⊥
unfolding takes
at_number amount amount w a p q = absurd cc
at_number amount width w a p q = absurd cc
at_number width amount w a p q = absurd cc
at_number width width w a p q = absurd cc
at_number amount _ w a p q = absurd cc
at_number width _ w a p q = absurd cc
at_number _ t w a p q = absurd cc

at_quoted : (s t : Terminal) (w : List ℕ) → apart s t ≡ true → takes s (quoted w) ≡ true → takes t (quoted w) ≡ true → ⊥
unfolding takes
at_quoted name name w a p q = absurd cc
at_quoted name _ w a p q = absurd cc
at_quoted _ t w a p q = absurd cc

at_string : (s t : Terminal) (w : List ℕ) → apart s t ≡ true → takes s (string w) ≡ true → takes t (string w) ≡ true → ⊥
unfolding takes
at_string (exactly k) (exactly j) w a p q = keywords w k j a p q
at_string (exactly k) text w a p q = absurd cc
at_string text (exactly k) w a p q = absurd cc
at_string text text w a p q = absurd cc
at_string (exactly k) _ w a p q = absurd cc
at_string text _ w a p q = absurd cc
at_string _ t w a p q = absurd cc

at_sign : (s t : Terminal) (c : ℕ) → apart s t ≡ true → takes s (sign c) ≡ true → takes t (sign c) ≡ true → ⊥
unfolding takes
at_sign (mark m) (mark n) c a p q =
    let e : m ≡ n = sym (eqb-true c m p) ∙ eqb-true c n q in
    let f : (m == n) ≡ true = eq-eqb m n e in
    let g = not_true (m == n) a in
    cc
at_sign (mark m) _ c a p q = absurd cc
at_sign _ t c a p q = absurd cc

pub at_broken : (s : Terminal) → takes s broken ≡ true → ⊥
unfolding takes
at_broken (keyword k) p = cc
at_broken (mark m) p = cc
at_broken name p = cc
at_broken amount p = cc
at_broken width p = cc
at_broken text p = cc
at_broken (exactly k) p = cc

pub apart-takes : (s t : Terminal) (l : Lexeme) → apart s t ≡ true → takes s l ≡ true → takes t l ≡ true → ⊥
apart-takes s t (word w) a p q = at_word s t w a p q
apart-takes s t (number w) a p q = at_number s t w a p q
apart-takes s t (quoted w) a p q = at_quoted s t w a p q
apart-takes s t (string w) a p q = at_string s t w a p q
apart-takes s t (sign c) a p q = at_sign s t c a p q
apart-takes s t broken a p q = at_broken s p

from_one : (s : Terminal) (ts : List Terminal) (l : Lexeme) → apart_from s ts ≡ true → takes_some ts l ≡ true → takes s l ≡ true → ⊥
from_one s [] l a p q = absurd cc
from_one s (t ∷ ts) l a p q =
    let b = and_true (apart s t) (apart_from s ts) a in
    elim (or_true (takes t l) (takes_some ts l) p) [ inl h ↦ apart-takes s t l b.0 q h | inr h ↦ from_one s ts l b.1 h q ]

some_apart : (ss ts : List Terminal) (l : Lexeme) → all_apart ss ts ≡ true → takes_some ts l ≡ true → takes_some ss l ≡ false
some_apart [] ts l a p = refl
some_apart (s ∷ ss) ts l a p =
    let b = and_true (apart_from s ts) (all_apart ss ts) a in
    elim (bit (takes s l)) [ inl h ↦ absurd (from_one s ts l b.0 p h) | inr h ↦ rw h (some_apart ss ts l b.1 p) ]

-- what begins as one of the second doesn't begin as one of the first
pub begins_apart : (ss ts : List Terminal) (ls : List Lexeme) → all_apart ss ts ≡ true → begins ts ls ≡ true → begins ss ls ≡ false
begins_apart ss ts [] a p = refl
begins_apart ss ts (l ∷ ls) a p = some_apart ss ts l a p
