-- The bytes of a piece are one piece of a text before what follows.
use Rattle.std.proofs.Common.{◌≡◌, ℕ, ◌+◌, Bool, true, false, cond, ◌&&◌, ◌||◌, List, [], ◌∷◌, ◌++◌, length, Some, refl, ap, ◌∙◌, append_assoc, length-append, nat_lt, nat_le, arith}
use Rattle.std.specs.Prelude.{take_while, ◌==◌}
use Rattle.std.specs.List.{list_all}
use Rattle.std.specs.Char.{is_ascii_digit}
use Rattle.std.proofs.lemmas.List.Sums.{take_while-cons}
use Rattle.std.proofs.Common.{eq-eqb}
use Rattle.std.proofs.lemmas.Bool.Decides.{nat_tests}
use Rattle.dd_names.specs.Names.{is_name_byte, is_name}
use Rattle.sql_grammar.proofs.Bits.{and_true, not_true}
use Rattle.sql_lex.specs.declared.token.TokenKind.{TokenKind}
use Rattle.sql_lex.specs.declared.token.TokenKind.TheVariants.{Word, Number, Quoted, Str, Sign}
use Rattle.sql_lex.specs.declared.piece.Shape.TheVariants.{Lexeme, Blank}
use Rattle.sql_lex.specs.declared.reach.Until.TheVariants.{BackQuote, Quote}
use Rattle.sql_lex.specs.Bytes.{is_blank, is_sign}
use Rattle.sql_lex.specs.Ends.{longer, reach}
use Rattle.sql_lex.specs.Pieces.{piece, run, quoted_shape, quoted_piece, string_piece, star_piece, is_dash_comment, front, cut}
use Rattle.sql_lex.proofs.Joined.{joined, word_joined, AllWord, EndsRun}
use Rattle.sql_pieces.specs.Pieces.{escaped, quoted_name, quoted_string, ends_run, begins_with}
use Rattle.sql_pieces.proofs.Strings.{string_ends}

-- these bytes, before those, are one piece
abbrev pub IsCut : TokenKind → List ℕ → List ℕ → Type 0
IsCut kind w rest = cut (w ++ rest) 0 false ≡ piece (Lexeme kind) (length w) ∷ cut rest 0 false

-- ---- blanks

blank_front : (b : ℕ) (rest : List ℕ) → is_blank b ≡ true → front false b rest ≡ piece Blank 1
unfolding front
blank_front b rest h = rw h refl

pub blank_cut : (b : ℕ) (rest : List ℕ) → is_blank b ≡ true → cut (b ∷ rest) 0 false ≡ piece Blank 1 ∷ cut rest 0 false
blank_cut b rest h = joined false (b ∷ []) rest (piece Blank 1) (omega arith) (blank_front b rest h) refl

-- ---- words and numbers

pub all_word : (w : List ℕ) → list_all is_name_byte w ≡ true → AllWord w
all_word [] h = tt
all_word (b ∷ w) h = let k = and_true (is_name_byte b) (list_all is_name_byte w) h in (k.0, all_word w k.1)

run_ends : (rest : List ℕ) → ends_run rest ≡ true → EndsRun rest
run_ends [] h = tt
run_ends (b ∷ rest) h = not_true (is_name_byte b) h

pub word_cut : (w rest : List ℕ) → nat_lt 0 (length w) ≡ true → list_all is_name_byte w ≡ true → list_all is_ascii_digit w ≡ false → ends_run rest ≡ true → IsCut Word w rest
word_cut [] rest some all not_digits ends = absurd cc
word_cut (b ∷ w) rest some all not_digits ends =
    word_joined false b w rest (all_word (b ∷ w) all) (run_ends rest ends)
    ∙ ap (λ (x : Bool). piece (Lexeme (cond x Number Word)) (length (b ∷ w)) ∷ cut rest 0 false) not_digits

digit_is_word : (b : ℕ) → is_ascii_digit b ≡ true → is_name_byte b ≡ true
digit_is_word b h = rw h refl

pub digits_are_word : (w : List ℕ) → list_all is_ascii_digit w ≡ true → list_all is_name_byte w ≡ true
digits_are_word [] h = refl
digits_are_word (b ∷ w) h =
    let k = and_true (is_ascii_digit b) (list_all is_ascii_digit w) h in
    rw (digit_is_word b k.0) (digits_are_word w k.1)

pub digits_cut : (w rest : List ℕ) → nat_lt 0 (length w) ≡ true → list_all is_ascii_digit w ≡ true → ends_run rest ≡ true → IsCut Number w rest
digits_cut [] rest some digits ends = absurd cc
digits_cut (b ∷ w) rest some digits ends =
    word_joined false b w rest (all_word (b ∷ w) (digits_are_word (b ∷ w) digits)) (run_ends rest ends)
    ∙ ap (λ (x : Bool). piece (Lexeme (cond x Number Word)) (length (b ∷ w)) ∷ cut rest 0 false) digits

-- ---- names in back quotes

not_dashes : (c : ℕ) (rest : List ℕ) → (c == 45 && begins_with 45 rest) ≡ false → is_dash_comment (c ∷ rest) ≡ false
not_dashes c [] e = refl
not_dashes c (d ∷ []) e = e
not_dashes c (d ∷ f ∷ rest) e = dashes (c == 45) (d == 45) (is_blank f) e
  where
    dashes : (x y z : Bool) → (x && y) ≡ false → (x && y && z) ≡ false
    dashes true true z e = absurd cc
    dashes true false z e = refl
    dashes false y z e = refl

no_back_quote : (b : ℕ) → is_name_byte b ≡ true → (b == 96) ≡ false
no_back_quote b h = grind (arith, nat_tests)

name_reach : (n rest : List ℕ) → list_all is_name_byte n ≡ true → reach BackQuote (n ++ 96 ∷ rest) 0 ≡ Some (length n + 1)
name_reach [] rest h = refl
name_reach (b ∷ n) rest h =
    let k = and_true (is_name_byte b) (list_all is_name_byte n) h in
    let e = no_back_quote b k.0 in
    rw e (ap (longer 1) (name_reach n rest k.1) ∙ ap (λ (m : ℕ). Some m) (let a : 1 + (length n + 1) ≡ length (b ∷ n) + 1 = omega arith in a))

name_run : (n rest : List ℕ) → list_all is_name_byte n ≡ true → take_while is_name_byte (n ++ 96 ∷ rest) ≡ n
name_run [] rest h = rw take_while-cons refl
name_run (b ∷ n) rest h =
    let k = and_true (is_name_byte b) (list_all is_name_byte n) h in
    let e = k.0 in
    rw (take_while-cons, e) (ap (λ (x : List ℕ). b ∷ x) (name_run n rest k.1))

name_run_is : (n rest : List ℕ) → list_all is_name_byte n ≡ true → run (n ++ 96 ∷ rest) ≡ n
unfolding run
name_run_is n rest h = name_run n rest h

name_piece : (bs n : List ℕ) → nat_lt 0 (length n) ≡ true → run bs ≡ n → reach BackQuote bs 0 ≡ Some (length n + 1) → quoted_piece bs ≡ piece (Lexeme Quoted) (1 + (length n + 1))
unfolding quoted_piece quoted_shape
name_piece bs n some r e = let same : (length n + 1 == length n + 1) ≡ true = eq-eqb (length n + 1) (length n + 1) refl in rw (e, r, some, same) refl

quoted_len : (n : List ℕ) → 1 + (length n + 1) ≡ length (quoted_name n)
quoted_len n = omega (arith, length-append n (96 ∷ []))

quoted_front : (bs : List ℕ) → front false 96 bs ≡ quoted_piece bs
unfolding front
quoted_front bs = rw (not_dashes 96 bs refl) refl

pub name_cut : (n rest : List ℕ) → is_name n ≡ true → IsCut Quoted (quoted_name n) rest
name_cut n rest h =
    let k = and_true (nat_lt 0 (length n) && nat_le (length n) 64) (list_all is_name_byte n) h in
    let some = (and_true (nat_lt 0 (length n)) (nat_le (length n) 64) k.0).0 in
    let m = k.1 in
    let p : quoted_piece (n ++ 96 ∷ rest) ≡ piece (Lexeme Quoted) (1 + (length n + 1)) = name_piece (n ++ 96 ∷ rest) n some (name_run_is n rest m) (name_reach n rest m) in
    joined false (quoted_name n) rest (piece (Lexeme Quoted) (length (quoted_name n))) (omega arith)
    (quoted_front ((n ++ 96 ∷ []) ++ rest) ∙ ap quoted_piece (append_assoc n (96 ∷ []) rest) ∙ p ∙ ap (piece (Lexeme Quoted)) (quoted_len n)) refl

-- ---- strings

string_piece_is : (bs : List ℕ) (n : ℕ) → reach (Quote 39) bs 0 ≡ Some n → string_piece 39 bs ≡ piece (Lexeme Str) (1 + n)
unfolding string_piece
string_piece_is bs n e = rw e refl

string_front : (bs : List ℕ) → front false 39 bs ≡ string_piece 39 bs
unfolding front
string_front bs = rw (not_dashes 39 bs refl) refl

string_len : (s : List ℕ) → 1 + (length (escaped s) + 1) ≡ length (quoted_string s)
string_len s = omega (arith, length-append (escaped s) (39 ∷ []))

pub string_cut : (s rest : List ℕ) → begins_with 39 rest ≡ false → IsCut Str (quoted_string s) rest
string_cut s rest h =
    joined false (quoted_string s) rest (piece (Lexeme Str) (length (quoted_string s))) (omega arith)
    (string_front ((escaped s ++ 39 ∷ []) ++ rest) ∙ ap (string_piece 39) (append_assoc (escaped s) (39 ∷ []) rest)
    ∙ string_piece_is (escaped s ++ 39 ∷ rest) (length (escaped s) + 1) (string_ends s rest h) ∙ ap (piece (Lexeme Str)) (string_len s)) refl

-- ---- signs

sign_no_blank : (c : ℕ) → is_sign c ≡ true → is_blank c ≡ false
sign_no_blank c h = grind (arith, nat_tests)

sign_no_hash : (c : ℕ) → is_sign c ≡ true → (c == 35) ≡ false
sign_no_hash c h = grind (arith, nat_tests)

sign_no_slash : (c : ℕ) → is_sign c ≡ true → (c == 47) ≡ false
sign_no_slash c h = grind (arith, nat_tests)

sign_no_word : (c : ℕ) → is_sign c ≡ true → is_name_byte c ≡ false
sign_no_word c h = grind (arith, nat_tests)

sign_no_back_quote : (c : ℕ) → is_sign c ≡ true → (c == 96) ≡ false
sign_no_back_quote c h = grind (arith, nat_tests)

sign_no_quote : (c : ℕ) → is_sign c ≡ true → (c == 39 || c == 34) ≡ false
sign_no_quote c h = grind (arith, nat_tests)

always : {A : Type 0} (b : Bool) (x : A) → cond b x x ≡ x
always true x = refl
always false x = refl

sign_front : (c : ℕ) (rest : List ℕ) → is_sign c ≡ true → is_dash_comment (c ∷ rest) ≡ false → front false c rest ≡ piece (Lexeme Sign) 1
unfolding front star_piece
sign_front c rest h d =
    rw (sign_no_blank c h, sign_no_hash c h, d, sign_no_slash c h, sign_no_word c h, sign_no_back_quote c h, sign_no_quote c h, h) (always (c == 42) (piece (Lexeme Sign) 1))

pub sign_cut : (c : ℕ) (rest : List ℕ) → is_sign c ≡ true → (c == 45 && begins_with 45 rest) ≡ false → IsCut Sign (c ∷ []) rest
sign_cut c rest h d = joined false (c ∷ []) rest (piece (Lexeme Sign) 1) (omega arith) (sign_front c rest h (not_dashes c rest d)) refl
