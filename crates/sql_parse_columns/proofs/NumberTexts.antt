-- A sign and digits are a number.
use Rattle.std.proofs.Common.{◌≡◌, ℕ, zero, suc, ◌<◌, Bool, true, false, ◌&&◌, ◌||◌, not, List, [], ◌∷◌, ◌++◌, length, nat_lt, arith}
use Rattle.std.specs.Prelude.{◌==◌}
use Rattle.std.specs.List.{list_all}
use Rattle.std.specs.Char.{is_ascii_digit}
use Rattle.std.specs.Str.{IsAscii, IsUtf8}
use Rattle.std.proofs.lemmas.Str.{IsUtf8-from_ascii}
use Rattle.std.proofs.lemmas.Bool.Decides.{nat_tests}
use Rattle.sql_grammar.proofs.Bits.{and_true}
use Rattle.sql_types.specs.Numbers.{is_number_text}
use Rattle.sql_read.specs.Tokens.{is_digits}
use Rattle.sql_parse_columns.specs.declared.value.Sign.{Sign}
use Rattle.sql_parse_columns.specs.declared.value.Sign.TheVariants.{Plus, Minus, Unwritten}
use Rattle.sql_parse_columns.specs.Signs.{sign_text}

digit_is_small : (b : ℕ) → is_ascii_digit b ≡ true → b < 128
digit_is_small b h = grind (arith, nat_tests)

no_sign : (b : ℕ) → is_ascii_digit b ≡ true → (b == 43 || b == 45) ≡ false
no_sign b h = grind (arith, nat_tests)

each_small : (w : List ℕ) → list_all is_ascii_digit w ≡ true → IsAscii w
each_small [] h i = omega arith
each_small (b ∷ bs) h zero = digit_is_small b (and_true (is_ascii_digit b) (list_all is_ascii_digit bs) h).0
each_small (b ∷ bs) h (suc i) = each_small bs (and_true (is_ascii_digit b) (list_all is_ascii_digit bs) h).1 i

pub digits_are_text : (w : List ℕ) → is_digits w ≡ true → IsUtf8 w
digits_are_text w h = IsUtf8-from_ascii w (each_small w (and_true (nat_lt 0 (length w)) (list_all is_ascii_digit w) h).1)

abbrev are_number : List ℕ → Bool
are_number w = not (length w == 0) && list_all is_ascii_digit w

counted : (b : ℕ) (w : List ℕ) → list_all is_ascii_digit (b ∷ w) ≡ true → are_number (b ∷ w) ≡ true
counted b w h = grind (arith, nat_tests)

pub signed_is_number : (sign : Sign) (w : List ℕ) → is_digits w ≡ true → is_number_text (sign_text sign ++ w) ≡ true
signed_is_number sign [] h = absurd cc
signed_is_number Plus (b ∷ w) h = counted b w (and_true (nat_lt 0 (length (b ∷ w))) (list_all is_ascii_digit (b ∷ w)) h).1
signed_is_number Minus (b ∷ w) h = counted b w (and_true (nat_lt 0 (length (b ∷ w))) (list_all is_ascii_digit (b ∷ w)) h).1
signed_is_number Unwritten (b ∷ w) h =
    let all = (and_true (nat_lt 0 (length (b ∷ w))) (list_all is_ascii_digit (b ∷ w)) h).1 in
    let e = no_sign b (and_true (is_ascii_digit b) (list_all is_ascii_digit w) all).0 in
    rw e (counted b w all)
