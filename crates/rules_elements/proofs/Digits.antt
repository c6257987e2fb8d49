-- The digits that are kept are text.
use Rattle.std.proofs.Common.{◌≡◌, ℕ, zero, suc, ◌<◌, Bool, true, false, ◌&&◌, not, cond, List, [], ◌∷◌, length, refl, arith}
use Rattle.std.specs.Prelude.{◌==◌}
use Rattle.std.specs.List.{list_all}
use Rattle.std.specs.Char.{is_ascii_digit}
use Rattle.std.specs.Str.{IsAscii, IsUtf8}
use Rattle.std.proofs.lemmas.Str.{IsUtf8-from_ascii}
use Rattle.std.proofs.lemmas.Bool.Decides.{nat_tests}
use Rattle.sql_types.specs.Numbers.{behind_sign, is_number_text}
use Rattle.rules_elements.specs.Defaults.{without_zeros}

pub both : (a b : Bool) → (a && b) ≡ true → (a ≡ true) × (b ≡ true)
both true b holds = (refl, holds)
both false b holds = cc

digit_is_ascii : (d : ℕ) → is_ascii_digit d ≡ true → d < 128
digit_is_ascii d is = grind (arith, nat_tests)

digits_are_ascii : (ds : List ℕ) → list_all is_ascii_digit ds ≡ true → IsAscii ds
digits_are_ascii [] all i = omega arith
digits_are_ascii (d ∷ ds) all zero = digit_is_ascii d (both (is_ascii_digit d) (list_all is_ascii_digit ds) all).0
digits_are_ascii (d ∷ ds) all (suc i) = digits_are_ascii ds (both (is_ascii_digit d) (list_all is_ascii_digit ds) all).1 i

digits_stay : (ds : List ℕ) → list_all is_ascii_digit ds ≡ true → list_all is_ascii_digit (without_zeros ds) ≡ true
digits_stay [] all = refl
digits_stay (d ∷ ds) all = at (d == 48) (digits_stay ds (both (is_ascii_digit d) (list_all is_ascii_digit ds) all).1)
  where
    at : (zero_first : Bool) → list_all is_ascii_digit (without_zeros ds) ≡ true → list_all is_ascii_digit (cond zero_first (without_zeros ds) (d ∷ ds)) ≡ true
    at true rest = rest
    at false rest = all

pub kept_digits_are_text : (text : List ℕ) → is_number_text text ≡ true → IsUtf8 (without_zeros (behind_sign text))
kept_digits_are_text text is =
    let digits = behind_sign text in
    IsUtf8-from_ascii (without_zeros digits) (digits_are_ascii (without_zeros digits) (digits_stay digits (both (not (length digits == 0)) (list_all is_ascii_digit digits) is).1))
