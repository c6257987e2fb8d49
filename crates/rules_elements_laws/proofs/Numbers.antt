-- A number in an integer type's range is kept as the type keeps it.
use Rattle.std.proofs.Common.{◌≡◌, ℕ, ◌+◌, ◌*◌, ◌-◌, Bool, true, false, ◌&&◌, ◌||◌, not, cond, List, [], ◌∷◌, length, nat_le, refl, ◌∙◌, ap, arith}
use Rattle.std.specs.Prelude.{◌==◌}
use Rattle.std.specs.List.{list_all}
use Rattle.std.specs.Char.{is_ascii_digit}
use Rattle.std.proofs.lemmas.Bool.Decides.{nat_tests}
use Rattle.sql_types.specs.Numbers.{behind_sign, is_number_text}
use Rattle.dd_definitions.specs.Defaults.{value_behind, are_digits, begins_with_zero, is_positive, is_zero, is_integer_text}
use Rattle.rules_elements.specs.Defaults.{is_negative, without_zeros, signed_text, decimal_text, is_in_range}

pub both : (a b : Bool) → (a && b) ≡ true → (a ≡ true) × (b ≡ true)
both true b holds = (refl, holds)
both false b holds = cc

pub together : (a b : Bool) → a ≡ true → b ≡ true → (a && b) ≡ true
together true b here there = there
together false b here there = cc

-- ## Digits without zeros in front

kept_value : (digits : List ℕ) → value_behind 0 (without_zeros digits) ≡ value_behind 0 digits
kept_value [] = refl
kept_value (d ∷ ds) =
    let rest : value_behind 0 (without_zeros ds) ≡ value_behind 0 ds = kept_value ds in
    elim (d == 48) as (λ v. (d == 48) ≡ v → value_behind 0 (cond v (without_zeros ds) (d ∷ ds)) ≡ value_behind 0 (d ∷ ds)) [
      | true ↦ λ is. let nothing : 0 ≡ 10 * 0 + (d - 48) = grind (arith, nat_tests) in rest ∙ ap (λ n. value_behind n ds) nothing
      | false ↦ λ is. refl
    ] refl

kept_are_digits : (digits : List ℕ) → list_all is_ascii_digit digits ≡ true → are_digits (without_zeros digits) ≡ true
kept_are_digits [] all = refl
kept_are_digits (d ∷ ds) all =
    let rest : are_digits (without_zeros ds) ≡ true = kept_are_digits ds (both (is_ascii_digit d) (list_all is_ascii_digit ds) all).1 in
    elim (d == 48) as (λ v. are_digits (cond v (without_zeros ds) (d ∷ ds)) ≡ true) [
      | true ↦ rest
      | false ↦ let some : nat_le 1 (length (d ∷ ds)) ≡ true = grind (arith, nat_tests) in together (nat_le 1 (length (d ∷ ds))) (list_all is_ascii_digit (d ∷ ds)) some all
    ]

kept_zero : (digits : List ℕ) → begins_with_zero (without_zeros digits) ≡ true → without_zeros digits ≡ 48 ∷ []
kept_zero [] is = refl
kept_zero (d ∷ ds) is =
    elim (d == 48) as (λ v. (d == 48) ≡ v → begins_with_zero (cond v (without_zeros ds) (d ∷ ds)) ≡ true → cond v (without_zeros ds) (d ∷ ds) ≡ 48 ∷ []) [
      | true ↦ λ here begins. kept_zero ds begins
      | false ↦ λ here begins. cc
    ] refl is

-- ## The kept text

three : (a b c : Bool) → a ≡ true → b ≡ false → c ≡ true → (a && not b && c) ≡ true
three true false true first second third = refl
three false b c first second third = cc
three true true c first second third = cc
three true false false first second third = cc

positive : (most : ℕ) (digits : List ℕ) → are_digits digits ≡ true → begins_with_zero digits ≡ false → nat_le (value_behind 0 digits) most ≡ true → is_positive most digits ≡ true
unfolding is_positive
positive most digits all starts small = three (are_digits digits) (begins_with_zero digits) (nat_le (value_behind 0 digits) most) all starts small

no_minus : (d : ℕ) → is_ascii_digit d ≡ true → (d == 45) ≡ false
no_minus d is = grind (arith, nat_tests)

pub or_last : (a b : Bool) → b ≡ true → (a || b) ≡ true
or_last true b is = refl
or_last false b is = is

negative_fits : (below above : ℕ) (digits : List ℕ) → are_digits digits ≡ true → begins_with_zero digits ≡ false → nat_le (value_behind 0 digits) below ≡ true → is_integer_text below above (45 ∷ digits) ≡ true
unfolding is_integer_text
negative_fits below above digits all starts small = positive below digits all starts small

plain_fits : (below above : ℕ) (digits : List ℕ) → are_digits digits ≡ true → begins_with_zero digits ≡ false → nat_le (value_behind 0 digits) above ≡ true → is_integer_text below above digits ≡ true
unfolding is_integer_text
plain_fits below above [] all starts small = cc
plain_fits below above (d ∷ ds) all starts small =
    let every_one : list_all is_ascii_digit (d ∷ ds) ≡ true = (both (nat_le 1 (length (d ∷ ds))) (list_all is_ascii_digit (d ∷ ds)) all).1 in
    let minus : (d == 45) ≡ false = no_minus d (both (is_ascii_digit d) (list_all is_ascii_digit ds) every_one).0 in
    ap (λ v. cond v (is_positive below ds) (is_zero (d ∷ ds) || is_positive above (d ∷ ds))) minus
    ∙ or_last (is_zero (d ∷ ds)) (is_positive above (d ∷ ds)) (positive above (d ∷ ds) all starts small)

zero_fits : (below above : ℕ) (digits : List ℕ) → digits ≡ 48 ∷ [] → is_integer_text below above digits ≡ true
unfolding is_integer_text
zero_fits below above digits is = ap (is_integer_text below above) is

signed_fits : (below above : ℕ) (negative : Bool) (digits : List ℕ) → are_digits digits ≡ true → (begins_with_zero digits ≡ true → digits ≡ 48 ∷ [])
    → nat_le (value_behind 0 digits) (cond negative below above) ≡ true → is_integer_text below above (signed_text negative digits) ≡ true
signed_fits below above negative digits all zero_only small = at negative (begins_with_zero digits) refl small
  where
    at : (minus starts : Bool) → begins_with_zero digits ≡ starts → nat_le (value_behind 0 digits) (cond minus below above) ≡ true → is_integer_text below above (cond (minus && not starts) (45 ∷ digits) digits) ≡ true
    at true true starts small = zero_fits below above digits (zero_only starts)
    at true false starts small = negative_fits below above digits all starts small
    at false true starts small = zero_fits below above digits (zero_only starts)
    at false false starts small = plain_fits below above digits all starts small

pub number_fits : (below above : ℕ) (text : List ℕ) → is_in_range below above text ≡ true → is_integer_text below above (decimal_text text) ≡ true
unfolding is_in_range decimal_text
number_fits below above text is =
    let parts = both (is_number_text text) (nat_le (value_behind 0 (behind_sign text)) (cond (is_negative text) below above)) is in
    let digits = behind_sign text in
    let all : list_all is_ascii_digit digits ≡ true = (both (not (length digits == 0)) (list_all is_ascii_digit digits) parts.0).1 in
    let small : nat_le (value_behind 0 (without_zeros digits)) (cond (is_negative text) below above) ≡ true = ap (λ n. nat_le n (cond (is_negative text) below above)) (kept_value digits) ∙ parts.1 in
    ap (λ v. is_integer_text below above (cond v (signed_text (is_negative text) (without_zeros digits)) text)) parts.0
    ∙ signed_fits below above (is_negative text) (without_zeros digits) (kept_are_digits digits all) (kept_zero digits) small
