-- A default that is kept is kept again as it stands.
use Rattle.std.specs.Prelude.{◌≡◌, ℕ, ◌==◌, Bool, true, false, cond, ◌&&◌, ◌||◌, not, nat_le, List, [], ◌∷◌, length, Some, None, refl}
use Rattle.std.specs.List.{list_all}
use Rattle.std.specs.Char.{is_ascii_digit}
use Rattle.std.proofs.Common.{sym, ◌∙◌, ap, subst, inl, inr, arith}
use Rattle.std.proofs.lemmas.Bool.{and_parts, and_from, or_cases, not-true, cond-true, cond-false, eqb-true, le-leb, leb-true}
use Rattle.std.proofs.lemmas.Bool.Decides.{nat_tests}
use Rattle.sql_types.specs.Numbers.{behind_sign, is_number_text}
use Rattle.sql_types.specs.declared.choices.IntSize.TheVariants as sizes
use Rattle.sql_types.specs.declared.choices.ColumnType.{ColumnType}
use Rattle.sql_types.specs.declared.choices.ColumnType.TheVariants as types
use Rattle.dd_definitions.specs.Defaults.{height, depth, value_behind, are_digits, begins_with_zero, is_positive, is_zero, is_integer_text, is_short_text, fits}
use Rattle.rules_elements.specs.Defaults.{without_zeros, signed_text, decimal_text, is_in_range, kept_number, kept_text, kept_by}

-- ## Digits without zeros in front

bare : (ds : List ℕ) → are_digits ds ≡ true → begins_with_zero ds ≡ false → without_zeros ds ≡ ds
bare [] some starts = absurd cc
bare (d ∷ ds) some starts = cond-false (d == 48) (without_zeros ds) (d ∷ ds) starts

some_length : (n : ℕ) → nat_le 1 n ≡ true → not (n == 0) ≡ true
some_length n some = grind (arith, nat_tests)

are_number : (ds : List ℕ) → are_digits ds ≡ true → (not (length ds == 0) && list_all is_ascii_digit ds) ≡ true
are_number ds is =
    let (some, all) = and_parts (nat_le 1 (length ds)) (list_all is_ascii_digit ds) is in
    and_from (not (length ds == 0)) (list_all is_ascii_digit ds) (some_length (length ds) some) all

-- ## A number

-- the text is in the range, and its own decimal text
abbrev IsKeptAgain : ℕ → ℕ → List ℕ → Type 0
IsKeptAgain below above text = (is_in_range below above text ≡ true) × (decimal_text text ≡ text)

record IsPositive (most : ℕ) (ds : List ℕ) : Type 0 where
  digits : are_digits ds ≡ true
  starts : begins_with_zero ds ≡ false
  small : nat_le (value_behind 0 ds) most ≡ true

positive_parts : (most : ℕ) (ds : List ℕ) → is_positive most ds ≡ true → IsPositive most ds
unfolding is_positive
positive_parts most ds is =
    let (both, small) = and_parts (are_digits ds && not (begins_with_zero ds)) (nat_le (value_behind 0 ds) most) is in
    let (digits, starts) = and_parts (are_digits ds) (not (begins_with_zero ds)) both in
    record { digits = digits; starts = not-true (begins_with_zero ds) starts; small = small }

minus_again : (below above : ℕ) (ds : List ℕ) → is_positive below ds ≡ true → IsKeptAgain below above (45 ∷ ds)
unfolding is_in_range decimal_text
minus_again below above ds is =
    let p = positive_parts below ds is in
    let number = are_number ds p.digits in (
      and_from (is_number_text (45 ∷ ds)) (nat_le (value_behind 0 ds) below) number p.small,
      cond-true (is_number_text (45 ∷ ds)) (signed_text true (without_zeros ds)) (45 ∷ ds) number
          ∙ ap (λ (x : List ℕ). signed_text true x) (bare ds p.digits p.starts)
          ∙ ap (λ (b : Bool). cond (not b) (45 ∷ ds) ds) p.starts,
    )

no_minus : (c : ℕ) → is_ascii_digit c ≡ true → (c == 45) ≡ false
no_minus c is = grind (arith, nat_tests)

no_plus : (c : ℕ) → is_ascii_digit c ≡ true → (c == 43) ≡ false
no_plus c is = grind (arith, nat_tests)

first_digit : (c : ℕ) (ds : List ℕ) → are_digits (c ∷ ds) ≡ true → is_ascii_digit c ≡ true
first_digit c ds is = (and_parts (is_ascii_digit c) (list_all is_ascii_digit ds) (and_parts (nat_le 1 (length (c ∷ ds))) (list_all is_ascii_digit (c ∷ ds)) is).1).0

no_sign : (c : ℕ) (ds : List ℕ) → (c == 43) ≡ false → (c == 45) ≡ false → behind_sign (c ∷ ds) ≡ c ∷ ds
no_sign c ds plus minus = rw (plus, minus) refl

plain_again : (below above c : ℕ) (ds : List ℕ) → is_positive above (c ∷ ds) ≡ true → IsKeptAgain below above (c ∷ ds)
unfolding is_in_range decimal_text
plain_again below above c ds is =
    let p = positive_parts above (c ∷ ds) is in
    let digit = first_digit c ds p.digits in
    let minus = no_minus c digit in
    let same = no_sign c ds (no_plus c digit) minus in
    let number : is_number_text (c ∷ ds) ≡ true = subst (λ (x : List ℕ). (not (length x == 0) && list_all is_ascii_digit x) ≡ true) (sym same) (are_number (c ∷ ds) p.digits) in
    let value : nat_le (value_behind 0 (behind_sign (c ∷ ds))) (cond (c == 45) below above) ≡ true =
    subst (λ (x : List ℕ). nat_le (value_behind 0 x) (cond (c == 45) below above) ≡ true) (sym same)
    (subst (λ (b : Bool). nat_le (value_behind 0 (c ∷ ds)) (cond b below above) ≡ true) (sym minus) p.small) in (
      and_from (is_number_text (c ∷ ds)) (nat_le (value_behind 0 (behind_sign (c ∷ ds))) (cond (c == 45) below above)) number value,
      cond-true (is_number_text (c ∷ ds)) (signed_text (c == 45) (without_zeros (behind_sign (c ∷ ds)))) (c ∷ ds) number
          ∙ ap (λ (x : List ℕ). signed_text (c == 45) (without_zeros x)) same
          ∙ ap (λ (x : List ℕ). signed_text (c == 45) x) (bare (c ∷ ds) p.digits p.starts)
          ∙ ap (λ (b : Bool). cond (b && not (begins_with_zero (c ∷ ds))) (45 ∷ c ∷ ds) (c ∷ ds)) minus,
    )

zero_again : (below above : ℕ) → IsKeptAgain below above (48 ∷ [])
unfolding is_in_range decimal_text
zero_again below above = (le-leb 0 above (omega arith), refl)

no_more_digits : (c d : ℕ) (ds : List ℕ) → nat_le (length (c ∷ d ∷ ds)) 1 ≡ true → ⊥
no_more_digits c d ds is = let short = leb-true (length (c ∷ d ∷ ds)) 1 is in omega (arith, short)

only_zero : (c : ℕ) (ds : List ℕ) → is_zero (c ∷ ds) ≡ true → c ∷ ds ≡ 48 ∷ []
only_zero c [] is = ap (λ (x : ℕ). x ∷ []) (eqb-true c 48 (and_parts (c == 48) (nat_le (length (c ∷ [])) 1) is).0)
only_zero c (d ∷ ds) is = absurd (no_more_digits c d ds (and_parts (c == 48) (nat_le (length (c ∷ d ∷ ds)) 1) is).1)

number_again : (below above : ℕ) (text : List ℕ) → is_integer_text below above text ≡ true → IsKeptAgain below above text
unfolding is_integer_text
number_again below above [] is = absurd cc
number_again below above (c ∷ ds) is = on (c == 45) refl is
  where
    on : (b : Bool) → (c == 45) ≡ b → cond b (is_positive below ds) (is_zero (c ∷ ds) || is_positive above (c ∷ ds)) ≡ true → IsKeptAgain below above (c ∷ ds)
    on true minus is = subst (λ (x : ℕ). IsKeptAgain below above (x ∷ ds)) (sym (eqb-true c 45 minus)) (minus_again below above ds is)
    on false plain is = elim (or_cases (is_zero (c ∷ ds)) (is_positive above (c ∷ ds)) is) [
      | inl zero_is ↦ subst (IsKeptAgain below above) (sym (only_zero c ds zero_is)) (zero_again below above)
      | inr positive ↦ plain_again below above c ds positive
    ]

kept_number_again : (below above : ℕ) (text : List ℕ) → is_integer_text below above text ≡ true → kept_number below above text ≡ Some text
unfolding kept_number
kept_number_again below above text is =
    let again = number_again below above text is in
    cond-true (is_in_range below above text) (Some (decimal_text text)) None again.0 ∙ ap (λ (x : List ℕ). Some x) again.1

kept_text_again : (most : ℕ) (text : List ℕ) → is_short_text most text ≡ true → kept_text most text ≡ Some text
unfolding kept_text
kept_text_again most text is = cond-true (is_short_text most text) (Some text) None is

pub kept_again : (kind : ColumnType) (text : List ℕ) → fits kind text ≡ true → kept_by kind text ≡ Some text
unfolding fits kept_by
kept_again (types.Int size unsigned) text is = kept_number_again (depth size unsigned) (height size unsigned) text is
kept_again types.Bool text is = kept_number_again (depth sizes.Tiny false) (height sizes.Tiny false) text is
kept_again (types.Char most) text is = kept_text_again most text is
kept_again (types.VarChar most) text is = kept_text_again most text is
kept_again types.Date text is = absurd cc
kept_again types.DateTime text is = absurd cc
