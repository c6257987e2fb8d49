-- A default that a type keeps fits the type.
use Rattle.std.specs.Prelude.{◌≡◌, ◌⊎◌, ℕ, ◌+◌, ◌-◌, ◌*◌, ◌==◌, Bool, true, false, ◌&&◌, ◌||◌, not, nat_le, List, [], ◌∷◌, length, Some, None, if◌then◌else◌, refl}
use Rattle.std.specs.List.{list_all}
use Rattle.std.specs.Char.{is_ascii_digit}
use Rattle.std.proofs.Common.{sym, ◌∙◌, ap, arith, inl, inr}
use Rattle.std.proofs.lemmas.Bool.{and_parts, and_from, or_right, not_from_false, eqb-true, cond-true, cond-false}
use Rattle.std.proofs.lemmas.Bool.Decides.{nat_tests}
use Rattle.sql_types.specs.Numbers.{behind_sign, is_number_text}
use Rattle.sql_types.specs.declared.choices.IntSize.TheVariants as sizes
use Rattle.sql_types.specs.declared.choices.ColumnType.{ColumnType}
use Rattle.sql_types.specs.declared.choices.ColumnType.TheVariants as types
use Rattle.dd_definitions.specs.Defaults.{height, depth, value_behind, are_digits, is_positive, is_zero, is_integer_text, is_short_text, fits}
use Rattle.rules_elements.specs.Defaults.{is_negative, without_zeros, signed_text, decimal_text, is_in_range, kept_number, kept_text, kept_by}

-- ## Digits without zeros in front

-- the text is zero, or it begins with another digit and stands for the same number
record IsStripped (digits : List ℕ) : Type 0 where
  is : (without_zeros digits ≡ 48 ∷ []) ⊎ ((d : ℕ) × (ds : List ℕ) × (without_zeros digits ≡ d ∷ ds) × ((d == 48) ≡ false) × (list_all is_ascii_digit (d ∷ ds) ≡ true) × (value_behind 0 (d ∷ ds) ≡ value_behind 0 digits))

-- a zero in front counts nothing
zero_in_front : (d : ℕ) (ds : List ℕ) → (d == 48) ≡ true → value_behind 0 ds ≡ value_behind 0 (d ∷ ds)
zero_in_front d ds is = let e : d ≡ 48 = eqb-true d 48 is in let none : 0 ≡ 10 * 0 + (d - 48) = omega arith in ap (λ n. value_behind n ds) none

stripped : (digits : List ℕ) → list_all is_ascii_digit digits ≡ true → IsStripped digits
stripped [] all = record { is = inl refl }
stripped (d ∷ ds) all = on (d == 48) refl (stripped ds (and_parts (is_ascii_digit d) (list_all is_ascii_digit ds) all).1)
  where
    on : (b : Bool) → (d == 48) ≡ b → IsStripped ds → IsStripped (d ∷ ds)
    on false is rest = record { is = inr (d, ds, cond-false (d == 48) (without_zeros ds) (d ∷ ds) is, is, all, refl) }
    on true is rest =
        let same : without_zeros (d ∷ ds) ≡ without_zeros ds = cond-true (d == 48) (without_zeros ds) (d ∷ ds) is in
        record {
          is = elim rest.is [
            | inl zero_is ↦ inl (same ∙ zero_is)
            | inr found ↦ inr (found.0, found.1, same ∙ found.2, found.3, found.4, found.5 ∙ zero_in_front d ds is)
          ];
        }

-- ## Decimal text

positive : (most d : ℕ) (ds : List ℕ) → (d == 48) ≡ false → list_all is_ascii_digit (d ∷ ds) ≡ true → nat_le (value_behind 0 (d ∷ ds)) most ≡ true → is_positive most (d ∷ ds) ≡ true
unfolding is_positive
positive most d ds other all bound =
    let some : nat_le 1 (length (d ∷ ds)) ≡ true = grind (arith, nat_tests) in
    and_from (are_digits (d ∷ ds) && not (d == 48)) (nat_le (value_behind 0 (d ∷ ds)) most)
    (and_from (are_digits (d ∷ ds)) (not (d == 48)) (and_from (nat_le 1 (length (d ∷ ds))) (list_all is_ascii_digit (d ∷ ds)) some all) (not_from_false (d == 48) other)) bound

no_minus : (d : ℕ) → is_ascii_digit d ≡ true → (d == 45) ≡ false
no_minus d digit = grind (arith, nat_tests)

zero_fits : (below above : ℕ) (negative : Bool) → is_integer_text below above (signed_text negative (48 ∷ [])) ≡ true
unfolding is_integer_text
zero_fits below above true = refl
zero_fits below above false = refl

other_fits : (below above : ℕ) (negative : Bool) (d : ℕ) (ds : List ℕ) → (d == 48) ≡ false → list_all is_ascii_digit (d ∷ ds) ≡ true
    → nat_le (value_behind 0 (d ∷ ds)) (if negative then below else above) ≡ true → is_integer_text below above (signed_text negative (d ∷ ds)) ≡ true
unfolding is_integer_text
other_fits below above true d ds other all bound =
    ap (is_integer_text below above) (cond-true (not (d == 48)) (45 ∷ d ∷ ds) (d ∷ ds) (not_from_false (d == 48) other)) ∙ positive below d ds other all bound
other_fits below above false d ds other all bound =
    cond-false (d == 45) (is_positive below ds) (is_zero (d ∷ ds) || is_positive above (d ∷ ds)) (no_minus d (and_parts (is_ascii_digit d) (list_all is_ascii_digit ds) all).0)
    ∙ or_right (is_zero (d ∷ ds)) (is_positive above (d ∷ ds)) (positive above d ds other all bound)

number_fits : (below above : ℕ) (text : List ℕ) → is_in_range below above text ≡ true → is_integer_text below above (decimal_text text) ≡ true
unfolding is_in_range decimal_text
number_fits below above text within =
    let most : ℕ = if is_negative text then below else above in
    let (number, bound) = and_parts (is_number_text text) (nat_le (value_behind 0 (behind_sign text)) most) within in
    let digits = (and_parts (not (length (behind_sign text) == 0)) (list_all is_ascii_digit (behind_sign text)) number).1 in
    let rest : IsStripped (behind_sign text) = stripped (behind_sign text) digits in
    let signed : decimal_text text ≡ signed_text (is_negative text) (without_zeros (behind_sign text)) = cond-true (is_number_text text) (signed_text (is_negative text) (without_zeros (behind_sign text))) text number in
    ap (is_integer_text below above) signed ∙ (elim rest.is [
      | inl zero_is ↦ ap (λ t. is_integer_text below above (signed_text (is_negative text) t)) zero_is ∙ zero_fits below above (is_negative text)
      | inr found ↦ ap (λ t. is_integer_text below above (signed_text (is_negative text) t)) found.2
          ∙ other_fits below above (is_negative text) found.0 found.1 found.3 found.4 (ap (λ n. nat_le n most) found.5 ∙ bound)
    ])

-- ## What a type keeps

kept_number_fits : (below above : ℕ) (text kept : List ℕ) → kept_number below above text ≡ Some kept → is_integer_text below above kept ≡ true
unfolding kept_number
kept_number_fits below above text kept is = on (is_in_range below above text) refl is
  where
    on : (b : Bool) → is_in_range below above text ≡ b → (if b then Some (decimal_text text) else None) ≡ Some kept → is_integer_text below above kept ≡ true
    on true within is = let same : decimal_text text ≡ kept = cc in ap (is_integer_text below above) (sym same) ∙ number_fits below above text within
    on false within is = cc

kept_text_fits : (most : ℕ) (text kept : List ℕ) → kept_text most text ≡ Some kept → is_short_text most kept ≡ true
unfolding kept_text
kept_text_fits most text kept is = on (is_short_text most text) refl is
  where
    on : (b : Bool) → is_short_text most text ≡ b → (if b then Some text else None) ≡ Some kept → is_short_text most kept ≡ true
    on true short is = let same : text ≡ kept = cc in ap (is_short_text most) (sym same) ∙ short
    on false short is = cc

pub kept_fits : (kind : ColumnType) (text kept : List ℕ) → kept_by kind text ≡ Some kept → fits kind kept ≡ true
unfolding kept_by fits
kept_fits (types.Int size unsigned) text kept is = kept_number_fits (depth size unsigned) (height size unsigned) text kept is
kept_fits types.Bool text kept is = kept_number_fits (depth sizes.Tiny false) (height sizes.Tiny false) text kept is
kept_fits (types.Char most) text kept is = kept_text_fits most text kept is
kept_fits (types.VarChar most) text kept is = kept_text_fits most text kept is
kept_fits types.Date text kept is = cc
kept_fits types.DateTime text kept is = cc
