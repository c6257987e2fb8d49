-- A number's decimal digits are digits, and write it.
use Rattle.std.proofs.Common.{◌≡◌, ℕ, ◌+◌, ◌-◌, ◌*◌, ◌/◌, ◌%◌, ◌^◌, ◌<◌, ◌≤◌, true, List, [], ◌∷◌, ◌++◌, length, nat_lt, refl, ◌∙◌, arith}
use Rattle.std.specs.Prelude.{decimal}
use Rattle.std.specs.List.{list_all}
use Rattle.std.specs.Char.{is_ascii_digit}
use Rattle.std.proofs.lemmas.Bool.Decides.{nat_tests}
use Rattle.std.proofs.lemmas.Fmt.{decimal_by_steps_wide}
use Rattle.std.proofs.lemmas.List.Folds.{list_all-append}
use Rattle.sql_grammar.specs.Lexemes.{value_from}
use Rattle.sql_pieces.specs.Pieces.{as_digits, is_alone}

-- digits that write n
pub record IsDecimal (n : ℕ) (ds : List ℕ) : Type 0 where
  pub some : nat_lt 0 (length ds) ≡ true
  pub digits : list_all is_ascii_digit ds ≡ true
  pub value : value_from 0 ds ≡ n

digit_is : (d : ℕ) → d < 10 → is_ascii_digit (48 + d) ≡ true
digit_is d h = grind (arith, nat_tests)

one_digit : (n : ℕ) → n < 10 → IsDecimal n ((48 + n) ∷ [])
one_digit n h = record { some = refl; digits = rw (digit_is n h) refl; value = omega arith }

value_more : (m : ℕ) (ds : List ℕ) (d : ℕ) → value_from m (ds ++ d ∷ []) ≡ 10 * value_from m ds + (d - 48)
value_more m [] d = refl
value_more m (e ∷ ds) d = value_more (10 * m + (e - 48)) ds d

some_more : (ds : List ℕ) (d : ℕ) → nat_lt 0 (length (ds ++ d ∷ [])) ≡ true
some_more [] d = refl
some_more (e ∷ ds) d = grind (arith, nat_tests)

more_digits : (n : ℕ) (ds : List ℕ) → 10 ≤ n → IsDecimal (n / 10) ds → IsDecimal n (ds ++ ((48 + n % 10) ∷ []))
more_digits n ds h p =
    let e = p.value in
    let low : n % 10 < 10 = omega arith in
    record {
      some = some_more ds (48 + n % 10);
      digits = list_all-append is_ascii_digit ds ((48 + n % 10) ∷ []) ∙ (rw (p.digits, digit_is (n % 10) low) refl);
      value = value_more 0 ds (48 + n % 10) ∙ (rw e (omega arith));
    }

pub decimal_is : (n : ℕ) → n < 2 ^ 128 → IsDecimal n (decimal n)
decimal_is n h = decimal_by_steps_wide IsDecimal one_digit more_digits n (omega (arith, h))

pub decimal_alone : (n : ℕ) → n < 2 ^ 128 → (is_alone (as_digits (decimal n)) ≡ true) × (value_from 0 (decimal n) ≡ n)
decimal_alone n h = let d = decimal_is n h in (rw (d.some, d.digits) refl, d.value)
