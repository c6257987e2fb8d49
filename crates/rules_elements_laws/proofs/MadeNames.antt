-- What is made of a name has the characters of names.
use Rattle.std.proofs.Common.{◌≡◌, ℕ, ◌+◌, ◌<◌, ◌≤◌, ◌^◌, Bool, true, false, not, cond, List, [], ◌∷◌, ◌++◌, length, nat_lt, Option, Some, None, refl, ◌∙◌, ap, arith, length-append}
use Rattle.std.specs.Prelude.{◌==◌, position}
use Rattle.std.specs.List.{list_all, prefix_len}
use Rattle.std.specs.Fmt.{decimal}
use Rattle.std.specs.Str.Parse.{AllDigits}
use Rattle.std.proofs.lemmas.Bool.Decides.{nat_tests}
use Rattle.std.proofs.lemmas.Fmt.{decimal_is_IsNumeral}
use Rattle.std.proofs.lemmas.Str.Parse.{digit_from_value}
use Rattle.dd_names.specs.Names.{is_name_byte, IsName, name_fault, fault_after}
use Rattle.rules_elements.specs.Keys.{numbered}
use Rattle.rules_elements_laws.specs.MadeNames.{too_long_alone}
use Rattle.rules_elements_laws.proofs.Numbers.{both, together}

-- a text of characters that names have
record IsNameText (text : List ℕ) : Type 0 where
  some : 0 < length text
  each : list_all is_name_byte text ≡ true

digit_is_good : (d : ℕ) → 48 ≤ d → d ≤ 57 → is_name_byte d ≡ true
digit_is_good d low high = grind (arith, nat_tests)

digits_are_good : (digits : List ℕ) → AllDigits 10 digits → list_all is_name_byte digits ≡ true
digits_are_good [] all = refl
digits_are_good (d ∷ digits) all =
    let low : 48 ≤ d = omega (arith, digit_from_value d all.0) in
    let high : d ≤ 57 = omega (arith, digit_from_value d all.0) in
    together (is_name_byte d) (list_all is_name_byte digits) (digit_is_good d low high) (digits_are_good digits all.1)

joined_are_good : (xs ys : List ℕ) → list_all is_name_byte xs ≡ true → list_all is_name_byte ys ≡ true → list_all is_name_byte (xs ++ ys) ≡ true
joined_are_good [] ys here there = there
joined_are_good (x ∷ xs) ys here there =
    let parts = both (is_name_byte x) (list_all is_name_byte xs) here in
    together (is_name_byte x) (list_all is_name_byte (xs ++ ys)) parts.0 (joined_are_good xs ys parts.1 there)

numbered_is_good : (base : List ℕ) (number : ℕ) → IsName base → number < 2 ^ 64 → IsNameText (numbered base number)
numbered_is_good base number name small =
    elim (number == 1) as (λ v. IsNameText (cond v base (base ++ 95 ∷ decimal number))) [
      | true ↦ record { some = name.some; each = name.each }
      | false ↦ record {
        some = omega (arith, length-append base (95 ∷ decimal number));
        each = joined_are_good base (95 ∷ decimal number) name.each (digits_are_good (decimal number) (decimal_is_IsNumeral number small).0.1);
      }
    ]

all_pass : (text : List ℕ) → list_all is_name_byte text ≡ true → prefix_len (λ c. not (not (is_name_byte c))) text ≡ length text
all_pass [] each = refl
all_pass (c ∷ text) each =
    let parts = both (is_name_byte c) (list_all is_name_byte text) each in
    let rest : prefix_len (λ c. not (not (is_name_byte c))) text ≡ length text = all_pass text parts.1 in
    ap (λ v. cond (not (not v)) (1 + prefix_len (λ c. not (not (is_name_byte c))) text) 0) parts.0 ∙ omega arith

not_less : (n : ℕ) → nat_lt n n ≡ false
not_less n = grind (arith, nat_tests)

not_empty : (n : ℕ) → 0 < n → (n == 0) ≡ false
not_empty n some = grind (arith, nat_tests)

none_bad : (text : List ℕ) → list_all is_name_byte text ≡ true → position (λ c. not (is_name_byte c)) text ≡ None
none_bad text each =
    let passing : ℕ = prefix_len (λ c. not (not (is_name_byte c))) text in
    let test : nat_lt passing (length text) ≡ false = ap (λ n. nat_lt n (length text)) (all_pass text each) ∙ not_less (length text) in
    let answer : Bool → Option ℕ = λ v. cond v (Some passing) None in
    ap answer test

fault_is : (text : List ℕ) → IsNameText text → name_fault text true ≡ too_long_alone text
fault_is text good =
    ap (λ v. cond v (name_fault [] true) (fault_after (position (λ c. not (is_name_byte c)) text) text true)) (not_empty (length text) good.some)
    ∙ ap (λ bad. fault_after bad text true) (none_bad text good.each)

pub made_names_are_names : (base : List ℕ) (number : ℕ) → IsName base → number < 2 ^ 64 → name_fault (numbered base number) true ≡ too_long_alone (numbered base number)
made_names_are_names base number name small = fault_is (numbered base number) (numbered_is_good base number name small)
