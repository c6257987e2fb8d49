-- Numbers of at most 38 digits.
use Rattle.std.specs.Prelude.{◌≡◌, ℕ, ◌+◌, ◌-◌, ◌*◌, ◌^◌, ◌<◌, ◌≤◌, Bool, true, false, ◌&&◌, not, nat_le, List, length, refl}
use Rattle.std.specs.List.{list_all}
use Rattle.std.specs.Char.{is_ascii_digit}
use Rattle.std.proofs.Common.{get_or, arith}
use Rattle.std.proofs.Math.Nat.{pow-le-pow_right}
use Rattle.std.proofs.lemmas.Bool.{and_parts}
use Rattle.std.proofs.lemmas.Bool.Decides.{nat_tests}
use Rattle.std.proofs.lemmas.Grind.{pow_more}
use Rattle.std.proofs.lemmas.List.Folds.{list_all_at}
use Rattle.dd_definitions.specs.Defaults.{begins_with_zero}
use Rattle.rules_create.specs.Tables.{is_number}

-- ## Digits

digit_small : (d : ℕ) → is_ascii_digit d ≡ true → d - 48 ≤ 9
digit_small d is = grind (arith, nat_tests)

all_digits : (text : List ℕ) → is_number text ≡ true → list_all is_ascii_digit text ≡ true
all_digits text is =
    let (front, zero) = and_parts (nat_le 1 (length text) && nat_le (length text) 38 && list_all is_ascii_digit text) (not (begins_with_zero text)) is in
    (and_parts (nat_le 1 (length text) && nat_le (length text) 38) (list_all is_ascii_digit text) front).1

at_most : (n most : ℕ) → nat_le n most ≡ true → n ≤ most
at_most n most is = grind (arith, nat_tests)

is_short : (text : List ℕ) → is_number text ≡ true → length text ≤ 38
is_short text is =
    let (front, zero) = and_parts (nat_le 1 (length text) && nat_le (length text) 38 && list_all is_ascii_digit text) (not (begins_with_zero text)) is in
    let (size, digits) = and_parts (nat_le 1 (length text) && nat_le (length text) 38) (list_all is_ascii_digit text) front in
    at_most (length text) 38 (and_parts (nat_le 1 (length text)) (nat_le (length text) 38) size).1

pub digit_at : (text : List ℕ) (i : ℕ) → i < length text → is_number text ≡ true → get_or text i 0 - 48 ≤ 9
digit_at text i lt is = at (is_ascii_digit (get_or text i 0)) refl
  where
    at : (b : Bool) → is_ascii_digit (get_or text i 0) ≡ b → get_or text i 0 - 48 ≤ 9
    at true here = digit_small (get_or text i 0) here
    at false here =
        let none : list_all is_ascii_digit text ≡ false = list_all_at is_ascii_digit text i 0 lt here in
        let all : list_all is_ascii_digit text ≡ true = all_digits text is in
        cc

-- ## Their numbers

stays_below : (i : ℕ) → i ≤ 38 → 10 ^ i ≤ 10 ^ 38
stays_below i le = pow-le-pow_right (omega arith) le

-- one digit more than fewer than 38
pub ten_times : (text : List ℕ) (i value : ℕ) → is_number text ≡ true → i < length text → value < 10 ^ i → 10 * value + 9 < 10 ^ 38
ten_times text i value is lt small =
    let short : length text ≤ 38 = is_short text is in
    let more : 10 ^ (i + 1) ≡ 10 ^ i * 10 = pow_more 10 i in
    let below : 10 ^ (i + 1) ≤ 10 ^ 38 = stays_below (i + 1) (omega arith) in
    omega arith

pub at_most_38 : (text : List ℕ) (i value : ℕ) → is_number text ≡ true → i ≤ length text → value < 10 ^ i → value < 10 ^ 38
at_most_38 text i value is le small =
    let short : length text ≤ 38 = is_short text is in
    let below : 10 ^ i ≤ 10 ^ 38 = stays_below i (omega arith) in
    omega arith
