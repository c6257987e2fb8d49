-- The number that digits stand for.
use Rattle.std.proofs.Common.{◌≡◌, ℕ, ◌+◌, ◌-◌, ◌*◌, ◌<◌, ◌≤◌, Bool, false, List, [], ◌∷◌, length, drop, get_or, nat_le, sym, ◌∙◌, ap, arith}
use Rattle.std.proofs.lemmas.Bool.Decides.{nat_tests}
use Rattle.std.proofs.lemmas.List.{at_drop_more}
use Rattle.dd_definitions.specs.Defaults.{value_behind}

-- more digits make no smaller number
value_behind_grows : (before : ℕ) (digits : List ℕ) → before ≤ value_behind before digits
value_behind_grows before [] = omega arith
value_behind_grows before (digit ∷ digits) =
    let more : 10 * before + (digit - 48) ≤ value_behind (10 * before + (digit - 48)) digits = value_behind_grows (10 * before + (digit - 48)) digits in
    omega arith

is_above : (n most : ℕ) → most < n → nat_le n most ≡ false
is_above n most lt = grind (arith, nat_tests)

-- a number that is past the greatest stays past it
pub past_most : (most before next : ℕ) (digits : List ℕ) (i : ℕ) (total : Bool) → i < length digits → next ≡ 10 * before + (get_or digits i 0 - 48) → most < next → nat_le (value_behind before (drop i digits)) most ≡ total → false ≡ total
past_most most before next digits i total lt is past so_far =
    let rest = drop (i + 1) digits in
    let grown : next ≤ value_behind next rest = value_behind_grows next rest in
    let same : value_behind next rest ≡ value_behind (10 * before + (get_or digits i 0 - 48)) rest = ap (λ n. value_behind n rest) is in
    let step : value_behind before (drop i digits) ≡ value_behind (10 * before + (get_or digits i 0 - 48)) rest = at_drop_more (value_behind before) digits i 0 lt in
    let far : most < value_behind before (drop i digits) = omega arith in
    sym (is_above (value_behind before (drop i digits)) most far) ∙ so_far
