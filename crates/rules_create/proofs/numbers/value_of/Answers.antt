use Rattle.std.specs.Prelude.{◌+◌, ◌-◌, ◌*◌, ◌^◌, ◌<◌, ◌≤◌}
use Rattle.std.proofs.Common.{get_or, arith}
use Rattle.rules_create.proofs.Digits.{digit_at, ten_times, at_most_38}
use Rattle.rules_create.proofs.numbers.value_of.Goals as goal

pub overflow_mul-value : goal.overflow_mul-value
overflow_mul-value c =
    let most : 10 * c.digits.value + 9 < 10 ^ 38 = ten_times c.args.digits.now c.digits.digit-index c.digits.value c.requires c.digits-test.true c.digits.invariant.small in
    omega arith

pub overflow_add-value : goal.overflow_add-value
overflow_add-value c =
    let most : 10 * c.digits.value + 9 < 10 ^ 38 = ten_times c.args.digits.now c.digits.digit-index c.digits.value c.requires c.digits-test.true c.digits.invariant.small in
    let digit : get_or c.args.digits.now c.digits.digit-index 0 - 48 ≤ 9 = digit_at c.args.digits.now c.digits.digit-index c.digits-test.true c.requires in
    omega (arith, c.from.ensures, c.saturating_sub.ensures)

pub returns-clause-small : goal.returns-clause-small
returns-clause-small c =
    at_most_38 c.args.digits.now c.digits.digit-index c.digits.value c.requires c.digits.auto.digit-index-end c.digits.invariant.small
