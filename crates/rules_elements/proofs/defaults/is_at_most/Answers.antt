use Rattle.std.proofs.Common.{◌+◌, ◌*◌, ◌∙◌, ap, nat_le, arith}
use Rattle.dd_definitions.specs.Defaults.{value_behind}
use Rattle.dd_definitions.proofs.Values.{past_most}
use Rattle.rules_elements.proofs.defaults.is_at_most.Goals as goal

pub returns-then-value-most : goal.returns-then-value-most
returns-then-value-most c =
    past_most _ c.digits.value (10 * c.digits.value + c.from.result) c.args.digits.now c.digits.digit-index _ c.digits-test.true (omega (arith, c.from.ensures, c.saturating_sub.ensures)) c.if-value-most.true c.digits.invariant.rest
    ∙ ap (nat_le (value_behind 0 c.args.digits.now)) c.from-most.ensures
