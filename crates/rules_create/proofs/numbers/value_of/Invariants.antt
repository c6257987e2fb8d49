use Rattle.std.proofs.Common.{◌≡◌, ◌<◌, drop}
use Rattle.std.specs.Prelude.{◌^◌}
use Rattle.dd_definitions.specs.Defaults.{value_behind}
use Rattle.rules_create.proofs.numbers.value_of.Given as goal

abbrev pub invariant-digits : goal.invariant-digits
invariant-digits l =
    record {
      value : value_behind l.value (drop l.digit-index l.digits) ≡ value_behind 0 l.digits;
      small : l.value < 10 ^ l.digit-index;
    }
