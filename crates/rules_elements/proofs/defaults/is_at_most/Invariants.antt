use Rattle.std.proofs.Common.{◌≡◌, ◌≤◌, drop, nat_le}
use Rattle.dd_definitions.specs.Defaults.{value_behind}
use Rattle.rules_elements.proofs.defaults.is_at_most.Given as goal

abbrev pub invariant-digits : goal.invariant-digits
invariant-digits l =
    record {
      small : l.value ≤ l.most;
      rest : nat_le (value_behind l.value (drop l.digit-index l.digits)) l.most ≡ nat_le (value_behind 0 l.digits) l.most;
    }
