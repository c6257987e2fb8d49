use Rattle.std.specs.Map.{values_of}
use Rattle.std.proofs.Common.{ap, refl}
use Rattle.rules_create.proofs.OrderedKeys.{none_ordered}
use Rattle.rules_create.proofs.ordered_keys.OrderedKeys.none.Goals as goal

pub returns : goal.returns
returns c = record {
  none = ap (λ es. values_of es) c.new.ensures.empty;
  ordered = none_ordered (record { by_name = c.new.result; front = c.in_ok-front.front; greatest = 0 }) c.args.table.now c.new.ensures.empty c.in_ok-front.ensures refl;
}
