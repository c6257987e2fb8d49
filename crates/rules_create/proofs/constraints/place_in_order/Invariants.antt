use Rattle.std.proofs.Common.{◌≡◌}
use Rattle.dd_definitions.specs.declared.foreign_keys.ForeignKeyDef.{ForeignKeyDef}
use Rattle.rules_create.proofs.Fronts.{StandBefore}
use Rattle.rules_create.proofs.constraints.place_in_order.Given as goal

abbrev pub invariant-keys : goal.invariant-keys
invariant-keys l = (key : ForeignKeyDef) → l.name ≡ key.name → StandBefore key l.keys l.place
