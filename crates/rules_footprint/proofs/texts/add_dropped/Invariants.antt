use Rattle.std.proofs.Common.{◌≡◌, ◌++◌, take}
use Rattle.std.specs.List.{flat_map}
use Rattle.rules_intents.specs.Intents.{at_named, changes}
use Rattle.rules_footprint.specs.Coded.{claims_of}
use Rattle.rules_footprint.proofs.texts.add_dropped.Given as goal

abbrev pub invariant-tables : goal.invariant-tables
invariant-tables l = claims_of l.claims ≡ claims_of l.fn.claims ++ flat_map (at_named changes l.current) (take l.table-index l.tables)
