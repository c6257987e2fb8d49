use Rattle.std.proofs.Common.{◌≡◌, ◌++◌, take}
use Rattle.std.specs.List.{flat_map}
use Rattle.rules_intents.specs.Intents.{pair_claims}
use Rattle.rules_footprint.specs.Coded.{claims_of}
use Rattle.rules_footprint.proofs.texts.add_pairs.Given as goal

abbrev pub invariant-pairs : goal.invariant-pairs
invariant-pairs l = claims_of l.claims ≡ claims_of l.fn.claims ++ flat_map (pair_claims l.current) (take l.pair-index l.pairs)
