use Rattle.std.proofs.Common.{take}
use Rattle.rules_footprint.specs.Coded.{claims_of}
use Rattle.rules_evictions.specs.Evicted.{Adds}
use Rattle.rules_evictions.proofs.evicting.Evictions.add_all.Given as goal

abbrev pub invariant-claims : goal.invariant-claims
invariant-claims l = Adds l.fn.self l.self (claims_of (take l.claim-index l.claims))
