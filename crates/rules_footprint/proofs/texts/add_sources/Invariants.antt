use Rattle.std.proofs.Common.{◌≡◌, ◌++◌, take}
use Rattle.std.specs.List.{flat_map}
use Rattle.rules_intents.specs.Intents.{source_claims}
use Rattle.rules_footprint.specs.Coded.{claims_of}
use Rattle.rules_footprint.proofs.texts.add_sources.Given as goal

abbrev pub invariant-sources : goal.invariant-sources
invariant-sources l = claims_of l.claims ≡ claims_of l.fn.claims ++ flat_map (source_claims l.current) (take l.source-index l.sources)
