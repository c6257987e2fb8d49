use Rattle.std.proofs.Common.{◌≡◌, ◌∷◌, take}
use Rattle.rules_schema.specs.Drops.{joined}
use Rattle.rules_schema.proofs.drops.joined.Given as goal

abbrev pub invariant-others : goal.invariant-others
invariant-others l = l.text ≡ joined (l.first ∷ take l.object-index l.others)
