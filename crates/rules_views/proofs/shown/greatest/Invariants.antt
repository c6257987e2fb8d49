use Rattle.std.proofs.Common.{◌≡◌, drop}
use Rattle.rules_views.specs.Columns.{greatest}
use Rattle.rules_views.proofs.shown.greatest.Given as goal

abbrev pub invariant-sources : goal.invariant-sources
invariant-sources l = greatest l.most (drop l.source-index l.shown) ≡ greatest 0 l.shown
