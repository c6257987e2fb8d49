use Rattle.std.proofs.Common.{◌≡◌, drop}
use Rattle.rules_alter.specs.Columns.{place_at, place_from}
use Rattle.rules_alter.proofs.places.place_at.Given as goal

abbrev pub invariant-columns : goal.invariant-columns
invariant-columns l = place_at l.name l.columns ≡ place_from l.place l.name (drop l.place l.columns)
