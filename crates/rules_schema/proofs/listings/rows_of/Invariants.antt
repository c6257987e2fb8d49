use Rattle.std.proofs.Common.{◌≡◌, take, map}
use Rattle.rules_schema.specs.Listings.{row_of}
use Rattle.rules_schema.proofs.listings.rows_of.Given as goal

abbrev pub invariant-names : goal.invariant-names
invariant-names l = l.rows ≡ map row_of (take l.name-index l.names)
