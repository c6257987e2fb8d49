use Rattle.std.proofs.Common.{◌≡◌, take, map}
use Rattle.rules_create.specs.Tables.{never_null}
use Rattle.rules_create.proofs.keys.all_never_null.Given as goal

abbrev pub invariant-columns : goal.invariant-columns
invariant-columns l = l.found ≡ map (never_null l.names) (take l.column-index l.columns)
