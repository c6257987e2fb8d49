use Rattle.std.proofs.Common.{◌≡◌, ◌++◌}
use Rattle.sql_pieces.specs.Pieces.{escaped}
use lib.Utf8.{encodes}
use Rattle.sql_pieces.proofs.write.push_escaped.Given as goal

abbrev pub invariant-characters : goal.invariant-characters
invariant-characters l = l.out ≡ l.fn.out ++ escaped (encodes l.yielded)
