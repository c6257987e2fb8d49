use Rattle.std.proofs.Common.{◌≡◌, length}
use Rattle.std.specs.Prelude.{reverse}
use Rattle.rules_rename.specs.Puts.{put_all}
use Rattle.rules_rename.proofs.all_pairs.put_all.Given as goal

abbrev pub invariant-rest : goal.invariant-rest
invariant-rest l = put_all (reverse l.rest.items) l.overlay ≡ put_all l.fn.changes l.fn.overlay

abbrev pub decreases-rest : goal.decreases-rest
decreases-rest l = length l.rest.items
