use Rattle.std.proofs.Common.{◌≡◌, length}
use Rattle.rules_rename.specs.Overlays.{put_names}
use Rattle.rules_rename.proofs.ordered.put_names.Given as goal

abbrev pub invariant-rest : goal.invariant-rest
invariant-rest l = put_names l.rest.items l.names ≡ put_names l.fn.more l.fn.names

abbrev pub decreases-rest : goal.decreases-rest
decreases-rest l = length l.rest.items
