use Rattle.std.proofs.Common.{◌≡◌}
use Rattle.rules_footprint.proofs.asked.Requests.into_list.Given as goal

abbrev pub invariant-all : goal.invariant-all
invariant-all l = l.list ≡ l.yielded
