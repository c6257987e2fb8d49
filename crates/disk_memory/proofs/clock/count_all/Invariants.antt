use Rattle.std.proofs.Common.{◌≡◌, ◌++◌, take, drop}
use Rattle.disk_memory.specs.Fail.{passed}
use Rattle.disk_memory.proofs.clock.count_all.Given as goal

abbrev pub invariant-points : goal.invariant-points
invariant-points l = l.fail ≡ passed l.call l.from l.to (take l.at-index l.initial.fail) ++ drop l.at-index l.initial.fail
