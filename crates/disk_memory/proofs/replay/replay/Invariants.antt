use Rattle.std.proofs.Common.{take}
use Rattle.std.specs.Prelude.{nat_le, filter}
use Rattle.disk_memory.specs.Record.{directory_of, events_of}
use Rattle.disk_memory.specs.Replay.{Agrees}
use Rattle.disk_memory.proofs.replay.replay.Given as goal

abbrev pub invariant-calls : goal.invariant-calls
invariant-calls l = Agrees l.choice (directory_of l.start) (events_of (filter (λ e. nat_le e.moment l.last) (take l.entry-index l.calls))) (directory_of l.reads) (directory_of l.torn)
