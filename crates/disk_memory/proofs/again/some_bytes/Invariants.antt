use Rattle.std.proofs.Common.{◌≡◌, length}
use Rattle.disk_memory.proofs.again.some_bytes.Given as goal

abbrev pub invariant-bytes : goal.invariant-bytes
invariant-bytes l = length l.bytes.items ≡ l.counter
