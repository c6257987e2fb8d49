use Rattle.std.proofs.Common.{◌≡◌, take}
use Rattle.row_store.specs.Merging.{puts_of}
use Rattle.row_store.proofs.preparing.puts_of.Given as goal

abbrev pub invariant-each : goal.invariant-each
invariant-each l = l.puts.items ≡ puts_of (take l.operation-index l.operations)
