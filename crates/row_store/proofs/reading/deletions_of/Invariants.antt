use Rattle.std.proofs.Common.{◌≡◌, take}
use Rattle.std.specs.List.{filter}
use Rattle.row_store.specs.Effects.{is_deletion}
use Rattle.row_store.proofs.reading.deletions_of.Given as goal

abbrev pub invariant-each : goal.invariant-each
invariant-each l = l.gone.items ≡ filter is_deletion (take l.operation-index l.operations)
