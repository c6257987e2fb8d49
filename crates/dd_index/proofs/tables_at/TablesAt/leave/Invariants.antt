use Rattle.dd_index.specs.Index.{KeepsBut}
use Rattle.dd_index.proofs.tables_at.TablesAt.leave.Given as goal

abbrev pub invariant-keys : goal.invariant-keys
invariant-keys l = KeepsBut l.fn.self l.self l.table l.after
