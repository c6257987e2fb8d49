use Rattle.std.proofs.Common.{map}
use Rattle.dd_index.specs.Index.{KeepsAll, Enters}
use Rattle.dd_index.proofs.tables_at.TablesAt.enter.Given as goal

abbrev pub invariant-keys : goal.invariant-keys
invariant-keys l =
    record {
      kept : KeepsAll l.fn.self l.self;
      entered : Enters l.self l.table (map (λ key. key.now) l.yielded);
    }
