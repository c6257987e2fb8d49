use Rattle.std.proofs.Common.{◌≡◌, ◌++◌, take}
use Rattle.std.specs.Prelude.{flat_map}
use Rattle.show_text.specs.Tables.{index_line}
use Rattle.show_text.proofs.tables.push_index_lines.Given as goal

abbrev pub invariant-indexes : goal.invariant-indexes
invariant-indexes l = l.out ≡ l.fn.out ++ flat_map index_line (take l.index-index l.indexes)
