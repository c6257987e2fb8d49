use Rattle.std.proofs.Common.{◌≡◌, ◌++◌, take}
use Rattle.std.specs.Prelude.{flat_map}
use Rattle.show_text.specs.Tables.{foreign_key_line}
use Rattle.show_text.proofs.tables.push_foreign_key_lines.Given as goal

abbrev pub invariant-keys : goal.invariant-keys
invariant-keys l = l.out ≡ l.fn.out ++ flat_map (λ k. foreign_key_line l.schema k) (take l.key-index l.keys)
