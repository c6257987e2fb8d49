use Rattle.std.proofs.Common.{sym, rules}
use Rattle.dd_index.specs.declared.tables_at.TablesAt.{TablesAt}
use Rattle.dd_index.proofs.Kept.{others_kept}
use Rattle.dd_index.proofs.tables_at.TablesAt.take_out.Goals as goal

pub returns-in-Some : goal.returns-in-Some
returns-in-Some c =
    let new : TablesAt = record { tables = c.get_mut.follows.lender c.remove.new.self } in
    others_kept c.args.self.now new c.args.key.now c.args.table.now c.in-Some.tables.now c.remove.new.self (sym c.in-Some.ensures.value) (record { at = ((c.get_mut.follows.holds c.remove.new.self).3 (search rules)).0 }) c.remove.ensures.updates.2
