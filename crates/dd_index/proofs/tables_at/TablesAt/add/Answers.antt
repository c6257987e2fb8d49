use Rattle.std.proofs.Common.{sym, rules}
use Rattle.dd_index.specs.declared.tables_at.TablesAt.{TablesAt}
use Rattle.dd_index.proofs.Kept.{more_kept}
use Rattle.dd_index.proofs.tables_at.TablesAt.add.Goals as goal

pub returns-in-Some-clause-kept : goal.returns-in-Some-clause-kept
returns-in-Some-clause-kept c =
    let new : TablesAt = record { tables = c.get_mut.follows.lender c.add_name.new.tables } in
    more_kept c.args.self.now new c.args.key.now c.in-Some.tables.now c.add_name.new.tables (sym c.in-Some.ensures.value) (record { at = ((c.get_mut.follows.holds c.add_name.new.tables).3 (search rules)).0 }) c.add_name.ensures.kept
