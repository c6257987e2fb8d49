use Rattle.std.proofs.Common.{sym, ◌∙◌}
use Rattle.dd_index.proofs.Kept.{but_left}
use Rattle.dd_index.proofs.tables_at.TablesAt.leave_key.Goals as goal

pub returns : goal.returns
returns c = but_left c.args.self.now c.remove.new.self c.args.table.now c.args.after.now c.args.key.now (sym c.contains.ensures ∙ c.if-contains.false) c.remove.ensures
