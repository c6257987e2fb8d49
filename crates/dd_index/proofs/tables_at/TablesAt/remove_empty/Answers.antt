use Rattle.std.proofs.Common.{sym, ◌∙◌, ap}
use Rattle.dd_index.specs.Index.{has_name}
use Rattle.dd_index.specs.declared.tables_at.TablesAt.{TablesAt}
use Rattle.dd_index.proofs.Kept.{empty_gone}
use Rattle.dd_index.proofs.tables_at.TablesAt.remove_empty.Goals as goal

pub returns-then-is_empty : goal.returns-then-is_empty
returns-then-is_empty c =
    let new : TablesAt = record { tables = c.remove.new.self } in
    empty_gone c.args.self.now new c.args.key.now (λ table. sym (ap (has_name table) c.get.ensures.value) ∙ c.is_empty.ensures c.if-is_empty.true table) (record { at = c.remove.ensures.updates.0 })
