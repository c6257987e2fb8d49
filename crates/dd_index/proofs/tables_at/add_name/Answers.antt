use Rattle.dd_index.proofs.Kept.{set_more}
use Rattle.dd_index.proofs.tables_at.add_name.Goals as goal

pub returns-clause-kept : goal.returns-clause-kept
returns-clause-kept c other is = set_more c.args.tables.now c.insert.new.self c.in_ok-copy.field-0 other (c.in_ok-insert.ensures.updates.0 other) is
