use Rattle.std.proofs.Common.{sym, ◌∙◌}
use Rattle.sql_parse_tests.proofs.statements.sentence.Goals as goal

pub returns : goal.returns
returns c = c.what_is_read_is_spellable.ensures c.args.text.now c.in-Ok.statement c.utf8.text c.in-Ok.ensures.reads (sym c.is_bad.ensures ∙ c.if-is_bad.false)
