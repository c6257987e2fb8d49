use Rattle.std.proofs.Common.{sym, ◌∙◌}
use Rattle.rules_alter.proofs.Nulls.{null_written}
use Rattle.rules_alter.proofs.keys.is_null_of.Goals as goal

pub returns : goal.returns
returns c = c.is_among.ensures ∙ sym (null_written c.args.nulls.now c.args.name.now)
