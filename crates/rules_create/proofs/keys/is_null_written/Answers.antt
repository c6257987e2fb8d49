use Rattle.std.proofs.Common.{sym, ◌∙◌}
use Rattle.rules_create.proofs.Flat.{null_written_flat}
use Rattle.rules_create.proofs.keys.is_null_written.Goals as goal

pub returns : goal.returns
returns c = c.is_null_among.ensures ∙ sym (null_written_flat c.args.elements.now c.args.name.now)
