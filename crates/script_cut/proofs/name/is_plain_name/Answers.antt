use Rattle.std.proofs.Common.{◌∙◌, sym}
use Rattle.script_cut.proofs.NameTexts.{name_is_text}
use Rattle.script_cut.proofs.name.is_plain_name.Goals as goal

pub unreachable-requires : goal.unreachable-requires
unreachable-requires c = absurd ((c.in-Err.ensures).cases.0 (name_is_text c.args.word.now (sym c.has_form.ensures ∙ c.if-not-has_form.false)))
