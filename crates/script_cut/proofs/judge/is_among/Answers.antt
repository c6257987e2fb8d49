use Rattle.std.proofs.Common.{◌∙◌}
use Rattle.std.specs.Str.{bytes_eq}
use Rattle.script_cut.proofs.Judged.{any_of_texts}
use Rattle.script_cut.proofs.judge.is_among.Goals as goal

pub returns : goal.returns
returns c = c.has_name.ensures ∙ any_of_texts (λ n. n.now) (bytes_eq c.args.name.now) c.args.names.now
