use Rattle.std.proofs.Common.{[], ◌∷◌, decimal}
use Rattle.std.proofs.lemmas.Slice.Eq.{strip_suffix_is}
use Rattle.std.proofs.lemmas.Bool.Decides.{Decides-eqb}
use Rattle.sdi_text.proofs.Suffix.{never_bare, is_front}
use Rattle.sdi_text.proofs.type_words.length_of.Goals as goal

pub returns-in-None : goal.returns-in-None
returns-in-None c = λ length small is. absurd (never_bare c.args.text.now (41 ∷ []) (decimal length) c.strip_suffix.result (strip_suffix_is Decides-eqb c.args.text.now (41 ∷ []) c.strip_suffix.result c.strip_suffix.ensures.cases) c.in-None.is is)

pub returns-in-Some : goal.returns-in-Some
returns-in-Some c = λ length small is. c.number_of.ensures length small (is_front c.args.text.now (41 ∷ []) (decimal length) c.strip_suffix.result c.in-Some.digits (strip_suffix_is Decides-eqb c.args.text.now (41 ∷ []) c.strip_suffix.result c.strip_suffix.ensures.cases) c.in-Some.is is)
