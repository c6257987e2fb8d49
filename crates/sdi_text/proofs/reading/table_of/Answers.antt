use Rattle.std.proofs.Common.{◌≡◌, ◌∙◌, true, codes, sym, ap, subst}
use Rattle.serde_json.specs.Find.{get}
use Rattle.dd_definitions.specs.WellFormed.{is_well_formed}
use Rattle.sdi_text.specs.Sdi.{sdi_bytes}
use Rattle.sdi_text.specs.Reading.{Reads}
use Rattle.sdi_text.proofs.reading.table_of.Goals as goal

pub returns-in-Ok-clause-exact : goal.returns-in-Ok-clause-exact
returns-in-Ok-clause-exact c = λ parts space held formed small is text.
    let pair = c.in-Ok.ensures parts space (c.parts_of.ensures parts space held is) (c.number_at.ensures space small (ap (get (codes "space")) is)) in
    subst (λ p. Reads p c.formed.result) pair
    (c.formed.ensures.exact (subst (λ p. is_well_formed p.0 ≡ true) (sym pair) formed) (text ∙ ap (λ p. sdi_bytes p.0 p.1) (sym pair)))

pub returns-in-Err-clause-exact : goal.returns-in-Err-clause-exact
returns-in-Err-clause-exact c = λ parts space held formed small is text.
    c.in-Err.ensures parts space (c.parts_of.ensures parts space held is) (c.number_at.ensures space small (ap (get (codes "space")) is))
