use Rattle.std.proofs.Common.{◌≡◌, ◌∙◌, sym, ap, subst, false}
use Rattle.serde_json.specs.Written.{has_float, compact_text}
use Rattle.sdi_text.specs.Values.{table_value}
use Rattle.sdi_text.specs.Sdi.{sdi_bytes}
use Rattle.sdi_text.proofs.Floats.{table}
use Rattle.sdi_text.proofs.files.sdi.Goals as goal

pub returns : goal.returns
unfolding sdi_bytes
returns c =
    let plain = subst (λ d. has_float d ≡ false) (sym c.in_ok-value.ensures) (table c.parts.result.now c.args.space) in
    c.from_string.ensures ∙ c.in_ok-to_string.ensures.text plain ∙ ap compact_text c.in_ok-value.ensures
    ∙ ap (λ p. compact_text (table_value p c.args.space)) c.parts.ensures
