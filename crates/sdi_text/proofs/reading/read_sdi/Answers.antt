use Rattle.std.proofs.Common.{◌∙◌, Err, IsSome, refl, sym, ap, subst, arith}
use Rattle.serde_json.specs.declared.value.Value.{Value}
use Rattle.serde_json.specs.Read.{read}
use Rattle.serde_json.specs.View.{view}
use Rattle.serde_json.proofs.Refusals.{IsMemory-from_err}
use Rattle.sdi_text.specs.Values.{table_value}
use Rattle.sdi_text.proofs.Back.{sdi_reads}
use Rattle.sdi_text.proofs.Items.{some_same}
use Rattle.sdi_text.proofs.reading.read_sdi.Goals as goal

pub returns-in-Ok-clause-exact : goal.returns-in-Ok-clause-exact
returns-in-Ok-clause-exact c = λ parts space held formed small utf8 is.
    let same = some_same (view c.in-Ok.value) (table_value parts space) (sym c.in-Ok.ensures.ok.1 ∙ ap read is ∙ sdi_reads parts space (omega arith)) in
    c.table_of.ensures.exact parts space held formed small same is

pub returns-in-Err-clause-exact : goal.returns-in-Err-clause-exact
returns-in-Err-clause-exact c = λ parts space held formed small utf8 is.
    let found = ap read is ∙ sdi_reads parts space (omega arith) in
    c.of_json.ensures (IsMemory-from_err {T = Value} (Err c.in-Err.error) (read c.args.bytes.now) (λ not. c.in-Err.ensures.err not utf8) (subst IsSome (sym found) refl))
