use Rattle.std.proofs.Common.{◌≡◌, None, sym, ap, subst, ◌∙◌}
use Rattle.std.specs.List.{AllByRecursion}
use Rattle.script_cut.specs.Faults.{fault_of}
use Rattle.script_read.specs.Scripts.{IsFew, SaysNames, sessions_in}
use Rattle.script_read.proofs.Limits.{sessions_are_few}
use Rattle.script_read.proofs.Named.{sessions_named}
use Rattle.script_read.proofs.read.scripts_in.Goals as goal

pub returns-in-Ok-sessions_in-clause-few : goal.returns-in-Ok-sessions_in-clause-few
returns-in-Ok-sessions_in-clause-few c =
    let text = c.args.text.now in
    let items = c.in-Ok.items.items in
    let none : fault_of text items ≡ None =
    ap (λ bytes. fault_of bytes items) (sym c.as_bytes.ensures.value) ∙ ap (fault_of c.as_bytes.result.now) (sym c.deref.ensures.value) ∙ sym c.in-Ok-None.ensures ∙ c.in-Ok-None.field-0-is in
    subst (AllByRecursion IsFew) (sym (c.in-Ok-sessions_in.ensures ∙ ap (sessions_in text) c.deref-2.ensures.value)) (sessions_are_few text items none)

pub returns-in-Ok-sessions_in-clause-named : goal.returns-in-Ok-sessions_in-clause-named
returns-in-Ok-sessions_in-clause-named c =
    let text = c.args.text.now in
    let items = c.in-Ok.items.items in
    subst (AllByRecursion SaysNames) (sym (c.in-Ok-sessions_in.ensures ∙ ap (sessions_in text) c.deref-2.ensures.value))
    (sessions_named c.statement_laws.ensures.reads c.what_is_read_says_names.ensures text c.utf8.text items c.in-Ok.ensures.places)
