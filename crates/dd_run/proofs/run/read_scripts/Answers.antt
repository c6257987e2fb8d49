use Rattle.std.proofs.Common.{sym, subst, length, ◌≤◌}
use Rattle.std.specs.Io.KnownBytes.{IsAtEnd}
use Rattle.script_read.specs.Scripts.{scripts}
use Rattle.dd_run.specs.Headline.{InputIs}
use Rattle.dd_run.proofs.Input.{input_is}
use Rattle.dd_run.proofs.Refused.{all_run, not_run, can_run, at_end}
use Rattle.dd_run.proofs.run.read_scripts.Goals as goal

pub returns-clause-sessions : goal.returns-clause-sessions
returns-clause-sessions g c =
    let left = g.S.Source.left c.args.source.now in
    let bytes = c.deref.result.now in
    let is = subst (λ b. InputIs left (scripts b)) (sym c.deref.ensures.value) (input_is left (g.S.Source.left c.read_up_to.new.source) c.in-Ok.bytes.items c.in-Ok.ensures.bytes c.in-Ok.ensures.ended) in
    all_run left (scripts bytes) is c.sessions_of.result c.sessions_of.ensures.read c.sessions_of.ensures.built

pub returns-clause-runnable : goal.returns-clause-runnable
returns-clause-runnable g c = can_run c.sessions_of.result c.sessions_of.ensures.built c.sessions_of.ensures.few c.sessions_of.ensures.named

pub returns-clause-ended : goal.returns-clause-ended
returns-clause-ended g c =
    at_end (IsAtEnd (g.S.Source.left c.read_up_to.new.source)) c.deref.result.now c.sessions_of.result
    (subst (λ b. length b ≤ 67108864 → IsAtEnd (g.S.Source.left c.read_up_to.new.source)) (sym c.deref.ensures.value) c.in-Ok.ensures.ended)
    c.sessions_of.ensures.read

pub returns-clause-err : goal.returns-clause-err
returns-clause-err g c =
    let left = g.S.Source.left c.args.source.now in
    let bytes = c.deref.result.now in
    let is = subst (λ b. InputIs left (scripts b)) (sym c.deref.ensures.value) (input_is left (g.S.Source.left c.read_up_to.new.source) c.in-Ok.bytes.items c.in-Ok.ensures.bytes c.in-Ok.ensures.ended) in
    not_run left (scripts bytes) is _ _ c.sessions_of.result c.sessions_of.ensures.refused
