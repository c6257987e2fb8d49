use Rattle.std.proofs.Common.{◌≡◌, ◌⊎◌, Err, subst}
use Rattle.script_cut.specs.declared.fault.ScriptFault.TheVariants.{Memory}
use Rattle.script_read.specs.Scripts.{scripts}
use Rattle.dd_run.proofs.Refused.{good_is}
use Rattle.dd_run.proofs.run.good_sessions.Goals as goal

pub returns-in-Ok-clause-read : goal.returns-in-Ok-clause-read
returns-in-Ok-clause-read c =
    let bytes = c.args.bytes.now in
    good_is (scripts bytes) c.in-Ok.found (subst (λ r. (r ≡ Err Memory) ⊎ (r ≡ scripts bytes)) c.in-Ok.is c.scripts.ensures.exact)
