use Rattle.std.proofs.Common.{◌≡◌, List, Result, ◌⊎◌, inl, inr, sym, ap, ◌∙◌, Err}
use Rattle.script_cut.specs.declared.fault.ScriptFault.{ScriptFault}
use Rattle.script_cut.specs.declared.fault.ScriptFault.TheVariants.{NotUtf8}
use Rattle.script_read.specs.declared.script.Script.{Script}
use Rattle.script_read.specs.Scripts.{scripts_in}
use Rattle.script_read.proofs.Whole.{good_text, bad_text}
use Rattle.script_read.proofs.read.scripts.Goals as goal

moved : {X : Type 0} (r a b c : X) → (r ≡ a) ⊎ (r ≡ b) → b ≡ c → (r ≡ a) ⊎ (r ≡ c)
moved r a b c (inl e) f = inl e
moved r a b c (inr e) f = inr (e ∙ f)

pub returns-in-Ok : goal.returns-in-Ok
returns-in-Ok c =
    let ok = c.in-Ok.ensures.cases in
    record { exact = moved c.scripts_in.result _ _ _ c.scripts_in.ensures.exact (ap scripts_in ok.0 ∙ sym (good_text c.args.bytes.now c.if-bytes-gt-MAX_INPUT.false ok.1)); few = c.scripts_in.ensures.few; named = c.scripts_in.ensures.named }

pub returns-in-Err : goal.returns-in-Err
returns-in-Err c =
    let err = c.in-Err.ensures.cases in
    record { exact = inr (ap (λ at. Err (NotUtf8 at)) (c.valid_up_to.ensures ∙ c.in-Err.ensures.valid_len) ∙ sym (bad_text c.args.bytes.now c.if-bytes-gt-MAX_INPUT.false err.0)); few = tt; named = tt }
