use Rattle.std.proofs.Common.{◌≡◌, ◌++◌, ◌∷◌, [], ap, sym, ◌∙◌, subst, refl, List, arith, length}
use Rattle.dd_engine.specs.declared.history.Entry.{Entry}
use Rattle.dd_engine.specs.Engine.{IsPlain, IsSound}
use Rattle.dd_engine.proofs.Sound.{sound_step}
use Rattle.dd_engine.proofs.plain_engine.PlainEngine.answer.Goals as goal
use Rattle.dd_engine.proofs.plain_engine.PlainEngine.answer.Goals.{In-Ok-push}

now_sound : (c : In-Ok-push) → IsSound c.step.new.state c.push.new.self.items
now_sound c =
    let history = c.self.inside.entries.items in
    let e : Entry = record { session = 0; number = c.len-number.result; statement = c.args.statement; answer = c.in-Ok.told.answer; spaces = c.in-Ok.told.spaces; stamp = 0 } in
    let pushed : c.push.new.self.items ≡ history ++ e ∷ [] = c.in-Ok-push.ensures.items ∙ ap (λ (l : List Entry). l ++ e ∷ []) c.try_reserve.ensures.items in
    let plain : IsPlain (length history) e = record { session = refl; number = omega (arith, c.len-number.ensures, c.try_reserve.ensures.len, c.self.inside.entries.ok.0); stamp = refl } in
    subst (λ l. IsSound c.step.new.state l) (sym pushed) (sound_step c.self.inside.state c.step.new.state history e c.self.invariant plain c.requires.names c.in-Ok.ensures.ok)

pub invariant_of-self-2 : goal.invariant_of-self-2
invariant_of-self-2 c = now_sound c

pub returns-clause-said : goal.returns-clause-said
returns-clause-said c = (now_sound c).said
