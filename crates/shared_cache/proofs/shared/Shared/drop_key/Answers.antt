use Rattle.std.proofs.Common.{◌∙◌, subst, sym, refl}
use Rattle.std.specs.Prelude.{None}
use Rattle.shared_cache.specs.State.{Cache, loader, without}
use Rattle.shared_cache.specs.Calls.{IsAt}
use Rattle.shared_cache.specs.Fields.{cache_of}
use Rattle.shared_cache.proofs.Sound.{taken_sound}
use Rattle.shared_cache.proofs.Releases.{taken, not_taken}
use Rattle.shared_cache.proofs.shared.Shared.drop_key.Goals as goal

pub invariant_of-self : goal.invariant_of-self
invariant_of-self c =
    taken_sound c.self.inside.slots c.leave.new.slots c.self.inside.unused c.take_out.new.unused c.self.inside.capacity c.args.key.now None c.self.invariant c.leave.ensures refl
    c.take_out.ensures.keys c.take_out.ensures.cap

pub returns-then-is_listed : goal.returns-then-is_listed
returns-then-is_listed c = subst (λ (v : Cache). IsAt v (cache_of c.leave.new.slots c.take_out.new.unused c.self.inside.capacity) c.args.key.now None 0 (loader v c.args.key.now) (without c.args.key.now v.unused)) c.self.view_is
    (taken c.self.inside.slots c.leave.new.slots c.self.inside.unused c.take_out.new.unused c.self.inside.capacity c.args.key.now (sym c.is_listed.ensures ∙ c.if-is_listed.true) c.leave.ensures c.take_out.ensures.keys)

pub returns-else-is_listed : goal.returns-else-is_listed
returns-else-is_listed c = subst (λ (v : Cache). IsAt v v c.args.key.now None 0 (loader v c.args.key.now) (without c.args.key.now v.unused)) c.self.view_is
    (not_taken c.self.inside.slots c.self.inside.unused c.self.inside.capacity c.args.key.now c.self.invariant (sym c.is_listed.ensures ∙ c.if-is_listed.false))
