use Rattle.std.proofs.Common.{◌<◌, ◌∙◌, subst, sym, refl}
use Rattle.std.specs.Prelude.{IsSome}
use Rattle.shared_cache.specs.State.{Cache, slot_at, listed, uses}
use Rattle.shared_cache.specs.Calls.{use_ended}
use Rattle.shared_cache.specs.Fields.{cache_of}
use Rattle.shared_cache.proofs.Releases.{more_left, more_left_sound, was_last, last_left, last_sound}
use Rattle.shared_cache.proofs.shared.Shared.release.Goals as goal

pub invariant_of-self : goal.invariant_of-self
invariant_of-self c =
    last_sound c.self.inside.slots c.ends_last.new.slots c.rest.new.slots c.self.inside.unused c.rest.new.unused c.self.inside.capacity c.args.key.now c.self.invariant
    (was_last (slot_at c.self.inside.slots.entries c.args.key.now) (sym c.ends_last.ensures.last ∙ c.if-ends_last.true)) c.ends_last.ensures.slot c.rest.ensures.apart c.rest.ensures.cap c.rest.ensures.rests

pub invariant_of-self-else-ends_last : goal.invariant_of-self-else-ends_last
invariant_of-self-else-ends_last c =
    more_left_sound c.self.inside.slots c.ends_last.new.slots c.self.inside.unused c.self.inside.capacity c.args.key.now c.self.invariant
    (subst (λ (v : Cache). IsSome (listed v c.args.key.now) → 0 < uses v c.args.key.now) (sym c.self.view_is) c.requires.used) (sym c.ends_last.ensures.last ∙ c.if-ends_last.false) c.ends_last.ensures.slot

pub returns-then-ends_last : goal.returns-then-ends_last
returns-then-ends_last c =
    subst (λ (v : Cache). use_ended (uses v c.args.key.now) v (cache_of c.rest.new.slots c.rest.new.unused c.self.inside.capacity) c.args.key.now) c.self.view_is
    (last_left c.self.inside.slots c.ends_last.new.slots c.rest.new.slots c.self.inside.unused c.rest.new.unused c.self.inside.capacity c.args.key.now c.self.invariant
    (was_last (slot_at c.self.inside.slots.entries c.args.key.now) (sym c.ends_last.ensures.last ∙ c.if-ends_last.true)) c.ends_last.ensures.slot c.rest.ensures.rests)

pub returns-else-ends_last : goal.returns-else-ends_last
returns-else-ends_last c =
    subst (λ (v : Cache). use_ended (uses v c.args.key.now) v (cache_of c.ends_last.new.slots c.self.inside.unused c.self.inside.capacity) c.args.key.now) c.self.view_is
    (more_left c.self.inside.slots c.ends_last.new.slots c.self.inside.unused c.self.inside.capacity c.args.key.now (slot_at c.self.inside.slots.entries c.args.key.now) refl
    (subst (λ (v : Cache). IsSome (listed v c.args.key.now) → 0 < uses v c.args.key.now) (sym c.self.view_is) c.requires.used) (sym c.ends_last.ensures.last ∙ c.if-ends_last.false) c.ends_last.ensures.slot)
