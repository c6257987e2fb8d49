use Rattle.std.proofs.Common.{◌≡◌, subst, sym, refl}
use Rattle.std.specs.Prelude.{Some, None}
use Rattle.std.specs.Arc.{arc_value}
use Rattle.std.specs.Map.{keys_of}
use Rattle.shared_cache.specs.declared.slots.Slot.TheVariants.{Listed}
use Rattle.shared_cache.specs.State.{Cache, loader}
use Rattle.shared_cache.specs.Calls.{IsAt}
use Rattle.shared_cache.specs.Fields.{cache_of}
use Rattle.shared_cache.proofs.Sound.{is_at, loaded_sound}
use Rattle.shared_cache.proofs.shared.Shared.put.Goals as goal

pub invariant_of-self : goal.invariant_of-self
invariant_of-self c =
    loaded_sound c.self.inside.slots c.fill.new.slots c.self.inside.unused c.self.inside.capacity c.args.ticket.key c.args.ticket.session (Some (Listed c.args.object 1)) c.self.invariant c.fill.ensures
    (subst (λ (v : Cache). loader v c.args.ticket.key ≡ Some c.args.ticket.session) (sym c.self.view_is) c.requires.ticket) refl

pub returns : goal.returns
returns c = subst (λ (v : Cache). IsAt v (cache_of c.fill.new.slots c.self.inside.unused c.self.inside.capacity) c.args.ticket.key (Some (arc_value c.args.object)) 1 None v.unused) c.self.view_is
    (is_at c.self.inside.slots c.fill.new.slots c.self.inside.unused c.self.inside.unused c.self.inside.capacity c.args.ticket.key (Some (Listed c.args.object 1)) (keys_of c.self.inside.unused.entries) c.fill.ensures refl)
