use Rattle.std.proofs.Common.{◌≢◌, subst, sym}
use Rattle.std.specs.Prelude.{Some, IfOk, OnErr}
use Rattle.shared_cache.specs.State.{Cache, loader}
use Rattle.shared_cache.specs.Calls.{found_told, found_after, IsSame}
use Rattle.shared_cache.specs.Fields.{cache_of}
use Rattle.shared_cache.proofs.Finds.{all_sound, all_told, all_left, none_left}
use Rattle.shared_cache.proofs.shared.Shared.get.Goals as goal

pub invariant_of-self : goal.invariant_of-self
invariant_of-self c =
    all_sound c.find.result c.self.inside.slots c.find.new.slots c.self.inside.unused c.find.new.unused c.self.inside.capacity c.args.key.now c.args.session c.self.invariant
    c.find.ensures.cap c.find.ensures.found c.find.ensures.err

pub returns-clause-told : goal.returns-clause-told
returns-clause-told c = subst (λ (v : Cache). IfOk c.find.result (λ found. found_told found v c.args.key.now c.args.session)) c.self.view_is
    (all_told c.find.result c.self.inside.slots c.find.new.slots c.self.inside.unused c.find.new.unused c.self.inside.capacity c.args.key.now c.args.session
    (subst (λ (v : Cache). loader v c.args.key.now ≢ Some c.args.session) (sym c.self.view_is) c.requires.once) c.find.ensures.found)

pub returns-clause-after : goal.returns-clause-after
returns-clause-after c = subst (λ (v : Cache). IfOk c.find.result (λ found. found_after found v (cache_of c.find.new.slots c.find.new.unused c.self.inside.capacity) c.args.key.now c.args.session)) c.self.view_is
    (all_left c.find.result c.self.inside.slots c.find.new.slots c.self.inside.unused c.find.new.unused c.self.inside.capacity c.args.key.now c.args.session c.find.ensures.found)

pub returns-clause-err : goal.returns-clause-err
returns-clause-err c = subst (λ (v : Cache). OnErr c.find.result (IsSame v (cache_of c.find.new.slots c.find.new.unused c.self.inside.capacity))) c.self.view_is
    (none_left c.find.result c.self.inside.slots c.find.new.slots c.self.inside.unused c.find.new.unused c.self.inside.capacity c.find.ensures.err)
