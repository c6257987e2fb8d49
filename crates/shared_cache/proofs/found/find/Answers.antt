use Rattle.std.proofs.Common.{rules}
use Rattle.shared_cache.proofs.Finds.{all_of_slot, none_of_slot}
use Rattle.shared_cache.proofs.found.find.Goals as goal

pub returns-in-Some-clause-found : goal.returns-in-Some-clause-found
returns-in-Some-clause-found c =
    all_of_slot c.use_slot.result c.args.slots.now (c.get_mut.follows.lender c.use_slot.new.slot) c.args.unused.now c.use_slot.new.unused c.args.key.now c.args.session c.in-Some.slot.now c.use_slot.new.slot
    c.in-Some.ensures.value ((c.get_mut.follows.holds c.use_slot.new.slot).3 (search rules)).0 c.use_slot.ensures.used

pub returns-in-Some-clause-err : goal.returns-in-Some-clause-err
returns-in-Some-clause-err c =
    none_of_slot c.use_slot.result c.args.slots.now (c.get_mut.follows.lender c.use_slot.new.slot) c.args.unused.now c.use_slot.new.unused c.args.key.now c.in-Some.slot.now c.use_slot.new.slot
    c.in-Some.ensures.value ((c.get_mut.follows.holds c.use_slot.new.slot).3 (search rules)).0 c.use_slot.ensures.err
