use Rattle.shared_cache.proofs.Finds.{none_ends}
use Rattle.shared_cache.proofs.slots.ends_last.Goals as goal

pub returns-in-None-clause-slot : goal.returns-in-None-clause-slot
returns-in-None-clause-slot c = none_ends c.args.slots.now c.get_mut.follows.lender-at-none c.args.key.now c.in-None.ensures.value c.get_mut.follows.holds-at-none
