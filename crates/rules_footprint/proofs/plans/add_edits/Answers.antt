use Rattle.rules_outcome.specs.Decided.{change_of}
use Rattle.rules_locks.specs.Locks.{change_claims}
use Rattle.rules_footprint.specs.Coded.{claims_of}
use Rattle.rules_footprint.specs.Plans.{Fits}
use Rattle.rules_footprint.proofs.Loops.{fits_at, one_seen}
use Rattle.rules_footprint.proofs.plans.add_edits.Goals as goal

pub edits-preserved : goal.edits-preserved
edits-preserved c steps all =
    one_seen change_of (change_claims steps) c.args.edits.now c.edits.edit-index c.edit-item.result (claims_of c.args.claims.now) (claims_of c.edits.claims) (claims_of c.add_edit.new.claims)
    c.edits-test.true c.edit-item.is (c.edits.invariant steps all)
    (c.in_ok-add_edit.ensures steps (fits_at (Fits steps) c.args.edits.now c.edits.edit-index c.edit-item.result c.edits-test.true c.edit-item.is all))
