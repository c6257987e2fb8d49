use Rattle.std.proofs.Common.{◌<◌, length, arith}
use Rattle.rules_rename.proofs.KeptChildren.{kept_step}
use Rattle.rules_rename.proofs.children.kept_children.Goals as goal

pub kept-preserved : goal.kept-preserved
kept-preserved c =
    let lt : c.kept.child-index < length c.args.before.now = omega arith in
    rw (c.in_ok-add_kept.ensures) (kept_step c.args.overlay.now c.args.before.now c.kept.child-index c.child-item.result c.kept.children _ lt c.child-item.is c.kept.invariant)
