use Rattle.std.proofs.Common.{◌<◌, ◌≤◌, length, arith, sym}
use Rattle.std.proofs.lemmas.Result.{err_from_is_err_and}
use Rattle.dd_catalog.specs.Follow.{sights}
use Rattle.dd_catalog.specs.LoopLaws.{over_step, over_stop, over_end}
use Rattle.rules_create.specs.Tables.{foreign_key_in, one_foreign_key}
use Rattle.rules_create.specs.Made.{over_each}
use Rattle.rules_create.specs.Drafts.{whole}
use Rattle.rules_create.proofs.Flat.{over_flat}
use Rattle.rules_create.proofs.foreign_keys.each_foreign_key.Goals as goal

pub elements-init : goal.elements-init
elements-init g c = record {
  so_far = sym (over_flat (sights (g.L.Lookup.known c.args.look.now)) one_foreign_key foreign_key_in (whole c.args.draft.now c.args.keys.now) c.args.elements.now);
  linked = c.requires;
}

pub returns-in_err-foreign_key_if : goal.returns-in_err-foreign_key_if
returns-in_err-foreign_key_if g c =
    let lt : c.elements.element-index < length c.args.elements.now = omega arith in
    let p = err_from_is_err_and c.from_residual.result c.from_residual.ensures.1 in
    rw (p.1, p.2) (over_stop c.in_err-foreign_key_if.field-0.0 (sights (g.L.Lookup.known c.args.look.now)) (over_each one_foreign_key foreign_key_in) c.args.elements.now c.elements.element-index c.element-item.result (whole c.elements.draft c.elements.keys) _ lt c.element-item.is c.in_err-foreign_key_if.ensures.exact c.elements.invariant.so_far)

pub elements-preserved : goal.elements-preserved
elements-preserved g c =
    let lt : c.elements.element-index < length c.args.elements.now = omega arith in
    record {
      so_far = over_step (sights (g.L.Lookup.known c.args.look.now)) (over_each one_foreign_key foreign_key_in) c.args.elements.now c.elements.element-index c.element-item.result (whole c.elements.draft c.elements.keys) (whole c.foreign_key_if.new.draft c.foreign_key_if.new.keys) _ lt c.element-item.is c.in_ok-foreign_key_if.ensures.exact c.elements.invariant.so_far;
      linked = c.in_ok-foreign_key_if.ensures.linked;
    }

pub returns : goal.returns
returns g c =
    let le : length c.args.elements.now ≤ c.elements.element-index = omega arith in
    over_end (sights (g.L.Lookup.known c.args.look.now)) (over_each one_foreign_key foreign_key_in) c.args.elements.now c.elements.element-index (whole c.elements.draft c.elements.keys) _ le c.elements.invariant.so_far
