use Rattle.std.proofs.Common.{◌<◌, ◌≤◌, length, arith, sym}
use Rattle.std.specs.List.{flat_map}
use Rattle.std.proofs.lemmas.Result.{err_from_is_err_and}
use Rattle.dd_catalog.specs.LoopLaws.{over_step, over_stop, over_end}
use Rattle.rules_create.specs.Tables.{column_in, key_in, one_key}
use Rattle.rules_create.specs.Made.{over_each}
use Rattle.rules_create.proofs.Flat.{over_flat}
use Rattle.rules_create.proofs.keys.add_written_keys.Goals as goal

pub elements-init : goal.elements-init
elements-init c = record {
  so_far = λ look. sym (over_flat look (one_key (flat_map column_in c.args.elements.now)) key_in c.args.draft.now.parts c.args.elements.now);
  draft = c.requires;
}

pub returns-in_err-key_if-clause-exact : goal.returns-in_err-key_if-clause-exact
returns-in_err-key_if-clause-exact c look =
    let lt : c.elements.element-index < length c.args.elements.now = omega arith in
    let p = err_from_is_err_and c.from_residual.result c.from_residual.ensures.1 in
    rw (p.1, p.2) (over_stop c.in_err-key_if.field-0.0 look (over_each (one_key (flat_map column_in c.args.elements.now)) key_in) c.args.elements.now c.elements.element-index c.element-item.result c.elements.draft.parts _ lt c.element-item.is (c.in_err-key_if.ensures.exact look) (c.elements.invariant.so_far look))

pub elements-preserved : goal.elements-preserved
elements-preserved c =
    let lt : c.elements.element-index < length c.args.elements.now = omega arith in
    record {
      so_far = λ look. over_step look (over_each (one_key (flat_map column_in c.args.elements.now)) key_in) c.args.elements.now c.elements.element-index c.element-item.result c.elements.draft.parts c.key_if.new.draft.parts _ lt c.element-item.is (c.in_ok-key_if.ensures.exact look) (c.elements.invariant.so_far look);
      draft = c.in_ok-key_if.ensures.draft;
    }

pub returns-clause-exact : goal.returns-clause-exact
returns-clause-exact c look =
    let le : length c.args.elements.now ≤ c.elements.element-index = omega arith in
    over_end look (over_each (one_key (flat_map column_in c.args.elements.now)) key_in) c.args.elements.now c.elements.element-index c.elements.draft.parts _ le (c.elements.invariant.so_far look)
