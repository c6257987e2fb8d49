use Rattle.std.proofs.Common.{[], ◌<◌, ◌≤◌, length, arith, sym, ◌∙◌, ap}
use Rattle.std.proofs.lemmas.Result.{err_from_is_err_and}
use Rattle.dd_catalog.specs.Walks.{run, over}
use Rattle.dd_catalog.specs.LoopLaws.{over_step, over_stop, over_end}
use Rattle.rules_create.specs.Tables.{column_in, one_column}
use Rattle.rules_create.specs.Made.{over_each}
use Rattle.rules_create.proofs.Flat.{over_flat}
use Rattle.rules_create.proofs.FoldedNames.{names_of_none}
use Rattle.rules_create.proofs.columns.each_column.Goals as goal

pub elements-init : goal.elements-init
elements-init c = record {
  so_far = λ look. ap (λ columns. run look (over (over_each one_column column_in) columns c.args.elements.now)) c.new-columns.ensures ∙ sym (over_flat look one_column column_in [] c.args.elements.now);
  names = names_of_none c.new-names.result c.new-columns.result c.new-names.ensures.empty c.new-columns.ensures;
}

pub returns-in_err-column_if : goal.returns-in_err-column_if
returns-in_err-column_if c look =
    let lt : c.elements.element-index < length c.args.elements.now = omega arith in
    let p = err_from_is_err_and c.from_residual.result c.from_residual.ensures.1 in
    rw (p.1, p.2) (over_stop c.in_err-column_if.field-0.0 look (over_each one_column column_in) c.args.elements.now c.elements.element-index c.element-item.result c.elements.columns _ lt c.element-item.is (c.in_err-column_if.ensures.exact look) (c.elements.invariant.so_far look))

pub elements-preserved : goal.elements-preserved
elements-preserved c =
    let lt : c.elements.element-index < length c.args.elements.now = omega arith in
    record {
      so_far = λ look. over_step look (over_each one_column column_in) c.args.elements.now c.elements.element-index c.element-item.result c.elements.columns c.column_if.new.before _ lt c.element-item.is (c.in_ok-column_if.ensures.exact look) (c.elements.invariant.so_far look);
      names = c.in_ok-column_if.ensures.names;
    }

pub returns : goal.returns
returns c look =
    let le : length c.args.elements.now ≤ c.elements.element-index = omega arith in
    over_end look (over_each one_column column_in) c.args.elements.now c.elements.element-index c.elements.columns _ le (c.elements.invariant.so_far look)
