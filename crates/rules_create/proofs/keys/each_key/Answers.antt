use Rattle.std.proofs.Common.{◌<◌, length, arith}
use Rattle.std.proofs.lemmas.Result.{err_from_is_err_and}
use Rattle.std.specs.List.{flat_map}
use Rattle.dd_catalog.specs.LoopLaws.{over_step, over_stop}
use Rattle.rules_create.specs.Tables.{column_in, one_key}
use Rattle.rules_create.proofs.keys.each_key.Goals as goal

pub returns-in_err-one_key-clause-exact : goal.returns-in_err-one_key-clause-exact
returns-in_err-one_key-clause-exact c look =
    let lt : c.keys.key-index < length c.args.keys.now = omega arith in
    let p = err_from_is_err_and c.from_residual.result c.from_residual.ensures.1 in
    rw (p.1, p.2) (over_stop c.in_err-one_key.field-0.0 look (one_key (flat_map column_in c.args.elements.now)) c.args.keys.now c.keys.key-index c.key-item.result c.keys.draft.parts _ lt c.key-item.is (c.in_err-one_key.ensures.exact look) (c.keys.invariant.so_far look))

pub keys-preserved : goal.keys-preserved
keys-preserved c =
    let lt : c.keys.key-index < length c.args.keys.now = omega arith in
    record {
      so_far = λ look. over_step look (one_key (flat_map column_in c.args.elements.now)) c.args.keys.now c.keys.key-index c.key-item.result c.keys.draft.parts c.one_key.new.draft.parts _ lt c.key-item.is (c.in_ok-one_key.ensures.exact look) (c.keys.invariant.so_far look);
      draft = c.in_ok-one_key.ensures.draft;
    }
