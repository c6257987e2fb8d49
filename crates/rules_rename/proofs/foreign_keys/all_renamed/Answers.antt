use Rattle.std.proofs.Common.{◌<◌, ◌≤◌, length, arith}
use Rattle.std.proofs.lemmas.Result.{err_from_is_err_and}
use Rattle.rules_rename.proofs.Keys.{fit_step, fit_stop, fit_end, renamed_more, renamed_all}
use Rattle.rules_rename.proofs.foreign_keys.all_renamed.Goals as goal

pub returns-in_err-renamed_key-clause-fit : goal.returns-in_err-renamed_key-clause-fit
returns-in_err-renamed_key-clause-fit c look =
    let lt : c.keys.key-index < length c.args.keys.now = omega arith in
    let p = err_from_is_err_and c.from_residual.result c.from_residual.ensures.1 in
    rw (p.1, p.2) (fit_stop c.in_err-renamed_key.field-0.0 c.args.from.now c.args.to.now look c.args.keys.now c.keys.key-index c.key-item.result _ lt c.key-item.is (c.in_err-renamed_key.ensures.fits look) (c.keys.invariant.fit look))

pub keys-preserved : goal.keys-preserved
keys-preserved c =
    let lt : c.keys.key-index < length c.args.keys.now = omega arith in
    record {
      fit = λ look. fit_step c.args.from.now c.args.to.now look c.args.keys.now c.keys.key-index c.key-item.result _ lt c.key-item.is (c.in_ok-renamed_key.ensures.fits look) (c.keys.invariant.fit look);
      found = rw (c.in_ok-push.ensures.ok, c.in_ok-renamed_key.ensures.key) (renamed_more c.args.from.now c.args.to.now c.args.keys.now c.keys.key-index c.key-item.result c.keys.found lt c.key-item.is c.keys.invariant.found);
    }

pub returns-clause-fit : goal.returns-clause-fit
returns-clause-fit c look =
    let le : length c.args.keys.now ≤ c.keys.key-index = omega arith in
    fit_end c.args.from.now c.args.to.now look c.args.keys.now c.keys.key-index _ le (c.keys.invariant.fit look)

pub returns-clause-keys : goal.returns-clause-keys
returns-clause-keys c =
    let le : length c.args.keys.now ≤ c.keys.key-index = omega arith in
    renamed_all c.args.from.now c.args.to.now c.args.keys.now c.keys.key-index c.keys.found le c.keys.invariant.found
