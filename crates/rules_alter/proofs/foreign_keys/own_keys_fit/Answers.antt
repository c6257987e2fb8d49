use Rattle.std.proofs.Common.{◌<◌, ◌≤◌, length, arith}
use Rattle.std.proofs.lemmas.Result.{err_from_is_err_and}
use Rattle.dd_catalog.specs.Follow.{sights}
use Rattle.dd_catalog.specs.LoopLaws.{every_step, every_stop, every_end}
use Rattle.rules_alter.specs.ForeignKeys.{own_key_fits}
use Rattle.rules_alter.proofs.foreign_keys.own_keys_fit.Goals as goal

pub returns-in_err-own_key_fits : goal.returns-in_err-own_key_fits
returns-in_err-own_key_fits g c =
    let lt : c.keys.key-index < length c.args.keys.now = omega arith in
    let p = err_from_is_err_and c.from_residual.result c.from_residual.ensures.1 in
    rw (p.1, p.2) (every_stop c.in_err-own_key_fits.field-0.0 (sights (g.L.Lookup.known c.args.look.now)) (own_key_fits c.args.parts.now) c.args.keys.now c.keys.key-index c.key-item.result _ lt c.key-item.is c.in_err-own_key_fits.ensures c.keys.invariant)

pub keys-preserved : goal.keys-preserved
keys-preserved g c =
    let lt : c.keys.key-index < length c.args.keys.now = omega arith in
    every_step (sights (g.L.Lookup.known c.args.look.now)) (own_key_fits c.args.parts.now) c.args.keys.now c.keys.key-index c.key-item.result _ lt c.key-item.is c.in_ok-own_key_fits.ensures c.keys.invariant

pub returns : goal.returns
returns g c =
    let le : length c.args.keys.now ≤ c.keys.key-index = omega arith in
    every_end (sights (g.L.Lookup.known c.args.look.now)) (own_key_fits c.args.parts.now) c.args.keys.now c.keys.key-index _ le c.keys.invariant
