use Rattle.std.proofs.Common.{◌<◌, ◌≤◌, length, arith}
use Rattle.dd_index.proofs.KeysOf.{has_none, has_next, has_all}
use Rattle.dd_index.proofs.keys.keys_of.Goals as goal

pub foreign_keys-init : goal.foreign_keys-init
foreign_keys-init c = has_none c.new-keys.result c.args.table.now

pub foreign_keys-preserved : goal.foreign_keys-preserved
foreign_keys-preserved c =
    let lt : c.foreign_keys.foreign_key-index < length c.args.foreign_keys.now = omega arith in
    has_next c.foreign_keys.keys c.add_keys.new.keys c.args.table.now c.args.foreign_keys.now c.foreign_keys.foreign_key-index c.foreign_key-item.result lt c.foreign_key-item.is c.foreign_keys.invariant c.in_ok-add_keys.ensures

pub returns : goal.returns
returns c =
    let le : length c.args.foreign_keys.now ≤ c.foreign_keys.foreign_key-index = omega arith in
    has_all c.foreign_keys.keys c.args.table.now c.args.foreign_keys.now c.foreign_keys.foreign_key-index le c.foreign_keys.invariant
