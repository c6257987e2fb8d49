use Rattle.row_store.proofs.Effects.{one_done}
use Rattle.row_store.proofs.reading.effect_of_one.Goals as goal

pub returns : goal.returns
returns c = one_done c.args.operations.now c.in_ok-gone.gone.items c.in_ok-rows.rows.items c.in_ok-gone.ensures c.in_ok-rows.ensures.rows c.in_ok-rows.ensures.order
