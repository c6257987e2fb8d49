use Rattle.dict_store_laws.proofs.Phases.{opened}
use Rattle.dict_store_laws.proofs.laws.opened_stores_are_kept.Goals as goal

pub returns : goal.returns
returns c = opened
