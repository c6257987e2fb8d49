use Rattle.std.proofs.Common.{refl}
use Rattle.dd_engine.specs.Catalog.{new_session}
use Rattle.dd_engine.proofs.Valid.{steps_keep}
use Rattle.dd_engine.proofs.laws.histories_keep_validity.Goals as goal

pub returns : goal.returns
returns c = record { kept = λ base history valid legal names. steps_keep base new_session history valid (λ s. refl) names legal }
