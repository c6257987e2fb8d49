use Rattle.dd_catalog.proofs.Paths.{paths_apart}
use Rattle.dd_catalog.proofs.laws.objects_have_own_paths.Goals as goal

pub returns : goal.returns
returns c = record { apart = paths_apart }
