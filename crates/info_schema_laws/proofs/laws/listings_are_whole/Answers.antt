use Rattle.info_schema_laws.proofs.Whole.{whole}
use Rattle.info_schema_laws.proofs.laws.listings_are_whole.Goals as goal

pub returns : goal.returns
returns c = record { rows = whole }
