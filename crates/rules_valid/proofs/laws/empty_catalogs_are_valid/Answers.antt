use Rattle.rules_valid.proofs.Readings.{empty_valid}
use Rattle.rules_valid.proofs.laws.empty_catalogs_are_valid.Goals as goal

pub returns : goal.returns
returns c = record { empty = empty_valid }
