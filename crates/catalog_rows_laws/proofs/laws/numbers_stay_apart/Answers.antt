use Rattle.catalog_rows_laws.proofs.Numbers.{stays_below, stays_apart}
use Rattle.catalog_rows_laws.proofs.laws.numbers_stay_apart.Goals as goal

pub returns-clause-below : goal.returns-clause-below
returns-clause-below c = stays_below

pub returns-clause-apart : goal.returns-clause-apart
returns-clause-apart c = stays_apart
