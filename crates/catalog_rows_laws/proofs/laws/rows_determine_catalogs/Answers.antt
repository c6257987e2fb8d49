use Rattle.catalog_rows_laws.proofs.Determined.{determined}
use Rattle.catalog_rows_laws.proofs.Stand.{same_sight}
use Rattle.catalog_rows_laws.proofs.laws.rows_determine_catalogs.Goals as goal

pub returns-clause-numbers : goal.returns-clause-numbers
returns-clause-numbers c = determined

pub returns-clause-sights : goal.returns-clause-sights
returns-clause-sights c = same_sight
