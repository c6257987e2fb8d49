use Rattle.catalog_rows_laws.proofs.Erased.{stands_follow, records_stay}
use Rattle.catalog_rows_laws.proofs.Stand.{change_stands}
use Rattle.catalog_rows_laws.proofs.laws.rows_follow_changes.Goals as goal

pub returns-clause-stands : goal.returns-clause-stands
returns-clause-stands c = change_stands

pub returns-clause-keeps : goal.returns-clause-keeps
returns-clause-keeps c = stands_follow

pub returns-clause-records : goal.returns-clause-records
returns-clause-records c = records_stay
