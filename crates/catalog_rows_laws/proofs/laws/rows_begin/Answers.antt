use Rattle.catalog_rows_laws.proofs.First.{first_stands}
use Rattle.catalog_rows_laws.proofs.Stand.{nothing_stands}
use Rattle.catalog_rows_laws.proofs.laws.rows_begin.Goals as goal

pub returns-clause-none : goal.returns-clause-none
returns-clause-none c = nothing_stands

pub returns-clause-first : goal.returns-clause-first
returns-clause-first c = first_stands
