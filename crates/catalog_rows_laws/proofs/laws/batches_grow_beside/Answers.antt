use Rattle.catalog_rows_laws.proofs.Beside.{exact, begins_beside, goes_if, comes_if, counts_beside, records_beside}
use Rattle.catalog_rows_laws.proofs.laws.batches_grow_beside.Goals as goal

pub returns-clause-exact : goal.returns-clause-exact
returns-clause-exact c = exact

pub returns-clause-begins : goal.returns-clause-begins
returns-clause-begins c = begins_beside

pub returns-clause-goes : goal.returns-clause-goes
returns-clause-goes c = goes_if

pub returns-clause-comes : goal.returns-clause-comes
returns-clause-comes c = comes_if

pub returns-clause-counts : goal.returns-clause-counts
returns-clause-counts c = counts_beside

pub returns-clause-records : goal.returns-clause-records
returns-clause-records c = records_beside
