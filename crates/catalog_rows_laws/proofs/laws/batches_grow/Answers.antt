use Rattle.catalog_rows_laws.proofs.Growing.{begins, goes, comes, counts}
use Rattle.catalog_rows_laws.proofs.laws.batches_grow.Goals as goal

pub returns-clause-begins : goal.returns-clause-begins
returns-clause-begins c = begins

pub returns-clause-goes : goal.returns-clause-goes
returns-clause-goes c = goes

pub returns-clause-comes : goal.returns-clause-comes
returns-clause-comes c = comes

pub returns-clause-counts : goal.returns-clause-counts
returns-clause-counts c = counts
