use Rattle.catalog_rows_laws.proofs.Owners.{lists_owners}
use Rattle.catalog_rows_laws.proofs.Stand.{stands_written, written_stands, again_same, again_beside}
use Rattle.catalog_rows_laws.proofs.laws.rows_are_as_written.Goals as goal

pub returns-clause-written : goal.returns-clause-written
returns-clause-written c = stands_written

pub returns-clause-told : goal.returns-clause-told
returns-clause-told c = written_stands

pub returns-clause-again : goal.returns-clause-again
returns-clause-again c = again_same

pub returns-clause-listed : goal.returns-clause-listed
returns-clause-listed c = lists_owners

pub returns-clause-beside : goal.returns-clause-beside
returns-clause-beside c = again_beside
