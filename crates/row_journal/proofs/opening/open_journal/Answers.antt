use Rattle.row_journal.specs.Opening.{operations_of}
use Rattle.row_journal.proofs.Exact.{found_once, found_faultless, fault_outside, fault_once}
use Rattle.row_journal.proofs.opening.open_journal.Goals as goal

pub returns-in-Ok-of-clause-found : goal.returns-in-Ok-of-clause-found
returns-in-Ok-of-clause-found g c = found_once c.args.path.now c.args.at c.in-Ok.contents.end (operations_of c.in-Ok.contents.batches.items) _ c.in-Ok.ensures.ends

pub returns-in-Ok-of-clause-refused : goal.returns-in-Ok-of-clause-refused
returns-in-Ok-of-clause-refused g c = found_faultless c.args.path.now c.args.at c.in-Ok.contents.end (operations_of c.in-Ok.contents.batches.items) _ c.in-Ok.ensures.ends

pub returns-in-Err-clause-found : goal.returns-in-Err-clause-found
returns-in-Err-clause-found g c = fault_outside c.args.path.now c.args.at _ c.in-Err.fault c.in-Err.ensures.malformed

pub returns-in-Err-clause-refused : goal.returns-in-Err-clause-refused
returns-in-Err-clause-refused g c = fault_once c.args.path.now c.args.at _ c.in-Err.fault c.in-Err.ensures.malformed
