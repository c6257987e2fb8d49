use Rattle.dict_store_laws.proofs.Phases.{accounted, reads_accounted}
use Rattle.dict_store_laws.proofs.laws.files_are_accounted.Goals as goal

pub returns-clause-images : goal.returns-clause-images
returns-clause-images c = λ s store work kept image it path own is_free. accounted work.items work.wanted image (kept.so_far image it).right path own is_free

pub returns-clause-reads : goal.returns-clause-reads
returns-clause-reads c = reads_accounted

pub returns-clause-holds : goal.returns-clause-holds
returns-clause-holds c = λ rows wanted directory it path own is_free. accounted it.items wanted directory it.right path own is_free
