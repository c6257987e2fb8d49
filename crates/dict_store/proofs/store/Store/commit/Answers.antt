use Rattle.std.proofs.Common.{ap}
use Rattle.row_journal.specs.Value.{JournalValue}
use Rattle.dict_store_laws.proofs.Commits.{commit_leaves, commit_kept, fault_leaves}
use Rattle.dict_store.proofs.store.Store.commit.Goals as goal

pub returns-in-Done-clause-any_moment : goal.returns-in-Done-clause-any_moment
returns-in-Done-clause-any_moment g c = λ work next kept may.
    commit_leaves _ c.args.self.now.rows work kept c.args.batch.now.operations next may _ _ _ (c.commit.ensures.rows_at_each_moment kept.on)

pub returns-in-Done-clause-kept : goal.returns-in-Done-clause-kept
returns-in-Done-clause-kept g c = λ work next kept may.
    commit_kept _ c.args.self.now.rows work kept c.args.batch.now.operations next may _ _ _ c.commit.new.self (ap (λ (j : JournalValue). j.path) c.in-Done.ensures.journal) c.in-Done.ensures.rows
    (c.commit.ensures.rows_at_each_moment kept.on) (c.in-Done.ensures.on_disk tt kept.on)

pub returns-in-Fault-clause-any_moment : goal.returns-in-Fault-clause-any_moment
returns-in-Fault-clause-any_moment g c = λ work next kept may.
    commit_leaves _ c.args.self.now.rows work kept c.args.batch.now.operations next may _ _ _ (c.commit.ensures.rows_at_each_moment kept.on)

pub returns-in-Fault-clause-fault : goal.returns-in-Fault-clause-fault
returns-in-Fault-clause-fault g c = λ is work kept.
    fault_leaves _ c.args.self.now.rows work kept _ _ _ (c.in-Fault.ensures.rows_after_fault tt kept.on)

pub returns-in-Unsure-clause-any_moment : goal.returns-in-Unsure-clause-any_moment
returns-in-Unsure-clause-any_moment g c = λ work next kept may.
    commit_leaves _ c.args.self.now.rows work kept c.args.batch.now.operations next may _ _ _ (c.commit.ensures.rows_at_each_moment kept.on)
