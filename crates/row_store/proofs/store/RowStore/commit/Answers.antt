use Rattle.std.proofs.Common.{ap}
use Rattle.row_store.proofs.OnDisk.{without_memory, rows_carried, rows_kept, rows_read, rows_on}
use Rattle.row_store.proofs.store.RowStore.commit.Goals as goal

pub returns-clause-rows_at_each_moment : goal.returns-clause-rows_at_each_moment
returns-clause-rows_at_each_moment g c = λ on.
    rows_carried (g.D.Disk.moment_of c.args.disk.now) (g.D.Disk.moment_of c.commit_batch.new.disk) (g.D.Disk.story c.args.disk.now) (g.D.Disk.story c.commit_batch.new.disk) c.args.self.now c.args.batch.now.operations c.commit_batch.result
    c.commit_batch.ensures.onward c.commit_batch.ensures.any_moment (without_memory c.commit_batch.result (λ same. ap g.D.Disk.story same.1) c.commit_batch.ensures.memory) on

pub returns-clause-rows_after_fault : goal.returns-clause-rows_after_fault
returns-clause-rows_after_fault g c =
    rows_kept (g.D.Disk.moment_of c.args.disk.now) (g.D.Disk.moment_of c.commit_batch.new.disk) (g.D.Disk.story c.args.disk.now) (g.D.Disk.story c.commit_batch.new.disk) c.args.self.now c.args.batch.now.operations c.commit_batch.result
    c.commit_batch.ensures.fault

pub returns-clause-rows_read : goal.returns-clause-rows_read
returns-clause-rows_read g c =
    rows_read 0 0 (g.D.Disk.story c.args.disk.now) (g.D.Disk.story c.commit_batch.new.disk) c.args.self.now c.args.batch.now.operations c.commit_batch.result c.commit_batch.ensures.reads

pub returns-clause-on_disk : goal.returns-clause-on_disk
returns-clause-on_disk g c =
    rows_on 0 0 (g.D.Disk.story c.args.disk.now) (g.D.Disk.story c.commit_batch.new.disk) c.args.self.now c.args.batch.now.operations c.commit_batch.result c.commit_batch.new.self _
    c.commit_batch.ensures.journal c.commit_batch.ensures.rows c.commit_batch.ensures.stands c.commit_batch.ensures.reads c.commit_batch.ensures.settled
