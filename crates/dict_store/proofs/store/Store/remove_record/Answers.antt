use Rattle.std.proofs.Common.{[], ◌∷◌, ap}
use Rattle.row_batch.specs.Batches.{BatchValue}
use Rattle.log_rows.specs.Logs.{delete_row}
use Rattle.dict_store_laws.specs.Steps.{with_records}
use Rattle.dict_store.proofs.Calls.{remove_commits, commits_as, leaves_as, remove_kept}
use Rattle.dict_store.proofs.store.Store.remove_record.Goals as goal

pub returns-in-Ok-clause-any_moment : goal.returns-in-Ok-clause-any_moment
returns-in-Ok-clause-any_moment g c = λ work items finished kept may.
    let same = ap (λ (b : BatchValue). b.operations) c.in-Ok.ensures in
    let next = with_records work items finished in
    leaves_as _ _ _ _ c.args.self.now.rows.rows work.wanted work.wanted c.in-Ok.batch.operations (delete_row c.args.item.now ∷ []) same
    (c.commit.ensures.any_moment work next kept (commits_as _ c.args.self.now.rows.rows c.in-Ok.batch.operations (delete_row c.args.item.now ∷ []) next same (remove_commits _ c.args.self.now.rows work kept c.args.item.now items finished may)))

pub returns-in-Ok-clause-kept : goal.returns-in-Ok-clause-kept
returns-in-Ok-clause-kept g c =
    remove_kept _ _ c.args.self.now.rows c.commit.new.self.rows c.args.item.now c.in-Ok.batch.operations c.commit.result (ap (λ (b : BatchValue). b.operations) c.in-Ok.ensures) c.commit.ensures.kept
