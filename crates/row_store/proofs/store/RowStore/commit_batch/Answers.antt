use Rattle.std.proofs.Common.{◌∙◌, ap}
use Rattle.row_batch.specs.Rows.{applied}
use Rattle.row_store.specs.Entries.{rows_of}
use Rattle.row_store.specs.Outcome.{is_done}
use Rattle.row_store.specs.Value.{StoreValue}
use Rattle.row_store.proofs.Merged.{committed_where, left_where}
use Rattle.row_store.proofs.Standing.{rows_pushed}
use Rattle.row_store.proofs.store.RowStore.commit_batch.Goals.{in-Done, in-Fault, in-Unsure}
use Rattle.row_store.proofs.store.RowStore.commit_batch.Goals as goal

pub returns-clause-rows : goal.returns-clause-rows
returns-clause-rows g c =
    let batch = c.operations.ensures.batch c.requires.framed in
    let view = ap (λ (s : StoreValue). s.rows) c.self.view_is in
    elim c.match-appended.branch [
      | in-Done w ↦ rw w.result-is (
          committed_where c.args.batch.now.operations c.operations.result.now c.operations-2.result.now c.self.inside.rows.items c.apply_where.new.rows.items c.in-Ok.prepared.puts.items c.is_done.result (c.is_done.ensures ∙ ap is_done w.in-Done.is) batch.order c.self.invariant
          c.operations.ensures.value c.operations-2.ensures.value c.in-Ok.ensures.puts c.apply_where.ensures.rows ∙ ap (applied c.args.batch.now.operations) view)
      | in-Fault w ↦ rw w.result-is (ap rows_of (left_where c.self.inside.rows.items c.apply_where.new.rows.items _ c.is_done.result (c.is_done.ensures ∙ ap is_done w.in-Fault.is) c.apply_where.ensures.rows) ∙ view)
      | in-Unsure w ↦ rw w.result-is (ap rows_of (left_where c.self.inside.rows.items c.apply_where.new.rows.items _ c.is_done.result (c.is_done.ensures ∙ ap is_done w.in-Unsure.is) c.apply_where.ensures.rows) ∙ view)
    ]

pub returns-clause-made : goal.returns-clause-made
returns-clause-made g c =
    let batch = c.operations.ensures.batch c.requires.framed in
    let view = ap (λ (s : StoreValue). s.rows) c.self.view_is in
    elim c.match-appended.branch [
      | in-Done w ↦ rw w.result-is (λ done batches was.
          rows_pushed batches c.args.batch.now.operations c.args.self.now.rows (rows_of c.apply_where.new.rows.items)
          (committed_where c.args.batch.now.operations c.operations.result.now c.operations-2.result.now c.self.inside.rows.items c.apply_where.new.rows.items c.in-Ok.prepared.puts.items c.is_done.result (c.is_done.ensures ∙ ap is_done w.in-Done.is) batch.order c.self.invariant
          c.operations.ensures.value c.operations-2.ensures.value c.in-Ok.ensures.puts c.apply_where.ensures.rows ∙ ap (applied c.args.batch.now.operations) view) was)
      | in-Fault w ↦ rw w.result-is (λ done. absurd done)
      | in-Unsure w ↦ rw w.result-is (λ done. absurd done)
    ]
