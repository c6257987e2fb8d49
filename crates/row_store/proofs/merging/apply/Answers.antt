use Rattle.std.proofs.Common.{subst, sym, []}
use Rattle.std.specs.Prelude.{IsTrue}
use Rattle.row_store.specs.Entries.{Entries, in_key_order}
use Rattle.row_store.specs.Merging.{kept}
use Rattle.row_store.proofs.Merged.{order_kept, moves_order, order_put_all}
use Rattle.row_store.proofs.merging.apply.Goals as goal

pub move_all-requires-clause-order : goal.move_all-requires-clause-order
move_all-requires-clause-order c =
    let ops = c.args.operations.now in
    let before : IsTrue (in_key_order c.replace-old.result.items) = rw c.replace-old.ensures.value c.requires.sorted in
    moves_order c.args.prepared.puts.items (kept ops ops c.replace-old.result.items) c.merge.new.puts.items c.merge.new.rows.items [] (order_kept ops ops c.replace-old.result.items before) c.merge.ensures.rows

pub returns-clause-order : goal.returns-clause-order
returns-clause-order c =
    let ops = c.args.operations.now in
    let before : IsTrue (in_key_order c.replace-old.result.items) = rw c.replace-old.ensures.value c.requires.sorted in
    let moved : IsTrue (in_key_order c.merge.new.rows.items) = moves_order c.args.prepared.puts.items (kept ops ops c.replace-old.result.items) c.merge.new.puts.items c.merge.new.rows.items [] (order_kept ops ops c.replace-old.result.items before) c.merge.ensures.rows in
    subst (λ (es : Entries). IsTrue (in_key_order es)) (sym c.move_all.ensures) (order_put_all c.merge.new.puts.items c.merge.new.rows.items moved)
