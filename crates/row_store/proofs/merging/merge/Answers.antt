use Rattle.std.proofs.Common.{arith}
use Rattle.std.specs.Vec.Iter.{into_iter_items}
use Rattle.row_store.specs.Merging.{kept}
use Rattle.row_store.proofs.Merged.{row_step, rest_sorted, order_kept, moves_order}
use Rattle.row_store.proofs.merging.merge.Goals as goal

pub each-preserved : goal.each-preserved
each-preserved c =
    let ops = c.args.operations.now in
    let step = row_step ops c.each.deletion c.each.prefix c.behind_deletions-deletion.result c.behind_prefixes-prefix.result c.in-Some.row c.as_slice.result.now c.as_slice-in-each.result.now c.as_slice-in-each-2.result.now
    (into_iter_items c.each.row-iterator) (into_iter_items c.next.new.self) (kept ops ops c.args.old.items) c.each.puts.items c.each.rows.items c.move_unless.new.puts.items c.move_unless.new.rows.items c.args.puts.now.items c.is_named-gone.result
    c.requires.batch c.each.invariant.sorted c.in-Some.ensures.steps.0 c.as_slice.ensures c.as_slice-in-each.ensures c.as_slice-in-each-2.ensures c.behind_deletions-deletion.ensures.passed c.behind_prefixes-prefix.ensures.passed c.is_named-gone.ensures c.each.invariant.moves c.move_unless.ensures.rows in
    record {
      can = tt;
      ends = tt;
      room = omega (arith, c.each.invariant.room, c.move_unless.ensures.len, c.move_unless.ensures.capacity, c.in-Some.ensures.steps.1);
      sorted = rest_sorted c.in-Some.row (into_iter_items c.each.row-iterator) (into_iter_items c.next.new.self) c.in-Some.ensures.steps.0 c.each.invariant.sorted;
      order = moves_order c.args.puts.now.items (kept ops ops c.args.old.items) c.move_unless.new.puts.items c.move_unless.new.rows.items _ (order_kept ops ops c.args.old.items c.requires.sorted) step;
      deletion = c.behind_deletions-deletion.ensures.within;
      prefix = c.behind_prefixes-prefix.ensures.within;
      moves = step;
    }
