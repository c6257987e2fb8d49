use Rattle.std.proofs.Common.{◌≤◌, ◌+◌, [], length, drop, vec_len, vec_capacity}
use Rattle.std.specs.Prelude.{IsTrue}
use Rattle.std.specs.VecDeque.{deque_len}
use Rattle.std.specs.Vec.Iter.{into_iter_items, into_iter_len}
use Rattle.row_store.specs.Entries.{in_key_order}
use Rattle.row_store.specs.Merging.{kept, Moves}
use Rattle.row_store.proofs.merging.merge.Given as goal

abbrev pub invariant-each : goal.invariant-each
invariant-each l = record {
  can : (goal.iterator-each).can_next l.row-iterator;
  ends : (goal.iterator-each).is_finite l.row-iterator;
  room : vec_len l.rows + deque_len l.puts + into_iter_len l.row-iterator ≤ vec_capacity l.rows;
  sorted : IsTrue (in_key_order (into_iter_items l.row-iterator));
  order : IsTrue (in_key_order l.rows.items);
  deletion : l.deletion ≤ length l.operations;
  prefix : l.prefix ≤ length l.operations;
  moves : Moves l.fn.puts.items [] (kept l.operations l.operations l.fn.old.items) l.puts.items l.rows.items (kept (drop l.deletion l.operations) (drop l.prefix l.operations) (into_iter_items l.row-iterator));
}
