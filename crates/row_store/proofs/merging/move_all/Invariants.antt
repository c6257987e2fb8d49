use Rattle.std.proofs.Common.{◌≡◌, ◌≤◌, ◌+◌, vec_len, vec_capacity}
use Rattle.std.specs.Prelude.{IsTrue}
use Rattle.std.specs.VecDeque.{deque_len}
use Rattle.row_store.specs.Entries.{in_key_order}
use Rattle.row_store.specs.Merging.{put_all}
use Rattle.row_store.proofs.merging.move_all.Given as goal

abbrev pub invariant-each : goal.invariant-each
invariant-each l = record {
  room : vec_len l.rows + deque_len l.puts ≤ vec_capacity l.rows;
  order : IsTrue (in_key_order l.rows.items);
  same : put_all l.puts.items l.rows.items ≡ put_all l.fn.puts.items l.fn.rows.items;
}

abbrev pub decreases-each : goal.decreases-each
decreases-each l = deque_len l.puts
