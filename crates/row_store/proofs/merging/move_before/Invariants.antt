use Rattle.std.proofs.Common.{◌≤◌, ◌+◌, vec_len, vec_capacity}
use Rattle.std.specs.Prelude.{IsTrue}
use Rattle.std.specs.VecDeque.{deque_len}
use Rattle.row_store.specs.Entries.{Entries, in_key_order}
use Rattle.row_store.specs.Merging.{IsFrom, Moves}
use Rattle.row_store.proofs.merging.move_before.Given as goal

abbrev pub invariant-each : goal.invariant-each
invariant-each l = record {
  len : vec_len l.rows + deque_len l.puts ≤ vec_len l.fn.rows + deque_len l.fn.puts;
  capacity : vec_capacity l.fn.rows ≤ vec_capacity l.rows;
  order : IsTrue (in_key_order l.rows.items);
  rows : (rest : Entries) → IsFrom l.key rest → Moves l.fn.puts.items l.fn.rows.items rest l.puts.items l.rows.items rest;
}

abbrev pub decreases-each : goal.decreases-each
decreases-each l = deque_len l.puts
