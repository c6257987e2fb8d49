use Rattle.std.proofs.Common.{◌≡◌, ◌≤◌, take, vec_len}
use Rattle.row_store.specs.Place.{entries_left}
use Rattle.row_store.proofs.scanning.piece_of.Given as goal

abbrev pub invariant-each : goal.invariant-each
invariant-each l = record {
  picked : l.piece.items ≡ entries_left l.scan (take l.row-index l.rows);
  short : vec_len l.piece ≤ 64;
}
