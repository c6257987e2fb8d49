use Rattle.std.proofs.Common.{subst, sym, ◌∙◌, arith}
use Rattle.std.specs.Prelude.{IsTrue}
use Rattle.row_store.specs.Entries.{Entries, in_key_order}
use Rattle.row_store.proofs.Merged.{order_put_first, moved_first_as, moves_then}
use Rattle.row_store.proofs.merging.move_before.Goals as goal

pub each-preserved : goal.each-preserved
each-preserved c = record {
  len = omega (arith, c.move_first.ensures.len, c.each.invariant.len);
  capacity = omega (arith, c.move_first.ensures.capacity, c.each.invariant.capacity);
  order = subst (λ (es : Entries). IsTrue (in_key_order es)) (sym c.move_first.ensures.rows) (order_put_first c.each.puts.items c.each.rows.items c.each.invariant.order);
  rows = λ rest from. moves_then c.args.puts.now.items c.args.rows.now.items rest c.each.puts.items c.each.rows.items rest c.move_first.new.puts.items c.move_first.new.rows.items rest (c.each.invariant.rows rest from)
      (moved_first_as c.args.key.now c.each.puts.items c.each.rows.items c.move_first.new.puts.items c.move_first.new.rows.items (sym (sym c.each-test.true ∙ c.is_first_before.ensures)) c.move_first.ensures.puts c.move_first.ensures.rows rest from);
}
