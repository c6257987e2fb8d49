use Rattle.std.proofs.Common.{subst, sym, ◌∙◌, arith}
use Rattle.std.specs.Prelude.{IsTrue}
use Rattle.row_store.specs.Entries.{Entries, in_key_order}
use Rattle.row_store.proofs.Merged.{order_put_first, put_first_more_as}
use Rattle.row_store.proofs.merging.move_all.Goals as goal

pub each-preserved : goal.each-preserved
each-preserved c = record {
  room = omega (arith, c.move_first.ensures.len, c.move_first.ensures.capacity, c.each.invariant.room);
  order = subst (λ (es : Entries). IsTrue (in_key_order es)) (sym c.move_first.ensures.rows) (order_put_first c.each.puts.items c.each.rows.items c.each.invariant.order);
  same = put_first_more_as c.each.puts.items c.each.rows.items c.move_first.new.puts.items c.move_first.new.rows.items c.move_first.ensures.puts c.move_first.ensures.rows ∙ c.each.invariant.same;
}
