use Rattle.std.proofs.Common.{sym, ◌∙◌}
use Rattle.row_store.proofs.Places.{over_at, in_at, done_ok}
use Rattle.row_store.proofs.entries.put.Goals as goal

pub returns-then-is_key_at-clause-rows : goal.returns-then-is_key_at-clause-rows
returns-then-is_key_at-clause-rows c =
    over_at c.args.key c.args.value c.as_slice.result.now c.as_slice-2.result.now c.args.rows.now.items c.deref.result.now c.deref-2.result.now c.place_for-place.result c.index_mut.result.now c.as_slice.ensures c.as_slice-2.ensures c.deref.ensures.value c.deref-2.ensures.value c.place_for-place.ensures.place c.if-is_key_at.ensures c.index_mut.ensures.value

pub returns-else-is_err-clause-rows : goal.returns-else-is_err-clause-rows
returns-else-is_err-clause-rows c =
    done_ok c.insert.result c.insert.new.self.items _ c.args.rows.now.items c.insert.ensures.items (sym c.is_err.ensures.value ∙ c.if-is_err.false)
    ∙ in_at c.args.key c.args.value c.as_slice.result.now c.as_slice-2.result.now c.args.rows.now.items c.deref.result.now c.deref-2.result.now c.place_for-place.result c.as_slice.ensures c.as_slice-2.ensures c.deref.ensures.value c.deref-2.ensures.value c.place_for-place.ensures.place c.if-is_key_at.ensures
