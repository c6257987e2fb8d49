use Rattle.std.proofs.Common.{ℕ, List, sym, refl, ap, ◌∙◌}
use Rattle.row_store.proofs.Kept.{some_value, no_value}
use Rattle.row_store.proofs.entries.value_of.Goals as goal

pub returns-then-is_key_at : goal.returns-then-is_key_at
returns-then-is_key_at c =
    some_value c.args.key.now c.args.key.now c.args.key.now c.args.rows.now c.args.rows.now c.args.rows.now c.place_for-place.result c.index-rows-place.result c.as_slice.result.now refl refl refl refl c.place_for-place.ensures.place c.if-is_key_at.ensures c.index-rows-place.is
    (c.as_slice.ensures ∙ ap (λ (e : List ℕ × List ℕ). e.1) (sym c.index-rows-place.is))

pub returns-else-is_key_at : goal.returns-else-is_key_at
returns-else-is_key_at c =
    no_value c.args.key.now c.args.key.now c.args.key.now c.args.rows.now c.args.rows.now c.args.rows.now c.place_for-place.result c.requires refl refl refl refl c.place_for-place.ensures.place c.if-is_key_at.ensures
