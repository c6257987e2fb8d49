use Rattle.std.proofs.Common.{subst, sym, List, ℕ, ◌∷◌}
use Rattle.row_store.specs.Merging.{IsFrom}
use Rattle.row_store.proofs.Merged.{from_row, moved_row, is_kept_row}
use Rattle.row_store.proofs.merging.move_unless.Goals as goal

pub returns-then-not-gone-clause-rows : goal.returns-then-not-gone-clause-rows
returns-then-not-gone-clause-rows c = λ rest below.
    is_kept_row c.args.gone c.args.puts.now.items c.args.rows.now.items c.args.row rest c.move_before.new.puts.items c.push_reserved.new.self.items c.if-not-gone.true
    (moved_row c.args.puts.now.items c.args.rows.now.items c.move_before.new.puts.items c.move_before.new.rows.items rest c.args.row c.push_reserved.new.self.items c.push_reserved.ensures.items
    (c.move_before.ensures.rows (c.args.row ∷ rest) (subst (λ (k : List ℕ). IsFrom k (c.args.row ∷ rest)) (sym c.as_slice.ensures) (from_row c.args.row rest below))))
