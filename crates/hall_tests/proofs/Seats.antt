-- A pass holds a number where some pair of its list has it.
use Rattle.std.proofs.Common.{◌≢◌, ℕ, List, [], subst}
use Rattle.turn_hall.specs.Numbers.{Has, alone}
use Rattle.turn_hall.proofs.Pairs.{some_pair, has_alone, alone_has, not_empty}

module _ {Q : Type 0} where
  pub found : (n : ℕ) (ps : List (ℕ × Q)) → alone n ps ≢ [] → (q : Q) × Has ps n q
  found n ps ne =
      let t = some_pair (alone n ps) ne in let h = has_alone n ps t.0 t.1 t.2 in let P : ℕ → Type 0 = λ m. Has ps m t.1 in
      (t.1, subst P h.1 h.0)

  pub some_alone : (n : ℕ) (ps : List (ℕ × Q)) → ((q : Q) × Has ps n q) → alone n ps ≢ []
  some_alone n ps h = not_empty (alone n ps) n h.0 (alone_has n ps h.0 h.1)
