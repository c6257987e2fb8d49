use Rattle.std.proofs.Common.{◌≡◌, ◌++◌, ◌∷◌, take}
use Rattle.std.specs.Prelude.{flat_map}
use Rattle.sql_pieces.specs.Pieces.{behind}
use Rattle.sql_text.specs.Parts.{comma}
use Rattle.sql_text.proofs.lists.put_behind_commas.Given as goal

abbrev pub invariant-items : goal.invariant-items
invariant-items g l = l.out ≡ l.fn.out ++ flat_map (λ x. behind (comma ∷ g.T.Spelled.pieces x)) (take l.item-index l.items)
