-- Values divided by commas are added one by one.
use Rattle.std.proofs.Common.{◌≡◌, ℕ, ◌≤◌, ◌-◌, List, [], ◌∷◌, ◌++◌, length, take, drop, get_or, sym, ap, subst, ◌∙◌, arith}
use Rattle.std.specs.Prelude.{flat_map}
use Rattle.std.proofs.lemmas.List.{take_rest}
use Rattle.sql_pieces.specs.Pieces.{Piece, Adds, behind}
use Rattle.sql_pieces.proofs.Joins.{adds, join, behind_each}
use Rattle.sql_text.specs.Parts.{comma, divided}

-- the first value, and then the others behind commas
pub divided_added : {A : Type 0} (f : A → List Piece) (xs : List A) (x : A) (a b c : List ℕ) → 1 ≤ length xs → x ≡ get_or xs 0 x → Adds a b (f x)
    → c ≡ b ++ flat_map (λ x. behind (comma ∷ f x)) (take (length xs - 1) (drop 1 xs)) → Adds a c (divided f xs)
divided_added f [] x a b c h e p q = absurd (omega (arith, h))
divided_added f (y ∷ ys) x a b c h e p q =
    join (subst (λ z. Adds a b (f z)) e p)
    (adds (q ∙ ap (λ zs. b ++ flat_map (λ z. behind (comma ∷ f z)) zs) (take_rest (y ∷ ys) 1) ∙ ap (λ (bs : List ℕ). b ++ bs) (sym (behind_each (λ z. comma ∷ f z) ys))))
