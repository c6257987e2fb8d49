-- The bytes of pieces behind blanks, joined.
use Rattle.std.proofs.Common.{◌≡◌, ℕ, List, [], ◌∷◌, ◌++◌, refl, sym, ap, ◌∙◌, append_assoc}
use Rattle.std.specs.Prelude.{flat_map}
use Rattle.sql_pieces.specs.Pieces.{Piece, spelled, behind, Adds}

pub behind_joined : (ps qs : List Piece) → behind (ps ++ qs) ≡ behind ps ++ behind qs
behind_joined [] qs = refl
behind_joined (p ∷ ps) qs = ap (λ (bs : List ℕ). 32 ∷ (spelled p ++ bs)) (behind_joined ps qs) ∙ ap (λ (bs : List ℕ). 32 ∷ bs) (sym (append_assoc (spelled p) (behind ps) (behind qs)))

pub behind_each : {A : Type 0} (f : A → List Piece) (xs : List A) → behind (flat_map f xs) ≡ flat_map (λ x. behind (f x)) xs
behind_each f [] = refl
behind_each f (x ∷ xs) = behind_joined (f x) (flat_map f xs) ∙ ap (λ (bs : List ℕ). behind (f x) ++ bs) (behind_each f xs)

-- ---- one behind the other

-- what is added, as bytes
pub adds : {a b : List ℕ} {ps : List Piece} → b ≡ a ++ behind ps → Adds a b ps
adds e = record { bytes = e }

pub join : {a b c : List ℕ} {ps qs : List Piece} → Adds a b ps → Adds b c qs → Adds a c (ps ++ qs)
join {a} {b} {c} {ps} {qs} p q = record {
  bytes = q.bytes ∙ ap (λ (bs : List ℕ). bs ++ behind qs) p.bytes ∙ append_assoc a (behind ps) (behind qs) ∙ ap (λ (bs : List ℕ). a ++ bs) (sym (behind_joined ps qs));
}

-- one piece, or several, and then others
pub join_1 : {a b c : List ℕ} {p : Piece} {qs : List Piece} → Adds a b (p ∷ []) → Adds b c qs → Adds a c (p ∷ qs)
join_1 f g = join f g

pub join_2 : {a b c : List ℕ} {p q : Piece} {qs : List Piece} → Adds a b (p ∷ q ∷ []) → Adds b c qs → Adds a c (p ∷ q ∷ qs)
join_2 f g = join f g

pub join_3 : {a b c : List ℕ} {p q r : Piece} {qs : List Piece} → Adds a b (p ∷ q ∷ r ∷ []) → Adds b c qs → Adds a c (p ∷ q ∷ r ∷ qs)
join_3 f g = join f g

-- what is added to a text that is known
pub begun : {a b known : List ℕ} {ps : List Piece} → a ≡ known → Adds a b ps → b ≡ known ++ behind ps
begun {a} {b} {known} {ps} e p = p.bytes ∙ ap (λ (bs : List ℕ). bs ++ behind ps) e
