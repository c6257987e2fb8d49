-- How told contents go on from call to call.
use Rattle.std.proofs.Common.{◌≡◌, ℕ, ◌+◌, ◌≤◌, List, [], ◌++◌, length, take, drop, sym, ◌∙◌, ap, append_assoc, length-append, length-take, arith, Option, None, Some}
use Rattle.std.proofs.lemmas.List.{append-nil}
use Rattle.std.proofs.Math.Seq.{take-add}
use Rattle.std.specs.Io.KnownBytes.{Appends, Consumes, Keeps}
use Rattle.edge_io.specs.Content.{ConsumesAtMost}

pub appends_nothing : (o : Option (List ℕ)) → Appends o o []
appends_nothing None = tt
appends_nothing (Some xs) = sym (append-nil xs)

pub consumes_nothing : (o : Option (List ℕ)) → Consumes o o []
consumes_nothing None = tt
consumes_nothing (Some xs) = λ i. xs

pub appends_then : (a b c : Option (List ℕ)) (xs ys : List ℕ) → Appends a b xs → Appends b c ys → Appends a c (xs ++ ys)
appends_then None b c xs ys p q = tt
appends_then (Some a) None c xs ys p q = absurd p
appends_then (Some a) (Some b) None xs ys p q = absurd q
appends_then (Some a) (Some b) (Some c) xs ys p q = q ∙ ap (λ (l : List ℕ). l ++ ys) p ∙ append_assoc a xs ys

pub appends_kept : (a b c : Option (List ℕ)) (xs : List ℕ) → Appends a b xs → Keeps b c → Appends a c xs
appends_kept None b c xs p q = tt
appends_kept (Some a) None c xs p q = absurd p
appends_kept (Some a) (Some b) None xs p q = absurd q
appends_kept (Some a) (Some b) (Some c) xs p q = q ∙ p

pub consumes_then : (a b c : Option (List ℕ)) (xs ys : List ℕ) → Consumes a b xs → Consumes b c ys → Consumes a c (xs ++ ys)
consumes_then None b c xs ys p q = tt
consumes_then (Some a) None c xs ys p q = absurd p
consumes_then (Some a) (Some b) None xs ys p q = absurd q
consumes_then (Some a) (Some b) (Some c) xs ys p q = p ∙ ap (λ (l : List ℕ). xs ++ l) q ∙ sym (append_assoc xs ys c)

-- a further piece of the same bytes
pub appends_more : (a b c : Option (List ℕ)) (bs rest : List ℕ) (m n : ℕ) → rest ≡ drop m bs → Appends a b (take m bs) → Appends b c (take n rest) → Appends a c (take (m + n) bs)
appends_more None b c bs rest m n e p q = tt
appends_more (Some a) None c bs rest m n e p q = absurd p
appends_more (Some a) (Some b) None bs rest m n e p q = absurd q
appends_more (Some a) (Some b) (Some c) bs rest m n e p q =
    appends_then (Some a) (Some b) (Some c) _ _ p q ∙ ap (λ (l : List ℕ). a ++ (take m bs ++ take n l)) e ∙ ap (λ (l : List ℕ). a ++ l) (sym (take-add m n bs))

-- a piece more was read, and no more than the limit
pub consumes_within : (a b c : Option (List ℕ)) (xs piece : List ℕ) (n most : ℕ) → Consumes a b xs → Consumes b c (take n piece) → length xs + n ≤ most → ConsumesAtMost most a c
consumes_within a b c xs piece n most p q le = (
  xs ++ take n piece,
  omega (arith, length-append xs (take n piece), length-take n piece),
  consumes_then a b c xs (take n piece) p q,
)
