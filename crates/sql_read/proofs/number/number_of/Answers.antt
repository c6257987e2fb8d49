use Rattle.std.proofs.Common.{◌≡◌, ℕ, zero, suc, ◌+◌, ◌-◌, ◌*◌, ◌^◌, ◌≤◌, ◌<◌, min, List, [], ◌∷◌, length, drop, ◌⊎◌, inl, inr, refl, sym, ap, ◌∙◌, arith}
use Rattle.std.proofs.Math.Seq.{drop-cons}
use Rattle.std.specs.Prelude.{slice_index}
use Rattle.sql_grammar.specs.Lexemes.{value_from}
use Rattle.sql_read.proofs.number.number_of.Goals as goal

grows : (n : ℕ) (ds : List ℕ) → n ≤ value_from n ds
grows n [] = omega arith
grows n (d ∷ ds) = let h = grows (10 * n + (d - 48)) ds in omega (arith, h)

either : (n m : ℕ) → (n ≤ m) ⊎ (m ≤ n)
either zero m = inl (omega arith)
either (suc n) zero = inr (omega arith)
either (suc n) (suc m) = elim (either n m) [ inl h ↦ inl (omega (arith, h)) | inr h ↦ inr (omega (arith, h)) ]

saturates : (m n : ℕ) (ds : List ℕ) → min (value_from (min n m) ds) m ≡ min (value_from n ds) m
saturates m n ds = elim (either n m) [
  | inl h ↦ (let e : min n m ≡ n = omega (arith, h) in rw e refl)
  | inr h ↦ (let a = grows n ds in let b = grows m ds in let e : min n m ≡ m = omega (arith, h) in rw e (omega (arith, a, b, h)))
]

gone : (i : ℕ) (xs : List ℕ) → length xs ≤ i → drop i xs ≡ []
gone zero [] h = refl
gone (suc i) [] h = refl
gone zero (x ∷ xs) h = absurd (omega (arith, h))
gone (suc i) (x ∷ xs) h = gone i xs (omega (arith, h))

next_digit : (ds : List ℕ) (i : ℕ) → i < length ds → drop i ds ≡ slice_index ds i ∷ drop (i + 1) ds
next_digit ds i h = let s : suc i ≡ i + 1 = omega arith in drop-cons ds i 0 h ∙ ap (λ (k : ℕ). slice_index ds i ∷ drop k ds) s

pub digits-preserved : goal.digits-preserved
digits-preserved c =
    let ds : List ℕ = c.args.digits.now in
    let i : ℕ = c.digits.digit-index in
    let n : ℕ = c.digits.number in
    let more = next_digit ds i c.digits-test.true in
    let one = saturates (2 ^ 128 - 1) (10 * n + (slice_index ds i - 48)) (drop (i + 1) ds) in
    let back = ap (λ (xs : List ℕ). min (value_from n xs) (2 ^ 128 - 1)) (sym more) in
    let e = c.with_digit-number.ensures in
    record { so_far = rw e (one ∙ back ∙ c.digits.invariant.so_far); small = omega (arith, e) }

pub returns : goal.returns
returns c =
    let k = c.digits.invariant.small in
    let same : min c.digits.number (2 ^ 128 - 1) ≡ c.digits.number = omega (arith, k) in
    let none = ap (λ (xs : List ℕ). min (value_from c.digits.number xs) (2 ^ 128 - 1)) (gone c.digits.digit-index c.args.digits.now c.digits-test.false) in
    sym same ∙ sym none ∙ c.digits.invariant.so_far
