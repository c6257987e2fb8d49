-- A character is written by its bytes, or by its escape.
use Rattle.std.proofs.Common.{◌≡◌, ℕ, suc, ◌<◌, ◌≤◌, false, List, [], ◌∷◌, ◌++◌, length, get_or, inl, inr, refl, sym, ap, ap₂, ◌∙◌, append_assoc, append-nil, arith}
use Rattle.std.specs.Prelude.{◌==◌}
use Rattle.std.specs.Char.{encode_utf8}
use Rattle.std.proofs.lemmas.Bool.{cases_lt, ne_eqb}
use Rattle.std.proofs.lemmas.Str.{encode_ascii, inside_one, encodes-append}
use lib.Utf8.{encode, encodes}
use Rattle.sql_pieces.specs.Pieces.{escaped_byte, escaped}

abbrev pub IsPlain : ℕ → Type 0
IsPlain c = ((c == 39) ≡ false) × ((c == 92) ≡ false) × ((c == 10) ≡ false) × ((c == 13) ≡ false) × ((c == 0) ≡ false)

plain_byte : (b : ℕ) → IsPlain b → escaped_byte b ≡ b ∷ []
plain_byte b h = rw (h.0, h.1, h.2, h.3, h.4) refl

high_is_plain : (b : ℕ) → 128 ≤ b → IsPlain b
high_is_plain b h =
    (ne_eqb b 39 (λ e. omega (arith, e, h)), ne_eqb b 92 (λ e. omega (arith, e, h)), ne_eqb b 10 (λ e. omega (arith, e, h)), ne_eqb b 13 (λ e. omega (arith, e, h)), ne_eqb b 0 (λ e. omega (arith, e, h)))

high_stays : (xs : List ℕ) → ((k : ℕ) → k < length xs → 128 ≤ get_or xs k 0) → escaped xs ≡ xs
high_stays [] h = refl
high_stays (x ∷ xs) h = ap₂ (λ (a b : List ℕ). a ++ b) (plain_byte x (high_is_plain x (h 0 (omega arith)))) (high_stays xs (λ k below. h (suc k) (omega (arith, below))))

plain_stays : (c : ℕ) → IsPlain c → escaped (encode c) ≡ encode c
plain_stays c h = elim (cases_lt c 128) [
  | inl small ↦ rw (encode_ascii c small) (ap₂ (λ (a b : List ℕ). a ++ b) (plain_byte c h) refl)
  | inr big ↦
      let high : (k : ℕ) → k < length (encode c) → 128 ≤ get_or (encode c) k 0 = λ k below. elim (cases_lt (get_or (encode c) k 0) 128) [
        | inl low ↦ absurd (let e = inside_one c [] (encode c) k (sym (append-nil (encode c))) below low in omega (arith, e, low, big))
        | inr k ↦ k
      ] in
      high_stays (encode c) high
]

pub plain_character : (c : ℕ) → (c == 39) ≡ false → (c == 92) ≡ false → (c == 10) ≡ false → (c == 13) ≡ false → (c == 0) ≡ false → escaped (encode_utf8 c) ≡ encode_utf8 c
unfolding encode_utf8
plain_character c a b d e f = plain_stays c (a, b, d, e, f)

escaped-append : (xs ys : List ℕ) → escaped (xs ++ ys) ≡ escaped xs ++ escaped ys
escaped-append [] ys = refl
escaped-append (x ∷ xs) ys = ap (λ (bs : List ℕ). escaped_byte x ++ bs) (escaped-append xs ys) ∙ sym (append_assoc (escaped_byte x) (escaped xs) (escaped ys))

-- one character more
pub escaped_more : (out mid new cs : List ℕ) (c : ℕ) → mid ≡ out ++ escaped (encodes cs) → new ≡ mid ++ escaped (encode_utf8 c) → new ≡ out ++ escaped (encodes (cs ++ c ∷ []))
unfolding encode_utf8
escaped_more out mid new cs c before e =
    let all : encodes (cs ++ c ∷ []) ≡ encodes cs ++ encode c = encodes-append cs (c ∷ []) ∙ ap (λ (x : List ℕ). encodes cs ++ x) (append-nil (encode c)) in
    e ∙ ap (λ (x : List ℕ). x ++ escaped (encode c)) before ∙ append_assoc out (escaped (encodes cs)) (escaped (encode c))
    ∙ ap (λ (x : List ℕ). out ++ x) (sym (escaped-append (encodes cs) (encode c)) ∙ ap escaped (sym all))
