-- What a string of a text means is text again.
use Rattle.std.proofs.Common.{◌≡◌, ℕ, zero, suc, ◌+◌, ◌-◌, ◌<◌, ◌≤◌, Bool, true, false, cond, List, [], ◌∷◌, ◌++◌, length, take, get_or, ltb, Option, Some, None, refl, sym, subst, arith}
use Rattle.std.specs.Prelude.{◌==◌}
use Rattle.std.specs.Str.{IsUtf8, is_utf8}
use lib.Utf8.{scalar, scalars, encode, encodes}
use Rattle.std.proofs.lemmas.Str.{IsUtf8-nil, IsUtf8-append, IsUtf8-encode, IsUtf8-from_ascii, IsUtf8-take, IsUtf8-drop, is_utf8-from_IsUtf8, IsCharBoundary-after_ascii, encode_ascii, inside_one, len_utf8_bounds, length-encode}
use Rattle.std.proofs.lemmas.List.{append-nil}
use Rattle.std.proofs.lemmas.Bool.{eqb-true, ne_eqb, ltb-true, ltb-false}
use Rattle.std.proofs.lemmas.Bool.Decides.{nat_tests}
use Rattle.sql_grammar.proofs.Bits.{and_true}
use Rattle.sql_lex.specs.declared.string_part.Part.{Part}
use Rattle.sql_lex.specs.declared.string_part.Part.TheVariants.{Closes, One, Two}
use Rattle.sql_lex.specs.Strings.{escaped, keeps_backslash, behind_backslash, part, after_part, meant, string_meaning}
use Rattle.sql_lex.specs.declared.reach.Until.TheVariants.{Quote}
use Rattle.sql_lex.specs.Ends.{part_step, after_step, longer, reach}

-- ---- bytes of characters that aren't ASCII

abbrev High : List ℕ → Type 0
High bs = (k : ℕ) → k < length bs → 128 ≤ get_or bs k 0

high_char : (c : ℕ) → 128 ≤ c → High (encode c)
high_char c h k l = at_most (ltb (get_or (encode c) k 0) 128) refl
  where
    at_most : (b : Bool) → ltb (get_or (encode c) k 0) 128 ≡ b → 128 ≤ get_or (encode c) k 0
    at_most true e =
        let s = ltb-true (get_or (encode c) k 0) 128 e in
        let same = inside_one c [] (encode c) k (sym (append-nil (encode c))) l s in omega arith
    at_most false e = let s = ltb-false (get_or (encode c) k 0) 128 e in omega arith

high_behind : (c : ℕ) → 128 ≤ c → behind_backslash c ≡ One c 2
high_behind c h = grind (arith, nat_tests)

high_part : (q b : ℕ) (bs : List ℕ) → q < 128 → 128 ≤ b → part q (b ∷ bs) ≡ One b 1
high_part q b [] s h = let e = ne_eqb b q (omega arith) in rw e refl
high_part q b (c ∷ bs) s h =
    let e = ne_eqb b q (omega arith) in
    let f = ne_eqb b 92 (omega arith) in
    rw (e, f) refl

-- they are meant as they stand
high_copies : (q : ℕ) (hs rest : List ℕ) → q < 128 → High hs → meant q (hs ++ rest) 0 ≡ hs ++ meant q rest 0
high_copies q [] rest s h = refl
high_copies q (b ∷ hs) rest s h =
    let e = high_part q b (hs ++ rest) s (h 0 (omega arith)) in
    let ih = high_copies q hs rest s (λ k l. h (suc k) (omega arith)) in
    rw (e, ih) refl

-- ---- ASCII bytes

escaped_small : (c : ℕ) → c < 128 → escaped c < 128
escaped_small c h = grind (arith, nat_tests)

one_small : (c : ℕ) → c < 128 → IsUtf8 (c ∷ [])
one_small c h = IsUtf8-from_ascii (c ∷ []) each
  where
    each : (i : ℕ) → get_or (c ∷ []) i 0 < 128
    each zero = h
    each (suc i) = omega arith

small : (c : ℕ) (bs : List ℕ) → c < 128 → IsUtf8 bs → IsUtf8 (c ∷ bs)
small c bs h u = IsUtf8-append (c ∷ []) bs (one_small c h) u

-- ---- the meaning, character by character

at_part : (P : Part → Type 0) (c : Bool) (x y : Part) → (c ≡ true → P x) → (c ≡ false → P y) → P (cond c x y)
at_part P true x y f g = f refl
at_part P false x y f g = g refl

abbrev IsFine : ℕ → List ℕ → Part → Type 0
IsFine q bs p = IsUtf8 (after_part p (meant q bs))

-- an ASCII byte at the front, by what a backslash, a quote or another byte there makes of what follows
small_front : (q c b : ℕ) (bs : List ℕ) → q < 128 → c < 128 → IsFine q (b ∷ bs) (behind_backslash b) → (b ≡ q → IsUtf8 (meant q bs 0)) → IsUtf8 (meant q (b ∷ bs) 0) → IsUtf8 (meant q (c ∷ b ∷ bs) 0)
small_front q c b bs s h escape double ih =
    let P : Part → Type 0 = IsFine q (b ∷ bs) in
    at_part P (c == 92) _ _ (λ e. escape) (λ e.
    at_part P (c == q) _ _ (λ f. at_part P (b == q) (One q 2) Closes (λ g. small q (meant q bs 0) s (double (eqb-true b q g))) (λ g. IsUtf8-nil)) (λ f. small c _ h ih))

small_last : (q c : ℕ) → c < 128 → IsUtf8 (meant q (c ∷ []) 0)
small_last q c h = at_part (IsFine q []) (c == q) Closes (One c 1) (λ e. IsUtf8-nil) (λ e. one_small c h)

small_behind : (q d : ℕ) (bs : List ℕ) → d < 128 → IsUtf8 (meant q bs 0) → IsFine q (d ∷ bs) (behind_backslash d)
small_behind q d bs h u = at_part (IsFine q (d ∷ bs)) (keeps_backslash d) (Two d) (One (escaped d) 2) (λ e. small 92 _ (omega arith) (small d _ h u)) (λ e. small (escaped d) _ (escaped_small d h) u)

-- a small byte before a character of more than one
small_high : (q c : ℕ) (hs rest : List ℕ) → q < 128 → c < 128 → 0 < length hs → High hs → IsUtf8 hs → IsUtf8 (meant q rest 0) → IsUtf8 (meant q (c ∷ hs ++ rest) 0)
small_high q c [] rest s h some high u v = absurd (omega arith)
small_high q c (b ∷ hs) rest s h some high u v =
    let big : 128 ≤ b = high 0 (omega arith) in
    let both = IsUtf8-append (b ∷ hs) (meant q rest 0) u v in
    let copied = high_copies q (b ∷ hs) rest s high in
    let tail = high_copies q hs rest s (λ k l. high (suc k) (omega arith)) in
    small_front q c b (hs ++ rest) s h
    (rw (high_behind b big, tail) both)
    (λ e. absurd (omega arith))
    (rw copied both)

by_size : {P : Type 0} (c : ℕ) → (c < 128 → P) → (128 ≤ c → P) → P
by_size {P} c f g = go (ltb c 128) refl
  where
    go : (b : Bool) → ltb c 128 ≡ b → P
    go true e = f (ltb-true c 128 e)
    go false e = g (let n = ltb-false c 128 e in omega arith)

high_front : (q c : ℕ) (rest : List ℕ) → q < 128 → 128 ≤ c → scalar c ≡ true → IsUtf8 (meant q rest 0) → IsUtf8 (meant q (encode c ++ rest) 0)
high_front q c rest s h ok u = rw (high_copies q (encode c) rest s (high_char c h)) (IsUtf8-append (encode c) (meant q rest 0) (IsUtf8-encode c ok) u)

meant_chars : (q : ℕ) (cs : List ℕ) → q < 128 → scalars cs ≡ true → IsUtf8 (meant q (encodes cs) 0)
meant_chars q [] s ok = IsUtf8-nil
meant_chars q (c ∷ []) s ok = by_size c (λ h. rw (encode_ascii c h) (small_last q c h)) (λ h. high_front q c [] s h (and_true (scalar c) true ok).0 IsUtf8-nil)
meant_chars q (c ∷ d ∷ ds) s ok =
    let first = and_true (scalar c) (scalars (d ∷ ds)) ok in
    let second = and_true (scalar d) (scalars ds) first.1 in
    let next = meant_chars q (d ∷ ds) s first.1 in
    let behind = meant_chars q ds s second.1 in
    by_size c (λ h. rw (encode_ascii c h) (by_size d
    (λ k. let e = encode_ascii d k in rw e (small_front q c d (encodes ds) s h (small_behind q d (encodes ds) k behind) (λ _. behind) (rw e at next)))
    (λ k. small_high q c (encode d) (encodes ds) s h (omega (arith, length-encode d, (len_utf8_bounds d).0)) (high_char d k) (IsUtf8-encode d second.0) behind)))
    (λ h. high_front q c (encodes (d ∷ ds)) s h first.0 next)

meant_text : (q : ℕ) (bs : List ℕ) → q < 128 → IsUtf8 bs → IsUtf8 (meant q bs 0)
meant_text q bs s u = subst (λ (x : List ℕ). IsUtf8 (meant q x 0)) u.1.1 (meant_chars q u.0 s u.1.0)

-- ---- a string with its quotes

-- the last of the bytes up to the end is the quote
abbrev pub EndsWith : ℕ → List ℕ → Option ℕ → Type 0
EndsWith q bs None = Unit {0}
EndsWith q bs (Some n) = (0 < n) × (n ≤ length bs) × (get_or bs (n - 1) 0 ≡ q)

one_behind : (q b : ℕ) (bs : List ℕ) (o : Option ℕ) → EndsWith q bs o → EndsWith q (b ∷ bs) (longer 1 o)
one_behind q b bs None h = tt
one_behind q b bs (Some n) h = (omega arith, omega (arith, h.1), moved n h.0 h.2)
  where
    moved : (n : ℕ) → 0 < n → get_or bs (n - 1) 0 ≡ q → get_or (b ∷ bs) (1 + n - 1) 0 ≡ q
    moved zero h e = absurd (omega arith)
    moved (suc n) h e = let a : 1 + suc n - 1 ≡ suc n = omega arith in let c : suc n - 1 ≡ n = omega arith in rw a (rw c at e)

quote_there : (q b : ℕ) (bs : List ℕ) → part q (b ∷ bs) ≡ Closes → b ≡ q
quote_there q b [] = at_part (λ p. p ≡ Closes → b ≡ q) (b == q) _ _ (λ h e. eqb-true b q h) (λ h e. absurd cc)
quote_there q b (c ∷ bs) =
    let P : Part → Type 0 = λ p. p ≡ Closes → b ≡ q in
    at_part P (b == 92) _ _ (λ g. at_part P (keeps_backslash c) (Two c) _ (λ h e. absurd cc) (λ h e. absurd cc)) (λ g.
    at_part P (b == q) _ _ (λ h. at_part P (c == q) (One q 2) Closes (λ k e. absurd cc) (λ k e. eqb-true b q h)) (λ h e. absurd cc))

by_part : (q b : ℕ) (bs : List ℕ) (p : Part) → part q (b ∷ bs) ≡ p → ((k : ℕ) → EndsWith q bs (reach (Quote q) bs k)) → EndsWith q (b ∷ bs) (after_step (part_step p) (reach (Quote q) bs))
by_part q b bs Closes e h = (omega arith, omega arith, quote_there q b bs e)
by_part q b bs (One c n) e h = one_behind q b bs _ (h (n - 1))
by_part q b bs (Two c) e h = one_behind q b bs _ (h 1)

pub ends_with : (q : ℕ) (bs : List ℕ) (k : ℕ) → EndsWith q bs (reach (Quote q) bs k)
ends_with q [] k = tt
ends_with q (b ∷ bs) (suc k) = one_behind q b bs _ (ends_with q bs k)
ends_with q (b ∷ bs) zero = by_part q b bs (part q (b ∷ bs)) refl (ends_with q bs)

-- a string of a text, with its quotes, means text
pub string_is_text : (q : ℕ) (bs : List ℕ) (n : ℕ) → q < 128 → IsUtf8 (q ∷ bs) → EndsWith q bs (Some n) → is_utf8 (string_meaning (take (1 + n) (q ∷ bs))) ≡ true
string_is_text q bs n s u h =
    let back : 1 + n - 1 ≡ n = omega arith in
    let after : 1 + n ≡ suc n = omega arith in
    let more : n + 1 ≡ suc n = omega arith in
    let last : get_or (q ∷ bs) n 0 ≡ q = rw back at (one_behind q q bs (Some n) h).2 in
    let whole : IsUtf8 (q ∷ take n bs) = rw more at (IsUtf8-take (q ∷ bs) (n + 1) u (IsCharBoundary-after_ascii (q ∷ bs) n u (omega (arith, h.1)) (omega (arith, last)))) in
    let inside : IsUtf8 (take n bs) = IsUtf8-drop (q ∷ take n bs) 1 whole (IsCharBoundary-after_ascii (q ∷ take n bs) 0 whole (omega arith) s) in
    rw after (is_utf8-from_IsUtf8 (meant q (take n bs) 0) (meant_text q (take n bs) s inside))
