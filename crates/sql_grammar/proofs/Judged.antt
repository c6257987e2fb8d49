-- What reading answers is what the tokens are by the grammar.
use Rattle.std.proofs.Common.{◌≡◌, ℕ, zero, suc, Bool, true, false, cond, List, [], ◌∷◌, ◌++◌, length, ltb, leb, Result, Ok, Err, refl, sym, ap, subst, ◌∙◌, inl, inr, append_assoc, arith}
use Rattle.std.proofs.lemmas.List.{append-nil, append_cancel_right}
use Rattle.std.proofs.lemmas.Bool.{ltb-true, leb-true, false_from_ne_true}
use Rattle.sql_grammar.specs.Lexemes.{Lexeme, word, number, quoted, string, sign, broken, Terminal, keyword, mark, name, amount, width, text, exactly, content, takes, begins, is_long, is_name, Short}
use Rattle.sql_grammar.specs.Grammar.{Grammar, one, nothing, seq, means, alt, many, if_next, Says, SaysMany}
use Rattle.sql_grammar.specs.Reading.{Stop, ◌>>=◌, first, read_one, read_many, read_next, read}
use Rattle.sql_grammar.specs.Judging.{GoesOn, EndsHere, IsSentence, IsFaultyAt, IsTooLongAt}
use Rattle.sql_grammar.specs.Checks.{extends_by, one_token_decides, excludes, has_examples}
use Rattle.sql_grammar.proofs.Bits.{chosen, bit, and_true}
use Rattle.sql_grammar.proofs.Reader.{sound, complete}
use Rattle.sql_grammar.proofs.Steady.{Read, rest_of, aim, Alike, SameHead, begins-same, steady}
use Rattle.sql_grammar.proofs.Viable.{Quiet, retails, viable, bind_err}

-- a short name in the place of a long one
fix : Lexeme → Lexeme
fix l = cond (is_long l) (quoted (97 ∷ [])) l

fix_same : (l : Lexeme) → is_long l ≡ false → fix l ≡ l
unfolding fix
fix_same l h = rw h refl

short_a : is_long (quoted (97 ∷ [])) ≡ false
unfolding is_long
short_a = refl

fix_short : (l : Lexeme) → is_long (fix l) ≡ false
unfolding fix
fix_short l = elim (bit (is_long l)) [ inl h ↦ rw h short_a | inr h ↦ rw h h ]

too_wide : (w : List ℕ) → ltb 64 (length w) ≡ true → leb (length w) 64 ≡ false
too_wide w h = false_from_ne_true (leb (length w) 64) (λ e. let a = leb-true (length w) 64 e in let b = ltb-true 64 (length w) h in omega arith)

-- a long name is taken as a name, and as nothing else
long_alike : (l : Lexeme) → is_long l ≡ true → Alike l (quoted (97 ∷ []))
unfolding takes is_long
long_alike (word w) h (keyword k) = let e = too_wide w (and_true (is_name (word w)) (ltb 64 (length w)) h).1 in rw e refl
long_alike (word w) h name = (and_true (is_name (word w)) (ltb 64 (length w)) h).0
long_alike (word w) h (mark m) = refl
long_alike (word w) h amount = refl
long_alike (word w) h width = refl
long_alike (word w) h text = refl
long_alike (word w) h (exactly k) = refl
long_alike (quoted w) h (keyword k) = refl
long_alike (quoted w) h name = refl
long_alike (quoted w) h (mark m) = refl
long_alike (quoted w) h amount = refl
long_alike (quoted w) h width = refl
long_alike (quoted w) h text = refl
long_alike (quoted w) h (exactly k) = refl
long_alike (number w) h t = absurd cc
long_alike (string w) h t = absurd cc
long_alike (sign w) h t = absurd cc
long_alike broken h t = absurd cc

fix_alike : (l : Lexeme) → Alike l (fix l)
unfolding fix
fix_alike l t = elim (bit (is_long l)) [ inl h ↦ rw h (long_alike l h t) | inr h ↦ rw h refl ]

fixed : List Lexeme → List Lexeme
fixed [] = []
fixed (l ∷ ls) = fix l ∷ fixed ls

fixed-append : (a b : List Lexeme) → fixed (a ++ b) ≡ fixed a ++ fixed b
unfolding fixed
fixed-append [] b = refl
fixed-append (l ∷ a) b = ap (λ (z : List Lexeme). fix l ∷ z) (fixed-append a b)

fixed_same : (ls : List Lexeme) → Short ls → fixed ls ≡ ls
unfolding fixed
fixed_same [] s = refl
fixed_same (l ∷ ls) s = rw (fix_same l s.0, fixed_same ls s.1) refl

fixed_short : (ls : List Lexeme) → Short (fixed ls)
unfolding fixed
fixed_short [] = tt
fixed_short (l ∷ ls) = (fix_short l, fixed_short ls)

fixed_head : (ls : List Lexeme) → SameHead ls (fixed ls)
unfolding fixed
fixed_head [] = tt
fixed_head (l ∷ ls) = fix_alike l

abbrev Says_fixed : {A : Type 0} → (List Lexeme → List Lexeme → A → Type 0) → List Lexeme → List Lexeme → Type 0
Says_fixed {A} kind before after = (v : A) × kind (fixed before) (fixed after) v

many_fixed : {A : Type 0} (g : Grammar A) (ih : (before after : List Lexeme) (v : A) → Says g before after v → Says_fixed (Says g) before after) (before after : List Lexeme) (vs : List A) → SaysMany (Says g) before after vs → Says_fixed (SaysMany (Says g)) before after
many_fixed g ih before after [] s = ([], ap fixed s)
many_fixed g ih before after (x ∷ xs) s =
    let a = ih before s.0 x s.1 in
    let b = many_fixed g ih s.0 after xs s.2 in
    (a.0 ∷ b.0, (fixed s.0, a.1, b.1))

-- the grammar does not excludes at how long a name is
says_fixed : {A : Type 0} (g : Grammar A) (before after : List Lexeme) (v : A) → Says g before after v → Says_fixed (Says g) before after
unfolding fixed
says_fixed (one t) before after v s = (content (fix s.0), (fix s.0, sym (fix_alike s.0 t) ∙ s.1, ap fixed s.2, refl))
says_fixed (nothing x) before after v s = (x, (ap fixed s.0, refl))
says_fixed (seq g h) before after v s =
    let a = says_fixed g before s.0 v.0 s.1 in
    let b = says_fixed h s.0 after v.1 s.2 in
    ((a.0, b.0), (fixed s.0, a.1, b.1))
says_fixed (means f g) before after v s = let a = says_fixed g before after s.0 s.1 in (f a.0, (a.0, a.1, refl))
says_fixed (alt g h) before after v (inl s) = let a = says_fixed g before after v s in (a.0, inl a.1)
says_fixed (alt g h) before after v (inr s) = let a = says_fixed h before after v s in (a.0, inr a.1)
says_fixed (many g) before after v s = many_fixed g (λ a b c d. says_fixed g a b c d) before after v s
says_fixed (if_next t) before after v (inl s) = (true, inl (fix s.0, sym (fix_alike s.0 t) ∙ s.1, ap fixed s.2, refl))
says_fixed (if_next t) before after v (inr s) = (false, inr (sym (begins-same (t ∷ []) before (fixed before) (fixed_head before)) ∙ s.0, ap fixed s.1, refl))

-- ---- the whole

-- all tokens
abbrev pub all_of : {A : Type 0} → Read A → Result A Stop
all_of (Err s) = Err s
all_of (Ok x) = elim x.1 [ [] ↦ Ok x.0 | l ∷ ls ↦ Err (record { rest = l ∷ ls; long = false }) ]

quiet_end : (ts : List Terminal) → Quiet ts []
quiet_end ts = refl

pub is_sentence : {A : Type 0} (g : Grammar A) (ls : List Lexeme) (v : A) → one_token_decides g ≡ true → read g ls ≡ Ok (v, []) → IsSentence g ls v
is_sentence g ls v ok e =
    let st = steady g ok ls (Ok (v, [])) e refl in
    record { says = sound g ls v [] e; short = rw (st.parts, append-nil) st.short }

pub is_read : {A : Type 0} (g : Grammar A) (ls : List Lexeme) (v : A) → one_token_decides g ≡ true → IsSentence g ls v → read g ls ≡ Ok (v, [])
is_read g ls v ok s = complete g ok ls [] v s.says s.short (quiet_end (extends_by g))

clash : {A : Type 0} (x : Read A) (l : Lexeme) (ls : List Lexeme) (v : A) → aim x (l ∷ ls) ≡ Ok (v, []) → ⊥
clash (Ok y) l ls v e = let h = ap rest_of e in cc
clash (Err d) l ls v e = cc

-- no statement goes on with l
no_more : {A : Type 0} (g : Grammar A) (front : List Lexeme) (l : Lexeme) (rest : List Lexeme) (x : Read A) → one_token_decides g ≡ true → Short front
    → ((r : List Lexeme) → SameHead (l ∷ rest) r → read g (front ++ r) ≡ aim x r) → (rest_of x ≡ l ∷ rest) → GoesOn g (front ++ l ∷ []) → ⊥
unfolding fixed
no_more {A} g front l rest x ok short again is m =
    let s = says_fixed g ((front ++ l ∷ []) ++ m.0) [] m.1 m.2 in
    let e : fixed ((front ++ l ∷ []) ++ m.0) ≡ front ++ (fix l ∷ fixed m.0) =
    ap fixed (append_assoc front (l ∷ []) m.0) ∙ fixed-append front (l ∷ m.0) ∙ ap (λ (z : List Lexeme). z ++ (fix l ∷ fixed m.0)) (fixed_same front short) in
    let says : Says g (front ++ (fix l ∷ fixed m.0)) [] s.0 = subst (λ (z : List Lexeme). Says g z [] s.0) e s.1 in
    let sh : Short (front ++ (fix l ∷ fixed m.0)) = subst Short e (fixed_short ((front ++ l ∷ []) ++ m.0)) in
    let a = complete g ok (front ++ (fix l ∷ fixed m.0)) [] s.0 says sh (quiet_end (extends_by g)) in
    let b = again (fix l ∷ fixed m.0) (fix_alike l) in
    clash x (fix l) (fixed m.0) s.0 (sym b ∙ a)

stop_at : List Lexeme → Stop
stop_at rest = record { rest = rest; long = false }

ends_here : {A : Type 0} (g : Grammar A) (front rest : List Lexeme) → one_token_decides g ≡ true → Short front → ((r : List Lexeme) → SameHead rest r → read g (front ++ r) ≡ Err (record { rest = r; long = false })) → EndsHere g front rest
ends_here g front [] ok short again = λ v s.
    let a = is_read g front v ok (record { says = s; short = short }) in
    let b : read g front ≡ Err (record { rest = []; long = false }) = rw append-nil at (again [] tt) in
    let c = sym a ∙ b in cc
ends_here g front (l ∷ rest) ok short again = no_more g front l rest (Err (record { rest = l ∷ rest; long = false })) ok short again refl

pub is_faulty : {A : Type 0} (g : Grammar A) (ls rest : List Lexeme) → one_token_decides g ≡ true → has_examples g ≡ true → read g ls ≡ Err (record { rest = rest; long = false }) → IsFaultyAt g ls rest
is_faulty {A} g ls rest ok al e =
    let st = steady g ok ls (Err (record { rest = rest; long = false })) e refl in
    let v = viable g ok al ls (record { rest = rest; long = false }) [] (quiet_end (excludes g)) e in
    let same : v.front ≡ st.front = append_cancel_right v.front st.front rest (sym v.parts ∙ st.parts) in
    record {
      front = st.front;
      parts = st.parts;
      short = st.short;
      before = subst (GoesOn g) same (v.more ++ [], v.value, v.says);
      here = ends_here g st.front rest ok st.short st.again;
    }

-- after a statement more tokens stand
pub is_faulty_after : {A : Type 0} (g : Grammar A) (ls : List Lexeme) (x : A) (l : Lexeme) (rest : List Lexeme) → one_token_decides g ≡ true → read g ls ≡ Ok (x, l ∷ rest) → IsFaultyAt g ls (l ∷ rest)
is_faulty_after {A} g ls x l rest ok e =
    let st = steady g ok ls (Ok (x, l ∷ rest)) e refl in
    let v = retails g ok ls (l ∷ rest) x e in
    let same : v.front ≡ st.front = append_cancel_right v.front st.front (l ∷ rest) (sym v.parts ∙ st.parts) in
    record {
      front = st.front;
      parts = st.parts;
      short = st.short;
      before = subst (GoesOn g) same ([], x, v.says [] (quiet_end (excludes g)));
      here = no_more g st.front l rest (Ok (x, l ∷ rest)) ok st.short st.again refl;
    }

-- a long stop is at a long name
pub is_too_long : {A : Type 0} (g : Grammar A) (ls : List Lexeme) (l : Lexeme) (rest : List Lexeme) → one_token_decides g ≡ true → has_examples g ≡ true → is_long l ≡ true → read g ls ≡ Err (record { rest = l ∷ rest; long = true }) → IsTooLongAt g ls l rest
is_too_long g ls l rest ok al long e =
    let v = viable g ok al ls (record { rest = l ∷ rest; long = true }) [] (quiet_end (excludes g)) e in
    record {
      front = v.front;
      parts = v.parts;
      short = v.short;
      long = long;
      goes_on = (v.more ++ [], v.value, rw append_assoc v.says);
    }

-- ---- a long stop is at a long name

abbrev pub LongHead : List Lexeme → Type 0
LongHead [] = ⊥
LongHead (l ∷ ls) = is_long l ≡ true

abbrev pub IsLongStop : Stop → Type 0
IsLongStop s = s.long ≡ true → LongHead s.rest

abbrev stopped : {A : Type 0} → Stop → Result A Stop
stopped s = Err s

same_stop : {A : Type 0} (s d : Stop) → stopped {A = A} s ≡ stopped d → s ≡ d
same_stop s d e = cc

one_long : (t : Terminal) (ls : List Lexeme) (s : Stop) → read_one t ls ≡ Err s → IsLongStop s
one_long t [] s e = subst IsLongStop (same_stop {A = List ℕ × List Lexeme} (record { rest = []; long = false }) s e) (λ h. absurd cc)
one_long t (l ∷ ls) s e =
    elim (chosen (takes t l) (cond (is_long l) (Err (record { rest = l ∷ ls; long = true })) (Ok (content l, ls))) (Err (record { rest = l ∷ ls; long = false })) (Err s) e) [
      | inl p ↦ elim (chosen (is_long l) (Err (record { rest = l ∷ ls; long = true })) (Ok (content l, ls)) (Err s) p.1) [
        | inl q ↦ subst IsLongStop (same_stop {A = List ℕ × List Lexeme} (record { rest = l ∷ ls; long = true }) s q.1) (λ h. q.0)
        | inr q ↦ absurd (let h = q.1 in cc)
      ]
      | inr p ↦ subst IsLongStop (same_stop {A = List ℕ × List Lexeme} (record { rest = l ∷ ls; long = false }) s p.1) (λ h. absurd cc)
    ]

next_long : (t : Terminal) (ls : List Lexeme) (s : Stop) → read_next t ls ≡ Err s → IsLongStop s
next_long t [] s e = absurd cc
next_long t (l ∷ ls) s e =
    elim (chosen (takes t l) (cond (is_long l) (Err (record { rest = l ∷ ls; long = true })) (Ok (true, ls))) (Ok (false, l ∷ ls)) (Err s) e) [
      | inl p ↦ elim (chosen (is_long l) (Err (record { rest = l ∷ ls; long = true })) (Ok (true, ls)) (Err s) p.1) [
        | inl q ↦ subst IsLongStop (same_stop {A = Bool × List Lexeme} (record { rest = l ∷ ls; long = true }) s q.1) (λ h. q.0)
        | inr q ↦ absurd (let h = q.1 in cc)
      ]
      | inr p ↦ absurd (let h = p.1 in cc)
    ]

many_long : {A : Type 0} (ts : List Terminal) (p : List Lexeme → Read A) (ih : (ls : List Lexeme) (s : Stop) → p ls ≡ Err s → IsLongStop s) (n : ℕ) (ls : List Lexeme) (s : Stop) → read_many (begins ts) p n ls ≡ Err s → IsLongStop s
many_long ts p ih zero ls s e = absurd cc
many_long ts p ih (suc n) ls s e =
    elim (chosen (begins ts ls) (p ls >>= λ x. read_many (begins ts) p n x.1 >>= λ xs. Ok (x.0 ∷ xs.0, xs.1)) (Ok ([], ls)) (Err s) e) [
      | inl c ↦ elim (bind_err (p ls) (λ x. read_many (begins ts) p n x.1 >>= λ xs. Ok (x.0 ∷ xs.0, xs.1)) s c.1) [
        | inl h ↦ ih ls s h
        | inr h ↦ elim (bind_err (read_many (begins ts) p n h.0.1) (λ xs. Ok (h.0.0 ∷ xs.0, xs.1)) s h.2) [
          | inl k ↦ many_long ts p ih n h.0.1 s k
          | inr k ↦ absurd (let z = k.2 in cc)
        ]
      ]
      | inr c ↦ absurd (let z = c.1 in cc)
    ]

pub long_stop : {A : Type 0} (g : Grammar A) (ls : List Lexeme) (s : Stop) → read g ls ≡ Err s → IsLongStop s
long_stop (one t) ls s e = one_long t ls s e
long_stop (nothing x) ls s e = absurd cc
long_stop (seq g h) ls s e =
    elim (bind_err (read g ls) (λ x. read h x.1 >>= λ y. Ok ((x.0, y.0), y.1)) s e) [
      | inl p ↦ long_stop g ls s p
      | inr p ↦ elim (bind_err (read h p.0.1) (λ y. Ok ((p.0.0, y.0), y.1)) s p.2) [ inl k ↦ long_stop h p.0.1 s k | inr k ↦ absurd (let z = k.2 in cc) ]
    ]
long_stop (means f g) ls s e =
    elim (bind_err (read g ls) (λ x. Ok (f x.0, x.1)) s e) [ inl p ↦ long_stop g ls s p | inr p ↦ absurd (let z = p.2 in cc) ]
long_stop (alt g h) ls s e =
    elim (chosen (begins (first g) ls) (read g ls) (read h ls) (Err s) e) [ inl p ↦ long_stop g ls s p.1 | inr p ↦ long_stop h ls s p.1 ]
long_stop (many g) ls s e = many_long (first g) (read g) (λ a b c. long_stop g a b c) (length ls) ls s e
long_stop (if_next t) ls s e = next_long t ls s e
