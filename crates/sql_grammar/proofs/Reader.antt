-- Reading from left to right finds what the grammar says.
use Rattle.std.proofs.Common.{◌≡◌, ℕ, zero, suc, ◌<◌, ◌≤◌, Bool, true, false, cond, not, ◌&&◌, ◌||◌, List, [], ◌∷◌, ◌++◌, length, Result, Ok, Err, refl, sym, ap, subst, ◌∙◌, ◌⊎◌, inl, inr, append_assoc, arith}
use Rattle.sql_grammar.specs.Lexemes.{Lexeme, Terminal, content, takes, begins, is_long, Short}
use Rattle.sql_grammar.specs.Grammar.{Grammar, one, nothing, seq, means, alt, many, if_next, Says, SaysMany}
use Rattle.sql_grammar.specs.Reading.{Stop, ◌>>=◌, null, first, read_one, read_many, read_next, read}
use Rattle.sql_grammar.specs.Checks.{all_apart, extends_by, one_token_decides}
use Rattle.sql_grammar.proofs.Terminals.{begins_apart}
use Rattle.sql_grammar.proofs.Bits.{chosen, or_false, or_left, or_right, and_true, not_true, ok_is, bind_ok, begins-append}

Read : Type 0 → Type 0
Read A = Result (A × List Lexeme) Stop

-- what is read is in the grammar

one_sound : (t : Terminal) (ls : List Lexeme) (v : List ℕ) (rest : List Lexeme) → read_one t ls ≡ Ok (v, rest) → Says (one t) ls rest v
one_sound t [] v rest e = absurd cc
one_sound t (l ∷ ls) v rest e =
    elim (chosen (takes t l) (cond (is_long l) (Err (record { rest = l ∷ ls; long = true })) (Ok (content l, ls))) (Err (record { rest = l ∷ ls; long = false })) (Ok (v, rest)) e) [
      | inl p ↦ elim (chosen (is_long l) (Err (record { rest = l ∷ ls; long = true })) (Ok (content l, ls)) (Ok (v, rest)) p.1) [
        | inl q ↦ absurd (let h = q.1 in cc)
        | inr q ↦ let h = ok_is (content l, ls) (v, rest) q.1 in (l, p.0, ap (λ (x : List ℕ × List Lexeme). l ∷ x.1) h, sym (ap (λ (x : List ℕ × List Lexeme). x.0) h))
      ]
      | inr p ↦ absurd (let h = p.1 in cc)
    ]

next_sound : (t : Terminal) (ls : List Lexeme) (v : Bool) (rest : List Lexeme) → read_next t ls ≡ Ok (v, rest) → Says (if_next t) ls rest v
next_sound t [] v rest e = let h = ok_is (false, []) (v, rest) e in inr (refl, ap (λ (x : Bool × List Lexeme). x.1) h, sym (ap (λ (x : Bool × List Lexeme). x.0) h))
next_sound t (l ∷ ls) v rest e =
    elim (chosen (takes t l) (cond (is_long l) (Err (record { rest = l ∷ ls; long = true })) (Ok (true, ls))) (Ok (false, l ∷ ls)) (Ok (v, rest)) e) [
      | inl p ↦ elim (chosen (is_long l) (Err (record { rest = l ∷ ls; long = true })) (Ok (true, ls)) (Ok (v, rest)) p.1) [
        | inl q ↦ absurd (let h = q.1 in cc)
        | inr q ↦ let h = ok_is (true, ls) (v, rest) q.1 in inl (l, p.0, ap (λ (x : Bool × List Lexeme). l ∷ x.1) h, sym (ap (λ (x : Bool × List Lexeme). x.0) h))
      ]
      | inr p ↦
          let h = ok_is (false, l ∷ ls) (v, rest) p.1 in
          inr (rw p.0 refl, ap (λ (x : Bool × List Lexeme). x.1) h, sym (ap (λ (x : Bool × List Lexeme). x.0) h))
    ]

many_sound : {A : Type 0} (g : Grammar A) (ih : (ls : List Lexeme) (v : A) (rest : List Lexeme) → read g ls ≡ Ok (v, rest) → Says g ls rest v) (starts : List Lexeme → Bool) (n : ℕ) (ls : List Lexeme) (vs : List A) (rest : List Lexeme) → read_many starts (read g) n ls ≡ Ok (vs, rest) → SaysMany (Says g) ls rest vs
many_sound {A} g ih starts zero ls vs rest e = subst (λ (p : List A × List Lexeme). SaysMany (Says g) ls p.1 p.0) (ok_is ([], ls) (vs, rest) e) refl
many_sound {A} g ih starts (suc n) ls vs rest e =
    elim (chosen (starts ls) (read g ls >>= λ x. read_many starts (read g) n x.1 >>= λ xs. Ok (x.0 ∷ xs.0, xs.1)) (Ok ([], ls)) (Ok (vs, rest)) e) [
      | inl p ↦
          let b = bind_ok (read g ls) (λ x. read_many starts (read g) n x.1 >>= λ xs. Ok (x.0 ∷ xs.0, xs.1)) (vs, rest) p.1 in
          let c = bind_ok (read_many starts (read g) n b.0.1) (λ xs. Ok (b.0.0 ∷ xs.0, xs.1)) (vs, rest) b.2 in
          subst (λ (q : List A × List Lexeme). SaysMany (Says g) ls q.1 q.0) (ok_is (b.0.0 ∷ c.0.0, c.0.1) (vs, rest) c.2)
          (b.0.1, ih ls b.0.0 b.0.1 b.1, many_sound g ih starts n b.0.1 c.0.0 c.0.1 c.1)
      | inr p ↦ subst (λ (q : List A × List Lexeme). SaysMany (Says g) ls q.1 q.0) (ok_is ([], ls) (vs, rest) p.1) refl
    ]

pub sound : {A : Type 0} (g : Grammar A) (ls : List Lexeme) (v : A) (rest : List Lexeme) → read g ls ≡ Ok (v, rest) → Says g ls rest v
sound (one t) ls v rest e = one_sound t ls v rest e
sound {A} (nothing x) ls v rest e = let h = ok_is (x, ls) (v, rest) e in (ap (λ (p : A × List Lexeme). p.1) h, sym (ap (λ (p : A × List Lexeme). p.0) h))
sound (seq {A} {B} g h) ls v rest e =
    let b = bind_ok (read g ls) (λ x. read h x.1 >>= λ y. Ok ((x.0, y.0), y.1)) (v, rest) e in
    let c = bind_ok (read h b.0.1) (λ y. Ok ((b.0.0, y.0), y.1)) (v, rest) b.2 in
    subst (λ (q : (A × B) × List Lexeme). Says (seq g h) ls q.1 q.0) (ok_is ((b.0.0, c.0.0), c.0.1) (v, rest) c.2)
    (b.0.1, sound g ls b.0.0 b.0.1 b.1, sound h b.0.1 c.0.0 c.0.1 c.1)
sound (means {A} {B} f g) ls v rest e =
    let b = bind_ok (read g ls) (λ x. Ok (f x.0, x.1)) (v, rest) e in
    subst (λ (q : B × List Lexeme). Says (means f g) ls q.1 q.0) (ok_is (f b.0.0, b.0.1) (v, rest) b.2)
    (b.0.0, sound g ls b.0.0 b.0.1 b.1, refl)
sound (alt g h) ls v rest e =
    elim (chosen (begins (first g) ls) (read g ls) (read h ls) (Ok (v, rest)) e) [
      | inl p ↦ inl (sound g ls v rest p.1)
      | inr p ↦ inr (sound h ls v rest p.1)
    ]
sound (many g) ls v rest e = many_sound g (λ a b c d. sound g a b c d) (begins (first g)) (length ls) ls v rest e
sound (if_next t) ls v rest e = next_sound t ls v rest e

-- ---- where a value begins, and how much it takes

many_first : {A : Type 0} (g : Grammar A) (ih : (before after : List Lexeme) (v : A) → Says g before after v → (begins (first g) before ≡ true) ⊎ ((null g ≡ true) × (before ≡ after))) (before after : List Lexeme) (vs : List A) → SaysMany (Says g) before after vs → (begins (first g) before ≡ true) ⊎ (before ≡ after)
many_first g ih before after [] s = inr s
many_first g ih before after (x ∷ xs) s =
    elim (ih before s.0 x s.1) [
      | inl b ↦ inl b
      | inr n ↦ elim (many_first g ih s.0 after xs s.2) [
        | inl b ↦ inl (subst (λ (ls : List Lexeme). begins (first g) ls ≡ true) (sym n.1) b)
        | inr e ↦ inr (n.1 ∙ e)
      ]
    ]

one_first : (t : Terminal) (l : Lexeme) (before after : List Lexeme) → takes t l ≡ true → before ≡ l ∷ after → begins (t ∷ []) before ≡ true
one_first t l before after h e = rw e (or_left (takes t l) false h)

pub first_of : {A : Type 0} (g : Grammar A) (before after : List Lexeme) (v : A) → Says g before after v → (begins (first g) before ≡ true) ⊎ ((null g ≡ true) × (before ≡ after))
first_of (one t) before after v s = inl (one_first t s.0 before after s.1 s.2)
first_of (nothing x) before after v s = inr (refl, s.0)
first_of (seq g h) before after v s =
    elim (first_of g before s.0 v.0 s.1) [
      | inl b ↦ inl (rw begins-append (or_left (begins (first g) before) _ b))
      | inr n ↦ elim (first_of h s.0 after v.1 s.2) [
        | inl b ↦ inl (rw (begins-append, n.0, n.1) (or_right _ _ b))
        | inr m ↦ inr (rw (n.0, m.0) refl, n.1 ∙ m.1)
      ]
    ]
first_of (means f g) before after v s = first_of g before after s.0 s.1
first_of (alt g h) before after v (inl s) =
    elim (first_of g before after v s) [
      | inl b ↦ inl (rw begins-append (or_left (begins (first g) before) _ b))
      | inr n ↦ inr (rw n.0 refl, n.1)
    ]
first_of (alt g h) before after v (inr s) =
    elim (first_of h before after v s) [
      | inl b ↦ inl (rw begins-append (or_right (begins (first g) before) _ b))
      | inr n ↦ inr (or_right (null g) (null h) n.0, n.1)
    ]
first_of (many g) before after v s =
    elim (many_first g (λ a b c d. first_of g a b c d) before after v s) [ inl b ↦ inl b | inr e ↦ inr (refl, e) ]
first_of (if_next t) before after v (inl s) = inl (one_first t s.0 before after s.1 s.2)
first_of (if_next t) before after v (inr s) = inr (refl, s.1)

-- what is taken from the front
pub record Taken (before after : List Lexeme) : Type 0 where
  pub front : List Lexeme
  pub parts : before ≡ front ++ after

Taken-then : (a b c : List Lexeme) → Taken a b → Taken b c → Taken a c
Taken-then a b c p q = record { front = p.front ++ q.front; parts = p.parts ∙ ap (λ (x : List Lexeme). p.front ++ x) q.parts ∙ sym (append_assoc p.front q.front c) }

Taken-none : (a b : List Lexeme) → a ≡ b → Taken a b
Taken-none a b e = record { front = []; parts = e }

Taken-one : (l : Lexeme) (a b : List Lexeme) → a ≡ l ∷ b → Taken a b
Taken-one l a b e = record { front = l ∷ []; parts = e }

many_taken : {A : Type 0} (g : Grammar A) (ih : (before after : List Lexeme) (v : A) → Says g before after v → Taken before after) (before after : List Lexeme) (vs : List A) → SaysMany (Says g) before after vs → Taken before after
many_taken g ih before after [] s = Taken-none before after s
many_taken g ih before after (x ∷ xs) s = Taken-then before s.0 after (ih before s.0 x s.1) (many_taken g ih s.0 after xs s.2)

pub taken : {A : Type 0} (g : Grammar A) (before after : List Lexeme) (v : A) → Says g before after v → Taken before after
taken (one t) before after v s = Taken-one s.0 before after s.2
taken (nothing x) before after v s = Taken-none before after s.0
taken (seq g h) before after v s = Taken-then before s.0 after (taken g before s.0 v.0 s.1) (taken h s.0 after v.1 s.2)
taken (means f g) before after v s = taken g before after s.0 s.1
taken (alt g h) before after v (inl s) = taken g before after v s
taken (alt g h) before after v (inr s) = taken h before after v s
taken (many g) before after v s = many_taken g (λ a b c d. taken g a b c d) before after v s
taken (if_next t) before after v (inl s) = Taken-one s.0 before after s.2
taken (if_next t) before after v (inr s) = Taken-none before after s.1

Short-back : (front after : List Lexeme) → Short (front ++ after) → Short after
Short-back [] after s = s
Short-back (l ∷ front) after s = Short-back front after s.1

pub Short-rest : (before after : List Lexeme) → Taken before after → Short before → Short after
Short-rest before after t s = Short-back t.front after (subst Short t.parts s)

-- a rule that isn't nothing takes a token
pub record Shrinks (empty : Bool) (before after : List Lexeme) : Type 0 where
  pub le : length after ≤ length before
  pub lt : empty ≡ false → length after < length before

many_shrinks : {A : Type 0} (g : Grammar A) (ih : (before after : List Lexeme) (v : A) → Says g before after v → Shrinks (null g) before after) (before after : List Lexeme) (vs : List A) → SaysMany (Says g) before after vs → length after ≤ length before
many_shrinks g ih before after [] s = let e = ap length s in omega arith
many_shrinks g ih before after (x ∷ xs) s = let a = ih before s.0 x s.1 in let b = many_shrinks g ih s.0 after xs s.2 in omega arith

Shrinks-one : (l : Lexeme) (b : Bool) (before after : List Lexeme) → before ≡ l ∷ after → Shrinks b before after
Shrinks-one l b before after e = let h : length before ≡ suc (length after) = ap length e in record { le = omega arith; lt = λ n. omega arith }

Shrinks-none : (before after : List Lexeme) → before ≡ after → Shrinks true before after
Shrinks-none before after e = let h = ap length e in record { le = omega arith; lt = λ n. absurd cc }

Shrinks-both : (n m : Bool) (a b c : List Lexeme) → Shrinks n a b → Shrinks m b c → Shrinks (n && m) a c
Shrinks-both true m a b c p q = record { le = omega arith; lt = λ e. let h = q.lt e in omega arith }
Shrinks-both false m a b c p q = let h = p.lt refl in record { le = omega arith; lt = λ e. omega arith }

Shrinks-left : (n m : Bool) (a b : List Lexeme) → Shrinks n a b → Shrinks (n || m) a b
Shrinks-left n m a b p = record { le = p.le; lt = λ e. p.lt (or_false n m e).0 }

Shrinks-right : (n m : Bool) (a b : List Lexeme) → Shrinks m a b → Shrinks (n || m) a b
Shrinks-right n m a b p = record { le = p.le; lt = λ e. p.lt (or_false n m e).1 }

pub shrinks : {A : Type 0} (g : Grammar A) (before after : List Lexeme) (v : A) → Says g before after v → Shrinks (null g) before after
shrinks (one t) before after v s = Shrinks-one s.0 false before after s.2
shrinks (nothing x) before after v s = Shrinks-none before after s.0
shrinks (seq g h) before after v s = Shrinks-both (null g) (null h) before s.0 after (shrinks g before s.0 v.0 s.1) (shrinks h s.0 after v.1 s.2)
shrinks (means f g) before after v s = shrinks g before after s.0 s.1
shrinks (alt g h) before after v (inl s) = Shrinks-left (null g) (null h) before after (shrinks g before after v s)
shrinks (alt g h) before after v (inr s) = Shrinks-right (null g) (null h) before after (shrinks h before after v s)
shrinks (many g) before after v s = record { le = many_shrinks g (λ a b c d. shrinks g a b c d) before after v s; lt = λ e. absurd cc }
shrinks (if_next t) before after v (inl s) = Shrinks-one s.0 true before after s.2
shrinks (if_next t) before after v (inr s) = Shrinks-none before after s.1

-- ---- what the grammar says is read

one_complete : (t : Terminal) (l : Lexeme) (before after : List Lexeme) (v : List ℕ) → takes t l ≡ true → before ≡ l ∷ after → v ≡ content l → Short before → read_one t before ≡ Ok (v, after)
one_complete t l before after v h e f s =
    let s2 = subst Short e s in
    let k = s2.0 in
    rw (e, f, h, k) refl

next_complete : (t : Terminal) (before after : List Lexeme) (v : Bool) → Says (if_next t) before after v → Short before → read_next t before ≡ Ok (v, after)
next_complete t before after v (inl s) short =
    let s2 = subst Short s.2 short in
    let k = s2.0 in let h = s.1 in let e = s.2 in let f = s.3 in
    rw (e, f, h, k) refl
next_complete t [] after v (inr s) short = let f = s.2 in rw (f, ← s.1) refl
next_complete t (l ∷ ls) after v (inr s) short =
    let f = s.2 in let h = (or_false (takes t l) false s.0).0 in rw (f, ← s.1, h) refl

many_complete : {A : Type 0} (g : Grammar A) (ih : (before after : List Lexeme) (v : A) → Says g before after v → Short before → begins (extends_by g) after ≡ false → read g before ≡ Ok (v, after)) → null g ≡ false → all_apart (extends_by g) (first g) ≡ true
    → (n : ℕ) (before after : List Lexeme) (vs : List A) → length before ≤ n → SaysMany (Says g) before after vs → Short before → begins (extends_by g) after ≡ false → begins (first g) after ≡ false → read_many (begins (first g)) (read g) n before ≡ Ok (vs, after)
many_complete g ih nn ap_ zero before after [] le s short q1 q2 = rw s refl
many_complete g ih nn ap_ (suc n) before after [] le s short q1 q2 = rw (s, q2) refl
many_complete g ih nn ap_ zero before after (x ∷ xs) le s short q1 q2 = let a = (shrinks g before s.0 x s.1).lt nn in absurd (omega arith)
many_complete g ih nn ap_ (suc n) before after (x ∷ xs) le s short q1 q2 =
    let a = (shrinks g before s.0 x s.1).lt nn in
    let b = starts (first_of g before s.0 x s.1) in
    let q = quiet (many_first g (λ a b c d. first_of g a b c d) s.0 after xs s.2) in
    let r = ih before s.0 x s.1 short q in
    let m = many_complete g ih nn ap_ n s.0 after xs (omega arith) s.2 (Short-rest before s.0 (taken g before s.0 x s.1) short) q1 q2 in
    rw (b, r, m) refl
  where
    starts : (begins (first g) before ≡ true) ⊎ ((null g ≡ true) × (before ≡ s.0)) → begins (first g) before ≡ true
    starts (inl b) = b
    starts (inr e) = absurd (let h = e.0 in cc)

    quiet : (begins (first g) s.0 ≡ true) ⊎ (s.0 ≡ after) → begins (extends_by g) s.0 ≡ false
    quiet (inl b) = begins_apart (extends_by g) (first g) s.0 ap_ b
    quiet (inr e) = rw e q1

pub complete : {A : Type 0} (g : Grammar A) → one_token_decides g ≡ true → (before after : List Lexeme) (v : A) → Says g before after v → Short before → begins (extends_by g) after ≡ false → read g before ≡ Ok (v, after)
complete (one t) ok before after v s short q = one_complete t s.0 before after v s.1 s.2 s.3 short
complete (nothing x) ok before after v s short q = rw (s.0, s.1) refl
complete (seq g h) ok before after v s short q =
    let o1 = and_true (one_token_decides g) (one_token_decides h && all_apart (extends_by g) (first h)) ok in
    let o2 = and_true (one_token_decides h) (all_apart (extends_by g) (first h)) o1.1 in
    let quiets = or_false (begins (extends_by h) after) (begins (cond (null h) (extends_by g) []) after) (sym (begins-append (extends_by h) (cond (null h) (extends_by g) []) after) ∙ q) in
    let a = complete g o1.0 before s.0 v.0 s.1 short (quiet o2.1 (first_of h s.0 after v.1 s.2) quiets.1) in
    let b = complete h o2.0 s.0 after v.1 s.2 (Short-rest before s.0 (taken g before s.0 v.0 s.1) short) quiets.0 in
    rw (a, b) refl
  where
    quiet : all_apart (extends_by g) (first h) ≡ true → (begins (first h) s.0 ≡ true) ⊎ ((null h ≡ true) × (s.0 ≡ after)) → begins (cond (null h) (extends_by g) []) after ≡ false → begins (extends_by g) s.0 ≡ false
    quiet o (inl b) k = begins_apart (extends_by g) (first h) s.0 o b
    quiet o (inr e) k = let e0 = e.0 in let e1 = e.1 in rw e1 (rw e0 at k)
complete (means f g) ok before after v s short q = let a = complete g ok before after s.0 s.1 short q in let e = s.2 in rw (a, e) refl
complete (alt g h) ok before after v (inl s) short q =
    let o1 = and_true (one_token_decides g) (one_token_decides h && (not (null g) && all_apart (first g) (first h))) ok in
    let o2 = and_true (one_token_decides h) (not (null g) && all_apart (first g) (first h)) o1.1 in
    let o3 = and_true (not (null g)) (all_apart (first g) (first h)) o2.1 in
    let quiets = or_false (begins (extends_by g) after) (begins (extends_by h ++ cond (null h) (first g) []) after) (sym (begins-append (extends_by g) (extends_by h ++ cond (null h) (first g) []) after) ∙ q) in
    let a = complete g o1.0 before after v s short quiets.0 in
    let b = starts (not_true (null g) o3.0) (first_of g before after v s) in
    rw (b, a) refl
  where
    starts : null g ≡ false → (begins (first g) before ≡ true) ⊎ ((null g ≡ true) × (before ≡ after)) → begins (first g) before ≡ true
    starts n (inl b) = b
    starts n (inr e) = absurd (let h = e.0 in cc)
complete (alt g h) ok before after v (inr s) short q =
    let o1 = and_true (one_token_decides g) (one_token_decides h && (not (null g) && all_apart (first g) (first h))) ok in
    let o2 = and_true (one_token_decides h) (not (null g) && all_apart (first g) (first h)) o1.1 in
    let o3 = and_true (not (null g)) (all_apart (first g) (first h)) o2.1 in
    let q1 = or_false (begins (extends_by g) after) (begins (extends_by h ++ cond (null h) (first g) []) after) (sym (begins-append (extends_by g) (extends_by h ++ cond (null h) (first g) []) after) ∙ q) in
    let q2 = or_false (begins (extends_by h) after) (begins (cond (null h) (first g) []) after) (sym (begins-append (extends_by h) (cond (null h) (first g) []) after) ∙ q1.1) in
    let a = complete h o2.0 before after v s short q2.0 in
    let b = skips o3.1 (first_of h before after v s) q2.1 in
    rw (b, a) refl
  where
    skips : all_apart (first g) (first h) ≡ true → (begins (first h) before ≡ true) ⊎ ((null h ≡ true) × (before ≡ after)) → begins (cond (null h) (first g) []) after ≡ false → begins (first g) before ≡ false
    skips o (inl b) k = begins_apart (first g) (first h) before o b
    skips o (inr e) k = let e0 = e.0 in let e1 = e.1 in rw e1 (rw e0 at k)
complete (many g) ok before after v s short q =
    let o1 = and_true (one_token_decides g) (not (null g) && all_apart (extends_by g) (first g)) ok in
    let o2 = and_true (not (null g)) (all_apart (extends_by g) (first g)) o1.1 in
    let quiets = or_false (begins (extends_by g) after) (begins (first g) after) (sym (begins-append (extends_by g) (first g) after) ∙ q) in
    many_complete g (λ a b c d e f. complete g o1.0 a b c d e f) (not_true (null g) o2.0) o2.1 (length before) before after v (omega arith) s short quiets.0 quiets.1
complete (if_next t) ok before after v s short q = next_complete t before after v s short
