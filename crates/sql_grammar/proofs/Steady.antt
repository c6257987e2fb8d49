-- Reading looks at no token behind the one at which it stops.
use Rattle.std.proofs.Common.{◌≡◌, ℕ, zero, suc, ◌<◌, ◌≤◌, Bool, true, false, cond, not, ◌&&◌, List, [], ◌∷◌, ◌++◌, length, Result, Ok, Err, refl, sym, ap, subst, ◌∙◌, ◌⊎◌, inl, inr, append_assoc, arith}
use Rattle.sql_grammar.specs.Lexemes.{Lexeme, Terminal, content, takes, takes_some, begins, is_long, Short}
use Rattle.sql_grammar.specs.Grammar.{Grammar, one, nothing, seq, means, alt, many, if_next}
use Rattle.sql_grammar.specs.Reading.{Stop, ◌>>=◌, null, first, read_one, read_many, read_next, read}
use Rattle.sql_grammar.specs.Checks.{all_apart, extends_by, one_token_decides}
use Rattle.sql_grammar.proofs.Bits.{chosen, bit, and_true, not_true}
use Rattle.sql_grammar.proofs.Reader.{sound, shrinks}

abbrev pub Read : Type 0 → Type 0
Read A = Result (A × List Lexeme) Stop

abbrev pub rest_of : {A : Type 0} → Read A → List Lexeme
rest_of (Ok x) = x.1
rest_of (Err s) = s.rest

abbrev pub aim : {A : Type 0} → Read A → List Lexeme → Read A
aim (Ok x) r = Ok (x.0, r)
aim (Err s) r = Err (record { rest = r; long = s.long })

abbrev pub is_cut : {A : Type 0} → Read A → Bool
is_cut (Ok x) = false
is_cut (Err s) = s.long

-- the same rules take them
abbrev pub Alike : Lexeme → Lexeme → Type 0
Alike l m = (t : Terminal) → takes t l ≡ takes t m

abbrev pub SameHead : List Lexeme → List Lexeme → Type 0
SameHead [] [] = Unit {0}
SameHead [] (m ∷ ms) = ⊥
SameHead (l ∷ ls) [] = ⊥
SameHead (l ∷ ls) (m ∷ ms) = Alike l m

pub record Steady {A : Type 0} (rd : List Lexeme → Read A) (ls : List Lexeme) (x : Read A) : Type 0 where
  pub front : List Lexeme
  pub parts : ls ≡ front ++ rest_of x
  pub short : Short front
  pub again : (r : List Lexeme) → SameHead (rest_of x) r → rd (front ++ r) ≡ aim x r

pub SameHead-refl : (ls : List Lexeme) → SameHead ls ls
SameHead-refl [] = tt
SameHead-refl (l ∷ ls) = λ t. refl

pub SameHead-front : (front a b : List Lexeme) → SameHead a b → SameHead (front ++ a) (front ++ b)
SameHead-front [] a b s = s
SameHead-front (l ∷ front) a b s = λ t. refl

takes_some-same : (ts : List Terminal) (l m : Lexeme) → Alike l m → takes_some ts l ≡ takes_some ts m
takes_some-same [] l m s = refl
takes_some-same (t ∷ ts) l m s = let e = s t in rw (e, takes_some-same ts l m s) refl

pub begins-same : (ts : List Terminal) (a b : List Lexeme) → SameHead a b → begins ts a ≡ begins ts b
begins-same ts [] [] s = refl
begins-same ts [] (m ∷ ms) s = absurd s
begins-same ts (l ∷ ls) [] s = absurd s
begins-same ts (l ∷ ls) (m ∷ ms) s = takes_some-same ts l m s

pub Short-append : (a b : List Lexeme) → Short a → Short b → Short (a ++ b)
Short-append [] b s t = t
Short-append (l ∷ a) b s t = (s.0, Short-append a b s.1 t)

-- ---- one token

one_end : (t : Terminal) (r : List Lexeme) → SameHead [] r → read_one t r ≡ Err (record { rest = r; long = false })
one_end t [] s = refl
one_end t (m ∷ ms) s = absurd s

one_not : (t : Terminal) (l : Lexeme) (ls r : List Lexeme) → takes t l ≡ false → SameHead (l ∷ ls) r → read_one t r ≡ Err (record { rest = r; long = false })
one_not t l ls [] h s = absurd s
one_not t l ls (m ∷ ms) h s = let e : takes t m ≡ false = sym (s t) ∙ h in rw e refl

one_steady : (t : Terminal) (ls : List Lexeme) (x : Read (List ℕ)) → read_one t ls ≡ x → is_cut x ≡ false → Steady (read_one t) ls x
one_steady t [] x e n = subst (Steady (read_one t) []) e (record { front = []; parts = refl; short = tt; again = λ r s. one_end t r s })
one_steady t (l ∷ ls) x e n =
    elim (chosen (takes t l) (cond (is_long l) (Err (record { rest = l ∷ ls; long = true })) (Ok (content l, ls))) (Err (record { rest = l ∷ ls; long = false })) x e) [
      | inl p ↦ elim (chosen (is_long l) (Err (record { rest = l ∷ ls; long = true })) (Ok (content l, ls)) x p.1) [
        | inl q ↦ absurd (let h = ap is_cut q.1 ∙ n in cc)
        | inr q ↦ let h = p.0 in let k = q.0 in subst (Steady (read_one t) (l ∷ ls)) q.1 (record { front = l ∷ []; parts = refl; short = (k, tt); again = λ r s. rw (h, k) refl })
      ]
      | inr p ↦ subst (Steady (read_one t) (l ∷ ls)) p.1 (record { front = []; parts = refl; short = tt; again = λ r s. one_not t l ls r p.0 s })
    ]

next_end : (t : Terminal) (r : List Lexeme) → SameHead [] r → read_next t r ≡ Ok (false, r)
next_end t [] s = refl
next_end t (m ∷ ms) s = absurd s

next_not : (t : Terminal) (l : Lexeme) (ls r : List Lexeme) → takes t l ≡ false → SameHead (l ∷ ls) r → read_next t r ≡ Ok (false, r)
next_not t l ls [] h s = absurd s
next_not t l ls (m ∷ ms) h s = let e : takes t m ≡ false = sym (s t) ∙ h in rw e refl

next_steady : (t : Terminal) (ls : List Lexeme) (x : Read Bool) → read_next t ls ≡ x → is_cut x ≡ false → Steady (read_next t) ls x
next_steady t [] x e n = subst (Steady (read_next t) []) e (record { front = []; parts = refl; short = tt; again = λ r s. next_end t r s })
next_steady t (l ∷ ls) x e n =
    elim (chosen (takes t l) (cond (is_long l) (Err (record { rest = l ∷ ls; long = true })) (Ok (true, ls))) (Ok (false, l ∷ ls)) x e) [
      | inl p ↦ elim (chosen (is_long l) (Err (record { rest = l ∷ ls; long = true })) (Ok (true, ls)) x p.1) [
        | inl q ↦ absurd (let h = ap is_cut q.1 ∙ n in cc)
        | inr q ↦ let h = p.0 in let k = q.0 in subst (Steady (read_next t) (l ∷ ls)) q.1 (record { front = l ∷ []; parts = refl; short = (k, tt); again = λ r s. rw (h, k) refl })
      ]
      | inr p ↦ subst (Steady (read_next t) (l ∷ ls)) p.1 (record { front = []; parts = refl; short = tt; again = λ r s. next_not t l ls r p.0 s })
    ]

-- ---- one rule after the other

abbrev both : {A B : Type 0} → (List Lexeme → Read A) → (List Lexeme → Read B) → List Lexeme → Read (A × B)
both p q ls = p ls >>= λ x. q x.1 >>= λ y. Ok ((x.0, y.0), y.1)

both_err : {A B : Type 0} (p : List Lexeme → Read A) (q : List Lexeme → Read B) (ls : List Lexeme) (s : Stop) → Steady p ls (Err s) → Steady (both p q) ls (Err s)
both_err p q ls s a = record { front = a.front; parts = a.parts; short = a.short; again = λ r h. let e = a.again r h in rw e refl }

both_ok : {A B : Type 0} (p : List Lexeme → Read A) (q : List Lexeme → Read B) (ls : List Lexeme) (x : A) (mid : List Lexeme) (y : Read B) → Steady p ls (Ok (x, mid)) → Steady q mid y → Steady (both p q) ls (y >>= λ b. Ok ((x, b.0), b.1))
both_ok p q ls x mid (Ok b) a c = record {
  front = a.front ++ c.front;
  parts = a.parts ∙ ap (λ (z : List Lexeme). a.front ++ z) c.parts ∙ sym (append_assoc a.front c.front b.1);
  short = Short-append a.front c.front a.short c.short;
  again = λ r h.
      let e2 = c.again r h in
      let e1 = a.again (c.front ++ r) (subst (λ (z : List Lexeme). SameHead z (c.front ++ r)) (sym c.parts) (SameHead-front c.front b.1 r h)) in
      rw (append_assoc a.front c.front r, e1, e2) refl;
}
both_ok p q ls x mid (Err s) a c = record {
  front = a.front ++ c.front;
  parts = a.parts ∙ ap (λ (z : List Lexeme). a.front ++ z) c.parts ∙ sym (append_assoc a.front c.front s.rest);
  short = Short-append a.front c.front a.short c.short;
  again = λ r h.
      let e2 = c.again r h in
      let e1 = a.again (c.front ++ r) (subst (λ (z : List Lexeme). SameHead z (c.front ++ r)) (sym c.parts) (SameHead-front c.front s.rest r h)) in
      rw (append_assoc a.front c.front r, e1, e2) refl;
}

-- what a rule does at each list
abbrev pub IsSteady : {A : Type 0} → (List Lexeme → Read A) → Type 0
IsSteady {A} rd = (ls : List Lexeme) (x : Read A) → rd ls ≡ x → is_cut x ≡ false → Steady rd ls x

both_steady : {A B : Type 0} (p : List Lexeme → Read A) (q : List Lexeme → Read B) → IsSteady p → IsSteady q → IsSteady (both p q)
both_steady {A} {B} p q sp sq ls x e n = at_first (p ls) refl
  where
    at_second : (a : A × List Lexeme) (y : Read B) → p ls ≡ Ok a → q a.1 ≡ y → Steady (both p q) ls x
    at_second a (Ok b) e1 e2 =
        let h : Ok ((a.0, b.0), b.1) ≡ x = rw (e1, e2) at e in
        subst (Steady (both p q) ls) h (both_ok p q ls a.0 a.1 (Ok b) (sp ls (Ok a) e1 refl) (sq a.1 (Ok b) e2 refl))
    at_second a (Err s) e1 e2 =
        let h : Err s ≡ x = rw (e1, e2) at e in
        subst (Steady (both p q) ls) h (both_ok p q ls a.0 a.1 (Err s) (sp ls (Ok a) e1 refl) (sq a.1 (Err s) e2 (ap is_cut h ∙ n)))

    at_first : (y : Read A) → p ls ≡ y → Steady (both p q) ls x
    at_first (Ok a) e1 = at_second a (q a.1) e1 refl
    at_first (Err s) e1 =
        let h : Err s ≡ x = rw e1 at e in
        subst (Steady (both p q) ls) h (both_err p q ls s (sp ls (Err s) e1 (ap is_cut h ∙ n)))

means_steady : {A B : Type 0} (f : A → B) (p : List Lexeme → Read A) → IsSteady p → IsSteady (λ ls. p ls >>= λ x. Ok (f x.0, x.1))
means_steady {A} {B} f p sp ls x e n = at_first (p ls) refl
  where
    at_first : (y : Read A) → p ls ≡ y → Steady (λ ls. p ls >>= λ x. Ok (f x.0, x.1)) ls x
    at_first (Ok a) e1 =
        let h : Ok (f a.0, a.1) ≡ x = rw e1 at e in
        let s = sp ls (Ok a) e1 refl in
        subst (Steady (λ ls. p ls >>= λ x. Ok (f x.0, x.1)) ls) h (record { front = s.front; parts = s.parts; short = s.short; again = λ r k. let e2 = s.again r k in rw e2 refl })
    at_first (Err d) e1 =
        let h : Err d ≡ x = rw e1 at e in
        let s = sp ls (Err d) e1 (ap is_cut h ∙ n) in
        subst (Steady (λ ls. p ls >>= λ x. Ok (f x.0, x.1)) ls) h (record { front = s.front; parts = s.parts; short = s.short; again = λ r k. let e2 = s.again r k in rw e2 refl })

alt_steady : {A : Type 0} (ts : List Terminal) (p q : List Lexeme → Read A) → IsSteady p → IsSteady q → IsSteady (λ ls. cond (begins ts ls) (p ls) (q ls))
alt_steady ts p q sp sq ls x e n =
    elim (chosen (begins ts ls) (p ls) (q ls) x e) [
      | inl h ↦
          let s = sp ls x h.1 n in
          record {
            front = s.front;
            parts = s.parts;
            short = s.short;
            again = λ r k.
                let b : begins ts (s.front ++ r) ≡ true = sym (begins-same ts ls (s.front ++ r) (subst (λ (z : List Lexeme). SameHead z (s.front ++ r)) (sym s.parts) (SameHead-front s.front (rest_of x) r k))) ∙ h.0 in
                rw b (s.again r k);
          }
      | inr h ↦
          let s = sq ls x h.1 n in
          record {
            front = s.front;
            parts = s.parts;
            short = s.short;
            again = λ r k.
                let b : begins ts (s.front ++ r) ≡ false = sym (begins-same ts ls (s.front ++ r) (subst (λ (z : List Lexeme). SameHead z (s.front ++ r)) (sym s.parts) (SameHead-front s.front (rest_of x) r k))) ∙ h.0 in
                rw b (s.again r k);
          }
    ]

-- ---- a rule again and again

pub record ManySteady {A : Type 0} (rd : ℕ → List Lexeme → Read (List A)) (ls : List Lexeme) (x : Read (List A)) : Type 0 where
  pub front : List Lexeme
  pub parts : ls ≡ front ++ rest_of x
  pub short : Short front
  pub again : (m : ℕ) (r : List Lexeme) → SameHead (rest_of x) r → length (front ++ r) ≤ m → rd m (front ++ r) ≡ aim x r

many_stops : {A : Type 0} (ts : List Terminal) (p : List Lexeme → Read A) (m : ℕ) (r : List Lexeme) → begins ts r ≡ false → read_many (begins ts) p m r ≡ Ok ([], r)
many_stops ts p zero r b = refl
many_stops ts p (suc m) r b = rw b refl

many_step : {A : Type 0} (ts : List Terminal) (p : List Lexeme → Read A) (m k : ℕ) (xs : List Lexeme) (x : A) (mid : List Lexeme) (y : Read (List A)) → m ≡ suc k → begins ts xs ≡ true → p xs ≡ Ok (x, mid) → read_many (begins ts) p k mid ≡ y → read_many (begins ts) p m xs ≡ (y >>= λ ys. Ok (x ∷ ys.0, ys.1))
many_step ts p m k xs x mid y e b f g = rw (e, b, f, g) refl

many_fault : {A : Type 0} (ts : List Terminal) (p : List Lexeme → Read A) (m k : ℕ) (xs : List Lexeme) (d : Stop) → m ≡ suc k → begins ts xs ≡ true → p xs ≡ Err d → read_many (begins ts) p m xs ≡ Err d
many_fault ts p m k xs d e b f = rw (e, b, f) refl

pub is_nil : (ls : List Lexeme) → length ls ≤ 0 → ls ≡ []
is_nil [] h = refl
is_nil (l ∷ ls) h = absurd (omega arith)

one_more : (ts : List Terminal) (m : ℕ) (r : List Lexeme) → begins ts r ≡ true → length r ≤ m → (k : ℕ) × (m ≡ suc k)
one_more ts zero r b le = let e = is_nil r le in absurd (let h : begins ts [] ≡ true = subst (λ (z : List Lexeme). begins ts z ≡ true) e b in cc)
one_more ts (suc k) r b le = (k, refl)

-- a rule that takes a token wherever it is read
abbrev pub Takes : {A : Type 0} → (List Lexeme → Read A) → Type 0
Takes {A} p = (ls : List Lexeme) (a : A) (mid : List Lexeme) → p ls ≡ Ok (a, mid) → length mid < length ls

many_steady : {A : Type 0} (ts : List Terminal) (p : List Lexeme → Read A) → IsSteady p → Takes p → (n : ℕ) (ls : List Lexeme) (x : Read (List A)) → length ls ≤ n → read_many (begins ts) p n ls ≡ x → is_cut x ≡ false → ManySteady (read_many (begins ts) p) ls x
many_steady {A} ts p sp tp zero ls x le e n =
    let h = is_nil ls le in
    let b : begins ts ls ≡ false = ap (begins ts) h in
    subst (ManySteady (read_many (begins ts) p) ls) e (record { front = []; parts = refl; short = tt; again = λ m r k l. many_stops ts p m r (sym (begins-same ts ls r k) ∙ b) })
many_steady {A} ts p sp tp (suc n) ls x le e cut = at_start (λ mid y a b c. many_steady ts p sp tp n mid y a b c) (bit (begins ts ls))
  where
    at_rest : ((mid : List Lexeme) (y : Read (List A)) → length mid ≤ n → read_many (begins ts) p n mid ≡ y → is_cut y ≡ false → ManySteady (read_many (begins ts) p) mid y) → begins ts ls ≡ true → (a : A × List Lexeme) → p ls ≡ Ok a → (y : Read (List A)) → read_many (begins ts) p n a.1 ≡ y → ManySteady (read_many (begins ts) p) ls x
    at_rest ih b a e1 (Ok c) e2 =
        let h : Ok (a.0 ∷ c.0, c.1) ≡ x = rw (b, e1, e2) at e in
        let s1 = sp ls (Ok a) e1 refl in
        let t1 = tp ls a.0 a.1 e1 in
        let s2 = ih a.1 (Ok c) (omega arith) e2 refl in
        subst (ManySteady (read_many (begins ts) p) ls) h (record {
          front = s1.front ++ s2.front;
          parts = s1.parts ∙ ap (λ (z : List Lexeme). s1.front ++ z) s2.parts ∙ sym (append_assoc s1.front s2.front c.1);
          short = Short-append s1.front s2.front s1.short s2.short;
          again = λ m r k l.
              let same2 : SameHead a.1 (s2.front ++ r) = subst (λ (z : List Lexeme). SameHead z (s2.front ++ r)) (sym s2.parts) (SameHead-front s2.front c.1 r k) in
              let f1 = s1.again (s2.front ++ r) same2 in
              let same1 : SameHead ls (s1.front ++ (s2.front ++ r)) = subst (λ (z : List Lexeme). SameHead z (s1.front ++ (s2.front ++ r))) (sym s1.parts) (SameHead-front s1.front a.1 (s2.front ++ r) same2) in
              let b1 : begins ts (s1.front ++ (s2.front ++ r)) ≡ true = sym (begins-same ts ls (s1.front ++ (s2.front ++ r)) same1) ∙ b in
              let l1 : length (s1.front ++ (s2.front ++ r)) ≤ m = rw append_assoc at l in
              let mk = one_more ts m (s1.front ++ (s2.front ++ r)) b1 l1 in
              let u : length (s2.front ++ r) < length (s1.front ++ (s2.front ++ r)) = tp (s1.front ++ (s2.front ++ r)) a.0 (s2.front ++ r) f1 in
              let f2 = s2.again mk.0 r k (let w = mk.1 in omega arith) in
              ap (read_many (begins ts) p m) (append_assoc s1.front s2.front r) ∙ many_step ts p m mk.0 (s1.front ++ (s2.front ++ r)) a.0 (s2.front ++ r) (Ok (c.0, r)) mk.1 b1 f1 f2;
        })
    at_rest ih b a e1 (Err d) e2 =
        let h : Err d ≡ x = rw (b, e1, e2) at e in
        let s1 = sp ls (Ok a) e1 refl in
        let t1 = tp ls a.0 a.1 e1 in
        let s2 = ih a.1 (Err d) (omega arith) e2 (ap is_cut h ∙ cut) in
        subst (ManySteady (read_many (begins ts) p) ls) h (record {
          front = s1.front ++ s2.front;
          parts = s1.parts ∙ ap (λ (z : List Lexeme). s1.front ++ z) s2.parts ∙ sym (append_assoc s1.front s2.front d.rest);
          short = Short-append s1.front s2.front s1.short s2.short;
          again = λ m r k l.
              let same2 : SameHead a.1 (s2.front ++ r) = subst (λ (z : List Lexeme). SameHead z (s2.front ++ r)) (sym s2.parts) (SameHead-front s2.front d.rest r k) in
              let f1 = s1.again (s2.front ++ r) same2 in
              let same1 : SameHead ls (s1.front ++ (s2.front ++ r)) = subst (λ (z : List Lexeme). SameHead z (s1.front ++ (s2.front ++ r))) (sym s1.parts) (SameHead-front s1.front a.1 (s2.front ++ r) same2) in
              let b1 : begins ts (s1.front ++ (s2.front ++ r)) ≡ true = sym (begins-same ts ls (s1.front ++ (s2.front ++ r)) same1) ∙ b in
              let l1 : length (s1.front ++ (s2.front ++ r)) ≤ m = rw append_assoc at l in
              let mk = one_more ts m (s1.front ++ (s2.front ++ r)) b1 l1 in
              let u : length (s2.front ++ r) < length (s1.front ++ (s2.front ++ r)) = tp (s1.front ++ (s2.front ++ r)) a.0 (s2.front ++ r) f1 in
              let f2 = s2.again mk.0 r k (let w = mk.1 in omega arith) in
              ap (read_many (begins ts) p m) (append_assoc s1.front s2.front r) ∙ many_step ts p m mk.0 (s1.front ++ (s2.front ++ r)) a.0 (s2.front ++ r) (Err (record { rest = r; long = d.long })) mk.1 b1 f1 f2;
        })

    at_item : ((mid : List Lexeme) (y : Read (List A)) → length mid ≤ n → read_many (begins ts) p n mid ≡ y → is_cut y ≡ false → ManySteady (read_many (begins ts) p) mid y) → begins ts ls ≡ true → (y : Read A) → p ls ≡ y → ManySteady (read_many (begins ts) p) ls x
    at_item ih b (Ok a) e1 = at_rest ih b a e1 (read_many (begins ts) p n a.1) refl
    at_item ih b (Err d) e1 =
        let h : Err d ≡ x = rw (b, e1) at e in
        let s1 = sp ls (Err d) e1 (ap is_cut h ∙ cut) in
        subst (ManySteady (read_many (begins ts) p) ls) h (record {
          front = s1.front;
          parts = s1.parts;
          short = s1.short;
          again = λ m r k l.
              let f1 = s1.again r k in
              let same1 : SameHead ls (s1.front ++ r) = subst (λ (z : List Lexeme). SameHead z (s1.front ++ r)) (sym s1.parts) (SameHead-front s1.front d.rest r k) in
              let b1 : begins ts (s1.front ++ r) ≡ true = sym (begins-same ts ls (s1.front ++ r) same1) ∙ b in
              let mk = one_more ts m (s1.front ++ r) b1 l in
              many_fault ts p m mk.0 (s1.front ++ r) (record { rest = r; long = d.long }) mk.1 b1 f1;
        })

    at_start : ((mid : List Lexeme) (y : Read (List A)) → length mid ≤ n → read_many (begins ts) p n mid ≡ y → is_cut y ≡ false → ManySteady (read_many (begins ts) p) mid y) → (begins ts ls ≡ true) ⊎ (begins ts ls ≡ false) → ManySteady (read_many (begins ts) p) ls x
    at_start ih (inl b) = at_item ih b (p ls) refl
    at_start ih (inr b) =
        let h : Ok ([], ls) ≡ x = rw b at e in
        subst (ManySteady (read_many (begins ts) p) ls) h (record { front = []; parts = refl; short = tt; again = λ m r k l. many_stops ts p m r (sym (begins-same ts ls r k) ∙ b) })

pub takes_one : {A : Type 0} (g : Grammar A) → null g ≡ false → Takes (read g)
takes_one g nn ls a mid e = (shrinks g ls mid a (sound g ls a mid e)).lt nn

pub steady : {A : Type 0} (g : Grammar A) → one_token_decides g ≡ true → IsSteady (read g)
steady (one t) ok ls x e n = one_steady t ls x e n
steady (nothing v) ok ls x e n = subst (Steady (read (nothing v)) ls) e (record { front = []; parts = refl; short = tt; again = λ r k. refl })
steady (seq g h) ok ls x e n =
    let o1 = and_true (one_token_decides g) (one_token_decides h && all_apart (extends_by g) (first h)) ok in
    let o2 = and_true (one_token_decides h) (all_apart (extends_by g) (first h)) o1.1 in
    both_steady (read g) (read h) (λ a b c d. steady g o1.0 a b c d) (λ a b c d. steady h o2.0 a b c d) ls x e n
steady (means f g) ok ls x e n = means_steady f (read g) (λ a b c d. steady g ok a b c d) ls x e n
steady (alt g h) ok ls x e n =
    let o1 = and_true (one_token_decides g) (one_token_decides h && (not (null g) && all_apart (first g) (first h))) ok in
    let o2 = and_true (one_token_decides h) (not (null g) && all_apart (first g) (first h)) o1.1 in
    alt_steady (first g) (read g) (read h) (λ a b c d. steady g o1.0 a b c d) (λ a b c d. steady h o2.0 a b c d) ls x e n
steady (many g) ok ls x e n =
    let o1 = and_true (one_token_decides g) (not (null g) && all_apart (extends_by g) (first g)) ok in
    let o2 = and_true (not (null g)) (all_apart (extends_by g) (first g)) o1.1 in
    let s = many_steady (first g) (read g) (λ a b c d. steady g o1.0 a b c d) (takes_one g (not_true (null g) o2.0)) (length ls) ls x (omega arith) e n in
    record { front = s.front; parts = s.parts; short = s.short; again = λ r k. s.again (length (s.front ++ r)) r k (omega arith) }
steady (if_next t) ok ls x e n = next_steady t ls x e n
