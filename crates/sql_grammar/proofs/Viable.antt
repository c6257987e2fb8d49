-- Where reading stops, the tokens before can still go on to what the grammar says.
use Rattle.std.proofs.Common.{◌≡◌, ℕ, zero, suc, Bool, true, false, cond, not, ◌&&◌, List, [], ◌∷◌, ◌++◌, length, Result, Ok, Err, refl, sym, ap, subst, ◌∙◌, ◌⊎◌, inl, inr, append_assoc, arith}
use Rattle.sql_grammar.specs.Lexemes.{Lexeme, Terminal, content, takes, takes_some, begins, is_long, Short}
use Rattle.sql_grammar.specs.Grammar.{Grammar, one, nothing, seq, means, alt, many, if_next, Says, SaysMany}
use Rattle.sql_grammar.specs.Reading.{Stop, ◌>>=◌, null, first, read_one, read_many, read_next, read}
use Rattle.sql_grammar.specs.Checks.{all_apart, extends_by, one_token_decides, example_of, example, excludes, none_first, has_examples}
use Rattle.sql_grammar.proofs.Bits.{chosen, bit, or_false, and_true, not_true, ok_is, bind_ok, begins-append}
use Rattle.sql_grammar.proofs.Reader.{sound, shrinks, Shrinks}
use Rattle.sql_grammar.proofs.Steady.{Read, SameHead, Steady, Short-append, steady}

-- the next tokens are none of these
abbrev pub Quiet : List Terminal → List Lexeme → Type 0
Quiet ts ls = begins ts ls ≡ false

Quiet-left : (ss ts : List Terminal) (ls : List Lexeme) → Quiet (ss ++ ts) ls → Quiet ss ls
Quiet-left ss ts ls q = (or_false (begins ss ls) (begins ts ls) (sym (begins-append ss ts ls) ∙ q)).0

Quiet-right : (ss ts : List Terminal) (ls : List Lexeme) → Quiet (ss ++ ts) ls → Quiet ts ls
Quiet-right ss ts ls q = (or_false (begins ss ls) (begins ts ls) (sym (begins-append ss ts ls) ∙ q)).1

Quiet-if : (b : Bool) (ts : List Terminal) (ls : List Lexeme) → b ≡ true → Quiet (cond b ts []) ls → Quiet ts ls
Quiet-if true ts ls e q = q
Quiet-if false ts ls e q = absurd cc

Quiet-shown : (ts us : List Terminal) (n : Bool) (ls c : List Lexeme) → none_first ts ls n ≡ true → Quiet (us ++ cond n ts []) c → Quiet ts (ls ++ c)
Quiet-shown ts us n [] c q k = Quiet-if n ts c q (Quiet-right us (cond n ts []) c k)
Quiet-shown ts us n (l ∷ ls) c q k = not_true (takes_some ts l) q

-- the tokens is in the grammar
pub record Shows {A : Type 0} (g : Grammar A) (c : List Lexeme) : Type 0 where
  pub value : A
  pub says : Says g (example g ++ c) c value

pub shows : {A : Type 0} (g : Grammar A) → has_examples g ≡ true → (c : List Lexeme) → Quiet (excludes g) c → Shows g c
shows (one t) ok c q = record { value = content (example_of t); says = (example_of t, ok, refl, refl) }
shows (nothing x) ok c q = record { value = x; says = (refl, refl) }
shows (seq g h) ok c q =
    let o1 = and_true (has_examples g) (has_examples h && none_first (excludes g) (example h) (null h)) ok in
    let o2 = and_true (has_examples h) (none_first (excludes g) (example h) (null h)) o1.1 in
    let b = shows h o2.0 c (Quiet-left (excludes h) (cond (null h) (excludes g) []) c q) in
    let a = shows g o1.0 (example h ++ c) (Quiet-shown (excludes g) (excludes h) (null h) (example h) c o2.1 q) in
    record { value = (a.value, b.value); says = rw append_assoc (example h ++ c, a.says, b.says) }
shows (means f g) ok c q = let a = shows g ok c q in record { value = f a.value; says = (a.value, a.says, refl) }
shows (alt g h) ok c q =
    let o1 = and_true (has_examples g) (has_examples h) ok in
    let b = shows h o1.1 c (Quiet-right (excludes g) (excludes h) c q) in
    record { value = b.value; says = inr b.says }
shows (many g) ok c q = record { value = []; says = refl }
shows (if_next t) ok c q = record { value = false; says = inr (q, refl, refl) }

-- ---- what is read may be followed by other tokens

pub record Retails {A : Type 0} (kind : List Lexeme → List Lexeme → A → Type 0) (ts : List Terminal) (ls rest : List Lexeme) (v : A) : Type 0 where
  pub front : List Lexeme
  pub parts : ls ≡ front ++ rest
  pub short : Short front
  pub says : (r : List Lexeme) → Quiet ts r → kind (front ++ r) r v

one_retails : (t : Terminal) (ls rest : List Lexeme) (v : List ℕ) → read_one t ls ≡ Ok (v, rest) → Retails (Says (one t)) [] ls rest v
one_retails t [] rest v e = absurd cc
one_retails t (l ∷ ls) rest v e =
    elim (chosen (takes t l) (cond (is_long l) (Err (record { rest = l ∷ ls; long = true })) (Ok (content l, ls))) (Err (record { rest = l ∷ ls; long = false })) (Ok (v, rest)) e) [
      | inl p ↦ elim (chosen (is_long l) (Err (record { rest = l ∷ ls; long = true })) (Ok (content l, ls)) (Ok (v, rest)) p.1) [
        | inl q ↦ absurd (let h = q.1 in cc)
        | inr q ↦ let h = ok_is (content l, ls) (v, rest) q.1 in
            record { front = l ∷ []; parts = ap (λ (x : List ℕ × List Lexeme). l ∷ x.1) h; short = (q.0, tt); says = λ r k. (l, p.0, refl, sym (ap (λ (x : List ℕ × List Lexeme). x.0) h)) }
      ]
      | inr p ↦ absurd (let h = p.1 in cc)
    ]

next_retails : (t : Terminal) (ls rest : List Lexeme) (v : Bool) → read_next t ls ≡ Ok (v, rest) → Retails (Says (if_next t)) (t ∷ []) ls rest v
next_retails t [] rest v e =
    let h = ok_is (false, []) (v, rest) e in
    record { front = []; parts = ap (λ (x : Bool × List Lexeme). x.1) h; short = tt; says = λ r q. inr (q, refl, sym (ap (λ (x : Bool × List Lexeme). x.0) h)) }
next_retails t (l ∷ ls) rest v e =
    elim (chosen (takes t l) (cond (is_long l) (Err (record { rest = l ∷ ls; long = true })) (Ok (true, ls))) (Ok (false, l ∷ ls)) (Ok (v, rest)) e) [
      | inl p ↦ elim (chosen (is_long l) (Err (record { rest = l ∷ ls; long = true })) (Ok (true, ls)) (Ok (v, rest)) p.1) [
        | inl q ↦ absurd (let h = q.1 in cc)
        | inr q ↦ let h = ok_is (true, ls) (v, rest) q.1 in
            record { front = l ∷ []; parts = ap (λ (x : Bool × List Lexeme). l ∷ x.1) h; short = (q.0, tt); says = λ r k. inl (l, p.0, refl, sym (ap (λ (x : Bool × List Lexeme). x.0) h)) }
      ]
      | inr p ↦ let h = ok_is (false, l ∷ ls) (v, rest) p.1 in
          record { front = []; parts = ap (λ (x : Bool × List Lexeme). x.1) h; short = tt; says = λ r q. inr (q, refl, sym (ap (λ (x : Bool × List Lexeme). x.0) h)) }
    ]

-- a first part before a second that took nothing, or took tokens
joined : {A B : Type 0} (g : Grammar A) (kind : List Lexeme → List Lexeme → B → Type 0) (us ts : List Terminal) (ls mid rest : List Lexeme) (x : A) (y : B)
    → Steady (read g) ls (Ok (x, mid)) → Retails (Says g) us ls mid x → Retails kind ts mid rest y → ((r : List Lexeme) → Quiet ts r → mid ≡ rest → Quiet us r)
    → Retails (λ before after (v : A × B). (middle : List Lexeme) × Says g before middle v.0 × kind middle after v.1) ts ls rest (x, y)
joined {A} {B} g kind us ts ls mid rest x y st a b qs = go b.front b.parts b.short b.says
  where
    go : (f : List Lexeme) → mid ≡ f ++ rest → Short f → ((r : List Lexeme) → Quiet ts r → kind (f ++ r) r y) → Retails (λ before after (v : A × B). (middle : List Lexeme) × Says g before middle v.0 × kind middle after v.1) ts ls rest (x, y)
    go [] e sh says = record {
      front = a.front;
      parts = a.parts ∙ ap (λ (z : List Lexeme). a.front ++ z) e;
      short = a.short;
      says = λ r q. (r, a.says r (qs r q e), says r q);
    }
    go (l ∷ f) e sh says = record {
      front = st.front ++ l ∷ f;
      parts = st.parts ∙ ap (λ (z : List Lexeme). st.front ++ z) e ∙ sym (append_assoc st.front (l ∷ f) rest);
      short = Short-append st.front (l ∷ f) st.short sh;
      says = λ r q.
          let same : SameHead mid ((l ∷ f) ++ r) = subst (λ (z : List Lexeme). SameHead z ((l ∷ f) ++ r)) (sym e) (λ t. refl) in
          let h = sound g (st.front ++ ((l ∷ f) ++ r)) x ((l ∷ f) ++ r) (st.again ((l ∷ f) ++ r) same) in
          rw append_assoc ((l ∷ f) ++ r, h, says r q);
    }

many_retails : {A : Type 0} (g : Grammar A) (ok : one_token_decides g ≡ true) (ih : (ls rest : List Lexeme) (v : A) → read g ls ≡ Ok (v, rest) → Retails (Says g) (excludes g) ls rest v) (n : ℕ) (ls rest : List Lexeme) (vs : List A)
    → read_many (begins (first g)) (read g) n ls ≡ Ok (vs, rest) → Retails (SaysMany (Says g)) (excludes g) ls rest vs
many_retails {A} g ok ih zero ls rest vs e =
    subst (λ (p : List A × List Lexeme). Retails (SaysMany (Says g)) (excludes g) ls p.1 p.0) (ok_is ([], ls) (vs, rest) e) (record { front = []; parts = refl; short = tt; says = λ r q. refl })
many_retails {A} g ok ih (suc n) ls rest vs e =
    elim (chosen (begins (first g) ls) (read g ls >>= λ x. read_many (begins (first g)) (read g) n x.1 >>= λ xs. Ok (x.0 ∷ xs.0, xs.1)) (Ok ([], ls)) (Ok (vs, rest)) e) [
      | inl p ↦
          let b = bind_ok (read g ls) (λ x. read_many (begins (first g)) (read g) n x.1 >>= λ xs. Ok (x.0 ∷ xs.0, xs.1)) (vs, rest) p.1 in
          let c = bind_ok (read_many (begins (first g)) (read g) n b.0.1) (λ xs. Ok (b.0.0 ∷ xs.0, xs.1)) (vs, rest) b.2 in
          let j = joined g (SaysMany (Says g)) (excludes g) (excludes g) ls b.0.1 c.0.1 b.0.0 c.0.0 (steady g ok ls (Ok b.0) b.1 refl) (ih ls b.0.1 b.0.0 b.1) (many_retails g ok ih n b.0.1 c.0.1 c.0.0 c.1) (λ r q k. q) in
          subst (λ (q : List A × List Lexeme). Retails (SaysMany (Says g)) (excludes g) ls q.1 q.0) (ok_is (b.0.0 ∷ c.0.0, c.0.1) (vs, rest) c.2)
          (record { front = j.front; parts = j.parts; short = j.short; says = j.says })
      | inr p ↦ subst (λ (q : List A × List Lexeme). Retails (SaysMany (Says g)) (excludes g) ls q.1 q.0) (ok_is ([], ls) (vs, rest) p.1) (record { front = []; parts = refl; short = tt; says = λ r q. refl })
    ]

pub retails : {A : Type 0} (g : Grammar A) → one_token_decides g ≡ true → (ls rest : List Lexeme) (v : A) → read g ls ≡ Ok (v, rest) → Retails (Says g) (excludes g) ls rest v
retails (one t) ok ls rest v e = one_retails t ls rest v e
retails {A} (nothing x) ok ls rest v e =
    subst (λ (q : A × List Lexeme). Retails (Says (nothing x)) [] ls q.1 q.0) (ok_is (x, ls) (v, rest) e) (record { front = []; parts = refl; short = tt; says = λ r q. (refl, refl) })
retails (seq {A} {B} g h) ok ls rest v e =
    let o1 = and_true (one_token_decides g) (one_token_decides h && all_apart (extends_by g) (first h)) ok in
    let o2 = and_true (one_token_decides h) (all_apart (extends_by g) (first h)) o1.1 in
    let b = bind_ok (read g ls) (λ x. read h x.1 >>= λ y. Ok ((x.0, y.0), y.1)) (v, rest) e in
    let c = bind_ok (read h b.0.1) (λ y. Ok ((b.0.0, y.0), y.1)) (v, rest) b.2 in
    let r2 = retails h o2.0 b.0.1 c.0.1 c.0.0 c.1 in
    let r2b : Retails (Says h) (excludes h ++ cond (null h) (excludes g) []) b.0.1 c.0.1 c.0.0 = record { front = r2.front; parts = r2.parts; short = r2.short; says = λ r q. r2.says r (Quiet-left (excludes h) (cond (null h) (excludes g) []) r q) } in
    let j = joined g (Says h) (excludes g) (excludes h ++ cond (null h) (excludes g) []) ls b.0.1 c.0.1 b.0.0 c.0.0 (steady g o1.0 ls (Ok b.0) b.1 refl) (retails g o1.0 ls b.0.1 b.0.0 b.1) r2b
    (λ r q k. Quiet-if (null h) (excludes g) r (empty (bit (null h)) (shrinks h b.0.1 c.0.1 c.0.0 (sound h b.0.1 c.0.0 c.0.1 c.1)) k) (Quiet-right (excludes h) (cond (null h) (excludes g) []) r q)) in
    subst (λ (q : (A × B) × List Lexeme). Retails (Says (seq g h)) (excludes (seq g h)) ls q.1 q.0) (ok_is ((b.0.0, c.0.0), c.0.1) (v, rest) c.2)
    (record { front = j.front; parts = j.parts; short = j.short; says = j.says })
  where
    empty : {mid after : List Lexeme} → (null h ≡ true) ⊎ (null h ≡ false) → Shrinks (null h) mid after → mid ≡ after → null h ≡ true
    empty (inl y) s k = y
    empty (inr y) s k = absurd (let a = s.lt y in let m = ap length k in omega arith)
retails (means {A} {B} f g) ok ls rest v e =
    let b = bind_ok (read g ls) (λ x. Ok (f x.0, x.1)) (v, rest) e in
    let a = retails g ok ls b.0.1 b.0.0 b.1 in
    subst (λ (q : B × List Lexeme). Retails (Says (means f g)) (excludes g) ls q.1 q.0) (ok_is (f b.0.0, b.0.1) (v, rest) b.2)
    (record { front = a.front; parts = a.parts; short = a.short; says = λ r q. (b.0.0, a.says r q, refl) })
retails (alt g h) ok ls rest v e =
    let o1 = and_true (one_token_decides g) (one_token_decides h && (not (null g) && all_apart (first g) (first h))) ok in
    let o2 = and_true (one_token_decides h) (not (null g) && all_apart (first g) (first h)) o1.1 in
    elim (chosen (begins (first g) ls) (read g ls) (read h ls) (Ok (v, rest)) e) [
      | inl p ↦ let a = retails g o1.0 ls rest v p.1 in record { front = a.front; parts = a.parts; short = a.short; says = λ r q. inl (a.says r (Quiet-left (excludes g) (excludes h) r q)) }
      | inr p ↦ let a = retails h o2.0 ls rest v p.1 in record { front = a.front; parts = a.parts; short = a.short; says = λ r q. inr (a.says r (Quiet-right (excludes g) (excludes h) r q)) }
    ]
retails (many g) ok ls rest v e =
    let o1 = and_true (one_token_decides g) (not (null g) && all_apart (extends_by g) (first g)) ok in
    many_retails g o1.0 (λ a b c d. retails g o1.0 a b c d) (length ls) ls rest v e
retails (if_next t) ok ls rest v e = next_retails t ls rest v e

-- ---- where reading stops

-- the name that is too long, if it is one
abbrev pub kept : Bool → List Lexeme → List Lexeme
kept true (l ∷ ls) = l ∷ []
kept _ ls = []

pub record Viable {A : Type 0} (kind : List Lexeme → List Lexeme → A → Type 0) (ls : List Lexeme) (s : Stop) (c : List Lexeme) : Type 0 where
  pub front : List Lexeme
  pub parts : ls ≡ front ++ s.rest
  pub short : Short front
  pub more : List Lexeme
  pub value : A
  pub says : kind (front ++ (kept s.long s.rest ++ (more ++ c))) c value

kept_head : (b : Bool) (rest : List Lexeme) (l : Lexeme) (k : List Lexeme) → kept b rest ≡ l ∷ k → (ls : List Lexeme) × (rest ≡ l ∷ ls)
kept_head true [] l k e = absurd cc
kept_head true (m ∷ ms) l k e = (ms, ap (λ (z : List Lexeme). z ++ ms) (ap (λ (z : List Lexeme). z) (first_of_two m l k e)))
  where
    first_of_two : (m l : Lexeme) (k : List Lexeme) → (m ∷ []) ≡ l ∷ k → (m ∷ []) ≡ (l ∷ [])
    first_of_two m l k e = cc
kept_head false rest l k e = absurd cc

abbrev stopped : {A : Type 0} → Stop → Result A Stop
stopped s = Err s

stop_is : {A : Type 0} (s d : Stop) → stopped {A = A} s ≡ stopped d → s ≡ d
stop_is s d e = cc

missing : (t : Terminal) (ls c : List Lexeme) → takes t (example_of t) ≡ true → Viable (Says (one t)) ls (record { rest = ls; long = false }) c
missing t ls c ok = record { front = []; parts = refl; short = tt; more = example_of t ∷ []; value = content (example_of t); says = (example_of t, ok, refl, refl) }

one_viable : (t : Terminal) (ls : List Lexeme) (s : Stop) (c : List Lexeme) → takes t (example_of t) ≡ true → read_one t ls ≡ Err s → Viable (Says (one t)) ls s c
one_viable t [] s c ok e = subst (λ (d : Stop). Viable (Says (one t)) [] d c) (stop_is {A = List ℕ × List Lexeme} (record { rest = []; long = false }) s e) (missing t [] c ok)
one_viable t (l ∷ ls) s c ok e =
    elim (chosen (takes t l) (cond (is_long l) (Err (record { rest = l ∷ ls; long = true })) (Ok (content l, ls))) (Err (record { rest = l ∷ ls; long = false })) (Err s) e) [
      | inl p ↦ elim (chosen (is_long l) (Err (record { rest = l ∷ ls; long = true })) (Ok (content l, ls)) (Err s) p.1) [
        | inl q ↦ subst (λ (d : Stop). Viable (Says (one t)) (l ∷ ls) d c) (stop_is {A = List ℕ × List Lexeme} (record { rest = l ∷ ls; long = true }) s q.1)
            (record { front = []; parts = refl; short = tt; more = []; value = content l; says = (l, p.0, refl, refl) })
        | inr q ↦ absurd (let h = q.1 in cc)
      ]
      | inr p ↦ subst (λ (d : Stop). Viable (Says (one t)) (l ∷ ls) d c) (stop_is {A = List ℕ × List Lexeme} (record { rest = l ∷ ls; long = false }) s p.1) (missing t (l ∷ ls) c ok)
    ]

next_viable : (t : Terminal) (ls : List Lexeme) (s : Stop) (c : List Lexeme) → read_next t ls ≡ Err s → Viable (Says (if_next t)) ls s c
next_viable t [] s c e = absurd cc
next_viable t (l ∷ ls) s c e =
    elim (chosen (takes t l) (cond (is_long l) (Err (record { rest = l ∷ ls; long = true })) (Ok (true, ls))) (Ok (false, l ∷ ls)) (Err s) e) [
      | inl p ↦ elim (chosen (is_long l) (Err (record { rest = l ∷ ls; long = true })) (Ok (true, ls)) (Err s) p.1) [
        | inl q ↦ subst (λ (d : Stop). Viable (Says (if_next t)) (l ∷ ls) d c) (stop_is {A = Bool × List Lexeme} (record { rest = l ∷ ls; long = true }) s q.1)
            (record { front = []; parts = refl; short = tt; more = []; value = true; says = inl (l, p.0, refl, refl) })
        | inr q ↦ absurd (let h = q.1 in cc)
      ]
      | inr p ↦ absurd (let h = p.1 in cc)
    ]

-- a first part that was read, and a second in which reading stops; or the first alone, with what may then follow
abbrev Pair : {A B : Type 0} → Grammar A → (List Lexeme → List Lexeme → B → Type 0) → List Lexeme → List Lexeme → A × B → Type 0
Pair g kind before after v = (middle : List Lexeme) × Says g before middle v.0 × kind middle after v.1

stops_later : {A B : Type 0} (g : Grammar A) (kind : List Lexeme → List Lexeme → B → Type 0) (us : List Terminal) (ls mid : List Lexeme) (x : A) (s : Stop) (c : List Lexeme)
    → Steady (read g) ls (Ok (x, mid)) → Retails (Says g) us ls mid x → Viable kind mid s c → (tokens : List Lexeme) (w : B) → kind (tokens ++ c) c w → Quiet us (tokens ++ c)
    → Viable (Pair g kind) ls s c
stops_later {A} {B} g kind us ls mid x s c st a v tokens w shown_w q = go v.front (kept s.long s.rest) v.parts refl v.short v.says
  where
    go : (f k : List Lexeme) → mid ≡ f ++ s.rest → kept s.long s.rest ≡ k → Short f → kind (f ++ (k ++ (v.more ++ c))) c v.value → Viable (Pair g kind) ls s c
    go [] [] e ek sh says =
        let e1 : ls ≡ a.front ++ s.rest = a.parts ∙ ap (λ (z : List Lexeme). a.front ++ z) e in
        record { front = a.front; parts = e1; short = a.short; more = tokens; value = (x, w); says = rw ek (tokens ++ c, a.says (tokens ++ c) q, shown_w) }
    go [] (l ∷ k) e ek sh says =
        let h = kept_head s.long s.rest l k ek in
        let same : SameHead mid ((l ∷ k) ++ (v.more ++ c)) = subst (λ (z : List Lexeme). SameHead z ((l ∷ k) ++ (v.more ++ c))) (sym (e ∙ h.1)) (λ t. refl) in
        let p = sound g (st.front ++ ((l ∷ k) ++ (v.more ++ c))) x ((l ∷ k) ++ (v.more ++ c)) (st.again ((l ∷ k) ++ (v.more ++ c)) same) in
        let e1 : ls ≡ st.front ++ s.rest = st.parts ∙ ap (λ (z : List Lexeme). st.front ++ z) e in
        record { front = st.front; parts = e1; short = st.short; more = v.more; value = (x, v.value); says = rw ek ((l ∷ k) ++ (v.more ++ c), p, says) }
    go (l ∷ f) k e ek sh says =
        let tail : List Lexeme = (l ∷ f) ++ (k ++ (v.more ++ c)) in
        let same : SameHead mid tail = subst (λ (z : List Lexeme). SameHead z tail) (sym e) (λ t. refl) in
        let p = sound g (st.front ++ tail) x tail (st.again tail same) in
        record {
          front = st.front ++ l ∷ f;
          parts = st.parts ∙ ap (λ (z : List Lexeme). st.front ++ z) e ∙ sym (append_assoc st.front (l ∷ f) s.rest);
          short = Short-append st.front (l ∷ f) st.short sh;
          more = v.more;
          value = (x, v.value);
          says = rw (ek, append_assoc st.front (l ∷ f) (k ++ (v.more ++ c))) (tail, p, says);
        }

stops_at_first : {A B : Type 0} (g : Grammar A) (kind : List Lexeme → List Lexeme → B → Type 0) (ls : List Lexeme) (s : Stop) (c tokens : List Lexeme) (w : B)
    → Viable (Says g) ls s (tokens ++ c) → kind (tokens ++ c) c w → Viable (Pair g kind) ls s c
stops_at_first g kind ls s c tokens w v shown_w =
    record { front = v.front; parts = v.parts; short = v.short; more = v.more ++ tokens; value = (v.value, w); says = rw (append_assoc v.more tokens c) (tokens ++ c, v.says, shown_w) }

pub bind_err : {A B : Type 0} (r : Read A) (f : A × List Lexeme → Read B) (s : Stop) → (r >>= f) ≡ Err s → (r ≡ Err s) ⊎ ((a : A × List Lexeme) × (r ≡ Ok a) × (f a ≡ Err s))
bind_err (Ok a) f s e = inr (a, refl, e)
bind_err (Err d) f s e = inl cc

many_viable : {A : Type 0} (g : Grammar A) (ok : one_token_decides g ≡ true) (ih : (ls : List Lexeme) (s : Stop) (c : List Lexeme) → Quiet (excludes g) c → read g ls ≡ Err s → Viable (Says g) ls s c) (n : ℕ) (ls : List Lexeme) (s : Stop) (c : List Lexeme) → Quiet (excludes g) c
    → read_many (begins (first g)) (read g) n ls ≡ Err s → Viable (SaysMany (Says g)) ls s c
many_viable {A} g ok ih zero ls s c q e = absurd cc
many_viable {A} g ok ih (suc n) ls s c q e =
    elim (chosen (begins (first g) ls) (read g ls >>= λ x. read_many (begins (first g)) (read g) n x.1 >>= λ xs. Ok (x.0 ∷ xs.0, xs.1)) (Ok ([], ls)) (Err s) e) [
      | inl p ↦ elim (bind_err (read g ls) (λ x. read_many (begins (first g)) (read g) n x.1 >>= λ xs. Ok (x.0 ∷ xs.0, xs.1)) s p.1) [
        | inl h ↦ as_list (stops_at_first g (SaysMany (Says g)) ls s c [] [] (ih ls s c q h) refl)
        | inr h ↦ elim (bind_err (read_many (begins (first g)) (read g) n h.0.1) (λ xs. Ok (h.0.0 ∷ xs.0, xs.1)) s h.2) [
          | inl k ↦ as_list (stops_later g (SaysMany (Says g)) (excludes g) ls h.0.1 h.0.0 s c (steady g ok ls (Ok h.0) h.1 refl) (retails g ok ls h.0.1 h.0.0 h.1) (many_viable g ok ih n h.0.1 s c q k) [] [] refl q)
          | inr k ↦ absurd (let z = k.2 in cc)
        ]
      ]
      | inr p ↦ absurd (let z = p.1 in cc)
    ]
  where
    as_list : Viable (Pair g (SaysMany (Says g))) ls s c → Viable (SaysMany (Says g)) ls s c
    as_list v = record { front = v.front; parts = v.parts; short = v.short; more = v.more; value = v.value.0 ∷ v.value.1; says = v.says }

pub viable : {A : Type 0} (g : Grammar A) → one_token_decides g ≡ true → has_examples g ≡ true → (ls : List Lexeme) (s : Stop) (c : List Lexeme) → Quiet (excludes g) c → read g ls ≡ Err s → Viable (Says g) ls s c
viable (one t) ok al ls s c q e = one_viable t ls s c al e
viable (nothing x) ok al ls s c q e = absurd cc
viable (seq {A} {B} g h) ok al ls s c q e =
    let o1 = and_true (one_token_decides g) (one_token_decides h && all_apart (extends_by g) (first h)) ok in
    let o2 = and_true (one_token_decides h) (all_apart (extends_by g) (first h)) o1.1 in
    let a1 = and_true (has_examples g) (has_examples h && none_first (excludes g) (example h) (null h)) al in
    let a2 = and_true (has_examples h) (none_first (excludes g) (example h) (null h)) a1.1 in
    let q1 = Quiet-left (excludes h) (cond (null h) (excludes g) []) c q in
    let q2 = Quiet-shown (excludes g) (excludes h) (null h) (example h) c a2.1 q in
    let w = shows h a2.0 c q1 in
    elim (bind_err (read g ls) (λ x. read h x.1 >>= λ y. Ok ((x.0, y.0), y.1)) s e) [
      | inl p ↦ as_seq (stops_at_first g (Says h) ls s c (example h) w.value (viable g o1.0 a1.0 ls s (example h ++ c) q2 p) w.says)
      | inr p ↦ elim (bind_err (read h p.0.1) (λ y. Ok ((p.0.0, y.0), y.1)) s p.2) [
        | inl k ↦ as_seq (stops_later g (Says h) (excludes g) ls p.0.1 p.0.0 s c (steady g o1.0 ls (Ok p.0) p.1 refl) (retails g o1.0 ls p.0.1 p.0.0 p.1) (viable h o2.0 a2.0 p.0.1 s c q1 k) (example h) w.value w.says q2)
        | inr k ↦ absurd (let z = k.2 in cc)
      ]
    ]
  where
    as_seq : Viable (Pair g (Says h)) ls s c → Viable (Says (seq g h)) ls s c
    as_seq v = record { front = v.front; parts = v.parts; short = v.short; more = v.more; value = v.value; says = v.says }
viable (means f g) ok al ls s c q e =
    elim (bind_err (read g ls) (λ x. Ok (f x.0, x.1)) s e) [
      | inl p ↦ let v = viable g ok al ls s c q p in record { front = v.front; parts = v.parts; short = v.short; more = v.more; value = f v.value; says = (v.value, v.says, refl) }
      | inr p ↦ absurd (let z = p.2 in cc)
    ]
viable (alt g h) ok al ls s c q e =
    let o1 = and_true (one_token_decides g) (one_token_decides h && (not (null g) && all_apart (first g) (first h))) ok in
    let o2 = and_true (one_token_decides h) (not (null g) && all_apart (first g) (first h)) o1.1 in
    let a1 = and_true (has_examples g) (has_examples h) al in
    elim (chosen (begins (first g) ls) (read g ls) (read h ls) (Err s) e) [
      | inl p ↦ let v = viable g o1.0 a1.0 ls s c (Quiet-left (excludes g) (excludes h) c q) p.1 in record { front = v.front; parts = v.parts; short = v.short; more = v.more; value = v.value; says = inl v.says }
      | inr p ↦ let v = viable h o2.0 a1.1 ls s c (Quiet-right (excludes g) (excludes h) c q) p.1 in record { front = v.front; parts = v.parts; short = v.short; more = v.more; value = v.value; says = inr v.says }
    ]
viable (many g) ok al ls s c q e =
    let o1 = and_true (one_token_decides g) (not (null g) && all_apart (extends_by g) (first g)) ok in
    many_viable g o1.0 (λ a b d f h. viable g o1.0 al a b d f h) (length ls) ls s c q e
viable (if_next t) ok al ls s c q e = next_viable t ls s c e
