-- A rule again and again, as a loop reads it.
use Rattle.std.proofs.Common.{◌≡◌, ℕ, zero, suc, ◌<◌, ◌≤◌, true, false, cond, not, ◌&&◌, List, [], ◌∷◌, ◌++◌, length, Option, Some, None, Ok, Err, refl, sym, ap, ◌∙◌, append_assoc, arith}
use Rattle.std.proofs.lemmas.List.{append-nil}
use Rattle.sql_grammar.specs.Lexemes.{Lexeme, Terminal, begins}
use Rattle.sql_grammar.specs.Grammar.{Grammar, many}
use Rattle.sql_grammar.specs.Rules.{list_of, fold_of}
use Rattle.sql_grammar.specs.Reading.{Stop, ◌>>=◌, null, first, read_many, read}
use Rattle.sql_grammar.specs.Checks.{all_apart, extends_by, one_token_decides}
use Rattle.sql_grammar.specs.Answers.{Stops, with_front, without_values, folded}
use Rattle.sql_grammar.proofs.Bits.{and_true, not_true}
use Rattle.sql_grammar.proofs.Steady.{Read, Takes, takes_one, is_nil}

abbrev stays : {A : Type 0} → List Lexeme → Read (List A)
stays ls = Ok ([], ls)

abbrev again : {A : Type 0} → List Terminal → (List Lexeme → Read A) → ℕ → List Lexeme → Read (List A)
again ts p n ls = p ls >>= λ x. read_many (begins ts) p n x.1 >>= λ xs. Ok (x.0 ∷ xs.0, xs.1)

-- how deep reading may go doesn't matter, as long as it is enough
fuel : {A : Type 0} (ts : List Terminal) (p : List Lexeme → Read A) → Takes p → (n m : ℕ) (ls : List Lexeme) → length ls ≤ n → length ls ≤ m → read_many (begins ts) p n ls ≡ read_many (begins ts) p m ls
fuel ts p tp zero zero ls h k = refl
fuel ts p tp zero (suc m) ls h k = let b : begins ts ls ≡ false = ap (begins ts) (is_nil ls h) in rw b refl
fuel ts p tp (suc n) zero ls h k = let b : begins ts ls ≡ false = ap (begins ts) (is_nil ls k) in rw b refl
fuel {A} ts p tp (suc n) (suc m) ls h k = ap (λ (r : Read (List A)). cond (begins ts ls) r (stays ls)) (same (p ls) refl (λ a mid e. let t = tp ls a mid e in fuel ts p tp n m mid (omega arith) (omega arith)))
  where
    same : (r : Read A) → p ls ≡ r → ((a : A) (mid : List Lexeme) → p ls ≡ Ok (a, mid) → read_many (begins ts) p n mid ≡ read_many (begins ts) p m mid)
        → again ts p n ls ≡ again ts p m ls
    same (Ok a) e ih = let k = ih a.0 a.1 e in rw (e, k) refl
    same (Err s) e ih = rw e refl

-- a rule that may be repeated takes a token wherever it is read
pub takes_each : {A : Type 0} (g : Grammar A) → one_token_decides (many g) ≡ true → Takes (read g)
takes_each g ok =
    let o1 = and_true (one_token_decides g) (not (null g) && all_apart (extends_by g) (first g)) ok in
    let o2 = and_true (not (null g)) (all_apart (extends_by g) (first g)) o1.1 in
    takes_one g (not_true (null g) o2.0)

pub one_step : {A : Type 0} (g : Grammar A) (ls : List Lexeme) (x : A) (mid : List Lexeme) → one_token_decides (many g) ≡ true → begins (first g) ls ≡ true → read g ls ≡ Ok (x, mid)
    → read (many g) ls ≡ (read (many g) mid >>= λ xs. Ok (x ∷ xs.0, xs.1))
one_step g ls x mid ok b e = go (length ls) refl
  where
    go : (n : ℕ) → length ls ≡ n → read_many (begins (first g)) (read g) (length ls) ls ≡ (read_many (begins (first g)) (read g) (length mid) mid >>= λ xs. Ok (x ∷ xs.0, xs.1))
    go zero h = let t = takes_each g ok ls x mid e in absurd (omega arith)
    go (suc n) h =
        let t = takes_each g ok ls x mid e in
        let f = fuel (first g) (read g) (takes_each g ok) n (length mid) mid (omega arith) (omega arith) in
        rw (h, b, e, f) refl

pub one_fault : {A : Type 0} (g : Grammar A) (ls : List Lexeme) (s : Stop) → begins (first g) ls ≡ true → read g ls ≡ Err s → read (many g) ls ≡ Err s
one_fault g [] s b e = absurd cc
one_fault g (l ∷ ls) s b e = rw (b, e) refl

pub no_step : {A : Type 0} (g : Grammar A) (ls : List Lexeme) → begins (first g) ls ≡ false → read (many g) ls ≡ Ok ([], ls)
no_step g [] b = refl
no_step g (l ∷ ls) b = rw b refl

regroup : {A : Type 0} (front : List A) (x : A) (r : Read (List A)) → with_front front (r >>= λ xs. Ok (x ∷ xs.0, xs.1)) ≡ with_front (front ++ x ∷ []) r
regroup {A} front x (Ok y) = ap (λ (ns : List A). Ok (ns, y.1)) (simp append_assoc)
regroup front x (Err s) = refl

-- ---- with the values in front

pub goes_on : {A : Type 0} (g : Grammar A) (front : List A) (ls : List Lexeme) (x : A) (mid : List Lexeme) (total : Read (List A)) → one_token_decides (many g) ≡ true → begins (first g) ls ≡ true → read g ls ≡ Ok (x, mid)
    → with_front front (read (many g) ls) ≡ total → with_front (front ++ x ∷ []) (read (many g) mid) ≡ total
goes_on {A} g front ls x mid total ok b e so_far =
    sym (regroup front x (read (many g) mid)) ∙ sym (ap (with_front front) (one_step g ls x mid ok b e)) ∙ so_far

pub ends : {A : Type 0} (g : Grammar A) (stop : Option Stop) (front : List A) (ls : List Lexeme) (total : Read (List A)) → begins (first g) ls ≡ true → Stops stop (read g ls)
    → with_front front (read (many g) ls) ≡ total → Stops stop total
ends g None front ls total b h so_far = tt
ends g (Some s) front ls total b h so_far = sym so_far ∙ ap (with_front front) (one_fault g ls s b h)

pub is_done : {A : Type 0} (g : Grammar A) (front : List A) (ls : List Lexeme) (total : Read (List A)) → begins (first g) ls ≡ false → with_front front (read (many g) ls) ≡ total → total ≡ Ok (front, ls)
is_done {A} g front ls total b so_far = sym so_far ∙ ap (with_front front) (no_step g ls b) ∙ ap (λ (ns : List A). Ok (ns, ls)) (append-nil front)

-- each time fewer tokens are left
pub fewer : {A : Type 0} (g : Grammar A) (ls : List Lexeme) (x : A) (mid : List Lexeme) → one_token_decides (many g) ≡ true → read g ls ≡ Ok (x, mid) → length mid < length ls
fewer g ls x mid ok e = takes_each g ok ls x mid e

-- ---- without values

drop_more : {A : Type 0} (x : A) (r : Read (List A)) → without_values (r >>= λ xs. Ok (x ∷ xs.0, xs.1)) ≡ without_values r
drop_more x (Ok y) = refl
drop_more x (Err s) = refl

pub skips : {A : Type 0} (g : Grammar A) (ls : List Lexeme) (x : A) (mid : List Lexeme) (total : Read (Unit {0})) → one_token_decides (many g) ≡ true → begins (first g) ls ≡ true → read g ls ≡ Ok (x, mid)
    → without_values (read (many g) ls) ≡ total → without_values (read (many g) mid) ≡ total
skips g ls x mid total ok b e so_far = sym (drop_more x (read (many g) mid)) ∙ sym (ap without_values (one_step g ls x mid ok b e)) ∙ so_far

pub skip_ends : {A : Type 0} (g : Grammar A) (stop : Option Stop) (ls : List Lexeme) (total : Read (Unit {0})) → begins (first g) ls ≡ true → Stops stop (read g ls) → without_values (read (many g) ls) ≡ total → Stops stop total
skip_ends g None ls total b h so_far = tt
skip_ends g (Some s) ls total b h so_far = sym so_far ∙ ap without_values (one_fault g ls s b h)

pub skip_done : {A : Type 0} (g : Grammar A) (ls : List Lexeme) (total : Read (Unit {0})) → begins (first g) ls ≡ false → without_values (read (many g) ls) ≡ total → total ≡ Ok (tt, ls)
skip_done g ls total b so_far = sym so_far ∙ ap without_values (no_step g ls b)

-- ---- a list: one item, and then more

abbrev paired : {A C : Type 0} → C → Read (List A) → Read (C × List A)
paired x r = r >>= λ y. Ok ((x, y.0), y.1)

abbrev joined_list : {A : Type 0} → A → Read (List A) → Read (List A)
joined_list x r = paired x r >>= λ z. Ok (z.0.0 ∷ z.0.1, z.1)

pub list_starts : {A : Type 0} (g h : Grammar A) (ls : List Lexeme) (x : A) (mid : List Lexeme) → read g ls ≡ Ok (x, mid) → with_front (x ∷ []) (read (many h) mid) ≡ read (list_of g h) ls
list_starts {A} g h ls x mid e = rw e (go (read (many h) mid))
  where
    go : (r : Read (List A)) → with_front (x ∷ []) r ≡ joined_list x r
    go (Ok y) = refl
    go (Err s) = refl

pub list_fault : {A : Type 0} (g h : Grammar A) (stop : Option Stop) (ls : List Lexeme) → Stops stop (read g ls) → Stops stop (read (list_of g h) ls)
list_fault g h None ls f = tt
list_fault g h (Some s) ls f = rw f refl

-- ---- values that are put together as they come

fold_more : {A B : Type 0} (f : B → List A → B) (acc next : B) (x : A) (r : Read (List A)) → ((xs : List A) → f acc (x ∷ xs) ≡ f next xs) → folded f acc (r >>= λ xs. Ok (x ∷ xs.0, xs.1)) ≡ folded f next r
fold_more {A} {B} f acc next x (Ok y) h = ap (λ (b : B). folded_to b y.1) (h y.0)
  where
    folded_to : B → List Lexeme → Read B
    folded_to b rest = Ok (b, rest)
fold_more f acc next x (Err s) h = refl

pub fold_goes_on : {A B : Type 0} (g : Grammar A) (f : B → List A → B) (acc next : B) (ls : List Lexeme) (x : A) (mid : List Lexeme) (total : Read B) → one_token_decides (many g) ≡ true → ((xs : List A) → f acc (x ∷ xs) ≡ f next xs) → begins (first g) ls ≡ true → read g ls ≡ Ok (x, mid)
    → folded f acc (read (many g) ls) ≡ total → folded f next (read (many g) mid) ≡ total
fold_goes_on g f acc next ls x mid total ok h b e so_far = sym (fold_more f acc next x (read (many g) mid) h) ∙ sym (ap (folded f acc) (one_step g ls x mid ok b e)) ∙ so_far

pub fold_ends : {A B : Type 0} (g : Grammar A) (f : B → List A → B) (stop : Option Stop) (acc : B) (ls : List Lexeme) (total : Read B) → begins (first g) ls ≡ true → Stops stop (read g ls) → folded f acc (read (many g) ls) ≡ total → Stops stop total
fold_ends g f None acc ls total b h so_far = tt
fold_ends g f (Some s) acc ls total b h so_far = sym so_far ∙ ap (folded f acc) (one_fault g ls s b h)

pub fold_done : {A B : Type 0} (g : Grammar A) (f : B → List A → B) (acc : B) (ls : List Lexeme) (total : Read B) → f acc [] ≡ acc → begins (first g) ls ≡ false → folded f acc (read (many g) ls) ≡ total → total ≡ Ok (acc, ls)
fold_done {A} {B} g f acc ls total h b so_far = sym so_far ∙ ap (folded f acc) (no_step g ls b) ∙ ap (λ (z : B). kept_at z ls) h
  where
    kept_at : B → List Lexeme → Read B
    kept_at z rest = Ok (z, rest)

abbrev folded_pair : {A B C : Type 0} → (C → B) → (B → List A → B) → C → Read (List A) → Read B
folded_pair c f x r = paired x r >>= λ z. Ok (f (c z.0.0) z.0.1, z.1)

pub fold_starts : {A B C : Type 0} (c : C → B) (f : B → List A → B) (g : Grammar C) (h : Grammar A) (ls : List Lexeme) (x : C) (mid : List Lexeme) → read g ls ≡ Ok (x, mid) → folded f (c x) (read (many h) mid) ≡ read (fold_of c f g h) ls
fold_starts {A} c f g h ls x mid e = rw e (go (read (many h) mid))
  where
    go : (r : Read (List A)) → folded f (c x) r ≡ folded_pair c f x r
    go (Ok y) = refl
    go (Err s) = refl

pub fold_fault : {A B C : Type 0} (c : C → B) (f : B → List A → B) (g : Grammar C) (h : Grammar A) (stop : Option Stop) (ls : List Lexeme) → Stops stop (read g ls) → Stops stop (read (fold_of c f g h) ls)
fold_fault c f g h None ls k = tt
fold_fault c f g h (Some s) ls k = rw k refl
