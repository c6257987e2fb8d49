-- What values a rule gives of the tokens of a text: by a test, put together as rules are.
use Rattle.std.proofs.Common.{◌≡◌, ℕ, Bool, true, false, ◌&&◌, ◌||◌, not, List, [], ◌∷◌, Option, Some, None, length, nat_lt, nat_le, refl, sym, ap, subst, ◌∙◌, ◌⊎◌, inl, inr, arith}
use Rattle.std.specs.Prelude.{◌==◌}
use Rattle.std.specs.List.{list_all}
use Rattle.std.specs.Char.{is_ascii_digit}
use Rattle.std.proofs.lemmas.List.Folds.{list_all-append}
use Rattle.std.proofs.lemmas.Bool.Decides.{nat_tests}
use Rattle.dd_names.specs.Names.{is_name_byte, is_name}
use Rattle.dd_names.specs.Reserved.{is_reserved}
use Rattle.sql_grammar.specs.Lexemes.{Lexeme, word, number, quoted, string, sign, broken, content, name, amount, mark, takes, is_long}
use Rattle.sql_grammar.specs.Grammar.{Grammar, one, nothing, seq, means, alt, many, Says, SaysMany}
use Rattle.sql_grammar.specs.Rules.{◌⊳◌, ◌⊲◌, opt, in_parentheses, listed}
use Rattle.sql_grammar.proofs.Bits.{and_true, not_true}
use Rattle.sql_grammar.proofs.Reader.{taken}

-- where there is a value, it passes the test
abbrev pub if_some : {A : Type 0} → (A → Bool) → Option A → Bool
if_some test None = true
if_some test (Some x) = test x

-- there is a value, and each passes the test
abbrev pub some_each : {A : Type 0} → (A → Bool) → List A → Bool
some_each test [] = false
some_each test (x ∷ xs) = test x && list_all test xs

-- a token of a text: a word and a quoted name have letters, digits and _, a number has digits, and each has one
abbrev pub is_full : Lexeme → Bool
is_full (word w) = nat_lt 0 (length w) && list_all is_name_byte w
is_full (quoted w) = nat_lt 0 (length w) && list_all is_name_byte w
is_full (number w) = nat_lt 0 (length w) && list_all is_ascii_digit w
is_full _ = true

-- and no name is too long
abbrev pub is_fine : Lexeme → Bool
is_fine l = is_full l && not (is_long l)

abbrev pub AreFine : List Lexeme → Type 0
AreFine ls = list_all is_fine ls ≡ true

-- of such tokens the rule gives values that pass the test
pub record Yields {A : Type 0} (g : Grammar A) (test : A → Bool) : Type 0 where
  pub each : (before after : List Lexeme) (v : A) → AreFine before → Says g before after v → test v ≡ true

pub both_are : (a b : Bool) → a ≡ true → b ≡ true → (a && b) ≡ true
both_are a b h k = rw (h, k) refl

-- ---- what follows is fine too

fine_after : {A : Type 0} (g : Grammar A) (before after : List Lexeme) (v : A) → AreFine before → Says g before after v → AreFine after
fine_after g before after v h s =
    let t = taken g before after v s in
    (and_true (list_all is_fine t.front) (list_all is_fine after) (sym (list_all-append is_fine t.front after) ∙ subst AreFine t.parts h)).1

-- ---- as rules are put together

pub any : {A : Type 0} {g : Grammar A} → Yields g (λ x. true)
any = record { each = λ before after v h s. refl }

pub gives_one : {A : Type 0} {test : A → Bool} {v : A} → test v ≡ true → Yields (nothing v) test
gives_one {A} {test} h = record { each = λ before after w k s. ap test s.1 ∙ h }

pub both : {A B : Type 0} {g : Grammar A} {h : Grammar B} {test : A → Bool} {other : B → Bool} → Yields g test → Yields h other → Yields (seq g h) (λ p. test p.0 && other p.1)
both {A} {B} {g} {h} {test} {other} p q = record {
  each = λ before after v k s. both_are (test v.0) (other v.1) (p.each before s.0 v.0 k s.1) (q.each s.0 after v.1 (fine_after g before s.0 v.0 k s.1) s.2);
}

pub by : {A B : Type 0} {g : Grammar A} {test : A → Bool} {other : B → Bool} {f : A → B} → Yields g test → ((x : A) → test x ≡ true → other (f x) ≡ true) → Yields (means f g) other
by {A} {B} {g} {test} {other} {f} p k = record { each = λ before after v h s. ap other s.2 ∙ k s.0 (p.each before after s.0 h s.1) }

pub or : {A : Type 0} {g h : Grammar A} {test : A → Bool} → Yields g test → Yields h test → Yields (alt g h) test
or {A} {g} {h} {test} p q = record { each = λ before after v k s. chosen before after v k s }
  where
    chosen : (before after : List Lexeme) (v : A) → AreFine before → Says g before after v ⊎ Says h before after v → test v ≡ true
    chosen before after v k (inl s) = p.each before after v k s
    chosen before after v k (inr s) = q.each before after v k s

pub then_by : {A B : Type 0} {g : Grammar A} {h : Grammar B} {test : B → Bool} → Yields h test → Yields (g ⊳ h) test
then_by {A} {B} {g} {h} {test} p = by {test = λ (x : A × B). true && test x.1} (both any p) (λ x e. e)

pub before_by : {A B : Type 0} {g : Grammar A} {h : Grammar B} {test : A → Bool} → Yields g test → Yields (g ⊲ h) test
before_by {A} {B} {g} {h} {test} p = by {test = λ (x : A × B). test x.0 && true} (both p any) (λ x e. (and_true (test x.0) true e).0)

pub maybe_some : {A : Type 0} {g : Grammar A} {test : A → Bool} → Yields g test → Yields (opt g) (if_some test)
maybe_some {A} {g} {test} p = or (by {test = test} p (λ x e. e)) (gives_one refl)

pub inside : {A : Type 0} {g : Grammar A} {test : A → Bool} → Yields g test → Yields (in_parentheses g) test
inside p = then_by (before_by p)

pub each_of : {A : Type 0} {g : Grammar A} {test : A → Bool} → Yields g test → Yields (many g) (list_all test)
each_of {A} {g} {test} p = record { each = all_of }
  where
    all_of : (before after : List Lexeme) (vs : List A) → AreFine before → SaysMany (Says g) before after vs → list_all test vs ≡ true
    all_of before after [] k s = refl
    all_of before after (v ∷ vs) k s = both_are (test v) (list_all test vs) (p.each before s.0 v k s.1) (all_of s.0 after vs (fine_after g before s.0 v k s.1) s.2)

pub listed_by : {A : Type 0} {g : Grammar A} {test : A → Bool} → Yields g test → Yields (listed g) (some_each test)
listed_by {A} {g} {test} p = by {test = λ (x : A × List A). test x.0 && list_all test x.1} (both p (each_of (then_by p))) (λ x e. e)

-- ---- one token

fine_first : (l : Lexeme) (before after : List Lexeme) → AreFine before → before ≡ l ∷ after → is_fine l ≡ true
fine_first l before after h e = (and_true (is_fine l) (list_all is_fine after) (subst AreFine e h)).0

short_name : (w : List ℕ) → (nat_lt 0 (length w) && list_all is_name_byte w) ≡ true → nat_lt 64 (length w) ≡ false → is_name w ≡ true
short_name w h k =
    let m = and_true (nat_lt 0 (length w)) (list_all is_name_byte w) h in
    let low : nat_le (length w) 64 ≡ true = grind (arith, nat_tests, k) in
    rw (m.0, low, m.1) refl

not_both : (a b : Bool) → (a && b) ≡ false → a ≡ true → b ≡ false
not_both true b h k = h
not_both false b h k = absurd cc

fine_name : (l : Lexeme) → takes name l ≡ true → is_fine l ≡ true → is_name (content l) ≡ true
unfolding takes is_long
fine_name (word w) t h =
    let k = and_true (nat_lt 0 (length w) && list_all is_name_byte w) (not (not (is_reserved w) && nat_lt 64 (length w))) h in
    short_name w k.0 (not_both (not (is_reserved w)) (nat_lt 64 (length w)) (not_true (not (is_reserved w) && nat_lt 64 (length w)) k.1) t)
fine_name (quoted w) t h =
    let k = and_true (nat_lt 0 (length w) && list_all is_name_byte w) (not (nat_lt 64 (length w))) h in
    short_name w k.0 (not_true (nat_lt 64 (length w)) k.1)
fine_name (number w) t h = absurd cc
fine_name (string w) t h = absurd cc
fine_name (sign c) t h = absurd cc
fine_name broken t h = absurd cc

pub a_name_by : Yields (one name) is_name
a_name_by = record { each = λ before after v h s. ap is_name s.3 ∙ fine_name s.0 s.1 (fine_first s.0 before after h s.2) }

-- digits, of which there is one
abbrev pub are_digits : List ℕ → Bool
are_digits w = nat_lt 0 (length w) && list_all is_ascii_digit w

fine_digits : (l : Lexeme) → takes amount l ≡ true → is_fine l ≡ true → are_digits (content l) ≡ true
unfolding takes
fine_digits (number w) t h = (and_true (are_digits w) (not (is_long (number w))) h).0
fine_digits (word w) t h = absurd cc
fine_digits (quoted w) t h = absurd cc
fine_digits (string w) t h = absurd cc
fine_digits (sign c) t h = absurd cc
fine_digits broken t h = absurd cc

pub digits_by : Yields (one amount) are_digits
digits_by = record { each = λ before after v h s. ap are_digits s.3 ∙ fine_digits s.0 s.1 (fine_first s.0 before after h s.2) }

-- a sign by itself, or nothing
abbrev pub is_sign_text : List ℕ → Bool
is_sign_text [] = true
is_sign_text (c ∷ []) = c == 43 || c == 45
is_sign_text _ = false

plus_or_minus : (m c : ℕ) → (m == 43 || m == 45) ≡ true → (c == m) ≡ true → (c == 43 || c == 45) ≡ true
plus_or_minus m c h k = grind (arith, nat_tests)

fine_mark : (m : ℕ) (l : Lexeme) → (m == 43 || m == 45) ≡ true → takes (mark m) l ≡ true → is_sign_text (content l) ≡ true
unfolding takes
fine_mark m (sign c) h t = plus_or_minus m c h t
fine_mark m (number w) h t = absurd cc
fine_mark m (word w) h t = absurd cc
fine_mark m (quoted w) h t = absurd cc
fine_mark m (string w) h t = absurd cc
fine_mark m broken h t = absurd cc

pub mark_by : {m : ℕ} → (m == 43 || m == 45) ≡ true → Yields (one (mark m)) is_sign_text
mark_by {m} h = record { each = λ before after v k s. ap is_sign_text s.3 ∙ fine_mark m s.0 h s.1 }
