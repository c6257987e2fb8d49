-- No list of tokens reads in two ways.
use Rattle.std.proofs.Common.{◌≡◌, true, List, [], ◌∷◌, ◌++◌, refl, sym, ap, subst, ◌∙◌, append_assoc}
use Rattle.std.proofs.lemmas.List.{append-nil}
use Rattle.sql_grammar.specs.Lexemes.{Lexeme, is_long, Short}
use Rattle.sql_grammar.specs.Grammar.{Grammar, Says}
use Rattle.sql_grammar.specs.Checks.{one_token_decides}
use Rattle.sql_grammar.specs.Judging.{GoesOn, EndsHere, IsSentence, IsFaultyAt, IsTooLongAt, Verdict, good, syntax_at, too_long}
use Rattle.sql_grammar.specs.Laws.{EachReadsOnce}
use Rattle.sql_grammar.proofs.Bits.{ok_is}
use Rattle.sql_grammar.proofs.Judged.{is_read}

-- one list cut in two ways
pub data Cuts (a b c d : List Lexeme) : Type 0 where
  first_shorter : (l : Lexeme) (z : List Lexeme) → c ≡ a ++ (l ∷ z) → b ≡ l ∷ (z ++ d) → Cuts a b c d
  alike : a ≡ c → b ≡ d → Cuts a b c d
  second_shorter : (l : Lexeme) (z : List Lexeme) → a ≡ c ++ (l ∷ z) → d ≡ l ∷ (z ++ b) → Cuts a b c d

one_more : (x y : Lexeme) (a b c d : List Lexeme) → x ≡ y → Cuts a b c d → Cuts (x ∷ a) b (y ∷ c) d
one_more x y a b c d e (first_shorter l z p q) = first_shorter l z (rw (e, p) refl) q
one_more x y a b c d e (alike p q) = alike (rw (e, p) refl) q
one_more x y a b c d e (second_shorter l z p q) = second_shorter l z (rw (e, p) refl) q

cuts : (a b c d : List Lexeme) → a ++ b ≡ c ++ d → Cuts a b c d
cuts [] b [] d e = alike refl e
cuts [] b (y ∷ c) d e = first_shorter y c refl e
cuts (x ∷ a) b [] d e = second_shorter x a refl (sym e)
cuts (x ∷ a) b (y ∷ c) d e = one_more x y a b c d (cc) (cuts a b c d (cc))

prefix_goes : {A : Type 0} (g : Grammar A) (a : List Lexeme) (l : Lexeme) (z : List Lexeme) → GoesOn g (a ++ (l ∷ z)) → GoesOn g (a ++ l ∷ [])
prefix_goes g a l z k = (z ++ k.0, k.1, subst (λ (x : List Lexeme). Says g x [] k.1) (append_assoc a (l ∷ z) k.0 ∙ sym (append_assoc a (l ∷ []) (z ++ k.0))) k.2)

holds_long : (a : List Lexeme) (l : Lexeme) (z : List Lexeme) → Short (a ++ (l ∷ z)) → is_long l ≡ true → ⊥
holds_long [] l z s h = let k = s.0 in cc
holds_long (x ∷ a) l z s h = holds_long a l z s.1 h

-- a fault cannot stand before tokens that go on
no_earlier : {A : Type 0} (g : Grammar A) (a b : List Lexeme) (l : Lexeme) (z d : List Lexeme) → EndsHere g a b → b ≡ l ∷ (z ++ d) → GoesOn g (a ++ (l ∷ z)) → ⊥
no_earlier g a b l z d h e k = let h2 : EndsHere g a (l ∷ (z ++ d)) = subst (EndsHere g a) e h in h2 (prefix_goes g a l z k)

good_faulty : {A : Type 0} (g : Grammar A) (ls : List Lexeme) (v : A) (rest : List Lexeme) → IsSentence g ls v → IsFaultyAt g ls rest → ⊥
good_faulty g ls v rest s f = go rest f.parts f.here
  where
    go : (rest : List Lexeme) → ls ≡ f.front ++ rest → EndsHere g f.front rest → ⊥
    go [] p h = h v (subst (λ (x : List Lexeme). Says g x [] v) (p ∙ append-nil f.front) s.says)
    go (l ∷ r) p h = h (prefix_goes g f.front l r ([], v, subst (λ (x : List Lexeme). Says g x [] v) (p ∙ sym (append-nil (f.front ++ l ∷ r))) s.says))

good_long : {A : Type 0} (g : Grammar A) (ls : List Lexeme) (v : A) (l : Lexeme) (rest : List Lexeme) → IsSentence g ls v → IsTooLongAt g ls l rest → ⊥
good_long g ls v l rest s t = holds_long t.front l rest (subst Short t.parts s.short) t.long

faulty_faulty : {A : Type 0} (g : Grammar A) (ls r s : List Lexeme) → IsFaultyAt g ls r → IsFaultyAt g ls s → r ≡ s
faulty_faulty g ls r s f h = go (cuts f.front r h.front s (sym f.parts ∙ h.parts))
  where
    go : Cuts f.front r h.front s → r ≡ s
    go (first_shorter l z p q) = absurd (no_earlier g f.front r l z s f.here q (subst (GoesOn g) p h.before))
    go (alike p q) = q
    go (second_shorter l z p q) = absurd (no_earlier g h.front s l z r h.here q (subst (GoesOn g) p f.before))

faulty_long : {A : Type 0} (g : Grammar A) (ls r : List Lexeme) (l : Lexeme) (s : List Lexeme) → IsFaultyAt g ls r → IsTooLongAt g ls l s → ⊥
faulty_long g ls r l s f h = go (cuts f.front r (h.front ++ l ∷ []) s (sym f.parts ∙ h.parts ∙ sym (append_assoc h.front (l ∷ []) s)))
  where
    go : Cuts f.front r (h.front ++ l ∷ []) s → ⊥
    go (first_shorter m z p q) = no_earlier g f.front r m z s f.here q (subst (GoesOn g) p h.goes_on)
    go (alike p q) = holds_long h.front l [] (subst Short p f.short) h.long
    go (second_shorter m z p q) = holds_long h.front l (m ∷ z) (subst Short (p ∙ append_assoc h.front (l ∷ []) (m ∷ z)) f.short) h.long

abbrev long_at : {A : Type 0} → Lexeme → List Lexeme → Verdict A
long_at l r = too_long l r

long_long : {A : Type 0} (g : Grammar A) (ls : List Lexeme) (l : Lexeme) (r : List Lexeme) (m : Lexeme) (s : List Lexeme) → IsTooLongAt g ls l r → IsTooLongAt g ls m s → long_at {A = A} l r ≡ long_at m s
long_long {A} g ls l r m s f h = go (cuts f.front (l ∷ r) h.front (m ∷ s) (sym f.parts ∙ h.parts))
  where
    go : Cuts f.front (l ∷ r) h.front (m ∷ s) → long_at {A = A} l r ≡ long_at m s
    go (first_shorter x z p q) = let e : l ≡ x = cc in absurd (holds_long f.front x z (subst Short p h.short) (subst (λ (y : Lexeme). is_long y ≡ true) e f.long))
    go (alike p q) = cc
    go (second_shorter x z p q) = let e : m ≡ x = cc in absurd (holds_long h.front x z (subst Short p f.short) (subst (λ (y : Lexeme). is_long y ≡ true) e h.long))

good_good : {A : Type 0} (g : Grammar A) → one_token_decides g ≡ true → (ls : List Lexeme) (v w : A) → IsSentence g ls v → IsSentence g ls w → v ≡ w
good_good {A} g ok ls v w p q =
    let a = is_read g ls v ok p in
    let b = is_read g ls w ok q in
    ap (λ (x : A × List Lexeme). x.0) (ok_is (v, []) (w, []) (sym a ∙ b))

pub once : {A : Type 0} (g : Grammar A) → one_token_decides g ≡ true → EachReadsOnce g
once g ok ls (good v) (good w) p q = ap good (good_good g ok ls v w p q)
once g ok ls (good v) (syntax_at r) p q = absurd (good_faulty g ls v r p q)
once g ok ls (good v) (too_long l r) p q = absurd (good_long g ls v l r p q)
once g ok ls (syntax_at r) (good v) p q = absurd (good_faulty g ls v r q p)
once g ok ls (syntax_at r) (syntax_at s) p q = ap syntax_at (faulty_faulty g ls r s p q)
once g ok ls (syntax_at r) (too_long l s) p q = absurd (faulty_long g ls r l s p q)
once g ok ls (too_long l r) (good v) p q = absurd (good_long g ls v l r q p)
once g ok ls (too_long l r) (syntax_at s) p q = absurd (faulty_long g ls s l r q p)
once g ok ls (too_long l r) (too_long m s) p q = long_long g ls l r m s p q
