-- Pieces whose tokens stand for a value by a rule, and how such pieces are put together as rules are.
use Rattle.std.proofs.Common.{◌≡◌, ℕ, Bool, true, false, ◌&&◌, List, [], ◌∷◌, ◌++◌, Some, None, refl, sym, ap, subst, ◌∙◌, append_assoc, inl, inr}
use Rattle.std.specs.Prelude.{codes, ◌==◌}
use Rattle.std.specs.List.{list_all}
use Rattle.std.proofs.lemmas.List.Folds.{list_all-append}
use Rattle.sql_grammar.specs.Lexemes as lexemes
use Rattle.sql_grammar.specs.Lexemes.{Lexeme, keyword, mark, takes, is_word, begins}
use Rattle.sql_grammar.specs.Grammar.{Grammar, nothing, seq, means, alt, many, SaysMany, Says}
use Rattle.sql_grammar.specs.Rules.{word_of, sign_of, ◌⊳◌, ◌⊲◌, flag, opt, in_parentheses, listed}
use Rattle.sql_grammar.proofs.Bits.{and_true}
use Rattle.sql_ast.specs.GrammarParts.{maybe}
use Rattle.sql_pieces.specs.Pieces.{Piece, as_word, as_sign, token_of, tokens, is_alone}
use Rattle.sql_text.specs.Parts.{comma, opens, closes, behind_commas, divided, some_each}

-- each piece is a token of its own, and whatever follows them, they stand for the value
pub record Spells {A : Type 0} (g : Grammar A) (ps : List Piece) (v : A) : Type 0 where
  pub alone : list_all is_alone ps ≡ true
  pub says : (after : List Lexeme) → Says g (tokens ps ++ after) after v

-- the word KEY doesn't follow
abbrev pub NoKey : List Lexeme → Type 0
NoKey after = begins (keyword (codes "KEY") ∷ []) after ≡ false

-- the same of pieces that the word KEY may not follow
pub record SpellsNoKey {A : Type 0} (g : Grammar A) (ps : List Piece) (v : A) : Type 0 where
  pub alone : list_all is_alone ps ≡ true
  pub says : (after : List Lexeme) → NoKey after → Says g (tokens ps ++ after) after v

pub weaken : {A : Type 0} {g : Grammar A} {ps : List Piece} {v : A} → Spells g ps v → SpellsNoKey g ps v
weaken p = record { alone = p.alone; says = λ after quiet. p.says after }

-- ---- pieces one behind the other

tokens_then : (ps qs : List Piece) (after : List Lexeme) → tokens (ps ++ qs) ++ after ≡ tokens ps ++ (tokens qs ++ after)
tokens_then [] qs after = refl
tokens_then (p ∷ ps) qs after =
    append_assoc (token_of p) (tokens (ps ++ qs)) after ∙ ap (λ (ls : List Lexeme). token_of p ++ ls) (tokens_then ps qs after)
    ∙ sym (append_assoc (token_of p) (tokens ps) (tokens qs ++ after))

all_joined : (ps qs : List Piece) → list_all is_alone ps ≡ true → list_all is_alone qs ≡ true → list_all is_alone (ps ++ qs) ≡ true
all_joined ps qs h k = list_all-append is_alone ps qs ∙ (rw (h, k) refl)

pub both : {A B : Type 0} {g : Grammar A} {h : Grammar B} {ps qs : List Piece} {v : A} {w : B} → Spells g ps v → Spells h qs w → Spells (seq g h) (ps ++ qs) (v, w)
both {A} {B} {g} {h} {ps} {qs} {v} {w} p q = record {
  alone = all_joined ps qs p.alone q.alone;
  says = λ after. (tokens qs ++ after, subst (λ (ls : List Lexeme). Says g ls (tokens qs ++ after) v) (sym (tokens_then ps qs after)) (p.says (tokens qs ++ after)), q.says after);
}

-- the first may not be followed by KEY, and the second doesn't begin so
pub both_no_key : {A B : Type 0} {g : Grammar A} {h : Grammar B} {ps qs : List Piece} {v : A} {w : B}
    → SpellsNoKey g ps v → Spells h qs w → ((after : List Lexeme) → NoKey (tokens qs ++ after)) → Spells (seq g h) (ps ++ qs) (v, w)
both_no_key {A} {B} {g} {h} {ps} {qs} {v} {w} p q k = record {
  alone = all_joined ps qs p.alone q.alone;
  says = λ after. (tokens qs ++ after, subst (λ (ls : List Lexeme). Says g ls (tokens qs ++ after) v) (sym (tokens_then ps qs after)) (p.says (tokens qs ++ after) (k after)), q.says after);
}

-- neither may be followed by KEY, and the second doesn't begin so
pub both_weak : {A B : Type 0} {g : Grammar A} {h : Grammar B} {ps qs : List Piece} {v : A} {w : B}
    → SpellsNoKey g ps v → SpellsNoKey h qs w → ((after : List Lexeme) → NoKey after → NoKey (tokens qs ++ after)) → SpellsNoKey (seq g h) (ps ++ qs) (v, w)
both_weak {A} {B} {g} {h} {ps} {qs} {v} {w} p q k = record {
  alone = all_joined ps qs p.alone q.alone;
  says = λ after quiet. (tokens qs ++ after, subst (λ (ls : List Lexeme). Says g ls (tokens qs ++ after) v) (sym (tokens_then ps qs after)) (p.says (tokens qs ++ after) (k after quiet)), q.says after quiet);
}

-- the second may not be followed by KEY
pub any_then : {A B : Type 0} {g : Grammar A} {h : Grammar B} {ps qs : List Piece} {v : A} {w : B} → Spells g ps v → SpellsNoKey h qs w → SpellsNoKey (seq g h) (ps ++ qs) (v, w)
any_then {A} {B} {g} {h} {ps} {qs} {v} {w} p q = record {
  alone = all_joined ps qs p.alone q.alone;
  says = λ after quiet. (tokens qs ++ after, subst (λ (ls : List Lexeme). Says g ls (tokens qs ++ after) v) (sym (tokens_then ps qs after)) (p.says (tokens qs ++ after)), q.says after quiet);
}

-- ---- as rules are put together

pub by : {A B : Type 0} {g : Grammar A} {ps : List Piece} {v : A} (f : A → B) → Spells g ps v → Spells (means f g) ps (f v)
by {A} {B} {g} {ps} {v} f p = record { alone = p.alone; says = λ after. (v, p.says after, refl) }

pub by_no_key : {A B : Type 0} {g : Grammar A} {ps : List Piece} {v : A} (f : A → B) → SpellsNoKey g ps v → SpellsNoKey (means f g) ps (f v)
by_no_key {A} {B} {g} {ps} {v} f p = record { alone = p.alone; says = λ after quiet. (v, p.says after quiet, refl) }

pub behind : {A B : Type 0} {g : Grammar A} {h : Grammar B} {ps qs : List Piece} {v : A} {w : B} → Spells g ps v → Spells h qs w → Spells (g ⊳ h) (ps ++ qs) w
behind {A} {B} p q = by (λ (x : A × B). x.1) (both p q)

pub before : {A B : Type 0} {g : Grammar A} {h : Grammar B} {ps qs : List Piece} {v : A} {w : B} → Spells g ps v → Spells h qs w → Spells (g ⊲ h) (ps ++ qs) v
before {A} {B} p q = by (λ (x : A × B). x.0) (both p q)

-- what follows has no token
pub before_none : {A B : Type 0} {g : Grammar A} {h : Grammar B} {ps : List Piece} {v : A} {w : B} → Spells g ps v → Spells h [] w → Spells (g ⊲ h) ps v
before_none {A} {B} {g} {h} {ps} {v} {w} p q = record { alone = p.alone; says = λ after. ((v, w), (after, p.says after, q.says after), refl) }

pub by_is : {A B : Type 0} {g : Grammar A} {ps : List Piece} {v : A} {w : B} (f : A → B) → w ≡ f v → Spells g ps v → Spells (means f g) ps w
by_is {A} {B} {g} {ps} {v} f e p = record { alone = p.alone; says = λ after. (v, p.says after, e) }

pub by_is_no_key : {A B : Type 0} {g : Grammar A} {ps : List Piece} {v : A} {w : B} (f : A → B) → w ≡ f v → SpellsNoKey g ps v → SpellsNoKey (means f g) ps w
by_is_no_key {A} {B} {g} {ps} {v} f e p = record { alone = p.alone; says = λ after quiet. (v, p.says after quiet, e) }

pub left : {A : Type 0} {g h : Grammar A} {ps : List Piece} {v : A} → Spells g ps v → Spells (alt g h) ps v
left p = record { alone = p.alone; says = λ after. inl (p.says after) }

pub right : {A : Type 0} {g h : Grammar A} {ps : List Piece} {v : A} → Spells h ps v → Spells (alt g h) ps v
right p = record { alone = p.alone; says = λ after. inr (p.says after) }

pub left_no_key : {A : Type 0} {g h : Grammar A} {ps : List Piece} {v : A} → SpellsNoKey g ps v → SpellsNoKey (alt g h) ps v
left_no_key p = record { alone = p.alone; says = λ after quiet. inl (p.says after quiet) }

pub right_no_key : {A : Type 0} {g h : Grammar A} {ps : List Piece} {v : A} → SpellsNoKey h ps v → SpellsNoKey (alt g h) ps v
right_no_key p = record { alone = p.alone; says = λ after quiet. inr (p.says after quiet) }

pub none : {A : Type 0} {v : A} → Spells (nothing v) [] v
none = record { alone = refl; says = λ after. (refl, refl) }

pub not_there : {A : Type 0} {g : Grammar A} → Spells (flag g) [] false
not_there = right none

pub there : {A : Type 0} {g : Grammar A} {ps : List Piece} {v : A} → Spells g ps v → Spells (flag g) ps true
there {A} p = left (by (λ (x : A). true) p)

pub absent : {A : Type 0} {g : Grammar A} → Spells (opt g) [] None
absent = right none

pub present : {A : Type 0} {g : Grammar A} {ps : List Piece} {v : A} → Spells g ps v → Spells (opt g) ps (Some v)
present p = left (by Some p)

-- what says nothing is left out
pub left_out : {A : Type 0} {g : Grammar A} → Spells (maybe g) [] tt
left_out = by (λ (x : Bool). tt) not_there

-- what follows isn't there
pub both_absent : {A B : Type 0} {g : Grammar A} {h : Grammar B} {ps : List Piece} {v : A} → Spells g ps v → Spells (seq g (opt h)) ps (v, None)
both_absent {A} {B} {g} {h} {ps} {v} p = record { alone = p.alone; says = λ after. (after, p.says after, inr (refl, refl)) }

-- ---- words and signs

-- the word is written as the grammar's word, and is a token of its own
abbrev pub is_written : List ℕ → List ℕ → Bool
is_written k w = is_word k (lexemes.word w) && is_alone (as_word w)

word_taken : (k w : List ℕ) → is_word k (lexemes.word w) ≡ true → takes (keyword k) (lexemes.word w) ≡ true
unfolding takes
word_taken k w h = h

and_one : (b : Bool) → b ≡ true → (b && true) ≡ true
and_one b h = rw h refl

pub a_word : {k w : List ℕ} → is_written k w ≡ true → Spells (word_of k) (as_word w ∷ []) tt
a_word {k} {w} h =
    let both_parts = and_true (is_word k (lexemes.word w)) (is_alone (as_word w)) h in
    record {
      alone = and_one (is_alone (as_word w)) both_parts.1;
      says = λ after. (w, (lexemes.word w, word_taken k w both_parts.0, refl, refl), refl);
    }

pub word_then : {A : Type 0} {k w : List ℕ} {h : Grammar A} {qs : List Piece} {v : A} → is_written k w ≡ true → Spells h qs v → Spells (word_of k ⊳ h) (as_word w ∷ qs) v
word_then {A} {k} {w} e p = behind (a_word {k = k} {w = w} e) p

sign_taken : (c : ℕ) → (c == c) ≡ true → takes (mark c) (lexemes.sign c) ≡ true
unfolding takes
sign_taken c h = h

abbrev pub is_sign_written : ℕ → Bool
is_sign_written c = (c == c) && is_alone (as_sign c)

pub a_sign : {c : ℕ} → is_sign_written c ≡ true → Spells (sign_of c) (as_sign c ∷ []) tt
a_sign {c} h =
    let both_parts = and_true (c == c) (is_alone (as_sign c)) h in
    record {
      alone = and_one (is_alone (as_sign c)) both_parts.1;
      says = λ after. (c ∷ [], (lexemes.sign c, sign_taken c both_parts.0, refl, refl), refl);
    }

pub sign_then : {A : Type 0} {c : ℕ} {h : Grammar A} {qs : List Piece} {v : A} → is_sign_written c ≡ true → Spells h qs v → Spells (sign_of c ⊳ h) (as_sign c ∷ qs) v
sign_then {A} {c} e p = behind (a_sign {c = c} e) p

-- between parentheses
pub enclosed : {A : Type 0} {g : Grammar A} {ps : List Piece} {v : A} → Spells g ps v → Spells (in_parentheses g) (opens ∷ (ps ++ closes ∷ [])) v
enclosed p = sign_then refl (before p (a_sign refl))

-- ---- lists

pub no_more : {A : Type 0} {g : Grammar A} → Spells (many g) [] []
no_more = record { alone = refl; says = λ after. refl }

pub one_more : {A : Type 0} {g : Grammar A} {ps qs : List Piece} {v : A} {vs : List A} → Spells g ps v → Spells (many g) qs vs → Spells (many g) (ps ++ qs) (v ∷ vs)
one_more {A} {g} {ps} {qs} {v} {vs} p q = record {
  alone = all_joined ps qs p.alone q.alone;
  says = λ after. (tokens qs ++ after, subst (λ (ls : List Lexeme). Says g ls (tokens qs ++ after) v) (sym (tokens_then ps qs after)) (p.says (tokens qs ++ after)), q.says after);
}

behind_each_comma : {A : Type 0} {g : Grammar A} {f : A → List Piece} {test : A → Bool} → ((x : A) → test x ≡ true → Spells g (f x) x)
    → (xs : List A) → list_all test xs ≡ true → Spells (many (sign_of 44 ⊳ g)) (behind_commas f xs) xs
behind_each_comma each [] h = no_more
behind_each_comma {A} {g} {f} {test} each (x ∷ xs) h =
    let k = and_true (test x) (list_all test xs) h in
    one_more (sign_then refl (each x k.0)) (behind_each_comma each xs k.1)

-- values divided by commas, of which there is one
pub each_divided : {A : Type 0} {g : Grammar A} {f : A → List Piece} {test : A → Bool} → ((x : A) → test x ≡ true → Spells g (f x) x)
    → (xs : List A) → some_each test xs ≡ true → Spells (listed g) (divided f xs) xs
each_divided each [] h = absurd cc
each_divided {A} {g} {f} {test} each (x ∷ xs) h =
    let k = and_true (test x) (list_all test xs) h in
    by (λ (p : A × List A). p.0 ∷ p.1) (both (each x k.0) (behind_each_comma each xs k.1))

-- ---- lists whose values KEY may not follow

-- a sign is no KEY
pub sign_no_key : (c : ℕ) (after : List Lexeme) → NoKey (lexemes.sign c ∷ after)
unfolding takes
sign_no_key c after = refl

commas_no_key : {A : Type 0} (f : A → List Piece) (xs : List A) (after : List Lexeme) → NoKey after → NoKey (tokens (behind_commas f xs) ++ after)
commas_no_key f [] after h = h
commas_no_key f (x ∷ xs) after h = sign_no_key 44 (tokens (f x ++ behind_commas f xs) ++ after)

more_no_key : {A : Type 0} {g : Grammar A} {f : A → List Piece} {test : A → Bool} → ((x : A) → test x ≡ true → SpellsNoKey g (f x) x)
    → (xs : List A) → list_all test xs ≡ true → SpellsNoKey (many (sign_of 44 ⊳ g)) (behind_commas f xs) xs
more_no_key each [] h = weaken no_more
more_no_key {A} {g} {f} {test} each (x ∷ xs) h =
    let k = and_true (test x) (list_all test xs) h in
    let p : SpellsNoKey g (f x) x = each x k.0 in
    let q : SpellsNoKey (many (sign_of 44 ⊳ g)) (behind_commas f xs) xs = more_no_key each xs k.1 in
    let sign : Spells (sign_of 44) (comma ∷ []) tt = a_sign refl in
    let item : SpellsNoKey (sign_of 44 ⊳ g) (comma ∷ f x) x = by_no_key (λ (z : Unit {0} × A). z.1) (record {
      alone = p.alone;
      says = λ after quiet. (tokens (f x) ++ after, sign.says (tokens (f x) ++ after), p.says after quiet);
    }) in
    record {
      alone = all_joined (comma ∷ f x) (behind_commas f xs) item.alone q.alone;
      says = λ after quiet. (
        tokens (behind_commas f xs) ++ after,
        subst (λ (ls : List Lexeme). Says (sign_of 44 ⊳ g) ls (tokens (behind_commas f xs) ++ after) x) (sym (tokens_then (comma ∷ f x) (behind_commas f xs) after)) (item.says (tokens (behind_commas f xs) ++ after) (commas_no_key f xs after quiet)),
        q.says after quiet,
      );
    }

pub divided_no_key : {A : Type 0} {g : Grammar A} {f : A → List Piece} {test : A → Bool} → ((x : A) → test x ≡ true → SpellsNoKey g (f x) x)
    → (xs : List A) → some_each test xs ≡ true → SpellsNoKey (listed g) (divided f xs) xs
divided_no_key each [] h = absurd cc
divided_no_key {A} {g} {f} {test} each (x ∷ xs) h =
    let k = and_true (test x) (list_all test xs) h in
    by_no_key (λ (p : A × List A). p.0 ∷ p.1) (both_weak (each x k.0) (more_no_key each xs k.1) (λ after quiet. commas_no_key f xs after quiet))

-- ---- values of a rule one behind the other

says_joined : {A : Type 0} (says : List Lexeme → List Lexeme → A → Type 0) (a b c : List Lexeme) (xs ys : List A) → SaysMany says a b xs → SaysMany says b c ys → SaysMany says a c (xs ++ ys)
says_joined says a b c [] ys p q = subst (λ (ls : List Lexeme). SaysMany says ls c ys) (sym p) q
says_joined says a b c (x ∷ xs) ys p q = (p.0, p.1, says_joined says p.0 b c xs ys p.2 q)

pub many_joined : {A : Type 0} {g : Grammar A} {ps qs : List Piece} {xs ys : List A} → Spells (many g) ps xs → SpellsNoKey (many g) qs ys → SpellsNoKey (many g) (ps ++ qs) (xs ++ ys)
many_joined {A} {g} {ps} {qs} {xs} {ys} p q = record {
  alone = all_joined ps qs p.alone q.alone;
  says = λ after quiet. says_joined (Says g) (tokens (ps ++ qs) ++ after) (tokens qs ++ after) after xs ys
      (subst (λ (ls : List Lexeme). Says (many g) ls (tokens qs ++ after) xs) (sym (tokens_then ps qs after)) (p.says (tokens qs ++ after))) (q.says after quiet);
}

pub many_joined_no_key : {A : Type 0} {g : Grammar A} {ps qs : List Piece} {xs ys : List A} → SpellsNoKey (many g) ps xs → SpellsNoKey (many g) qs ys
    → ((after : List Lexeme) → NoKey after → NoKey (tokens qs ++ after)) → SpellsNoKey (many g) (ps ++ qs) (xs ++ ys)
many_joined_no_key {A} {g} {ps} {qs} {xs} {ys} p q k = record {
  alone = all_joined ps qs p.alone q.alone;
  says = λ after quiet. says_joined (Says g) (tokens (ps ++ qs) ++ after) (tokens qs ++ after) after xs ys
      (subst (λ (ls : List Lexeme). Says (many g) ls (tokens qs ++ after) xs) (sym (tokens_then ps qs after)) (p.says (tokens qs ++ after) (k after quiet))) (q.says after quiet);
}

pub just_one : {A : Type 0} {g : Grammar A} {ps : List Piece} {x : A} → Spells g ps x → Spells (many g) ps (x ∷ [])
just_one {A} {g} {ps} {x} p = record { alone = p.alone; says = λ after. (after, p.says after, refl) }

pub just_one_no_key : {A : Type 0} {g : Grammar A} {ps : List Piece} {x : A} → SpellsNoKey g ps x → SpellsNoKey (many g) ps (x ∷ [])
just_one_no_key {A} {g} {ps} {x} p = record { alone = p.alone; says = λ after quiet. (after, p.says after quiet, refl) }
