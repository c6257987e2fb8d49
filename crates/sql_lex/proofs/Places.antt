-- Pieces at their places, and the loop that collects tokens.
use Rattle.std.proofs.Common.{◌≡◌, ℕ, zero, suc, ◌+◌, ◌-◌, ◌<◌, ◌≤◌, Bool, true, false, cond, ◌&&◌, ◌||◌, not, List, [], ◌∷◌, ◌++◌, length, drop, Option, Some, None, refl, sym, ap, subst, ◌∙◌, ◌⊎◌, inl, inr, append_assoc, arith}
use Rattle.std.proofs.lemmas.List.{length-drop, drop-drop, append-nil}
use Rattle.sql_lex.specs.declared.token.Token.{Token}
use Rattle.sql_lex.specs.declared.token.TokenKind.{TokenKind}
use Rattle.sql_lex.specs.declared.piece.Shape.{Shape}
use Rattle.sql_lex.specs.declared.piece.Shape.TheVariants as shapes
use Rattle.sql_lex.specs.declared.piece.Piece.{Piece}
use Rattle.sql_lex.specs.declared.lex.Next.{Next}
use Rattle.sql_lex.specs.declared.lex.Next.TheVariants.{Bad, Gap, Lexeme}
use Rattle.sql_lex.specs.Pieces.{front_of, after, cut}
use Rattle.sql_lex.specs.Lexing.{is_bad, is_opening, is_closing, has_closing, with_token, lexed}
use Rattle.sql_lex.specs.Nexts.{next_shape, next_of}
use Rattle.sql_lex.proofs.Cuts.{OnPiece, of_within, cut_front}

pub place_within : (inside : Bool) (text : List ℕ) (at : ℕ) → at < length text → (0 < (front_of inside (drop at text)).len) × (at + (front_of inside (drop at text)).len ≤ length text)
place_within inside text at h =
    let w = of_within inside (drop at text) (omega (arith, h, length-drop at text)) in
    let k = w.1 in (w.0, omega (arith, h, k, length-drop at text))

abbrev pub rest_of : Bool → List ℕ → ℕ → List Piece
rest_of inside text at = cut (drop at text) 0 inside

abbrev cons : Piece → List Piece → List Piece
cons p ps = p ∷ ps

-- the pieces from a place on
pub pieces_at : (inside : Bool) (text : List ℕ) (at : ℕ) (p : Piece) → p ≡ front_of inside (drop at text) → at < length text
    → rest_of inside text at ≡ p ∷ rest_of (after inside p.shape) text (at + p.len)
pieces_at inside text at p e h =
    let d : drop p.len (drop at text) ≡ drop (at + p.len) text = drop-drop p.len at text in
    cut_front inside (drop at text) (omega (arith, h, length-drop at text))
    ∙ ap (λ (q : Piece). cons q (cut (drop q.len (drop at text)) 0 (after inside q.shape))) (sym e)
    ∙ ap (λ (x : List ℕ). cons p (cut x 0 (after inside p.shape))) d

no_more : (at : ℕ) (bs : List ℕ) → length bs ≤ at → drop at bs ≡ []
no_more zero [] h = refl
no_more zero (b ∷ bs) h = absurd (omega arith)
no_more (suc at) [] h = refl
no_more (suc at) (b ∷ bs) h = no_more at bs (omega arith)

pub pieces_end : (inside : Bool) (text : List ℕ) (at : ℕ) → length text ≤ at → rest_of inside text at ≡ []
pieces_end inside text at h = ap (λ (x : List ℕ). cut x 0 inside) (no_more at text h)

-- ---- whether it closes

pub closing_here : (inside : Bool) (text : List ℕ) (at : ℕ) (p : Piece) (total : Bool) → p ≡ front_of inside (drop at text) → at < length text → is_closing p.shape ≡ true → has_closing (rest_of inside text at) ≡ total → true ≡ total
closing_here inside text at p total e h c so_far =
    ap (λ (x : Bool). x || has_closing (rest_of (after inside p.shape) text (at + p.len))) (sym c) ∙ ap has_closing (sym (pieces_at inside text at p e h)) ∙ so_far

pub closing_later : (inside : Bool) (text : List ℕ) (at : ℕ) (p : Piece) (total : Bool) → p ≡ front_of inside (drop at text) → at < length text → is_closing p.shape ≡ false → has_closing (rest_of inside text at) ≡ total → has_closing (rest_of (after inside p.shape) text (at + p.len)) ≡ total
closing_later inside text at p total e h c so_far =
    ap (λ (x : Bool). x || has_closing (rest_of (after inside p.shape) text (at + p.len))) (sym c) ∙ ap has_closing (sym (pieces_at inside text at p e h)) ∙ so_far

pub closing_never : (inside : Bool) (text : List ℕ) (at : ℕ) (total : Bool) → length text ≤ at → has_closing (rest_of inside text at) ≡ total → false ≡ total
closing_never inside text at total h so_far = ap has_closing (sym (pieces_end inside text at h)) ∙ so_far

-- ---- the tokens

abbrev pub with_tokens : List Token → List Token × Option ℕ → List Token × Option ℕ
with_tokens front r = (front ++ r.0, r.1)

abbrev pub with_rest : Option ℕ → List Token → List Token × Option ℕ
with_rest o ts = (ts, o)

regroup : (front : List Token) (t : Token) (r : List Token × Option ℕ) → with_tokens (front ++ t ∷ []) r ≡ with_tokens front (with_tokens (t ∷ []) r)
regroup front t r = ap (with_rest r.1) (append_assoc front (t ∷ []) r.0)

-- how the tokens go on, by what stands next
abbrev pub Goes : Next → Bool → List ℕ → ℕ → Type 0
Goes Bad inside text at = lexed at (rest_of inside text at) ≡ ([], Some at)
Goes (Gap n later) inside text at = (0 < n) × (at + n ≤ length text) × (lexed at (rest_of inside text at) ≡ lexed (at + n) (rest_of later text (at + n)))
Goes (Lexeme kind n) inside text at = (0 < n) × (at + n ≤ length text) × (lexed at (rest_of inside text at) ≡ with_tokens (record { kind = kind; from = at; to = at + n } ∷ []) (lexed (at + n) (rest_of inside text (at + n))))

shape_goes : (s : Shape) (n : ℕ) (inside : Bool) (text : List ℕ) (at : ℕ) → 0 < n → at + n ≤ length text
    → lexed at (rest_of inside text at) ≡ with_token s at (at + n) (lexed (at + n) (rest_of (after inside s) text (at + n))) → Goes (next_shape inside s n) inside text at
shape_goes (shapes.Lexeme kind) n inside text at p l e = (p, l, e)
shape_goes shapes.Blank n inside text at p l e = (p, l, e)
shape_goes shapes.Comment n inside text at p l e = (p, l, e)
shape_goes shapes.Opening n inside text at p l e = (p, l, e)
shape_goes shapes.Closing n inside text at p l e = (p, l, e)
shape_goes shapes.Stray n inside text at p l e = (p, l, e)
shape_goes shapes.Unended n inside text at p l e = (p, l, e)

choice : (c : Bool) (a : List Token × Option ℕ) (n : Next) (inside : Bool) (text : List ℕ) (at : ℕ)
    → lexed at (rest_of inside text at) ≡ cond c ([], Some at) a → (lexed at (rest_of inside text at) ≡ a → Goes n inside text at) → Goes (cond c Bad n) inside text at
choice true a n inside text at e f = e
choice false a n inside text at e f = f e

pub next_goes : (inside : Bool) (text : List ℕ) (at : ℕ) → at < length text
    → Goes (next_of inside (front_of inside (drop at text)) (has_closing (rest_of (after inside (front_of inside (drop at text)).shape) text (at + (front_of inside (drop at text)).len)))) inside text at
next_goes inside text at h =
    let p : Piece = front_of inside (drop at text) in
    let w = place_within inside text at h in
    choice (is_bad p.shape || (is_opening p.shape && not (has_closing (rest_of (after inside p.shape) text (at + p.len))))) _ (next_shape inside p.shape p.len) inside text at
    (ap (lexed at) (pieces_at inside text at p refl h)) (λ e. shape_goes p.shape p.len inside text at w.0 w.1 e)

pub end_is : (inside : Bool) (text : List ℕ) (at : ℕ) (front : List Token) (total : List Token × Option ℕ) → length text ≤ at → with_tokens front (lexed at (rest_of inside text at)) ≡ total → with_tokens front ([], None) ≡ total
end_is inside text at front total h so_far = ap (λ (ps : List Piece). with_tokens front (lexed at ps)) (sym (pieces_end inside text at h)) ∙ so_far

pub bad_is : (inside : Bool) (text : List ℕ) (at : ℕ) (front : List Token) (total : List Token × Option ℕ) → Goes Bad inside text at → with_tokens front (lexed at (rest_of inside text at)) ≡ total → with_rest (Some at) front ≡ total
bad_is inside text at front total g so_far = ap (with_rest (Some at)) (sym (append-nil front)) ∙ ap (with_tokens front) (sym g) ∙ so_far

pub gap_is : (inside later : Bool) (text : List ℕ) (at n : ℕ) (front : List Token) (total : List Token × Option ℕ) → Goes (Gap n later) inside text at → with_tokens front (lexed at (rest_of inside text at)) ≡ total → with_tokens front (lexed (at + n) (rest_of later text (at + n))) ≡ total
gap_is inside later text at n front total g so_far = ap (with_tokens front) (sym g.2) ∙ so_far

pub token_is : (inside : Bool) (kind : TokenKind) (text : List ℕ) (at n : ℕ) (front : List Token) (total : List Token × Option ℕ) → Goes (Lexeme kind n) inside text at → with_tokens front (lexed at (rest_of inside text at)) ≡ total
    → with_tokens (front ++ record { kind = kind; from = at; to = at + n } ∷ []) (lexed (at + n) (rest_of inside text (at + n))) ≡ total
token_is inside kind text at n front total g so_far =
    let t : Token = record { kind = kind; from = at; to = at + n } in
    regroup front t (lexed (at + n) (rest_of inside text (at + n))) ∙ ap (with_tokens front) (sym g.2) ∙ so_far

pub goes_by : (x : Next) (inside : Bool) (text : List ℕ) (at : ℕ) → at < length text
    → x ≡ next_of inside (front_of inside (drop at text)) (has_closing (rest_of (after inside (front_of inside (drop at text)).shape) text (at + (front_of inside (drop at text)).len)))
    → Goes x inside text at
goes_by x inside text at h e = subst (λ (y : Next). Goes y inside text at) (sym e) (next_goes inside text at h)
