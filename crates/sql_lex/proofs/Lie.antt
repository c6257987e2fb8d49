-- The tokens of a text lie in it.
use Rattle.std.proofs.Common.{◌≡◌, ℕ, zero, suc, ◌+◌, ◌-◌, ◌<◌, ◌≤◌, Bool, true, false, cond, ◌&&◌, ◌||◌, not, List, [], ◌∷◌, length, Option, Some, None, refl, sym, ap, subst, ◌∙◌, arith}
use Rattle.std.specs.List.{All}
use Rattle.std.proofs.lemmas.List.Elements.{All-nil, All-cons}
use Rattle.sql_lex.specs.declared.token.Token.{Token}
use Rattle.sql_lex.specs.declared.token.TokenKind.{TokenKind}
use Rattle.sql_lex.specs.Spans.{IsSpan, InOrder, is_quoted}
use Rattle.sql_lex.specs.declared.piece.Shape.{Shape}
use Rattle.sql_lex.specs.declared.piece.Shape.TheVariants as shapes
use Rattle.sql_lex.specs.declared.piece.Piece.{Piece}
use Rattle.sql_lex.specs.Pieces.{front, after, cut}
use Rattle.sql_lex.specs.Lexing.{is_bad, is_opening, has_closing, with_token, lexed, tokens_of}
use Rattle.sql_lex.proofs.Cuts.{OnPiece, is_wide, front_within}

abbrev Lie : ℕ → List Token × Option ℕ → Type 0
Lie n r = All (IsSpan n) r.0

span : (kind : TokenKind) (at k n : ℕ) → 0 < k → (is_quoted kind ≡ true → 2 ≤ k) → at + k ≤ n → IsSpan n (record { kind = kind; from = at; to = at + k })
span kind at k n p q w = record { some = omega (arith, p); quotes = λ e. let b = q e in omega (arith, b); within = w }

one_more : (s : Shape) (at k n : ℕ) (r : List Token × Option ℕ) → 0 < k → (is_wide s ≡ true → 2 ≤ k) → at + k ≤ n → Lie n r → Lie n (with_token s at (at + k) r)
one_more (shapes.Lexeme kind) at k n r p q w h = All-cons (IsSpan n) (record { kind = kind; from = at; to = at + k }) r.0 (span kind at k n p q w) h
one_more shapes.Blank at k n r p q w h = h
one_more shapes.Comment at k n r p q w h = h
one_more shapes.Opening at k n r p q w h = h
one_more shapes.Closing at k n r p q w h = h
one_more shapes.Stray at k n r p q w h = h
one_more shapes.Unended at k n r p q w h = h

stops : (c : Bool) (at n : ℕ) (r : List Token × Option ℕ) → Lie n r → Lie n (cond c ([], Some at) r)
stops true at n r h = All-nil (IsSpan n)
stops false at n r h = h

lie : (bs : List ℕ) (k : ℕ) (inside : Bool) (at n : ℕ) → k ≤ length bs → at + length bs ≤ n + k → Lie n (lexed at (cut bs k inside))
lie [] k inside at n h g = All-nil (IsSpan n)
lie (b ∷ bs) (suc k) inside at n h g = lie bs k inside at n (omega arith) (omega (arith, g))
lie (b ∷ bs) zero inside at n h g =
    let p : Piece = front inside b bs in
    let w = front_within inside b bs in
    let w0 = w.0 in
    let w1 = w.1 in
    let ps : List Piece = cut bs (p.len - 1) (after inside p.shape) in
    stops (is_bad p.shape || (is_opening p.shape && not (has_closing ps))) at n (with_token p.shape at (at + p.len) (lexed (at + p.len) ps))
    (one_more p.shape at p.len n (lexed (at + p.len) ps) w0 w.2 (omega (arith, g, w1)) (lie bs (p.len - 1) (after inside p.shape) (at + p.len) n (omega (arith, w0, w1)) (omega (arith, g, w0, w1))))

pub tokens_lie : (text : List ℕ) (r : List Token × Option ℕ) → r ≡ tokens_of text → All (IsSpan (length text)) r.0
tokens_lie text r e = subst (Lie (length text)) (sym e) (lie text 0 false 0 (length text) (omega arith) (omega arith))

-- ---- in order

later : (a b : ℕ) (ts : List Token) → a ≤ b → InOrder b ts → InOrder a ts
later a b [] h o = tt
later a b (t ∷ ts) h o = (let k = o.0 in omega (arith, h, k), o.1, o.2)

abbrev Ordered : ℕ → List Token × Option ℕ → Type 0
Ordered at r = InOrder at r.0

one_later : (s : Shape) (at k : ℕ) (r : List Token × Option ℕ) → 0 < k → Ordered (at + k) r → Ordered at (with_token s at (at + k) r)
one_later (shapes.Lexeme kind) at k r p o = (omega arith, omega (arith, p), o)
one_later shapes.Blank at k r p o = later at (at + k) r.0 (omega arith) o
one_later shapes.Comment at k r p o = later at (at + k) r.0 (omega arith) o
one_later shapes.Opening at k r p o = later at (at + k) r.0 (omega arith) o
one_later shapes.Closing at k r p o = later at (at + k) r.0 (omega arith) o
one_later shapes.Stray at k r p o = later at (at + k) r.0 (omega arith) o
one_later shapes.Unended at k r p o = later at (at + k) r.0 (omega arith) o

stops_ordered : (c : Bool) (at : ℕ) (r : List Token × Option ℕ) → Ordered at r → Ordered at (cond c ([], Some at) r)
stops_ordered true at r o = tt
stops_ordered false at r o = o

ordered : (bs : List ℕ) (k : ℕ) (inside : Bool) (at : ℕ) → Ordered at (lexed at (cut bs k inside))
ordered [] k inside at = tt
ordered (b ∷ bs) (suc k) inside at = ordered bs k inside at
ordered (b ∷ bs) zero inside at =
    let p : Piece = front inside b bs in
    let ps : List Piece = cut bs (p.len - 1) (after inside p.shape) in
    stops_ordered (is_bad p.shape || (is_opening p.shape && not (has_closing ps))) at (with_token p.shape at (at + p.len) (lexed (at + p.len) ps))
    (one_later p.shape at p.len (lexed (at + p.len) ps) (front_within inside b bs).0 (ordered bs (p.len - 1) (after inside p.shape) (at + p.len)))

pub tokens_in_order : (text : List ℕ) (r : List Token × Option ℕ) → r ≡ tokens_of text → InOrder 0 r.0
tokens_in_order text r e = subst (Ordered 0) (sym e) (ordered text 0 false 0)
