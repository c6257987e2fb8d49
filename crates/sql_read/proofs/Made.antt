-- The tokens of a text have what their kinds say.
use Rattle.std.proofs.Common.{◌≡◌, ℕ, zero, suc, ◌+◌, ◌-◌, ◌<◌, Bool, true, false, cond, ◌&&◌, ◌||◌, not, List, [], ◌∷◌, length, drop, get_or, Option, Some, refl, sym, ap, subst, ◌∙◌, arith}
use Rattle.std.specs.List.{All}
use Rattle.std.specs.Str.{IsUtf8}
use Rattle.std.proofs.lemmas.Str.{IsUtf8-drop, IsCharBoundary-before_ascii}
use Rattle.std.proofs.lemmas.List.Elements.{All-nil, All-cons}
use Rattle.std.proofs.lemmas.List.{drop-drop, length-drop, get_or-drop}
use Rattle.sql_lex.specs.declared.token.Token.{Token}
use Rattle.sql_lex.specs.declared.token.TokenKind.{TokenKind}
use Rattle.sql_lex.specs.declared.token.TokenKind.TheVariants.{Word, Number, Quoted, Str, Sign}
use Rattle.sql_lex.specs.declared.piece.Shape.{Shape}
use Rattle.sql_lex.specs.declared.piece.Shape.TheVariants as shapes
use Rattle.sql_lex.specs.declared.piece.Piece.{Piece}
use Rattle.sql_lex.specs.Pieces.{front, after, cut}
use Rattle.sql_lex.specs.Lexing.{is_bad, is_opening, has_closing, with_token, lexed, tokens_of}
use Rattle.sql_lex.specs.Texts.{lexeme_at, lexeme_of}
use Rattle.sql_lex.proofs.Cuts.{front_within}
use Rattle.sql_lex.proofs.Lie.{tokens_lie}
use Rattle.sql_read.specs.Tokens.{IsTokenOf, is_of_kind}
use Rattle.sql_read.proofs.FrontKinds.{has_kind, has_shape, front_has}

abbrev IsKept : List ℕ → Token → Type 0
IsKept text t = is_of_kind (lexeme_of text t) ≡ true

abbrev Kept : List ℕ → List Token × Option ℕ → Type 0
Kept text r = All (IsKept text) r.0

kept : (kind : TokenKind) (text bs : List ℕ) (at n : ℕ) → drop at text ≡ bs → has_kind kind n bs ≡ true → is_of_kind (lexeme_at kind text at (at + n)) ≡ true
kept Word text bs at n e h = let k : at + n - at ≡ n = omega arith in rw (k, e) h
kept Number text bs at n e h = let k : at + n - at ≡ n = omega arith in rw (k, e) h
kept Quoted text bs at n e h =
    let k : at + n - 1 - (at + 1) ≡ n - 2 = omega arith in
    let d : drop (at + 1) text ≡ drop 1 bs = sym (drop-drop 1 at text) ∙ ap (drop 1) e in
    rw (k, d) h
kept Str text bs at n e h = let k : at + n - at ≡ n = omega arith in rw (k, e) h
kept Sign text bs at n e h = refl

one_more : (s : Shape) (text bs : List ℕ) (at n : ℕ) (r : List Token × Option ℕ) → drop at text ≡ bs → has_shape s n bs ≡ true → Kept text r → Kept text (with_token s at (at + n) r)
one_more (shapes.Lexeme kind) text bs at n r e h k = All-cons (IsKept text) (record { kind = kind; from = at; to = at + n }) r.0 (kept kind text bs at n e h) k
one_more shapes.Blank text bs at n r e h k = k
one_more shapes.Comment text bs at n r e h k = k
one_more shapes.Opening text bs at n r e h k = k
one_more shapes.Closing text bs at n r e h k = k
one_more shapes.Stray text bs at n r e h k = k
one_more shapes.Unended text bs at n r e h k = k

stops : (c : Bool) (text : List ℕ) (at : ℕ) (r : List Token × Option ℕ) → Kept text r → Kept text (cond c ([], Some at) r)
stops true text at r h = All-nil (IsKept text)
stops false text at r h = h

behind : (text bs : List ℕ) (b at : ℕ) → drop at text ≡ b ∷ bs → drop (at + 1) text ≡ bs
behind text bs b at e = sym (drop-drop 1 at text) ∙ ap (drop 1) e

-- the text may be cut before an ASCII byte
text_from : (text bs : List ℕ) (b at : ℕ) → IsUtf8 text → drop at text ≡ b ∷ bs → b < 128 → IsUtf8 (b ∷ bs)
text_from text bs b at u e s =
    let there : get_or text (at + 0) 0 ≡ b = sym (get_or-drop at text 0 0) ∙ ap (λ (x : List ℕ). get_or x 0 0) e in
    let zero_more : at + 0 ≡ at = omega arith in
    let first : get_or text at 0 ≡ b = rw zero_more at there in
    subst IsUtf8 e (IsUtf8-drop text at u (IsCharBoundary-before_ascii text at (omega (arith, ap length e, length-drop at text)) (omega (arith, first))))

-- the bytes that are left begin at a place, and the next piece k bytes behind it
each_kept : (text bs : List ℕ) (k : ℕ) (inside : Bool) (place at : ℕ) → IsUtf8 text → drop place text ≡ bs → place + k ≡ at → Kept text (lexed at (cut bs k inside))
each_kept text [] k inside place at u e h = All-nil (IsKept text)
each_kept text (b ∷ bs) (suc k) inside place at u e h = each_kept text bs k inside (place + 1) at u (behind text bs b place e) (omega (arith, h))
each_kept text (b ∷ bs) zero inside place at u e h =
    let p : Piece = front inside b bs in
    let w = (front_within inside b bs).0 in
    let ps : List Piece = cut bs (p.len - 1) (after inside p.shape) in
    let q : place ≡ at = omega (arith, h) in
    let here = subst (λ (n : ℕ). drop n text ≡ b ∷ bs) q e in
    stops (is_bad p.shape || (is_opening p.shape && not (has_closing ps))) text at (with_token p.shape at (at + p.len) (lexed (at + p.len) ps))
    (one_more p.shape text (b ∷ bs) at p.len (lexed (at + p.len) ps) here (front_has inside b bs (text_from text bs b at u here))
    (each_kept text bs (p.len - 1) (after inside p.shape) (at + 1) (at + p.len) u (behind text bs b at here) (omega (arith, w))))

pub tokens_are_of_text : (text : List ℕ) (r : List Token × Option ℕ) → IsUtf8 text → r ≡ tokens_of text → All (IsTokenOf text) r.0
tokens_are_of_text text r u e =
    let lie = tokens_lie text r e in
    let have = subst (Kept text) (sym e) (each_kept text text 0 false 0 0 u refl refl) in
    λ k d l. record { span = lie k d l; kind = have k d l }
