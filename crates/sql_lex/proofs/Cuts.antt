-- A piece takes at least one byte, and no more than there are.
use Rattle.std.proofs.Common.{◌≡◌, ℕ, zero, suc, ◌+◌, ◌-◌, ◌<◌, ◌≤◌, Bool, true, false, cond, ◌&&◌, ◌||◌, List, [], ◌∷◌, length, take, drop, ltb, Option, Some, None, refl, sym, ap, subst, ◌∙◌, ◌⊎◌, inl, inr, arith}
use Rattle.std.specs.Prelude.{take_while, ◌==◌}
use Rattle.std.specs.List.{prefix_len, list_all}
use Rattle.std.proofs.lemmas.List.{length-take, length-drop}
use Rattle.std.proofs.lemmas.List.Sums.{take_while-cons}
use Rattle.std.proofs.lemmas.Bool.{eqb-true}
use Rattle.sql_lex.specs.declared.token.TokenKind.TheVariants.{Word, Number, Quoted, Str, Sign}
use Rattle.sql_lex.specs.declared.piece.Shape.{Shape}
use Rattle.sql_lex.specs.declared.piece.Shape.TheVariants.{Blank, Comment, Opening, Closing, Lexeme, Stray, Unended}
use Rattle.sql_lex.specs.declared.piece.Piece.{Piece}
use Rattle.sql_lex.specs.declared.reach.Until.TheVariants.{CommentEnd, BackQuote, Quote}
use Rattle.sql_lex.specs.Spans.{is_quoted}
use Rattle.std.specs.Char.{is_ascii_digit}
use Rattle.dd_names.specs.Names.{is_name_byte}
use Rattle.sql_lex.specs.Bytes.{is_blank, is_sign, is_inside_line}
use Rattle.sql_lex.specs.Ends.{reach, starts_with_2, starts_with_3}
use Rattle.sql_lex.specs.Pieces.{run, piece, ended, word_piece, quoted_piece, quoted_shape, string_piece, comment_piece, opening_piece, slash_piece, star_piece, is_dash_comment, line_piece, front, front_of, after, cut}
use Rattle.sql_lex.proofs.Fronts.{two_there, three_there}
use Rattle.sql_lex.proofs.Reaches.{OnLen, reach_within}

-- what has quotes
abbrev pub is_wide : Shape → Bool
is_wide (Lexeme kind) = is_quoted kind
is_wide _ = false

abbrev pub OnPiece : ℕ → Piece → Type 0
OnPiece n p = (0 < p.len) × (p.len ≤ n) × (is_wide p.shape ≡ true → 2 ≤ p.len)

cond_on : (P : Piece → Type 0) (c : Bool) (x y : Piece) → (c ≡ true → P x) → (c ≡ false → P y) → P (cond c x y)
cond_on P true x y f g = f refl
cond_on P false x y f g = g refl

fits_front : (p : ℕ → Bool) (bs : List ℕ) → length (take_while p bs) ≤ length bs
fits_front p bs = omega (arith, length-take (prefix_len p bs) bs)

takes_front : (p : ℕ → Bool) (b : ℕ) (bs : List ℕ) → p b ≡ true → 0 < length (take_while p (b ∷ bs))
takes_front p b bs h = rw (take_while-cons, h) (omega arith)

and_both : (a b : Bool) → (a && b) ≡ true → (a ≡ true) × (b ≡ true)
and_both true b e = (refl, e)
and_both false b e = absurd cc

or_cases : (a b : Bool) → (a || b) ≡ true → (a ≡ true) ⊎ (b ≡ true)
or_cases true b e = inl refl
or_cases false b e = inr e

dash : (b : ℕ) (bs : List ℕ) → is_dash_comment (b ∷ bs) ≡ true → b ≡ 45
dash b [] h = absurd cc
dash b (c ∷ []) h = eqb-true b 45 (and_both (b == 45) (c == 45) h).0
dash b (c ∷ d ∷ bs) h = eqb-true b 45 (and_both (b == 45) (c == 45) (and_both (b == 45 && c == 45) (is_blank d) h).0).0

line_start : (b : ℕ) (bs : List ℕ) → (b == 35 || is_dash_comment (b ∷ bs)) ≡ true → is_inside_line b ≡ true
line_start b bs h = elim (or_cases (b == 35) (is_dash_comment (b ∷ bs)) h) [ inl k ↦ let e = eqb-true b 35 k in rw e refl | inr k ↦ let e = dash b bs k in rw e refl ]

ended_within : (s : Shape) (k rest n : ℕ) (o : Option ℕ) → OnLen rest o → 0 < k → k + rest ≤ n → OnPiece n (ended s k rest o)
ended_within s k rest n None h p l = (omega arith, l, λ e. absurd cc)
ended_within s k rest n (Some m) h p l = let a = h.0 in let b = h.1 in (omega arith, omega (arith, b, l), λ e. omega (arith, a, p))

opening_len : (c : Bool) (bs : List ℕ) → (length (take 5 bs) == 5 && c) ≡ true → 5 ≤ length bs
opening_len c bs h = let e = eqb-true (length (take 5 bs)) 5 (and_both (length (take 5 bs) == 5) c h).0 in omega (arith, e, length-take 5 bs)

len_on : (n : ℕ) (c : Bool) (x y : ℕ) → (c ≡ true → (0 < x) × (x ≤ n)) → (c ≡ false → (0 < y) × (y ≤ n)) → (0 < cond c x y) × (cond c x y ≤ n)
len_on n true x y f g = f refl
len_on n false x y f g = g refl

with_third : (n k : ℕ) → (0 < k) × (k ≤ n) → OnPiece n (piece Opening k)
with_third n k h = (h.0, h.1, λ e. absurd cc)

opening_within : (n : ℕ) (bs : List ℕ) → 3 + length bs ≤ n → OnPiece n (opening_piece bs)
unfolding opening_piece
opening_within n bs h = with_third n (cond (length (take 5 bs) == 5 && list_all is_ascii_digit (take 5 bs)) 8 3) (len_on n (length (take 5 bs) == 5 && list_all is_ascii_digit (take 5 bs)) 8 3
    (λ e. (omega arith, let k = opening_len (list_all is_ascii_digit (take 5 bs)) bs e in omega (arith, k, h))) (λ e. (omega arith, omega (arith, h))))

comment_within : (n : ℕ) (bs : List ℕ) → 2 + length bs ≤ n → OnPiece n (comment_piece bs)
unfolding comment_piece
comment_within n bs h = ended_within Comment 2 (length bs) n (reach CommentEnd bs 0) (reach_within CommentEnd bs 0) (omega arith) h

slash_within : (inside : Bool) (bs : List ℕ) → 0 < length bs → OnPiece (length bs) (slash_piece inside bs)
unfolding slash_piece
slash_within inside bs pos =
    let P : Piece → Type 0 = OnPiece (length bs) in
    cond_on P (starts_with_3 47 42 33 bs) _ _ (λ h. cond_on P inside _ _ (λ k. (omega arith, omega (arith, pos), λ e. absurd cc)) (λ k.
    let l = three_there 47 42 33 bs h in opening_within (length bs) (drop 3 bs) (omega (arith, l, length-drop 3 bs)))) (λ h.
    cond_on P (starts_with_2 47 42 bs) _ _ (λ k. let l = two_there 47 42 bs k in comment_within (length bs) (drop 2 bs) (omega (arith, l, length-drop 2 bs))) (λ k. (omega arith, omega (arith, pos), λ e. absurd cc)))

star_within : (inside : Bool) (bs : List ℕ) → 0 < length bs → OnPiece (length bs) (star_piece inside bs)
unfolding star_piece
star_within inside bs pos =
    cond_on (OnPiece (length bs)) (inside && starts_with_2 42 47 bs) _ _ (λ h. let l = two_there 42 47 bs (and_both inside (starts_with_2 42 47 bs) h).1 in (omega arith, l, λ e. absurd cc)) (λ h. (omega arith, omega (arith, pos), λ e. absurd cc))

no_quotes : {A : Type 0} (c : Bool) → is_wide (Lexeme (cond c Number Word)) ≡ true → A
no_quotes true e = absurd cc
no_quotes false e = absurd cc

pub front_within : (inside : Bool) (b : ℕ) (bs : List ℕ) → OnPiece (length (b ∷ bs)) (front inside b bs)
unfolding front word_piece quoted_piece string_piece line_piece run
front_within inside b bs =
    let P : Piece → Type 0 = OnPiece (length (b ∷ bs)) in
    cond_on P (is_blank b) _ _ (λ h. (omega arith, omega arith, λ e. absurd cc)) (λ h0.
    cond_on P (b == 35 || is_dash_comment (b ∷ bs)) _ _ (λ h. (takes_front is_inside_line b bs (line_start b bs h), fits_front is_inside_line (b ∷ bs), λ e. absurd cc)) (λ h1.
    cond_on P (b == 47) _ _ (λ h. slash_within inside (b ∷ bs) (omega arith)) (λ h2.
    cond_on P (b == 42) _ _ (λ h. star_within inside (b ∷ bs) (omega arith)) (λ h3.
    cond_on P (is_name_byte b) _ _ (λ h. (takes_front is_name_byte b bs h, fits_front is_name_byte (b ∷ bs), no_quotes (list_all is_ascii_digit (take_while is_name_byte (b ∷ bs))))) (λ h4.
    cond_on P (b == 96) _ _ (λ h. ended_within (quoted_shape bs (reach BackQuote bs 0)) 1 (length bs) (length (b ∷ bs)) (reach BackQuote bs 0) (reach_within BackQuote bs 0) (omega arith) (omega arith)) (λ h5.
    cond_on P (b == 39 || b == 34) _ _ (λ h. ended_within (Lexeme Str) 1 (length bs) (length (b ∷ bs)) (reach (Quote b) bs 0) (reach_within (Quote b) bs 0) (omega arith) (omega arith)) (λ h6.
    cond_on P (is_sign b) _ _ (λ h. (omega arith, omega arith, λ e. absurd cc)) (λ h7. (omega arith, omega arith, λ e. absurd cc)))))))))

pub of_within : (inside : Bool) (bs : List ℕ) → 0 < length bs → OnPiece (length bs) (front_of inside bs)
of_within inside [] h = absurd (omega arith)
of_within inside (b ∷ bs) h = front_within inside b bs

pub cut_skip : (bs : List ℕ) (k : ℕ) (inside : Bool) → cut bs k inside ≡ cut (drop k bs) 0 inside
cut_skip [] zero inside = refl
cut_skip [] (suc k) inside = refl
cut_skip (b ∷ bs) zero inside = refl
cut_skip (b ∷ bs) (suc k) inside = cut_skip bs k inside

-- the first piece, and then those of what follows it
first_cut : (b : ℕ) (bs : List ℕ) (n : ℕ) (inside : Bool) → 0 < n → cut bs (n - 1) inside ≡ cut (drop n (b ∷ bs)) 0 inside
first_cut b bs zero inside h = absurd (omega arith)
first_cut b bs (suc n) inside h = let e : suc n - 1 ≡ n = omega arith in rw e (cut_skip bs n inside)

abbrev cons : Piece → List Piece → List Piece
cons p ps = p ∷ ps

pub cut_front : (inside : Bool) (bs : List ℕ) → 0 < length bs → cut bs 0 inside ≡ front_of inside bs ∷ cut (drop (front_of inside bs).len bs) 0 (after inside (front_of inside bs).shape)
cut_front inside [] h = absurd (omega arith)
cut_front inside (b ∷ bs) h = ap (cons (front inside b bs)) (first_cut b bs (front inside b bs).len (after inside (front inside b bs).shape) (front_within inside b bs).0)
