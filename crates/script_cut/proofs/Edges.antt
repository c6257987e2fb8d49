-- Behind blanks, comments and signs a text may be cut.
use Rattle.std.proofs.Common.{◌≡◌, ℕ, zero, suc, ◌+◌, ◌-◌, ◌<◌, ◌≤◌, Bool, true, false, cond, ◌&&◌, ◌||◌, List, [], ◌∷◌, length, drop, Option, Some, None, refl, sym, ap, subst, ◌∙◌, ◌⊎◌, inl, inr, arith}
use Rattle.std.specs.Prelude.{take_while, ◌==◌, slice_index, nat_lt}
use Rattle.std.specs.List.{prefix_len, list_all}
use Rattle.std.specs.Str.{IsUtf8, IsCharBoundary}
use Rattle.std.specs.Char.{is_ascii_digit}
use Rattle.std.proofs.lemmas.List.{length-take, length-drop}
use Rattle.std.proofs.lemmas.List.Sums.{take_while-cons}
use Rattle.std.proofs.lemmas.Bool.{eqb-true}
use Rattle.std.proofs.lemmas.Bool.Decides.{nat_tests}
use Rattle.std.proofs.lemmas.Str.{IsCharBoundary-after_ascii}
use lib.Seq.{get_or-drop}
use Rattle.dd_names.specs.Names.{is_name_byte}
use Rattle.sql_lex.specs.declared.token.TokenKind.TheVariants.{Word, Number, Quoted, Str, Sign}
use Rattle.sql_lex.specs.declared.piece.Shape.{Shape}
use Rattle.sql_lex.specs.declared.piece.Shape.TheVariants.{Blank, Comment, Opening, Closing, Lexeme, Stray, Unended}
use Rattle.sql_lex.specs.declared.piece.Piece.{Piece}
use Rattle.sql_lex.specs.declared.reach.Until.TheVariants.{CommentEnd, BackQuote, Quote}
use Rattle.sql_lex.specs.Bytes.{is_blank, is_sign, is_inside_line}
use Rattle.sql_lex.specs.Ends.{reach, longer, starts_with_2, starts_with_3}
use Rattle.sql_lex.specs.Pieces.{run, piece, ended, word_piece, quoted_piece, quoted_shape, string_piece, comment_piece, opening_piece, slash_piece, star_piece, is_dash_comment, line_piece, front, front_of}
use Rattle.script_cut.specs.Moves as moves

-- the byte before is ASCII, or the one that follows is, or nothing follows
abbrev pub IsEdge : List ℕ → ℕ → Type 0
IsEdge bs n = ((0 < n) × (n ≤ length bs) × (slice_index bs (n - 1) < 128)) ⊎ ((n ≤ length bs) × (n < length bs → slice_index bs n < 128))

abbrev pub has_edge : Shape → Bool
has_edge shape = moves.is_passed shape || moves.is_sign shape

abbrev pub OnEdge : List ℕ → Piece → Type 0
OnEdge bs p = has_edge p.shape ≡ true → IsEdge bs p.len

cond_on : (P : Piece → Type 0) (c : Bool) (x y : Piece) → (c ≡ true → P x) → (c ≡ false → P y) → P (cond c x y)
cond_on P true x y f g = f refl
cond_on P false x y f g = g refl

one_byte : (b : ℕ) (bs : List ℕ) → b < 128 → IsEdge (b ∷ bs) 1
one_byte b bs h = inl (omega arith, omega arith, h)

small_blank : (b : ℕ) → is_blank b ≡ true → b < 128
small_blank b h = grind (arith, nat_tests)

small_sign : (b : ℕ) → is_sign b ≡ true → b < 128
small_sign b h = grind (arith, nat_tests)

line_feed : (b : ℕ) → is_inside_line b ≡ false → b ≡ 10
line_feed b h = grind (arith, nat_tests)

-- ---- a comment to the end of its line

abbrev pub StopsSmall : List ℕ → Type 0
StopsSmall bs = length (take_while is_inside_line bs) < length bs → slice_index bs (length (take_while is_inside_line bs)) < 128

line_step : (b : ℕ) (bs : List ℕ) → StopsSmall bs → (v : Bool) → is_inside_line b ≡ v → StopsSmall (b ∷ bs)
line_step b bs h true e =
    let t : take_while is_inside_line (b ∷ bs) ≡ b ∷ take_while is_inside_line bs = take_while-cons is_inside_line b bs ∙ ap (λ (v : Bool). cond v (b ∷ take_while is_inside_line bs) []) e in
    subst (λ (x : List ℕ). length x < length (b ∷ bs) → slice_index (b ∷ bs) (length x) < 128) (sym t) (λ l. h (omega (arith, l)))
line_step b bs h false e =
    let t : take_while is_inside_line (b ∷ bs) ≡ [] = take_while-cons is_inside_line b bs ∙ ap (λ (v : Bool). cond v (b ∷ take_while is_inside_line bs) []) e in
    subst (λ (x : List ℕ). length x < length (b ∷ bs) → slice_index (b ∷ bs) (length x) < 128) (sym t) (λ l. let k : b ≡ 10 = line_feed b e in omega (arith, k))

line_end : (bs : List ℕ) → StopsSmall bs
line_end [] = λ h. absurd (omega (arith, h))
line_end (b ∷ bs) = line_step b bs (line_end bs) (is_inside_line b) refl

line_edge : (bs : List ℕ) → IsEdge bs (length (take_while is_inside_line bs))
line_edge bs = inr (omega (arith, length-take (prefix_len is_inside_line bs) bs), line_end bs)

-- ---- a comment in its marks

abbrev pub EndsInSlash : List ℕ → Option ℕ → Type 0
EndsInSlash bs None = Unit {0}
EndsInSlash bs (Some n) = (0 < n) × (n ≤ length bs) × (slice_index bs (n - 1) ≡ 47)

and_both : (a b : Bool) → (a && b) ≡ true → (a ≡ true) × (b ≡ true)
and_both true b e = (refl, e)
and_both false b e = absurd cc

one_more : (b : ℕ) (bs : List ℕ) (o : Option ℕ) → EndsInSlash bs o → EndsInSlash (b ∷ bs) (longer 1 o)
one_more b bs None h = tt
one_more b bs (Some zero) h = absurd (let k = h.0 in omega (arith, k))
one_more b bs (Some (suc n)) h =
    let e : 1 + suc n - 1 ≡ suc (suc n - 1) = omega arith in
    (omega arith, (let k = h.1 in omega (arith, k)), ap (slice_index (b ∷ bs)) e ∙ h.2)

two : (b : ℕ) (bs : List ℕ) → starts_with_2 42 47 (b ∷ bs) ≡ true → EndsInSlash (b ∷ bs) (Some 2)
two b [] e = absurd cc
two b (c ∷ cs) e = (omega arith, omega arith, eqb-true c 47 (and_both (b == 42) (c == 47) e).1)

comment_step : (b : ℕ) (bs : List ℕ) → EndsInSlash bs (reach CommentEnd bs 0) → (v : Bool) → starts_with_2 42 47 (b ∷ bs) ≡ v → EndsInSlash (b ∷ bs) (reach CommentEnd (b ∷ bs) 0)
comment_step b bs h true e = rw e (two b bs e)
comment_step b bs h false e = rw e (one_more b bs (reach CommentEnd bs 0) h)

comment_end : (bs : List ℕ) (k : ℕ) → EndsInSlash bs (reach CommentEnd bs k)
comment_end [] k = tt
comment_end (b ∷ bs) (suc k) = one_more b bs (reach CommentEnd bs k) (comment_end bs k)
comment_end (b ∷ bs) zero = comment_step b bs (comment_end bs 0) (starts_with_2 42 47 (b ∷ bs)) refl

behind_marks : (a b : ℕ) (bs : List ℕ) (o : Option ℕ) → EndsInSlash bs o → OnEdge (a ∷ b ∷ bs) (ended Comment 2 (length bs) o)
behind_marks a b bs None h e = absurd cc
behind_marks a b bs (Some zero) h e = absurd (let k = h.0 in omega (arith, k))
behind_marks a b bs (Some (suc n)) h e =
    let i : 2 + suc n - 1 ≡ suc (suc (suc n - 1)) = omega arith in
    let last : slice_index (a ∷ b ∷ bs) (2 + suc n - 1) ≡ 47 = ap (slice_index (a ∷ b ∷ bs)) i ∙ h.2 in
    let k = h.1 in inl (omega arith, omega (arith, k), omega (arith, last))

-- ---- each piece

comment_edge : (a b : ℕ) (bs : List ℕ) → OnEdge (a ∷ b ∷ bs) (comment_piece bs)
unfolding comment_piece
comment_edge a b bs = behind_marks a b bs (reach CommentEnd bs 0) (comment_end bs 0)

opening_edge : (bs rest : List ℕ) → OnEdge bs (opening_piece rest)
unfolding opening_piece
opening_edge bs rest e = absurd cc

slash_comment : (bs : List ℕ) → starts_with_2 47 42 bs ≡ true → OnEdge bs (comment_piece (drop 2 bs))
slash_comment [] e = absurd cc
slash_comment (a ∷ []) e = absurd cc
slash_comment (a ∷ b ∷ bs) e = comment_edge a b bs

slash_edge : (inside : Bool) (bs : List ℕ) → OnEdge bs (slash_piece inside bs)
unfolding slash_piece
slash_edge inside bs =
    let P : Piece → Type 0 = OnEdge bs in
    cond_on P (starts_with_3 47 42 33 bs) _ _ (λ h. cond_on P inside _ _ (λ k e. absurd cc) (λ k. opening_edge bs (drop 3 bs))) (λ h.
    cond_on P (starts_with_2 47 42 bs) _ _ (λ k. slash_comment bs k) (λ k e. absurd cc))

star_edge : (inside : Bool) (b : ℕ) (bs : List ℕ) → b < 128 → OnEdge (b ∷ bs) (star_piece inside (b ∷ bs))
unfolding star_piece
star_edge inside b bs small = cond_on (OnEdge (b ∷ bs)) (inside && starts_with_2 42 47 (b ∷ bs)) _ _ (λ h e. absurd cc) (λ h e. one_byte b bs small)

no_word : (bs : List ℕ) (n : ℕ) (c : Bool) → OnEdge bs (piece (Lexeme (cond c Number Word)) n)
no_word bs n true e = absurd cc
no_word bs n false e = absurd cc

word_edge : (bs rest : List ℕ) → OnEdge bs (word_piece rest)
unfolding word_piece
word_edge bs rest = no_word bs (length (run rest)) (list_all is_ascii_digit (run rest))

no_name : (bs : List ℕ) (n : ℕ) (c : Bool) → OnEdge bs (piece (cond c (Lexeme Quoted) Stray) n)
no_name bs n true e = absurd cc
no_name bs n false e = absurd cc

quoted_edge_by : (bs rest : List ℕ) (o : Option ℕ) → OnEdge bs (ended (quoted_shape rest o) 1 (length rest) o)
unfolding quoted_shape
quoted_edge_by bs rest None = λ e. absurd cc
quoted_edge_by bs rest (Some n) = no_name bs (1 + n) (nat_lt 0 (length (run rest)) && n == length (run rest) + 1)

quoted_edge : (bs rest : List ℕ) → OnEdge bs (quoted_piece rest)
unfolding quoted_piece
quoted_edge bs rest = quoted_edge_by bs rest (reach BackQuote rest 0)

string_edge_by : (bs : List ℕ) (n : ℕ) (o : Option ℕ) → OnEdge bs (ended (Lexeme Str) 1 n o)
string_edge_by bs n None e = absurd cc
string_edge_by bs n (Some m) e = absurd cc

string_edge : (q : ℕ) (bs rest : List ℕ) → OnEdge bs (string_piece q rest)
unfolding string_piece
string_edge q bs rest = string_edge_by bs (length rest) (reach (Quote q) rest 0)

line_piece_edge : (bs : List ℕ) → OnEdge bs (line_piece bs)
unfolding line_piece
line_piece_edge bs e = line_edge bs

front_edge : (inside : Bool) (b : ℕ) (bs : List ℕ) → OnEdge (b ∷ bs) (front inside b bs)
unfolding front
front_edge inside b bs =
    let P : Piece → Type 0 = OnEdge (b ∷ bs) in
    cond_on P (is_blank b) _ _ (λ h e. one_byte b bs (small_blank b h)) (λ _.
    cond_on P (b == 35 || is_dash_comment (b ∷ bs)) _ _ (λ h. line_piece_edge (b ∷ bs)) (λ _.
    cond_on P (b == 47) _ _ (λ h. slash_edge inside (b ∷ bs)) (λ _.
    cond_on P (b == 42) _ _ (λ h. star_edge inside b bs (let e = eqb-true b 42 h in omega (arith, e))) (λ _.
    cond_on P (is_name_byte b) _ _ (λ h. word_edge (b ∷ bs) (b ∷ bs)) (λ _.
    cond_on P (b == 96) _ _ (λ h. quoted_edge (b ∷ bs) bs) (λ _.
    cond_on P (b == 39 || b == 34) _ _ (λ h. string_edge b (b ∷ bs) bs) (λ _.
    cond_on P (is_sign b) _ _ (λ h e. one_byte b bs (small_sign b h)) (λ h e. absurd cc))))))))

edge_of : (inside : Bool) (bs : List ℕ) → 0 < length bs → OnEdge bs (front_of inside bs)
edge_of inside [] h = absurd (omega arith)
edge_of inside (b ∷ bs) h = front_edge inside b bs

-- ---- in the whole text

cut_behind : (text : List ℕ) (at n : ℕ) → IsUtf8 text → at < length text → IsEdge (drop at text) n → IsCharBoundary text (at + n)
cut_behind text at zero u l (inl h) = absurd (let k = h.0 in omega (arith, k))
cut_behind text at (suc n) u l (inl h) =
    let k = h.1 in
    let i : at + (suc n - 1) ≡ at + n = omega arith in
    let e : slice_index text (at + n) ≡ slice_index (drop at text) (suc n - 1) = ap (slice_index text) (sym i) ∙ sym (get_or-drop at text (suc n - 1) 0) in
    let small = h.2 in
    let j : at + n + 1 ≡ at + suc n = omega arith in
    subst (IsCharBoundary text) j (IsCharBoundary-after_ascii text (at + n) u (omega (arith, k, l, length-drop at text)) (omega (arith, e, small)))
cut_behind text at n u l (inr h) =
    let k = h.0 in (
      omega (arith, k, l, length-drop at text),
      λ below big. let small = h.1 (omega (arith, below, length-drop at text)) in let e = get_or-drop at text n 0 in omega (arith, small, e, big),
    )

-- behind a piece with an edge the text may be cut
pub may_cut : (inside : Bool) (text : List ℕ) (at : ℕ) (p : Piece) → IsUtf8 text → at < length text → p ≡ front_of inside (drop at text) → has_edge p.shape ≡ true → IsCharBoundary text (at + p.len)
may_cut inside text at p u l e h =
    cut_behind text at p.len u l
    (subst (λ (q : Piece). IsEdge (drop at text) q.len) (sym e) (edge_of inside (drop at text) (omega (arith, l, length-drop at text)) (subst (λ (q : Piece). has_edge q.shape ≡ true) e h)))
