-- The loop that cuts an input.
use Rattle.std.proofs.Common.{◌≡◌, ℕ, ◌+◌, ◌-◌, ◌<◌, ◌≤◌, Bool, true, false, cond, ◌&&◌, ◌||◌, not, List, [], ◌∷◌, ◌++◌, length, drop, refl, sym, ap, subst, ◌∙◌, ◌⊎◌, inl, inr, append_assoc, arith}
use Rattle.std.specs.Prelude.{◌==◌, slice_index, slice_range}
use Rattle.std.specs.Str.{IsUtf8, IsCharBoundary}
use Rattle.std.proofs.lemmas.Bool.{eqb-true}
use Rattle.std.proofs.lemmas.List.{append-nil}
use Rattle.std.proofs.lemmas.Str.{IsCharBoundary-before_ascii}
use Rattle.sql_lex.specs.declared.piece.Shape.{Shape}
use Rattle.sql_lex.specs.declared.piece.Shape.TheVariants as shapes
use Rattle.sql_lex.specs.declared.piece.Piece.{Piece}
use Rattle.sql_lex.specs.Pieces.{front_of, after, cut}
use Rattle.sql_lex.proofs.Places.{rest_of, pieces_at, pieces_end, place_within}
use Rattle.script_cut.specs.declared.item.Item.{Item}
use Rattle.script_cut.specs.declared.item.Item.TheVariants.{SessionLine, BadLine, Statement, CutStatement, CutComment}
use Rattle.script_cut.specs.declared.moves.State.{State}
use Rattle.script_cut.specs.declared.moves.State.TheVariants.{Between, Within, Session, Named}
use Rattle.script_cut.specs.declared.moves.Move.{Move}
use Rattle.script_cut.specs.declared.moves.Move.TheVariants.{Goes, Makes, Ends}
use Rattle.script_cut.specs.Names.{is_plain_name}
use Rattle.script_cut.specs.Places.{is_inside}
use Rattle.script_cut.specs.Moves.{is_blank, is_passed, is_sign, is_word, is_semicolon, is_cut_comment, begins_line, is_line_name, is_line_feed, between, within, behind_session, behind_name, move_of}
use Rattle.script_cut.specs.Items.{follow, last_items, items_from, IsStatement, IsLine, IsItemOf}
use Rattle.script_cut.proofs.Edges.{may_cut, has_edge}

-- ---- where we are stands in the text

abbrev pub IsStateOf : List ℕ → State → ℕ → Type 0
IsStateOf text Between at = IsCharBoundary text at
IsStateOf text (Within from inside) at = (from ≤ at) × IsCharBoundary text from
IsStateOf text (Session line) at = Unit {0}
IsStateOf text (Named line from to) at = IsLine text from to

-- what a move leaves in front of this place
abbrev pub IsMoveOf : List ℕ → Move → ℕ → Type 0
IsMoveOf text (Goes next) at = IsStateOf text next at
IsMoveOf text (Makes item) at = IsItemOf text item × IsCharBoundary text at
IsMoveOf text (Ends item) at = IsItemOf text item

cond_on : (P : Move → Type 0) (c : Bool) (x y : Move) → (c ≡ true → P x) → (c ≡ false → P y) → P (cond c x y)
cond_on P true x y f g = f refl
cond_on P false x y f g = g refl

both : (a b : Bool) → (a && b) ≡ true → (a ≡ true) × (b ≡ true)
both true b h = (refl, h)
both false b h = absurd cc

either : (a b : Bool) → (a || b) ≡ true → (a ≡ true) ⊎ (b ≡ true)
either true b h = inl refl
either false b h = inr h

false_not : (a : Bool) → not a ≡ false → a ≡ true
false_not true h = refl
false_not false h = absurd cc

passed_edge : (s : Shape) → is_passed s ≡ true → has_edge s ≡ true
passed_edge s h = ap (λ (v : Bool). v || is_sign s) h

sign_edge : (s : Shape) → is_sign s ≡ true → has_edge s ≡ true
sign_edge (shapes.Lexeme kind) h = h
sign_edge shapes.Blank h = absurd cc
sign_edge shapes.Comment h = absurd cc
sign_edge shapes.Opening h = absurd cc
sign_edge shapes.Closing h = absurd cc
sign_edge shapes.Stray h = absurd cc
sign_edge shapes.Unended h = absurd cc

blank_edge : (s : Shape) → is_blank s ≡ true → has_edge s ≡ true
blank_edge shapes.Blank h = refl
blank_edge (shapes.Lexeme kind) h = absurd cc
blank_edge shapes.Comment h = absurd cc
blank_edge shapes.Opening h = absurd cc
blank_edge shapes.Closing h = absurd cc
blank_edge shapes.Stray h = absurd cc
blank_edge shapes.Unended h = absurd cc

semicolon_edge : (text : List ℕ) (at : ℕ) (s : Shape) → is_semicolon text at s ≡ true → has_edge s ≡ true
unfolding is_semicolon
semicolon_edge text at s h = sign_edge s (both (is_sign s) (slice_index text at == 59) h).0

semicolon_there : (text : List ℕ) (at : ℕ) (s : Shape) → is_semicolon text at s ≡ true → slice_index text at ≡ 59
unfolding is_semicolon
semicolon_there text at s h = eqb-true (slice_index text at) 59 (both (is_sign s) (slice_index text at == 59) h).1

skip_edge : (text : List ℕ) (at : ℕ) (s : Shape) → (is_passed s || is_semicolon text at s) ≡ true → has_edge s ≡ true
skip_edge text at s h = elim (either (is_passed s) (is_semicolon text at s) h) [ inl k ↦ passed_edge s k | inr k ↦ semicolon_edge text at s k ]

line_name : (text : List ℕ) (at : ℕ) (p : Piece) → is_line_name text at p ≡ true → is_plain_name (slice_range text at (at + p.len)) ≡ true
unfolding is_line_name
line_name text at p h = (both (is_word p.shape) (is_plain_name (slice_range text at (at + p.len))) h).1

between_stands : (text : List ℕ) (at : ℕ) (p : Piece) → (has_edge p.shape ≡ true → IsCharBoundary text (at + p.len)) → IsCharBoundary text at → IsMoveOf text (between text at p) (at + p.len)
unfolding between
between_stands text at p edge b =
    let P : Move → Type 0 = λ m. IsMoveOf text m (at + p.len) in
    cond_on P (is_passed p.shape || is_semicolon text at p.shape) _ _ (λ h. edge (skip_edge text at p.shape h)) (λ _.
    cond_on P (is_cut_comment text at p.shape) _ _ (λ h. tt) (λ _.
    cond_on P (begins_line text at p) _ _ (λ h. tt) (λ _. (omega arith, b))))

within_stands : (text : List ℕ) (from : ℕ) (inside : Bool) (at : ℕ) (p : Piece) → (has_edge p.shape ≡ true → IsCharBoundary text (at + p.len)) → at < length text → (from ≤ at) × IsCharBoundary text from
    → IsMoveOf text (within text from inside at p) (at + p.len)
unfolding within
within_stands text from inside at p edge l s =
    let k = s.0 in
    cond_on (λ m. IsMoveOf text m (at + p.len)) (not inside && is_semicolon text at p.shape) _ _
    (λ h.
    let semi = (both (not inside) (is_semicolon text at p.shape) h).1 in
    let e = semicolon_there text at p.shape semi in
    (record { order = s.0; begins = s.1; ends = IsCharBoundary-before_ascii text at l (omega (arith, e)) }, edge (semicolon_edge text at p.shape semi)))
    (λ h. (omega (arith, k), s.1))

session_stands : (text : List ℕ) (line at : ℕ) (p : Piece) → at + p.len ≤ length text → IsMoveOf text (behind_session text line at p) (at + p.len)
unfolding behind_session
session_stands text line at p w =
    let P : Move → Type 0 = λ m. IsMoveOf text m (at + p.len) in
    cond_on P (is_blank p.shape && not (is_line_feed text at)) _ _ (λ h. tt) (λ _.
    cond_on P (is_line_name text at p) _ _ (λ h. record { order = omega arith; within = w; name = line_name text at p h }) (λ _. tt))

named_stands : (text : List ℕ) (line from to at : ℕ) (p : Piece) → (has_edge p.shape ≡ true → IsCharBoundary text (at + p.len)) → IsLine text from to → IsMoveOf text (behind_name text line from to at p) (at + p.len)
unfolding behind_name
named_stands text line from to at p edge s =
    let P : Move → Type 0 = λ m. IsMoveOf text m (at + p.len) in
    cond_on P (not (is_blank p.shape)) _ _ (λ h. tt) (λ b.
    cond_on P (is_line_feed text at) _ _ (λ h. (s, edge (blank_edge p.shape (false_not (is_blank p.shape) b)))) (λ _. s))

move_stands : (text : List ℕ) (state : State) (at : ℕ) (p : Piece) → (has_edge p.shape ≡ true → IsCharBoundary text (at + p.len)) → at < length text → at + p.len ≤ length text → IsStateOf text state at
    → IsMoveOf text (move_of text state at p) (at + p.len)
move_stands text Between at p edge l w s = between_stands text at p edge s
move_stands text (Within from inside) at p edge l w s = within_stands text from inside at p edge l s
move_stands text (Session line) at p edge l w s = session_stands text line at p w
move_stands text (Named line from to) at p edge l w s = named_stands text line from to at p edge s

-- ---- the items that are still to come

abbrev pub more_of : List ℕ → State → ℕ → List Item
more_of text state at = items_from text state at (rest_of (is_inside state) text at)

-- whether a version comment is open behind a piece, as the move has it
abbrev Keeps : Bool → Move → Type 0
Keeps b (Goes next) = b ≡ is_inside next
Keeps b (Makes i) = b ≡ false
Keeps b (Ends i) = Unit {0}

-- what has an edge, and a word and a blank too, opens no version comment
calm : (c : Shape → Bool) (s : Shape) → c shapes.Opening ≡ false → c s ≡ true → after false s ≡ false
calm c shapes.Blank o h = refl
calm c shapes.Comment o h = refl
calm c shapes.Opening o h = absurd cc
calm c shapes.Closing o h = refl
calm c (shapes.Lexeme kind) o h = refl
calm c shapes.Stray o h = refl
calm c shapes.Unended o h = refl

calm_edge : (s : Shape) → has_edge s ≡ true → after false s ≡ false
calm_edge s h = calm has_edge s refl h

calm_line : (text : List ℕ) (at : ℕ) (p : Piece) → begins_line text at p ≡ true → after false p.shape ≡ false
unfolding begins_line
calm_line text at p h = calm is_word p.shape refl (both (is_word p.shape) _ h).0

calm_name : (text : List ℕ) (at : ℕ) (p : Piece) → is_line_name text at p ≡ true → after false p.shape ≡ false
unfolding is_line_name
calm_name text at p h = calm is_word p.shape refl (both (is_word p.shape) _ h).0

between_keeps : (text : List ℕ) (at : ℕ) (p : Piece) → Keeps (after false p.shape) (between text at p)
unfolding between
between_keeps text at p =
    let P : Move → Type 0 = Keeps (after false p.shape) in
    cond_on P (is_passed p.shape || is_semicolon text at p.shape) _ _ (λ h. calm_edge p.shape (skip_edge text at p.shape h)) (λ _.
    cond_on P (is_cut_comment text at p.shape) _ _ (λ h. tt) (λ _.
    cond_on P (begins_line text at p) _ _ (λ h. calm_line text at p h) (λ _. refl)))

ending : (text : List ℕ) (at : ℕ) (inside : Bool) (s : Shape) → (not inside && is_semicolon text at s) ≡ true → after inside s ≡ false
ending text at true s h = absurd cc
ending text at false s h = calm_edge s (semicolon_edge text at s h)

within_keeps : (text : List ℕ) (from : ℕ) (inside : Bool) (at : ℕ) (p : Piece) → Keeps (after inside p.shape) (within text from inside at p)
unfolding within
within_keeps text from inside at p = cond_on (Keeps (after inside p.shape)) (not inside && is_semicolon text at p.shape) _ _ (λ h. ending text at inside p.shape h) (λ h. refl)

session_keeps : (text : List ℕ) (line at : ℕ) (p : Piece) → Keeps (after false p.shape) (behind_session text line at p)
unfolding behind_session
session_keeps text line at p =
    let P : Move → Type 0 = Keeps (after false p.shape) in
    cond_on P (is_blank p.shape && not (is_line_feed text at)) _ _ (λ h. calm_edge p.shape (blank_edge p.shape (both (is_blank p.shape) _ h).0)) (λ _.
    cond_on P (is_line_name text at p) _ _ (λ h. calm_name text at p h) (λ _. tt))

named_keeps : (text : List ℕ) (line from to at : ℕ) (p : Piece) → Keeps (after false p.shape) (behind_name text line from to at p)
unfolding behind_name
named_keeps text line from to at p =
    let P : Move → Type 0 = Keeps (after false p.shape) in
    cond_on P (not (is_blank p.shape)) _ _ (λ h. tt) (λ b.
    let calmed = calm_edge p.shape (blank_edge p.shape (false_not (is_blank p.shape) b)) in
    cond_on P (is_line_feed text at) _ _ (λ h. calmed) (λ _. calmed))

keeps : (text : List ℕ) (state : State) (at : ℕ) (p : Piece) → Keeps (after (is_inside state) p.shape) (move_of text state at p)
keeps text Between at p = between_keeps text at p
keeps text (Within from inside) at p = within_keeps text from inside at p
keeps text (Session line) at p = session_keeps text line at p
keeps text (Named line from to) at p = named_keeps text line from to at p

abbrev pub Continues : Move → List Item → List ℕ → ℕ → Type 0
Continues (Goes next) items text at = items ≡ more_of text next at
Continues (Makes item) items text at = items ≡ item ∷ more_of text Between at
Continues (Ends item) items text at = items ≡ item ∷ []

continues : (m : Move) (items : List Item) (text : List ℕ) (at : ℕ) (b : Bool) → Keeps b m → items ≡ follow m (λ next. items_from text next at (rest_of b text at)) → Continues m items text at
continues (Goes next) items text at b k e = e ∙ ap (λ (x : Bool). items_from text next at (rest_of x text at)) k
continues (Makes item) items text at b k e = e ∙ ap (λ (x : Bool). item ∷ items_from text Between at (rest_of x text at)) k
continues (Ends item) items text at b k e = e

-- ---- one turn of the loop

pub record Turn (text : List ℕ) (state : State) (m : Move) (at next : ℕ) : Type 0 where
  pub stands : IsMoveOf text m next
  pub comes : Continues m (more_of text state at) text next

turn : (text : List ℕ) (state : State) (at : ℕ) (p : Piece) → IsUtf8 text → at < length text → p ≡ front_of (is_inside state) (drop at text) → IsStateOf text state at → Turn text state (move_of text state at p) at (at + p.len)
turn text state at p u l e s =
    let w : at + p.len ≤ length text = subst (λ (q : Piece). at + q.len ≤ length text) (sym e) (place_within (is_inside state) text at l).1 in
    record {
      stands = move_stands text state at p (λ h. may_cut (is_inside state) text at p u l e h) l w s;
      comes =
          continues (move_of text state at p) (more_of text state at) text (at + p.len) (after (is_inside state) p.shape) (keeps text state at p)
          (ap (items_from text state at) (pieces_at (is_inside state) text at p e l));
    }

pub turns : (m : Move) (text : List ℕ) (state : State) (at : ℕ) (p : Piece) (inside : Bool) → m ≡ move_of text state at p → inside ≡ is_inside state → IsUtf8 text → at < length text → p ≡ front_of inside (drop at text)
    → IsStateOf text state at → Turn text state m at (at + p.len)
turns m text state at p inside e i u l f s =
    subst (λ (x : Move). Turn text state x at (at + p.len)) (sym e) (turn text state at p u l (f ∙ ap (λ (b : Bool). front_of b (drop at text)) i) s)

-- the items so far and those to come are all
pub goes_on : (front more all next : List Item) → front ++ more ≡ all → more ≡ next → front ++ next ≡ all
goes_on front more all next e m = ap (λ (x : List Item). front ++ x) (sym m) ∙ e

pub makes_one : (front more all next : List Item) (item : Item) → front ++ more ≡ all → more ≡ item ∷ next → (front ++ item ∷ []) ++ next ≡ all
makes_one front more all next item e m = append_assoc front (item ∷ []) next ∙ ap (λ (x : List Item). front ++ x) (sym m) ∙ e

pub at_end : (text : List ℕ) (state : State) (at : ℕ) (front all : List Item) → length text ≤ at → front ++ more_of text state at ≡ all → front ++ last_items state ≡ all
at_end text state at front all h e = ap (λ (x : List Item). front ++ x) (sym (ap (items_from text state at) (pieces_end (is_inside state) text at h))) ∙ e
