-- The session lines and the statements of an input, up to the first that isn't of their form.
use Rattle.std.specs.Prelude.{◌≡◌, ◌≤◌, ℕ, ◌+◌, Bool, true, false, List, [], ◌∷◌, length, slice_range}
use Rattle.std.specs.Str.{IsCharBoundary}
use Rattle.sql_lex.specs.declared.piece.Piece.{Piece}
use Rattle.sql_lex.specs.Pieces.{pieces}
use Rattle.script_cut.specs.declared.item.Item.{Item}
use Rattle.script_cut.specs.declared.item.Item.TheVariants.{SessionLine, BadLine, Statement, CutStatement, CutComment}
use Rattle.script_cut.specs.declared.moves.State.{State}
use Rattle.script_cut.specs.declared.moves.State.TheVariants.{Between, Within, Session, Named}
use Rattle.script_cut.specs.declared.moves.Move.{Move}
use Rattle.script_cut.specs.declared.moves.Move.TheVariants.{Goes, Makes, Ends}
use Rattle.script_cut.specs.Names.{is_plain_name}
use Rattle.script_cut.specs.Moves.{move_of}

-- what a move adds, before what comes behind it
abbrev pub follow : Move → (State → List Item) → List Item
follow (Goes next) more = more next
follow (Makes item) more = item ∷ more Between
follow (Ends item) more = item ∷ []

-- what the input's end makes of where we are
abbrev pub last_items : State → List Item
last_items Between = []
last_items (Within from inside) = CutStatement from ∷ []
last_items (Session line) = BadLine line ∷ []
last_items (Named line from to) = SessionLine line from to ∷ []

abbrev pub items_from : List ℕ → State → ℕ → List Piece → List Item
items_from text state at [] = last_items state
items_from text state at (p ∷ ps) = follow (move_of text state at p) (λ next. items_from text next (at + p.len) ps)

-- the items of an input in order
unfoldable pub items_of : List ℕ → List Item
items_of text = items_from text Between 0 (pieces text)

-- ---- where items stand

-- a statement is text of its own
pub record IsStatement (text : List ℕ) (from to : ℕ) : Type 0 where
  pub order : from ≤ to
  pub begins : IsCharBoundary text from
  pub ends : IsCharBoundary text to

-- a line's name is a name that needs no quotes
pub record IsLine (text : List ℕ) (from to : ℕ) : Type 0 where
  pub order : from ≤ to
  pub within : to ≤ length text
  pub name : is_plain_name (slice_range text from to) ≡ true

abbrev pub IsItemOf : List ℕ → Item → Type 0
IsItemOf text (SessionLine line from to) = IsLine text from to
IsItemOf text (BadLine line) = Unit {0}
IsItemOf text (Statement from to) = IsStatement text from to
IsItemOf text (CutStatement from) = Unit {0}
IsItemOf text (CutComment at) = Unit {0}
