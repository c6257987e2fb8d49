-- The numbers that a dictionary draws for ids and tablespaces, one after another.
use Rattle.std.specs.Prelude.{ℕ, ◌≡◌, ◌+◌, Bool, true, false, List, [], ◌∷◌, ⊤}
use Rattle.sql_ast.specs.declared.session.SessionState.{SessionState}
use Rattle.dd_catalog.specs.Catalog.{Catalog}
use Rattle.rules_outcome.specs.Choices.{Choice, takes_space, draws}
use Rattle.dd_engine.specs.declared.history.Answer.{Answer}
use Rattle.dd_engine.specs.declared.history.Answer.TheVariants.{Done, Rows, Error, Memory, NoSpaceId}
use Rattle.dd_engine.specs.declared.history.Entry.{Entry}
use Rattle.dd_engine.specs.History.{effect, catalog_after, sessions_after}

-- the number that a tablespace takes, if one is made
abbrev pub spaces_of : Bool → ℕ → List ℕ
spaces_of false next = []
spaces_of true next = next ∷ []

-- the next number, if one was drawn
abbrev pub behind : Bool → ℕ → ℕ
behind false next = next
behind true next = next + 1

-- that no number is left is said of the next number
abbrev pub IsOutAt : ℕ → Answer → Type 0
IsOutAt next (NoSpaceId told) = told ≡ next
IsOutAt next Done = ⊤
IsOutAt next (Rows listing) = ⊤
IsOutAt next (Error error) = ⊤
IsOutAt next Memory = ⊤

-- an entry that does this over this next number: its tablespace has it
pub record DrawsNext (next : ℕ) (choice : Choice) (e : Entry) : Type 0 where
  pub spaces : e.spaces ≡ spaces_of (takes_space choice) next
  pub out : IsOutAt next e.answer

-- each entry of a history that begins with this next number
abbrev pub DrawsFrom : Catalog → (ℕ → SessionState) → ℕ → List Entry → Type 0
DrawsFrom cat sessions next [] = Unit {0}
DrawsFrom cat sessions next (e ∷ history) =
    DrawsNext next (effect cat sessions e) e × DrawsFrom (catalog_after cat sessions e) (sessions_after cat sessions e) (behind (draws (effect cat sessions e)) next) history

-- the next number behind a history that begins with this one
abbrev pub next_left : Catalog → (ℕ → SessionState) → ℕ → List Entry → ℕ
next_left cat sessions next [] = next
next_left cat sessions next (e ∷ history) = next_left (catalog_after cat sessions e) (sessions_after cat sessions e) (behind (draws (effect cat sessions e)) next) history

-- an answer that doesn't say that no number is left
abbrev pub HadNumber : Answer → Type 0
HadNumber (NoSpaceId told) = ⊥
HadNumber Done = ⊤
HadNumber (Rows listing) = ⊤
HadNumber (Error error) = ⊤
HadNumber Memory = ⊤
