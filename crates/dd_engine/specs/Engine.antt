-- What holds of a dictionary in memory between two statements.
use Rattle.std.specs.Prelude.{ℕ, ◌≡◌, ◌≤◌, ◌<◌, ◌+◌, true, List, [], ◌∷◌, ◌++◌, Option, Some, None}
use Rattle.dd_names.specs.declared.object_name.ObjName.{ObjName}
use Rattle.dd_errors.specs.Errors.{ErrorValue}
use Rattle.dd_definitions.specs.declared.parts.TableParts.{TableParts}
use Rattle.sql_ast.specs.declared.session.SessionState.{SessionState}
use Rattle.sql_ast.specs.declared.statement.Statement.{Statement}
use Rattle.dd_catalog.specs.Catalog.{Catalog, Table, empty_catalog}
use Rattle.dd_catalog.specs.Valid.{Has}
use Rattle.dd_catalog.specs.Walks.{Found, fine}
use Rattle.rules_outcome.specs.Choices.{Change, Changes, Choice, catalog_behind, session_behind, takes_space, draws}
use Rattle.rules_decide.specs.Outcome.{outcome_over}
use Rattle.dd_engine.specs.declared.history.Answer.{Answer}
use Rattle.dd_engine.specs.declared.history.Entry.{Entry}
use Rattle.dd_engine.specs.declared.state.State.{State}
use Rattle.dd_engine.specs.Catalog.{new_session}
use Rattle.dd_engine.specs.History.{AllSayNames, AnswersFound, choice_found, done_of, space_in, LegalHistory, after_all, sessions_left}
use Rattle.dd_engine.specs.Listed.{answer_size, listed_size}
use Rattle.dd_engine.specs.Drawn.{DrawsFrom, IsOutAt, behind, next_left, spaces_of}

-- the entry with this number of the only session, over no disk
pub record IsPlain (n : ℕ) (e : Entry) : Type 0 where
  pub session : e.session ≡ 0
  pub number : e.number ≡ n
  pub stamp : e.stamp ≡ 0

-- entries of the only session, with the numbers n, n + 1 and so on
abbrev pub ArePlainFrom : ℕ → List Entry → Type 0
ArePlainFrom n [] = Unit {0}
ArePlainFrom n (e ∷ history) = IsPlain n e × ArePlainFrom (n + 1) history

-- the tables of the catalog have spaces below this number
pub record AreBelow (cat : Catalog) (next : ℕ) : Type 0 where
  pub below : (name : ObjName) (space : ℕ) (parts : TableParts) → Has cat name (Table space parts) → space < next

-- the catalog and the session are those that the history leaves, and the next number and those above it are new
pub record Stands (history : List Entry) (state : State) : Type 0 where
  pub catalog : after_all empty_catalog history ≡ state.catalog
  pub session : sessions_left empty_catalog new_session history 0 ≡ state.session
  pub next : next_left empty_catalog new_session 1 history ≡ state.next
  pub least : 1 ≤ state.next
  pub greatest : state.next ≤ 4294967295
  pub spaces : AreBelow state.catalog state.next
  pub room : listed_size history + state.room ≡ 536870912

-- a state that was lost for want of memory isn't known
abbrev pub StandsIfKept : List Entry → Option State → Type 0
StandsIfKept history None = Unit {0}
StandsIfKept history (Some state) = Stands history state

-- What a dictionary of one session has answered that began without schemas and with the number 1. Of listings it keeps some
-- 512 MiB at most.
pub record IsPlainHistory (history : List Entry) : Type 0 where
  pub legal : LegalHistory empty_catalog history
  pub plain : ArePlainFrom 0 history
  pub named : AllSayNames history
  pub numbers : DrawsFrom empty_catalog new_session 1 history
  pub listed : listed_size history ≤ 536870912

-- the history is such a one, and the state that is kept is the one that it leaves
pub record IsSound (state : Option State) (history : List Entry) : Type 0 where
  pub said : IsPlainHistory history
  pub stands : StandsIfKept history state

-- one entry more, for this statement
pub record Adds (old new : List Entry) (statement : Statement) : Type 0 where
  pub entry : Entry
  pub last : new ≡ old ++ entry ∷ []
  pub same : entry.statement ≡ statement

-- ## A step

-- something is changed
abbrev pub Alters : Choice → Type 0
Alters choice = (changes : List Change) × (session : SessionState) × (choice ≡ Changes changes session)

-- a state that is there may be lost only by a statement that changes something
abbrev pub MayLose : Option State → Statement → Type 0
MayLose None statement = Unit {0}
MayLose (Some state) statement = (choice : Choice) × (outcome_over state.catalog state.session statement ≡ Some (fine choice)) × Alters choice

-- what is done leaves this state: its changes, and the next number one greater where it draws one that is left
pub record Leaves (old : State) (choice : Choice) (new : State) (spaces : List ℕ) : Type 0 where
  pub catalog : catalog_behind (space_in spaces) choice old.catalog ≡ new.catalog
  pub session : session_behind choice old.session ≡ new.session
  pub next : new.next ≡ behind (draws choice) old.next
  pub room : draws choice ≡ true → old.next < 4294967295
  pub taken : spaces ≡ spaces_of (takes_space choice) old.next

-- what is found is answered so, only of the next number it is said that none is left, what is listed has room, and what is
-- done leaves this state
pub record Settles (found : Found ErrorValue Choice) (old : State) (answer : Answer) (new : State) (spaces : List ℕ) : Type 0 where
  pub answers : AnswersFound found answer
  pub out : IsOutAt old.next answer
  pub room : answer_size answer + new.room ≡ old.room
  pub leaves : Leaves old (done_of (choice_found found) answer) new spaces

-- the statement is found so over the old state, and is answered and leaves the new one as that says
pub record Answered (old : State) (statement : Statement) (answer : Answer) (new : State) (spaces : List ℕ) : Type 0 where
  pub found : Found ErrorValue Choice
  pub is : outcome_over old.catalog old.session statement ≡ Some found
  pub settles : Settles found old answer new spaces

-- only over a state that was kept is a statement answered, and then one is kept
abbrev pub Steps : Option State → Statement → Answer → Option State → List ℕ → Type 0
Steps None statement answer new spaces = ⊥
Steps (Some old) statement answer None spaces = ⊥
Steps (Some old) statement answer (Some new) spaces = Answered old statement answer new spaces
