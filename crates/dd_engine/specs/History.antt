-- The histories that a dictionary of one thread may make.
use Rattle.std.specs.Prelude.{ℕ, ◌≡◌, ◌+◌, ◌==◌, Bool, true, false, List, [], ◌∷◌, filter, take, Option, Some, None, if◌then◌else◌, ⊤}
use Rattle.std.specs.List.{AllByRecursion}
use Rattle.dd_errors.specs.Errors.{ErrorValue}
use Rattle.sql_ast.specs.Names.{says_names}
use Rattle.sql_ast.specs.declared.session.SessionState.{SessionState}
use Rattle.dd_catalog.specs.Catalog.{Catalog}
use Rattle.dd_catalog.specs.Walks.{Found, fine, refused, needs}
use Rattle.rules_outcome.specs.Choices.{Choice, Same, Changes, Lists, catalog_behind, session_behind, draws, takes_space, IsNewSpace}
use Rattle.rules_decide.specs.Outcome.{outcome_over}
use Rattle.dd_engine.specs.declared.history.Answer.{Answer}
use Rattle.dd_engine.specs.declared.history.Answer.TheVariants.{Done, Rows, Error, Memory, NoSpaceId}
use Rattle.dd_engine.specs.declared.history.Entry.{Entry}
use Rattle.dd_engine.specs.Catalog.{new_session}

-- ## Numbers

-- it draws a number, and this is the one behind the last
abbrev pub IsOut : Choice → ℕ → Type 0
IsOut choice next = (draws choice ≡ true) × (next ≡ 4294967295)

-- ## The answer

-- what changes something, or nothing, is done; what lists is answered by its rows; or there was no memory, or no number
abbrev pub AnswersChoice : Choice → Answer → Type 0
AnswersChoice Same Done = ⊤
AnswersChoice Same Memory = ⊤
AnswersChoice Same (Rows listing) = ⊥
AnswersChoice Same (Error error) = ⊥
AnswersChoice Same (NoSpaceId next) = ⊥
AnswersChoice (Changes changes session) Done = ⊤
AnswersChoice (Changes changes session) Memory = ⊤
AnswersChoice (Changes changes session) (Rows listing) = ⊥
AnswersChoice (Changes changes session) (Error error) = ⊥
AnswersChoice (Changes changes session) (NoSpaceId next) = IsOut (Changes changes session) next
AnswersChoice (Lists l) (Rows listing) = listing ≡ l
AnswersChoice (Lists l) Memory = ⊤
AnswersChoice (Lists l) Done = ⊥
AnswersChoice (Lists l) (Error error) = ⊥
AnswersChoice (Lists l) (NoSpaceId next) = ⊥

-- what is refused is answered by its error
abbrev pub AnswersError : ErrorValue → Answer → Type 0
AnswersError r (Error error) = error ≡ r
AnswersError r Memory = ⊤
AnswersError r Done = ⊥
AnswersError r (Rows listing) = ⊥
AnswersError r (NoSpaceId next) = ⊥

abbrev pub AnswersFound : Found ErrorValue Choice → Answer → Type 0
AnswersFound (fine choice) answer = AnswersChoice choice answer
AnswersFound (refused r) answer = AnswersError r answer
AnswersFound (needs key) answer = ⊥

-- no answer is right to a statement of a kind that isn't decided
abbrev pub Answers : Option (Found ErrorValue Choice) → Answer → Type 0
Answers (Some found) answer = AnswersFound found answer
Answers None answer = ⊥

-- ## What is done

abbrev pub choice_found : Found ErrorValue Choice → Choice
choice_found (fine choice) = choice
choice_found (refused r) = Same
choice_found (needs key) = Same

abbrev pub choice_in : Option (Found ErrorValue Choice) → Choice
choice_in (Some found) = choice_found found
choice_in None = Same

-- only what was done changes something
abbrev pub done_of : Choice → Answer → Choice
done_of choice Done = choice
done_of choice (Rows listing) = Same
done_of choice (Error error) = Same
done_of choice Memory = Same
done_of choice (NoSpaceId next) = Same

-- what an entry does
abbrev pub effect : Catalog → (ℕ → SessionState) → Entry → Choice
effect cat sessions e = done_of (choice_in (outcome_over cat (sessions e.session) e.statement)) e.answer

-- the numbers that an entry takes: one that is new where it makes a tablespace, and else none
abbrev pub TakesSpaces : Catalog → Bool → List ℕ → Type 0
TakesSpaces cat false spaces = spaces ≡ []
TakesSpaces cat true spaces = (space : ℕ) × (spaces ≡ space ∷ []) × IsNewSpace cat space

abbrev pub space_in : List ℕ → ℕ
space_in [] = 0
space_in (space ∷ spaces) = space

-- ## Histories

-- One entry is right: it says its statement's outcome, and has the numbers that this takes.
pub record Step (cat : Catalog) (sessions : ℕ → SessionState) (e : Entry) : Type 0 where
  pub answers : Answers (outcome_over cat (sessions e.session) e.statement) e.answer
  pub spaces : TakesSpaces cat (takes_space (effect cat sessions e)) e.spaces

abbrev pub catalog_after : Catalog → (ℕ → SessionState) → Entry → Catalog
catalog_after cat sessions e = catalog_behind (space_in e.spaces) (effect cat sessions e) cat

abbrev pub sessions_after : Catalog → (ℕ → SessionState) → Entry → ℕ → SessionState
sessions_after cat sessions e s = if s == e.session then session_behind (effect cat sessions e) (sessions s) else sessions s

-- each entry is a step from what those before it leave
abbrev pub StepByStep : Catalog → (ℕ → SessionState) → List Entry → Type 0
StepByStep cat sessions [] = Unit {0}
StepByStep cat sessions (e ∷ history) = Step cat sessions e × StepByStep (catalog_after cat sessions e) (sessions_after cat sessions e) history

-- the catalog and the sessions that a history leaves
abbrev pub catalog_left : Catalog → (ℕ → SessionState) → List Entry → Catalog
catalog_left cat sessions [] = cat
catalog_left cat sessions (e ∷ history) = catalog_left (catalog_after cat sessions e) (sessions_after cat sessions e) history

abbrev pub sessions_left : Catalog → (ℕ → SessionState) → List Entry → ℕ → SessionState
sessions_left cat sessions [] = sessions
sessions_left cat sessions (e ∷ history) = sessions_left (catalog_after cat sessions e) (sessions_after cat sessions e) history

-- The history is one that a dictionary of one thread makes from `base`; every session begins with no current schema and the
-- default tries.
abbrev pub LegalHistory : Catalog → List Entry → Type 0
LegalHistory base history = StepByStep base new_session history

-- the catalog after all entries, and after the first k of them
abbrev pub after_all : Catalog → List Entry → Catalog
after_all base history = catalog_left base new_session history

abbrev pub after : Catalog → List Entry → ℕ → Catalog
after base history k = after_all base (take k history)

-- the entries of one session
abbrev pub part : List Entry → ℕ → List Entry
part history s = filter (λ e. e.session == s) history

-- the entries have the numbers n, n + 1 and so on
abbrev pub NumberedFrom : ℕ → List Entry → Type 0
NumberedFrom n [] = Unit {0}
NumberedFrom n (e ∷ entries) = (e.number ≡ n) × NumberedFrom (n + 1) entries

-- The numbers of each session's entries are 0, 1, 2 and so on.
abbrev pub IsNumbered : List Entry → Type 0
IsNumbered history = (s : ℕ) → NumberedFrom 0 (part history s)

-- each statement of the history says names
abbrev pub AllSayNames : List Entry → Type 0
AllSayNames history = AllByRecursion (λ (e : Entry). says_names e.statement ≡ true) history
