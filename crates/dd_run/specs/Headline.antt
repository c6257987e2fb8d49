-- What a run of the program is: its answers, its output, and why it ends as it does.
use Rattle.std.specs.Prelude.{ℕ, ◌≡◌, ◌+◌, ◌<◌, ◌≤◌, List, [], ◌∷◌, map, take, length, Option, None, Some, Result, ⊤}
use Rattle.std.specs.declared.result.Result.TheVariants as results
use Rattle.std.specs.List.{AllByRecursion}
use Rattle.std.specs.Io.KnownBytes.{Keeps, Appends}
use Rattle.edge_io.specs.Content.{AppendsPrefix}
use Rattle.sql_ast.specs.declared.statement.Statement.{Statement}
use Rattle.dd_engine.specs.declared.history.Entry.{Entry}
use Rattle.dd_catalog.specs.Catalog.{empty_catalog}
use Rattle.dd_engine.specs.History.{part, LegalHistory, IsNumbered}
use Rattle.dd_engine.specs.Drawn.{HadNumber}
use Rattle.dd_engine.specs.Listed.{listed_size}
use Rattle.script_cut.specs.declared.fault.ScriptFault.{ScriptFault}
use Rattle.script_read.specs.declared.script.Script.{Script}
use Rattle.script_read.specs.Scripts.{scripts}
use Rattle.dd_run.specs.declared.status.Status.{Status}
use Rattle.dd_run.specs.declared.status.Status.TheVariants as ends
use Rattle.dd_run.specs.Unbuilt.{first_unbuilt}
use Rattle.dd_run.specs.Printed.{printed}

-- ## The history

-- A dictionary of one thread that begins without schemas makes this history of these sessions. Where the numbers suffice, it
-- says of no statement that none is left. Of listings it keeps some 512 MiB at most.
pub record IsHistoryOf (sessions : List Script) (history : List Entry) : Type 0 where
  pub legal : LegalHistory empty_catalog history
  pub numbered : IsNumbered history
  pub within : AllByRecursion (λ e. e.session < length sessions) history
  pub numbers : length history < 4294967295 → AllByRecursion (λ e. HadNumber e.answer) history
  pub listed : listed_size history ≤ 536870912

-- the statements that a session has had answered, in order
abbrev pub answered : List Entry → ℕ → List Statement
answered history s = map (λ e. e.statement) (part history s)

-- each session from the s-th on has had those of its statements answered
abbrev pub EachAnswered : (List Statement → List Statement → Type 0) → ℕ → List Script → List Entry → Type 0
EachAnswered R s [] history = Unit {0}
EachAnswered R s (script ∷ rest) history = R (answered history s) script.statements × EachAnswered R (s + 1) rest history

abbrev pub AreAll : List Statement → List Statement → Type 0
AreAll some all = some ≡ all

abbrev pub AreFirst : List Statement → List Statement → Type 0
AreFirst some all = (n : ℕ) × (some ≡ take n all)

-- every statement of every session has its entry
abbrev pub AllAnswered : List Script → List Entry → Type 0
AllAnswered sessions history = EachAnswered AreAll 0 sessions history

-- the first statements of each session have
abbrev pub FirstAnswered : List Script → List Entry → Type 0
FirstAnswered sessions history = EachAnswered AreFirst 0 sessions history

-- ## The clauses by the status

-- the input reads so, where the source tells it
abbrev pub InputIs : Option (List ℕ) → Result (List Script) ScriptFault → Type 0
InputIs None found = ⊤
InputIs (Some input) found = scripts input ≡ found

-- the input has these sessions, which are run
pub record AreRun (input : Option (List ℕ)) (sessions : List Script) : Type 0 where
  pub read : InputIs input (results.Ok sessions)
  pub built : first_unbuilt sessions ≡ None

-- the input has sessions, and here is the least that isn't run
pub record IsUnbuilt (input : Option (List ℕ)) (session number : ℕ) : Type 0 where
  pub found : List Script
  pub read : InputIs input (results.Ok found)
  pub unbuilt : first_unbuilt found ≡ Some (session, number)

-- which sessions the run has: those of the input, or none where it wasn't read, has a fault, or isn't run
abbrev pub HasSessions : Status → Option (List ℕ) → List Script → Type 0
HasSessions ends.Ok input sessions = AreRun input sessions
HasSessions ends.WriteFault input sessions = AreRun input sessions
HasSessions ends.Memory input [] = ⊤
HasSessions ends.Memory input (script ∷ rest) = AreRun input (script ∷ rest)
HasSessions (ends.NotBuilt session number) input sessions = (sessions ≡ []) × IsUnbuilt input session number
HasSessions (ends.BadScript fault) input sessions = (sessions ≡ []) × InputIs input (results.Err fault)
HasSessions ends.ReadFault input sessions = sessions ≡ []
HasSessions ends.Usage input sessions = sessions ≡ []

-- which statements have their entries
abbrev pub HasAnswers : Status → List Script → List Entry → Type 0
HasAnswers ends.Ok sessions history = AllAnswered sessions history
HasAnswers ends.WriteFault sessions history = AllAnswered sessions history
HasAnswers ends.Memory sessions history = FirstAnswered sessions history
HasAnswers (ends.NotBuilt session number) sessions history = history ≡ []
HasAnswers (ends.BadScript fault) sessions history = history ≡ []
HasAnswers ends.ReadFault sessions history = history ≡ []
HasAnswers ends.Usage sessions history = history ≡ []

-- how much of the text is written
abbrev pub HasOutput : Status → List ℕ → Option (List ℕ) → Option (List ℕ) → Type 0
HasOutput ends.Ok text held now = Appends held now text
HasOutput ends.WriteFault text held now = AppendsPrefix held now text
HasOutput ends.Memory text held now = AppendsPrefix held now text
HasOutput (ends.NotBuilt session number) text held now = Keeps held now
HasOutput (ends.BadScript fault) text held now = Keeps held now
HasOutput ends.ReadFault text held now = Keeps held now
HasOutput ends.Usage text held now = Keeps held now

-- The printed answers are those that a dictionary of one thread gives along one history that holds each script's
-- statements once, in order. A source or a sink that tells nothing is bound by this too, as far as the history goes.
pub record Headline (status : Status) (input : Option (List ℕ)) (history : List Entry) (held now : Option (List ℕ)) : Type 0 where
  pub sessions : List Script
  pub read : HasSessions status input sessions
  pub legal : IsHistoryOf sessions history
  pub answers : HasAnswers status sessions history
  pub output : HasOutput status (printed sessions history) held now

-- ## Completeness

-- sessions that are all run
abbrev pub AreGood : Result (List Script) ScriptFault → Type 0
AreGood (results.Ok sessions) = first_unbuilt sessions ≡ None
AreGood (results.Err fault) = ⊥

-- the source tells an input that is a good script, all of which is run
abbrev pub IsGood : Option (List ℕ) → Type 0
IsGood None = ⊥
IsGood (Some input) = AreGood (scripts input)

-- all was done, or there was no memory
abbrev pub IsDone : Status → Type 0
IsDone ends.Ok = ⊤
IsDone ends.Memory = ⊤
IsDone status = ⊥
