-- How the parts of a run end.
use Rattle.std.specs.Prelude.{ℕ, ◌≡◌, ◌≤◌, true, List, [], ◌∷◌, length, Option, Some, Result, ⊤}
use Rattle.std.specs.List.{AllByRecursion}
use Rattle.std.specs.declared.result.Result.TheVariants as results
use Rattle.edge_io.specs.Causes.{Rose}
use Rattle.sql_ast.specs.Names.{says_names}
use Rattle.sql_ast.specs.declared.statement.Statement.{Statement}
use Rattle.rules_decide.specs.Outcome.{is_decided}
use Rattle.dd_engine.specs.declared.history.Entry.{Entry}
use Rattle.script_cut.specs.declared.fault.ScriptFault.{ScriptFault}
use Rattle.script_cut.specs.declared.fault.ScriptFault.TheVariants as faulty
use Rattle.script_read.specs.declared.script.Script.{Script}
use Rattle.dd_run.specs.declared.print.PrintFault.{PrintFault}
use Rattle.dd_run.specs.declared.print.PrintFault.TheVariants as faults
use Rattle.dd_run.specs.declared.status.Status.{Status}
use Rattle.dd_run.specs.declared.status.Status.TheVariants as ends
use Rattle.dd_run.specs.Headline.{IsHistoryOf, HasAnswers, HasOutput, InputIs, IsUnbuilt}
use Rattle.dd_run.specs.Printed.{printed}
use Rattle.dd_run.specs.Unbuilt.{first_unbuilt}

abbrev pub statement_of_entry : Entry → Statement
statement_of_entry e = e.statement

-- a statement that the dictionary runs, and which says names
abbrev pub IsRunnable : Statement → Type 0
IsRunnable statement = (is_decided statement ≡ true) × (says_names statement ≡ true)

-- 100,000 statements at most, each of a kind that is run
pub record IsRunnableScript (script : Script) : Type 0 where
  pub few : length script.statements ≤ 100000
  pub each : AllByRecursion IsRunnable script.statements

-- one session at most, which can be run
abbrev pub AreRunnable : List Script → Type 0
AreRunnable [] = Unit {0}
AreRunnable (script ∷ []) = IsRunnableScript script
AreRunnable (a ∷ b ∷ scripts) = ⊥

-- why there are no sessions that are run: the source has failed, there was no memory, the input has a fault, or not all is run
abbrev pub IsUnread : Status → Option (List ℕ) → ℕ → ℕ → Type 0
IsUnread ends.ReadFault input before now = Rose before now
IsUnread ends.Memory input before now = ⊤
IsUnread (ends.BadScript fault) input before now = InputIs input (results.Err fault)
IsUnread (ends.NotBuilt session number) input before now = IsUnbuilt input session number
IsUnread ends.Ok input before now = ⊥
IsUnread ends.WriteFault input before now = ⊥
IsUnread ends.Usage input before now = ⊥

-- the same of an input that reads so
pub record IsUnbuiltIn (found : Result (List Script) ScriptFault) (session number : ℕ) : Type 0 where
  pub sessions : List Script
  pub read : found ≡ results.Ok sessions
  pub unbuilt : first_unbuilt sessions ≡ Some (session, number)

abbrev pub IsRefused : Status → Result (List Script) ScriptFault → Type 0
IsRefused ends.Memory found = ⊤
IsRefused (ends.BadScript fault) found = found ≡ results.Err fault
IsRefused (ends.NotBuilt session number) found = IsUnbuiltIn found session number
IsRefused ends.Ok found = ⊥
IsRefused ends.Usage found = ⊥
IsRefused ends.ReadFault found = ⊥
IsRefused ends.WriteFault found = ⊥

-- how a run ends whose input has this fault
abbrev pub status_of_fault : ScriptFault → Status
status_of_fault faulty.Memory = ends.Memory
status_of_fault fault = ends.BadScript fault

-- how a run ends that has its sessions
abbrev pub IsEnding : Status → ℕ → ℕ → Type 0
IsEnding ends.Ok before now = ⊤
IsEnding ends.Memory before now = ⊤
IsEnding ends.WriteFault before now = Rose before now
IsEnding status before now = ⊥

-- the run of these sessions, whose sink counts `before` faults and then `after`
pub record IsRun (status : Status) (sessions : List Script) (history : List Entry) (held now : Option (List ℕ)) (before after : ℕ) : Type 0 where
  pub legal : IsHistoryOf sessions history
  pub answers : HasAnswers status sessions history
  pub output : HasOutput status (printed sessions history) held now
  pub ending : IsEnding status before after

-- how a run ends by how its printing has ended
abbrev pub status_of : Result (Unit {0}) PrintFault → Status
status_of (results.Ok u) = ends.Ok
status_of (results.Err faults.WriteFault) = ends.WriteFault
status_of (results.Err faults.Memory) = ends.Memory

-- how printing a text has ended
pub record IsPrinted (status : Status) (text : List ℕ) (held now : Option (List ℕ)) (before after : ℕ) : Type 0 where
  pub output : HasOutput status text held now
  pub ending : IsEnding status before after
