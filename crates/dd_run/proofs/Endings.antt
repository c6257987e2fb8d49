-- How a run ends whose sessions were answered.
use Rattle.std.proofs.Common.{◌≡◌, ℕ, List, [], ◌∷◌, ◌++◌, map, length, refl, sym, ◌∙◌, ap, subst, Option, Some, None, Result, arith}
use Rattle.std.specs.Prelude.{option_to_list, Ok, Err}
use Rattle.dd_engine.specs.declared.history.Entry.{Entry}
use Rattle.script_read.specs.declared.script.Script.{Script}
use Rattle.dd_run.specs.declared.print.PrintFault.{PrintFault}
use Rattle.dd_run.specs.declared.print.PrintFault.TheVariants as faults
use Rattle.dd_run.specs.declared.status.Status.{Status}
use Rattle.dd_run.specs.declared.status.Status.TheVariants as ends
use Rattle.dd_run.specs.Ending.{AreRunnable, IsPrinted, IsRun, IsRunnableScript, status_of}
use Rattle.dd_run.specs.Headline.{IsHistoryOf, AllAnswered, FirstAnswered}
use Rattle.dd_run.specs.Printed.{printed}
use Rattle.dd_run.specs.Writes.{Writes}

pub printed_is : (result : Result (Unit {0}) PrintFault) (text : List ℕ) (held now : Option (List ℕ)) (before after : ℕ) → Writes held now before after text result → IsPrinted (status_of result) text held now before after
printed_is (Ok u) text held now before after w = record { output = w.whole; ending = tt }
printed_is (Err faults.WriteFault) text held now before after w = record { output = w.front; ending = w.cause refl }
printed_is (Err faults.Memory) text held now before after w = record { output = w.front; ending = tt }

pub run_is : (status : Status) (sessions : List Script) (history : List Entry) (held now : Option (List ℕ)) (before after : ℕ) → IsHistoryOf sessions history → AllAnswered sessions history → FirstAnswered sessions history
    → IsPrinted status (printed sessions history) held now before after → IsRun status sessions history held now before after
run_is ends.Ok sessions history held now before after legal all first is = record { legal = legal; answers = all; output = is.output; ending = tt }
run_is ends.WriteFault sessions history held now before after legal all first is = record { legal = legal; answers = all; output = is.output; ending = is.ending }
run_is ends.Memory sessions history held now before after legal all first is = record { legal = legal; answers = first; output = is.output; ending = tt }
run_is ends.Usage sessions history held now before after legal all first is = absurd is.ending
run_is ends.ReadFault sessions history held now before after legal all first is = absurd is.ending
run_is (ends.BadScript fault) sessions history held now before after legal all first is = absurd is.ending
run_is (ends.NotBuilt session number) sessions history held now before after legal all first is = absurd is.ending

-- the only session, if there is one
pub record IsOnly (scripts : List Script) (script : Script) : Type 0 where
  pub is : scripts ≡ script ∷ []
  pub runs : IsRunnableScript script

pub only : (scripts left : List Script) (script : Script) → AreRunnable scripts → scripts ≡ left ++ script ∷ [] → IsOnly scripts script
only [] [] script run is = cc
only [] (a ∷ left) script run is = cc
only (a ∷ []) [] script run is = let same : a ≡ script = cc in record { is = ap (λ (s : Script). s ∷ []) same; runs = subst IsRunnableScript same run }
only (a ∷ []) (b ∷ []) script run is = cc
only (a ∷ []) (b ∷ c ∷ left) script run is = cc
only (a ∷ b ∷ scripts) left script run is = absurd run

pub none : (scripts left : List Script) → scripts ≡ left ++ [] → length left ≡ 0 → scripts ≡ []
none scripts [] is zero = is
none scripts (a ∷ left) is zero = absurd (omega arith)
