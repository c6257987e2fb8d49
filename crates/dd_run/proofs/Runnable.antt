-- Sessions that are all run.
use Rattle.std.proofs.Common.{◌≡◌, ℕ, ◌+◌, ◌≤◌, true, false, cond, not, List, [], ◌∷◌, length, refl, Option, None, Some, position, arith}
use Rattle.std.specs.List.{AllByRecursion, prefix_len}
use Rattle.std.proofs.lemmas.Bool.Decides.{nat_tests}
use Rattle.sql_ast.specs.Names.{says_names}
use Rattle.sql_ast.specs.declared.statement.Statement.{Statement}
use Rattle.rules_decide.specs.Outcome.{is_decided}
use Rattle.script_read.specs.declared.script.Script.{Script}
use Rattle.script_read.specs.Scripts.{IsFew, SaysNames}
use Rattle.dd_run.specs.Unbuilt.{is_unbuilt, second_session, unbuilt_at, first_unbuilt}
use Rattle.dd_run.specs.Ending.{IsRunnable, AreRunnable}

-- a statement of a kind that is decided
abbrev IsDecided : Statement → Type 0
IsDecided statement = is_decided statement ≡ true

each_runs : (statements : List Statement) → length statements ≤ prefix_len (λ s. not (is_unbuilt s)) statements → AllByRecursion IsDecided statements
each_runs [] h = tt
each_runs (s ∷ statements) h = elim (is_decided s) as (λ v. is_decided s ≡ v → length statements + 1 ≤ cond (not (not v)) (1 + prefix_len (λ s. not (is_unbuilt s)) statements) 0 → AllByRecursion IsDecided (s ∷ statements)) [
  | true ↦ λ e more. (e, each_runs statements (omega arith))
  | false ↦ λ e more. absurd (omega arith)
] refl (omega arith)

all_run : (statements : List Statement) → position is_unbuilt statements ≡ None → AllByRecursion IsDecided statements
all_run statements none = each_runs statements (grind (arith, nat_tests))

runs_each : (statements : List Statement) → AllByRecursion IsDecided statements → AllByRecursion (λ (s : Statement). says_names s ≡ true) statements → AllByRecursion IsRunnable statements
runs_each [] decided named = tt
runs_each (s ∷ statements) decided named = ((decided.0, named.0), runs_each statements decided.1 named.1)

unbuilt_parts : (number : Option ℕ) (scripts : List Script) → unbuilt_at number scripts ≡ None → (number ≡ None) × (second_session scripts ≡ None)
unbuilt_parts None scripts e = (refl, e)
unbuilt_parts (Some number) scripts e = absurd cc

one_at_most : (script : Script) (scripts : List Script) → unbuilt_at (position is_unbuilt script.statements) scripts ≡ None → AllByRecursion IsFew (script ∷ scripts) → AllByRecursion SaysNames (script ∷ scripts) → AreRunnable (script ∷ scripts)
one_at_most script [] e few named =
    record { few = few.0; each = runs_each script.statements (all_run script.statements (unbuilt_parts (position is_unbuilt script.statements) [] e).0) named.0 }
one_at_most script (second ∷ scripts) e few named =
    let none = (unbuilt_parts (position is_unbuilt script.statements) (second ∷ scripts) e).1 in absurd cc

pub sessions_run : (sessions : List Script) → first_unbuilt sessions ≡ None → AllByRecursion IsFew sessions → AllByRecursion SaysNames sessions → AreRunnable sessions
unfolding first_unbuilt
sessions_run [] e few named = tt
sessions_run (script ∷ scripts) e few named = one_at_most script scripts e few named
