-- An input that isn't run, as the definitions find it.
use Rattle.std.proofs.Common.{◌≡◌, ℕ, ◌≤◌, Bool, true, false, cond, not, nat_lt, length, List, refl, sym, ◌∙◌, ◌⊎◌, inl, inr, arith, Option, None, Some, Result, Ok, Err}
use Rattle.std.specs.Prelude.{IfOk, IfErr, OnOk}
use Rattle.std.specs.List.{AllByRecursion}
use Rattle.std.specs.Str.{is_utf8}
use Rattle.std.specs.Str.Lossy.{utf8_valid_len}
use Rattle.std.proofs.lemmas.Bool.Decides.{nat_tests}
use Rattle.script_cut.specs.declared.fault.ScriptFault.{ScriptFault}
use Rattle.script_cut.specs.declared.fault.ScriptFault.TheVariants as faults
use Rattle.script_read.specs.declared.script.Script.{Script}
use Rattle.script_read.specs.Scripts.{scripts, scripts_in, IsFew, SaysNames}
use Rattle.dd_run.specs.declared.status.Status.{Status}
use Rattle.dd_run.specs.declared.status.Status.TheVariants as ends
use Rattle.dd_run.specs.Unbuilt.{first_unbuilt}
use Rattle.dd_run.specs.Headline.{InputIs, AreRun}
use Rattle.dd_run.specs.Ending.{IsRefused, IsUnread, AreRunnable, status_of_fault}
use Rattle.dd_run.proofs.Runnable.{sessions_run}

abbrev Found : Type 0
Found = Result (List Script) ScriptFault

abbrev lacks : Found
lacks = Err faults.Memory

pub good_is : (found : Found) (sessions : List Script) → (Ok sessions ≡ lacks) ⊎ (Ok sessions ≡ found) → found ≡ Ok sessions
good_is found sessions (inl e) = absurd cc
good_is found sessions (inr e) = sym e

pub bad_is : (found : Found) (fault : ScriptFault) → (Err fault ≡ lacks) ⊎ (Err fault ≡ found) → IsRefused (status_of_fault fault) found
bad_is found faults.Memory e = tt
bad_is found (faults.NotUtf8 at) (inl e) = absurd cc
bad_is found (faults.NotUtf8 at) (inr e) = sym e
bad_is found (faults.NoSession at) (inl e) = absurd cc
bad_is found (faults.NoSession at) (inr e) = sym e
bad_is found (faults.BadName at) (inl e) = absurd cc
bad_is found (faults.BadName at) (inr e) = sym e
bad_is found (faults.Repeated at) (inl e) = absurd cc
bad_is found (faults.Repeated at) (inr e) = sym e
bad_is found (faults.Unended at) (inl e) = absurd cc
bad_is found (faults.Unended at) (inr e) = sym e
bad_is found (faults.Limit at) (inl e) = absurd cc
bad_is found (faults.Limit at) (inr e) = sym e

pub unbuilt_is : (found : Found) (sessions : List Script) (session number : ℕ) → found ≡ Ok sessions → Some (session, number) ≡ first_unbuilt sessions → IsRefused (ends.NotBuilt session number) found
unbuilt_is found sessions session number read e = record { sessions = sessions; read = read; unbuilt = sym e }

-- of the whole input, of which the bytes were read
input_moves : (input : Option (List ℕ)) (found other : Found) → InputIs input found → found ≡ other → InputIs input other
input_moves None found other is e = tt
input_moves (Some bytes) found other is e = is ∙ e

pub sessions_are : (input : Option (List ℕ)) (found : Found) (sessions : List Script) → InputIs input found → found ≡ Ok sessions → InputIs input (Ok sessions)
sessions_are input found sessions is e = input_moves input found (Ok sessions) is e

pub refused_is : (status : Status) (input : Option (List ℕ)) (found : Found) (before now : ℕ) → InputIs input found → IsRefused status found → IsUnread status input before now
refused_is ends.Ok input found before now is never = absurd never
refused_is ends.Usage input found before now is never = absurd never
refused_is ends.ReadFault input found before now is never = absurd never
refused_is ends.WriteFault input found before now is never = absurd never
refused_is ends.Memory input found before now is why = tt
refused_is (ends.BadScript fault) input found before now is why = input_moves input found (Err fault) is why
refused_is (ends.NotBuilt session number) input found before now is why =
    record { found = why.sessions; read = input_moves input found (Ok why.sessions) is why.read; unbuilt = why.unbuilt }

-- ## The sessions of what was read

module _ (input : Option (List ℕ)) (found : Found) (is : InputIs input found) where
  pub all_run : (r : Result (List Script) Status) → IfOk r (λ sessions. found ≡ Ok sessions) → IfOk r (λ sessions. first_unbuilt sessions ≡ None) → IfOk r (λ sessions. AreRun input sessions)
  all_run (Ok sessions) read built = record { read = sessions_are input found sessions is read; built = built }
  all_run (Err status) read built = tt

  pub not_run : (before now : ℕ) (r : Result (List Script) Status) → IfErr r (λ status. IsRefused status found) → IfErr r (λ status. IsUnread status input before now)
  not_run before now (Ok sessions) refused = tt
  not_run before now (Err status) refused = refused_is status input found before now is refused

pub can_run : (r : Result (List Script) Status) → IfOk r (λ sessions. first_unbuilt sessions ≡ None) → IfOk r (λ sessions. AllByRecursion IsFew sessions)
    → IfOk r (λ sessions. AllByRecursion SaysNames sessions) → IfOk r (λ sessions. AreRunnable sessions)
can_run (Ok sessions) built few named = sessions_run sessions built few named
can_run (Err status) built few named = tt

short : (bytes : List ℕ) (long : Bool) (sessions : List Script) (rest : Found) → nat_lt 67108864 (length bytes) ≡ long → cond long (Err (faults.Limit 67108864)) rest ≡ Ok sessions → length bytes ≤ 67108864
short bytes true sessions rest e is = absurd cc
short bytes false sessions rest e is = grind (arith, nat_tests)

short_input : (bytes : List ℕ) (sessions : List Script) → scripts bytes ≡ Ok sessions → length bytes ≤ 67108864
unfolding scripts
short_input bytes sessions is =
    short bytes (nat_lt 67108864 (length bytes)) sessions (cond (not (is_utf8 bytes)) (Err (faults.NotUtf8 (utf8_valid_len bytes))) (scripts_in bytes)) refl is

pub at_end : (E : Type 0) (bytes : List ℕ) (r : Result (List Script) Status) → (length bytes ≤ 67108864 → E) → IfOk r (λ sessions. scripts bytes ≡ Ok sessions) → OnOk r E
at_end E bytes (Ok sessions) ended read = ended (short_input bytes sessions read)
at_end E bytes (Err status) ended read = tt
