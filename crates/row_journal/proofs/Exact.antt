-- A file has one answer.
use Rattle.std.proofs.Common.{◌≡◌, ℕ, List, [], drop, Option, Some, None, sym, subst}
use Rattle.std.specs.Option.{unwrap_or}
use Rattle.disk_trait.specs.Change.{Directory}
use Rattle.disk_trait.specs.Story.{Story, reads, WhereTold}
use Rattle.row_batch.specs.declared.operation.Operation.{Operation}
use Rattle.row_journal.specs.declared.outcome.JournalFault.{JournalFault}
use Rattle.row_journal.specs.declared.outcome.JournalFault.TheVariants.{Fault, Malformed, Memory}
use Rattle.row_journal.specs.Value.{EndsAt}
use Rattle.row_journal.specs.Append.{Has}
use Rattle.row_journal.specs.Opening.{IsMalformed, IsFaultOf, IsOutside, IsNoOtherThan}
use Rattle.row_journal.proofs.Gated.{one_content, never_both, one_fault}

-- a file that has batches has no fault
not_both : (at place : ℕ) (batches : List (List Operation)) (file : Option (List ℕ)) → Has at batches file → IsMalformed at place file → ⊥
not_both at place batches None has faulty = has
not_both at place batches (Some file) has faulty = never_both at file batches place has faulty

module _ (path : List ℕ) (at end : ℕ) (found : List (List Operation)) where
  ends_has : (d : Directory) → EndsAt path at end found d → Has at found (d path)
  ends_has d left = subst (λ (x : Option (List ℕ)). Has at found x) (sym left.1) left.2

  same_batches : (d : Directory) → EndsAt path at end found d → (batches : List (List Operation)) → Has at batches (d path) → found ≡ batches
  same_batches d left batches has = one_content at left.0 found batches left.2 (subst (λ (x : Option (List ℕ)). Has at batches x) left.1 has)

  pub found_once : (s : Option Story) → WhereTold s (EndsAt path at end found) → WhereTold s (λ d. (batches : List (List Operation)) → Has at batches (d path) → found ≡ batches)
  found_once None left = tt
  found_once (Some s) left = same_batches (reads s) left

  pub found_faultless : (s : Option Story) → WhereTold s (EndsAt path at end found) → WhereTold s (λ d. (place : ℕ) → IsMalformed at place (d path) → ⊥)
  found_faultless None left = tt
  found_faultless (Some s) left = λ place faulty. not_both at place found (reads s path) (ends_has (reads s) left) faulty

module _ (path : List ℕ) (at : ℕ) where
  outside_by : (d : Directory) (fault : JournalFault) → IsFaultOf at (d path) fault → (batches : List (List Operation)) → Has at batches (d path) → IsOutside fault
  outside_by d (Fault count) says batches has = tt
  outside_by d (Malformed place) says batches has = not_both at place batches (d path) has says
  outside_by d Memory says batches has = tt

  pub fault_outside : (s : Option Story) (fault : JournalFault) → WhereTold s (λ d. IsFaultOf at (d path) fault) → WhereTold s (λ d. (batches : List (List Operation)) → Has at batches (d path) → IsOutside fault)
  fault_outside None fault says = tt
  fault_outside (Some s) fault says = outside_by (reads s) fault says

  no_other : (d : Directory) (fault : JournalFault) → IsFaultOf at (d path) fault → (place : ℕ) → IsMalformed at place (d path) → IsNoOtherThan place fault
  no_other d (Fault count) says place faulty = tt
  no_other d (Malformed told) says place faulty = one_fault at told place (drop at (unwrap_or (d path) [])) says faulty
  no_other d Memory says place faulty = tt

  pub fault_once : (s : Option Story) (fault : JournalFault) → WhereTold s (λ d. IsFaultOf at (d path) fault) → WhereTold s (λ d. (place : ℕ) → IsMalformed at place (d path) → IsNoOtherThan place fault)
  fault_once None fault says = tt
  fault_once (Some s) fault says = no_other (reads s) fault says

-- a file holds one list of batches alone
pub one_list : (at : ℕ) (a b : List (List Operation)) (file : Option (List ℕ)) → Has at a file → Has at b file → a ≡ b
one_list at a b None one two = absurd one
one_list at a b (Some file) one two = one_content at file a b one two
