-- A journal that was read, and why one wasn't.
use Rattle.std.proofs.Common.{◌≡◌, ℕ, List, ◌++◌, take, drop, Option, Some, None, Err, sym, ap, subst, ◌∙◌, arith}
use Rattle.std.specs.Int.{w32, from_be_bytes}
use Rattle.std.proofs.lemmas.List.{take-append-drop}
use Rattle.disk_trait.specs.Change.{Directory}
use Rattle.disk_trait.specs.Story.{Story, WhereTold, reads}
use Rattle.row_batch.specs.declared.operation.Operation.{Operation}
use Rattle.row_batch.specs.Batches.{BatchValue}
use Rattle.row_batch.specs.Rows.{Rows, no_rows}
use Rattle.row_journal.specs.declared.outcome.JournalFault.{JournalFault}
use Rattle.row_journal.specs.declared.outcome.JournalFault.TheVariants as faults
use Rattle.row_journal.specs.Append.{Has}
use Rattle.row_journal.specs.Opening.{operations_of, IsOutside as IsOutsideFault}
use Rattle.row_store.specs.declared.outcome.RowsRefused.{RowsRefused}
use Rattle.row_store.specs.declared.outcome.RowsRefused.TheVariants.{Fault, NoForm, Version, Memory}
use Rattle.row_store.specs.Header.{header, head_of, IsHead, IsNewerHead, IsNewer}
use Rattle.row_store.specs.Value.{rows_after, IsRowsFile}
use Rattle.row_store.specs.Opening.{IsRefusalOf, IsCheckOf, IsOutside, IsVersionOrOutside}

-- a file with batches has just the rows that were made
pub only_rows : (story : Option Story) (path : List ℕ) (opened read : List BatchValue) (rows : Rows) → WhereTold story (λ d. (batches : List (List Operation)) → Has 64 batches (d path) → operations_of opened ≡ batches) → read ≡ opened → rows ≡ rows_after (operations_of read) no_rows
    → WhereTold story (λ d. (batches : List (List Operation)) → IsRowsFile batches (d path) → rows ≡ rows_after batches no_rows)
only_rows None path opened read rows found same made = tt
only_rows (Some s) path opened read rows found same made =
    λ batches file. made ∙ ap (λ (bs : List BatchValue). rows_after (operations_of bs) no_rows) same ∙ ap (λ (b : List (List Operation)). rows_after b no_rows) (found batches file.journal)

-- a file whose journal has a fault has no batches
pub no_file : (story : Option Story) (path : List ℕ) (fault : JournalFault) (place : ℕ) → fault ≡ faults.Malformed place → WhereTold story (λ d. (batches : List (List Operation)) → Has 64 batches (d path) → IsOutsideFault fault)
    → WhereTold story (λ d. (batches : List (List Operation)) → IsRowsFile batches (d path) → ⊥)
no_file None path fault place is found = tt
no_file (Some s) path fault place is found = λ batches file. subst IsOutsideFault is (found batches file.journal)

-- the version of this header isn't later
pub not_newer : (number : ℕ) (bytes : List ℕ) → IsHead bytes → IsNewerHead number bytes → ⊥
not_newer number bytes head newer =
    let whole : bytes ≡ header ++ drop 64 bytes = sym (take-append-drop 64 bytes) ∙ ap (λ (f : List ℕ). f ++ drop 64 bytes) head.front in
    let one : number ≡ 1 = newer.number_is ∙ ap (λ (b : List ℕ). from_be_bytes w32 (take 4 (drop 16 b))) whole in
    omega (arith, one, newer.later)

pub no_form : (story : Option Story) (path : List ℕ) (fault : JournalFault) (place : ℕ) → fault ≡ faults.Malformed place → WhereTold story (λ d. IsHead (head_of (d path))) → WhereTold story (λ d. (batches : List (List Operation)) → Has 64 batches (d path) → IsOutsideFault fault)
    → WhereTold story (λ d. IsRefusalOf (d path) NoForm)
no_form None path fault place is head found = tt
no_form (Some s) path fault place is head found =
    (λ batches file. subst IsOutsideFault is (found batches file.journal), λ number newer. not_newer number (head_of (reads s path)) head newer)

-- what holds of a story holds of the one that it came from
pub told_before : (old new : Option Story) (P : Directory → Type 0) → new ≡ old → WhereTold new P → WhereTold old P
told_before old new P same told = subst (λ (s : Option Story). WhereTold s P) same told

-- a file that begins as one of this version isn't one of a later version
pub never_newer : (story : Option Story) (path : List ℕ) (Q : ℕ → Type 0) → WhereTold story (λ d. IsHead (head_of (d path))) → WhereTold story (λ d. (number : ℕ) → IsNewer number (d path) → Q number)
never_newer None path Q head = tt
never_newer (Some s) path Q head = λ number newer. absurd (not_newer number (head_of (reads s path)) head newer)

head_only : (refusal : RowsRefused) (file : Option (List ℕ)) → IsCheckOf (Err refusal) (head_of file) → (batches : List (List Operation)) → IsRowsFile batches file → IsOutside refusal
head_only (Fault count) file judged batches is = tt
head_only NoForm file judged batches is = judged.0 is.head
head_only (Version number) file judged batches is = not_newer number (head_of file) is.head judged
head_only Memory file judged batches is = absurd judged

head_newer : (refusal : RowsRefused) (file : Option (List ℕ)) → IsCheckOf (Err refusal) (head_of file) → (number : ℕ) → IsNewer number file → IsVersionOrOutside number refusal
head_newer (Fault count) file judged number newer = tt
head_newer NoForm file judged number newer = judged.1 number newer
head_newer (Version other) file judged number newer = judged.number_is ∙ sym newer.number_is
head_newer Memory file judged number newer = absurd judged

-- a file that is refused by its head is no system file with batches
pub check_only : (story : Option Story) (path : List ℕ) (refusal : RowsRefused) → WhereTold story (λ d. IsCheckOf (Err refusal) (head_of (d path))) → WhereTold story (λ d. (batches : List (List Operation)) → IsRowsFile batches (d path) → IsOutside refusal)
check_only None path refusal judged = tt
check_only (Some s) path refusal judged = head_only refusal (reads s path) judged

-- nor one of another later version
pub check_newer : (story : Option Story) (path : List ℕ) (refusal : RowsRefused) → WhereTold story (λ d. IsCheckOf (Err refusal) (head_of (d path))) → WhereTold story (λ d. (number : ℕ) → IsNewer number (d path) → IsVersionOrOutside number refusal)
check_newer None path refusal judged = tt
check_newer (Some s) path refusal judged = head_newer refusal (reads s path) judged
