-- What the answers of calls come to.
use Rattle.std.proofs.Common.{◌≡◌, ℕ, true, false, List, [], ◌∷◌, Option, refl, sym, ◌∙◌, ap, subst}
use Rattle.std.specs.Prelude.{◌||◌, Result, Ok, Err, OnOk}
use Rattle.std.proofs.lemmas.Bool.{or_parts}
use Rattle.disk_trait.specs.Change.{Directory}
use Rattle.disk_trait.specs.Story.{Story}
use Rattle.disk_trait.specs.Carried.{Leaves}
use Rattle.row_batch.specs.declared.operation.Operation.{Operation}
use Rattle.row_batch.specs.Rows.{Rows, applied}
use Rattle.row_store.specs.Value.{StoreValue}
use Rattle.ddl_log.specs.declared.records.LogRecord.{LogRecord}
use Rattle.ddl_log.specs.Records.{IsRecord}
use Rattle.ddl_log.specs.Effect.{by_id}
use Rattle.log_rows.specs.Logs.{IsLog, put_row, delete_row}
use Rattle.log_rows.proofs.Logs.{log_with, log_without}
use Rattle.dict_store.specs.declared.fault.StoreFault.{StoreFault}
use Rattle.dict_store_laws.specs.System.{is_system, IsOrdinary}
use Rattle.dict_store_laws.specs.Recovers.{HoldsEither}
use Rattle.dict_store_laws.specs.Kept.{Work, IsKept}
use Rattle.dict_store_laws.specs.Steps.{MayCommit, MayMake, MayPrepare, MayRemove, MayReplay, with_records}
use Rattle.dict_store_laws.proofs.Phases.{may_prepare, may_remove, item_ordinary}

-- ## The batches of one record

module _ (s : Option Story) (store : StoreValue) (work : Work) (kept : IsKept s store work) (item : LogRecord) (items : List LogRecord) where
  pub prepare_commits : IsRecord item → MayPrepare item work items → MayCommit s store.rows (put_row item ∷ []) (with_records work items work.finished)
  prepare_commits is may =
      let p = may.place in
      may_prepare s store work kept item items (put_row item ∷ []) may
      (subst (λ (l : List LogRecord). IsLog (applied (put_row item ∷ []) store.rows) l) (sym p.more_is)
      (log_with store.rows item p.earlier p.later is (subst (λ (l : List LogRecord). IsLog store.rows l) p.without_is kept.log) (subst (λ (l : List LogRecord). by_id l ≡ true) p.more_is may.order)))

  pub remove_commits : (finished : List LogRecord) → MayRemove item work items finished → MayCommit s store.rows (delete_row item ∷ []) (with_records work items finished)
  remove_commits finished may =
      let p = may.place in
      may_remove s store work kept item items finished (delete_row item ∷ []) may
      (subst (λ (l : List LogRecord). IsLog (applied (delete_row item ∷ []) store.rows) l) (sym p.without_is)
      (log_without store.rows item p.earlier p.later (subst (λ (l : List LogRecord). IsLog store.rows l) p.more_is kept.log)))

-- ## Paths of system files

pub names_none : (item : LogRecord) → (is_system item.old_path || is_system item.new_path) ≡ false → IsOrdinary item
names_none item is = let parts = or_parts (is_system item.old_path) (is_system item.new_path) is in record { old_path = parts.0; new_path = parts.1 }

-- what may be made is no system file, and what may be replayed names none
pub made_own : (s : Option Story) (store : StoreValue) (work : Work) (path : List ℕ) → IsKept s store work → MayMake path work → is_system path ≡ true → ⊥
made_own s store work path kept may system =
    let own = item_ordinary s store work kept may.item may.first in
    let no : true ≡ false = sym system ∙ ap is_system (sym may.at) ∙ own.old_path in cc

pub replayed_own : (s : Option Story) (store : StoreValue) (work : Work) (item : LogRecord) (bytes : List ℕ) → IsKept s store work → MayReplay item bytes work → (is_system item.old_path || is_system item.new_path) ≡ true → ⊥
replayed_own s store work item bytes kept may system =
    let own = item_ordinary s store work kept item may.first in
    let none : (is_system item.old_path || is_system item.new_path) ≡ false = rw (own.old_path, own.new_path) refl in
    let no : true ≡ false = sym system ∙ none in cc

-- ## A commit of a batch of one record

pub leaves_as : (before now : ℕ) (s t : Option Story) (rows : Rows) (wanted next : Directory) (batch other : List Operation) → batch ≡ other
    → Leaves before now s t (HoldsEither rows wanted (applied batch rows) next) → Leaves before now s t (HoldsEither rows wanted (applied other rows) next)
leaves_as before now s t rows wanted next batch other same it = subst (λ (b : List Operation). Leaves before now s t (HoldsEither rows wanted (applied b rows) next)) same it

pub commits_as : (s : Option Story) (rows : Rows) (batch other : List Operation) (next : Work) → batch ≡ other → MayCommit s rows other next → MayCommit s rows batch next
commits_as s rows batch other next same it = subst (λ (b : List Operation). MayCommit s rows b next) (sym same) it

abbrev Keeps : Option Story → Option Story → StoreValue → StoreValue → List Operation → Type 0
Keeps s t store grown batch = (work next : Work) → IsKept s store work → MayCommit s store.rows batch next → IsKept t grown next

module _ (s t : Option Story) (store grown : StoreValue) (item : LogRecord) (batch : List Operation) where
  pub prepare_kept : (r : Result (Unit {0}) StoreFault) → IsRecord item → batch ≡ put_row item ∷ [] → OnOk r (Keeps s t store grown batch)
      → OnOk r ((work : Work) (items : List LogRecord) → IsKept s store work → MayPrepare item work items → IsKept t grown (with_records work items work.finished))
  prepare_kept (Ok done) is same it = λ work items kept may.
      it work (with_records work items work.finished) kept (commits_as s store.rows batch (put_row item ∷ []) (with_records work items work.finished) same (prepare_commits s store work kept item items is may))
  prepare_kept (Err fault) is same it = tt

  pub remove_kept : (r : Result (Unit {0}) StoreFault) → batch ≡ delete_row item ∷ [] → OnOk r (Keeps s t store grown batch)
      → OnOk r ((work : Work) (items finished : List LogRecord) → IsKept s store work → MayRemove item work items finished → IsKept t grown (with_records work items finished))
  remove_kept (Ok done) same it = λ work items finished kept may.
      it work (with_records work items finished) kept (commits_as s store.rows batch (delete_row item ∷ []) (with_records work items finished) same (remove_commits s store work kept item items finished may))
  remove_kept (Err fault) same it = tt
