-- A journal that stands on some batches.
use Rattle.std.proofs.Common.{◌≡◌, List, [], ◌∷◌, ◌++◌, Option, Some, None, sym, ap, ◌∙◌}
use Rattle.disk_trait.specs.Story.{Story, WhereTold}
use Rattle.row_batch.specs.declared.operation.Operation.{Operation}
use Rattle.row_batch.specs.Rows.{Rows, applied, no_rows}
use Rattle.row_journal.specs.Value.{JournalValue, Stands, StandsSome}
use Rattle.row_store.specs.Value.{rows_after}
use Rattle.row_store.proofs.Laws.{rows_after-push}

pub stands_some : (story : Option Story) (journal : JournalValue) (batches : List (List Operation)) → WhereTold story (Stands journal batches) → WhereTold story (StandsSome journal)
stands_some None journal batches stands = tt
stands_some (Some s) journal batches stands = (batches, stands)

-- the rows that the batches make
pub rows_pushed : (batches : List (List Operation)) (batch : List Operation) (old new : Rows) → new ≡ applied batch old → old ≡ rows_after batches no_rows → new ≡ rows_after (batches ++ batch ∷ []) no_rows
rows_pushed batches batch old new done made = done ∙ ap (applied batch) made ∙ sym (rows_after-push batches batch no_rows)
