use Rattle.std.proofs.Common.{◌≡◌, ◌∙◌, List}
use Rattle.row_batch.specs.declared.operation.Operation.{Operation}
use Rattle.row_batch.specs.Rows.{no_rows}
use Rattle.row_store.specs.Entries.{rows_of}
use Rattle.row_store.specs.Value.{rows_after, IsRowsFile}
use Rattle.row_store.specs.Opening.{Opens, IsOutside, IsVersionOrOutside}
use Rattle.row_store.proofs.OnDisk.{gate_opened, of_rows, on_disk_opened}
use Rattle.row_store.proofs.Opened.{told_before, never_newer, check_only, check_newer}
use Rattle.row_store.proofs.store.RowStore.open_rows.Goals as goal

pub returns-in-Ok-read-clause-only : goal.returns-in-Ok-read-clause-only
returns-in-Ok-read-clause-only g c =
    told_before (g.D.Disk.story c.args.disk.now) (g.D.Disk.story c.check.new.disk) (λ d. (batches : List (List Operation)) → IsRowsFile batches (d c.args.path.now) → rows_of c.in-Ok-read.contents.rows.items ≡ rows_after batches no_rows) c.check.ensures.same c.in-Ok-read.ensures.only

pub returns-in-Ok-read-clause-newer : goal.returns-in-Ok-read-clause-newer
returns-in-Ok-read-clause-newer g c = never_newer (g.D.Disk.story c.args.disk.now) c.args.path.now (λ _. ⊥) c.in-Ok.ensures.judged

pub returns-in-Err-read-clause-only : goal.returns-in-Err-read-clause-only
returns-in-Err-read-clause-only g c =
    told_before (g.D.Disk.story c.args.disk.now) (g.D.Disk.story c.check.new.disk) (λ d. (batches : List (List Operation)) → IsRowsFile batches (d c.args.path.now) → IsOutside c.in-Err-read.refused) c.check.ensures.same c.in-Err-read.ensures.only

pub returns-in-Err-read-clause-newer : goal.returns-in-Err-read-clause-newer
returns-in-Err-read-clause-newer g c = never_newer (g.D.Disk.story c.args.disk.now) c.args.path.now (λ n. IsVersionOrOutside n c.in-Err-read.refused) c.in-Ok.ensures.judged

pub returns-in-Err-clause-only : goal.returns-in-Err-clause-only
returns-in-Err-clause-only g c = check_only (g.D.Disk.story c.args.disk.now) c.args.path.now c.in-Err.refusal c.in-Err.ensures.judged

pub returns-in-Err-clause-newer : goal.returns-in-Err-clause-newer
returns-in-Err-clause-newer g c = check_newer (g.D.Disk.story c.args.disk.now) c.args.path.now c.in-Err.refusal c.in-Err.ensures.judged

pub returns-in-Ok-read-clause-room : goal.returns-in-Ok-read-clause-room
returns-in-Ok-read-clause-room g c = gate_opened (g.D.Disk.story c.check.new.disk) (g.D.Disk.story c.read.new.disk) c.in-Ok-read.contents.journal (rows_of c.in-Ok-read.contents.rows.items) c.read.ensures.same c.in-Ok-read.ensures.found

pub returns-in-Ok-read-clause-only_rows : goal.returns-in-Ok-read-clause-only_rows
returns-in-Ok-read-clause-only_rows g c =
    of_rows (g.D.Disk.story c.args.disk.now) c.args.path.now (λ rows. rows_of c.in-Ok-read.contents.rows.items ≡ rows) (returns-in-Ok-read-clause-only g c)

pub returns-in-Err-read-clause-only_rows : goal.returns-in-Err-read-clause-only_rows
returns-in-Err-read-clause-only_rows g c =
    of_rows (g.D.Disk.story c.args.disk.now) c.args.path.now (λ _. IsOutside c.in-Err-read.refused) (returns-in-Err-read-clause-only g c)

pub returns-in-Err-clause-only_rows : goal.returns-in-Err-clause-only_rows
returns-in-Err-clause-only_rows g c = of_rows (g.D.Disk.story c.args.disk.now) c.args.path.now (λ _. IsOutside c.in-Err.refusal) (returns-in-Err-clause-only g c)

pub returns-in-Ok-read-clause-on_disk : goal.returns-in-Ok-read-clause-on_disk
returns-in-Ok-read-clause-on_disk g c = λ settled.
    let journal = c.in-Ok-read.contents.journal in
    let rows = rows_of c.in-Ok-read.contents.rows.items in
    let first = g.D.Disk.story c.args.disk.now in
    let opens = told_before first (g.D.Disk.story c.check.new.disk) (Opens journal rows) c.check.ensures.same c.in-Ok-read.ensures.found in
    on_disk_opened first (g.D.Disk.story c.read.new.disk) (record { journal = journal; rows = rows }) c.args.path.now
    c.in-Ok-read.ensures.journal.0 c.in-Ok-read.ensures.journal.1 (c.read.ensures.same ∙ c.check.ensures.same) opens settled
