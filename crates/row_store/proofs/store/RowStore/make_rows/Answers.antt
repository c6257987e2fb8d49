use Rattle.std.proofs.Common.{[], ℕ, List, None, ◌∙◌, ap}
use Rattle.row_journal.proofs.Steps.{told_gate}
use Rattle.row_store.proofs.Laws.{rows-nothing}
use Rattle.row_store.proofs.Made.{stands_made}
use Rattle.row_store.proofs.Standing.{stands_some}
use Rattle.row_store.proofs.OnDisk.{on_disk_made}
use Rattle.row_store.specs.Entries.{rows_of}
use Rattle.row_journal.specs.Value.{JournalValue}
use Rattle.row_store.proofs.store.RowStore.make_rows.Goals as goal

pub returns-in-Ok-make_empty-clause-rows : goal.returns-in-Ok-make_empty-clause-rows
returns-in-Ok-make_empty-clause-rows g c = (rows-nothing c.new.result.items c.new.ensures.items).1

pub returns-in-Ok-make_empty-clause-stands : goal.returns-in-Ok-make_empty-clause-stands
returns-in-Ok-make_empty-clause-stands g c =
    stands_made (g.D.Disk.story c.args.disk.now) (g.D.Disk.story c.make_empty.new.disk) c.of-in-Ok-make_empty.result c.in-Ok.text c.args.path.now c.of-in-Ok-make_empty.ensures c.in-Ok.ensures c.in-Ok-make_empty.ensures.reads

pub returns-in-Ok-make_empty-clause-room : goal.returns-in-Ok-make_empty-clause-room
returns-in-Ok-make_empty-clause-room g c =
    told_gate (g.D.Disk.story c.make_empty.new.disk) c.of-in-Ok-make_empty.result
    (stands_some (g.D.Disk.story c.make_empty.new.disk) c.of-in-Ok-make_empty.result []
    (stands_made (g.D.Disk.story c.args.disk.now) (g.D.Disk.story c.make_empty.new.disk) c.of-in-Ok-make_empty.result c.in-Ok.text c.args.path.now c.of-in-Ok-make_empty.ensures c.in-Ok.ensures c.in-Ok-make_empty.ensures.reads))

pub returns-in-Ok-make_empty-clause-on_disk : goal.returns-in-Ok-make_empty-clause-on_disk
returns-in-Ok-make_empty-clause-on_disk g c =
    let at_path : List ℕ → JournalValue = λ p. record { path = p; at = 64; end = 64; fault = None } in
    on_disk_made (g.D.Disk.story c.args.disk.now) (g.D.Disk.story c.make_empty.new.disk) (record { journal = c.of-in-Ok-make_empty.result; rows = rows_of c.new.result.items }) c.args.path.now
    (c.of-in-Ok-make_empty.ensures ∙ ap at_path c.in-Ok.ensures) (returns-in-Ok-make_empty-clause-rows g c) c.in-Ok-make_empty.ensures.reads c.in-Ok-make_empty.ensures.settled
