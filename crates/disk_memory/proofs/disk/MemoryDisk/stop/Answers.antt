use Rattle.std.proofs.Common.{◌≡◌, ◌<◌, ℕ, List, sym, ◌∙◌, ap, subst, arith}
use Rattle.std.specs.Prelude.{filter, nat_le}
use Rattle.disk_trait.specs.Crash.{Events}
use Rattle.disk_memory.specs.declared.record.Entry.{Entry}
use Rattle.disk_memory.specs.Record.{directory_of, events_of}
use Rattle.disk_memory.specs.Replay.{Agrees}
use Rattle.disk_memory.proofs.Until.{events-until}
use Rattle.disk_memory.proofs.Stops.{stops_before, stops_after}
use Rattle.disk_memory.proofs.Maps.{Contents}
use Rattle.disk_memory.proofs.disk.MemoryDisk.stop.Goals as goal
use Rattle.disk_memory.proofs.disk.MemoryDisk.stop.Goals.{then-choice-eq0, else-choice-eq0}

pub returns-clause-left : goal.returns-clause-left
returns-clause-left c =
    let m = c.args.self.now in
    let start = directory_of m.start in
    let entries = m.calls.entries.items in
    let last = c.if-choice-eq0.last in
    let reads = directory_of c.in_ok-torn.field-0-0 in
    let torn = directory_of c.in_ok-torn.torn in
    let noted = subst (λ (es : List Entry). Agrees c.args.choice start (events_of (filter (λ e. nat_le e.moment last) es)) reads torn) c.deref.ensures.value c.in_ok-torn.ensures in
    let so = subst (λ (events : Events). Agrees c.args.choice start events reads torn) (events-until last entries) noted in
    let like = λ (q : List ℕ). ap (λ (f : Contents). directory_of f q) c.over.ensures.files ∙ c.in_ok-files.ensures q in
    elim c.if-choice-eq0.branch [
      | then-choice-eq0 w ↦ stops_before m c.args.moment c.args.choice last reads torn (directory_of c.over.result.files) (omega (arith, w.if-choice-eq0.true)) w.last-is so like
      | else-choice-eq0 w ↦ stops_after m c.args.moment c.args.choice last reads torn (directory_of c.over.result.files) (omega (arith, w.if-choice-eq0.false)) (w.last-is ∙ w.saturating_add-last.ensures) so like
    ]
