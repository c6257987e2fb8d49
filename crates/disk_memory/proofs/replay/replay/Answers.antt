use Rattle.std.proofs.Common.{sym, subst, take, ◌+◌}
use Rattle.std.specs.Prelude.{filter, nat_le}
use Rattle.disk_trait.specs.Crash.{Events}
use Rattle.disk_memory.specs.Record.{directory_of, events_of, with_event}
use Rattle.disk_memory.specs.declared.record.Entry.{Entry}
use Rattle.disk_memory.specs.Replay.{Agrees}
use Rattle.disk_memory.proofs.Until.{replay-more}
use Rattle.disk_memory.proofs.replay.replay.Goals as goal

pub calls-preserved : goal.calls-preserved
calls-preserved c =
    let start = directory_of c.args.start.now in
    let es = c.args.calls.now in
    let i = c.calls.entry-index in
    subst (λ (events : Events). Agrees c.args.choice start events (directory_of c.again_until.new.reads) (directory_of c.again_until.new.torn))
    (sym (replay-more c.args.last es i c.entry-item.result c.calls-test.true))
    (subst (λ (entry : Entry). Agrees c.args.choice start (with_event c.args.last entry (events_of (filter (λ e. nat_le e.moment c.args.last) (take i es)))) (directory_of c.again_until.new.reads) (directory_of c.again_until.new.torn))
    c.entry-item.is
    (c.in_ok-again_until.ensures start (events_of (filter (λ e. nat_le e.moment c.args.last) (take i es))) c.calls.invariant))
