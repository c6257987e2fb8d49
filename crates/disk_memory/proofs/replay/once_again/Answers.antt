use Rattle.std.proofs.Common.{Bool, ◌∷◌, sym, subst}
use Rattle.disk_memory.specs.Record.{directory_of, change_of, event_when}
use Rattle.disk_memory.specs.Replay.{Agrees}
use Rattle.disk_memory.proofs.Replays.{again_done}
use Rattle.disk_memory.proofs.replay.once_again.Goals as goal

pub returns : goal.returns
returns c = λ start events so.
    let entry = c.args.entry.now in
    let change = change_of entry.call in
    let r = directory_of c.args.reads.now in
    let t = directory_of c.args.torn.now in
    subst (λ (b : Bool). Agrees c.args.choice start ((entry.moment, event_when b change) ∷ events) (directory_of c.redo.new.reads) (directory_of c.tear.new.torn)) (sym c.if-entry.false)
    (again_done c.args.choice start events entry.moment r t (directory_of c.redo.new.reads) (directory_of c.tear.new.torn) so change c.in_ok-tear.ensures c.in_ok-redo.ensures)
