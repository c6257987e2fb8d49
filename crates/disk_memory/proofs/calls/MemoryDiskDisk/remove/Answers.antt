use Rattle.std.proofs.Common.{◌≡◌, ◌+◌, ◌<◌, inl, inr, length, true, false, refl, sym, ◌∙◌, arith}
use Rattle.disk_trait.specs.Change.{made, removed, moved, wrote, cut, tried}
use Rattle.disk_trait.specs.Crash.{did, failed}
use Rattle.disk_trait.specs.Calls.{Undecided, Spoils, last_moment}
use Rattle.disk_memory.specs.Record.{directory_of, story_when, told}
use Rattle.disk_memory.proofs.Told.{acts_noted, on_ok}
use Rattle.disk_memory.proofs.calls.MemoryDiskDisk.remove.Goals as goal

pub returns-else-is_err-clause-acts : goal.returns-else-is_err-clause-acts
returns-else-is_err-clause-acts c =
    let m = c.args.self.now in
    let begun = rw c.in-Listed.is at c.begin.ensures.turn in
    let change = removed c.args.path.now in
    acts_noted _ (directory_of m.start) m.calls c.removed.new.self m.clock.moment c.begin.new.self.moment change
    (Undecided change) (failed change false) begun.before (false, refl) (omega (arith, c.begin.ensures.moment, begun.before))
    (on_ok c.removed.result c.removed.ensures.ok (sym c.is_err.ensures.value ∙ c.if-is_err.false))
