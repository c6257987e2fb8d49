use Rattle.std.proofs.Common.{◌≡◌, ◌+◌, ◌<◌, inl, inr, length, true, false, refl, sym, ◌∙◌, arith}
use Rattle.disk_trait.specs.Change.{made, removed, moved, wrote, cut, tried}
use Rattle.disk_trait.specs.Crash.{did, failed}
use Rattle.disk_trait.specs.Calls.{Undecided, Spoils, last_moment}
use Rattle.disk_memory.specs.Record.{directory_of, story_when, told}
use Rattle.disk_memory.proofs.Told.{acts_noted, on_ok}
use Rattle.disk_memory.proofs.calls.MemoryDiskDisk.cut.Goals as goal

pub returns-else-is_err-clause-acts : goal.returns-else-is_err-clause-acts
returns-else-is_err-clause-acts c =
    let m = c.args.self.now in
    let begun = rw c.in-Listed.is at c.begin.ensures.turn in
    let change = cut c.args.path.now c.args.size in
    acts_noted _ (directory_of m.start) m.calls c.tried_cut.new.self m.clock.moment c.begin.new.self.moment change
    (Spoils (story_when m.calls.keep (directory_of m.start) (told m.calls)) c.args.path.now (inr c.args.size)) (did (tried c.args.path.now (inr c.args.size))) begun.before (inl refl) (omega (arith, c.begin.ensures.moment, begun.before))
    (on_ok c.tried_cut.result c.tried_cut.ensures.ok (sym c.is_err.ensures.value ∙ c.if-is_err.false))
