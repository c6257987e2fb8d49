-- A call of the record, as the change that it was.
use Rattle.std.proofs.Common.{◌≡◌, ℕ, sym, subst}
use Rattle.disk_trait.specs.Change.{Directory, Change, reads_after}
use Rattle.disk_memory.specs.declared.record.Did.{Did}
use Rattle.disk_memory.specs.Record.{change_of}
use Rattle.disk_memory.specs.Replay.{IsLike, Tears}

pub like_of : (call : Did) (change : Change) (new old : Directory) → change_of call ≡ change → IsLike new (reads_after change old) → IsLike new (reads_after (change_of call) old)
like_of call change new old is like = subst (λ (x : Change). IsLike new (reads_after x old)) (sym is) like

pub tears_of : (choice : ℕ) (call : Did) (change : Change) (reads old new : Directory) → change_of call ≡ change → Tears choice reads change old new → Tears choice reads (change_of call) old new
tears_of choice call change reads old new is tears = subst (λ (x : Change). Tears choice reads x old new) (sym is) tears
