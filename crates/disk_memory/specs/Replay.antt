-- Calls done again, on what the disk read and on what a crash then leaves.
use Rattle.std.specs.Prelude.{◌≡◌, ℕ, ◌<◌, ◌≤◌, List, length, Option, Some}
use Rattle.std.specs.Option.{option_map}
use Rattle.std.specs.Map.{update}
use Rattle.std.specs.Str.{bytes_eq}
use Rattle.std.proofs.Common.{inl, inr}
use Rattle.disk_trait.specs.Change.{Directory, Loose, Change, made, removed, moved, wrote, cut, tried, spoiled, settled, reads_after}
use Rattle.disk_trait.specs.Crash.{Events, state, MayLeave}

-- the same paths with the same bytes
abbrev pub IsLike : Directory → Directory → Type 0
IsLike new old = (q : List ℕ) → new q ≡ old q

-- some bytes were written, so many of them
abbrev pub Fills : List ℕ → ℕ → ℕ → Directory → Directory → Type 0
Fills path at size old new = (bytes : List ℕ) × (length bytes ≡ size) × IsLike new (reads_after (wrote path at bytes) old)

-- by the choice nothing of a write, all of it, or as many other bytes
pub record Writes (choice : ℕ) (path : List ℕ) (at : ℕ) (bytes : List ℕ) (old new : Directory) : Type 0 where
  pub none : choice ≡ 0 → IsLike new old
  pub all : choice ≡ 1 → IsLike new (reads_after (wrote path at bytes) old)
  pub other : 2 ≤ choice → Fills path at (length bytes) old new

-- of a write that failed nothing, or so many bytes
pub record TriesWrite (choice : ℕ) (path : List ℕ) (at size : ℕ) (old new : Directory) : Type 0 where
  pub none : choice ≤ 1 → IsLike new old
  pub other : 2 ≤ choice → Fills path at size old new

-- of a cut nothing, or all of it from a choice on
pub record Cuts (least choice : ℕ) (path : List ℕ) (size : ℕ) (old new : Directory) : Type 0 where
  pub none : choice < least → IsLike new old
  pub all : least ≤ choice → IsLike new (reads_after (cut path size) old)

-- what a crash then leaves of a change, by the choice; before it the disk reads `reads`
abbrev pub Tears : ℕ → Directory → Change → Directory → Directory → Type 0
Tears choice reads (made path) old new = IsLike new (reads_after (made path) old)
Tears choice reads (removed path) old new = IsLike new (reads_after (removed path) old)
Tears choice reads (moved from to) old new = IsLike new (reads_after (moved from to) old)
Tears choice reads (wrote path at bytes) old new = Writes choice path at bytes old new
Tears choice reads (cut path size) old new = Cuts 1 choice path size old new
Tears choice reads (tried path (inl range)) old new = TriesWrite choice path range.0 range.1 old new
Tears choice reads (tried path (inr size)) old new = Cuts 2 choice path size old new
Tears choice reads (spoiled path step bytes) old new = ⊥
Tears choice reads (settled path) old new = IsLike new (update bytes_eq old path (reads path))

-- what the last sync left of a file
abbrev pub synced_of : Option Loose → Option (List ℕ)
synced_of file = option_map (λ f. f.synced) file

-- the one directory reads as after these calls, and the other is what a crash then leaves by the choice
pub record Agrees (choice : ℕ) (start : Directory) (events : Events) (reads torn : Directory) : Type 0 where
  pub reads_so : IsLike reads (state start events).reads
  pub stands : (path : List ℕ) → MayLeave ((state start events).files path) (torn path)
  pub synced : choice ≡ 0 → (path : List ℕ) → torn path ≡ synced_of ((state start events).files path)
  pub done : choice ≡ 1 → IsLike torn (state start events).reads
