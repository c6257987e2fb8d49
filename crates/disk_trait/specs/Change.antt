-- What a disk reads, what lies on it, and what a call changes of both.
use Rattle.std.specs.Prelude.{ℕ, ◌+◌, Bool, List, [], ◌∷◌, ◌++◌, length, take, drop, Option, Some, None, ◌⊎◌}
use Rattle.std.specs.Option.{option_map, unwrap_or}
use Rattle.std.specs.Map.{update}
use Rattle.std.specs.Str.{bytes_eq}
use Rattle.std.specs.List.{list_any}
use Rattle.std.proofs.Common.{inl, inr}

-- the paths that are there, with their bytes
abbrev pub Directory : Type 0
Directory = List ℕ → Option (List ℕ)

-- a range that was written, by its place and length, or the size that a file was cut to
abbrev pub Step : Type 0
Step = (ℕ × ℕ) ⊎ ℕ

-- a file as it lies on the disk: what the last sync left, and the steps since, the newest first
pub record Loose : Type 0 where
  pub synced : List ℕ
  pub steps : List Step

abbrev pub Files : Type 0
Files = List ℕ → Option Loose

-- a file of which a crash leaves just these bytes
abbrev pub clean : List ℕ → Loose
clean bytes = record { synced = bytes; steps = [] }

abbrev pub stepped : Step → Loose → Loose
stepped step file = record { synced = file.synced; steps = step ∷ file.steps }

pub data Change : Type 0 where
  made : List ℕ → Change
  removed : List ℕ → Change
  moved : List ℕ → List ℕ → Change
  wrote : List ℕ → ℕ → List ℕ → Change
  cut : List ℕ → ℕ → Change
  -- a write or a cut that failed, and the file reads as before
  tried : List ℕ → Step → Change
  -- a write or a cut that failed, and the bytes that the file reads then
  spoiled : List ℕ → Step → List ℕ → Change
  -- a sync
  settled : List ℕ → Change

-- bytes written over others
abbrev pub overlaid : ℕ → List ℕ → List ℕ → List ℕ
overlaid at bytes old = take at old ++ bytes ++ drop (at + length bytes) old

module _ {X : Type 0} where
  -- something new at a path where nothing is
  abbrev pub linked : X → List ℕ → (List ℕ → Option X) → List ℕ → Option X
  linked new path old = update bytes_eq old path (Some (unwrap_or (old path) new))

  -- nothing at a path
  abbrev pub unlinked : List ℕ → (List ℕ → Option X) → List ℕ → Option X
  unlinked path old = update bytes_eq old path None

  -- what is at a path, if anything, at another path in the place of what is there
  abbrev pub relinked : Option X → List ℕ → List ℕ → (List ℕ → Option X) → List ℕ → Option X
  relinked None from to old = old
  relinked (Some file) from to old = update bytes_eq (update bytes_eq old from None) to (Some file)

-- what the disk reads after a change
abbrev pub reads_after : Change → Directory → Directory
reads_after (made path) old = linked [] path old
reads_after (removed path) old = unlinked path old
reads_after (moved from to) old = relinked (old from) from to old
reads_after (wrote path at bytes) old = update bytes_eq old path (option_map (overlaid at bytes) (old path))
reads_after (cut path size) old = update bytes_eq old path (option_map (take size) (old path))
reads_after (tried path step) old = old
reads_after (spoiled path step bytes) old = update bytes_eq old path (option_map (λ _. bytes) (old path))
reads_after (settled path) old = old

-- what lies on the disk after it, where the disk read `reads` before
abbrev pub files_after : Change → Directory → Files → Files
files_after (made path) reads old = linked (clean []) path old
files_after (removed path) reads old = unlinked path old
files_after (moved from to) reads old = relinked (old from) from to old
files_after (wrote path at bytes) reads old = update bytes_eq old path (option_map (stepped (inl (at, length bytes))) (old path))
files_after (cut path size) reads old = update bytes_eq old path (option_map (stepped (inr size)) (old path))
files_after (tried path step) reads old = update bytes_eq old path (option_map (stepped step) (old path))
files_after (spoiled path step bytes) reads old = update bytes_eq old path (option_map (stepped step) (old path))
files_after (settled path) reads old = update bytes_eq old path (option_map clean (reads path))

-- the paths that a create, remove, rename or sync names, which are those that it decides when it is done
abbrev pub names : Change → List (List ℕ)
names (made path) = path ∷ []
names (removed path) = path ∷ []
names (moved from to) = from ∷ to ∷ []
names (wrote path at bytes) = []
names (cut path size) = []
names (tried path step) = []
names (spoiled path step bytes) = []
names (settled path) = path ∷ []

-- a path is one of these
abbrev pub is_in : List ℕ → List (List ℕ) → Bool
is_in path paths = list_any (bytes_eq path) paths

-- two lists have a path in common
abbrev pub share : List (List ℕ) → List (List ℕ) → Bool
share xs ys = list_any (λ x. is_in x ys) xs
