-- What an operation on a file does to the directory that a disk reads.
use Rattle.std.specs.Prelude.{◌≡◌, ℕ, List, Option, Some, None, is_some}
use Rattle.std.specs.Option.{option_map}
use Rattle.disk_trait.specs.Change.{Directory}
use Rattle.disk_trait.specs.Story.{Story, Images, WhereTold}
use Rattle.disk_trait.specs.Calls.{Rose}
use Rattle.disk_trait.specs.Carried.{Off}
use Rattle.data_dir.specs.declared.fault.DirFault.{DirFault}
use Rattle.data_dir.specs.declared.fault.DirFault.TheVariants.{Fault}

-- the file has these bytes, and the others are as before
pub record Makes (path bytes : List ℕ) (old new : Directory) : Type 0 where
  pub off : Off path old new
  pub file : new path ≡ Some bytes

-- the file is gone, and the others are as before
pub record Drops (path : List ℕ) (old new : Directory) : Type 0 where
  pub off : Off path old new
  pub gone : new path ≡ None

-- the file has these bytes if it was there, and the others are as before
pub record Rewrites (path bytes : List ℕ) (old new : Directory) : Type 0 where
  pub off : Off path old new
  pub file : new path ≡ option_map (λ _. bytes) (old path)

-- the file may have other bytes, but is there exactly if it was, and the others are as before
pub record MayRewrite (path : List ℕ) (old new : Directory) : Type 0 where
  pub off : Off path old new
  pub there : is_some (new path) ≡ is_some (old path)

-- each crash now leaves the file there exactly where the disk reads it as there
abbrev pub IsAgreed : List ℕ → Option Story → Type 0
IsAgreed path s = (image : Directory) → Images s image → WhereTold s (λ d. is_some (image path) ≡ is_some (d path))

-- a fault has the count of faults now, and was counted in the call
abbrev pub IsCounted : DirFault → ℕ → ℕ → Type 0
IsCounted (Fault count) before now = (count ≡ now) × Rose before now
