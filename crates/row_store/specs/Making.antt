-- How a system file comes to be.
use Rattle.std.specs.Prelude.{◌≡◌, ℕ, List, Some}
use Rattle.disk_trait.specs.Calls.{Rose}
use Rattle.disk_trait.specs.Change.{Directory}
use Rattle.disk_trait.specs.Carried.{Off}
use Rattle.row_store.specs.declared.outcome.RowFault.{RowFault}
use Rattle.row_store.specs.declared.outcome.RowFault.TheVariants.{Fault, Memory}

-- the file of a path has these bytes, and nothing else changed
pub record IsMade (path bytes : List ℕ) (old new : Directory) : Type 0 where
  pub off : Off path old new
  pub file : new path ≡ Some bytes

-- a fault of the disk was counted in the call
abbrev pub HasFaultCount : RowFault → ℕ → ℕ → Type 0
HasFaultCount (Fault count) before now = (count ≡ now) × Rose before now
HasFaultCount Memory before now = Unit {0}
