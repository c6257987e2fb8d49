-- What a search and a scan answer of the rows.
use Rattle.std.specs.Prelude.{◌≡◌, ℕ, ◌<◌, List, [], length, take, drop, Some, None}
use Rattle.std.specs.FinMap as finite_map
use Rattle.row_batch.specs.Rows.{Rows}
use Rattle.row_store.specs.declared.searching.Got.{Got}
use Rattle.row_store.specs.declared.searching.Got.TheVariants as gots
use Rattle.row_store.specs.declared.scanning.Scanned.{Scanned}
use Rattle.row_store.specs.declared.scanning.Scanned.TheVariants as scans
use Rattle.row_store.specs.declared.outcome.RowFault.{RowFault}
use Rattle.row_store.specs.declared.outcome.RowFault.TheVariants as faults
use Rattle.row_store.specs.Entries.{Entries}
use Rattle.row_store.specs.Place.{ScanValue, rows_left, moved}

-- the value that the map has under a key, or that it has none
abbrev pub IsGot : Got → List ℕ → Rows → Type 0
IsGot (gots.Value value) key rows = finite_map.get rows key ≡ Some value
IsGot gots.None key rows = finite_map.get rows key ≡ None
IsGot gots.More key rows = ⊥

-- the map has a value under a key
abbrev pub IsKept : List ℕ → Rows → Type 0
IsKept key rows = (value : List ℕ) × (finite_map.get rows key ≡ Some value)

-- A scan gave some of the rows that were left to it, the first 64 or all of them. It stands behind the last of them, and the
-- others are left to it.
pub record Gives (given : Entries) (old new : ScanValue) (rows : Rows) : Type 0 where
  pub some : 0 < length given
  pub first : given ≡ take 64 (rows_left old rows)
  pub place : new ≡ moved given old
  pub rest : rows_left new rows ≡ drop 64 (rows_left old rows)
  pub fewer : length (rows_left new rows) < length (rows_left old rows)

-- it gave some, or none is left
abbrev pub IsScanned : Scanned → ScanValue → ScanValue → Rows → Type 0
IsScanned (scans.Rows given) old new rows = Gives given.items old new rows
IsScanned scans.End old new rows = (rows_left old rows ≡ []) × (new ≡ old)
IsScanned scans.More old new rows = ⊥

-- there was no memory
abbrev pub IsMemory : RowFault → Type 0
IsMemory (faults.Fault count) = ⊥
IsMemory faults.Memory = Unit {0}
