-- The place of a scan, and what is left to it.
use Rattle.std.specs.Prelude.{ℕ, Bool, true, ◌&&◌, List, [], ◌∷◌, Option, Some, None}
use Rattle.std.specs.List.{filter}
use Rattle.std.specs.Ordering.{is_lt}
use Rattle.std.specs.FinMap as finite_map
use Rattle.row_batch.specs.Order.{key_cmp}
use Rattle.row_batch.specs.Rows.{Rows, is_under}
use Rattle.row_store.specs.Entries.{Entries}

-- the prefix of the keys, and the last key that was given
pub record ScanValue : Type 0 where
  pub prefix : List ℕ
  pub last : Option (List ℕ)

-- a key is behind another, if there is one
abbrev pub is_behind : Option (List ℕ) → List ℕ → Bool
is_behind None key = true
is_behind (Some last) key = is_lt (key_cmp last key)

-- a key is under the prefix, and behind the last one
abbrev pub is_left : ScanValue → List ℕ → Bool
is_left scan key = is_under scan.prefix key && is_behind scan.last key

-- the entries that are left to a scan
abbrev pub entries_left : ScanValue → Entries → Entries
entries_left scan entries = filter (λ entry. is_left scan entry.0) entries

-- the rows that are left to a scan, in key order
abbrev pub rows_left : ScanValue → Rows → Entries
rows_left scan rows = entries_left scan (finite_map.entries rows)

-- the key of the last entry; another one where there is none
abbrev pub last_key : Option (List ℕ) → Entries → Option (List ℕ)
last_key before [] = before
last_key before (entry ∷ entries) = last_key (Some entry.0) entries

-- the scan behind what it gave
abbrev pub moved : Entries → ScanValue → ScanValue
moved given scan = record { prefix = scan.prefix; last = last_key scan.last given }
