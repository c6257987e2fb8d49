-- Rows as a list of entries in key order.
use Rattle.std.specs.Prelude.{ℕ, Bool, false, not, List, [], ◌∷◌, Option, Some, None}
use Rattle.std.specs.List.{filter, prefix_len}
use Rattle.std.specs.Str.{bytes_eq}
use Rattle.std.specs.Ordering.{is_lt}
use Rattle.std.specs.FinMap as finite_map
use Rattle.std.specs.FinMap.Entries.{put, is_sorted}
use Rattle.row_batch.specs.declared.operation.Operation.{Operation}
use Rattle.row_batch.specs.declared.operation.Operation.TheVariants.{Delete, DeletePrefix, Put}
use Rattle.row_batch.specs.Order.{key_cmp}
use Rattle.row_batch.specs.Rows.{Rows, is_under}

-- keys with their values
abbrev pub Entries : Type 0
Entries = List (List ℕ × List ℕ)

-- the rows of entries in key order
abbrev pub rows_of : Entries → Rows
rows_of entries = finite_map.from_sorted entries

-- the keys strictly rise
abbrev pub in_key_order : Entries → Bool
in_key_order entries = is_sorted key_cmp entries

-- how many entries have keys before this one
abbrev pub place_for : List ℕ → Entries → ℕ
place_for key entries = prefix_len (λ entry. is_lt (key_cmp entry.0 key)) entries

abbrev pub has_key : List ℕ → Option (List ℕ × List ℕ) → Bool
has_key key None = false
has_key key (Some entry) = bytes_eq entry.0 key

-- the entries after an operation
abbrev pub entries_after : Operation → Entries → Entries
entries_after (Delete key) entries = filter (λ entry. not (bytes_eq entry.0 key)) entries
entries_after (DeletePrefix prefix) entries = filter (λ entry. not (is_under prefix entry.0)) entries
entries_after (Put key value) entries = put key_cmp key value entries

-- the entries after all the operations, in their order
abbrev pub entries_applied : List Operation → Entries → Entries
entries_applied [] entries = entries
entries_applied (x ∷ xs) entries = entries_applied xs (entries_after x entries)
