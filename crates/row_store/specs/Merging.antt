-- A batch in order, done to rows in key order in one pass. At each row the deletions that it lies behind are passed; the row is gone
-- where the first that is left names it. The puts of keys before it go in front of it.
use Rattle.std.specs.Prelude.{◌≡◌, ℕ, Bool, true, false, not, ◌||◌, ◌&&◌, List, [], ◌∷◌, ◌++◌, Option, Some, None, if◌then◌else◌}
use Rattle.std.specs.List.{filter, list_any}
use Rattle.std.specs.Ordering.{is_lt}
use Rattle.std.specs.declared.cmp.Ordering.TheVariants.{Less}
use Rattle.std.specs.FinMap.Entries.{put, below_all, is_sorted}
use lib.Dec.{T}
use Rattle.row_batch.specs.declared.operation.Operation.{Operation}
use Rattle.row_batch.specs.declared.operation.Operation.TheVariants.{Delete, DeletePrefix, Put}
use Rattle.row_batch.specs.Order.{key_cmp}
use Rattle.row_batch.specs.Rows.{is_key, is_under}
use Rattle.row_store.specs.Entries.{Entries}

-- the puts in their order
abbrev pub puts_of : List Operation → Entries
puts_of [] = []
puts_of (Delete key ∷ xs) = puts_of xs
puts_of (DeletePrefix prefix ∷ xs) = puts_of xs
puts_of (Put key value ∷ xs) = (key, value) ∷ puts_of xs

-- all the puts, one after another
abbrev pub put_all : Entries → Entries → Entries
put_all [] entries = entries
put_all (p ∷ ps) entries = put_all ps (put key_cmp p.0 p.1 entries)

-- the first of the puts
abbrev pub put_first : Entries → Entries → Entries
put_first [] entries = entries
put_first (p ∷ ps) entries = put key_cmp p.0 p.1 entries

abbrev pub is_first_before : List ℕ → Entries → Bool
is_first_before key [] = false
is_first_before key (p ∷ ps) = is_lt (key_cmp p.0 key)

-- ## Deletions

-- the deletion of a key
abbrev pub is_deletion_of : List ℕ → Operation → Bool
is_deletion_of key (Delete own) = is_key key own
is_deletion_of key (DeletePrefix prefix) = false
is_deletion_of key (Put own value) = false

-- a prefix deletion of it
abbrev pub is_prefix_of : List ℕ → Operation → Bool
is_prefix_of key (Delete own) = false
is_prefix_of key (DeletePrefix prefix) = is_under prefix key
is_prefix_of key (Put own value) = false

-- a deletion that names neither a key nor any behind it; the same among prefix deletions
abbrev pub passes_deletion : List ℕ → Operation → Bool
passes_deletion key (Delete own) = is_lt (key_cmp own key)
passes_deletion key (DeletePrefix prefix) = false
passes_deletion key (Put own value) = false

abbrev pub passes_prefix : List ℕ → Operation → Bool
passes_prefix key (Delete own) = true
passes_prefix key (DeletePrefix prefix) = is_lt (key_cmp prefix key) && not (is_under prefix key)
passes_prefix key (Put own value) = false

abbrev pub holds : (Operation → Bool) → Option Operation → Bool
holds test None = false
holds test (Some x) = test x

-- what is left behind those at the front that pass the test
abbrev pub skip : (Operation → Bool) → List Operation → List Operation
skip test [] = []
skip test (x ∷ xs) = if test x then skip test xs else x ∷ xs

-- a key of those that are named
abbrev pub is_named : List Operation → List Operation → List ℕ → Bool
is_named deletions prefixes key = list_any (is_deletion_of key) deletions || list_any (is_prefix_of key) prefixes

-- the entries whose keys aren't named
abbrev pub kept : List Operation → List Operation → Entries → Entries
kept deletions prefixes entries = filter (λ entry. not (is_named deletions prefixes entry.0)) entries

abbrev pub unless : Bool → List ℕ × List ℕ → Entries → Entries
unless true entry entries = entries
unless false entry entries = entry ∷ entries

-- what comes before a key comes before all of these
abbrev pub IsFrom : List ℕ → Entries → Type 0
IsFrom key rest = (other : List ℕ) → key_cmp other key ≡ Less → T (below_all key_cmp other rest)

-- Puts and entries came in front: with those that are left behind them they make the same of the puts that are left, and stay in key
-- order.
pub record Moves (old_puts old before puts now rest : Entries) : Type 0 where
  pub same : put_all puts (now ++ rest) ≡ put_all old_puts (old ++ before)
  pub order : T (is_sorted key_cmp (old ++ before)) → T (is_sorted key_cmp (now ++ rest))
