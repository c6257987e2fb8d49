-- The order of operations in a batch.
use Rattle.std.specs.Prelude.{◌≡◌, ℕ, Bool, true, false, not, ◌&&◌, List, [], ◌∷◌}
use Rattle.std.specs.List.Sorted.{IsPermutation, IsStableBy}
use Rattle.std.specs.Str.{bytes_eq}
use Rattle.std.specs.declared.cmp.Ordering.{Ordering}
use Rattle.std.specs.Ordering.{nat_cmp, ordering_then, is_lt}
use Rattle.std.specs.Cmp.Lexicographic.{slice_cmp}
use Rattle.row_batch.specs.declared.operation.Operation.{Operation}
use Rattle.row_batch.specs.declared.operation.Operation.TheVariants.{Delete, DeletePrefix, Put}

-- keys in byte order
abbrev pub key_cmp : List ℕ → List ℕ → Ordering
key_cmp a b = slice_cmp nat_cmp a b

-- deletions first, then prefix deletions, then puts
abbrev pub rank : Operation → ℕ
rank (Delete key) = 0
rank (DeletePrefix prefix) = 1
rank (Put key value) = 2

-- the key, or the prefix of keys
abbrev pub key_of : Operation → List ℕ
key_of (Delete key) = key
key_of (DeletePrefix prefix) = prefix
key_of (Put key value) = key

-- by rank, and in each group in key order
abbrev pub operation_cmp : Operation → Operation → Ordering
operation_cmp a b = ordering_then (nat_cmp (rank a) (rank b)) (key_cmp (key_of a) (key_of b))

abbrev pub comes_before : Operation → Operation → Bool
comes_before a b = is_lt (operation_cmp a b)

-- the first of these doesn't come before the operation
abbrev pub may_precede : Operation → List Operation → Bool
may_precede x [] = true
may_precede x (y ∷ ys) = not (comes_before y x)

-- none comes before the one that it stands behind
abbrev pub in_order : List Operation → Bool
in_order [] = true
in_order (x ∷ xs) = may_precede x xs && in_order xs

-- the operations of a batch in the order of its bytes: the same ones, and those that tie as they came
pub record IsArranged (came arranged : List Operation) : Type 0 where
  pub same : IsPermutation came arranged
  pub order : in_order arranged ≡ true
  pub ties : IsStableBy comes_before came arranged

abbrev pub is_put_of : List ℕ → Operation → Bool
is_put_of key (Delete own) = false
is_put_of key (DeletePrefix own) = false
is_put_of key (Put own value) = bytes_eq own key
