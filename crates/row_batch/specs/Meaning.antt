-- What the operations of a batch make of each key, in whatever order they stand: deletions go before puts, and of the puts of a
-- key the last counts.
use Rattle.std.specs.Prelude.{◌≡◌, ℕ, Bool, false, List, [], ◌∷◌, Option, Some, None, if◌then◌else◌}
use Rattle.std.specs.List.{list_any}
use Rattle.std.specs.Option.{option_or}
use Rattle.row_batch.specs.declared.operation.Operation.{Operation}
use Rattle.row_batch.specs.declared.operation.Operation.TheVariants.{Delete, DeletePrefix, Put}
use Rattle.row_batch.specs.Rows.{is_key, is_under}

-- the value that an operation puts under a key
abbrev pub put_of : List ℕ → Operation → Option (List ℕ)
put_of key (Delete own) = None
put_of key (DeletePrefix prefix) = None
put_of key (Put own value) = if is_key key own then Some value else None

-- the value of the last put of a key
abbrev pub last_put : List Operation → List ℕ → Option (List ℕ)
last_put [] key = None
last_put (x ∷ xs) key = option_or (last_put xs key) (put_of key x)

-- an operation deletes a key, by itself or by a prefix
abbrev pub deletes : List ℕ → Operation → Bool
deletes key (Delete own) = is_key key own
deletes key (DeletePrefix prefix) = is_under prefix key
deletes key (Put own value) = false

abbrev pub is_deleted : List Operation → List ℕ → Bool
is_deleted xs key = list_any (deletes key) xs

-- the value under a key behind the operations: that of its last put; where none puts it, nothing if it is deleted, and else the
-- value of before
abbrev pub made_of : List Operation → List ℕ → Option (List ℕ) → Option (List ℕ)
made_of xs key old = option_or (last_put xs key) (if is_deleted xs key then None else old)

-- the operations take away the rows whose keys the test holds of, and then put these
pub record Means (operations : List Operation) (gone : List ℕ → Bool) (puts : List ℕ → Option (List ℕ)) : Type 0 where
  pub is : (key : List ℕ) (old : Option (List ℕ)) → made_of operations key old ≡ option_or (puts key) (if gone key then None else old)
