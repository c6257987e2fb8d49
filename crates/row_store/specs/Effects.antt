-- What batches make of any rows.
use Rattle.std.specs.Prelude.{◌≡◌, ℕ, Bool, true, false, List, [], ◌∷◌, Option, None, IsTrue, if◌then◌else◌}
use Rattle.std.specs.Option.{option_or}
use Rattle.std.specs.FinMap.Entries.{find}
use Rattle.row_batch.specs.declared.operation.Operation.{Operation}
use Rattle.row_batch.specs.declared.operation.Operation.TheVariants.{Delete, DeletePrefix, Put}
use Rattle.row_batch.specs.Order.{key_cmp, in_order}
use Rattle.row_batch.specs.Meaning.{is_deleted, made_of}
use Rattle.row_store.specs.Entries.{Entries, in_key_order}

abbrev pub is_deletion : Operation → Bool
is_deletion (Delete key) = true
is_deletion (DeletePrefix prefix) = true
is_deletion (Put key value) = false

-- the value under a key behind batches
abbrev pub made_by : List (List Operation) → List ℕ → Option (List ℕ) → Option (List ℕ)
made_by [] key old = old
made_by (batch ∷ batches) key old = made_by batches key (made_of batch key old)

-- the batches take away what the deletions name, and put these rows
pub record IsEffect (gone : List Operation) (rows : Entries) (batches : List (List Operation)) : Type 0 where
  pub gone_order : in_order gone ≡ true
  pub order : IsTrue (in_key_order rows)
  pub makes : (key : List ℕ) (old : Option (List ℕ)) → option_or (find key_cmp key rows) (if is_deleted gone key then None else old) ≡ made_by batches key old
