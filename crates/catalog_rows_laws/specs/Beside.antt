-- Batches that exchange rows of a catalog, and may do more beside with the records of the log.
use Rattle.std.specs.Prelude.{◌≡◌, ℕ, Bool, false, nat_eq, List, [], ◌∷◌, Option, Some, None, if◌then◌else◌}
use Rattle.std.specs.Option.{option_or}
use Rattle.row_batch.specs.declared.operation.Operation.{Operation}
use Rattle.row_batch.specs.Meaning.{made_of}
use Rattle.catalog_rows.specs.Owners.{Owner}
use Rattle.catalog_rows.specs.Lists.{rows_of_all}
use Rattle.catalog_rows.specs.Changes.{no_put, put_behind, with_counter, are_erased}

-- the key of a record of the log
abbrev pub is_record : List ℕ → Bool
is_record [] = false
is_record (tag ∷ rest) = nat_eq tag 9

-- under each key but those of records, the operations take away the rows of the one list of owners, and put those of
-- the other, and the counter if there is one
pub record ExchangesBeside (operations : List Operation) (gone come : List Owner) (counter : Option ℕ) : Type 0 where
  pub is : (key : List ℕ) → is_record key ≡ false → (old : Option (List ℕ)) → made_of operations key old ≡ option_or (with_counter counter (put_behind (rows_of_all come) no_put) key) (if are_erased gone key then None else old)

-- the new operations make of each key but those of records what the old ones make of it
abbrev pub RecordsAlone : List Operation → List Operation → Type 0
RecordsAlone old new = (key : List ℕ) → is_record key ≡ false → (before : Option (List ℕ)) → made_of new key before ≡ made_of old key before

-- the one, if there is one
abbrev pub one_if : Option Owner → List Owner
one_if None = []
one_if (Some owner) = owner ∷ []
