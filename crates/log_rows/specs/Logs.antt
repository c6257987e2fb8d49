-- The records of the log among rows.
use Rattle.std.specs.Prelude.{◌≡◌, ℕ, Bool, true, false, nat_eq, List, [], ◌∷◌, Option, Some, None, is_some, if◌then◌else◌}
use Rattle.std.specs.Int.{w64, to_be_bytes}
use Rattle.std.specs.List.{AllByRecursion}
use Rattle.std.specs.Option.{option_or}
use Rattle.std.specs.FinMap as finite_map
use Rattle.row_batch.specs.declared.operation.Operation.{Operation}
use Rattle.row_batch.specs.declared.operation.Operation.TheVariants.{Delete, Put}
use Rattle.row_batch.specs.Rows.{Rows, is_key}
use Rattle.row_batch.specs.Meaning.{made_of}
use Rattle.ddl_log.specs.declared.records.LogRecord.{LogRecord}
use Rattle.ddl_log.specs.Records.{IsRecord, record_bytes}
use Rattle.ddl_log.specs.Effect.{by_id}

-- the key of a record's row: a tag, and the id in eight bytes
unfoldable pub record_key : ℕ → List ℕ
record_key id = 9 ∷ to_be_bytes w64 id

-- a key with that tag
abbrev pub is_record_key : List ℕ → Bool
is_record_key [] = false
is_record_key (tag ∷ rest) = nat_eq tag 9

-- the value that these records have under a key
abbrev pub record_under : List LogRecord → List ℕ → Option (List ℕ)
record_under [] key = None
record_under (item ∷ items) key = if is_key key (record_key item.id) then Some (record_bytes item) else record_under items key

-- The rows have just these records, which stand in the order of their ids.
pub record IsLog (rows : Rows) (items : List LogRecord) : Type 0 where
  pub order : by_id items ≡ true
  pub each : AllByRecursion IsRecord items
  pub are : (key : List ℕ) → is_record_key key ≡ true → finite_map.get rows key ≡ record_under items key

-- the operations that put a record and take it away
abbrev pub put_row : LogRecord → Operation
put_row item = Put (record_key item.id) (record_bytes item)

abbrev pub delete_row : LogRecord → Operation
delete_row item = Delete (record_key item.id)

-- Of the log, the operations take away the records of the one list, and put those of the other.
pub record ChangesLog (operations : List Operation) (gone come : List LogRecord) : Type 0 where
  pub is : (key : List ℕ) → is_record_key key ≡ true → (old : Option (List ℕ)) → made_of operations key old ≡ option_or (record_under come key) (if is_some (record_under gone key) then None else old)

-- the new operations make of each record's key what the old ones make of it
abbrev pub LeavesLog : List Operation → List Operation → Type 0
LeavesLog old new = (key : List ℕ) → is_record_key key ≡ true → (before : Option (List ℕ)) → made_of new key before ≡ made_of old key before

-- and of every other key
abbrev pub LeavesOthers : List Operation → List Operation → Type 0
LeavesOthers old new = (key : List ℕ) → is_record_key key ≡ false → (before : Option (List ℕ)) → made_of new key before ≡ made_of old key before
