-- What a batch is, and its bytes.
use Rattle.std.specs.Prelude.{◌≡◌, ℕ, ◌<◌, ◌^◌, Bool, true, List, [], ◌∷◌, ◌++◌, length, Option, Some, None}
use Rattle.std.specs.List.{flat_map, AllByRecursion}
use Rattle.std.specs.Int.{w16, w32, w64, to_be_bytes}
use Rattle.row_batch.specs.declared.operation.Operation.{Operation}
use Rattle.row_batch.specs.declared.operation.Operation.TheVariants.{Delete, DeletePrefix, Put}
use Rattle.row_batch.specs.Order.{in_order}

-- a length of two bytes, and the bytes
abbrev pub key_bytes : List ℕ → List ℕ
key_bytes key = to_be_bytes w16 (length key) ++ key

-- a length of four bytes, and the bytes
abbrev pub value_bytes : List ℕ → List ℕ
value_bytes value = to_be_bytes w32 (length value) ++ value

unfoldable pub operation_bytes : Operation → List ℕ
operation_bytes (Put key value) = 1 ∷ (key_bytes key ++ value_bytes value)
operation_bytes (Delete key) = 2 ∷ key_bytes key
operation_bytes (DeletePrefix prefix) = 3 ∷ key_bytes prefix

-- a count of four bytes, and the operations
unfoldable pub batch_bytes : List Operation → List ℕ
batch_bytes operations = to_be_bytes w32 (length operations) ++ flat_map operation_bytes operations

-- how the frame of operations begins, in whatever order they stand: a length of eight bytes, and the count
unfoldable pub frame_head : List Operation → List ℕ
frame_head operations = to_be_bytes w64 (length (batch_bytes operations)) ++ to_be_bytes w32 (length operations)

-- a length of eight bytes, the batch's bytes, and a closed gate
unfoldable pub frame : List Operation → List ℕ
frame operations = to_be_bytes w64 (length (batch_bytes operations)) ++ (batch_bytes operations ++ 0 ∷ [])

-- the lengths have room in their fields
abbrev pub Fits : Operation → Type 0
Fits (Put key value) = (length key < 2 ^ 16) × (length value < 2 ^ 32)
Fits (Delete key) = length key < 2 ^ 16
Fits (DeletePrefix prefix) = length prefix < 2 ^ 16

-- the operations have room in a batch's bytes, in whatever order they stand
pub record HasRoom (operations : List Operation) : Type 0 where
  pub count : length operations < 2 ^ 32
  pub each : AllByRecursion Fits operations

pub record IsBatch (operations : List Operation) : Type 0 where
  pub count : length operations < 2 ^ 32
  pub each : AllByRecursion Fits operations
  pub order : in_order operations ≡ true

-- a batch as callers see it: its operations, and whether its frame is made
pub record BatchValue : Type 0 where
  pub operations : List Operation
  pub is_framed : Bool

-- the operation at a place puts a value, with a key and a value that are as long as these
abbrev pub PutsAsLong : List ℕ → List ℕ → Option Operation → Type 0
PutsAsLong key value (Some (Put old_key old_value)) = (length old_key ≡ length key) × (length old_value ≡ length value)
PutsAsLong key value (Some (Delete old_key)) = ⊥
PutsAsLong key value (Some (DeletePrefix old_prefix)) = ⊥
PutsAsLong key value None = ⊥
