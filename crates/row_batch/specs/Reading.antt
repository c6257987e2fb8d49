-- Reading a batch from left to right; None where the bytes are no batch's.
use Rattle.std.specs.Prelude.{◌≡◌, ℕ, zero, suc, List, [], ◌∷◌, length, take, drop, Option, Some, None, Result, Ok, Err, nat_lt, ◌==◌, ◌&&◌, if◌then◌else◌}
use Rattle.std.specs.Int.{Width, w16, w32, byte_len, from_be_bytes}
use Rattle.row_batch.specs.declared.operation.Operation.{Operation}
use Rattle.row_batch.specs.declared.operation.Operation.TheVariants.{Delete, DeletePrefix, Put}
use Rattle.row_batch.specs.declared.fault.BatchFault.{BatchFault}
use Rattle.row_batch.specs.declared.fault.BatchFault.TheVariants.{Malformed, Memory}
use Rattle.row_batch.specs.Order.{in_order}

infixl 10 ◌>>=◌
abbrev pub ◌>>=◌ : {A B : Type 0} → Option A → (A → Option B) → Option B
(Some x) >>= f = f x
None >>= f = None

-- what a function returned, seen by view, is what reading gives, unless memory ran out
abbrev pub Fails : {Y : Type 0} → BatchFault → Option Y → Type 0
Fails Memory read = Unit {0}
Fails Malformed read = read ≡ None

abbrev pub Gives : {X Y : Type 0} → (X → Y) → Result X BatchFault → Option Y → Type 0
Gives view (Ok x) read = read ≡ Some (view x)
Gives view (Err fault) read = Fails fault read

-- a number, and the bytes after it
abbrev pub number_at : Width → List ℕ → Option (ℕ × List ℕ)
number_at w bytes = if nat_lt (length bytes) (byte_len w) then None else Some (from_be_bytes w (take (byte_len w) bytes), drop (byte_len w) bytes)

-- a length, and that many bytes
unfoldable pub string_at : Width → List ℕ → Option (List ℕ × List ℕ)
string_at w bytes = do
  n ← number_at w bytes
  if nat_lt (length n.1) n.0 then None else Some (take n.0 n.1, drop n.0 n.1)

unfoldable pub put_at : List ℕ → Option (Operation × List ℕ)
put_at bytes = do
  key ← string_at w16 bytes
  value ← string_at w32 key.1
  Some (Put key.0 value.0, value.1)

unfoldable pub delete_at : List ℕ → Option (Operation × List ℕ)
delete_at bytes = do
  key ← string_at w16 bytes
  Some (Delete key.0, key.1)

unfoldable pub delete_prefix_at : List ℕ → Option (Operation × List ℕ)
delete_prefix_at bytes = do
  prefix ← string_at w16 bytes
  Some (DeletePrefix prefix.0, prefix.1)

unfoldable pub operation_at : List ℕ → Option (Operation × List ℕ)
operation_at [] = None
operation_at (zero ∷ rest) = None
operation_at (suc zero ∷ rest) = put_at rest
operation_at (suc (suc zero) ∷ rest) = delete_at rest
operation_at (suc (suc (suc zero)) ∷ rest) = delete_prefix_at rest
operation_at (suc (suc (suc (suc n))) ∷ rest) = None

unfoldable pub operations_at : ℕ → List ℕ → Option (List Operation × List ℕ)
operations_at zero bytes = Some ([], bytes)
operations_at (suc n) bytes = do
  first ← operation_at bytes
  others ← operations_at n first.1
  Some (first.0 ∷ others.0, others.1)

-- all of the bytes
unfoldable pub read_batch : List ℕ → Option (List Operation)
read_batch bytes = do
  n ← number_at w32 bytes
  read ← operations_at n.0 n.1
  if length read.1 == 0 && in_order read.0 then Some read.0 else None
