-- Fields from bytes, from left to right; None where the bytes don't begin with such fields.
use Rattle.std.specs.Prelude.{◌≡◌, ℕ, zero, suc, ◌+◌, List, [], ◌∷◌, length, take, drop, position, Option, Some, None, Result, Ok, Err, ◌==◌, nat_eq, if◌then◌else◌}
use Rattle.std.specs.Int.{w16, w32, w64}
use Rattle.row_batch.specs.Reading.{◌>>=◌}
pub use Rattle.row_batch.specs.Reading.{number_at, string_at}
use Rattle.row_fields.specs.declared.faults.FieldFault.{FieldFault}
use Rattle.row_fields.specs.declared.faults.FieldFault.TheVariants.{Malformed, Memory}
use Rattle.row_fields.specs.declared.fields.Field.{Field}
use Rattle.row_fields.specs.declared.fields.Field.TheVariants as fields
use Rattle.row_fields.specs.declared.fields.Kind.{Kind}
use Rattle.row_fields.specs.declared.fields.Kind.TheVariants as kinds

-- bytes are refused just where they read as nothing; want of memory may come at any time
abbrev pub Fails : {Y : Type 0} → FieldFault → Option Y → Type 0
Fails Memory read = Unit {0}
Fails Malformed read = read ≡ None

-- what a function answered, seen by view, is what the bytes read as
abbrev pub Gives : {X Y : Type 0} → (X → Y) → Result X FieldFault → Option Y → Type 0
Gives view (Ok x) read = read ≡ Some (view x)
Gives view (Err fault) read = Fails fault read

abbrev pub byte_at : List ℕ → Option (ℕ × List ℕ)
byte_at [] = None
byte_at (number ∷ rest) = Some (number, rest)

-- the bytes before the first zero, and those behind it
unfoldable pub ended_at : List ℕ → Option (List ℕ × List ℕ)
ended_at bytes = do
  end ← position (nat_eq 0) bytes
  Some (take end bytes, drop (end + 1) bytes)

unfoldable pub maybe_at : List ℕ → Option (Option (List ℕ) × List ℕ)
maybe_at [] = None
maybe_at (zero ∷ rest) = Some (None, rest)
maybe_at (suc zero ∷ rest) = do
  text ← string_at w32 rest
  Some (Some text.0, text.1)
maybe_at (suc (suc n) ∷ rest) = None

-- the field of a kind, and the bytes behind it
unfoldable pub field_at : Kind → List ℕ → Option (Field × List ℕ)
field_at kinds.Byte bytes = do
  number ← byte_at bytes
  Some (fields.Byte number.0, number.1)
field_at kinds.Short bytes = do
  number ← number_at w16 bytes
  Some (fields.Short number.0, number.1)
field_at kinds.Long bytes = do
  number ← number_at w32 bytes
  Some (fields.Long number.0, number.1)
field_at kinds.Huge bytes = do
  number ← number_at w64 bytes
  Some (fields.Huge number.0, number.1)
field_at kinds.Text bytes = do
  text ← string_at w16 bytes
  Some (fields.Text text.0, text.1)
field_at kinds.Ended bytes = do
  text ← ended_at bytes
  Some (fields.Ended text.0, text.1)
field_at kinds.Maybe bytes = do
  text ← maybe_at bytes
  Some (fields.Maybe text.0, text.1)

-- the fields of these kinds, and the bytes behind them
unfoldable pub fields_at : List Kind → List ℕ → Option (List Field × List ℕ)
fields_at [] bytes = Some ([], bytes)
fields_at (kind ∷ kinds) bytes = do
  first ← field_at kind bytes
  others ← fields_at kinds first.1
  Some (first.0 ∷ others.0, others.1)

-- all of the bytes
unfoldable pub all_at : List Kind → List ℕ → Option (List Field)
all_at kinds bytes = do
  read ← fields_at kinds bytes
  if length read.1 == 0 then Some read.0 else None
