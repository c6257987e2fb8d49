-- The bytes of fields.
use Rattle.std.specs.Prelude.{ℕ, ◌<◌, ◌^◌, Bool, List, [], ◌∷◌, ◌++◌, length, Option, Some, None, nat_eq, not, IsTrue}
use Rattle.std.specs.List.{flat_map, list_all}
use Rattle.std.specs.Int.{w16, w32, w64, to_be_bytes}
use Rattle.row_batch.specs.Batches.{key_bytes, value_bytes}
use Rattle.row_fields.specs.declared.fields.Field.{Field}
use Rattle.row_fields.specs.declared.fields.Field.TheVariants as fields
use Rattle.row_fields.specs.declared.fields.Kind.{Kind}
use Rattle.row_fields.specs.declared.fields.Kind.TheVariants as kinds

abbrev pub kind_of : Field → Kind
kind_of (fields.Byte number) = kinds.Byte
kind_of (fields.Short number) = kinds.Short
kind_of (fields.Long number) = kinds.Long
kind_of (fields.Huge number) = kinds.Huge
kind_of (fields.Text text) = kinds.Text
kind_of (fields.Ended text) = kinds.Ended
kind_of (fields.Maybe text) = kinds.Maybe

-- nothing, or some bytes behind their length of four bytes
abbrev pub maybe_bytes : Option (List ℕ) → List ℕ
maybe_bytes None = 0 ∷ []
maybe_bytes (Some text) = 1 ∷ value_bytes text

unfoldable pub field_bytes : Field → List ℕ
field_bytes (fields.Byte number) = number ∷ []
field_bytes (fields.Short number) = to_be_bytes w16 number
field_bytes (fields.Long number) = to_be_bytes w32 number
field_bytes (fields.Huge number) = to_be_bytes w64 number
field_bytes (fields.Text text) = key_bytes text
field_bytes (fields.Ended text) = text ++ 0 ∷ []
field_bytes (fields.Maybe text) = maybe_bytes text

-- one after the other
abbrev pub fields_bytes : List Field → List ℕ
fields_bytes fields = flat_map field_bytes fields

-- ## Fields that have room

abbrev pub is_no_zero : ℕ → Bool
is_no_zero byte = not (nat_eq 0 byte)

abbrev pub FitsMaybe : Option (List ℕ) → Type 0
FitsMaybe None = Unit {0}
FitsMaybe (Some text) = length text < 2 ^ 32

-- a number has room in its bytes, a length in its own, and bytes that a zero ends have none before it
abbrev pub Fits : Field → Type 0
Fits (fields.Byte number) = number < 2 ^ 8
Fits (fields.Short number) = number < 2 ^ 16
Fits (fields.Long number) = number < 2 ^ 32
Fits (fields.Huge number) = number < 2 ^ 64
Fits (fields.Text text) = length text < 2 ^ 16
Fits (fields.Ended text) = IsTrue (list_all is_no_zero text)
Fits (fields.Maybe text) = FitsMaybe text
