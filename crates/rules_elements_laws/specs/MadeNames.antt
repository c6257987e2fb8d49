-- When the name that an index without any name gets is none.
use Rattle.std.specs.Prelude.{◌≡◌, ℕ, ◌<◌, ◌^◌, true, nat_lt, List, length, Option, Some, None, if◌then◌else◌}
use Rattle.dd_names.specs.Names.{IsName, name_fault}
use Rattle.dd_names.specs.declared.name.NameFault.{NameFault}
use Rattle.dd_names.specs.declared.name.NameFault.TheVariants.{TooLong}
use Rattle.rules_elements.specs.Keys.{numbered}

abbrev pub too_long_alone : List ℕ → Option NameFault
too_long_alone name = if nat_lt 64 (length name) then Some TooLong else None

-- what is made of a name is one too, unless it has more than 64 characters
abbrev pub MadeNamesAreNames : Type 0
MadeNamesAreNames = (base : List ℕ) (number : ℕ) → IsName base → number < 2 ^ 64 → name_fault (numbered base number) true ≡ too_long_alone (numbered base number)
