-- Names and words, and what is to be made of them.
use Rattle.std.specs.Prelude.{◌≡◌, ℕ, Bool, true, false, List, [], ◌∷◌, Option, Some, None, map, replicate, codes}
use Prim.Native.String.{String}
use Rattle.dd_names.specs.Names.{name_fault, fold}
use Rattle.dd_names.specs.Reserved.{is_reserved, is_system_schema}
use Rattle.dd_names.specs.declared.name.NameFault.{NameFault}
use Rattle.dd_names.specs.declared.name.NameFault.TheVariants.{Empty, BadCharacter, DigitsOnly, TooLong}

-- a text, whether it stands in quotes, and its fault
pub record NameCase : Type 0 where
  pub text : List ℕ
  pub quoted : Bool
  pub fault : Option NameFault

abbrev pub AreJudged : List NameCase → Type 0
AreJudged cases = map (λ (c : NameCase). name_fault c.text c.quoted) cases ≡ map (λ (c : NameCase). c.fault) cases

abbrev pub bare : String → Option NameFault → NameCase
bare text fault = record { text = codes text; quoted = false; fault = fault }

abbrev pub quoted : String → Option NameFault → NameCase
quoted text fault = record { text = codes text; quoted = true; fault = fault }

-- a name of so many letters
abbrev pub long : ℕ → Option NameFault → NameCase
long characters fault = record { text = replicate characters 97; quoted = true; fault = fault }

abbrev pub names : List NameCase
names =
    bare "t" None
    ∷ bare "_" None
    ∷ bare "1a" None
    ∷ quoted "12" None
    ∷ long 64 None
    ∷ bare "" (Some Empty)
    ∷ quoted "" (Some Empty)
    ∷ bare "a b" (Some (BadCharacter 1))
    ∷ bare "12-" (Some (BadCharacter 2))
    ∷ quoted "#sql" (Some (BadCharacter 0))
    ∷ quoted "a/b" (Some (BadCharacter 1))
    ∷ bare "12" (Some DigitsOnly)
    ∷ long 65 (Some TooLong)
    ∷ []

-- a text, and the same in lower case
abbrev pub Folded : Type 0
Folded = List ℕ × List ℕ

abbrev pub AreFolded : List Folded → Type 0
AreFolded cases = map (λ (c : Folded). fold c.0) cases ≡ map (λ (c : Folded). c.1) cases

abbrev pub folded : List Folded
folded = (codes "Orders_1", codes "orders_1") ∷ (codes "AZ_az09", codes "az_az09") ∷ []

-- a word, and whether it is one
abbrev pub WordCase : Type 0
WordCase = List ℕ × Bool

abbrev pub AreReserved : List WordCase → Type 0
AreReserved cases = map (λ (c : WordCase). is_reserved c.0) cases ≡ map (λ (c : WordCase). c.1) cases

abbrev pub reserved : List WordCase
reserved =
    (codes "ADD", true)
    ∷ (codes "create", true)
    ∷ (codes "Where", true)
    ∷ (codes "adds", false)
    ∷ (codes "engine", false)
    ∷ []

abbrev pub AreSystems : List WordCase → Type 0
AreSystems cases = map (λ (c : WordCase). is_system_schema c.0) cases ≡ map (λ (c : WordCase). c.1) cases

abbrev pub systems : List WordCase
systems = (codes "MySQL", true) ∷ (codes "information_schema", true) ∷ (codes "SYS", true) ∷ (codes "sys_", false) ∷ []
