-- Which texts are names, and how names are compared.
use Rattle.std.specs.Prelude.{ℕ, ◌==◌, ◌<◌, ◌≤◌, ◌||◌, ◌&&◌, not, Bool, nat_le, nat_lt, List, length, Option, None, Some, if◌then◌else◌, IsTrue, position}
use Rattle.std.specs.List.{list_all}
use Rattle.std.specs.Char.{is_ascii_alphanumeric, is_ascii_digit}
use Rattle.std.specs.Str.{bytes_eq, str_to_ascii_lowercase}
use Rattle.std.specs.declared.cmp.Ordering.{Ordering}
use Rattle.std.specs.Ordering.{nat_cmp}
use Rattle.std.specs.Cmp.Lexicographic.{slice_cmp}
use Rattle.dd_names.specs.declared.name.NameFault.{NameFault}
use Rattle.dd_names.specs.declared.name.NameFault.TheVariants.{Empty, BadCharacter, DigitsOnly, TooLong}

-- an ASCII letter, a digit or an underscore
abbrev pub is_name_byte : ℕ → Bool
is_name_byte c = is_ascii_alphanumeric c || (c == 95)

-- 1 to 64 characters, each of them one that names have, whether the name stood in quotes or not
pub record IsName (bytes : List ℕ) : Type 0 where
  pub some : 0 < length bytes
  pub short : length bytes ≤ 64
  pub each : IsTrue (list_all is_name_byte bytes)

-- the same, as a test
abbrev pub is_name : List ℕ → Bool
is_name bytes = nat_lt 0 (length bytes) && nat_le (length bytes) 64 && list_all is_name_byte bytes

-- why characters that names have are no name: digits alone outside quotes, then too many
abbrev pub fault_of_good : List ℕ → Bool → Option NameFault
fault_of_good bytes quoted =
    if not quoted && list_all is_ascii_digit bytes then Some DigitsOnly else if nat_lt 64 (length bytes) then Some TooLong else None

abbrev pub fault_after : Option ℕ → List ℕ → Bool → Option NameFault
fault_after (Some at) bytes quoted = Some (BadCharacter at)
fault_after None bytes quoted = fault_of_good bytes quoted

-- why a text is no name: empty, then the first bad character, then digits alone outside quotes, then too long
abbrev pub name_fault : List ℕ → Bool → Option NameFault
name_fault bytes quoted =
    if length bytes == 0 then Some Empty else fault_after (position (λ c. not (is_name_byte c)) bytes) bytes quoted

-- the text with its ASCII letters in lower case
abbrev pub fold : List ℕ → List ℕ
fold bytes = str_to_ascii_lowercase bytes

-- the two differ in the case of ASCII letters at most
abbrev pub same : List ℕ → List ℕ → Bool
same a b = bytes_eq (fold a) (fold b)

-- names in byte order
abbrev pub name_cmp : List ℕ → List ℕ → Ordering
name_cmp a b = slice_cmp nat_cmp a b
