-- How a system file begins.
use Rattle.std.specs.Prelude.{◌≡◌, ℕ, ◌<◌, List, [], ◌∷◌, ◌++◌, length, take, drop, replicate, Option}
use Rattle.std.specs.Option.{unwrap_or}
use Rattle.std.specs.Int.{w32, w64, to_be_bytes, from_be_bytes}

-- `dd dictionary 8` and a line feed
abbrev pub magic : List ℕ
magic = 100 ∷ 100 ∷ 32 ∷ 100 ∷ 105 ∷ 99 ∷ 116 ∷ 105 ∷ 111 ∷ 110 ∷ 97 ∷ 114 ∷ 121 ∷ 32 ∷ 56 ∷ 10 ∷ []

-- the magic, the version 1, no pages, a run of no bytes, and zeros up to 64 bytes
abbrev pub header : List ℕ
header = magic ++ (to_be_bytes w32 1 ++ (to_be_bytes w64 0 ++ (to_be_bytes w64 0 ++ replicate 28 0)))

-- a system file without batches: the header, and a closed gate
abbrev pub empty_file : List ℕ
empty_file = header ++ 0 ∷ []

-- the header and one byte more
abbrev pub head_of : Option (List ℕ) → List ℕ
head_of file = take 65 (unwrap_or file [])

-- the header that this version writes, and a byte behind it
pub record IsHead (bytes : List ℕ) : Type 0 where
  pub len : length bytes ≡ 65
  pub front : take 64 bytes ≡ header

-- the header of a later version
pub record IsNewerHead (number : ℕ) (bytes : List ℕ) : Type 0 where
  pub len : length bytes ≡ 65
  pub front : take 16 bytes ≡ magic
  pub number_is : number ≡ from_be_bytes w32 (take 4 (drop 16 bytes))
  pub later : 1 < number

abbrev pub IsNewer : ℕ → Option (List ℕ) → Type 0
IsNewer number file = IsNewerHead number (head_of file)
