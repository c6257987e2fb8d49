-- The bytes of an SDI, and of the file of a tablespace.
use Rattle.std.specs.Prelude.{ℕ, List, [], ◌∷◌, ◌++◌, codes, length, replicate}
use Rattle.std.specs.Int.{w32, w64, to_be_bytes}
use Rattle.serde_json.specs.Written.{compact_text}
use Rattle.dd_definitions.specs.declared.parts.TableParts.{TableParts}
use Rattle.sdi_text.specs.Values.{table_value}

-- the table as JSON without blanks
unfoldable pub sdi_bytes : TableParts → ℕ → List ℕ
sdi_bytes parts space = compact_text (table_value parts space)

-- `dd tablespace 1` and a line feed
abbrev pub magic : List ℕ
magic = codes "dd tablespace 1" ++ 10 ∷ []

-- four zeros, the length of the SDI, and 32 zeros
unfoldable pub length_bytes : ℕ → List ℕ
length_bytes len = replicate 4 0 ++ (to_be_bytes w64 len ++ replicate 32 0)

-- 64 bytes: 16 that say what the file is, the tablespace's number, and the length of the SDI with zeros around it
abbrev pub header_bytes : ℕ → ℕ → List ℕ
header_bytes space len = magic ++ (to_be_bytes w32 space ++ length_bytes len)

-- the header, then the SDI
abbrev pub file_bytes : TableParts → ℕ → List ℕ
file_bytes parts space = header_bytes space (length (sdi_bytes parts space)) ++ sdi_bytes parts space
