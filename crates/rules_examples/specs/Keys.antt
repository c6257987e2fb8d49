-- Keys, beside a table that has indexes.
use Rattle.std.specs.Prelude.{ℕ, ◌++◌, true, false, List, [], ◌∷◌, Option, Some, None, codes, replicate, map}
use Prim.Native.String.{String}
use Rattle.dd_errors.specs.Errors.{ErrorValue}
use Rattle.sql_types.specs.declared.choices.IndexClass.{IndexClass}
use Rattle.sql_types.specs.declared.choices.IndexClass.TheVariants.{Primary, Unique, Plain}
use Rattle.dd_definitions.specs.declared.indexes.IndexDef.{IndexDef}
use Rattle.dd_definitions.specs.declared.parts.TableParts.{TableParts}
use Rattle.dd_catalog.specs.Walks.{Walk, Found, fine}
use Rattle.rules_elements.specs.Keys.{key_of}
use Rattle.rules_examples.specs.Words.{error, int, column, index, key_words, table, a, b, c}

abbrev pub Case : Type 0
Case = Walk ErrorValue IndexDef × Found ErrorValue IndexDef

-- a name of 64 characters
abbrev pub longest : List ℕ
longest = replicate 64 120

-- a table with the columns `a`, `b`, `c`, `Primary` and one with the longest name, and these indexes
abbrev pub beside : List IndexDef → TableParts
beside indexes = table "t" (column "a" int true ∷ column "b" int true ∷ column "c" int true ∷ column "Primary" int true
    ∷ record { name = longest; kind = int; nullable = true; default = None; auto = false } ∷ []) indexes []

-- a key that is kept so
abbrev pub keeps : List IndexDef → IndexClass → Option (List ℕ) → Option (List ℕ) → List (List ℕ) → String → List (List ℕ) → Case
keeps indexes class constraint name columns kept_name kept_columns =
    (key_of (beside indexes) (key_words class constraint name columns), fine (index kept_name class kept_columns))

-- indexes of these names
abbrev pub named : List (List ℕ) → List IndexDef
named names = map (λ name. record { name = name; class = Plain; columns = a ∷ [] }) names

abbrev pub keys : List Case
keys =
    keeps [] Primary None None (a ∷ b ∷ []) "PRIMARY" (a ∷ b ∷ [])
    ∷ keeps [] Plain None (Some (codes "k")) (codes "A" ∷ c ∷ []) "k" (a ∷ c ∷ [])
    ∷ keeps [] Unique (Some (codes "u")) None (a ∷ []) "u" (a ∷ [])
    ∷ keeps [] Unique (Some (codes "u")) (Some (codes "k")) (a ∷ []) "k" (a ∷ [])
    ∷ keeps [] Plain None None (codes "B" ∷ a ∷ []) "b" (b ∷ a ∷ [])
    ∷ keeps (named (a ∷ [])) Plain None None (a ∷ []) "a_2" (a ∷ [])
    ∷ keeps (named (codes "A" ∷ codes "a_3" ∷ codes "A_2" ∷ [])) Unique None None (a ∷ []) "a_4" (a ∷ [])
    ∷ keeps (named (codes "a_2" ∷ [])) Plain None None (a ∷ []) "a" (a ∷ [])
    ∷ keeps [] Plain None None (codes "PRIMARY" ∷ []) "Primary_2" (codes "Primary" ∷ [])
    ∷ keeps (named (codes "primary_2" ∷ [])) Plain None None (codes "primary" ∷ []) "Primary_3" (codes "Primary" ∷ [])
    ∷ []

abbrev pub refuses : List IndexDef → IndexClass → Option (List ℕ) → Option (List ℕ) → List (List ℕ) → ℕ → List (List ℕ) → Case
refuses indexes class constraint name columns number args = (key_of (beside indexes) (key_words class constraint name columns), error number args)

abbrev pub primary : List IndexDef
primary = index "PRIMARY" Primary (a ∷ []) ∷ []

-- so many times the name of a column that isn't there
abbrev pub strangers : ℕ → List (List ℕ)
strangers n = replicate n (codes "x")

abbrev pub refused_keys : List Case
refused_keys =
    refuses primary Primary None None (b ∷ []) 1068 []
    ∷ refuses primary Primary None None (strangers 17) 1068 []
    ∷ refuses [] Plain None (Some (codes "Primary")) (a ∷ []) 1280 (codes "Primary" ∷ [])
    ∷ refuses [] Unique (Some (codes "primary")) None (a ∷ []) 1280 (codes "primary" ∷ [])
    ∷ refuses [] Plain None (Some (codes "PRIMARY")) (strangers 17) 1280 (codes "PRIMARY" ∷ [])
    ∷ refuses [] Plain None (Some (codes "k")) (strangers 17) 1070 []
    ∷ refuses [] Plain None (Some (codes "k")) (strangers 16) 1072 (codes "x" ∷ [])
    ∷ refuses (named (codes "k" ∷ [])) Plain None (Some (codes "k")) (a ∷ codes "X" ∷ a ∷ []) 1072 (codes "X" ∷ [])
    ∷ refuses [] Plain None None (a ∷ codes "A" ∷ codes "x" ∷ []) 1060 (codes "A" ∷ [])
    ∷ refuses (named (codes "k" ∷ [])) Plain None (Some (codes "K")) (a ∷ []) 1061 (codes "K" ∷ [])
    ∷ refuses (named (codes "u" ∷ [])) Unique (Some (codes "U")) None (a ∷ []) 1061 (codes "U" ∷ [])
    ∷ refuses (named (longest ∷ [])) Plain None None (longest ∷ []) 1059 ((longest ++ codes "_2") ∷ [])
    ∷ []
