-- Tables that are well formed, and beside them parts in which one thing is wrong.
use Rattle.std.specs.Prelude.{ℕ, true, false, List, [], ◌∷◌, Some, None, map, codes}
use Rattle.sql_types.specs.declared.choices.IntSize.TheVariants.{Tiny, Small, Medium, Big}
use Rattle.sql_types.specs.declared.choices.ColumnType.{ColumnType}
use Rattle.sql_types.specs.declared.choices.ColumnType.TheVariants as kind
use Rattle.sql_types.specs.declared.choices.IndexClass.TheVariants.{Primary, Unique, Plain}
use Rattle.dd_definitions.specs.declared.columns.ColumnDef.{ColumnDef}
use Rattle.dd_definitions.specs.declared.indexes.IndexDef.{IndexDef}
use Rattle.dd_definitions.specs.declared.foreign_keys.ForeignKeyDef.{ForeignKeyDef}
use Rattle.dd_definitions.specs.declared.parts.TableParts.{TableParts}
use Rattle.rules_examples.specs.Parts.{column, int, plain, with_default, index, a, b, c, foreign_key, table, abc, names, ints, indexes_on_a}

abbrev pub of_column : ColumnDef → TableParts
of_column col = table (col ∷ []) [] []

abbrev pub of_indexes : List IndexDef → TableParts
of_indexes indexes = table abc indexes []

-- a table with an index on a and b, and one on c
abbrev pub of_keys : List ForeignKeyDef → TableParts
of_keys keys = table abc (index "i" Plain (a ∷ b ∷ []) ∷ index "j" Plain (c ∷ []) ∷ []) keys

-- two characters of two bytes each
abbrev pub two_characters : List ℕ
two_characters = 195 ∷ 169 ∷ 195 ∷ 169 ∷ []

-- ---- columns

abbrev pub good_columns : List TableParts
good_columns =
    table abc [] []
    ∷ of_column (plain "a" (kind.Char 255))
    ∷ of_column (plain "a" (kind.VarChar 16383))
    ∷ of_column (with_default (kind.Int Tiny false) "-128")
    ∷ of_column (with_default (kind.Int Tiny false) "127")
    ∷ of_column (with_default (kind.Int Tiny true) "255")
    ∷ of_column (with_default (kind.Int Small false) "-32768")
    ∷ of_column (with_default (kind.Int Medium true) "16777215")
    ∷ of_column (with_default int "2147483647")
    ∷ of_column (with_default (kind.Int Big false) "-9223372036854775808")
    ∷ of_column (with_default (kind.Int Big true) "18446744073709551615")
    ∷ of_column (with_default kind.Bool "127")
    ∷ of_column (with_default int "0")
    ∷ of_column (with_default (kind.Char 3) "abc")
    ∷ of_column (column "v" (kind.VarChar 2) true (Some two_characters) false)
    ∷ of_column (with_default (kind.VarChar 0) "")
    ∷ []

abbrev pub bad_columns : List TableParts
bad_columns =
    table [] [] []
    ∷ table (plain "a" int ∷ plain "A" int ∷ []) [] []
    ∷ of_column (plain "a" (kind.Char 256))
    ∷ of_column (plain "a" (kind.VarChar 16384))
    ∷ []

abbrev pub bad_defaults : List TableParts
bad_defaults =
    of_column (with_default (kind.Int Tiny false) "-129")
    ∷ of_column (with_default (kind.Int Tiny false) "128")
    ∷ of_column (with_default (kind.Int Tiny true) "256")
    ∷ of_column (with_default (kind.Int Tiny true) "-1")
    ∷ of_column (with_default (kind.Int Big true) "18446744073709551616")
    ∷ of_column (with_default kind.Bool "128")
    ∷ of_column (with_default int "01")
    ∷ of_column (with_default int "+1")
    ∷ of_column (with_default int "-0")
    ∷ of_column (with_default int "")
    ∷ of_column (with_default int "1a")
    ∷ of_column (with_default kind.Date "2020-01-01")
    ∷ of_column (with_default kind.DateTime "")
    ∷ of_column (with_default (kind.Char 3) "abcd")
    ∷ of_column (column "v" (kind.VarChar 1) true (Some two_characters) false)
    ∷ []

-- ---- indexes

abbrev pub good_indexes : List TableParts
good_indexes =
    of_indexes (index "PRIMARY" Primary (a ∷ []) ∷ index "u" Unique (b ∷ []) ∷ index "n" Unique (c ∷ []) ∷ index "k" Plain (c ∷ a ∷ []) ∷ [])
    ∷ of_indexes (index "PRIMARY" Primary (b ∷ a ∷ []) ∷ [])
    ∷ of_indexes (index "k" Plain (a ∷ []) ∷ index "l" Plain (a ∷ []) ∷ [])
    ∷ table (ints (names 16)) (index "k" Plain (names 16) ∷ []) []
    ∷ of_indexes (indexes_on_a (names 64))
    ∷ table (column "a" int false None true ∷ []) (index "k" Plain (a ∷ []) ∷ []) []
    ∷ table (column "a" kind.Bool false None true ∷ []) (index "PRIMARY" Primary (a ∷ []) ∷ []) []
    ∷ []

abbrev pub bad_indexes : List TableParts
bad_indexes =
    of_indexes (index "PRIMARY" Primary (a ∷ []) ∷ index "PRIMARY2" Primary (b ∷ []) ∷ [])
    ∷ of_indexes (index "u" Unique (b ∷ []) ∷ index "PRIMARY" Primary (a ∷ []) ∷ [])
    ∷ of_indexes (index "Primary" Primary (a ∷ []) ∷ [])
    ∷ of_indexes (index "primary" Plain (a ∷ []) ∷ [])
    ∷ of_indexes (index "PRIMARY" Primary (a ∷ c ∷ []) ∷ [])
    ∷ of_indexes (index "k" Plain (a ∷ []) ∷ index "K" Plain (b ∷ []) ∷ [])
    ∷ of_indexes (index "k" Plain [] ∷ [])
    ∷ of_indexes (index "k" Plain (a ∷ a ∷ []) ∷ [])
    ∷ of_indexes (index "k" Plain (codes "A" ∷ []) ∷ [])
    ∷ of_indexes (index "k" Plain (codes "x" ∷ []) ∷ [])
    ∷ of_indexes (index "k" Plain (a ∷ []) ∷ index "u" Unique (b ∷ []) ∷ [])
    ∷ of_indexes (index "n" Unique (c ∷ []) ∷ index "u" Unique (b ∷ []) ∷ [])
    ∷ table (ints (names 17)) (index "k" Plain (names 17) ∷ []) []
    ∷ of_indexes (indexes_on_a (names 65))
    ∷ []

-- an auto column is alone, an integer, never NULL, without default, and first in an index
abbrev pub bad_autos : List TableParts
bad_autos =
    table (column "a" int false None true ∷ []) [] []
    ∷ table (column "a" int true None true ∷ []) (index "k" Plain (a ∷ []) ∷ []) []
    ∷ table (column "a" int false (Some (codes "1")) true ∷ []) (index "k" Plain (a ∷ []) ∷ []) []
    ∷ table (column "a" (kind.Char 1) false None true ∷ []) (index "k" Plain (a ∷ []) ∷ []) []
    ∷ table (column "a" int false None true ∷ plain "b" int ∷ []) (index "k" Plain (b ∷ a ∷ []) ∷ []) []
    ∷ table (column "a" int false None true ∷ column "b" int false None true ∷ []) (index "k" Plain (a ∷ []) ∷ index "l" Plain (b ∷ []) ∷ []) []
    ∷ []

-- ---- foreign keys

abbrev pub good_keys : List TableParts
good_keys =
    of_keys (foreign_key "f" (a ∷ []) (b ∷ []) ∷ [])
    ∷ of_keys (foreign_key "f" (a ∷ b ∷ []) (b ∷ b ∷ []) ∷ [])
    ∷ of_keys (foreign_key "B" (a ∷ []) (b ∷ []) ∷ foreign_key "c" (c ∷ []) (b ∷ []) ∷ [])
    ∷ []

abbrev pub bad_keys : List TableParts
bad_keys =
    of_keys (foreign_key "f" [] [] ∷ [])
    ∷ of_keys (foreign_key "f" (b ∷ []) (b ∷ []) ∷ [])
    ∷ of_keys (foreign_key "f" (b ∷ a ∷ []) (a ∷ b ∷ []) ∷ [])
    ∷ of_keys (foreign_key "f" (a ∷ a ∷ []) (a ∷ b ∷ []) ∷ [])
    ∷ of_keys (foreign_key "f" (a ∷ []) (a ∷ b ∷ []) ∷ [])
    ∷ of_keys (foreign_key "f" (codes "A" ∷ []) (b ∷ []) ∷ [])
    ∷ of_keys (foreign_key "f" (a ∷ []) (b ∷ []) ∷ foreign_key "F" (c ∷ []) (b ∷ []) ∷ [])
    ∷ of_keys (foreign_key "c" (a ∷ []) (b ∷ []) ∷ foreign_key "B" (c ∷ []) (b ∷ []) ∷ [])
    ∷ []
