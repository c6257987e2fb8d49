-- The types without a length, by their texts.
use Rattle.std.specs.Prelude.{ℕ, true, false, List, Option, Some, None, codes, if◌then◌else◌}
use Rattle.std.specs.Str.{bytes_eq}
use Rattle.sql_types.specs.declared.choices.IntSize.TheVariants as sizes
use Rattle.sql_types.specs.declared.choices.ColumnType.{ColumnType}
use Rattle.sql_types.specs.declared.choices.ColumnType.TheVariants as types

abbrev pub unsigned_type : List ℕ → Option ColumnType
unsigned_type text =
    if bytes_eq text (codes "tinyint unsigned") then Some (types.Int sizes.Tiny true)
    else if bytes_eq text (codes "smallint unsigned") then Some (types.Int sizes.Small true)
    else if bytes_eq text (codes "mediumint unsigned") then Some (types.Int sizes.Medium true)
    else if bytes_eq text (codes "int unsigned") then Some (types.Int sizes.Normal true)
    else if bytes_eq text (codes "bigint unsigned") then Some (types.Int sizes.Big true) else None

abbrev pub other_type : List ℕ → Option ColumnType
other_type text =
    if bytes_eq text (codes "tinyint(1)") then Some types.Bool else if bytes_eq text (codes "date") then Some types.Date
    else if bytes_eq text (codes "datetime") then Some types.DateTime else unsigned_type text

abbrev pub plain_type : List ℕ → Option ColumnType
plain_type text =
    if bytes_eq text (codes "tinyint") then Some (types.Int sizes.Tiny false)
    else if bytes_eq text (codes "smallint") then Some (types.Int sizes.Small false)
    else if bytes_eq text (codes "mediumint") then Some (types.Int sizes.Medium false)
    else if bytes_eq text (codes "int") then Some (types.Int sizes.Normal false)
    else if bytes_eq text (codes "bigint") then Some (types.Int sizes.Big false) else other_type text
