-- The indexes of a table, and its auto column, which stands first in one of them.
use Rattle.std.specs.Prelude.{ℕ, Bool, true, false, ◌&&◌, ◌||◌, not, nat_le, List, [], ◌∷◌, length, Option, Some, None, if◌then◌else◌, codes}
use Rattle.std.specs.List.{list_all, list_any, count_by}
use Rattle.std.specs.Option.{is_none}
use Rattle.std.specs.Str.{bytes_eq}
use Rattle.dd_names.specs.Names.{same}
use Rattle.sql_types.specs.declared.choices.IndexClass.{IndexClass}
use Rattle.sql_types.specs.declared.choices.IndexClass.TheVariants as classes
use Rattle.sql_types.specs.declared.choices.ColumnType.{ColumnType}
use Rattle.sql_types.specs.declared.choices.ColumnType.TheVariants as kinds
use Rattle.dd_definitions.specs.declared.columns.ColumnDef.{ColumnDef}
use Rattle.dd_definitions.specs.declared.indexes.IndexDef.{IndexDef}
use Rattle.dd_definitions.specs.Columns.{is_nullable, are_key_columns}
use Rattle.dd_definitions.specs.Distinct.{are_distinct}

abbrev pub is_primary_class : IndexClass → Bool
is_primary_class classes.Primary = true
is_primary_class classes.Unique = false
is_primary_class classes.Plain = false

abbrev pub is_primary : IndexDef → Bool
is_primary index = is_primary_class index.class

abbrev pub is_secondary : IndexDef → Bool
is_secondary index = not (is_primary index)

abbrev pub primary_name : List ℕ
primary_name = codes "PRIMARY"

-- the names of the two differ in case at most
abbrev pub is_same_index : IndexDef → IndexDef → Bool
is_same_index a b = same a.name b.name

-- behind the first index none is primary: there is at most one primary key, and it stands first
unfoldable pub is_primary_first : List IndexDef → Bool
is_primary_first [] = true
is_primary_first (index ∷ indexes) = list_all is_secondary indexes

-- a column of the index may be NULL
unfoldable pub has_nullable : List ColumnDef → IndexDef → Bool
has_nullable columns index = list_any (is_nullable columns) index.columns

-- the primary key is named `PRIMARY`, byte for byte, and no other index has that name in any case
unfoldable pub is_well_named : IndexDef → Bool
is_well_named index = if is_primary index then bytes_eq index.name primary_name else not (same index.name primary_name)

-- no column of the primary key may be NULL
unfoldable pub is_never_null : List ColumnDef → IndexDef → Bool
is_never_null columns index = is_secondary index || not (has_nullable columns index)

-- an index by itself
unfoldable pub is_index_formed : List ColumnDef → IndexDef → Bool
is_index_formed columns index = are_key_columns columns index.columns && is_well_named index && is_never_null columns index

-- at most 64 indexes aren't primary
unfoldable pub are_few_indexes : List IndexDef → Bool
are_few_indexes indexes = nat_le (count_by is_secondary indexes) 64

-- primary, unique without a column that may be NULL, unique, plain
abbrev pub class_rank : IndexClass → Bool → ℕ
class_rank classes.Primary nullable = 0
class_rank classes.Unique nullable = if nullable then 2 else 1
class_rank classes.Plain nullable = 3

unfoldable pub rank : List ColumnDef → IndexDef → ℕ
rank columns index = class_rank index.class (has_nullable columns index)

-- the ranks never fall, from `least` on
abbrev pub are_ranked_from : List ColumnDef → ℕ → List IndexDef → Bool
are_ranked_from columns least [] = true
are_ranked_from columns least (index ∷ indexes) = nat_le least (rank columns index) && are_ranked_from columns (rank columns index) indexes

-- the indexes of a table, each by itself and beside the others
unfoldable pub are_indexes_formed : List ColumnDef → List IndexDef → Bool
are_indexes_formed columns indexes =
    is_primary_first indexes && are_distinct is_same_index indexes && list_all (is_index_formed columns) indexes && are_few_indexes indexes && are_ranked_from columns 0 indexes

-- ## The auto column

abbrev pub is_integer : ColumnType → Bool
is_integer (kinds.Int size unsigned) = true
is_integer kinds.Bool = true
is_integer (kinds.Char most) = false
is_integer (kinds.VarChar most) = false
is_integer kinds.Date = false
is_integer kinds.DateTime = false

-- the first of the names is this one
abbrev pub begins_with_name : List ℕ → List (List ℕ) → Bool
begins_with_name name [] = false
begins_with_name name (first ∷ names) = bytes_eq first name

-- the column stands first in some index
unfoldable pub leads_index : List IndexDef → List ℕ → Bool
leads_index indexes name = list_any (λ (index : IndexDef). begins_with_name name index.columns) indexes

-- an auto column is of integer type, not nullable, without default, and first in some index
unfoldable pub is_auto_formed : List IndexDef → ColumnDef → Bool
is_auto_formed indexes column =
    not column.auto || (is_integer column.kind && not column.nullable && is_none column.default && leads_index indexes column.name)

abbrev pub is_auto : ColumnDef → Bool
is_auto column = column.auto

-- there is at most one auto column
unfoldable pub are_few_autos : List ColumnDef → Bool
are_few_autos columns = nat_le (count_by is_auto columns) 1

-- there is at most one auto column, and it is formed so
unfoldable pub are_autos_formed : List ColumnDef → List IndexDef → Bool
are_autos_formed columns indexes = are_few_autos columns && list_all (is_auto_formed indexes) columns
