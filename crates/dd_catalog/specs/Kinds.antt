-- Columns that a foreign key may pair.
use Rattle.std.specs.Prelude.{ℕ, Bool, true, false, ◌&&◌, ◌||◌, ◌==◌, not, if◌then◌else◌, List, ◌∷◌, Option, Some, None}
use Rattle.std.specs.List.{find}
use Rattle.dd_names.specs.Names.{same}
use Rattle.sql_types.specs.declared.choices.IntSize.TheVariants as sizes
use Rattle.sql_types.specs.declared.choices.ColumnType.{ColumnType}
use Rattle.sql_types.specs.declared.choices.ColumnType.TheVariants as types
use Rattle.sql_types.specs.declared.choices.FkRule.{FkRule}
use Rattle.sql_types.specs.declared.choices.FkRule.TheVariants as rules
use Rattle.dd_definitions.specs.declared.columns.ColumnDef.{ColumnDef}
use Rattle.dd_definitions.specs.declared.foreign_keys.ForeignKeyDef.{ForeignKeyDef}
use Rattle.dd_definitions.specs.Defaults.{bits}

-- what counts of a type where a foreign key pairs two columns: the size and the sign of an integer, and no length
pub data Kind : Type 0 where
  Whole : ℕ → Bool → Kind
  Characters : Kind
  Day : Kind
  DayAndTime : Kind

-- BOOL counts as a signed TINYINT
abbrev pub kind_of : ColumnType → Kind
kind_of (types.Int size unsigned) = Whole (bits size) unsigned
kind_of types.Bool = Whole (bits sizes.Tiny) false
kind_of (types.Char most) = Characters
kind_of (types.VarChar most) = Characters
kind_of types.Date = Day
kind_of types.DateTime = DayAndTime

abbrev pub is_same_sign : Bool → Bool → Bool
is_same_sign true unsigned = unsigned
is_same_sign false unsigned = not unsigned

abbrev pub is_same_kind : Kind → Kind → Bool
is_same_kind (Whole a unsigned) (Whole b other) = (a == b) && is_same_sign unsigned other
is_same_kind Characters Characters = true
is_same_kind Day Day = true
is_same_kind DayAndTime DayAndTime = true
is_same_kind a b = false

-- the first column of that name, in any case
abbrev pub column_named : List ColumnDef → List ℕ → Option ColumnDef
column_named columns name = find (λ (column : ColumnDef). same column.name name) columns

-- both are there, and of one kind
abbrev pub are_of_one_kind : Option ColumnDef → Option ColumnDef → Bool
are_of_one_kind (Some own) (Some other) = is_same_kind (kind_of own.kind) (kind_of other.kind)
are_of_one_kind a b = false

-- the first pair of names, in order, whose columns aren't of one kind
abbrev pub first_odd_pair : List ColumnDef → List ColumnDef → List (List ℕ) → List (List ℕ) → Option (List ℕ × List ℕ)
first_odd_pair columns others (name ∷ names) (other ∷ rest) =
    if are_of_one_kind (column_named columns name) (column_named others other) then first_odd_pair columns others names rest else Some (name, other)
first_odd_pair columns others names rest = None

-- the rule makes columns NULL
abbrev pub is_set_null : FkRule → Bool
is_set_null rules.NoAction = false
is_set_null rules.Restrict = false
is_set_null rules.Cascade = false
is_set_null rules.SetNull = true

abbrev pub sets_null : ForeignKeyDef → Bool
sets_null key = is_set_null key.on_delete || is_set_null key.on_update

abbrev pub is_there_and_not_null : Option ColumnDef → Bool
is_there_and_not_null None = false
is_there_and_not_null (Some column) = not column.nullable

-- the first of the names whose column is NOT NULL
abbrev pub first_not_null : List ColumnDef → List (List ℕ) → Option (List ℕ)
first_not_null columns names = find (λ name. is_there_and_not_null (column_named columns name)) names
