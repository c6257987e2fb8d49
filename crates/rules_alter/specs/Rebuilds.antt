-- Which change gives a table a new tablespace.
use Rattle.std.specs.Prelude.{ℕ, Bool, true, false, ◌&&◌, ◌||◌, ◌==◌, not, List, [], ◌∷◌, map, Option, Some, None, if◌then◌else◌}
use Rattle.std.specs.List.{find}
use Rattle.std.specs.Str.{bytes_eq}
use Rattle.dd_names.specs.Names.{same}
use Rattle.sql_types.specs.declared.choices.ColumnType.{ColumnType}
use Rattle.sql_types.specs.declared.choices.ColumnType.TheVariants as kinds
use Rattle.sql_ast.specs.declared.action.AlterAction.{AlterAction}
use Rattle.sql_ast.specs.declared.action.AlterAction.TheVariants as actions
use Rattle.dd_definitions.specs.Defaults.{bits}
use Rattle.dd_definitions.specs.Indexes.{is_primary}
use Rattle.dd_definitions.specs.declared.columns.ColumnDef.{ColumnDef}
use Rattle.dd_definitions.specs.declared.indexes.IndexDef.{IndexDef}
use Rattle.dd_definitions.specs.declared.parts.TableParts.{TableParts}
use Rattle.dd_catalog.specs.Kinds.{column_named, is_same_sign}

abbrev pub is_forced : AlterAction → Bool
is_forced actions.Force = true
is_forced actions.Engine = true
is_forced other = false

-- a column that stays, by its name before the action
abbrev pub kept_from : AlterAction → Option (List ℕ)
kept_from (actions.ModifyColumn column place) = Some column.name
kept_from (actions.ChangeColumn name column place) = Some name
kept_from (actions.RenameColumn from to) = Some from
kept_from other = None

-- the same column, by its name behind it
abbrev pub kept_to : AlterAction → Option (List ℕ)
kept_to (actions.ModifyColumn column place) = Some column.name
kept_to (actions.ChangeColumn name column place) = Some column.name
kept_to (actions.RenameColumn from to) = Some to
kept_to other = None

-- ## Types

abbrev pub is_same_type : ColumnType → ColumnType → Bool
is_same_type (kinds.Int size unsigned) (kinds.Int other sign) = (bits size == bits other) && is_same_sign unsigned sign
is_same_type kinds.Bool kinds.Bool = true
is_same_type (kinds.Char most) (kinds.Char other) = most == other
is_same_type (kinds.VarChar most) (kinds.VarChar other) = most == other
is_same_type kinds.Date kinds.Date = true
is_same_type kinds.DateTime kinds.DateTime = true
is_same_type a b = false

abbrev pub are_of_one_type : Option ColumnType → Option ColumnType → Bool
are_of_one_type (Some before) (Some behind) = is_same_type before behind
are_of_one_type before behind = true

abbrev pub type_of_some : Option ColumnDef → Option ColumnType
type_of_some None = None
type_of_some (Some column) = Some column.kind

-- the type of the column of this name, in any case
abbrev pub type_of : Option (List ℕ) → TableParts → Option ColumnType
type_of None parts = None
type_of (Some name) parts = type_of_some (column_named parts.columns name)

-- the type of a column that stays is another
abbrev pub is_retyped : AlterAction → TableParts → TableParts → Bool
is_retyped action before behind = not (are_of_one_type (type_of (kept_from action) before) (type_of (kept_to action) behind))

-- ## The primary key

abbrev pub columns_of_some : Option IndexDef → List (List ℕ)
columns_of_some None = []
columns_of_some (Some index) = index.columns

-- the columns of the primary key
abbrev pub primary_columns : TableParts → List (List ℕ)
primary_columns parts = columns_of_some (find is_primary parts.indexes)

abbrev pub name_behind : Option (List ℕ) → Option (List ℕ) → List ℕ → List ℕ
name_behind (Some from) (Some to) name = if same name from then to else name
name_behind from to name = name

-- the columns of the primary key before the action, by their names behind it
abbrev pub primary_behind : AlterAction → TableParts → List (List ℕ)
primary_behind action before = map (name_behind (kept_from action) (kept_to action)) (primary_columns before)

abbrev pub are_same_names : List (List ℕ) → List (List ℕ) → Bool
are_same_names [] [] = true
are_same_names (a ∷ names) (b ∷ others) = bytes_eq a b && are_same_names names others
are_same_names names others = false

-- another primary key; a new name of one of its columns makes none
abbrev pub is_primary_changed : AlterAction → TableParts → TableParts → Bool
is_primary_changed action before behind = not (are_same_names (primary_behind action before) (primary_columns behind))

-- The action asks for a new tablespace: it is FORCE or ENGINE, the type of a column that stays is another, or the primary key is.
unfoldable pub asks_rebuild : AlterAction → TableParts → TableParts → Bool
asks_rebuild action before behind = is_forced action || is_retyped action before behind || is_primary_changed action before behind
