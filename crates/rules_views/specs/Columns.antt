-- The columns of a view, which are found by its outputs through its sources.
--
-- All sources are looked at first, in order, whether or not an output names them, and of a source that is a view all columns are
-- found before the next source is looked at. Then the outputs are taken in order. A source that isn't there, a column that isn't
-- there, and a view that stands already on the way are 1356 with the view that was asked for. The 33rd view on one way is 9003.
-- A view that was found whole on another way is taken as it was found.
use Rattle.std.specs.Prelude.{ℕ, zero, suc, ◌+◌, Bool, false, nat_lt, List, [], ◌∷◌, ◌++◌, Option, Some, None, if◌then◌else◌, slice_get}
use Rattle.std.specs.List.{find, list_any}
use Rattle.std.specs.BTreeMap.{insert_entry, is_at}
use Rattle.std.specs.Map.{lookup}
use Rattle.dd_names.specs.Names.{same}
use Rattle.dd_names.specs.declared.object_name.ObjName.{ObjName}
use Rattle.dd_names.specs.declared.object_name.ObjectKey.TheVariants as keys
use Rattle.dd_errors.specs.Errors.{ErrorValue}
use Rattle.dd_definitions.specs.declared.columns.ColumnDef.{ColumnDef}
use Rattle.dd_definitions.specs.declared.view_parts.ViewSource.{ViewSource}
use Rattle.dd_definitions.specs.declared.view_parts.ViewColumn.{ViewColumn}
use Rattle.dd_definitions.specs.declared.view_parts.ViewParts.{ViewParts}
use Rattle.dd_catalog.specs.Catalog.{object_cmp, is_same_object}
use Rattle.dd_catalog.specs.Sights.{Sight, TableThere, ViewThere}
use Rattle.dd_catalog.specs.Walks.{Walk, done, refuse, ◌>>=◌, look_at, each, over}
use Rattle.rules_refusals.specs.Refusals.{view_invalid, views_too_deep}
use Rattle.rules_views.specs.declared.shown.Shown.{Shown}

-- the views that were found whole, in the order of names
abbrev pub Finds : Type 0
Finds = List (ObjName × Shown)

abbrev pub found_at : Finds → ObjName → Option Shown
found_at finds name = lookup (is_at (object_cmp name)) finds

-- what a source shows, and what is found by then
pub record Sought : Type 0 where
  pub shown : Shown
  pub finds : Finds

abbrev pub sought : Shown → Finds → Sought
sought shown finds = record { shown = shown; finds = finds }

-- ## Outputs

-- the column of this name in any case
abbrev pub column_named : List ℕ → List ColumnDef → Option ColumnDef
column_named name columns = find (λ (column : ColumnDef). same column.name name) columns

abbrev pub column_shown : List ℕ → Option Shown → Option ColumnDef
column_shown name None = None
column_shown name (Some shown) = column_named name shown.columns

-- a column under the name of an output; a view draws no numbers
abbrev pub as_output : List ℕ → ColumnDef → ColumnDef
as_output output column = record column { name = output; auto = false }

abbrev pub output_or : ObjName → List ℕ → Option ColumnDef → Walk ErrorValue ColumnDef
output_or asked output None = refuse (view_invalid asked)
output_or asked output (Some column) = done (as_output output column)

abbrev pub one_output : ObjName → List Shown → ViewColumn → Walk ErrorValue ColumnDef
one_output asked shown output = output_or asked output.output (column_shown output.column (slice_get shown output.source))

-- ## Sources

-- the sources that were sought so far
pub record Sources : Type 0 where
  pub shown : List Shown
  pub finds : Finds

abbrev pub higher : ℕ → ℕ → ℕ
higher a b = if nat_lt a b then b else a

abbrev pub greatest : ℕ → List Shown → ℕ
greatest most [] = most
greatest most (shown ∷ others) = greatest (higher most shown.height) others

abbrev pub Seeks : Type 0
Seeks = Finds → ObjName → Sight → Walk ErrorValue Sought

unfoldable pub one_source : Seeks → Sources → ViewSource → Walk ErrorValue Sources
one_source seek before source = do
  seen ← look_at (keys.Object source.object)
  more ← seek before.finds source.object seen
  done (record { shown = before.shown ++ more.shown ∷ []; finds = more.finds })

abbrev pub found_whole : ObjName → Finds → Shown → Sought
found_whole name finds shown = sought shown (insert_entry object_cmp finds name shown)

-- a view through its sources
unfoldable pub through_sources : Seeks → ObjName → Finds → ObjName → ViewParts → Walk ErrorValue Sought
through_sources seek asked finds name parts = do
  sources ← over (one_source seek) (record { shown = []; finds = finds }) parts.sources
  columns ← each (one_output asked sources.shown) parts.outputs
  done (found_whole name sources.finds (record { columns = columns; height = greatest 0 sources.shown + 1 }))

abbrev pub is_on : ObjName → List ObjName → Bool
is_on name way = list_any (is_same_object name) way

-- so many views may still stand on the way
abbrev pub again : ℕ → Shown → Finds → Walk ErrorValue Sought
again left shown finds = if nat_lt left shown.height then refuse views_too_deep else done (sought shown finds)

abbrev pub known_or : Walk ErrorValue Sought → ℕ → Finds → Option Shown → Walk ErrorValue Sought
known_or whole left finds None = whole
known_or whole left finds (Some shown) = again left shown finds

-- by what is seen at a source, where `whole` finds a view through its sources
abbrev pub seen_through : (Finds → ObjName → ViewParts → Walk ErrorValue Sought) → ℕ → ObjName → List ObjName → Seeks
seen_through whole left asked way finds name (TableThere space parts) = done (sought (record { columns = parts.columns; height = 0 }) finds)
seen_through whole left asked way finds name (ViewThere parts) =
    if is_on name way then refuse (view_invalid asked) else known_or (whole finds name parts) left finds (found_at finds name)
seen_through whole left asked way finds name seen = refuse (view_invalid asked)

-- a view that isn't found yet, behind the views of the way; so many may still stand on it
abbrev pub view_whole : ℕ → ObjName → List ObjName → Finds → ObjName → ViewParts → Walk ErrorValue Sought
view_whole zero asked way finds name parts = refuse views_too_deep
view_whole (suc left) asked way finds name parts = through_sources (seen_through (view_whole left asked (way ++ name ∷ [])) left asked (way ++ name ∷ [])) asked finds name parts

-- by what is seen at a source, behind the views of the way; so many may still stand on it
abbrev pub source_seen : ℕ → ObjName → List ObjName → Seeks
source_seen left asked way = seen_through (view_whole left asked way) left asked way
