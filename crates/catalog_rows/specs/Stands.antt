-- When rows stand for a catalog.
use Rattle.std.specs.Prelude.{◌≡◌, ℕ, ◌<◌, ◌^◌, Bool, false, nat_eq, ◌||◌, ◌&&◌, List, [], ◌∷◌, length, Option, Some, None}
use Rattle.std.specs.Option.{option_map, is_some}
use Rattle.std.specs.List.{AllByRecursion}
use Rattle.std.specs.Str.{IsUtf8}
use Rattle.std.specs.FinMap as finite_map
use Rattle.dd_names.specs.Names.{name_cmp, IsName}
use Rattle.dd_names.specs.declared.object_name.ObjName.{ObjName}
use Rattle.dd_definitions.specs.declared.columns.ColumnDef.{ColumnDef}
use Rattle.dd_definitions.specs.declared.indexes.IndexDef.{IndexDef}
use Rattle.dd_definitions.specs.declared.foreign_keys.ForeignKeyDef.{ForeignKeyDef}
use Rattle.dd_definitions.specs.declared.view_parts.ViewSource.{ViewSource}
use Rattle.dd_definitions.specs.declared.view_parts.ViewColumn.{ViewColumn}
use Rattle.dd_definitions.specs.declared.view_parts.ViewParts.{ViewParts}
use Rattle.dd_catalog.specs.Catalog.{Catalog, Placed, Table, View, object_cmp, foreign_keys_of}
use Rattle.dd_catalog.specs.Valid.{IsValid}
use Rattle.row_batch.specs.Rows.{Rows}
use Rattle.row_fields.specs.Fields.{fields_bytes}
use Rattle.row_fields.specs.declared.fields.Field.TheVariants.{Long}
use Rattle.catalog_rows.specs.Parts.{type_length}
use Rattle.catalog_rows.specs.Owners.{Owner, SchemaIs, ObjectIs, HasRow, Row, row, columns_in, indexes_in}

-- an object with its id
pub record Standing : Type 0 where
  pub id : ℕ
  pub placed : Placed

-- a catalog with the ids of its schemas and objects
pub record Numbered : Type 0 where
  pub schemas : finite_map.FinMap name_cmp ℕ
  pub objects : finite_map.FinMap object_cmp Standing

abbrev pub placed_in : Standing → Placed
placed_in standing = standing.placed

-- it is this catalog, but for the ids
pub record IsOf (n : Numbered) (cat : Catalog) : Type 0 where
  pub schemas : (name : List ℕ) → finite_map.contains_key cat.schemas name ≡ is_some (finite_map.get n.schemas name)
  pub objects : (name : ObjName) → finite_map.get cat.objects name ≡ option_map placed_in (finite_map.get n.objects name)

-- the catalog has this schema or object, with these ids
abbrev pub Has : Numbered → Owner → Type 0
Has n (SchemaIs name id) = finite_map.get n.schemas name ≡ Some id
Has n (ObjectIs name schema id placed) = (finite_map.get n.schemas name.schema ≡ Some schema) × (finite_map.get n.objects name ≡ Some (record { id = id; placed = placed }))

-- ## Names that are names, and numbers that have room

-- a default is a text
abbrev pub FitsDefault : Option (List ℕ) → Type 0
FitsDefault None = Unit {0}
FitsDefault (Some text) = (length text < 2 ^ 32) × IsUtf8 text

pub record FitsColumn (column : ColumnDef) : Type 0 where
  pub name : IsName column.name
  pub length : type_length column.kind < 2 ^ 16
  pub default : FitsDefault column.default

pub record FitsIndex (index : IndexDef) : Type 0 where
  pub name : IsName index.name
  pub few : length index.columns < 2 ^ 16

pub record FitsKey (key : ForeignKeyDef) : Type 0 where
  pub name : IsName key.name
  pub schema : IsName key.parent.schema
  pub parent : IsName key.parent.name
  pub few : length key.columns < 2 ^ 16

pub record FitsSource (source : ViewSource) : Type 0 where
  pub schema : IsName source.object.schema
  pub name : IsName source.object.name
  pub alias : IsName source.alias

pub record FitsOutput (output : ViewColumn) : Type 0 where
  pub source : output.source < 2 ^ 32
  pub column : IsName output.column
  pub name : IsName output.output

pub record FitsView (parts : ViewParts) : Type 0 where
  pub sources : AllByRecursion FitsSource parts.sources
  pub few_sources : length parts.sources < 2 ^ 32
  pub outputs : AllByRecursion FitsOutput parts.outputs
  pub few_outputs : length parts.outputs < 2 ^ 16

abbrev pub FitsQuery : Placed → Type 0
FitsQuery (Table space parts) = Unit {0}
FitsQuery (View parts) = FitsView parts

abbrev pub FitsSpace : Placed → Type 0
FitsSpace (Table space parts) = space < 2 ^ 32
FitsSpace (View parts) = Unit {0}

pub record FitsPlaced (placed : Placed) : Type 0 where
  pub columns : AllByRecursion FitsColumn (columns_in placed)
  pub few_columns : length (columns_in placed) < 2 ^ 16
  pub indexes : AllByRecursion FitsIndex (indexes_in placed)
  pub few_indexes : length (indexes_in placed) < 2 ^ 16
  pub keys : AllByRecursion FitsKey (foreign_keys_of placed)
  pub few_keys : length (foreign_keys_of placed) < 2 ^ 16
  pub query : FitsQuery placed

pub record FitsObject (name : ObjName) (schema id : ℕ) (placed : Placed) : Type 0 where
  pub named : IsName name.name
  pub schema_fits : schema < 2 ^ 32
  pub id_fits : id < 2 ^ 32
  pub space_fits : FitsSpace placed
  pub parts : FitsPlaced placed

abbrev pub FitsOwner : Owner → Type 0
FitsOwner (SchemaIs name id) = IsName name × (id < 2 ^ 32)
FitsOwner (ObjectIs name schema id placed) = FitsObject name schema id placed

-- ## The rows

-- no two schemas have one id, and no two objects, and each owner fits
pub record IsApart (n : Numbered) : Type 0 where
  pub schemas : (a b : List ℕ) (id : ℕ) → finite_map.get n.schemas a ≡ Some id → finite_map.get n.schemas b ≡ Some id → a ≡ b
  pub objects : (a b : ObjName) (one other : Standing) → finite_map.get n.objects a ≡ Some one → finite_map.get n.objects b ≡ Some other → one.id ≡ other.id → a ≡ b
  pub fits : (owner : Owner) → Has n owner → FitsOwner owner

-- records of the log, and the counter, are rows of no owner
abbrev pub is_others : List ℕ → Bool
is_others [] = false
is_others (tag ∷ rest) = nat_eq tag 9 || (nat_eq tag 10 && nat_eq (length rest) 0)

-- the rows are just those of the owners, and others
pub record RowsAre (rows : Rows) (n : Numbered) : Type 0 where
  pub all : (owner : Owner) (key value : List ℕ) → Has n owner → HasRow owner key value → finite_map.get rows key ≡ Some value
  pub only : (key value : List ℕ) → is_others key ≡ false → finite_map.get rows key ≡ Some value → (owner : Owner) × Has n owner × HasRow owner key value

-- ## The next number

abbrev pub counter_row : ℕ → Row
counter_row next = row 10 [] (Long next ∷ [])

abbrev pub counter_key : List ℕ
counter_key = 10 ∷ []

abbrev pub next_bytes : ℕ → List ℕ
next_bytes next = fields_bytes (Long next ∷ [])

-- the row of the counter; where there is none the next number is 1
abbrev pub Counts : ℕ → Option (List ℕ) → Type 0
Counts next None = next ≡ 1
Counts next (Some value) = value ≡ next_bytes next

abbrev pub IsSpaceBelow : ℕ → Placed → Type 0
IsSpaceBelow next (Table space parts) = space < next
IsSpaceBelow next (View parts) = Unit {0}

-- the next number is above 0 and above each id and space id
pub record IsBelow (n : Numbered) (next : ℕ) : Type 0 where
  pub some : 0 < next
  pub fits : next < 2 ^ 32
  pub schemas : (name : List ℕ) (id : ℕ) → finite_map.get n.schemas name ≡ Some id → id < next
  pub objects : (name : ObjName) (standing : Standing) → finite_map.get n.objects name ≡ Some standing → standing.id < next
  pub spaces : (name : ObjName) (standing : Standing) → finite_map.get n.objects name ≡ Some standing → IsSpaceBelow next standing.placed

-- the rows stand for the catalog with these ids and this next number
pub record StandsWith (rows : Rows) (n : Numbered) (next : ℕ) (cat : Catalog) : Type 0 where
  pub numbered : IsOf n cat
  pub valid : IsValid cat
  pub apart : IsApart n
  pub are : RowsAre rows n
  pub counter : Counts next (finite_map.get rows counter_key)
  pub below : IsBelow n next

abbrev pub Stands : Rows → Catalog → Type 0
Stands rows cat = (n : Numbered) × (next : ℕ) × StandsWith rows n next cat
