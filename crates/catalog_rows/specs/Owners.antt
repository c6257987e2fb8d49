-- What has rows: a schema, a table or a view, with the ids that it was given. Each has its rows at places, under keys that its
-- ids and names determine.
use Rattle.std.specs.Prelude.{◌≡◌, ℕ, zero, suc, List, [], ◌∷◌, Option, Some, None, slice_get}
use Rattle.std.specs.Option.{option_map}
use Rattle.dd_names.specs.Names.{fold}
use Rattle.dd_names.specs.declared.object_name.ObjName.{ObjName}
use Rattle.dd_definitions.specs.declared.columns.ColumnDef.{ColumnDef}
use Rattle.dd_definitions.specs.declared.indexes.IndexDef.{IndexDef}
use Rattle.dd_definitions.specs.declared.foreign_keys.ForeignKeyDef.{ForeignKeyDef}
use Rattle.dd_catalog.specs.Catalog.{Placed, Table, View, foreign_keys_of}
use Rattle.row_fields.specs.declared.fields.Field.{Field}
use Rattle.row_fields.specs.declared.fields.Field.TheVariants.{Byte, Short, Long, Text, Ended}
use Rattle.row_fields.specs.Fields.{fields_bytes}
use Rattle.catalog_rows.specs.Parts.{column_fields, index_fields, index_column_fields, key_fields, key_column_fields, view_fields}

-- a schema by its name with its id, or an object by its name with the id of its schema, its own id, and what it is
pub data Owner : Type 0 where
  SchemaIs : List ℕ → ℕ → Owner
  ObjectIs : ObjName → ℕ → ℕ → Placed → Owner

-- ## Rows

-- a tag, and fields
pub record RowKey : Type 0 where
  pub tag : ℕ
  pub fields : List Field

pub record Row : Type 0 where
  pub key : RowKey
  pub value : List Field

abbrev pub key_of : ℕ → List Field → RowKey
key_of tag fields = record { tag = tag; fields = fields }

abbrev pub row : ℕ → List Field → List Field → Row
row tag fields value = record { key = key_of tag fields; value = value }

abbrev pub key_bytes : RowKey → List ℕ
key_bytes key = key.tag ∷ fields_bytes key.fields

-- ## The row of the name

-- a table is 1 and has a space, a view is 2 and has none
abbrev pub object_fields : ℕ → Placed → List Field
object_fields id (Table space parts) = Byte 1 ∷ Long id ∷ Long space ∷ []
object_fields id (View parts) = Byte 2 ∷ Long id ∷ Long 0 ∷ []

abbrev pub schema_row : List ℕ → ℕ → Row
schema_row name id = row 1 (Ended name ∷ []) (Long id ∷ [])

abbrev pub object_row : ObjName → ℕ → ℕ → Placed → Row
object_row name schema id placed = row 2 (Long schema ∷ Ended name.name ∷ []) (object_fields id placed)

abbrev pub named_row : Owner → Row
named_row (SchemaIs name id) = schema_row name id
named_row (ObjectIs name schema id placed) = object_row name schema id placed

-- ## Rows under an id

-- a column; an index, and the columns of one; a foreign key, and the columns of one; the query of a view. All by their places
pub data Inside : Type 0 where
  Column : ℕ → Inside
  Index : ℕ → Inside
  IndexColumn : ℕ → ℕ → Inside
  ForeignKey : ℕ → Inside
  KeyColumn : ℕ → ℕ → Inside
  Query : Inside

abbrev pub tag_of : Inside → ℕ
tag_of (Column i) = 3
tag_of (Index i) = 4
tag_of (IndexColumn i j) = 5
tag_of (ForeignKey i) = 6
tag_of (KeyColumn i j) = 7
tag_of Query = 8

abbrev pub numbers_of : Inside → List Field
numbers_of (Column i) = Short i ∷ []
numbers_of (Index i) = Short i ∷ []
numbers_of (IndexColumn i j) = Short i ∷ Short j ∷ []
numbers_of (ForeignKey i) = Short i ∷ []
numbers_of (KeyColumn i j) = Short i ∷ Short j ∷ []
numbers_of Query = []

abbrev pub inside_row : ℕ → Inside → List Field → Row
inside_row id at value = row (tag_of at) (Long id ∷ numbers_of at) value

abbrev pub columns_in : Placed → List ColumnDef
columns_in (Table space parts) = parts.columns
columns_in (View parts) = []

abbrev pub indexes_in : Placed → List IndexDef
indexes_in (Table space parts) = parts.indexes
indexes_in (View parts) = []

-- the columns of the index at a place
abbrev pub index_columns_at : List IndexDef → ℕ → List (List ℕ)
index_columns_at [] i = []
index_columns_at (index ∷ indexes) zero = index.columns
index_columns_at (index ∷ indexes) (suc i) = index_columns_at indexes i

-- the columns of the foreign key at a place, and those of its parent
abbrev pub key_columns_at : List ForeignKeyDef → ℕ → List (List ℕ)
key_columns_at [] i = []
key_columns_at (key ∷ keys) zero = key.columns
key_columns_at (key ∷ keys) (suc i) = key_columns_at keys i

abbrev pub parents_at : List ForeignKeyDef → ℕ → List (List ℕ)
parents_at [] i = []
parents_at (key ∷ keys) zero = key.parent_columns
parents_at (key ∷ keys) (suc i) = parents_at keys i

abbrev pub query_fields : Placed → Option (List Field)
query_fields (Table space parts) = None
query_fields (View parts) = Some (view_fields parts)

-- the value of the row at a place, if there is one
unfoldable pub value_at : Placed → Inside → Option (List Field)
value_at placed (Column i) = option_map column_fields (slice_get (columns_in placed) i)
value_at placed (Index i) = option_map index_fields (slice_get (indexes_in placed) i)
value_at placed (IndexColumn i j) = option_map (index_column_fields (columns_in placed)) (slice_get (index_columns_at (indexes_in placed) i) j)
value_at placed (ForeignKey i) = option_map key_fields (slice_get (foreign_keys_of placed) i)
value_at placed (KeyColumn i j) =
    option_map (key_column_fields (columns_in placed) (parents_at (foreign_keys_of placed) i) j) (slice_get (key_columns_at (foreign_keys_of placed) i) j)
value_at placed Query = query_fields placed

-- ## Rows of a foreign key that others look up

-- among the children of its parent
abbrev pub child_row : ℕ → ObjName → ℕ → ForeignKeyDef → Row
child_row id name i key = row 11 (Ended key.parent.schema ∷ Ended key.parent.name ∷ Long id ∷ Short i ∷ []) (Text name.schema ∷ Text name.name ∷ [])

-- among the constraint names of its schema
abbrev pub constraint_row : ℕ → ℕ → ℕ → ForeignKeyDef → Row
constraint_row schema id i key = row 12 (Long schema ∷ Ended (fold key.name) ∷ []) (Long id ∷ Short i ∷ [])

-- ## All rows of an owner

-- under its name, under its id, or for the foreign key at a place: among children, or among constraint names
pub data Place : Type 0 where
  Named : Place
  Under : Inside → Place
  Child : ℕ → Place
  Constraint : ℕ → Place

-- the row at a place, if there is one
unfoldable pub row_at : Owner → Place → Option Row
row_at (SchemaIs name id) Named = Some (schema_row name id)
row_at (SchemaIs name id) (Under at) = None
row_at (SchemaIs name id) (Child i) = None
row_at (SchemaIs name id) (Constraint i) = None
row_at (ObjectIs name schema id placed) Named = Some (object_row name schema id placed)
row_at (ObjectIs name schema id placed) (Under at) = option_map (inside_row id at) (value_at placed at)
row_at (ObjectIs name schema id placed) (Child i) = option_map (child_row id name i) (slice_get (foreign_keys_of placed) i)
row_at (ObjectIs name schema id placed) (Constraint i) = option_map (constraint_row schema id i) (slice_get (foreign_keys_of placed) i)

-- the owner has a row of these bytes
pub record HasRow (owner : Owner) (key value : List ℕ) : Type 0 where
  pub place : Place
  pub at : Row
  pub is : row_at owner place ≡ Some at
  pub key_is : key ≡ key_bytes at.key
  pub value_is : value ≡ fields_bytes at.value
