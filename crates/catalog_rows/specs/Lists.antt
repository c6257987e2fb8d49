-- The rows of an owner in a list.
use Rattle.std.specs.Prelude.{ℕ, suc, List, [], ◌∷◌, ◌++◌}
use Rattle.std.specs.List.{flat_map}
use Rattle.dd_names.specs.declared.object_name.ObjName.{ObjName}
use Rattle.dd_definitions.specs.declared.columns.ColumnDef.{ColumnDef}
use Rattle.dd_definitions.specs.declared.indexes.IndexDef.{IndexDef}
use Rattle.dd_definitions.specs.declared.foreign_keys.ForeignKeyDef.{ForeignKeyDef}
use Rattle.dd_catalog.specs.Catalog.{Placed, Table, View, foreign_keys_of}
use Rattle.catalog_rows.specs.Parts.{column_fields, index_fields, index_column_fields, key_fields, key_column_fields, view_fields}
use Rattle.catalog_rows.specs.Owners.{Owner, SchemaIs, ObjectIs, Row, named_row, Column, Index, IndexColumn, ForeignKey, KeyColumn, Query, inside_row, columns_in, indexes_in, child_row, constraint_row}

-- what is made of each item by its number, in order
abbrev pub numbered : {X : Type 0} → (ℕ → X → List Row) → ℕ → List X → List Row
numbered make i [] = []
numbered make i (x ∷ xs) = make i x ++ numbered make (suc i) xs

abbrev pub column_rows : ℕ → ℕ → ColumnDef → List Row
column_rows id i column = inside_row id (Column i) (column_fields column) ∷ []

abbrev pub index_column_rows : List ColumnDef → ℕ → ℕ → ℕ → List ℕ → List Row
index_column_rows columns id i j name = inside_row id (IndexColumn i j) (index_column_fields columns name) ∷ []

-- an index, and its columns
abbrev pub index_rows : List ColumnDef → ℕ → ℕ → IndexDef → List Row
index_rows columns id i index = inside_row id (Index i) (index_fields index) ∷ numbered (index_column_rows columns id i) 0 index.columns

abbrev pub key_column_rows : List ColumnDef → ℕ → ℕ → List (List ℕ) → ℕ → List ℕ → List Row
key_column_rows columns id i parents j name = inside_row id (KeyColumn i j) (key_column_fields columns parents j name) ∷ []

-- a foreign key among the children of its parent and among the constraint names of its schema
abbrev pub link_rows : ObjName → ℕ → ℕ → ℕ → ForeignKeyDef → List Row
link_rows name schema id i key = child_row id name i key ∷ constraint_row schema id i key ∷ []

-- a foreign key, and its columns
abbrev pub key_rows : List ColumnDef → ℕ → ℕ → ForeignKeyDef → List Row
key_rows columns id i key = inside_row id (ForeignKey i) (key_fields key) ∷ numbered (key_column_rows columns id i key.parent_columns) 0 key.columns

abbrev pub query_rows : ℕ → Placed → List Row
query_rows id (Table space parts) = []
query_rows id (View parts) = inside_row id Query (view_fields parts) ∷ []

-- the rows under the owner's id
unfoldable pub inside_rows : ℕ → Placed → List Row
inside_rows id placed =
    numbered (column_rows id) 0 (columns_in placed) ++ (numbered (index_rows (columns_in placed) id) 0 (indexes_in placed)
    ++ (numbered (key_rows (columns_in placed) id) 0 (foreign_keys_of placed) ++ query_rows id placed))

-- the rows that others look up
abbrev pub links_of : Owner → List Row
links_of (SchemaIs name id) = []
links_of (ObjectIs name schema id placed) = numbered (link_rows name schema id) 0 (foreign_keys_of placed)

abbrev pub rows_under : Owner → List Row
rows_under (SchemaIs name id) = []
rows_under (ObjectIs name schema id placed) = inside_rows id placed

-- all rows of an owner
abbrev pub rows_of : Owner → List Row
rows_of owner = named_row owner ∷ (rows_under owner ++ links_of owner)

abbrev pub rows_of_all : List Owner → List Row
rows_of_all owners = flat_map rows_of owners
