-- Objects with the same values at each place are the same.
use Rattle.std.proofs.Common.{◌≡◌, ℕ, ◌<◌, true, List, [], ◌∷◌, length, get_or, Some, refl, sym, ap, ◌∙◌, arith}
use Rattle.std.specs.Prelude.{slice_get}
use Rattle.std.specs.Option.{option_map}
use Rattle.std.proofs.lemmas.Option.{get_or_from_slice_get, slice_get-get_or, slice_get_within}
use Rattle.dd_definitions.specs.declared.columns.ColumnDef.{ColumnDef}
use Rattle.dd_definitions.specs.declared.indexes.IndexDef.{IndexDef}
use Rattle.dd_definitions.specs.declared.foreign_keys.ForeignKeyDef.{ForeignKeyDef}
use Rattle.dd_definitions.specs.declared.view_parts.ViewParts.{ViewParts}
use Rattle.dd_definitions.specs.Columns.{is_column}
use Rattle.dd_catalog.specs.Catalog.{Placed, Table, View, foreign_keys_of}
use Rattle.dd_catalog.specs.Valid.{own_name}
use Rattle.row_fields.specs.declared.fields.Field.TheVariants.{Byte, Short, Long, Text}
use Rattle.row_fields.specs.Fields.{fields_bytes}
use Rattle.catalog_rows.specs.Parts.{column_fields, index_fields, column_place, index_column_fields, key_fields, key_column_fields, view_fields, class_number, rule_number}
use Rattle.catalog_rows.specs.Owners.{object_fields, Column, Index, IndexColumn, ForeignKey, KeyColumn, Query, columns_in, indexes_in, index_columns_at, key_columns_at, parents_at, value_at}
use Rattle.catalog_rows_laws.proofs.Lists.{some_of, index_columns_are, key_columns_are, parents_are}
use Rattle.catalog_rows_laws.proofs.Keys.{some_is}
use Rattle.catalog_rows_laws.proofs.Alone.{class_alone, rule_alone, column_alone, short_is, place_alone, same_list, view_alone}
use Rattle.catalog_rows_laws.proofs.Twins.{Valued}
use Rattle.catalog_rows_laws.proofs.Formed.{index_column_there, key_column_there, key_paired}
use Rattle.catalog_rows_laws.proofs.Values.{Alike, turned, same_value}

never : ⊥ → ⊥
never e = e

-- ## Columns

same_column : (placed with : Placed) → Alike placed with → (i : ℕ) (c : ColumnDef) → slice_get (columns_in placed) i ≡ Some c → slice_get (columns_in with) i ≡ Some c
unfolding value_at
same_column placed with a i c e =
    let there : value_at with (Column i) ≡ Some (column_fields c) = same_value placed with a (Column i) (column_fields c) never (ap (option_map column_fields) e) in
    let d = some_of column_fields (slice_get (columns_in with) i) (column_fields c) there in
    d.1 ∙ ap Some (column_alone d.0 c d.2)

same_columns : (placed with : Placed) → Alike placed with → columns_in placed ≡ columns_in with
same_columns placed with a = same_list (columns_in placed) (columns_in with) (same_column placed with a) (same_column with placed (turned placed with a))

-- ## Indexes

same_index_column : (placed with : Placed) → Alike placed with → (i j : ℕ) (name : List ℕ) → slice_get (index_columns_at (indexes_in placed) i) j ≡ Some name → slice_get (index_columns_at (indexes_in with) i) j ≡ Some name
unfolding value_at
same_index_column placed with a i j name e =
    let there : value_at with (IndexColumn i j) ≡ Some (index_column_fields (columns_in placed) name) =
    same_value placed with a (IndexColumn i j) (index_column_fields (columns_in placed) name) never (ap (option_map (index_column_fields (columns_in placed))) e) in
    let d = some_of (index_column_fields (columns_in with)) (slice_get (index_columns_at (indexes_in with) i) j) (index_column_fields (columns_in placed) name) there in
    let own : is_column (columns_in with) d.0 ≡ true = index_column_there with (a.right).formed i j d.0 d.1 in
    let columns = same_columns placed with a in
    let place : column_place (columns_in with) d.0 ≡ column_place (columns_in placed) name = short_is (column_place (columns_in with) d.0) (column_place (columns_in placed) name) d.2 in
    let names : d.0 ≡ name =
    place_alone (columns_in placed) d.0 name (ap (λ (cs : List ColumnDef). is_column cs d.0) columns ∙ own) (index_column_there placed (a.left).formed i j name e)
    (ap (λ (cs : List ColumnDef). column_place cs d.0) columns ∙ place) in
    d.1 ∙ ap Some names

same_index_columns : (placed with : Placed) → Alike placed with → (i : ℕ) → index_columns_at (indexes_in placed) i ≡ index_columns_at (indexes_in with) i
same_index_columns placed with a i =
    same_list (index_columns_at (indexes_in placed) i) (index_columns_at (indexes_in with) i) (same_index_column placed with a i) (same_index_column with placed (turned placed with a) i)

index_alone : (x y : IndexDef) → index_fields x ≡ index_fields y → x.columns ≡ y.columns → x ≡ y
index_alone x y e columns =
    let name : x.name ≡ y.name = cc in
    let number : class_number x.class ≡ class_number y.class = cc in
    let class : x.class ≡ y.class = class_alone x.class y.class number in
    λ i. record { name = name i; class = class i; columns = columns i }

same_index : (placed with : Placed) → Alike placed with → (i : ℕ) (x : IndexDef) → slice_get (indexes_in placed) i ≡ Some x → slice_get (indexes_in with) i ≡ Some x
unfolding value_at
same_index placed with a i x e =
    let there : value_at with (Index i) ≡ Some (index_fields x) = same_value placed with a (Index i) (index_fields x) never (ap (option_map index_fields) e) in
    let d = some_of index_fields (slice_get (indexes_in with) i) (index_fields x) there in
    let columns : d.0.columns ≡ x.columns =
    sym (index_columns_are (indexes_in with) i d.0 d.1) ∙ sym (same_index_columns placed with a i) ∙ index_columns_are (indexes_in placed) i x e in
    d.1 ∙ ap Some (index_alone d.0 x d.2 columns)

same_indexes : (placed with : Placed) → Alike placed with → indexes_in placed ≡ indexes_in with
same_indexes placed with a = same_list (indexes_in placed) (indexes_in with) (same_index placed with a) (same_index with placed (turned placed with a))

-- ## Foreign keys

-- a column of a foreign key, and the parent's column at its place
record KeyColumnIs (with : Placed) (i j : ℕ) (name referenced : List ℕ) : Type 0 where
  pub column : slice_get (key_columns_at (foreign_keys_of with) i) j ≡ Some name
  pub parent : get_or (parents_at (foreign_keys_of with) i) j [] ≡ referenced

pair_is : (a b : ℕ) (x y : List ℕ) → Short a ∷ Text x ∷ [] ≡ Short b ∷ Text y ∷ [] → (a ≡ b) × (x ≡ y)
pair_is a b x y e = (cc, cc)

same_key_column : (placed with : Placed) → Alike placed with → (i j : ℕ) (name : List ℕ) → slice_get (key_columns_at (foreign_keys_of placed) i) j ≡ Some name
    → KeyColumnIs with i j name (get_or (parents_at (foreign_keys_of placed) i) j [])
unfolding value_at
same_key_column placed with a i j name e =
    let fields = key_column_fields (columns_in placed) (parents_at (foreign_keys_of placed) i) j in
    let there : value_at with (KeyColumn i j) ≡ Some (fields name) = same_value placed with a (KeyColumn i j) (fields name) never (ap (option_map fields) e) in
    let d = some_of (key_column_fields (columns_in with) (parents_at (foreign_keys_of with) i) j) (slice_get (key_columns_at (foreign_keys_of with) i) j) (fields name) there in
    let own : is_column (columns_in with) d.0 ≡ true = key_column_there with (a.right).formed i j d.0 d.1 in
    let columns = same_columns placed with a in
    let both = pair_is (column_place (columns_in with) d.0) (column_place (columns_in placed) name) (get_or (parents_at (foreign_keys_of with) i) j []) (get_or (parents_at (foreign_keys_of placed) i) j []) d.2 in
    let names : d.0 ≡ name =
    place_alone (columns_in placed) d.0 name (ap (λ (cs : List ColumnDef). is_column cs d.0) columns ∙ own) (key_column_there placed (a.left).formed i j name e)
    (ap (λ (cs : List ColumnDef). column_place cs d.0) columns ∙ both.0) in
    record { column = d.1 ∙ ap Some names; parent = both.1 }

same_key_columns : (placed with : Placed) → Alike placed with → (i : ℕ) → key_columns_at (foreign_keys_of placed) i ≡ key_columns_at (foreign_keys_of with) i
same_key_columns placed with a i =
    same_list (key_columns_at (foreign_keys_of placed) i) (key_columns_at (foreign_keys_of with) i) (λ j name e. (same_key_column placed with a i j name e).column)
    (λ j name e. (same_key_column with placed (turned placed with a) i j name e).column)

-- where both keys have as many parent columns as columns, each parent column is the other's
same_parent : (placed with : Placed) → Alike placed with → (i : ℕ) (x y : ForeignKeyDef) → slice_get (foreign_keys_of placed) i ≡ Some x → slice_get (foreign_keys_of with) i ≡ Some y → (j : ℕ) (p : List ℕ)
    → slice_get x.parent_columns j ≡ Some p → slice_get y.parent_columns j ≡ Some p
same_parent placed with a i x y e f j p is =
    let columns : x.columns ≡ y.columns =
    sym (key_columns_are (foreign_keys_of placed) i x e) ∙ same_key_columns placed with a i ∙ key_columns_are (foreign_keys_of with) i y f in
    let paired : length x.columns ≡ length x.parent_columns = key_paired placed (a.left).formed i x e in
    let paired_too : length y.columns ≡ length y.parent_columns = key_paired with (a.right).formed i y f in
    let many : length x.columns ≡ length y.columns = ap length columns in
    let within : j < length x.parent_columns = slice_get_within x.parent_columns j p is in
    let low : j < length x.columns = omega (arith, paired, within) in
    let column : slice_get (key_columns_at (foreign_keys_of placed) i) j ≡ Some (get_or x.columns j []) =
    ap (λ (names : List (List ℕ)). slice_get names j) (key_columns_are (foreign_keys_of placed) i x e) ∙ slice_get-get_or x.columns j [] low in
    let k = same_key_column placed with a i j (get_or x.columns j []) column in
    let parent : get_or y.parent_columns j [] ≡ p =
    ap (λ (names : List (List ℕ)). get_or names j []) (sym (parents_are (foreign_keys_of with) i y f)) ∙ k.parent
    ∙ ap (λ (names : List (List ℕ)). get_or names j []) (parents_are (foreign_keys_of placed) i x e) ∙ get_or_from_slice_get x.parent_columns j p [] is in
    let there : j < length y.parent_columns = omega (arith, paired_too, many, low) in
    slice_get-get_or y.parent_columns j [] there ∙ ap Some parent

key_alone : (x y : ForeignKeyDef) → key_fields x ≡ key_fields y → x.columns ≡ y.columns → x.parent_columns ≡ y.parent_columns → x ≡ y
key_alone x y e columns parents =
    let name : x.name ≡ y.name = cc in
    let schema : x.parent.schema ≡ y.parent.schema = cc in
    let parent : x.parent.name ≡ y.parent.name = cc in
    let deleting : rule_number x.on_delete ≡ rule_number y.on_delete = cc in
    let updating : rule_number x.on_update ≡ rule_number y.on_update = cc in
    let delete : x.on_delete ≡ y.on_delete = rule_alone x.on_delete y.on_delete deleting in
    let update : x.on_update ≡ y.on_update = rule_alone x.on_update y.on_update updating in
    λ i. record { name = name i; columns = columns i; parent = record { schema = schema i; name = parent i }; parent_columns = parents i; on_delete = delete i; on_update = update i }

same_key_at : (placed with : Placed) → Alike placed with → (i : ℕ) (x : ForeignKeyDef) → slice_get (foreign_keys_of placed) i ≡ Some x → slice_get (foreign_keys_of with) i ≡ Some x
unfolding value_at
same_key_at placed with a i x e =
    let there : value_at with (ForeignKey i) ≡ Some (key_fields x) = same_value placed with a (ForeignKey i) (key_fields x) never (ap (option_map key_fields) e) in
    let d = some_of key_fields (slice_get (foreign_keys_of with) i) (key_fields x) there in
    let columns : d.0.columns ≡ x.columns =
    sym (key_columns_are (foreign_keys_of with) i d.0 d.1) ∙ sym (same_key_columns placed with a i) ∙ key_columns_are (foreign_keys_of placed) i x e in
    let parents : d.0.parent_columns ≡ x.parent_columns =
    same_list d.0.parent_columns x.parent_columns (same_parent with placed (turned placed with a) i d.0 x d.1 e) (same_parent placed with a i x d.0 e d.1) in
    d.1 ∙ ap Some (key_alone d.0 x d.2 columns parents)

same_keys : (placed with : Placed) → Alike placed with → foreign_keys_of placed ≡ foreign_keys_of with
same_keys placed with a = same_list (foreign_keys_of placed) (foreign_keys_of with) (same_key_at placed with a) (same_key_at with placed (turned placed with a))

-- ## Whole objects

same_views : (parts sections : ViewParts) → Alike (View parts) (View sections) → parts.name ≡ sections.name → parts ≡ sections
unfolding value_at
same_views parts sections a name =
    let v : Valued (View sections) Query (view_fields parts) = a.there Query (view_fields parts) refl in
    let value : view_fields sections ≡ v.value = some_is (view_fields sections) v.value v.there in
    let both = view_alone parts sections ((a.left).fits).query ((a.right).fits).query (v.bytes ∙ ap fields_bytes (sym value)) in
    λ i. record { name = name i; sources = both.0 i; outputs = both.1 i }

heads_apart : (id other space room : ℕ) → Byte 1 ∷ Long id ∷ Long space ∷ [] ≡ Byte 2 ∷ Long other ∷ Long room ∷ [] → ⊥
heads_apart id other space room e = let tags : ◌≡◌ {A = ℕ} 1 2 = cc in omega (arith, tags)

-- of one name, one kind, one space and the same values
pub same_object : (id : ℕ) (placed with : Placed) → Alike placed with → own_name placed ≡ own_name with → object_fields id placed ≡ object_fields id with → placed ≡ with
same_object id (Table space parts) (Table room sections) a name head =
    let spaces : space ≡ room = cc in
    let columns : parts.columns ≡ sections.columns = same_columns (Table space parts) (Table room sections) a in
    let indexes : parts.indexes ≡ sections.indexes = same_indexes (Table space parts) (Table room sections) a in
    let keys : parts.foreign_keys ≡ sections.foreign_keys = same_keys (Table space parts) (Table room sections) a in
    λ i. Table (spaces i) (record { name = name i; columns = columns i; indexes = indexes i; foreign_keys = keys i })
same_object id (Table space parts) (View sections) a name head = absurd (heads_apart id id space 0 head)
same_object id (View parts) (Table room sections) a name head = absurd (heads_apart id id room 0 (sym head))
same_object id (View parts) (View sections) a name head = ap View (same_views parts sections a name)
