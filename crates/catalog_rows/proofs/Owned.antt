-- The rows of a whole owner, put and taken away.
use Rattle.std.proofs.Common.{◌≡◌, ℕ, ◌<◌, ◌^◌, Bool, true, false, List, [], ◌∷◌, ◌++◌, Result, Ok, Err, refl, sym, ap, subst, arith}
use Rattle.std.specs.Prelude.{OnOk, ◌||◌}
use Rattle.std.proofs.lemmas.List.{append-nil}
use Rattle.row_batch.specs.Batches.{BatchValue}
use Rattle.row_batch.specs.Rows.{is_key}
use Rattle.dd_names.specs.Names.{IsName}
use Rattle.dd_names.specs.declared.object_name.ObjName.{ObjName}
use Rattle.dd_definitions.specs.declared.parts.TableParts.{TableParts}
use Rattle.dd_definitions.specs.declared.view_parts.ViewParts.{ViewParts}
use Rattle.dd_catalog.specs.Catalog.{Table, View}
use Rattle.row_fields.specs.declared.fields.Field.{Field}
use Rattle.row_fields.specs.declared.fields.Field.TheVariants.{Long, Ended}
use Rattle.dd_definitions.specs.declared.columns.ColumnDef.{ColumnDef}
use Rattle.dd_definitions.specs.declared.indexes.IndexDef.{IndexDef}
use Rattle.dd_definitions.specs.declared.foreign_keys.ForeignKeyDef.{ForeignKeyDef}
use Rattle.catalog_rows.specs.Parts.{view_fields, index_fields, key_fields}
use Rattle.catalog_rows.specs.Owners.{ObjectIs, key_of, key_bytes, object_row, inside_row, Index, ForeignKey, Query}
use Rattle.catalog_rows.specs.Lists.{numbered, column_rows, index_rows, index_column_rows, key_rows, key_column_rows, link_rows, inside_rows, rows_of}
use Rattle.catalog_rows.specs.Stands.{FitsColumn, FitsIndex, FitsKey, FitsView, FitsOwner}
use Rattle.catalog_rows.specs.Changes.{is_among, is_inside, is_erased}
use Rattle.catalog_rows.specs.Adding.{Added, AddedOne, AddedEach, Anything, Taken}
use Rattle.catalog_rows.proofs.Adding.{added_then, taken_same, taken_then, or_false}

-- ## A table put

pub table_added : {T E : Type 0} (r : Result T E) (a b c d e f : BatchValue) (name : ObjName) (schema id space : ℕ) (parts : TableParts)
    → Added a b (object_row name schema id (Table space parts) ∷ []) → AddedEach FitsColumn b c (column_rows id) parts.columns → AddedEach FitsIndex c d (index_rows parts.columns id) parts.indexes
    → AddedEach FitsKey d e (key_rows parts.columns id) parts.foreign_keys → OnOk r (AddedEach Anything e f (link_rows name schema id) parts.foreign_keys)
    → OnOk r (Added a f (rows_of (ObjectIs name schema id (Table space parts))))
unfolding inside_rows
table_added (Ok x) a b c d e f name schema id space parts own columns indexes keys links =
    let Cs = numbered (column_rows id) 0 parts.columns in
    let Is = numbered (index_rows parts.columns id) 0 parts.indexes in
    let Ks = numbered (key_rows parts.columns id) 0 parts.foreign_keys in
    let Ls = numbered (link_rows name schema id) 0 parts.foreign_keys in
    let row = object_row name schema id (Table space parts) in
    let nested : Added b e (Cs ++ (Is ++ (Ks ++ []))) = added_then b c e Cs (Is ++ (Ks ++ [])) columns.added (added_then c d e Is (Ks ++ []) indexes.added (subst (Added d e) (sym (append-nil Ks)) keys.added)) in
    let inner : Added b f ((Cs ++ (Is ++ (Ks ++ []))) ++ Ls) = added_then b e f (Cs ++ (Is ++ (Ks ++ []))) Ls nested links.added in
    added_then a b f (row ∷ []) ((Cs ++ (Is ++ (Ks ++ []))) ++ Ls) own inner
table_added (Err x) a b c d e f name schema id space parts own columns indexes keys links = tt

pub table_fits : (a b c d e : BatchValue) (name : ObjName) (schema id space : ℕ) (parts : TableParts) → IsName name.name → (schema < 2 ^ 32) × (id < 2 ^ 32) × (space < 2 ^ 32)
    → AddedEach FitsColumn a b (column_rows id) parts.columns → AddedEach FitsIndex b c (index_rows parts.columns id) parts.indexes → AddedEach FitsKey c d (key_rows parts.columns id) parts.foreign_keys
    → FitsOwner (ObjectIs name schema id (Table space parts))
table_fits a b c d e name schema id space parts named room columns indexes keys = record {
  named = named;
  schema_fits = room.0;
  id_fits = room.1;
  space_fits = room.2;
  parts = record { columns = columns.fits; few_columns = columns.few; indexes = indexes.fits; few_indexes = indexes.few; keys = keys.fits; few_keys = keys.few; query = tt };
}

-- ## A view put

pub view_added : {T E : Type 0} (r : Result T E) (a b c : BatchValue) (name : ObjName) (schema id : ℕ) (parts : ViewParts) → Added a b (object_row name schema id (View parts) ∷ [])
    → OnOk r (AddedOne FitsView b c (inside_row id Query (view_fields parts) ∷ []) parts) → OnOk r (Added a c (rows_of (ObjectIs name schema id (View parts))))
unfolding inside_rows
view_added (Ok x) a b c name schema id parts own query = added_then a b c (object_row name schema id (View parts) ∷ []) (inside_row id Query (view_fields parts) ∷ []) own query.added
view_added (Err x) a b c name schema id parts own query = tt

pub view_fits_owner : {T E : Type 0} (r : Result T E) (b c : BatchValue) (name : ObjName) (schema id : ℕ) (parts : ViewParts) → IsName name.name → (schema < 2 ^ 32) × (id < 2 ^ 32)
    → OnOk r (AddedOne FitsView b c (inside_row id Query (view_fields parts) ∷ []) parts) → OnOk r (FitsOwner (ObjectIs name schema id (View parts)))
view_fits_owner (Ok x) b c name schema id parts named room query = record {
  named = named;
  schema_fits = room.0;
  id_fits = room.1;
  space_fits = tt;
  parts = record { columns = tt; few_columns = omega_zero; indexes = tt; few_indexes = omega_zero; keys = tt; few_keys = omega_zero; query = query.fits };
}
  where
    omega_zero : 0 < 2 ^ 16
    omega_zero = omega arith
view_fits_owner (Err x) b c name schema id parts named room query = tt

-- ## Owners taken away

regrouped : (a b c : Bool) → ((a || b) || c) ≡ (a || (b || c))
regrouped true b c = refl
regrouped false b c = refl

pub table_taken : {T E : Type 0} (r : Result T E) (a b c d : BatchValue) (name : ObjName) (schema id space : ℕ) (parts : TableParts) → Taken a b (is_inside (ObjectIs name schema id (Table space parts)))
    → Taken b c (λ q. is_key q (key_bytes (key_of 2 (Long schema ∷ Ended name.name ∷ [])))) → OnOk r (Taken c d (λ q. is_among q (numbered (link_rows name schema id) 0 parts.foreign_keys)))
    → OnOk r (Taken a d (is_erased (ObjectIs name schema id (Table space parts))))
table_taken (Ok x) a b c d name schema id space parts inside named links =
    let own = λ (q : List ℕ). is_key q (key_bytes (key_of 2 (Long schema ∷ Ended name.name ∷ []))) in
    let linked = λ (q : List ℕ). is_among q (numbered (link_rows name schema id) 0 parts.foreign_keys) in
    let both = taken_then a b c (is_inside (ObjectIs name schema id (Table space parts))) own inside named in
    taken_same a d (λ q. (is_inside (ObjectIs name schema id (Table space parts)) q || own q) || linked q) (is_erased (ObjectIs name schema id (Table space parts)))
    (λ q. regrouped (is_inside (ObjectIs name schema id (Table space parts)) q) (own q) (linked q))
    (taken_then a c d (λ q. is_inside (ObjectIs name schema id (Table space parts)) q || own q) linked both links)
table_taken (Err x) a b c d name schema id space parts inside named links = tt

pub view_taken : {T E : Type 0} (r : Result T E) (a b c : BatchValue) (name : ObjName) (schema id : ℕ) (parts : ViewParts) → Taken a b (is_inside (ObjectIs name schema id (View parts)))
    → OnOk r (Taken b c (λ q. is_key q (key_bytes (key_of 2 (Long schema ∷ Ended name.name ∷ []))))) → OnOk r (Taken a c (is_erased (ObjectIs name schema id (View parts))))
view_taken (Ok x) a b c name schema id parts inside named =
    let own = λ (q : List ℕ). is_key q (key_bytes (key_of 2 (Long schema ∷ Ended name.name ∷ []))) in
    taken_same a c (λ q. is_inside (ObjectIs name schema id (View parts)) q || own q) (is_erased (ObjectIs name schema id (View parts)))
    (λ q. ap (λ b. is_inside (ObjectIs name schema id (View parts)) q || b) (sym (or_false (own q))))
    (taken_then a b c (is_inside (ObjectIs name schema id (View parts))) own inside named)
view_taken (Err x) a b c name schema id parts inside named = tt

-- ## An index and a foreign key put

pub index_added : {T E : Type 0} (r : Result T E) (old mid new : BatchValue) (columns : List ColumnDef) (id i : ℕ) (index : IndexDef) (names : List (List ℕ)) → names ≡ index.columns → Added old mid (inside_row id (Index i) (index_fields index) ∷ []) → IsName index.name
    → OnOk r (AddedEach Anything mid new (index_column_rows columns id i) names) → OnOk r (AddedOne FitsIndex old new (index_rows columns id i index) index)
index_added (Ok x) old mid new columns id i index names are own name each =
    let all : AddedEach Anything mid new (index_column_rows columns id i) index.columns = subst (λ (names : List (List ℕ)). AddedEach Anything mid new (index_column_rows columns id i) names) are each in
    record {
      added = added_then old mid new (inside_row id (Index i) (index_fields index) ∷ []) (numbered (index_column_rows columns id i) 0 index.columns) own all.added;
      fits = record { name = name; few = all.few };
    }
index_added (Err x) old mid new columns id i index names are own name each = tt

pub key_added : {T E : Type 0} (r : Result T E) (old mid new : BatchValue) (columns : List ColumnDef) (id i : ℕ) (key : ForeignKeyDef) (names parents : List (List ℕ)) → names ≡ key.columns → parents ≡ key.parent_columns
    → Added old mid (inside_row id (ForeignKey i) (key_fields key) ∷ []) → IsName key.name → IsName key.parent.schema → IsName key.parent.name
    → OnOk r (AddedEach Anything mid new (key_column_rows columns id i parents) names) → OnOk r (AddedOne FitsKey old new (key_rows columns id i key) key)
key_added (Ok x) old mid new columns id i key names parents are are_too own name schema parent each =
    let all : AddedEach Anything mid new (key_column_rows columns id i key.parent_columns) key.columns =
    subst (λ (names : List (List ℕ)). AddedEach Anything mid new (key_column_rows columns id i key.parent_columns) names) are (subst (λ (ps : List (List ℕ)). AddedEach Anything mid new (key_column_rows columns id i ps) names) are_too each) in
    record {
      added = added_then old mid new (inside_row id (ForeignKey i) (key_fields key) ∷ []) (numbered (key_column_rows columns id i key.parent_columns) 0 key.columns) own all.added;
      fits = record { name = name; schema = schema; parent = parent; few = all.few };
    }
key_added (Err x) old mid new columns id i key names parents are are_too own name schema parent each = tt

pub query_added : {T E : Type 0} (r : Result T E) (old new : BatchValue) (id : ℕ) (parts : ViewParts) (fields : List Field) → fields ≡ view_fields parts → FitsView parts → OnOk r (Added old new (inside_row id Query fields ∷ [])) → OnOk r (AddedOne FitsView old new (inside_row id Query (view_fields parts) ∷ []) parts)
query_added (Ok x) old new id parts fields is fits added = record { added = subst (λ (fs : List Field). Added old new (inside_row id Query fs ∷ [])) is added; fits = fits }
query_added (Err x) old new id parts fields is fits added = tt
