-- The rows of a table or of a view, one group after the other.
use Rattle.std.proofs.Common.{ℕ, [], ◌∷◌, Result, Ok, Err, sym, subst}
use Rattle.std.specs.Prelude.{OnOk}
use Rattle.std.proofs.lemmas.List.{append-nil}
use Rattle.dd_names.specs.declared.object_name.ObjName.{ObjName}
use Rattle.dd_definitions.specs.declared.parts.TableParts.{TableParts}
use Rattle.dd_definitions.specs.declared.view_parts.ViewParts.{ViewParts}
use Rattle.dd_catalog.specs.Catalog.{Table, View}
use Rattle.row_batch.specs.Batches.{BatchValue}
use Rattle.catalog_rows.specs.Owners.{ObjectIs, object_row, inside_row, Query}
use Rattle.catalog_rows.specs.Parts.{view_fields}
use Rattle.catalog_rows.specs.Lists.{column_rows, index_rows, inside_rows, key_rows, link_rows, numbered, rows_of}
use Rattle.catalog_rows.specs.Adding.{Added}
use Rattle.catalog_rows.proofs.Adding.{added_then}

-- under the table's id
inside_added : (id space : ℕ) (parts : TableParts) (a b c d : BatchValue) → Added a b (numbered (column_rows id) 0 parts.columns)
    → Added b c (numbered (index_rows parts.columns id) 0 parts.indexes) → Added c d (numbered (key_rows parts.columns id) 0 parts.foreign_keys) → Added a d (inside_rows id (Table space parts))
unfolding inside_rows
inside_added id space parts a b c d columns indexes keys =
    let last = subst (λ rows. Added c d rows) (sym (append-nil (numbered (key_rows parts.columns id) 0 parts.foreign_keys))) keys in
    added_then a b d (numbered (column_rows id) 0 parts.columns) _ columns (added_then b c d (numbered (index_rows parts.columns id) 0 parts.indexes) _ indexes last)

pub table_added : {T E : Type 0} (r : Result T E) (name : ObjName) (schema id space : ℕ) (parts : TableParts) (a b c d e f : BatchValue) → Added a b (object_row name schema id (Table space parts) ∷ [])
    → Added b c (numbered (column_rows id) 0 parts.columns) → Added c d (numbered (index_rows parts.columns id) 0 parts.indexes) → Added d e (numbered (key_rows parts.columns id) 0 parts.foreign_keys)
    → OnOk r (Added e f (numbered (link_rows name schema id) 0 parts.foreign_keys)) → OnOk r (Added a f (rows_of (ObjectIs name schema id (Table space parts))))
table_added (Ok x) name schema id space parts a b c d e f named columns indexes keys links =
    added_then a b f (object_row name schema id (Table space parts) ∷ []) _ named (added_then b e f (inside_rows id (Table space parts)) _ (inside_added id space parts b c d e columns indexes keys) links)
table_added (Err x) name schema id space parts a b c d e f named columns indexes keys links = tt

pub view_added : {T E : Type 0} (r : Result T E) (name : ObjName) (schema id : ℕ) (parts : ViewParts) (a b c : BatchValue) → Added a b (object_row name schema id (View parts) ∷ [])
    → OnOk r (Added b c (inside_row id Query (view_fields parts) ∷ [])) → OnOk r (Added a c (rows_of (ObjectIs name schema id (View parts))))
unfolding inside_rows
view_added (Ok x) name schema id parts a b c named query = added_then a b c (object_row name schema id (View parts) ∷ []) (inside_row id Query (view_fields parts) ∷ []) named query
view_added (Err x) name schema id parts a b c named query = tt

-- of a result
pub on_ok : {T E : Type 0} (r : Result T E) (P Q : Type 0) → (P → Q) → OnOk r P → OnOk r Q
on_ok (Ok x) P Q f p = f p
on_ok (Err x) P Q f p = tt
