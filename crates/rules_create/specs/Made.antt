-- Parts of what CREATE TABLE comes to.
use Rattle.std.specs.Prelude.{◌≡◌, ℕ, ◌==◌, Bool, ◌&&◌, not, nat_lt, List, length}
use Rattle.std.specs.List.{flat_map, list_any}
use Rattle.std.specs.Str.{bytes_eq}
use Rattle.std.specs.BTreeSet.{BTreeSet, contains}
use Rattle.dd_names.specs.Names.{fold, name_cmp}
use Rattle.dd_names.specs.declared.object_name.ObjName.{ObjName}
use Rattle.dd_errors.specs.Errors.{ErrorValue}
use Rattle.sql_types.specs.declared.words.ColumnWords.{ColumnWords}
use Rattle.sql_types.specs.declared.words.FkWords.{FkWords}
use Rattle.sql_types.specs.declared.words.KeyWords.{KeyWords}
use Rattle.dd_definitions.specs.Indexes.{is_primary}
use Rattle.dd_definitions.specs.declared.columns.ColumnDef.{ColumnDef}
use Rattle.dd_definitions.specs.declared.foreign_keys.ForeignKeyDef.{ForeignKeyDef}
use Rattle.dd_definitions.specs.declared.indexes.IndexDef.{IndexDef}
use Rattle.dd_definitions.specs.declared.parts.TableParts.{TableParts}
use Rattle.sql_ast.specs.declared.session.SessionState.{SessionState}
use Rattle.sql_ast.specs.declared.element.Element.{Element}
use Rattle.dd_catalog.specs.Walks.{Walk, done, ◌>>=◌, refuse_if, over}
use Rattle.rules_refusals.specs.Refusals.{too_many_key_parts}
use Rattle.rules_refusals.specs.Refusals as refusals
use Rattle.rules_outcome.specs.Choices.{Choice}
use Rattle.rules_elements.specs.ForeignKeys.{foreign_key_of}
use Rattle.rules_create.specs.Tables.{column_in, all_columns, foreign_key_in, all_keys, some_columns, with_index, name_in_text, of_columns, one_key, one_foreign_key, within_limits, own_keys, is_null_written, constraint_name, with_key_index, put_in_order, key_named, by_class, table_of, table_made}

-- what the parts of an item make of a state, one after another
abbrev pub over_each : {E S A B : Type 0} → (S → A → Walk E S) → (B → List A) → S → B → Walk E S
over_each check parts state item = over check state (parts item)

-- the set has the folded names of the columns
pub record AreFoldedNames (names : BTreeSet (List ℕ)) (columns : List ColumnDef) : Type 0 where
  pub at : (q : List ℕ) → contains name_cmp names q ≡ list_any (λ (column : ColumnDef). bytes_eq (fold column.name) q) columns

-- the keys of a column, where the element is one
abbrev pub own_keys_in : Element → List KeyWords
own_keys_in element = flat_map own_keys (column_in element)

-- the element is the column, and NULL or DEFAULT NULL is written for it
abbrev pub is_null_of : List ℕ → Element → Bool
is_null_of name element = is_null_written (column_in element) name

-- a foreign key whose name and columns are settled: its index, its parent and its columns
unfoldable pub with_foreign_key : TableParts → FkWords → ForeignKeyDef → Walk ErrorValue TableParts
with_foreign_key parts words key = do
  indexed ← with_key_index parts words key.columns
  found ← foreign_key_of indexed words.columns key
  done (record indexed { foreign_keys = put_in_order found indexed.foreign_keys })

-- as many columns as of the parent, 16 at most, and some
abbrev pub allowed_columns : FkWords → Walk ErrorValue (Unit {0})
allowed_columns words = do
  _ ← refuse_if (not (length words.columns == length words.parent_columns)) (refusals.wrong_fk_def (name_in_text words.constraint))
  _ ← refuse_if (nat_lt 16 (length words.columns)) too_many_key_parts
  some_columns words.columns

-- a foreign key on these columns with its name
abbrev pub key_made : TableParts → FkWords → List (List ℕ) → Walk ErrorValue ForeignKeyDef
key_made parts words columns = constraint_name parts words.constraint >>= λ name. done (key_named words parts.name name columns)

-- a foreign key whose columns are settled: its name, and then the rest
unfoldable pub foreign_key_on : TableParts → FkWords → List (List ℕ) → Walk ErrorValue TableParts
foreign_key_on parts words columns = do
  name ← constraint_name parts words.constraint
  with_foreign_key parts words (key_named words parts.name name columns)

-- the index is added, unless it is a primary key and NULL is written for a column of it
abbrev pub added_index : List ColumnWords → TableParts → IndexDef → Walk ErrorValue TableParts
added_index written parts index = do
  _ ← refuse_if (is_primary index && list_any (is_null_written written) index.columns) refusals.primary_cant_have_null
  done (with_index parts index)

-- the table with its columns alone
abbrev pub columns_made : ObjName → List Element → Walk ErrorValue TableParts
columns_made table elements = all_columns (flat_map column_in elements) >>= λ columns. done (of_columns table columns)

-- the table with its indexes by their classes
abbrev pub ordered : TableParts → TableParts
ordered parts = record parts { indexes = by_class parts.columns parts.indexes }

-- what keys and foreign keys make of the table with its columns
unfoldable pub filled : List Element → TableParts → Walk ErrorValue TableParts
filled elements start = do
  keyed ← over (one_key (flat_map column_in elements)) start (all_keys elements)
  parts ← over one_foreign_key keyed (flat_map foreign_key_in elements)
  _ ← within_limits parts
  done (ordered parts)

-- what the statement comes to where nothing stands at the table's name
abbrev pub new_table : SessionState → ObjName → List Element → Walk ErrorValue Choice
new_table session table elements = table_of table elements >>= λ parts. done (table_made session table parts)
