-- What validity says of an object's parts.
use Rattle.std.proofs.Common.{◌≡◌, ℕ, zero, suc, ◌<◌, ◌^◌, Bool, true, List, [], ◌∷◌, length, get_or, Some, refl, sym, ap, ◌∙◌, arith}
use Rattle.std.specs.Prelude.{slice_get}
use Rattle.std.specs.List.{list_all}
use Rattle.std.proofs.lemmas.Bool.{and_parts, eqb-true}
use Rattle.dd_names.specs.Names.{is_name}
use Rattle.dd_definitions.specs.declared.columns.ColumnDef.{ColumnDef}
use Rattle.dd_definitions.specs.declared.foreign_keys.ForeignKeyDef.{ForeignKeyDef}
use Rattle.dd_definitions.specs.declared.parts.TableParts.{TableParts}
use Rattle.dd_definitions.specs.Columns.{is_column, are_key_columns}
use Rattle.dd_definitions.specs.Indexes.{is_index_formed, are_indexes_formed}
use Rattle.dd_definitions.specs.ForeignKeys.{is_foreign_key_formed, are_foreign_keys_formed}
use Rattle.dd_definitions.specs.Named.{has_names, is_foreign_key_named}
use Rattle.dd_definitions.specs.WellFormed.{is_well_formed}
use Rattle.dd_catalog.specs.Catalog.{Placed, Table, View, foreign_keys_of}
use Rattle.dd_catalog.specs.Valid.{is_placed_named, is_placed_formed}
use Rattle.dd_catalog.proofs.ObjectNames.{name_is}
use Rattle.catalog_rows.specs.Owners.{columns_in, indexes_in, index_columns_at, key_columns_at, parents_at}
use Rattle.catalog_rows_laws.proofs.Lists.{index_of, key_with}

-- a parent column's name is short, or none
pub short_names : (names : List (List ℕ)) (j : ℕ) → list_all is_name names ≡ true → length (get_or names j []) < 2 ^ 16
short_names [] j e = omega arith
short_names (name ∷ names) zero e = let short = (name_is name (and_parts (is_name name) (list_all is_name names) e).0).short in omega arith
short_names (name ∷ names) (suc j) e = short_names names j (and_parts (is_name name) (list_all is_name names) e).1

key_named : (keys : List ForeignKeyDef) (i : ℕ) → list_all is_foreign_key_named keys ≡ true → list_all is_name (parents_at keys i) ≡ true
key_named [] i e = refl
key_named (key ∷ keys) zero e = (and_parts _ _ (and_parts (is_foreign_key_named key) (list_all is_foreign_key_named keys) e).0).1
key_named (key ∷ keys) (suc i) e = key_named keys i (and_parts (is_foreign_key_named key) (list_all is_foreign_key_named keys) e).1

pub parents_named : (placed : Placed) (i : ℕ) → is_placed_named placed ≡ true → list_all is_name (parents_at (foreign_keys_of placed) i) ≡ true
unfolding has_names
parents_named (Table space parts) i e = key_named parts.foreign_keys i (and_parts _ _ e).1
parents_named (View parts) i e = refl

pub all_true : {X : Type 0} (test : X → Bool) (xs : List X) (i : ℕ) (x : X) → list_all test xs ≡ true → slice_get xs i ≡ Some x → test x ≡ true
all_true test [] i x all e = absurd cc
all_true test (y ∷ ys) zero x all e = let same : y ≡ x = cc in ap test (sym same) ∙ (and_parts (test y) (list_all test ys) all).0
all_true test (y ∷ ys) (suc i) x all e = all_true test ys i x (and_parts (test y) (list_all test ys) all).1 e

key_columns_there : (columns : List ColumnDef) (names : List (List ℕ)) → are_key_columns columns names ≡ true → list_all (is_column columns) names ≡ true
unfolding are_key_columns
key_columns_there columns names e = (and_parts _ _ e).1

pub index_column_there : (placed : Placed) → is_placed_formed placed ≡ true → (i j : ℕ) (name : List ℕ) → slice_get (index_columns_at (indexes_in placed) i) j ≡ Some name → is_column (columns_in placed) name ≡ true
unfolding is_well_formed are_indexes_formed is_index_formed
index_column_there (Table space parts) formed i j name e =
    let index = index_of parts.indexes i j name e in
    let each : list_all (is_index_formed parts.columns) parts.indexes ≡ true = (and_parts _ _ (and_parts _ _ (and_parts _ _ (and_parts _ _ (and_parts _ _ (and_parts _ _ formed).0).0).1).0).0).1 in
    let one = all_true (is_index_formed parts.columns) parts.indexes i index.0 each index.1 in
    all_true (is_column parts.columns) index.0.columns j name (key_columns_there parts.columns index.0.columns (and_parts _ _ (and_parts _ _ one).0).0) index.2
index_column_there (View parts) formed i j name e = absurd cc

key_is_formed : (parts : TableParts) → is_well_formed parts ≡ true → list_all (is_foreign_key_formed parts.columns parts.indexes) parts.foreign_keys ≡ true
unfolding is_well_formed are_foreign_keys_formed
key_is_formed parts formed = (and_parts _ _ (and_parts _ _ (and_parts _ _ (and_parts _ _ formed).1).0).0).1

pub key_column_there : (placed : Placed) → is_placed_formed placed ≡ true → (i j : ℕ) (name : List ℕ) → slice_get (key_columns_at (foreign_keys_of placed) i) j ≡ Some name → is_column (columns_in placed) name ≡ true
unfolding is_foreign_key_formed
key_column_there (Table space parts) formed i j name e =
    let key = key_with parts.foreign_keys i j name e in
    let one = all_true (is_foreign_key_formed parts.columns parts.indexes) parts.foreign_keys i key.0 (key_is_formed parts formed) key.1 in
    all_true (is_column parts.columns) key.0.columns j name (key_columns_there parts.columns key.0.columns (and_parts _ _ (and_parts _ _ one).0).0) key.2
key_column_there (View parts) formed i j name e = absurd cc

pub key_paired : (placed : Placed) → is_placed_formed placed ≡ true → (i : ℕ) (key : ForeignKeyDef) → slice_get (foreign_keys_of placed) i ≡ Some key → length key.columns ≡ length key.parent_columns
unfolding is_foreign_key_formed
key_paired (Table space parts) formed i key e =
    let one = all_true (is_foreign_key_formed parts.columns parts.indexes) parts.foreign_keys i key (key_is_formed parts formed) e in
    eqb-true (length key.columns) (length key.parent_columns) (and_parts _ _ (and_parts _ _ one).0).1
key_paired (View parts) formed i key e = absurd cc
