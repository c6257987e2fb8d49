-- Of two objects with rows of the same bytes each place has the same value.
use Rattle.std.proofs.Common.{◌≡◌, ℕ, true, cond, List, [], ◌∷◌, map, Some, sym, ap, subst, ◌∙◌}
use Rattle.std.specs.Prelude.{slice_get, ◌==◌}
use Rattle.std.specs.List.{AllByRecursion}
use Rattle.dd_catalog.specs.Catalog.{Placed, foreign_keys_of}
use Rattle.dd_catalog.specs.Valid.{is_placed_named, is_placed_formed}
use Rattle.row_fields.specs.declared.fields.Field.{Field}
use Rattle.row_fields.specs.declared.fields.Kind.{Kind}
use Rattle.row_fields.specs.declared.fields.Kind.TheVariants as kinds
use Rattle.row_fields.specs.Fields.{Fits, kind_of}
use Rattle.row_fields.proofs.Again.{same_all}
use Rattle.catalog_rows.specs.Parts.{column_fields, index_fields, index_column_fields, key_fields, key_column_fields}
use Rattle.catalog_rows.specs.Owners.{Inside, Column, Index, IndexColumn, ForeignKey, KeyColumn, Query, tag_of, columns_in, indexes_in, index_columns_at, key_columns_at, parents_at, value_at}
use Rattle.catalog_rows.specs.Stands.{FitsColumn, FitsIndex, FitsKey, FitsPlaced}
use Rattle.catalog_rows.proofs.Fitting.{column_fits, index_fits, key_fits, place_fits}
use Rattle.catalog_rows_laws.proofs.Lists.{some_of}
use Rattle.catalog_rows_laws.proofs.Keys.{all_get}
use Rattle.catalog_rows_laws.proofs.Twins.{Valued}
use Rattle.catalog_rows_laws.proofs.Formed.{short_names, parents_named}

-- the kinds of a value's fields, by the tag of its place
value_kinds : ℕ → List Kind
value_kinds tag =
    cond (tag == 3) (kinds.Text ∷ kinds.Byte ∷ kinds.Short ∷ kinds.Byte ∷ kinds.Byte ∷ kinds.Maybe ∷ []) (cond (tag == 4) (kinds.Text ∷ kinds.Byte ∷ [])
    (cond (tag == 5) (kinds.Short ∷ []) (cond (tag == 6) (kinds.Text ∷ kinds.Text ∷ kinds.Text ∷ kinds.Byte ∷ kinds.Byte ∷ []) (kinds.Short ∷ kinds.Text ∷ []))))

abbrev pub IsQuery : Inside → Type 0
IsQuery (Column i) = ⊥
IsQuery (Index i) = ⊥
IsQuery (IndexColumn i j) = ⊥
IsQuery (ForeignKey i) = ⊥
IsQuery (KeyColumn i j) = ⊥
IsQuery Query = Unit {0}

value_kinds_are : (placed : Placed) (u : Inside) (x : List Field) → (IsQuery u → ⊥) → value_at placed u ≡ Some x → map kind_of x ≡ value_kinds (tag_of u)
unfolding value_at value_kinds
value_kinds_are placed (Column i) x out e = let c = some_of column_fields (slice_get (columns_in placed) i) x e in ap (map kind_of) (sym c.2)
value_kinds_are placed (Index i) x out e = let c = some_of index_fields (slice_get (indexes_in placed) i) x e in ap (map kind_of) (sym c.2)
value_kinds_are placed (IndexColumn i j) x out e = let c = some_of (index_column_fields (columns_in placed)) (slice_get (index_columns_at (indexes_in placed) i) j) x e in ap (map kind_of) (sym c.2)
value_kinds_are placed (ForeignKey i) x out e = let c = some_of key_fields (slice_get (foreign_keys_of placed) i) x e in ap (map kind_of) (sym c.2)
value_kinds_are placed (KeyColumn i j) x out e =
    let c = some_of (key_column_fields (columns_in placed) (parents_at (foreign_keys_of placed) i) j) (slice_get (key_columns_at (foreign_keys_of placed) i) j) x e in ap (map kind_of) (sym c.2)
value_kinds_are placed Query x out e = absurd (out tt)

value_fits : (placed : Placed) (u : Inside) (x : List Field) → (IsQuery u → ⊥) → FitsPlaced placed → is_placed_named placed ≡ true → value_at placed u ≡ Some x → AllByRecursion Fits x
unfolding value_at
value_fits placed (Column i) x out fits named e =
    let c = some_of column_fields (slice_get (columns_in placed) i) x e in
    subst (AllByRecursion Fits) c.2 (column_fits c.0 (all_get FitsColumn (columns_in placed) i c.0 fits.columns c.1))
value_fits placed (Index i) x out fits named e =
    let c = some_of index_fields (slice_get (indexes_in placed) i) x e in
    subst (AllByRecursion Fits) c.2 (index_fits c.0 (all_get FitsIndex (indexes_in placed) i c.0 fits.indexes c.1).name)
value_fits placed (IndexColumn i j) x out fits named e =
    let c = some_of (index_column_fields (columns_in placed)) (slice_get (index_columns_at (indexes_in placed) i) j) x e in
    subst (AllByRecursion Fits) c.2 (place_fits (columns_in placed) c.0 fits.few_columns, tt)
value_fits placed (ForeignKey i) x out fits named e =
    let c = some_of key_fields (slice_get (foreign_keys_of placed) i) x e in
    let own : FitsKey c.0 = all_get FitsKey (foreign_keys_of placed) i c.0 fits.keys c.1 in
    subst (AllByRecursion Fits) c.2 (key_fits c.0 own.name own.schema own.parent)
value_fits placed (KeyColumn i j) x out fits named e =
    let c = some_of (key_column_fields (columns_in placed) (parents_at (foreign_keys_of placed) i) j) (slice_get (key_columns_at (foreign_keys_of placed) i) j) x e in
    subst (AllByRecursion Fits) c.2 (place_fits (columns_in placed) c.0 fits.few_columns, (short_names (parents_at (foreign_keys_of placed) i) j (parents_named placed i named), tt))
value_fits placed Query x out fits named e = absurd (out tt)

-- ## Two objects

-- what a catalog says of an object in it
pub record IsSound (placed : Placed) : Type 0 where
  pub fits : FitsPlaced placed
  pub named : is_placed_named placed ≡ true
  pub formed : is_placed_formed placed ≡ true

-- each has values of the same bytes as the other
pub record Alike (placed with : Placed) : Type 0 where
  pub left : IsSound placed
  pub right : IsSound with
  pub there : (u : Inside) (x : List Field) → value_at placed u ≡ Some x → Valued with u x
  pub back : (u : Inside) (x : List Field) → value_at with u ≡ Some x → Valued placed u x

pub turned : (placed with : Placed) → Alike placed with → Alike with placed
turned placed with a = record { left = a.right; right = a.left; there = a.back; back = a.there }

pub same_value : (placed with : Placed) → Alike placed with → (u : Inside) (x : List Field) → (IsQuery u → ⊥) → value_at placed u ≡ Some x → value_at with u ≡ Some x
same_value placed with a u x out e =
    let v = a.there u x e in
    let same : x ≡ v.value =
    same_all x v.value (value_kinds_are placed u x out e ∙ sym (value_kinds_are with u v.value out v.there))
    (value_fits placed u x out (a.left).fits (a.left).named e) (value_fits with u v.value out (a.right).fits (a.right).named v.there) v.bytes in
    v.there ∙ ap Some (sym same)
