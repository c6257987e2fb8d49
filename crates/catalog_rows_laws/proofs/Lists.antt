-- The rows of an owner in a list are those at its places.
use Rattle.std.proofs.Common.{◌≡◌, ◌⊎◌, inl, inr, ℕ, zero, suc, ◌+◌, Bool, true, false, cond, List, [], ◌∷◌, ◌++◌, Option, Some, None, refl, sym, ap, subst, ◌∙◌, arith}
use Rattle.std.specs.Prelude.{slice_get, ◌||◌}
use Rattle.std.specs.Option.{option_map}
use Rattle.dd_names.specs.declared.object_name.ObjName.{ObjName}
use Rattle.dd_definitions.specs.declared.indexes.IndexDef.{IndexDef}
use Rattle.dd_definitions.specs.declared.foreign_keys.ForeignKeyDef.{ForeignKeyDef}
use Rattle.dd_catalog.specs.Catalog.{Placed, Table, View, foreign_keys_of}
use Rattle.row_batch.specs.Rows.{is_key}
use Rattle.row_batch.proofs.Meanings.{is_key_same, is_key_itself}
use Rattle.row_fields.specs.declared.fields.Field.{Field}
use Rattle.row_fields.specs.Fields.{fields_bytes}
use Rattle.catalog_rows.specs.Parts.{column_fields, index_fields, index_column_fields, key_fields, key_column_fields, view_fields}
use Rattle.catalog_rows.specs.Owners.{Owner, SchemaIs, ObjectIs, Row, key_bytes, named_row, Inside, Column, Index, IndexColumn, ForeignKey, KeyColumn, Query, inside_row, columns_in, indexes_in, index_columns_at, key_columns_at, parents_at, query_fields, value_at, child_row, constraint_row, Place, Named, Under, Child, Constraint, row_at}
use Rattle.catalog_rows.specs.Lists.{numbered, column_rows, index_column_rows, index_rows, key_column_rows, key_rows, link_rows, query_rows, inside_rows, links_of, rows_of}
use Rattle.catalog_rows.specs.Changes.{with_put, put_behind, is_among}

abbrev pub Among : Row → List Row → Type 0
Among row [] = ⊥
Among row (r ∷ rs) = (r ≡ row) ⊎ Among row rs

pub among_first : (row : Row) (xs ys : List Row) → Among row xs → Among row (xs ++ ys)
among_first row [] ys h = absurd h
among_first row (x ∷ xs) ys (inl e) = inl e
among_first row (x ∷ xs) ys (inr h) = inr (among_first row xs ys h)

pub among_second : (row : Row) (xs ys : List Row) → Among row ys → Among row (xs ++ ys)
among_second row [] ys h = h
among_second row (x ∷ xs) ys h = inr (among_second row xs ys h)

pub among_either : (row : Row) (xs ys : List Row) → Among row (xs ++ ys) → Among row xs ⊎ Among row ys
among_either row [] ys h = inr h
among_either row (x ∷ xs) ys (inl e) = inl (inl e)
among_either row (x ∷ xs) ys (inr h) = by (among_either row xs ys h)
  where
    by : Among row xs ⊎ Among row ys → Among row (x ∷ xs) ⊎ Among row ys
    by (inl h) = inl (inr h)
    by (inr h) = inr h

-- ## Numbered items

-- the row is made of the item at a place
pub record MadeOf {X : Type 0} (make : ℕ → X → List Row) (xs : List X) (row : Row) : Type 0 where
  pub place : ℕ
  pub item : X
  pub there : slice_get xs place ≡ Some item
  pub among : Among row (make place item)

record MadeFrom {X : Type 0} (make : ℕ → X → List Row) (i : ℕ) (xs : List X) (row : Row) : Type 0 where
  pub place : ℕ
  pub item : X
  pub there : slice_get xs place ≡ Some item
  pub among : Among row (make (i + place) item)

made_from : {X : Type 0} (make : ℕ → X → List Row) (i : ℕ) (xs : List X) (row : Row) → Among row (numbered make i xs) → MadeFrom make i xs row
made_from make i [] row h = absurd h
made_from {X = X} make i (x ∷ xs) row h = by (among_either row (make i x) (numbered make (suc i) xs) h) (made_from make (suc i) xs row)
  where
    by : Among row (make i x) ⊎ Among row (numbered make (suc i) xs) → (Among row (numbered make (suc i) xs) → MadeFrom make (suc i) xs row) → MadeFrom make i (x ∷ xs) row
    by (inl here) rest = record { place = 0; item = x; there = refl; among = let e : i + 0 ≡ i = omega arith in subst (λ (k : ℕ). Among row (make k x)) (sym e) here }
    by (inr behind) rest =
        let r = rest behind in
        let e : suc i + r.place ≡ i + suc r.place = omega arith in
        record { place = suc r.place; item = r.item; there = r.there; among = subst (λ (k : ℕ). Among row (make k r.item)) e r.among }

pub in_numbered : {X : Type 0} (make : ℕ → X → List Row) (xs : List X) (row : Row) → Among row (numbered make 0 xs) → MadeOf make xs row
in_numbered make xs row h =
    let r = made_from make 0 xs row h in
    let e : 0 + r.place ≡ r.place = omega arith in
    record { place = r.place; item = r.item; there = r.there; among = subst (λ (k : ℕ). Among row (make k r.item)) e r.among }

numbered_from : {X : Type 0} (make : ℕ → X → List Row) (i : ℕ) (xs : List X) (row : Row) (place : ℕ) (item : X) → slice_get xs place ≡ Some item → Among row (make (i + place) item) → Among row (numbered make i xs)
numbered_from make i [] row place item there h = absurd cc
numbered_from make i (x ∷ xs) row zero item there h =
    let same : x ≡ item = cc in
    let e : i + 0 ≡ i = omega arith in
    among_first row (make i x) (numbered make (suc i) xs) (subst (λ (y : _). Among row (make i y)) (sym same) (subst (λ (k : ℕ). Among row (make k item)) e h))
numbered_from make i (x ∷ xs) row (suc place) item there h =
    let e : i + suc place ≡ suc i + place = omega arith in
    among_second row (make i x) (numbered make (suc i) xs) (numbered_from make (suc i) xs row place item there (subst (λ (k : ℕ). Among row (make k item)) e h))

pub numbered_has : {X : Type 0} (make : ℕ → X → List Row) (xs : List X) (row : Row) (place : ℕ) (item : X) → slice_get xs place ≡ Some item → Among row (make place item) → Among row (numbered make 0 xs)
numbered_has make xs row place item there h =
    let e : 0 + place ≡ place = omega arith in
    numbered_from make 0 xs row place item there (subst (λ (k : ℕ). Among row (make k item)) (sym e) h)

-- ## Parts at a place

pub some_of : {X Y : Type 0} (f : X → Y) (o : Option X) (y : Y) → option_map f o ≡ Some y → (x : X) × (o ≡ Some x) × (f x ≡ y)
some_of f None y e = absurd cc
some_of f (Some x) y e = (x, refl, cc)

-- the index with the column
pub index_of : (indexes : List IndexDef) (i j : ℕ) (name : List ℕ) → slice_get (index_columns_at indexes i) j ≡ Some name → (index : IndexDef) × (slice_get indexes i ≡ Some index) × (slice_get index.columns j ≡ Some name)
index_of [] i j name e = absurd cc
index_of (index ∷ indexes) zero j name e = (index, refl, e)
index_of (index ∷ indexes) (suc i) j name e = index_of indexes i j name e

pub index_columns_are : (indexes : List IndexDef) (i : ℕ) (index : IndexDef) → slice_get indexes i ≡ Some index → index_columns_at indexes i ≡ index.columns
index_columns_are [] i index e = absurd cc
index_columns_are (x ∷ indexes) zero index e = let same : x ≡ index = cc in ap (λ (y : IndexDef). y.columns) same
index_columns_are (x ∷ indexes) (suc i) index e = index_columns_are indexes i index e

-- the foreign key with the column
pub key_with : (keys : List ForeignKeyDef) (i j : ℕ) (name : List ℕ) → slice_get (key_columns_at keys i) j ≡ Some name → (key : ForeignKeyDef) × (slice_get keys i ≡ Some key) × (slice_get key.columns j ≡ Some name)
key_with [] i j name e = absurd cc
key_with (key ∷ keys) zero j name e = (key, refl, e)
key_with (key ∷ keys) (suc i) j name e = key_with keys i j name e

pub key_columns_are : (keys : List ForeignKeyDef) (i : ℕ) (key : ForeignKeyDef) → slice_get keys i ≡ Some key → key_columns_at keys i ≡ key.columns
key_columns_are [] i key e = absurd cc
key_columns_are (x ∷ keys) zero key e = let same : x ≡ key = cc in ap (λ (y : ForeignKeyDef). y.columns) same
key_columns_are (x ∷ keys) (suc i) key e = key_columns_are keys i key e

pub parents_are : (keys : List ForeignKeyDef) (i : ℕ) (key : ForeignKeyDef) → slice_get keys i ≡ Some key → parents_at keys i ≡ key.parent_columns
parents_are [] i key e = absurd cc
parents_are (x ∷ keys) zero key e = let same : x ≡ key = cc in ap (λ (y : ForeignKeyDef). y.parent_columns) same
parents_are (x ∷ keys) (suc i) key e = parents_are keys i key e

-- ## Rows under an id

in_columns : (id : ℕ) (placed : Placed) (row : Row) → Among row (numbered (column_rows id) 0 (columns_in placed)) → Among row (inside_rows id placed)
unfolding inside_rows
in_columns id placed row h = among_first row (numbered (column_rows id) 0 (columns_in placed)) _ h

in_indexes : (id : ℕ) (placed : Placed) (row : Row) → Among row (numbered (index_rows (columns_in placed) id) 0 (indexes_in placed)) → Among row (inside_rows id placed)
unfolding inside_rows
in_indexes id placed row h = among_second row (numbered (column_rows id) 0 (columns_in placed)) _ (among_first row (numbered (index_rows (columns_in placed) id) 0 (indexes_in placed)) _ h)

in_keys : (id : ℕ) (placed : Placed) (row : Row) → Among row (numbered (key_rows (columns_in placed) id) 0 (foreign_keys_of placed)) → Among row (inside_rows id placed)
unfolding inside_rows
in_keys id placed row h =
    among_second row (numbered (column_rows id) 0 (columns_in placed)) _ (among_second row (numbered (index_rows (columns_in placed) id) 0 (indexes_in placed)) _
    (among_first row (numbered (key_rows (columns_in placed) id) 0 (foreign_keys_of placed)) _ h))

in_query : (id : ℕ) (placed : Placed) (row : Row) → Among row (query_rows id placed) → Among row (inside_rows id placed)
unfolding inside_rows
in_query id placed row h =
    among_second row (numbered (column_rows id) 0 (columns_in placed)) _ (among_second row (numbered (index_rows (columns_in placed) id) 0 (indexes_in placed)) _
    (among_second row (numbered (key_rows (columns_in placed) id) 0 (foreign_keys_of placed)) _ h))

query_listed : (id : ℕ) (placed : Placed) (value : List Field) → query_fields placed ≡ Some value → Among (inside_row id Query value) (query_rows id placed)
query_listed id (Table space parts) value e = absurd cc
query_listed id (View parts) value e = let same : view_fields parts ≡ value = cc in inl (ap (inside_row id Query) same)

-- what stands at a place under the id is in the list
inside_listed : (id : ℕ) (placed : Placed) (at : Inside) (value : List Field) → value_at placed at ≡ Some value → Among (inside_row id at value) (inside_rows id placed)
unfolding value_at
inside_listed id placed (Column i) value e =
    let x = some_of column_fields (slice_get (columns_in placed) i) value e in
    in_columns id placed _ (numbered_has (column_rows id) (columns_in placed) _ i x.0 x.1 (inl (ap (inside_row id (Column i)) x.2)))
inside_listed id placed (Index i) value e =
    let x = some_of index_fields (slice_get (indexes_in placed) i) value e in
    in_indexes id placed _ (numbered_has (index_rows (columns_in placed) id) (indexes_in placed) _ i x.0 x.1 (inl (ap (inside_row id (Index i)) x.2)))
inside_listed id placed (IndexColumn i j) value e =
    let x = some_of (index_column_fields (columns_in placed)) (slice_get (index_columns_at (indexes_in placed) i) j) value e in
    let index = index_of (indexes_in placed) i j x.0 x.1 in
    let column : Among (inside_row id (IndexColumn i j) value) (numbered (index_column_rows (columns_in placed) id i) 0 index.0.columns) =
    numbered_has (index_column_rows (columns_in placed) id i) index.0.columns _ j x.0 index.2 (inl (ap (inside_row id (IndexColumn i j)) x.2)) in
    in_indexes id placed _ (numbered_has (index_rows (columns_in placed) id) (indexes_in placed) _ i index.0 index.1 (inr column))
inside_listed id placed (ForeignKey i) value e =
    let x = some_of key_fields (slice_get (foreign_keys_of placed) i) value e in
    in_keys id placed _ (numbered_has (key_rows (columns_in placed) id) (foreign_keys_of placed) _ i x.0 x.1 (inl (ap (inside_row id (ForeignKey i)) x.2)))
inside_listed id placed (KeyColumn i j) value e =
    let x = some_of (key_column_fields (columns_in placed) (parents_at (foreign_keys_of placed) i) j) (slice_get (key_columns_at (foreign_keys_of placed) i) j) value e in
    let key = key_with (foreign_keys_of placed) i j x.0 x.1 in
    let same : key_column_fields (columns_in placed) key.0.parent_columns j x.0 ≡ value =
    ap (λ (parents : List (List ℕ)). key_column_fields (columns_in placed) parents j x.0) (sym (parents_are (foreign_keys_of placed) i key.0 key.1)) ∙ x.2 in
    let column : Among (inside_row id (KeyColumn i j) value) (numbered (key_column_rows (columns_in placed) id i key.0.parent_columns) 0 key.0.columns) =
    numbered_has (key_column_rows (columns_in placed) id i key.0.parent_columns) key.0.columns _ j x.0 key.2 (inl (ap (inside_row id (KeyColumn i j)) same)) in
    in_keys id placed _ (numbered_has (key_rows (columns_in placed) id) (foreign_keys_of placed) _ i key.0 key.1 (inr column))
inside_listed id placed Query value e = in_query id placed _ (query_listed id placed value e)

-- the row stands at a place under the id
pub record StoodInside (id : ℕ) (placed : Placed) (row : Row) : Type 0 where
  pub at : Inside
  pub value : List Field
  pub there : value_at placed at ≡ Some value
  pub is : inside_row id at value ≡ row

column_stood : (id : ℕ) (placed : Placed) (row : Row) → MadeOf (column_rows id) (columns_in placed) row → StoodInside id placed row
unfolding value_at
column_stood id placed row m = by m.among
  where
    by : Among row (column_rows id m.place m.item) → StoodInside id placed row
    by (inl e) = record { at = Column m.place; value = column_fields m.item; there = ap (option_map column_fields) m.there; is = e }
    by (inr h) = absurd h

index_stood : (id : ℕ) (placed : Placed) (row : Row) → MadeOf (index_rows (columns_in placed) id) (indexes_in placed) row → StoodInside id placed row
unfolding value_at
index_stood id placed row m = by m.among
  where
    column : MadeOf (index_column_rows (columns_in placed) id m.place) m.item.columns row → StoodInside id placed row
    column c = inner c.among
      where
        there : slice_get (index_columns_at (indexes_in placed) m.place) c.place ≡ Some c.item
        there = ap (λ (names : List (List ℕ)). slice_get names c.place) (index_columns_are (indexes_in placed) m.place m.item m.there) ∙ c.there

        inner : Among row (index_column_rows (columns_in placed) id m.place c.place c.item) → StoodInside id placed row
        inner (inl e) = record { at = IndexColumn m.place c.place; value = index_column_fields (columns_in placed) c.item; there = ap (option_map (index_column_fields (columns_in placed))) there; is = e }
        inner (inr h) = absurd h

    by : Among row (index_rows (columns_in placed) id m.place m.item) → StoodInside id placed row
    by (inl e) = record { at = Index m.place; value = index_fields m.item; there = ap (option_map index_fields) m.there; is = e }
    by (inr h) = column (in_numbered (index_column_rows (columns_in placed) id m.place) m.item.columns row h)

key_stood : (id : ℕ) (placed : Placed) (row : Row) → MadeOf (key_rows (columns_in placed) id) (foreign_keys_of placed) row → StoodInside id placed row
unfolding value_at
key_stood id placed row m = by m.among
  where
    column : MadeOf (key_column_rows (columns_in placed) id m.place m.item.parent_columns) m.item.columns row → StoodInside id placed row
    column c = inner c.among
      where
        there : slice_get (key_columns_at (foreign_keys_of placed) m.place) c.place ≡ Some c.item
        there = ap (λ (names : List (List ℕ)). slice_get names c.place) (key_columns_are (foreign_keys_of placed) m.place m.item m.there) ∙ c.there

        inner : Among row (key_column_rows (columns_in placed) id m.place m.item.parent_columns c.place c.item) → StoodInside id placed row
        inner (inl e) = record {
          at = KeyColumn m.place c.place;
          value = key_column_fields (columns_in placed) m.item.parent_columns c.place c.item;
          there = ap (option_map (key_column_fields (columns_in placed) (parents_at (foreign_keys_of placed) m.place) c.place)) there
              ∙ ap (λ (parents : List (List ℕ)). Some (key_column_fields (columns_in placed) parents c.place c.item)) (parents_are (foreign_keys_of placed) m.place m.item m.there);
          is = e;
        }
        inner (inr h) = absurd h

    by : Among row (key_rows (columns_in placed) id m.place m.item) → StoodInside id placed row
    by (inl e) = record { at = ForeignKey m.place; value = key_fields m.item; there = ap (option_map key_fields) m.there; is = e }
    by (inr h) = column (in_numbered (key_column_rows (columns_in placed) id m.place m.item.parent_columns) m.item.columns row h)

query_stood : (id : ℕ) (placed : Placed) (row : Row) → Among row (query_rows id placed) → StoodInside id placed row
unfolding value_at
query_stood id (Table space parts) row h = absurd h
query_stood id (View parts) row (inl e) = record { at = Query; value = view_fields parts; there = refl; is = e }
query_stood id (View parts) row (inr h) = absurd h

inside_stood : (id : ℕ) (placed : Placed) (row : Row) → Among row (inside_rows id placed) → StoodInside id placed row
unfolding inside_rows
inside_stood id placed row h = first (among_either row (numbered (column_rows id) 0 (columns_in placed)) _ h)
  where
    third : Among row (numbered (key_rows (columns_in placed) id) 0 (foreign_keys_of placed)) ⊎ Among row (query_rows id placed) → StoodInside id placed row
    third (inl h) = key_stood id placed row (in_numbered (key_rows (columns_in placed) id) (foreign_keys_of placed) row h)
    third (inr h) = query_stood id placed row h

    second : Among row (numbered (index_rows (columns_in placed) id) 0 (indexes_in placed)) ⊎ Among row (numbered (key_rows (columns_in placed) id) 0 (foreign_keys_of placed) ++ query_rows id placed) → StoodInside id placed row
    second (inl h) = index_stood id placed row (in_numbered (index_rows (columns_in placed) id) (indexes_in placed) row h)
    second (inr h) = third (among_either row (numbered (key_rows (columns_in placed) id) 0 (foreign_keys_of placed)) _ h)

    first : Among row (numbered (column_rows id) 0 (columns_in placed)) ⊎ Among row (numbered (index_rows (columns_in placed) id) 0 (indexes_in placed) ++ (numbered (key_rows (columns_in placed) id) 0 (foreign_keys_of placed) ++ query_rows id placed)) → StoodInside id placed row
    first (inl h) = column_stood id placed row (in_numbered (column_rows id) (columns_in placed) row h)
    first (inr h) = second (among_either row (numbered (index_rows (columns_in placed) id) 0 (indexes_in placed)) _ h)

-- ## All rows of an owner

-- the row stands at a place of the owner
pub record Stood (owner : Owner) (at : Row) : Type 0 where
  pub place : Place
  pub is : row_at owner place ≡ Some at

pub link_stood : (name : ObjName) (schema id : ℕ) (placed : Placed) (at : Row) → Among at (links_of (ObjectIs name schema id placed)) → Stood (ObjectIs name schema id placed) at
unfolding row_at
link_stood name schema id placed at h = by m.among
  where
    m : MadeOf (link_rows name schema id) (foreign_keys_of placed) at
    m = in_numbered (link_rows name schema id) (foreign_keys_of placed) at h

    by : Among at (link_rows name schema id m.place m.item) → Stood (ObjectIs name schema id placed) at
    by (inl e) = record { place = Child m.place; is = ap (option_map (child_row id name m.place)) m.there ∙ ap Some e }
    by (inr (inl e)) = record { place = Constraint m.place; is = ap (option_map (constraint_row schema id m.place)) m.there ∙ ap Some e }
    by (inr (inr h)) = absurd h

under_stood : (name : ObjName) (schema id : ℕ) (placed : Placed) (at : Row) → StoodInside id placed at → Stood (ObjectIs name schema id placed) at
unfolding row_at
under_stood name schema id placed at s = record { place = Under s.at; is = ap (option_map (inside_row id s.at)) s.there ∙ ap Some s.is }

pub named_stood : (owner : Owner) (at : Row) → named_row owner ≡ at → Stood owner at
unfolding row_at
named_stood (SchemaIs name id) at e = record { place = Named; is = ap Some e }
named_stood (ObjectIs name schema id placed) at e = record { place = Named; is = ap Some e }

-- what is in the list stands at a place
pub stood : (owner : Owner) (at : Row) → Among at (rows_of owner) → Stood owner at
stood owner at (inl e) = named_stood owner at e
stood (SchemaIs name id) at (inr h) = absurd h
stood (ObjectIs name schema id placed) at (inr h) = by (among_either at (inside_rows id placed) (links_of (ObjectIs name schema id placed)) h)
  where
    by : Among at (inside_rows id placed) ⊎ Among at (links_of (ObjectIs name schema id placed)) → Stood (ObjectIs name schema id placed) at
    by (inl h) = under_stood name schema id placed at (inside_stood id placed at h)
    by (inr h) = link_stood name schema id placed at h

-- the row at the place of a foreign key's link is among the links
pub child_linked : (name : ObjName) (schema id : ℕ) (placed : Placed) (i : ℕ) (at : Row) → row_at (ObjectIs name schema id placed) (Child i) ≡ Some at → Among at (links_of (ObjectIs name schema id placed))
unfolding row_at
child_linked name schema id placed i at e =
    let x = some_of (child_row id name i) (slice_get (foreign_keys_of placed) i) at e in
    numbered_has (link_rows name schema id) (foreign_keys_of placed) at i x.0 x.1 (inl x.2)

pub constraint_linked : (name : ObjName) (schema id : ℕ) (placed : Placed) (i : ℕ) (at : Row) → row_at (ObjectIs name schema id placed) (Constraint i) ≡ Some at → Among at (links_of (ObjectIs name schema id placed))
unfolding row_at
constraint_linked name schema id placed i at e =
    let x = some_of (constraint_row schema id i) (slice_get (foreign_keys_of placed) i) at e in
    numbered_has (link_rows name schema id) (foreign_keys_of placed) at i x.0 x.1 (inr (inl x.2))

-- what stands at a place is in the list
pub listed : (owner : Owner) (place : Place) (at : Row) → row_at owner place ≡ Some at → Among at (rows_of owner)
unfolding row_at
listed (SchemaIs name id) Named at e = inl cc
listed (SchemaIs name id) (Under u) at e = absurd cc
listed (SchemaIs name id) (Child i) at e = absurd cc
listed (SchemaIs name id) (Constraint i) at e = absurd cc
listed (ObjectIs name schema id placed) Named at e = inl cc
listed (ObjectIs name schema id placed) (Under u) at e =
    let x = some_of (inside_row id u) (value_at placed u) at e in
    inr (among_first at (inside_rows id placed) (links_of (ObjectIs name schema id placed)) (subst (λ (r : Row). Among r (inside_rows id placed)) x.2 (inside_listed id placed u x.0 x.1)))
listed (ObjectIs name schema id placed) (Child i) at e = inr (among_second at (inside_rows id placed) (links_of (ObjectIs name schema id placed)) (child_linked name schema id placed i at e))
listed (ObjectIs name schema id placed) (Constraint i) at e = inr (among_second at (inside_rows id placed) (links_of (ObjectIs name schema id placed)) (constraint_linked name schema id placed i at e))

-- ## Puts of rows

-- one of the rows has this key and this value
pub record PutFrom (rows : List Row) (q value : List ℕ) : Type 0 where
  pub row : Row
  pub among : Among row rows
  pub key : q ≡ key_bytes row.key
  pub is : value ≡ fields_bytes row.value

-- what is put is one of the rows, or was put before
pub put_is : (rows : List Row) (puts : List ℕ → Option (List ℕ)) (q value : List ℕ) → put_behind rows puts q ≡ Some value → PutFrom rows q value ⊎ (puts q ≡ Some value)
put_is [] puts q value e = inr e
put_is (row ∷ rows) puts q value e = by (put_is rows (with_put row puts) q value e)
  where
    at : (b : Bool) → is_key q (key_bytes row.key) ≡ b → cond b (Some (fields_bytes row.value)) (puts q) ≡ Some value → PutFrom (row ∷ rows) q value ⊎ (puts q ≡ Some value)
    at true same e = inl (record { row = row; among = inl refl; key = is_key_same q (key_bytes row.key) same; is = cc })
    at false same e = inr e

    by : PutFrom rows q value ⊎ (with_put row puts q ≡ Some value) → PutFrom (row ∷ rows) q value ⊎ (puts q ≡ Some value)
    by (inl p) = inl (record { row = p.row; among = inr p.among; key = p.key; is = p.is })
    by (inr e) = at (is_key q (key_bytes row.key)) refl e

pub record IsPut (puts : List ℕ → Option (List ℕ)) (q : List ℕ) : Type 0 where
  pub value : List ℕ
  pub is : puts q ≡ Some value

put_stays : (rows : List Row) (puts : List ℕ → Option (List ℕ)) (q : List ℕ) → IsPut puts q → IsPut (put_behind rows puts) q
put_stays [] puts q p = p
put_stays (row ∷ rows) puts q p = put_stays rows (with_put row puts) q (at (is_key q (key_bytes row.key)) refl)
  where
    at : (b : Bool) → is_key q (key_bytes row.key) ≡ b → IsPut (with_put row puts) q
    at true e = record { value = fields_bytes row.value; is = rw e refl }
    at false e = record { value = p.value; is = rw e p.is }

-- each of the rows is put
pub row_put : (rows : List Row) (puts : List ℕ → Option (List ℕ)) (row : Row) (q : List ℕ) → Among row rows → q ≡ key_bytes row.key → IsPut (put_behind rows puts) q
row_put [] puts row q h e = absurd h
row_put (r ∷ rows) puts row q (inl same) e =
    let own : is_key q (key_bytes r.key) ≡ true = ap (λ k. is_key q k) (ap (λ (x : Row). key_bytes x.key) same ∙ sym e) ∙ is_key_itself q in
    put_stays rows (with_put r puts) q (record { value = fields_bytes r.value; is = rw own refl })
row_put (r ∷ rows) puts row q (inr h) e = row_put rows (with_put r puts) row q h e

-- ## Keys of rows

pub among_key : (rows : List Row) (row : Row) (q : List ℕ) → Among row rows → q ≡ key_bytes row.key → is_among q rows ≡ true
among_key [] row q h e = absurd h
among_key (r ∷ rows) row q (inl same) e =
    let own : is_key q (key_bytes r.key) ≡ true = ap (λ k. is_key q k) (ap (λ (x : Row). key_bytes x.key) same ∙ sym e) ∙ is_key_itself q in
    rw own refl
among_key (r ∷ rows) row q (inr h) e = by (is_key q (key_bytes r.key)) (among_key rows row q h e)
  where
    by : (b : Bool) → is_among q rows ≡ true → (b || is_among q rows) ≡ true
    by true h = refl
    by false h = h

pub record KeyFrom (rows : List Row) (q : List ℕ) : Type 0 where
  pub row : Row
  pub among : Among row rows
  pub key : q ≡ key_bytes row.key

pub key_among : (rows : List Row) (q : List ℕ) → is_among q rows ≡ true → KeyFrom rows q
key_among [] q e = absurd cc
key_among (r ∷ rows) q e = at (is_key q (key_bytes r.key)) refl e (key_among rows q)
  where
    at : (b : Bool) → is_key q (key_bytes r.key) ≡ b → (b || is_among q rows) ≡ true → (is_among q rows ≡ true → KeyFrom rows q) → KeyFrom (r ∷ rows) q
    at true same e rest = record { row = r; among = inl refl; key = is_key_same q (key_bytes r.key) same }
    at false same e rest = let k = rest e in record { row = k.row; among = inr k.among; key = k.key }
