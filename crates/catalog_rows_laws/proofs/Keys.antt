-- A key determines whose row it is, and at which place.
use Rattle.std.proofs.Common.{◌≡◌, ℕ, zero, suc, ◌<◌, ◌^◌, Bool, true, false, not, List, [], ◌∷◌, map, length, Option, Some, refl, sym, ap, subst, ◌∙◌, arith}
use Rattle.std.specs.Prelude.{slice_get, ◌||◌, ◌==◌, if◌then◌else◌}
use Rattle.std.specs.List.{list_any, AllByRecursion}
use Rattle.std.proofs.lemmas.Option.{slice_get_within}
use Rattle.std.proofs.lemmas.Bool.{and_parts}
use Rattle.dd_names.specs.Names.{fold}
use Rattle.dd_names.specs.declared.object_name.ObjName.{ObjName}
use Rattle.dd_names.proofs.Folding.{fold-IsName}
use Rattle.dd_definitions.specs.Distinct.{are_distinct}
use Rattle.dd_definitions.specs.WellFormed.{is_well_formed}
use Rattle.dd_definitions.specs.ForeignKeys.{is_same_constraint, are_foreign_keys_formed}
use Rattle.dd_catalog.specs.Catalog.{Placed, Table, View, foreign_keys_of}
use Rattle.dd_catalog.specs.Valid.{is_placed_formed}
use Rattle.row_fields.specs.declared.fields.Field.{Field}
use Rattle.row_fields.specs.declared.fields.Kind.{Kind}
use Rattle.row_fields.specs.declared.fields.Kind.TheVariants as kinds
use Rattle.row_fields.specs.Fields.{Fits, kind_of, fields_bytes}
use Rattle.row_fields.proofs.Again.{same_all}
use Rattle.catalog_rows.specs.Owners.{Owner, SchemaIs, ObjectIs, key_bytes, Row, schema_row, object_row, Inside, Column, Index, IndexColumn, ForeignKey, KeyColumn, Query, tag_of, numbers_of, inside_row, columns_in, indexes_in, index_columns_at, key_columns_at, value_at, child_row, constraint_row, Place, Named, Under, Child, Constraint, row_at}
use Rattle.catalog_rows.specs.Parts.{column_fields, index_fields, index_column_fields, key_fields, key_column_fields}
use Rattle.catalog_rows.specs.Owners.{parents_at}
use Rattle.catalog_rows.specs.Stands.{FitsIndex, FitsKey, FitsPlaced, FitsOwner}
use Rattle.catalog_rows.proofs.Fitting.{ended_fits}
use Rattle.catalog_rows_laws.proofs.Lists.{some_of, index_of, key_with}

pub some_is : {X : Type 0} (x y : X) → ◌≡◌ {A = Option X} (Some x) (Some y) → x ≡ y
some_is x y e = cc

pub all_get : {X : Type 0} (P : X → Type 0) (xs : List X) (i : ℕ) (x : X) → AllByRecursion P xs → slice_get xs i ≡ Some x → P x
all_get P [] i x all e = absurd cc
all_get P (y ∷ ys) zero x all e = let same : y ≡ x = cc in subst P same all.0
all_get P (y ∷ ys) (suc i) x all e = all_get P ys i x all.1 e

below_limit : {X : Type 0} (xs : List X) (i : ℕ) (x : X) → length xs < 2 ^ 16 → slice_get xs i ≡ Some x → i < 2 ^ 16
below_limit xs i x few e = let within = slice_get_within xs i x e in omega arith

-- ## The fields of a key have room, and their kinds are those of its tag

numbers_fit : (placed : Placed) (u : Inside) (value : List Field) → FitsPlaced placed → value_at placed u ≡ Some value → AllByRecursion Fits (numbers_of u)
unfolding value_at
numbers_fit placed (Column i) value fits e =
    let x = some_of column_fields (slice_get (columns_in placed) i) value e in
    (below_limit (columns_in placed) i x.0 fits.few_columns x.1, tt)
numbers_fit placed (Index i) value fits e =
    let x = some_of index_fields (slice_get (indexes_in placed) i) value e in
    (below_limit (indexes_in placed) i x.0 fits.few_indexes x.1, tt)
numbers_fit placed (IndexColumn i j) value fits e =
    let x = some_of (index_column_fields (columns_in placed)) (slice_get (index_columns_at (indexes_in placed) i) j) value e in
    let index = index_of (indexes_in placed) i j x.0 x.1 in
    let own : FitsIndex index.0 = all_get FitsIndex (indexes_in placed) i index.0 fits.indexes index.1 in
    (below_limit (indexes_in placed) i index.0 fits.few_indexes index.1, (below_limit index.0.columns j x.0 own.few index.2, tt))
numbers_fit placed (ForeignKey i) value fits e =
    let x = some_of key_fields (slice_get (foreign_keys_of placed) i) value e in
    (below_limit (foreign_keys_of placed) i x.0 fits.few_keys x.1, tt)
numbers_fit placed (KeyColumn i j) value fits e =
    let x = some_of (key_column_fields (columns_in placed) (parents_at (foreign_keys_of placed) i) j) (slice_get (key_columns_at (foreign_keys_of placed) i) j) value e in
    let key = key_with (foreign_keys_of placed) i j x.0 x.1 in
    let own : FitsKey key.0 = all_get FitsKey (foreign_keys_of placed) i key.0 fits.keys key.1 in
    (below_limit (foreign_keys_of placed) i key.0 fits.few_keys key.1, (below_limit key.0.columns j x.0 own.few key.2, tt))
numbers_fit placed Query value fits e = tt

key_fits : (owner : Owner) → FitsOwner owner → (place : Place) (at : Row) → row_at owner place ≡ Some at → AllByRecursion Fits at.key.fields
unfolding row_at
key_fits (SchemaIs name id) fits Named at e =
    subst (λ (r : Row). AllByRecursion Fits r.key.fields) (some_is (schema_row name id) at e) (ended_fits name fits.0, tt)
key_fits (SchemaIs name id) fits (Under u) at e = absurd cc
key_fits (SchemaIs name id) fits (Child i) at e = absurd cc
key_fits (SchemaIs name id) fits (Constraint i) at e = absurd cc
key_fits (ObjectIs name schema id placed) fits Named at e =
    subst (λ (r : Row). AllByRecursion Fits r.key.fields) (some_is (object_row name schema id placed) at e) (fits.schema_fits, (ended_fits name.name fits.named, tt))
key_fits (ObjectIs name schema id placed) fits (Under u) at e =
    let x = some_of (inside_row id u) (value_at placed u) at e in
    subst (λ (r : Row). AllByRecursion Fits r.key.fields) x.2 (fits.id_fits, numbers_fit placed u x.0 fits.parts x.1)
key_fits (ObjectIs name schema id placed) fits (Child i) at e =
    let x = some_of (child_row id name i) (slice_get (foreign_keys_of placed) i) at e in
    let own : FitsKey x.0 = all_get FitsKey (foreign_keys_of placed) i x.0 (fits.parts).keys x.1 in
    subst (λ (r : Row). AllByRecursion Fits r.key.fields) x.2
    (ended_fits x.0.parent.schema own.schema, (ended_fits x.0.parent.name own.parent, (fits.id_fits, (below_limit (foreign_keys_of placed) i x.0 (fits.parts).few_keys x.1, tt))))
key_fits (ObjectIs name schema id placed) fits (Constraint i) at e =
    let x = some_of (constraint_row schema id i) (slice_get (foreign_keys_of placed) i) at e in
    let own : FitsKey x.0 = all_get FitsKey (foreign_keys_of placed) i x.0 (fits.parts).keys x.1 in
    subst (λ (r : Row). AllByRecursion Fits r.key.fields) x.2 (fits.schema_fits, (ended_fits (fold x.0.name) (fold-IsName x.0.name own.name), tt))

-- the kinds of a key's fields, by its tag
key_kinds : ℕ → List Kind
key_kinds tag =
    if tag == 1 then kinds.Ended ∷ [] else if tag == 2 then kinds.Long ∷ kinds.Ended ∷ [] else if tag == 5 then kinds.Long ∷ kinds.Short ∷ kinds.Short ∷ []
    else if tag == 7 then kinds.Long ∷ kinds.Short ∷ kinds.Short ∷ [] else if tag == 8 then kinds.Long ∷ [] else if tag == 11 then kinds.Ended ∷ kinds.Ended ∷ kinds.Long ∷ kinds.Short ∷ []
    else if tag == 12 then kinds.Long ∷ kinds.Ended ∷ [] else kinds.Long ∷ kinds.Short ∷ []

inside_kinds : (id : ℕ) (u : Inside) (value : List Field) → map kind_of (inside_row id u value).key.fields ≡ key_kinds (tag_of u)
unfolding key_kinds
inside_kinds id (Column i) value = refl
inside_kinds id (Index i) value = refl
inside_kinds id (IndexColumn i j) value = refl
inside_kinds id (ForeignKey i) value = refl
inside_kinds id (KeyColumn i j) value = refl
inside_kinds id Query value = refl

kinds_are : (owner : Owner) (place : Place) (at : Row) → row_at owner place ≡ Some at → map kind_of at.key.fields ≡ key_kinds at.key.tag
unfolding row_at key_kinds
kinds_are (SchemaIs name id) Named at e = subst (λ (r : Row). map kind_of r.key.fields ≡ key_kinds r.key.tag) (some_is (schema_row name id) at e) refl
kinds_are (SchemaIs name id) (Under u) at e = absurd cc
kinds_are (SchemaIs name id) (Child i) at e = absurd cc
kinds_are (SchemaIs name id) (Constraint i) at e = absurd cc
kinds_are (ObjectIs name schema id placed) Named at e = subst (λ (r : Row). map kind_of r.key.fields ≡ key_kinds r.key.tag) (some_is (object_row name schema id placed) at e) refl
kinds_are (ObjectIs name schema id placed) (Under u) at e =
    let x = some_of (inside_row id u) (value_at placed u) at e in
    subst (λ (r : Row). map kind_of r.key.fields ≡ key_kinds r.key.tag) x.2 (inside_kinds id u x.0)
kinds_are (ObjectIs name schema id placed) (Child i) at e =
    let x = some_of (child_row id name i) (slice_get (foreign_keys_of placed) i) at e in
    subst (λ (r : Row). map kind_of r.key.fields ≡ key_kinds r.key.tag) x.2 refl
kinds_are (ObjectIs name schema id placed) (Constraint i) at e =
    let x = some_of (constraint_row schema id i) (slice_get (foreign_keys_of placed) i) at e in
    subst (λ (r : Row). map kind_of r.key.fields ≡ key_kinds r.key.tag) x.2 refl

abbrev pub head_of : List ℕ → ℕ
head_of [] = 0
head_of (tag ∷ rest) = tag

behind : (a b : ℕ) (xs ys : List ℕ) → a ∷ xs ≡ b ∷ ys → xs ≡ ys
behind a b xs ys e = cc

-- keys with the same bytes are the same
pub same_key : (a b : Owner) (p q : Place) (at other : Row) → FitsOwner a → FitsOwner b → row_at a p ≡ Some at → row_at b q ≡ Some other → key_bytes at.key ≡ key_bytes other.key → at.key ≡ other.key
same_key a b p q at other fit fit_too e f same =
    let tags : at.key.tag ≡ other.key.tag = ap head_of same in
    let alike : map kind_of at.key.fields ≡ map kind_of other.key.fields = kinds_are a p at e ∙ ap key_kinds tags ∙ sym (kinds_are b q other f) in
    let fields : at.key.fields ≡ other.key.fields =
    same_all at.key.fields other.key.fields alike (key_fits a fit p at e) (key_fits b fit_too q other f) (behind at.key.tag other.key.tag (fields_bytes at.key.fields) (fields_bytes other.key.fields) same) in
    λ i. record { tag = tags i; fields = fields i }

-- ## Tags of places

abbrev pub tag_at : Place → ℕ
tag_at Named = 2
tag_at (Under u) = tag_of u
tag_at (Child i) = 11
tag_at (Constraint i) = 12

pub tag_low : (u : Inside) → 2 < tag_of u
tag_low (Column i) = omega arith
tag_low (Index i) = omega arith
tag_low (IndexColumn i j) = omega arith
tag_low (ForeignKey i) = omega arith
tag_low (KeyColumn i j) = omega arith
tag_low Query = omega arith

pub tag_high : (u : Inside) → tag_of u < 9
tag_high (Column i) = omega arith
tag_high (Index i) = omega arith
tag_high (IndexColumn i j) = omega arith
tag_high (ForeignKey i) = omega arith
tag_high (KeyColumn i j) = omega arith
tag_high Query = omega arith

pub object_tag : (name : ObjName) (schema id : ℕ) (placed : Placed) (place : Place) (at : Row) → row_at (ObjectIs name schema id placed) place ≡ Some at → at.key.tag ≡ tag_at place
unfolding row_at
object_tag name schema id placed Named at e = sym (ap (λ (r : Row). r.key.tag) (some_is (object_row name schema id placed) at e))
object_tag name schema id placed (Under u) at e = let x = some_of (inside_row id u) (value_at placed u) at e in sym (ap (λ (r : Row). r.key.tag) x.2)
object_tag name schema id placed (Child i) at e = let x = some_of (child_row id name i) (slice_get (foreign_keys_of placed) i) at e in sym (ap (λ (r : Row). r.key.tag) x.2)
object_tag name schema id placed (Constraint i) at e = let x = some_of (constraint_row schema id i) (slice_get (foreign_keys_of placed) i) at e in sym (ap (λ (r : Row). r.key.tag) x.2)

pub no_schema_tag : (place : Place) → 1 ≡ tag_at place → ⊥
no_schema_tag Named e = omega arith
no_schema_tag (Under u) e = let low = tag_low u in omega arith
no_schema_tag (Child i) e = omega arith
no_schema_tag (Constraint i) e = omega arith

-- a schema has one row alone
pub schema_only : (name : List ℕ) (id : ℕ) (place : Place) (at : Row) → row_at (SchemaIs name id) place ≡ Some at → (place ≡ Named) × (schema_row name id ≡ at)
unfolding row_at
schema_only name id Named at e = (refl, cc)
schema_only name id (Under u) at e = absurd cc
schema_only name id (Child i) at e = absurd cc
schema_only name id (Constraint i) at e = absurd cc

pub inside_alone : (u v : Inside) → tag_of u ≡ tag_of v → numbers_of u ≡ numbers_of v → u ≡ v
inside_alone (Column i) (Column j) t e = let same : i ≡ j = cc in ap Column same
inside_alone (Index i) (Index j) t e = let same : i ≡ j = cc in ap Index same
inside_alone (IndexColumn i j) (IndexColumn k l) t e = let first : i ≡ k = cc in let second : j ≡ l = cc in λ z. IndexColumn (first z) (second z)
inside_alone (ForeignKey i) (ForeignKey j) t e = let same : i ≡ j = cc in ap ForeignKey same
inside_alone (KeyColumn i j) (KeyColumn k l) t e = let first : i ≡ k = cc in let second : j ≡ l = cc in λ z. KeyColumn (first z) (second z)
inside_alone Query Query t e = refl
inside_alone u v t e = absurd (omega (arith, t))

-- ## Distinct constraints

pub keys_distinct : (placed : Placed) → is_placed_formed placed ≡ true → are_distinct is_same_constraint (foreign_keys_of placed) ≡ true
unfolding is_well_formed are_foreign_keys_formed
keys_distinct (Table space parts) e = (and_parts _ _ (and_parts _ _ (and_parts _ _ e).1).0).1
keys_distinct (View parts) e = refl

pub any_at : {X : Type 0} (test : X → Bool) (xs : List X) (i : ℕ) (x : X) → slice_get xs i ≡ Some x → test x ≡ true → list_any test xs ≡ true
any_at test [] i x e h = absurd cc
any_at test (y ∷ ys) zero x e h = let here : test y ≡ true = cc in rw here refl
any_at test (y ∷ ys) (suc i) x e h = by (test y) (any_at test ys i x e h)
  where
    by : (b : Bool) → list_any test ys ≡ true → (b || list_any test ys) ≡ true
    by true h = refl
    by false h = h

-- two places of a list without two that are alike
pub one_place : {X : Type 0} (like : X → X → Bool) → ((a b : X) → like a b ≡ like b a) → (xs : List X) → are_distinct like xs ≡ true → (i j : ℕ) (x y : X) → slice_get xs i ≡ Some x → slice_get xs j ≡ Some y → like x y ≡ true → i ≡ j
one_place like sides [] d i j x y e f h = absurd cc
one_place like sides (z ∷ zs) d zero zero x y e f h = refl
one_place like sides (z ∷ zs) d zero (suc j) x y e f h =
    let apart = and_parts (not (list_any (like z) zs)) (are_distinct like zs) d in
    let same : z ≡ x = cc in
    let here : like z y ≡ true = ap (λ w. like w y) same ∙ h in
    let some : list_any (like z) zs ≡ true = any_at (like z) zs j y f here in
    absurd (let no : not (list_any (like z) zs) ≡ true = apart.0 in cc)
one_place like sides (z ∷ zs) d (suc i) zero x y e f h =
    let apart = and_parts (not (list_any (like z) zs)) (are_distinct like zs) d in
    let same : z ≡ y = cc in
    let here : like z x ≡ true = ap (λ w. like w x) same ∙ sides y x ∙ h in
    let some : list_any (like z) zs ≡ true = any_at (like z) zs i x e here in
    absurd (let no : not (list_any (like z) zs) ≡ true = apart.0 in cc)
one_place like sides (z ∷ zs) d (suc i) (suc j) x y e f h = ap suc (one_place like sides zs (and_parts (not (list_any (like z) zs)) (are_distinct like zs) d).1 i j x y e f h)
