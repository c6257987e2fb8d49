-- What one catalog has, another for which the same rows stand has too: names, ids, and the bytes of values.
use Rattle.std.proofs.Common.{◌≡◌, ℕ, ◌<◌, ◌^◌, List, [], ◌∷◌, map, Some, refl, sym, ap, subst, ◌∙◌, arith}
use Rattle.std.specs.List.{AllByRecursion}
use Rattle.std.specs.Option.{option_map}
use Rattle.std.specs.FinMap as finite_map
use Rattle.dd_names.specs.declared.object_name.ObjName.{ObjName}
use Rattle.dd_catalog.specs.Catalog.{Catalog, Placed, Table, View}
use Rattle.row_batch.specs.Rows.{Rows}
use Rattle.row_fields.specs.declared.fields.Field.{Field}
use Rattle.row_fields.specs.declared.fields.Field.TheVariants.{Long, Ended}
use Rattle.row_fields.specs.declared.fields.Kind.TheVariants as kinds
use Rattle.row_fields.specs.Fields.{Fits, kind_of, fields_bytes}
use Rattle.row_fields.proofs.Again.{same_all}
use Rattle.catalog_rows.specs.Owners.{Owner, SchemaIs, ObjectIs, RowKey, Row, key_bytes, object_fields, schema_row, object_row, Inside, tag_of, numbers_of, inside_row, value_at, Place, Named, Under, Child, Constraint, row_at, HasRow}
use Rattle.catalog_rows.specs.Stands.{Numbered, Has, FitsSpace, FitsObject, RowsAre}
use Rattle.catalog_rows_laws.proofs.Lists.{some_of}
use Rattle.catalog_rows_laws.proofs.Keys.{some_is, same_key, tag_at, tag_low, tag_high, object_tag, no_schema_tag, schema_only, inside_alone}
use Rattle.catalog_rows_laws.proofs.Owned.{IsWith, standing, same_id, same_owner}
use Rattle.catalog_rows_laws.proofs.Changed.{ours}

-- the same rows are those of two catalogs with ids
pub record Two (rows : Rows) (n m : Numbered) (cat other : Catalog) : Type 0 where
  pub left : IsWith n cat
  pub right : IsWith m other
  pub are : RowsAre rows n
  pub been : RowsAre rows m

pub turned : (rows : Rows) (n m : Numbered) (cat other : Catalog) → Two rows n m cat other → Two rows m n other cat
turned rows n m cat other two = record { left = two.right; right = two.left; are = two.been; been = two.are }

-- the other catalog has a row of the same bytes
record Met (m : Numbered) (at : Row) : Type 0 where
  pub owner : Owner
  pub place : Place
  pub row : Row
  pub has : Has m owner
  pub is : row_at owner place ≡ Some row
  pub key : at.key ≡ row.key
  pub value : fields_bytes at.value ≡ fields_bytes row.value

met : (rows : Rows) (n m : Numbered) (cat other : Catalog) → Two rows n m cat other → (a : Owner) → Has n a → (p : Place) (at : Row) → row_at a p ≡ Some at → Met m at
met rows n m cat other two a has p at e =
    let row : HasRow a (key_bytes at.key) (fields_bytes at.value) = record { place = p; at = at; is = e; key_is = refl; value_is = refl } in
    let one = two.been.only (key_bytes at.key) (fields_bytes at.value) (ours a (key_bytes at.key) (fields_bytes at.value) row) (two.are.all a (key_bytes at.key) (fields_bytes at.value) has row) in
    record {
      owner = one.0;
      place = one.2.place;
      row = one.2.at;
      has = one.1;
      is = one.2.is;
      key = same_key a one.0 p one.2.place at one.2.at (two.left.apart.fits a has) (two.right.apart.fits one.0 one.1) e one.2.is one.2.key_is;
      value = one.2.value_is;
    }

-- ## Schemas

pub same_schema_id : (rows : Rows) (n m : Numbered) (cat other : Catalog) → Two rows n m cat other → (name : List ℕ) (id : ℕ) → finite_map.get n.schemas name ≡ Some id → finite_map.get m.schemas name ≡ Some id
unfolding row_at
same_schema_id rows n m cat other two name id has = by f.owner f.place f.row f.has f.is f.key f.value
  where
    f : Met m (schema_row name id)
    f = met rows n m cat other two (SchemaIs name id) has Named (schema_row name id) refl

    by : (owner : Owner) (place : Place) (row : Row) → Has m owner → row_at owner place ≡ Some row → (schema_row name id).key ≡ row.key → fields_bytes (schema_row name id).value ≡ fields_bytes row.value → finite_map.get m.schemas name ≡ Some id
    by (SchemaIs y more) place row there is key value =
        let one = schema_only y more place row is in
        let fields : Ended name ∷ [] ≡ Ended y ∷ [] = ap (λ (k : RowKey). k.fields) key ∙ ap (λ (r : Row). r.key.fields) (sym one.1) in
        let names : name ≡ y = cc in
        let values : Long id ∷ [] ≡ Long more ∷ [] =
        same_all (Long id ∷ []) (Long more ∷ []) refl ((two.left.apart.fits (SchemaIs name id) has).1, tt) ((two.right.apart.fits (SchemaIs y more) there).1, tt) (value ∙ ap (λ (r : Row). fields_bytes r.value) (sym one.1)) in
        let ids : id ≡ more = cc in
        subst (λ (z : List ℕ). finite_map.get m.schemas z ≡ Some id) (sym names) (there ∙ ap Some (sym ids))
    by (ObjectIs b t more with) place row there is key value = absurd (no_schema_tag place (ap (λ (k : RowKey). k.tag) key ∙ object_tag b t more with place row is))

-- ## Objects by their names

object_kinds : (id : ℕ) (placed : Placed) → map kind_of (object_fields id placed) ≡ kinds.Byte ∷ kinds.Long ∷ kinds.Long ∷ []
object_kinds id (Table space parts) = refl
object_kinds id (View parts) = refl

object_fit : (id : ℕ) (placed : Placed) → id < 2 ^ 32 → FitsSpace placed → AllByRecursion Fits (object_fields id placed)
object_fit id (Table space parts) low fits = (omega arith, (low, (fits, tt)))
object_fit id (View parts) low fits = (omega arith, (low, (omega arith, tt)))

object_id : (id more : ℕ) (placed with : Placed) → object_fields id placed ≡ object_fields more with → id ≡ more
object_id id more (Table space parts) (Table room others) e = cc
object_id id more (Table space parts) (View others) e = cc
object_id id more (View parts) (Table room others) e = cc
object_id id more (View parts) (View others) e = cc

named_only : (place : Place) → 2 ≡ tag_at place → place ≡ Named
named_only Named e = refl
named_only (Under u) e = absurd (let low = tag_low u in omega arith)
named_only (Child i) e = absurd (omega arith)
named_only (Constraint i) e = absurd (omega arith)

-- the other catalog's object of the same name and ids
pub record Twin (m : Numbered) (a : ObjName) (s id : ℕ) (placed : Placed) : Type 0 where
  pub with : Placed
  pub has : Has m (ObjectIs a s id with)
  pub head : object_fields id placed ≡ object_fields id with

pub twin : (rows : Rows) (n m : Numbered) (cat other : Catalog) → Two rows n m cat other → (a : ObjName) (s id : ℕ) (placed : Placed) → Has n (ObjectIs a s id placed) → Twin m a s id placed
unfolding row_at
twin rows n m cat other two a s id placed has = by f.owner f.place f.row f.has f.is f.key f.value
  where
    f : Met m (object_row a s id placed)
    f = met rows n m cat other two (ObjectIs a s id placed) has Named (object_row a s id placed) refl

    fit : FitsObject a s id placed
    fit = two.left.apart.fits (ObjectIs a s id placed) has

    by : (owner : Owner) (place : Place) (row : Row) → Has m owner → row_at owner place ≡ Some row → (object_row a s id placed).key ≡ row.key → fields_bytes (object_fields id placed) ≡ fields_bytes row.value → Twin m a s id placed
    by (SchemaIs y more) place row there is key value =
        let one = schema_only y more place row is in
        let tags : ◌≡◌ {A = ℕ} 1 2 = ap (λ (r : Row). r.key.tag) one.1 ∙ ap (λ (k : RowKey). k.tag) (sym key) in
        absurd (omega arith)
    by (ObjectIs b t more with) place row there is key value =
        let named : place ≡ Named = named_only place (ap (λ (k : RowKey). k.tag) key ∙ object_tag b t more with place row is) in
        let here : row_at (ObjectIs b t more with) Named ≡ Some row = subst (λ (p : Place). row_at (ObjectIs b t more with) p ≡ Some row) named is in
        let same : object_row b t more with ≡ row = some_is (object_row b t more with) row here in
        let fields : Long s ∷ Ended a.name ∷ [] ≡ Long t ∷ Ended b.name ∷ [] = ap (λ (k : RowKey). k.fields) key ∙ ap (λ (r : Row). r.key.fields) (sym same) in
        let schemas : s ≡ t = cc in
        let own : a.name ≡ b.name = cc in
        let first : finite_map.get m.schemas a.schema ≡ Some s = same_schema_id rows n m cat other two a.schema s has.0 in
        let schema : a.schema ≡ b.schema = two.right.apart.schemas a.schema b.schema s first (there.0 ∙ ap Some (sym schemas)) in
        let names : a ≡ b = λ i. record { schema = schema i; name = own i } in
        let fits : FitsObject b t more with = two.right.apart.fits (ObjectIs b t more with) there in
        let heads : object_fields id placed ≡ object_fields more with =
        same_all (object_fields id placed) (object_fields more with) (object_kinds id placed ∙ sym (object_kinds more with)) (object_fit id placed fit.id_fits fit.space_fits) (object_fit more with fits.id_fits fits.space_fits)
        (value ∙ ap (λ (r : Row). fields_bytes r.value) (sym same)) in
        let ids : id ≡ more = object_id id more placed with heads in
        record {
          with = with;
          has = (first, subst (λ (o : ObjName). finite_map.get m.objects o ≡ Some (standing id with)) (sym names) (there.1 ∙ ap (λ (k : ℕ). Some (standing k with)) (sym ids)));
          head = heads ∙ ap (λ (k : ℕ). object_fields k with) (sym ids);
        }

-- ## Values under an id

-- the other object has a value of the same bytes at the place
pub record Valued (with : Placed) (u : Inside) (x : List Field) : Type 0 where
  pub value : List Field
  pub there : value_at with u ≡ Some value
  pub bytes : fields_bytes x ≡ fields_bytes value

under_only : (place : Place) (u : Inside) → tag_of u ≡ tag_at place → (v : Inside) × (place ≡ Under v)
under_only Named u e = absurd (let low = tag_low u in omega arith)
under_only (Under v) u e = (v, refl)
under_only (Child i) u e = absurd (let high = tag_high u in omega arith)
under_only (Constraint i) u e = absurd (let high = tag_high u in omega arith)

abbrev placed_of : Placed → Owner → Placed
placed_of none (SchemaIs name id) = none
placed_of none (ObjectIs name schema id placed) = placed

pub valued : (rows : Rows) (n m : Numbered) (cat other : Catalog) → Two rows n m cat other → (a : ObjName) (s id : ℕ) (placed with : Placed) → Has n (ObjectIs a s id placed) → Has m (ObjectIs a s id with)
    → (u : Inside) (x : List Field) → value_at placed u ≡ Some x → Valued with u x
unfolding row_at
valued rows n m cat other two a s id placed with has had u x e = by f.owner f.place f.row f.has f.is f.key f.value
  where
    f : Met m (inside_row id u x)
    f = met rows n m cat other two (ObjectIs a s id placed) has (Under u) (inside_row id u x) (ap (option_map (inside_row id u)) e)

    by : (owner : Owner) (place : Place) (row : Row) → Has m owner → row_at owner place ≡ Some row → (inside_row id u x).key ≡ row.key → fields_bytes x ≡ fields_bytes row.value → Valued with u x
    by (SchemaIs y more) place row there is key value =
        let one = schema_only y more place row is in
        let tags : 1 ≡ tag_of u = ap (λ (r : Row). r.key.tag) one.1 ∙ ap (λ (k : RowKey). k.tag) (sym key) in
        let low = tag_low u in
        absurd (omega arith)
    by (ObjectIs b t more instead) place row there is key value =
        let v = under_only place u (ap (λ (k : RowKey). k.tag) key ∙ object_tag b t more instead place row is) in
        let here : row_at (ObjectIs b t more instead) (Under v.0) ≡ Some row = subst (λ (p : Place). row_at (ObjectIs b t more instead) p ≡ Some row) v.1 is in
        let y = some_of (inside_row more v.0) (value_at instead v.0) row here in
        let tags : tag_of u ≡ tag_of v.0 = ap (λ (k : RowKey). k.tag) key ∙ ap (λ (r : Row). r.key.tag) (sym y.2) in
        let fields : Long id ∷ numbers_of u ≡ Long more ∷ numbers_of v.0 = ap (λ (k : RowKey). k.fields) key ∙ ap (λ (r : Row). r.key.fields) (sym y.2) in
        let ids : id ≡ more = cc in
        let numbers : numbers_of u ≡ numbers_of v.0 = cc in
        let place_is : u ≡ v.0 = inside_alone u v.0 tags numbers in
        let names : a ≡ b = same_id m two.right.apart a b s t id more with instead had there ids in
        let owners = same_owner m a b s t id more with instead had there names in
        let same : with ≡ instead = ap (placed_of with) owners in
        record {
          value = y.0;
          there = (λ i. value_at (same i) (place_is i)) ∙ y.1;
          bytes = value ∙ ap (λ (r : Row). fields_bytes r.value) (sym y.2);
        }
