-- Each key has one owner, at one place.
use Rattle.std.proofs.Common.{◌≡◌, ℕ, true, List, [], ◌∷◌, Option, Some, None, refl, sym, ap, subst, ◌∙◌, arith}
use Rattle.std.specs.Prelude.{slice_get}
use Rattle.std.specs.Cmp.Lexicographic.{nat_list_eq_equiv}
use Rattle.std.specs.Option.{option_map, is_some}
use Rattle.std.specs.Str.{bytes_eq}
use Rattle.std.specs.FinMap as finite_map
use Rattle.dd_names.specs.Names.{fold}
use Rattle.dd_names.specs.declared.object_name.ObjName.{ObjName}
use Rattle.dd_definitions.specs.declared.foreign_keys.ForeignKeyDef.{ForeignKeyDef}
use Rattle.dd_definitions.specs.ForeignKeys.{is_same_constraint}
use Rattle.dd_catalog.specs.Catalog.{Catalog, Placed, foreign_keys_of, has_constraint}
use Rattle.dd_catalog.specs.Valid.{IsValid, Has as StandsIn}
use Rattle.row_fields.specs.declared.fields.Field.TheVariants.{Short, Long, Ended}
use Rattle.row_fields.specs.Fields.{fields_bytes}
use Rattle.catalog_rows.specs.Owners.{Owner, SchemaIs, ObjectIs, RowKey, Row, schema_row, object_row, numbers_of, inside_row, value_at, child_row, constraint_row, Place, Named, Under, Child, Constraint, row_at, HasRow}
use Rattle.catalog_rows.specs.Stands.{Standing, Numbered, placed_in, Has, IsOf, IsApart}
use Rattle.catalog_rows_laws.proofs.Lists.{some_of}
use Rattle.catalog_rows_laws.proofs.Keys.{some_is, same_key, tag_at, tag_low, tag_high, object_tag, no_schema_tag, schema_only, inside_alone, keys_distinct, any_at, one_place}

-- a valid catalog with its ids
pub record IsWith (n : Numbered) (cat : Catalog) : Type 0 where
  pub of : IsOf n cat
  pub valid : IsValid cat
  pub apart : IsApart n

abbrev pub standing : ℕ → Placed → Standing
standing id placed = record { id = id; placed = placed }

pub stands_in : (n : Numbered) (cat : Catalog) → IsOf n cat → (name : ObjName) (schema id : ℕ) (placed : Placed) → Has n (ObjectIs name schema id placed) → StandsIn cat name placed
stands_in n cat of name schema id placed has = record { is = of.objects name ∙ ap (option_map placed_in) has.1 }

pub some_there : {X : Type 0} (o : Option X) → is_some o ≡ true → (x : X) × (o ≡ Some x)
some_there None e = absurd cc
some_there (Some x) e = (x, refl)

-- the schema of an object of a valid catalog has an id
pub owner_of : (n : Numbered) (cat : Catalog) → IsOf n cat → IsValid cat → (a : ObjName) (st : Standing) → finite_map.get n.objects a ≡ Some st → (s : ℕ) × Has n (ObjectIs a s st.id st.placed)
owner_of n cat of valid a st e =
    let there : StandsIn cat a st.placed = record { is = of.objects a ∙ ap (option_map placed_in) e } in
    let schema = some_there (finite_map.get n.schemas a.schema) (sym (of.schemas a.schema) ∙ valid.schemas_there a st.placed there) in
    (schema.0, (schema.1, e))

pub same_id : (n : Numbered) → IsApart n → (a b : ObjName) (s t id other : ℕ) (placed with : Placed) → Has n (ObjectIs a s id placed) → Has n (ObjectIs b t other with) → id ≡ other → a ≡ b
same_id n apart a b s t id other placed with p q e = apart.objects a b (standing id placed) (standing other with) p.1 q.1 e

pub same_owner : (n : Numbered) (a b : ObjName) (s t id other : ℕ) (placed with : Placed) → Has n (ObjectIs a s id placed) → Has n (ObjectIs b t other with) → a ≡ b → ObjectIs a s id placed ≡ ObjectIs b t other with
same_owner n a b s t id other placed with p q e =
    let here : finite_map.get n.objects b ≡ Some (standing id placed) = subst (λ (o : ObjName). finite_map.get n.objects o ≡ Some (standing id placed)) e p.1 in
    let same : standing id placed ≡ standing other with = some_is (standing id placed) (standing other with) (sym here ∙ q.1) in
    let there : finite_map.get n.schemas b.schema ≡ Some s = subst (λ (o : ObjName). finite_map.get n.schemas o.schema ≡ Some s) e p.0 in
    let schemas : s ≡ t = some_is s t (sym there ∙ q.0) in
    λ i. ObjectIs (e i) (schemas i) (same i).id (same i).placed

same_schema : (n : Numbered) → IsApart n → (a b : ObjName) (s t id other : ℕ) (placed with : Placed) → Has n (ObjectIs a s id placed) → Has n (ObjectIs b t other with) → s ≡ t → a.schema ≡ b.schema
same_schema n apart a b s t id other placed with p q e = apart.schemas a.schema b.schema s p.0 (q.0 ∙ ap Some (sym e))

-- where two rows are known, and have one key, this has the same fields
fields_from : (x y at other : Row) → x ≡ at → y ≡ other → at.key ≡ other.key → x.key.fields ≡ y.key.fields
fields_from x y at other p q e = ap (λ (r : Row). r.key.fields) p ∙ ap (λ (k : RowKey). k.fields) e ∙ sym (ap (λ (r : Row). r.key.fields) q)

meet_constraints : (n : Numbered) (cat : Catalog) → IsWith n cat → (a b : ObjName) (s t id other : ℕ) (placed with : Placed) → Has n (ObjectIs a s id placed) → Has n (ObjectIs b t other with)
    → (i j : ℕ) (x y : ForeignKeyDef) → slice_get (foreign_keys_of placed) i ≡ Some x → slice_get (foreign_keys_of with) j ≡ Some y → s ≡ t → fold x.name ≡ fold y.name → (a ≡ b) × (i ≡ j)
meet_constraints n cat w a b s t id other placed with has had i j x y at_i at_j schemas folds =
    let own : a.schema ≡ b.schema = same_schema n w.apart a b s t id other placed with has had schemas in
    let like : bytes_eq (fold x.name) (fold y.name) ≡ true = ap (λ f. bytes_eq (fold x.name) f) (sym folds) ∙ nat_list_eq_equiv.refl (fold x.name) in
    let first : has_constraint (fold y.name) placed ≡ true = any_at (λ (key : ForeignKeyDef). bytes_eq (fold key.name) (fold y.name)) (foreign_keys_of placed) i x at_i like in
    let second : has_constraint (fold y.name) with ≡ true = any_at (λ (key : ForeignKeyDef). bytes_eq (fold key.name) (fold y.name)) (foreign_keys_of with) j y at_j (nat_list_eq_equiv.refl (fold y.name)) in
    let one = stands_in n cat w.of a s id placed has in
    let names : a ≡ b = w.valid.constraints_distinct a b placed with (fold y.name) one (stands_in n cat w.of b t other with had) own first second in
    let here : finite_map.get n.objects b ≡ Some (standing id placed) = subst (λ (o : ObjName). finite_map.get n.objects o ≡ Some (standing id placed)) names has.1 in
    let objects : placed ≡ with = ap (λ (z : Standing). z.placed) (some_is (standing id placed) (standing other with) (sym here ∙ had.1)) in
    let there : slice_get (foreign_keys_of placed) j ≡ Some y = subst (λ (o : Placed). slice_get (foreign_keys_of o) j ≡ Some y) (sym objects) at_j in
    let places : i ≡ j = one_place is_same_constraint (λ x y. nat_list_eq_equiv.symm (fold x.name) (fold y.name)) (foreign_keys_of placed) (keys_distinct placed (w.valid.formed a placed one)) i j x y at_i there like in
    (names, places)

apart_tags : (p q : Place) (m k : ℕ) → m ≡ tag_at p → k ≡ tag_at q → m ≡ k → tag_at p ≡ tag_at q
apart_tags p q m k e f same = sym e ∙ same ∙ f

meet_objects : (n : Numbered) (cat : Catalog) → IsWith n cat → (a b : ObjName) (s t id other : ℕ) (placed with : Placed) → Has n (ObjectIs a s id placed) → Has n (ObjectIs b t other with)
    → (p q : Place) (at at2 : Row) → row_at (ObjectIs a s id placed) p ≡ Some at → row_at (ObjectIs b t other with) q ≡ Some at2 → at.key ≡ at2.key → tag_at p ≡ tag_at q → (a ≡ b) × (p ≡ q)
unfolding row_at
meet_objects n cat w a b s t id other placed with has had Named Named at at2 e f same tags =
    let fields : Long s ∷ Ended a.name ∷ [] ≡ Long t ∷ Ended b.name ∷ [] = fields_from (object_row a s id placed) (object_row b t other with) at at2 (some_is (object_row a s id placed) at e) (some_is (object_row b t other with) at2 f) same in
    let schemas : s ≡ t = cc in
    let names : a.name ≡ b.name = cc in
    let own : a.schema ≡ b.schema = same_schema n w.apart a b s t id other placed with has had schemas in
    (λ i. record { schema = own i; name = names i }, refl)
meet_objects n cat w a b s t id other placed with has had (Under u) (Under v) at at2 e f same tags =
    let x = some_of (inside_row id u) (value_at placed u) at e in
    let y = some_of (inside_row other v) (value_at with v) at2 f in
    let fields : Long id ∷ numbers_of u ≡ Long other ∷ numbers_of v = fields_from (inside_row id u x.0) (inside_row other v y.0) at at2 x.2 y.2 same in
    let ids : id ≡ other = cc in
    let numbers : numbers_of u ≡ numbers_of v = cc in
    (same_id n w.apart a b s t id other placed with has had ids, ap Under (inside_alone u v tags numbers))
meet_objects n cat w a b s t id other placed with has had (Child i) (Child j) at at2 e f same tags =
    let x = some_of (child_row id a i) (slice_get (foreign_keys_of placed) i) at e in
    let y = some_of (child_row other b j) (slice_get (foreign_keys_of with) j) at2 f in
    let fields : Ended x.0.parent.schema ∷ Ended x.0.parent.name ∷ Long id ∷ Short i ∷ [] ≡ Ended y.0.parent.schema ∷ Ended y.0.parent.name ∷ Long other ∷ Short j ∷ [] =
    fields_from (child_row id a i x.0) (child_row other b j y.0) at at2 x.2 y.2 same in
    let ids : id ≡ other = cc in
    let places : i ≡ j = cc in
    (same_id n w.apart a b s t id other placed with has had ids, ap Child places)
meet_objects n cat w a b s t id other placed with has had (Constraint i) (Constraint j) at at2 e f same tags =
    let x = some_of (constraint_row s id i) (slice_get (foreign_keys_of placed) i) at e in
    let y = some_of (constraint_row t other j) (slice_get (foreign_keys_of with) j) at2 f in
    let fields : Long s ∷ Ended (fold x.0.name) ∷ [] ≡ Long t ∷ Ended (fold y.0.name) ∷ [] = fields_from (constraint_row s id i x.0) (constraint_row t other j y.0) at at2 x.2 y.2 same in
    let schemas : s ≡ t = cc in
    let folds : fold x.0.name ≡ fold y.0.name = cc in
    let both = meet_constraints n cat w a b s t id other placed with has had i j x.0 y.0 x.1 y.1 schemas folds in
    (both.0, ap Constraint both.1)
meet_objects n cat w a b s t id other placed with has had (Under u) Named at at2 e f same tags = absurd (let low = tag_low u in omega arith)
meet_objects n cat w a b s t id other placed with has had (Under u) (Child i) at at2 e f same tags = absurd (let high = tag_high u in omega arith)
meet_objects n cat w a b s t id other placed with has had (Under u) (Constraint i) at at2 e f same tags = absurd (let high = tag_high u in omega arith)
meet_objects n cat w a b s t id other placed with has had Named (Under u) at at2 e f same tags = absurd (let low = tag_low u in omega arith)
meet_objects n cat w a b s t id other placed with has had (Child i) (Under u) at at2 e f same tags = absurd (let high = tag_high u in omega arith)
meet_objects n cat w a b s t id other placed with has had (Constraint i) (Under u) at at2 e f same tags = absurd (let high = tag_high u in omega arith)
meet_objects n cat w a b s t id other placed with has had Named (Child i) at at2 e f same tags = absurd (omega arith)
meet_objects n cat w a b s t id other placed with has had Named (Constraint i) at at2 e f same tags = absurd (omega arith)
meet_objects n cat w a b s t id other placed with has had (Child i) Named at at2 e f same tags = absurd (omega arith)
meet_objects n cat w a b s t id other placed with has had (Child i) (Constraint j) at at2 e f same tags = absurd (omega arith)
meet_objects n cat w a b s t id other placed with has had (Constraint i) Named at at2 e f same tags = absurd (omega arith)
meet_objects n cat w a b s t id other placed with has had (Constraint i) (Child j) at at2 e f same tags = absurd (omega arith)

-- rows with one key are of one owner, at one place
pub meet : (n : Numbered) (cat : Catalog) → IsWith n cat → (a b : Owner) → Has n a → Has n b → (p q : Place) (at at2 : Row) → row_at a p ≡ Some at → row_at b q ≡ Some at2 → at.key ≡ at2.key → (a ≡ b) × (p ≡ q)
meet n cat w (SchemaIs x id) (SchemaIs y more) has had p q at at2 e f same =
    let one = schema_only x id p at e in
    let two = schema_only y more q at2 f in
    let fields : Ended x ∷ [] ≡ Ended y ∷ [] = fields_from (schema_row x id) (schema_row y more) at at2 one.1 two.1 same in
    let names : x ≡ y = cc in
    let there : finite_map.get n.schemas x ≡ Some more = subst (λ (z : List ℕ). finite_map.get n.schemas z ≡ Some more) (sym names) had in
    let ids : id ≡ more = some_is id more (sym has ∙ there) in
    (λ i. SchemaIs (names i) (ids i), one.0 ∙ sym two.0)
meet n cat w (SchemaIs x id) (ObjectIs b t more with) has had p q at at2 e f same =
    let one = schema_only x id p at e in
    absurd (no_schema_tag q (ap (λ (r : Row). r.key.tag) one.1 ∙ ap (λ (k : RowKey). k.tag) same ∙ object_tag b t more with q at2 f))
meet n cat w (ObjectIs a s id placed) (SchemaIs y more) has had p q at at2 e f same =
    let two = schema_only y more q at2 f in
    absurd (no_schema_tag p (ap (λ (r : Row). r.key.tag) two.1 ∙ ap (λ (k : RowKey). k.tag) (sym same) ∙ object_tag a s id placed p at e))
meet n cat w (ObjectIs a s id placed) (ObjectIs b t more with) has had p q at at2 e f same =
    let tags : tag_at p ≡ tag_at q = apart_tags p q at.key.tag at2.key.tag (object_tag a s id placed p at e) (object_tag b t more with q at2 f) (ap (λ (k : RowKey). k.tag) same) in
    let both = meet_objects n cat w a b s t id more placed with has had p q at at2 e f same tags in
    (same_owner n a b s t id more placed with has had both.0, both.1)

-- ## The same by bytes

same_row : (owner : Owner) (p q : Place) (at at2 : Row) → row_at owner p ≡ Some at → row_at owner q ≡ Some at2 → p ≡ q → at ≡ at2
same_row owner p q at at2 e f same = some_is at at2 (sym e ∙ ap (row_at owner) same ∙ f)

pub one_row : (n : Numbered) (cat : Catalog) → IsWith n cat → (a b : Owner) (key value other : List ℕ) → Has n a → Has n b → HasRow a key value → HasRow b key other → (a ≡ b) × (value ≡ other)
one_row n cat w a b key value other has had r s =
    let same : r.at.key ≡ s.at.key = same_key a b r.place s.place r.at s.at (w.apart.fits a has) (w.apart.fits b had) r.is s.is (sym r.key_is ∙ s.key_is) in
    let met = meet n cat w a b has had r.place s.place r.at s.at r.is s.is same in
    let here : row_at b r.place ≡ Some r.at = subst (λ (o : Owner). row_at o r.place ≡ Some r.at) met.0 r.is in
    let rows : r.at ≡ s.at = same_row b r.place s.place r.at s.at here s.is met.1 in
    (met.0, r.value_is ∙ ap (λ (x : Row). fields_bytes x.value) rows ∙ sym s.value_is)
