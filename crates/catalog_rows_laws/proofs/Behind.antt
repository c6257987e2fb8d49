-- Behind a change that can be made, those that went and those that came lead from the one catalog to the other.
use Rattle.std.proofs.Common.{◌≡◌, ◌⊎◌, inl, inr, ℕ, List, Option, Some, None, refl, sym, ap, subst, ◌∙◌}
use Rattle.std.specs.Option.{option_map, is_some}
use Rattle.std.specs.FinMap as finite_map
use Rattle.std.specs.Cmp.Lexicographic.{nat_list_cmp_total}
use Rattle.dd_names.specs.declared.object_name.ObjName.{ObjName}
use Rattle.dd_catalog.specs.Catalog.{Catalog, Placed}
use Rattle.dd_catalog.specs.Valid.{IsValid}
use Rattle.dd_catalog.proofs.ObjectNames.{object_total, object_alone, name_alone}
use Rattle.catalog_rows.specs.Owners.{Owner, SchemaIs, ObjectIs}
use Rattle.catalog_rows.specs.Stands.{Standing, Numbered, placed_in, Has, IsOf}
use Rattle.catalog_rows.specs.Changes.{IsOne}
use Rattle.catalog_rows_laws.specs.Changing.{LeadsTo}
use Rattle.catalog_rows_laws.specs.Behind.{drop_all, schema_in, object_in, name_in, thing_in, numbered_behind, catalog_behind, CanExchange}
use Rattle.catalog_rows_laws.proofs.Keys.{some_is}
use Rattle.catalog_rows_laws.proofs.Alone.{none_some}
use Rattle.catalog_rows_laws.proofs.Owned.{standing, same_owner, owner_of}
use Rattle.catalog_rows_laws.proofs.Maps as maps

-- ## What is picked

schema_picked : (o : Owner) (q : List ℕ) (id : ℕ) → schema_in o ≡ Some (q, id) → o ≡ SchemaIs q id
schema_picked (SchemaIs name other) q id e = let p : (name, other) ≡ (q, id) = some_is (name, other) (q, id) e in λ i. SchemaIs (p i).0 (p i).1
schema_picked (ObjectIs name schema other placed) q id e = absurd (none_some (q, id) e)

object_picked : (o : Owner) (q : ObjName) (st : Standing) → object_in o ≡ Some (q, st) → (s : ℕ) × (o ≡ ObjectIs q s st.id st.placed)
object_picked (SchemaIs name other) q st e = absurd (none_some (q, st) e)
object_picked (ObjectIs name schema other placed) q st e =
    let p : (name, standing other placed) ≡ (q, st) = some_is (name, standing other placed) (q, st) e in
    (schema, λ i. ObjectIs (p i).0 schema (p i).1.id (p i).1.placed)

abbrev id_in : Owner → ℕ
id_in (SchemaIs name id) = id
id_in (ObjectIs name schema id placed) = id

abbrev standing_in : Standing → Owner → Standing
standing_in none (SchemaIs name id) = none
standing_in none (ObjectIs name schema id placed) = standing id placed

-- the owners that go from a valid catalog and that come
record Exchange (n : Numbered) (cat : Catalog) (gone come : List Owner) : Type 0 where
  pub of : IsOf n cat
  pub valid : IsValid cat
  pub can : CanExchange n gone come

-- ## Schemas

schema_comes : (n : Numbered) (cat : Catalog) (gone come : List Owner) → Exchange n cat gone come → (q : List ℕ) (id : ℕ) → IsOne (SchemaIs q id) come → finite_map.get (numbered_behind gone come n).schemas q ≡ Some id
schema_comes n cat gone come x q id one = maps.put_comes nat_list_cmp_total name_alone schema_in come (drop_all schema_in gone n.schemas) q id (SchemaIs q id) one refl alone
  where
    alone : (o : Owner) (w : ℕ) → IsOne o come → schema_in o ≡ Some (q, w) → w ≡ id
    alone o w there is =
        let own : IsOne (SchemaIs q w) come = subst (λ (p : Owner). IsOne p come) (schema_picked o q w is) there in
        ap id_in (x.can.once (SchemaIs q w) (SchemaIs q id) own one refl)

schema_keeps : (n : Numbered) (cat : Catalog) (gone come : List Owner) → Exchange n cat gone come → (q : List ℕ) (id : ℕ) → finite_map.get n.schemas q ≡ Some id
    → (finite_map.get (numbered_behind gone come n).schemas q ≡ Some id) ⊎ IsOne (SchemaIs q id) gone
schema_keeps n cat gone come x q id e = by (maps.found_or_none nat_list_cmp_total name_alone schema_in gone q)
  where
    by : maps.FoundAt nat_list_cmp_total name_alone schema_in gone q ⊎ maps.NoneAt nat_list_cmp_total name_alone schema_in gone q → (finite_map.get (numbered_behind gone come n).schemas q ≡ Some id) ⊎ IsOne (SchemaIs q id) gone
    by (inl f) =
        let own : IsOne (SchemaIs q f.value) gone = subst (λ (p : Owner). IsOne p gone) (schema_picked f.picked.owner q f.value f.picked.is) f.picked.one in
        let ids : f.value ≡ id = some_is f.value id (sym (x.can.had (SchemaIs q f.value) own) ∙ e) in
        inr (subst (λ (k : ℕ). IsOne (SchemaIs q k) gone) ids own)
    by (inr none) = inl (maps.put_stays nat_list_cmp_total name_alone schema_in come (drop_all schema_in gone n.schemas) q id (maps.left nat_list_cmp_total name_alone schema_in gone n.schemas q id e none) (λ o w one is.
        let own : IsOne (SchemaIs q w) come = subst (λ (p : Owner). IsOne p come) (schema_picked o q w is) one in
        absurd (none (SchemaIs q id) id (x.can.free (SchemaIs q w) (SchemaIs q id) own e refl) refl)))

schema_new : (n : Numbered) (cat : Catalog) (gone come : List Owner) → Exchange n cat gone come → (q : List ℕ) (id : ℕ) → finite_map.get (numbered_behind gone come n).schemas q ≡ Some id
    → ((finite_map.get n.schemas q ≡ Some id) × (IsOne (SchemaIs q id) gone → ⊥)) ⊎ IsOne (SchemaIs q id) come
schema_new n cat gone come x q id e = by (maps.put_from nat_list_cmp_total name_alone schema_in come (drop_all schema_in gone n.schemas) q id e)
  where
    by : maps.Picked nat_list_cmp_total name_alone schema_in come q id ⊎ (finite_map.get (drop_all schema_in gone n.schemas) q ≡ Some id) → ((finite_map.get n.schemas q ≡ Some id) × (IsOne (SchemaIs q id) gone → ⊥)) ⊎ IsOne (SchemaIs q id) come
    by (inl p) = inr (subst (λ (o : Owner). IsOne o come) (schema_picked p.owner q id p.is) p.one)
    by (inr e) = let d = maps.dropped nat_list_cmp_total name_alone schema_in gone n.schemas q id e in inl (d.0, λ one. d.1 (SchemaIs q id) id one refl)

-- ## Objects

object_comes : (n : Numbered) (cat : Catalog) (gone come : List Owner) → Exchange n cat gone come → (a : ObjName) (s id : ℕ) (placed : Placed) → IsOne (ObjectIs a s id placed) come
    → finite_map.get (numbered_behind gone come n).objects a ≡ Some (standing id placed)
object_comes n cat gone come x a s id placed one = maps.put_comes object_total object_alone object_in come (drop_all object_in gone n.objects) a (standing id placed) (ObjectIs a s id placed) one refl alone
  where
    alone : (o : Owner) (w : Standing) → IsOne o come → object_in o ≡ Some (a, w) → w ≡ standing id placed
    alone o w there is =
        let p = object_picked o a w is in
        let own : IsOne (ObjectIs a p.0 w.id w.placed) come = subst (λ (r : Owner). IsOne r come) p.1 there in
        ap (standing_in w) (x.can.once (ObjectIs a p.0 w.id w.placed) (ObjectIs a s id placed) own one refl)

object_keeps : (n : Numbered) (cat : Catalog) (gone come : List Owner) → Exchange n cat gone come → (a : ObjName) (s id : ℕ) (placed : Placed) → Has n (ObjectIs a s id placed)
    → (finite_map.get (numbered_behind gone come n).objects a ≡ Some (standing id placed)) ⊎ IsOne (ObjectIs a s id placed) gone
object_keeps n cat gone come x a s id placed has = by (maps.found_or_none object_total object_alone object_in gone a)
  where
    by : maps.FoundAt object_total object_alone object_in gone a ⊎ maps.NoneAt object_total object_alone object_in gone a → (finite_map.get (numbered_behind gone come n).objects a ≡ Some (standing id placed)) ⊎ IsOne (ObjectIs a s id placed) gone
    by (inl f) =
        let p = object_picked f.picked.owner a f.value f.picked.is in
        let own : IsOne (ObjectIs a p.0 f.value.id f.value.placed) gone = subst (λ (r : Owner). IsOne r gone) p.1 f.picked.one in
        let same = same_owner n a a p.0 s f.value.id id f.value.placed placed (x.can.had (ObjectIs a p.0 f.value.id f.value.placed) own) has refl in
        inr (subst (λ (r : Owner). IsOne r gone) same own)
    by (inr none) = inl (maps.put_stays object_total object_alone object_in come (drop_all object_in gone n.objects) a (standing id placed) (maps.left object_total object_alone object_in gone n.objects a (standing id placed) has.1 none) (λ o w one is.
        let p = object_picked o a w is in
        let own : IsOne (ObjectIs a p.0 w.id w.placed) come = subst (λ (r : Owner). IsOne r come) p.1 one in
        absurd (none (ObjectIs a s id placed) (standing id placed) (x.can.free (ObjectIs a p.0 w.id w.placed) (ObjectIs a s id placed) own has refl) refl)))

-- ## Owners

comes : (n : Numbered) (cat : Catalog) (gone come : List Owner) → Exchange n cat gone come → (owner : Owner) → IsOne owner come → Has (numbered_behind gone come n) owner
comes n cat gone come x (SchemaIs name id) one = schema_comes n cat gone come x name id one
comes n cat gone come x (ObjectIs name schema id placed) one = (x.can.inside name schema id placed one, object_comes n cat gone come x name schema id placed one)

keeps : (n : Numbered) (cat : Catalog) (gone come : List Owner) → Exchange n cat gone come → (owner : Owner) → Has n owner → Has (numbered_behind gone come n) owner ⊎ IsOne owner gone
keeps n cat gone come x (SchemaIs name id) has = schema_keeps n cat gone come x name id has
keeps n cat gone come x (ObjectIs name schema id placed) has = by (object_keeps n cat gone come x name schema id placed has) (schema_keeps n cat gone come x name.schema schema has.0)
  where
    by : (finite_map.get (numbered_behind gone come n).objects name ≡ Some (standing id placed)) ⊎ IsOne (ObjectIs name schema id placed) gone
        → (finite_map.get (numbered_behind gone come n).schemas name.schema ≡ Some schema) ⊎ IsOne (SchemaIs name.schema schema) gone → Has (numbered_behind gone come n) (ObjectIs name schema id placed) ⊎ IsOne (ObjectIs name schema id placed) gone
    by (inr one) own = inr one
    by (inl got) (inl own) = inl (own, got)
    by (inl got) (inr away) = inr (x.can.emptied name schema id placed has away)

-- an object that stays is one that was there in the same schema
stays_inside : (n : Numbered) (cat : Catalog) (gone come : List Owner) → Exchange n cat gone come → (a : ObjName) (s id : ℕ) (placed : Placed) → finite_map.get (numbered_behind gone come n).schemas a.schema ≡ Some s
    → finite_map.get n.objects a ≡ Some (standing id placed) → ((t : ℕ) → IsOne (ObjectIs a t id placed) gone → ⊥) → Has n (ObjectIs a s id placed)
stays_inside n cat gone come x a s id placed own got stays = by (schema_new n cat gone come x a.schema s own)
  where
    h : (t : ℕ) × Has n (ObjectIs a t id placed)
    h = owner_of n cat x.of x.valid a (standing id placed) got

    by : ((finite_map.get n.schemas a.schema ≡ Some s) × (IsOne (SchemaIs a.schema s) gone → ⊥)) ⊎ IsOne (SchemaIs a.schema s) come → Has n (ObjectIs a s id placed)
    by (inl old) = (old.0, got)
    by (inr one) =
        let away : IsOne (SchemaIs a.schema h.0) gone = x.can.free (SchemaIs a.schema s) (SchemaIs a.schema h.0) one h.1.0 refl in
        absurd (stays h.0 (x.can.emptied a h.0 id placed h.1 away))

new : (n : Numbered) (cat : Catalog) (gone come : List Owner) → Exchange n cat gone come → (owner : Owner) → Has (numbered_behind gone come n) owner → (Has n owner × (IsOne owner gone → ⊥)) ⊎ IsOne owner come
new n cat gone come x (SchemaIs name id) has = schema_new n cat gone come x name id has
new n cat gone come x (ObjectIs a s id placed) has = by (maps.put_from object_total object_alone object_in come (drop_all object_in gone n.objects) a (standing id placed) has.1)
  where
    by : maps.Picked object_total object_alone object_in come a (standing id placed) ⊎ (finite_map.get (drop_all object_in gone n.objects) a ≡ Some (standing id placed))
        → (Has n (ObjectIs a s id placed) × (IsOne (ObjectIs a s id placed) gone → ⊥)) ⊎ IsOne (ObjectIs a s id placed) come
    by (inl p) =
        let o = object_picked p.owner a (standing id placed) p.is in
        let own : IsOne (ObjectIs a o.0 id placed) come = subst (λ (r : Owner). IsOne r come) o.1 p.one in
        let schemas : o.0 ≡ s = some_is o.0 s (sym (x.can.inside a o.0 id placed own) ∙ has.0) in
        inr (subst (λ (k : ℕ). IsOne (ObjectIs a k id placed) come) schemas own)
    by (inr e) =
        let d = maps.dropped object_total object_alone object_in gone n.objects a (standing id placed) e in
        let stays : (t : ℕ) → IsOne (ObjectIs a t id placed) gone → ⊥ = λ t one. d.1 (ObjectIs a t id placed) (standing id placed) one refl in
        inl (stays_inside n cat gone come x a s id placed has.0 d.0 stays, stays s)

-- ## The catalog behind

some_mapped : {X Y : Type 0} (f : X → Y) (o : Option X) → is_some (option_map f o) ≡ is_some o
some_mapped f None = refl
some_mapped f (Some x) = refl

unit_mapped : (a : Option (Unit {0})) (o : Option ℕ) → is_some a ≡ is_some o → a ≡ option_map (λ (id : ℕ). tt) o
unit_mapped None None e = refl
unit_mapped (Some x) (Some y) e = refl
unit_mapped None (Some y) e = absurd cc
unit_mapped (Some x) None e = absurd cc

pub is_behind : (n : Numbered) (cat : Catalog) (gone come : List Owner) → IsOf n cat → IsOf (numbered_behind gone come n) (catalog_behind gone come cat)
is_behind n cat gone come of = record {
  schemas = λ name. ap is_some (schemas name) ∙ some_mapped (λ (id : ℕ). tt) (finite_map.get (numbered_behind gone come n).schemas name);
  objects = maps.all_put object_total placed_in object_in come (drop_all object_in gone n.objects) (drop_all thing_in gone cat.objects) (maps.all_dropped object_total placed_in object_in gone n.objects cat.objects of.objects);
}
  where
    schemas : (name : List ℕ) → finite_map.get (catalog_behind gone come cat).schemas name ≡ option_map (λ (id : ℕ). tt) (finite_map.get (numbered_behind gone come n).schemas name)
    schemas = maps.all_put nat_list_cmp_total (λ (id : ℕ). tt) schema_in come (drop_all schema_in gone n.schemas) (drop_all name_in gone cat.schemas)
        (maps.all_dropped nat_list_cmp_total (λ (id : ℕ). tt) schema_in gone n.schemas cat.schemas (λ name. unit_mapped (finite_map.get cat.schemas name) (finite_map.get n.schemas name) (of.schemas name)))

pub leads_behind : (n : Numbered) (cat : Catalog) (gone come : List Owner) → IsOf n cat → IsValid cat → CanExchange n gone come → IsValid (catalog_behind gone come cat)
    → LeadsTo n (numbered_behind gone come n) (catalog_behind gone come cat) gone come
leads_behind n cat gone come of valid can then =
    let x : Exchange n cat gone come = record { of = of; valid = valid; can = can } in
    record {
      follows = record { had = can.had; keeps = keeps n cat gone come x; new = new n cat gone come x; comes = comes n cat gone come x };
      of = is_behind n cat gone come of;
      valid = then;
    }
