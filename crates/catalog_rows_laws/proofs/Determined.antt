-- Rows determine the catalog that they stand for.
use Rattle.std.proofs.Common.{◌≡◌, ℕ, ◌<◌, ◌^◌, List, [], ◌∷◌, Option, Some, None, refl, sym, ap, subst, ◌∙◌}
use Rattle.std.specs.Option.{is_some}
use Rattle.std.specs.FinMap as finite_map
use Rattle.std.specs.Cmp.Lexicographic.{nat_list_cmp_total}
use Rattle.dd_names.specs.declared.object_name.ObjName.{ObjName}
use Rattle.dd_catalog.specs.Catalog.{Catalog, Placed}
use Rattle.dd_catalog.specs.Valid.{own_name}
use Rattle.dd_catalog.proofs.ObjectNames.{object_total, object_alone, name_alone}
use Rattle.row_batch.specs.Rows.{Rows}
use Rattle.row_fields.specs.declared.fields.Field.TheVariants.{Long}
use Rattle.row_fields.proofs.Again.{same_all}
use Rattle.catalog_rows.specs.Owners.{ObjectIs}
use Rattle.catalog_rows.specs.Stands.{Standing, Numbered, Has, IsOf, StandsWith}
use Rattle.catalog_rows_laws.proofs.Owned.{IsWith, standing, stands_in, owner_of}
use Rattle.catalog_rows_laws.proofs.Exact.{same_options}
use Rattle.catalog_rows.specs.Stands.{Counts, counter_key}
use Rattle.catalog_rows_laws.proofs.Twins.{Two, turned as two_turned, same_schema_id, twin, valued}
use Rattle.catalog_rows_laws.proofs.Values.{IsSound, Alike}
use Rattle.catalog_rows_laws.proofs.Objects.{same_object}

sound : (n : Numbered) (cat : Catalog) → IsWith n cat → (a : ObjName) (s id : ℕ) (placed : Placed) → Has n (ObjectIs a s id placed) → IsSound placed
sound n cat w a s id placed has = record {
  fits = (w.apart.fits (ObjectIs a s id placed) has).parts;
  named = w.valid.named a placed (stands_in n cat w.of a s id placed has);
  formed = w.valid.formed a placed (stands_in n cat w.of a s id placed has);
}

-- ## With the ids

same_schemas : (rows : Rows) (n m : Numbered) (cat other : Catalog) → Two rows n m cat other → (name : List ℕ) → finite_map.get n.schemas name ≡ finite_map.get m.schemas name
same_schemas rows n m cat other two name = same_options (finite_map.get n.schemas name) (finite_map.get m.schemas name)
    (λ id. same_schema_id rows n m cat other two name id) (λ id. same_schema_id rows m n other cat (two_turned rows n m cat other two) name id)

same_standing : (rows : Rows) (n m : Numbered) (cat other : Catalog) → Two rows n m cat other → (a : ObjName) (st : Standing) → finite_map.get n.objects a ≡ Some st → finite_map.get m.objects a ≡ Some st
same_standing rows n m cat other two a st e =
    let h = owner_of n cat two.left.of two.left.valid a st e in
    let t = twin rows n m cat other two a h.0 st.id st.placed h.1 in
    let alike : Alike st.placed t.with = record {
      left = sound n cat two.left a h.0 st.id st.placed h.1;
      right = sound m other two.right a h.0 st.id t.with t.has;
      there = λ u x. valued rows n m cat other two a h.0 st.id st.placed t.with h.1 t.has u x;
      back = λ u x. valued rows m n other cat (two_turned rows n m cat other two) a h.0 st.id t.with st.placed t.has h.1 u x;
    } in
    let names : own_name st.placed ≡ own_name t.with =
    two.left.valid.names_carried a st.placed (stands_in n cat two.left.of a h.0 st.id st.placed h.1) ∙ sym (two.right.valid.names_carried a t.with (stands_in m other two.right.of a h.0 st.id t.with t.has)) in
    let same : st.placed ≡ t.with = same_object st.id st.placed t.with alike names t.head in
    t.has.1 ∙ ap (λ (p : Placed). Some (standing st.id p)) (sym same)

same_objects : (rows : Rows) (n m : Numbered) (cat other : Catalog) → Two rows n m cat other → (a : ObjName) → finite_map.get n.objects a ≡ finite_map.get m.objects a
same_objects rows n m cat other two a = same_options (finite_map.get n.objects a) (finite_map.get m.objects a)
    (λ st. same_standing rows n m cat other two a st) (λ st. same_standing rows m n other cat (two_turned rows n m cat other two) a st)

same_numbered : (rows : Rows) (n m : Numbered) (cat other : Catalog) → Two rows n m cat other → n ≡ m
same_numbered rows n m cat other two =
    let schemas : n.schemas ≡ m.schemas = finite_map.same_map nat_list_cmp_total name_alone n.schemas m.schemas (same_schemas rows n m cat other two) in
    let objects : n.objects ≡ m.objects = finite_map.same_map object_total object_alone n.objects m.objects (same_objects rows n m cat other two) in
    λ i. record { schemas = schemas i; objects = objects i }

-- ## Catalogs

unit_same : (a b : Option (Unit {0})) → is_some a ≡ is_some b → a ≡ b
unit_same None None e = refl
unit_same (Some x) (Some y) e = refl
unit_same None (Some y) e = absurd cc
unit_same (Some x) None e = absurd cc

-- a catalog with ids is of one catalog alone
pub same_of : (n : Numbered) (cat other : Catalog) → IsOf n cat → IsOf n other → cat ≡ other
same_of n cat other p q =
    let schemas : cat.schemas ≡ other.schemas =
    finite_map.same_map nat_list_cmp_total name_alone cat.schemas other.schemas (λ name. unit_same (finite_map.get cat.schemas name) (finite_map.get other.schemas name) (p.schemas name ∙ sym (q.schemas name))) in
    let objects : cat.objects ≡ other.objects = finite_map.same_map object_total object_alone cat.objects other.objects (λ name. p.objects name ∙ sym (q.objects name)) in
    λ i. record { schemas = schemas i; objects = objects i }

same_next : (next more : ℕ) (value : Option (List ℕ)) → Counts next value → Counts more value → next < 2 ^ 32 → more < 2 ^ 32 → next ≡ more
same_next next more None c d low high = c ∙ sym d
same_next next more (Some value) c d low high =
    let same : Long next ∷ [] ≡ Long more ∷ [] = same_all (Long next ∷ []) (Long more ∷ []) refl (low, tt) (high, tt) (sym c ∙ d) in
    cc

pub with_ids : (rows : Rows) (n : Numbered) (next : ℕ) (cat : Catalog) → StandsWith rows n next cat → IsWith n cat
with_ids rows n next cat s = record { of = s.numbered; valid = s.valid; apart = s.apart }

-- the ids, the next number, and the catalog
pub determined : (rows : Rows) (n m : Numbered) (next more : ℕ) (cat other : Catalog) → StandsWith rows n next cat → StandsWith rows m more other → (n ≡ m) × (next ≡ more) × (cat ≡ other)
determined rows n m next more cat other s t =
    let two : Two rows n m cat other = record { left = with_ids rows n next cat s; right = with_ids rows m more other t; are = s.are; been = t.are } in
    let ids : n ≡ m = same_numbered rows n m cat other two in
    (ids, same_next next more (finite_map.get rows counter_key) s.counter t.counter s.below.fits t.below.fits, same_of m cat other (subst (λ (k : Numbered). IsOf k cat) ids s.numbered) t.numbered)
