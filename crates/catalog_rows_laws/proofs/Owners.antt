-- Each catalog with ids has a list of its owners.
use Rattle.std.proofs.Common.{◌≡◌, ◌⊎◌, inl, inr, ℕ, Bool, true, false, List, [], ◌∷◌, ◌++◌, Option, Some, None, refl, sym, ap, subst, ◌∙◌}
use Rattle.std.specs.Prelude.{◌||◌}
use Rattle.std.specs.List.{flat_map, list_any}
use Rattle.std.specs.Option.{is_some}
use Rattle.std.specs.Ordering.{eq_by_cmp}
use Rattle.std.specs.FinMap as finite_map
use Rattle.dd_names.specs.Names.{name_cmp}
use Rattle.dd_names.specs.declared.object_name.ObjName.{ObjName}
use Rattle.dd_catalog.specs.Catalog.{Placed, object_cmp}
use Rattle.dd_catalog.proofs.ObjectNames.{equal, object_alone, name_alone}
use Rattle.catalog_rows.specs.Owners.{Owner, SchemaIs, ObjectIs}
use Rattle.catalog_rows.specs.Stands.{Standing, Numbered, Has}
use Rattle.catalog_rows.specs.Changes.{IsOne}
use Rattle.catalog_rows_laws.specs.Laws.{ListsOwners, schema_at, object_at, owners_in}

one_first : (owner : Owner) (xs ys : List Owner) → IsOne owner xs → IsOne owner (xs ++ ys)
one_first owner [] ys h = absurd h
one_first owner (x ∷ xs) ys (inl e) = inl e
one_first owner (x ∷ xs) ys (inr h) = inr (one_first owner xs ys h)

one_second : (owner : Owner) (xs ys : List Owner) → IsOne owner ys → IsOne owner (xs ++ ys)
one_second owner [] ys h = h
one_second owner (x ∷ xs) ys h = inr (one_second owner xs ys h)

one_either : (owner : Owner) (xs ys : List Owner) → IsOne owner (xs ++ ys) → IsOne owner xs ⊎ IsOne owner ys
one_either owner [] ys h = inr h
one_either owner (x ∷ xs) ys (inl e) = inl (inl e)
one_either owner (x ∷ xs) ys (inr h) = by (one_either owner xs ys h)
  where
    by : IsOne owner xs ⊎ IsOne owner ys → IsOne owner (x ∷ xs) ⊎ IsOne owner ys
    by (inl h) = inl (inr h)
    by (inr h) = inr h

flat_has : {K : Type 0} (make : K → List Owner) (test : K → Bool) (ks : List K) (owner : Owner) → list_any test ks ≡ true → ((k : K) → test k ≡ true → IsOne owner (make k)) → IsOne owner (flat_map make ks)
flat_has make test [] owner e h = absurd cc
flat_has make test (k ∷ ks) owner e h = by (test k) refl e (λ e. flat_has make test ks owner e h)
  where
    by : (b : Bool) → test k ≡ b → (b || list_any test ks) ≡ true → (list_any test ks ≡ true → IsOne owner (flat_map make ks)) → IsOne owner (make k ++ flat_map make ks)
    by true t e rest = one_first owner (make k) (flat_map make ks) (h k t)
    by false t e rest = one_second owner (make k) (flat_map make ks) (rest e)

flat_from : {K : Type 0} (make : K → List Owner) (ks : List K) (owner : Owner) → IsOne owner (flat_map make ks) → (k : K) × IsOne owner (make k)
flat_from make [] owner h = absurd h
flat_from {K = K} make (k ∷ ks) owner h = by (one_either owner (make k) (flat_map make ks) h) (flat_from make ks owner)
  where
    by : IsOne owner (make k) ⊎ IsOne owner (flat_map make ks) → (IsOne owner (flat_map make ks) → (x : K) × IsOne owner (make x)) → (x : K) × IsOne owner (make x)
    by (inl h) rest = (k, h)
    by (inr h) rest = rest h

abbrev schemas_of : Numbered → List ℕ → List Owner
schemas_of n name = schema_at name (finite_map.get n.schemas name)

abbrev objects_of : Numbered → ObjName → List Owner
objects_of n name = object_at name (finite_map.get n.schemas name.schema) (finite_map.get n.objects name)

schema_listed : (n : Numbered) (name : List ℕ) (id : ℕ) → finite_map.get n.schemas name ≡ Some id → IsOne (SchemaIs name id) (flat_map (schemas_of n) (finite_map.keys n.schemas))
schema_listed n name id e = flat_has (schemas_of n) (eq_by_cmp name_cmp name) (finite_map.keys n.schemas) (SchemaIs name id) (sym (finite_map.contains_key-keys n.schemas name) ∙ ap is_some e)
    (λ k t. subst (λ (q : List ℕ). IsOne (SchemaIs name id) (schemas_of n q)) (name_alone name k (equal (name_cmp name k) t)) (subst (λ (o : Option ℕ). IsOne (SchemaIs name id) (schema_at name o)) (sym e) (inl refl)))

object_here : (name : ObjName) (schema id : ℕ) (placed : Placed) (o : Option ℕ) (st : Option Standing) → o ≡ Some schema → st ≡ Some (record { id = id; placed = placed }) → IsOne (ObjectIs name schema id placed) (object_at name o st)
object_here name schema id placed o st e f = subst (λ (p : Option ℕ). IsOne (ObjectIs name schema id placed) (object_at name p st)) (sym e)
    (subst (λ (p : Option Standing). IsOne (ObjectIs name schema id placed) (object_at name (Some schema) p)) (sym f) (inl refl))

object_listed : (n : Numbered) (name : ObjName) (schema id : ℕ) (placed : Placed) → Has n (ObjectIs name schema id placed) → IsOne (ObjectIs name schema id placed) (flat_map (objects_of n) (finite_map.keys n.objects))
object_listed n name schema id placed has = flat_has (objects_of n) (eq_by_cmp object_cmp name) (finite_map.keys n.objects) (ObjectIs name schema id placed) (sym (finite_map.contains_key-keys n.objects name) ∙ ap is_some has.1)
    (λ k t. subst (λ (q : ObjName). IsOne (ObjectIs name schema id placed) (objects_of n q)) (object_alone name k (equal (object_cmp name k) t))
    (object_here name schema id placed (finite_map.get n.schemas name.schema) (finite_map.get n.objects name) has.0 has.1))

schema_had : (n : Numbered) (name : List ℕ) (o : Option ℕ) (owner : Owner) → finite_map.get n.schemas name ≡ o → IsOne owner (schema_at name o) → Has n owner
schema_had n name None owner e h = absurd h
schema_had n name (Some id) owner e (inl same) = subst (Has n) same e
schema_had n name (Some id) owner e (inr h) = absurd h

object_had : (n : Numbered) (name : ObjName) (o : Option ℕ) (st : Option Standing) (owner : Owner) → finite_map.get n.schemas name.schema ≡ o → finite_map.get n.objects name ≡ st → IsOne owner (object_at name o st) → Has n owner
object_had n name None st owner e f h = absurd h
object_had n name (Some schema) None owner e f h = absurd h
object_had n name (Some schema) (Some st) owner e f (inl same) = subst (Has n) same (e, f)
object_had n name (Some schema) (Some st) owner e f (inr h) = absurd h

pub lists_owners : (n : Numbered) → ListsOwners n (owners_in n)
lists_owners n = record { all = all; only = only }
  where
    all : (owner : Owner) → Has n owner → IsOne owner (owners_in n)
    all (SchemaIs name id) has = one_first (SchemaIs name id) (flat_map (schemas_of n) (finite_map.keys n.schemas)) (flat_map (objects_of n) (finite_map.keys n.objects)) (schema_listed n name id has)
    all (ObjectIs name schema id placed) has =
        one_second (ObjectIs name schema id placed) (flat_map (schemas_of n) (finite_map.keys n.schemas)) (flat_map (objects_of n) (finite_map.keys n.objects)) (object_listed n name schema id placed has)

    by : (owner : Owner) → IsOne owner (flat_map (schemas_of n) (finite_map.keys n.schemas)) ⊎ IsOne owner (flat_map (objects_of n) (finite_map.keys n.objects)) → Has n owner
    by owner (inl h) = let k = flat_from (schemas_of n) (finite_map.keys n.schemas) owner h in schema_had n k.0 (finite_map.get n.schemas k.0) owner refl k.1
    by owner (inr h) =
        let k = flat_from (objects_of n) (finite_map.keys n.objects) owner h in
        object_had n k.0 (finite_map.get n.schemas k.0.schema) (finite_map.get n.objects k.0) owner refl refl k.1

    only : (owner : Owner) → IsOne owner (owners_in n) → Has n owner
    only owner h = by owner (one_either owner (flat_map (schemas_of n) (finite_map.keys n.schemas)) (flat_map (objects_of n) (finite_map.keys n.objects)) h)
