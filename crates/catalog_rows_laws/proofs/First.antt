-- The first schema, as an instance of a change.
use Rattle.std.proofs.Common.{◌≡◌, ◌⊎◌, inl, inr, ℕ, true, false, List, [], ◌∷◌, Some, refl, sym, ap, subst, ◌∙◌, arith}
use Rattle.std.specs.FinMap as finite_map
use Rattle.std.specs.Cmp.Lexicographic.{nat_list_cmp_total}
use Rattle.dd_names.specs.Names.{IsName, is_name, name_cmp}
use Rattle.dd_names.specs.Reserved.{is_system_schema}
use Rattle.dd_names.specs.declared.object_name.ObjName.{ObjName}
use Rattle.dd_catalog.specs.Catalog.{Catalog, Placed, Table, empty_catalog, object_cmp}
use Rattle.dd_catalog.specs.Valid.{IsValid, Has as StandsIn}
use Rattle.dd_catalog.proofs.ObjectNames.{is_name_from, name_alone}
use Rattle.row_batch.specs.declared.operation.Operation.{Operation}
use Rattle.row_batch.specs.Rows.{Rows, no_rows}
use Rattle.catalog_rows.specs.Owners.{Owner, SchemaIs, ObjectIs}
use Rattle.catalog_rows.specs.Stands.{StandsWith}
use Rattle.catalog_rows.specs.Changes.{IsOne, MakesOf}
use Rattle.catalog_rows_laws.specs.Laws.{no_numbered}
use Rattle.catalog_rows_laws.specs.Beside.{ExchangesBeside}
use Rattle.catalog_rows_laws.specs.Behind.{name_in, numbered_behind, catalog_behind, CanExchange}
use Rattle.catalog_rows_laws.specs.Changing.{ComeNumbered}
use Rattle.catalog_rows_laws.proofs.Keys.{some_is}
use Rattle.catalog_rows_laws.proofs.Alone.{none_some}
use Rattle.catalog_rows_laws.proofs.Owned.{some_there}
use Rattle.catalog_rows_laws.proofs.Maps as maps
use Rattle.catalog_rows_laws.proofs.Behind.{leads_behind}
use Rattle.catalog_rows_laws.proofs.Stand.{no_owner, empty_valid, nothing_stands, change_stands}

abbrev first : List ℕ → List Owner
first name = SchemaIs name 1 ∷ []

abbrev with_first : List ℕ → Catalog
with_first name = catalog_behind [] (first name) empty_catalog

only_first : (name q : List ℕ) → finite_map.contains_key (with_first name).schemas q ≡ true → name ≡ q
only_first name q e = by (maps.put_from nat_list_cmp_total name_alone name_in (first name) empty_catalog.schemas q there.0 there.1)
  where
    there : (x : Unit {0}) × (finite_map.get (with_first name).schemas q ≡ Some x)
    there = some_there (finite_map.get (with_first name).schemas q) e

    named : (o : Owner) → SchemaIs name 1 ≡ o → name_in o ≡ Some (q, there.0) → name ≡ q
    named o same is = ap (λ (z : List ℕ × Unit {0}). z.0) (some_is (name, tt) (q, there.0) (ap name_in same ∙ is))

    by : maps.Picked nat_list_cmp_total name_alone name_in (first name) q there.0 ⊎ (finite_map.get empty_catalog.schemas q ≡ Some there.0) → name ≡ q
    by (inl p) = here p.one
      where
        here : IsOne p.owner (first name) → name ≡ q
        here (inl same) = named p.owner same p.is
        here (inr h) = absurd h
    by (inr e) = absurd (none_some there.0 (sym (finite_map.get-empty name_cmp q) ∙ e))

first_valid : (name : List ℕ) → IsName name → is_system_schema name ≡ false → IsValid (with_first name)
first_valid name named own = record {
  own_schemas = λ q there. subst (λ (z : List ℕ). is_system_schema z ≡ false) (only_first name q there) own;
  schemas_named = λ q there. subst (λ (z : List ℕ). is_name z ≡ true) (only_first name q there) (is_name_from name named);
  named = λ a placed has. absurd (none a placed has);
  schemas_there = λ a placed has. absurd (none a placed has);
  names_carried = λ a placed has. absurd (none a placed has);
  formed = λ a placed has. absurd (none a placed has);
  spaces_in_range = λ a space parts has. absurd (none a (Table space parts) has);
  spaces_distinct = λ a b space parts others has had. absurd (none a (Table space parts) has);
  constraints_distinct = λ a b placed other folded has had same one two. absurd (none a placed has);
  parents_fit = λ a space parts has. absurd (none a (Table space parts) has);
}
  where
    none : (a : ObjName) (placed : Placed) → StandsIn (with_first name) a placed → ⊥
    none a placed has = none_some placed (sym (finite_map.get-empty object_cmp a) ∙ has.is)

is_first : (P : Owner → Type 0) (name : List ℕ) → P (SchemaIs name 1) → (owner : Owner) → IsOne owner (first name) → P owner
is_first P name h owner (inl same) = subst P same h
is_first P name h owner (inr none) = absurd none

no_first_object : (name : List ℕ) (a : ObjName) (s id : ℕ) (placed : Placed) → SchemaIs name 1 ≡ ObjectIs a s id placed → ⊥
no_first_object name a s id placed e = cc

can_come : (name : List ℕ) → CanExchange no_numbered [] (first name)
can_come name = record {
  had = λ owner h. absurd h;
  once = λ a b p q same. is_first (λ (o : Owner). o ≡ b) name (is_first (λ (o : Owner). SchemaIs name 1 ≡ o) name refl b q) a p;
  free = λ a b p has same. absurd (no_owner b has);
  emptied = λ a s id placed has h. absurd h;
  inside = λ a s id placed h. absurd (none a s id placed h);
}
  where
    none : (a : ObjName) (s id : ℕ) (placed : Placed) → IsOne (ObjectIs a s id placed) (first name) → ⊥
    none a s id placed (inl same) = no_first_object name a s id placed same
    none a s id placed (inr h) = h

numbered_first : (name : List ℕ) → IsName name → ComeNumbered 1 2 [] (first name)
numbered_first name named = record {
  fits = is_first _ name (named, omega arith);
  from = is_first _ name (inl (omega arith));
  apart = λ a b p q same. is_first (λ (o : Owner). o ≡ b) name (is_first (λ (o : Owner). SchemaIs name 1 ≡ o) name refl b q) a p;
  below = is_first _ name (omega arith);
  rises = omega arith;
  room = omega arith;
}

-- rows stand for the catalog with one schema behind the puts of its row and of the counter
pub first_stands : (name : List ℕ) (operations : List Operation) (after : Rows) → IsName name → is_system_schema name ≡ false → ExchangesBeside operations [] (SchemaIs name 1 ∷ []) (Some 2) → MakesOf operations no_rows after
    → StandsWith after (numbered_behind [] (SchemaIs name 1 ∷ []) no_numbered) 2 (catalog_behind [] (SchemaIs name 1 ∷ []) empty_catalog)
first_stands name operations after named own means makes =
    change_stands operations no_rows after no_numbered (numbered_behind [] (first name) no_numbered) 1 empty_catalog (with_first name) [] (first name) (Some 2) nothing_stands
    (leads_behind no_numbered empty_catalog [] (first name) nothing_stands.numbered empty_valid (can_come name) (first_valid name named own)) (numbered_first name named) means makes
