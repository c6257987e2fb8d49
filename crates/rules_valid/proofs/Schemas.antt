-- CREATE DATABASE.
use Rattle.std.specs.Prelude.{◌≡◌, ℕ, Bool, true, false, cond, ◌||◌, List, [], ◌∷◌, Some, Option, None, if◌then◌else◌, refl}
use Rattle.std.specs.FinMap as finite_map
use Rattle.std.specs.Option.{is_some}
use Rattle.std.specs.Ordering.{eq_by_cmp}
use Rattle.std.specs.Str.{bytes_eq}
use Rattle.std.proofs.Common.{sym, ◌∙◌, ap, subst, inl, inr}
use Rattle.std.proofs.lemmas.Bool.{or_cases, or_right}
use Rattle.std.proofs.lemmas.Cmp.{nat_list_cmp_total}
use Rattle.std.proofs.lemmas.Map.Text.{is_eq-slice_cmp}
use Rattle.dd_names.specs.Names.{is_name, name_cmp}
use Rattle.dd_names.specs.Reserved.{is_system_schema}
use Rattle.dd_names.specs.declared.object_name.ObjectKey.TheVariants as keys
use Rattle.dd_errors.specs.Errors.{ErrorValue}
use Rattle.sql_ast.specs.declared.session.SessionState.{SessionState}
use Rattle.dd_catalog.specs.Catalog.{Catalog, NameSet, all_of}
use Rattle.dd_catalog.specs.Valid.{IsValid}
use Rattle.dd_catalog.specs.Walks.{done, ◌>>=◌, fine, run, look_at}
use Rattle.dd_catalog.specs.WalkLaws.{Look}
use Rattle.dd_catalog.specs.Asked.{fine_is, bind_fine}
use Rattle.rules_outcome.specs.Choices.{NewSchema, change, Choice, Changes, catalog_behind}
use Rattle.rules_refusals.specs.Refusals.{db_create_exists}
use Rattle.rules_named.specs.Named.{is_nothing, unless}
use Rattle.rules_schema.specs.Schemas.{is_schema_present, create_database}
use Rattle.rules_create.proofs.Names.{bytes_are}
use Rattle.rules_valid.specs.Keeps.{KeepsValid}
use Rattle.rules_valid.proofs.Readings.{unless_valid}

-- ## Sets of names

is_there : (b : Bool) (found : Option (Unit {0})) → is_some (cond b (Some tt) found) ≡ (b || is_some found)
is_there true found = refl
is_there false found = refl

pub contains_inserted : (schemas : NameSet) (name q : List ℕ) → finite_map.contains_key (finite_map.insert schemas name tt) q ≡ (bytes_eq q name || finite_map.contains_key schemas q)
contains_inserted schemas name q =
    ap is_some (finite_map.get-insert nat_list_cmp_total schemas name tt q)
    ∙ is_there (eq_by_cmp name_cmp q name) (finite_map.get schemas q)
    ∙ ap (λ b. b || finite_map.contains_key schemas q) (is_eq-slice_cmp q name)

is_left : (b : Bool) (found : Option (Unit {0})) → is_some (cond b None found) ≡ cond b false (is_some found)
is_left true found = refl
is_left false found = refl

pub contains_without : (schemas : NameSet) (name q : List ℕ) → finite_map.contains_key (finite_map.remove schemas name) q ≡ cond (bytes_eq q name) false (finite_map.contains_key schemas q)
contains_without schemas name q =
    ap is_some (finite_map.get-remove nat_list_cmp_total schemas name q)
    ∙ is_left (eq_by_cmp name_cmp q name) (finite_map.get schemas q)
    ∙ ap (λ b. cond b false (finite_map.contains_key schemas q)) (is_eq-slice_cmp q name)

-- ## The new schema

abbrev with_schema : Catalog → List ℕ → Catalog
with_schema cat name = record cat { schemas = finite_map.insert cat.schemas name tt }

with_schema_valid : (cat : Catalog) (name : List ℕ) → IsValid cat → is_system_schema name ≡ false → is_name name ≡ true → IsValid (with_schema cat name)
with_schema_valid cat name valid own named = record {
  own_schemas = λ q there. elim (or_cases (bytes_eq q name) (finite_map.contains_key cat.schemas q) (sym (contains_inserted cat.schemas name q) ∙ there)) [
    | inl new ↦ ap is_system_schema (bytes_are q name new) ∙ own
    | inr before ↦ valid.own_schemas q before
  ];
  schemas_named = λ q there. elim (or_cases (bytes_eq q name) (finite_map.contains_key cat.schemas q) (sym (contains_inserted cat.schemas name q) ∙ there)) [
    | inl new ↦ ap is_name (bytes_are q name new) ∙ named
    | inr before ↦ valid.schemas_named q before
  ];
  named = λ q placed has. valid.named q placed (record { is = has.is });
  schemas_there = λ q placed has. contains_inserted cat.schemas name q.schema ∙ or_right (bytes_eq q.schema name) (finite_map.contains_key cat.schemas q.schema) (valid.schemas_there q placed (record { is = has.is }));
  names_carried = λ q placed has. valid.names_carried q placed (record { is = has.is });
  formed = λ q placed has. valid.formed q placed (record { is = has.is });
  spaces_in_range = λ q space parts has. valid.spaces_in_range q space parts (record { is = has.is });
  spaces_distinct = λ a b space parts others has other. valid.spaces_distinct a b space parts others (record { is = has.is }) (record { is = other.is });
  constraints_distinct = λ a b placed other folded has there same one two. valid.constraints_distinct a b placed other folded (record { is = has.is }) (record { is = there.is }) same one two;
  parents_fit = λ q space parts has. valid.parents_fit q space parts (record { is = has.is });
}

-- a name that isn't there isn't one that the server has for itself
own_name_is : (look : Look) (name : List ℕ) → run look (is_schema_present name) ≡ fine false → is_system_schema name ≡ false
unfolding is_schema_present
own_name_is look name is = on (is_system_schema name) refl is
  where
    on : (b : Bool) → is_system_schema name ≡ b → run {E = ErrorValue} look (if b then done true else (look_at (keys.Schema name) >>= λ seen. done (if is_nothing seen then false else true))) ≡ fine false → is_system_schema name ≡ false
    on true own is = let wrong : true ≡ false = fine_is is in cc
    on false own is = own

pub create_keeps : (session : SessionState) (if_not_exists : Bool) (name : List ℕ) → is_name name ≡ true → KeepsValid (create_database session if_not_exists name)
unfolding create_database
create_keeps session if_not_exists name named = record {
  keeps = λ cat space choice valid new is.
      let (present, looked, rest) = bind_fine (all_of cat) (is_schema_present name) _ choice is in
      on cat space choice valid present looked rest;
}
  where
    on : (cat : Catalog) (space : ℕ) (choice : Choice) → IsValid cat → (present : Bool) → run (all_of cat) (is_schema_present name) ≡ fine present
        → run (all_of cat) (if present then unless if_not_exists (db_create_exists name) else done (Changes (change (keys.Schema name) NewSchema ∷ []) session)) ≡ fine choice → IsValid (catalog_behind space choice cat)
    on cat space choice valid true looked is = unless_valid (all_of cat) if_not_exists (db_create_exists name) cat space choice valid is
    on cat space choice valid false looked is = subst (λ c. IsValid (catalog_behind space c cat)) (fine_is is) (with_schema_valid cat name valid (own_name_is (all_of cat) name looked) named)
