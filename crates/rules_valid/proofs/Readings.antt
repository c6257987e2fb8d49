-- The empty catalog is valid, and statements that change no catalog leave it valid.
use Rattle.std.specs.Prelude.{◌≡◌, ℕ, Bool, true, false, List, Option}
use Rattle.std.specs.FinMap as finite_map
use Rattle.std.specs.Option.{is_some}
use Rattle.std.proofs.Common.{sym, ◌∙◌, ap, subst}
use Rattle.std.proofs.lemmas.Bool.{true≢false}
use Rattle.dd_names.specs.Names.{name_cmp}
use Rattle.dd_names.specs.declared.object_name.ObjName.{ObjName}
use Rattle.dd_errors.specs.Errors.{ErrorValue}
use Rattle.sql_ast.specs.declared.session.SessionState.{SessionState}
use Rattle.dd_catalog.specs.Catalog.{Catalog, Placed, Table, object_cmp, empty_catalog, all_of}
use Rattle.dd_catalog.specs.Valid.{Has, IsValid}
use Rattle.dd_catalog.specs.Walks.{fine, run}
use Rattle.dd_catalog.specs.WalkLaws.{Look}
use Rattle.dd_catalog.specs.Asked.{fine_is, bind_fine}
use Rattle.rules_elements.specs.Keys.{first_given}
use Rattle.rules_outcome.specs.Choices.{Choice, catalog_behind}
use Rattle.rules_named.specs.Named.{schema_there, unless}
use Rattle.rules_schema.specs.Listings.{chosen_schema, show_databases, show_tables}
use Rattle.rules_schema.specs.Sessions.{use_schema, set_tries}
use Rattle.rules_valid.specs.Keeps.{KeepsValid}

-- ## The empty catalog

no_schema : (name : List ℕ) → finite_map.contains_key empty_catalog.schemas name ≡ true → ⊥
no_schema name there = true≢false (sym there ∙ ap is_some (finite_map.get-empty name_cmp name))

no_object : (name : ObjName) (placed : Placed) → Has empty_catalog name placed → ⊥
no_object name placed has = true≢false (ap is_some (sym has.is) ∙ ap is_some (finite_map.get-empty object_cmp name))

pub empty_valid : IsValid empty_catalog
empty_valid = record {
  own_schemas = λ name there. absurd (no_schema name there);
  schemas_named = λ name there. absurd (no_schema name there);
  named = λ name placed has. absurd (no_object name placed has);
  schemas_there = λ name placed has. absurd (no_object name placed has);
  names_carried = λ name placed has. absurd (no_object name placed has);
  formed = λ name placed has. absurd (no_object name placed has);
  spaces_in_range = λ name space parts has. absurd (no_object name (Table space parts) has);
  spaces_distinct = λ a b space parts others has other. absurd (no_object a (Table space parts) has);
  constraints_distinct = λ a b placed other folded has there same one two. absurd (no_object a placed has);
  parents_fit = λ name space parts has. absurd (no_object name (Table space parts) has);
}

-- ## Statements that change no catalog

pub unless_valid : (look : Look) (skipped : Bool) (error : ErrorValue) (cat : Catalog) (space : ℕ) (choice : Choice) → IsValid cat → run look (unless skipped error) ≡ fine choice → IsValid (catalog_behind space choice cat)
unless_valid look true error cat space choice valid is = subst (λ c. IsValid (catalog_behind space c cat)) (fine_is is) valid
unless_valid look false error cat space choice valid is = cc

pub use_keeps : (session : SessionState) (name : List ℕ) → KeepsValid (use_schema session name)
unfolding use_schema
use_keeps session name = record {
  keeps = λ cat space choice valid new is.
      let (_, there, last) = bind_fine (all_of cat) (schema_there name) _ choice is in
      subst (λ c. IsValid (catalog_behind space c cat)) (fine_is last) valid;
}

pub set_keeps : (session : SessionState) (value : ℕ) → KeepsValid (set_tries session value)
unfolding set_tries
set_keeps session value = record { keeps = λ cat space choice valid new is. subst (λ c. IsValid (catalog_behind space c cat)) (fine_is is) valid }

pub databases_keep : KeepsValid show_databases
unfolding show_databases
databases_keep = record { keeps = λ cat space choice valid new is. subst (λ c. IsValid (catalog_behind space c cat)) (fine_is is) valid }

pub tables_keep : (session : SessionState) (named : Option (List ℕ)) → KeepsValid (show_tables session named)
unfolding show_tables
tables_keep session named = record {
  keeps = λ cat space choice valid new is.
      let (schema, chosen, after_schema) = bind_fine (all_of cat) (chosen_schema (first_given named session.current)) _ choice is in
      let (_, there, last) = bind_fine (all_of cat) (schema_there schema) _ choice after_schema in
      subst (λ c. IsValid (catalog_behind space c cat)) (fine_is last) valid;
}
