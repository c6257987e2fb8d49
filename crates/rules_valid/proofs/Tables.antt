-- CREATE TABLE.
use Rattle.std.specs.Prelude.{◌≡◌, ℕ, Bool, true, false, List, Option, Some, None, if◌then◌else◌, refl}
use Rattle.std.specs.List.{list_all}
use Rattle.std.specs.FinMap as finite_map
use Rattle.std.proofs.Common.{subst, sym, ap}
use Rattle.dd_names.specs.declared.object_name.ObjName.{ObjName}
use Rattle.sql_types.specs.declared.words.ObjRef.{ObjRef}
use Rattle.sql_ast.specs.Names.{is_element_named, session_is_named}
use Rattle.sql_ast.specs.Names as says
use Rattle.sql_ast.specs.declared.element.Element.{Element}
use Rattle.sql_ast.specs.declared.session.SessionState.{SessionState}
use Rattle.dd_definitions.specs.Named.{is_object_named}
use Rattle.dd_catalog.specs.Catalog.{Catalog, Placed, Table, View, schema_seen, object_seen, all_of}
use Rattle.dd_catalog.specs.Valid.{IsValid}
use Rattle.dd_catalog.specs.Walks.{done, ◌>>=◌, fine, run}
use Rattle.dd_catalog.specs.Asked.{fine_is, bind_fine}
use Rattle.rules_outcome.specs.Choices.{Choice, catalog_behind, takes_space}
use Rattle.rules_refusals.specs.Refusals as refusals
use Rattle.rules_named.specs.Named.{is_nothing, resolved, schema_there, one_named, unless}
use Rattle.rules_create.specs.Tables.{table_of, table_made, create_table}
use Rattle.rules_create.proofs.Names.{not_refused}
use Rattle.rules_valid.specs.Keeps.{HasNumber, KeepsValid}
use Rattle.rules_valid.proofs.Created.{with_table_valid}
use Rattle.rules_valid.proofs.Fits.{table_is_new}
use Rattle.rules_valid.proofs.MadeNamed.{table_has_names}
use Rattle.rules_valid.proofs.Readings.{unless_valid}
use Rattle.rules_valid.proofs.Resolved.{one_is_named}

-- ## The name

pub schema_is_there : (cat : Catalog) (name : List ℕ) → run (all_of cat) (schema_there name) ≡ fine tt → finite_map.contains_key cat.schemas name ≡ true
unfolding schema_there
schema_is_there cat name is = on (finite_map.contains_key cat.schemas name) (not_refused (all_of cat) (is_nothing (schema_seen (finite_map.contains_key cat.schemas name))) (refusals.bad_db name) tt is)
  where
    on : (b : Bool) → is_nothing (schema_seen b) ≡ false → b ≡ true
    on true seen = refl
    on false seen = cc

named_there : (cat : Catalog) (current : Option (List ℕ)) (ref : ObjRef) (table : ObjName) → run (all_of cat) (one_named current ref) ≡ fine table → finite_map.contains_key cat.schemas table.schema ≡ true
unfolding one_named
named_there cat current ref table is =
    let (object, found, after_name) = bind_fine (all_of cat) (resolved current ref) _ table is in
    let (_, there, last) = bind_fine (all_of cat) (schema_there object.schema) _ table after_name in
    subst (λ (o : ObjName). finite_map.contains_key cat.schemas o.schema ≡ true) (fine_is last) (schema_is_there cat object.schema there)

pub nothing_there : (found : Option Placed) → is_nothing (object_seen found) ≡ true → found ≡ None
nothing_there None is = refl
nothing_there (Some (Table space parts)) is = cc
nothing_there (Some (View parts)) is = cc

-- ## The statement

made_valid : (session : SessionState) (table : ObjName) (elements : List Element) → list_all is_element_named elements ≡ true → (cat : Catalog) (space : ℕ) (choice : Choice) → is_object_named table ≡ true → IsValid cat → HasNumber cat space choice → finite_map.contains_key cat.schemas table.schema ≡ true → finite_map.get cat.objects table ≡ None
    → run (all_of cat) (table_of table elements >>= λ parts. done (table_made session table parts)) ≡ fine choice → IsValid (catalog_behind space choice cat)
made_valid session table elements said cat space choice own valid new schema absent is =
    let (parts, made, last) = bind_fine (all_of cat) (table_of table elements) _ choice is in
    subst (λ c. IsValid (catalog_behind space c cat)) (fine_is last) (with_table_valid cat space table parts valid (new (sym (ap takes_space (fine_is last)))) (table_is_new cat table elements parts valid schema absent made (table_has_names cat table elements parts valid own said made)))

pub create_table_keeps : (session : SessionState) (if_not_exists : Bool) (ref : ObjRef) (elements : List Element) → session_is_named session ≡ true → says.is_object_named ref ≡ true → list_all is_element_named elements ≡ true → KeepsValid (create_table session if_not_exists ref elements)
unfolding create_table
create_table_keeps session if_not_exists ref elements current written said = record {
  keeps = λ cat space choice valid new is.
      let (table, named, after_name) = bind_fine (all_of cat) (one_named session.current ref) _ choice is in
      on cat space choice valid new table (one_is_named (all_of cat) session.current ref table current written named) (named_there cat session.current ref table named) (is_nothing (object_seen (finite_map.get cat.objects table))) (nothing_there (finite_map.get cat.objects table)) after_name;
}
  where
    on : (cat : Catalog) (space : ℕ) (choice : Choice) → IsValid cat → HasNumber cat space choice → (table : ObjName) → is_object_named table ≡ true → finite_map.contains_key cat.schemas table.schema ≡ true → (b : Bool) → (b ≡ true → finite_map.get cat.objects table ≡ None)
        → run (all_of cat) (if b then (table_of table elements >>= λ parts. done (table_made session table parts)) else unless if_not_exists (refusals.table_exists table.name)) ≡ fine choice → IsValid (catalog_behind space choice cat)
    on cat space choice valid new table own schema true absent is = made_valid session table elements said cat space choice own valid new schema (absent refl) is
    on cat space choice valid new table own schema false absent is = unless_valid (all_of cat) if_not_exists (refusals.table_exists table.name) cat space choice valid is
