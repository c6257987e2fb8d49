-- CREATE TABLE LIKE.
use Rattle.std.specs.Prelude.{◌≡◌, ℕ, Bool, true, false, ◌&&◌, [], Option, Some, None, if◌then◌else◌, refl}
use Rattle.std.specs.List.{list_all}
use Rattle.std.specs.FinMap as finite_map
use Rattle.std.proofs.Common.{sym, ap, subst}
use Rattle.std.proofs.lemmas.Bool.{and_parts, and_from}
use Rattle.dd_names.specs.declared.object_name.ObjName.{ObjName}
use Rattle.sql_types.specs.declared.words.ObjRef.{ObjRef}
use Rattle.sql_ast.specs.Names.{session_is_named}
use Rattle.sql_ast.specs.Names as says
use Rattle.sql_ast.specs.declared.session.SessionState.{SessionState}
use Rattle.dd_definitions.specs.Columns.{are_columns_formed}
use Rattle.dd_definitions.specs.Indexes.{are_indexes_formed, are_autos_formed}
use Rattle.dd_definitions.specs.ForeignKeys.{are_foreign_keys_formed}
use Rattle.dd_definitions.specs.Named.{is_object_named, is_column_named, is_index_named, is_foreign_key_named, has_names}
use Rattle.dd_definitions.specs.WellFormed.{is_well_formed}
use Rattle.dd_definitions.specs.declared.parts.TableParts.{TableParts}
use Rattle.dd_catalog.specs.Asked.{fine_is, bind_fine}
use Rattle.dd_catalog.specs.Catalog.{Catalog, Placed, Table, View, object_seen, all_of}
use Rattle.dd_catalog.specs.Sights.{Sight}
use Rattle.dd_catalog.specs.Valid.{Has, IsValid}
use Rattle.dd_catalog.specs.Walks.{done, fine, run}
use Rattle.rules_outcome.specs.Choices.{Choice, catalog_behind, takes_space}
use Rattle.rules_refusals.specs.Refusals.{table_exists}
use Rattle.rules_named.specs.Named.{is_nothing, own_schema_there, resolved, unless}
use Rattle.rules_create.specs.Tables.{table_made}
use Rattle.rules_tables.specs.Likes.{Two, both_named, both_resolved, both_schemas_there, create_like, like, like_named, source_seen}
use Rattle.rules_valid.specs.Keeps.{HasNumber, KeepsNamed, KeepsValid, MakesOneSpace}
use Rattle.rules_valid.proofs.Created.{IsNewTable, with_table_valid}
use Rattle.rules_valid.proofs.Readings.{unless_valid}
use Rattle.rules_valid.proofs.Resolved.{resolved_named}
use Rattle.rules_valid.proofs.Sessions.{LeavesNamed, keeps_so, unless_leaves}
use Rattle.rules_valid.proofs.Spaces.{Ends, KeepsNone, ends_after, makes_one, unless_ends}
use Rattle.rules_valid.proofs.Tables.{nothing_there, schema_is_there}

-- ## The table that is made

like_is_formed : (table : ObjName) (parts : TableParts) → is_well_formed parts ≡ true → is_well_formed (like table parts) ≡ true
unfolding is_well_formed are_foreign_keys_formed
like_is_formed table parts formed =
    let front = are_columns_formed parts.columns && are_indexes_formed parts.columns parts.indexes && are_autos_formed parts.columns parts.indexes in
    let (lists, _) = and_parts front (are_foreign_keys_formed parts.columns parts.indexes parts.foreign_keys) formed in
    and_from front (are_foreign_keys_formed parts.columns parts.indexes []) lists refl

like_has_names : (table : ObjName) (parts : TableParts) → is_object_named table ≡ true → has_names parts ≡ true → has_names (like table parts) ≡ true
unfolding has_names
like_has_names table parts own named =
    let columns = list_all is_column_named parts.columns in
    let indexes = list_all is_index_named parts.indexes in
    let (front, _) = and_parts (is_object_named parts.name && columns && indexes) (list_all is_foreign_key_named parts.foreign_keys) named in
    let (first, indexes_are) = and_parts (is_object_named parts.name && columns) indexes front in
    let (_, columns_are) = and_parts (is_object_named parts.name) columns first in
    and_from (is_object_named table && columns && indexes) true (and_from (is_object_named table && columns) indexes (and_from (is_object_named table) columns own columns_are) indexes_are) refl

like_is_new : (cat : Catalog) (table : ObjName) (parts : TableParts) → finite_map.contains_key cat.schemas table.schema ≡ true → finite_map.get cat.objects table ≡ None → is_object_named table ≡ true
    → is_well_formed parts ≡ true → has_names parts ≡ true → IsNewTable cat table (like table parts)
like_is_new cat table parts schema absent own formed names = record {
  schema = schema;
  absent = absent;
  named = refl;
  names = like_has_names table parts own names;
  formed = like_is_formed table parts formed;
  free = refl;
  fit = refl;
}

-- ## What is named, and what is seen

both_are : (cat : Catalog) (session : SessionState) (ref source : ObjRef) (names : Two) → session_is_named session ≡ true → says.is_object_named ref ≡ true → run (all_of cat) (both_named session ref source) ≡ fine names
    → (is_object_named names.table ≡ true) × (finite_map.contains_key cat.schemas names.table.schema ≡ true)
unfolding both_named both_resolved both_schemas_there
both_are cat session ref source names current said is =
    let (both, resolved_so, after_both) = bind_fine (all_of cat) (both_resolved session ref source) _ names is in
    let (made, found, after_made) = bind_fine (all_of cat) (resolved session.current ref) _ both resolved_so in
    let (copied, other, last) = bind_fine (all_of cat) (resolved session.current source) _ both after_made in
    let (_, schemas, named) = bind_fine (all_of cat) (both_schemas_there both) _ names after_both in
    let (_, there, too) = bind_fine (all_of cat) (own_schema_there both.table) _ tt schemas in
    let own : is_object_named both.table ≡ true = subst (λ (n : Two). is_object_named n.table ≡ true) (fine_is last) (resolved_named (all_of cat) session.current ref made current said found) in
    subst (λ (n : Two). (is_object_named n.table ≡ true) × (finite_map.contains_key cat.schemas n.table.schema ≡ true)) (fine_is named) (own, schema_is_there cat both.table.schema there)

source_is : (cat : Catalog) (source : ObjName) (found : Option Placed) (parts : TableParts) → run (all_of cat) (source_seen source (object_seen found)) ≡ fine parts → (space : ℕ) × (found ≡ Some (Table space parts))
source_is cat source None parts is = cc
source_is cat source (Some (Table space its)) parts is = (space, ap (λ (p : TableParts). Some (Table space p)) (fine_is is))
source_is cat source (Some (View its)) parts is = cc

-- ## The statement

made_valid : (session : SessionState) (if_not_exists : Bool) (cat : Catalog) (space : ℕ) (choice : Choice) (table source : ObjName) (parts : TableParts) (held : ℕ) → IsValid cat → HasNumber cat space choice
    → is_object_named table ≡ true → finite_map.contains_key cat.schemas table.schema ≡ true → Has cat source (Table held parts) → (absent : Bool) → (absent ≡ true → finite_map.get cat.objects table ≡ None)
    → run (all_of cat) (if absent then done (table_made session table (like table parts)) else unless if_not_exists (table_exists table.name)) ≡ fine choice → IsValid (catalog_behind space choice cat)
made_valid session if_not_exists cat space choice table source parts held valid new own schema has true none is =
    subst (λ c. IsValid (catalog_behind space c cat)) (fine_is is)
    (with_table_valid cat space table (like table parts) valid (new (sym (ap takes_space (fine_is is)))) (like_is_new cat table parts schema (none refl) own (valid.formed source (Table held parts) has) (valid.named source (Table held parts) has)))
made_valid session if_not_exists cat space choice table source parts held valid new own schema has false none is = unless_valid (all_of cat) if_not_exists (table_exists table.name) cat space choice valid is

pub create_like_keeps : (session : SessionState) (if_not_exists : Bool) (ref source : ObjRef) → session_is_named session ≡ true → says.is_object_named ref ≡ true → KeepsValid (create_like session if_not_exists ref source)
unfolding create_like like_named
create_like_keeps session if_not_exists ref source current said = record {
  keeps = λ cat space choice valid new is.
      let (names, named, after_names) = bind_fine (all_of cat) (both_named session ref source) _ choice is in
      let (parts, copied, last) = bind_fine (all_of cat) (source_seen names.source (object_seen (finite_map.get cat.objects names.source))) _ choice after_names in
      let (own, schema) = both_are cat session ref source names current said named in
      let (held, there) = source_is cat names.source (finite_map.get cat.objects names.source) parts copied in
      made_valid session if_not_exists cat space choice names.table names.source parts held valid new own schema (record { is = there })
      (is_nothing (object_seen (finite_map.get cat.objects names.table))) (nothing_there (finite_map.get cat.objects names.table)) last;
}

-- ## Its end

like_ends : (P : Choice → Type 0) (session : SessionState) (if_not_exists : Bool) (ref source : ObjRef) → ((table : ObjName) (parts : TableParts) → P (table_made session table (like table parts)))
    → ((name : ObjName) → Ends P (unless if_not_exists (table_exists name.name))) → Ends P (create_like session if_not_exists ref source)
unfolding create_like like_named
like_ends P session if_not_exists ref source makes present =
    ends_after P (both_named session ref source) _ (λ (names : Two) seen. ends_after P (source_seen names.source seen) _ (λ (parts : TableParts) (there : Sight). on names.table parts (is_nothing there)))
  where
    on : (table : ObjName) (parts : TableParts) (absent : Bool) → Ends P (if absent then done (table_made session table (like table parts)) else unless if_not_exists (table_exists table.name))
    on table parts true = makes table parts
    on table parts false = present table

pub create_like_makes : (session : SessionState) (if_not_exists : Bool) (ref source : ObjRef) → MakesOneSpace (create_like session if_not_exists ref source)
create_like_makes session if_not_exists ref source = makes_one _ (like_ends KeepsNone session if_not_exists ref source (λ table parts. (refl, tt)) (λ name. unless_ends if_not_exists (table_exists name.name)))

pub create_like_leaves : (session : SessionState) (if_not_exists : Bool) (ref source : ObjRef) → KeepsNamed session (create_like session if_not_exists ref source)
create_like_leaves session if_not_exists ref source =
    keeps_so session (create_like session if_not_exists ref source)
    (like_ends (LeavesNamed session) session if_not_exists ref source (λ table parts named. named) (λ name. unless_leaves session if_not_exists (table_exists name.name)))
