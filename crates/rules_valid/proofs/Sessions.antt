-- Statements leave a session whose current schema is a name, or that has none.
use Rattle.std.specs.Prelude.{◌≡◌, ℕ, Bool, true, false, nat_lt, List, [], ◌∷◌, filter, length, Option, None, if◌then◌else◌, refl}
use Rattle.std.specs.FinMap as finite_map
use Rattle.dd_names.specs.Names.{is_name}
use Rattle.dd_names.specs.declared.object_name.ObjName.{ObjName}
use Rattle.dd_names.specs.declared.object_name.ObjectKey.TheVariants as keys
use Rattle.dd_errors.specs.Errors.{ErrorValue}
use Rattle.sql_types.specs.declared.words.ObjRef.{ObjRef}
use Rattle.sql_ast.specs.Names.{is_named, session_is_named}
use Rattle.sql_ast.specs.declared.element.Element.{Element}
use Rattle.sql_ast.specs.declared.session.SessionState.{SessionState}
use Rattle.sql_ast.specs.declared.table.RenamePair.{RenamePair}
use Rattle.dd_catalog.specs.Walks.{Walk, done, ◌>>=◌, refuse_if, refuse_some, each, every, picked, over}
use Rattle.rules_elements.specs.Keys.{first_given}
use Rattle.rules_outcome.specs.Choices.{NewSchema, change, Choice, Changes, session_behind}
use Rattle.rules_named.specs.Named.{is_nothing, schema_there, one_named, all_named, unless}
use Rattle.rules_refusals.specs.Refusals.{db_create_exists, db_drop_exists, beyond_limit}
use Rattle.rules_refusals.specs.Refusals as refusals
use Rattle.rules_schema.specs.Drops.{is_among, first_twice, twice_refused, is_there, is_left_out, unknown_refused, no_child_stays, tables_gone, drop_table}
use Rattle.rules_schema.specs.Listings.{names_seen, chosen_schema, show_databases, show_tables}
use Rattle.rules_schema.specs.Schemas.{is_schema_present, may_go, is_current, without_schema, schema_gone, create_database, drop_database}
use Rattle.rules_schema.specs.Sessions.{use_schema, set_tries}
use Rattle.rules_create.specs.Tables.{table_of, table_made, create_table}
use Rattle.rules_rename.specs.Renames.{Renaming, one_pair, named_pair, schemas_there, rename}
use Rattle.rules_valid.specs.Keeps.{KeepsNamed}
use Rattle.rules_valid.proofs.Spaces.{Ends, ends_after, ends_so}

-- the session behind the choice is so
abbrev pub LeavesNamed : SessionState → Choice → Type 0
LeavesNamed session choice = session_is_named session ≡ true → session_is_named (session_behind choice session) ≡ true

pub keeps_so : (session : SessionState) (check : Walk ErrorValue Choice) → Ends (LeavesNamed session) check → KeepsNamed session check
keeps_so session check ends = record { named = λ look choice named is. ends_so (LeavesNamed session) look check choice ends is named }

pub unless_leaves : (session : SessionState) (skipped : Bool) (error : ErrorValue) → Ends (LeavesNamed session) (unless skipped error)
unless_leaves session true error = λ named. named
unless_leaves session false error = tt

pub use_leaves : (session : SessionState) (name : List ℕ) → is_name name ≡ true → KeepsNamed session (use_schema session name)
unfolding use_schema
use_leaves session name said = keeps_so session (use_schema session name) (ends_after (LeavesNamed session) (schema_there name) _ (λ _ named. said))

pub set_leaves : (session : SessionState) (value : ℕ) → KeepsNamed session (set_tries session value)
unfolding set_tries
set_leaves session value = keeps_so session (set_tries session value) (λ named. named)

pub databases_leave : (session : SessionState) → KeepsNamed session show_databases
unfolding show_databases
databases_leave session = keeps_so session show_databases (λ seen named. named)

pub tables_leave : (session : SessionState) (named : Option (List ℕ)) → KeepsNamed session (show_tables session named)
unfolding show_tables
tables_leave session shown = keeps_so session (show_tables session shown)
    (ends_after (LeavesNamed session) (chosen_schema (first_given shown session.current)) _ (λ schema. ends_after (LeavesNamed session) (schema_there schema) _ (λ _ seen named. named)))

pub create_database_leaves : (session : SessionState) (if_not_exists : Bool) (name : List ℕ) → KeepsNamed session (create_database session if_not_exists name)
unfolding create_database
create_database_leaves session if_not_exists name = keeps_so session (create_database session if_not_exists name) (ends_after (LeavesNamed session) (is_schema_present name) _ on)
  where
    on : (present : Bool) → Ends (LeavesNamed session) (if present then unless if_not_exists (db_create_exists name) else done (Changes (change (keys.Schema name) NewSchema ∷ []) session))
    on true = unless_leaves session if_not_exists (db_create_exists name)
    on false = λ named. named

without_named : (session : SessionState) (name : List ℕ) → session_is_named session ≡ true → session_is_named (without_schema session name) ≡ true
without_named session name named = on (is_current session.current name)
  where
    on : (b : Bool) → is_named (if b then None else session.current) ≡ true
    on true = refl
    on false = named

schema_gone_leaves : (session : SessionState) (name : List ℕ) → Ends (LeavesNamed session) (schema_gone session name)
unfolding schema_gone
schema_gone_leaves session name = λ seen.
    ends_after (LeavesNamed session) (refuse_if (nat_lt 65536 (length (names_seen seen))) (beyond_limit "65536")) _ (λ _. ends_after (LeavesNamed session) (every (may_go name) (names_seen seen)) _ (λ _ named. without_named session name named))

pub drop_database_leaves : (session : SessionState) (if_exists : Bool) (name : List ℕ) → KeepsNamed session (drop_database session if_exists name)
unfolding drop_database
drop_database_leaves session if_exists name = keeps_so session (drop_database session if_exists name) (λ seen. on (is_nothing seen))
  where
    on : (absent : Bool) → Ends (LeavesNamed session) (if absent then unless if_exists (db_drop_exists name) else schema_gone session name)
    on true = unless_leaves session if_exists (db_drop_exists name)
    on false = schema_gone_leaves session name

pub create_table_leaves : (session : SessionState) (if_not_exists : Bool) (ref : ObjRef) (elements : List Element) → KeepsNamed session (create_table session if_not_exists ref elements)
unfolding create_table
create_table_leaves session if_not_exists ref elements = keeps_so session (create_table session if_not_exists ref elements) (ends_after (LeavesNamed session) (one_named session.current ref) _ (λ table seen. on table (is_nothing seen)))
  where
    on : (table : ObjName) (free : Bool) → Ends (LeavesNamed session) (if free then (table_of table elements >>= λ parts. done (table_made session table parts)) else unless if_not_exists (refusals.table_exists table.name))
    on table true = ends_after (LeavesNamed session) (table_of table elements) _ (λ parts named. named)
    on table false = unless_leaves session if_not_exists (refusals.table_exists table.name)

tables_gone_leave : (session : SessionState) (tables : List ObjName) → LeavesNamed session (tables_gone session tables)
tables_gone_leave session [] = λ named. named
tables_gone_leave session (table ∷ tables) = λ named. named

pub drop_table_leaves : (session : SessionState) (if_exists : Bool) (refs : List ObjRef) → KeepsNamed session (drop_table session if_exists refs)
unfolding drop_table
drop_table_leaves session if_exists refs = keeps_so session (drop_table session if_exists refs)
    (ends_after (LeavesNamed session) (all_named session.current refs) _ (λ objects.
    ends_after (LeavesNamed session) (refuse_if (nat_lt 65536 (length objects)) (beyond_limit "65536")) _ (λ _.
    ends_after (LeavesNamed session) (refuse_some (twice_refused (first_twice [] objects))) _ (λ _.
    ends_after (LeavesNamed session) (picked is_there objects) _ (λ tables.
    ends_after (LeavesNamed session) (refuse_some (if if_exists then None else unknown_refused (filter (is_left_out tables) objects))) _ (λ _.
    ends_after (LeavesNamed session) (every (no_child_stays (is_among tables)) tables) _ (λ _. tables_gone_leave session tables)))))))

pub rename_leaves : (session : SessionState) (pairs : List RenamePair) → KeepsNamed session (rename session pairs)
unfolding rename
rename_leaves session pairs = keeps_so session (rename session pairs)
    (ends_after (LeavesNamed session) (each (named_pair session.current) pairs) _ (λ named.
    ends_after (LeavesNamed session) (every schemas_there named) _ (λ _.
    ends_after (LeavesNamed session) (refuse_if (nat_lt 4096 (length named)) (beyond_limit "4096")) _ (λ _.
    ends_after (LeavesNamed session) (over one_pair (record { overlay = finite_map.empty; children = [] }) named) _ (λ (renaming : Renaming).
    ends_after (LeavesNamed session) (refuse_if (nat_lt 4096 (length renaming.children)) (beyond_limit "4096")) _ (λ _ kept. kept))))))
