-- CREATE DATABASE and DROP DATABASE.
use Rattle.std.specs.Prelude.{ℕ, Bool, true, false, nat_lt, List, [], ◌∷◌, ◌++◌, map, length, Option, Some, None, if◌then◌else◌}
use Rattle.std.specs.Str.{bytes_eq}
use Rattle.dd_names.specs.Reserved.{is_system_schema}
use Rattle.dd_names.specs.declared.object_name.ObjName.{ObjName}
use Rattle.dd_names.specs.declared.object_name.ObjectKey.TheVariants as keys
use Rattle.dd_errors.specs.Errors.{ErrorValue}
use Rattle.sql_ast.specs.declared.session.SessionState.{SessionState}
use Rattle.dd_catalog.specs.Walks.{Walk, done, ◌>>=◌, look_at, refuse_if, every}
use Rattle.rules_outcome.specs.Choices.{Gone, NewSchema, Change, change, Choice, Changes}
use Rattle.rules_refusals.specs.Refusals.{db_create_exists, db_drop_exists, beyond_limit}
use Rattle.rules_named.specs.Named.{object_in, is_nothing, unless}
use Rattle.rules_schema.specs.Listings.{names_seen}
use Rattle.rules_schema.specs.Drops.{is_table, no_child_stays, gone}

-- ## CREATE DATABASE

-- a schema that the server has for itself is there, and no key is looked at
unfoldable pub is_schema_present : List ℕ → Walk ErrorValue Bool
is_schema_present name = if is_system_schema name then done true else (look_at (keys.Schema name) >>= λ seen. done (if is_nothing seen then false else true))

-- CREATE DATABASE. Present: done without change with IF NOT EXISTS, else 1007. The schema is added.
unfoldable pub create_database : SessionState → Bool → List ℕ → Walk ErrorValue Choice
create_database session if_not_exists name = do
  present ← is_schema_present name
  if present then unless if_not_exists (db_create_exists name) else done (Changes (change (keys.Schema name) NewSchema ∷ []) session)

-- ## DROP DATABASE

abbrev pub is_in : List ℕ → ObjName → Bool
is_in schema object = bytes_eq object.schema schema

-- a table of the schema has no child outside it
unfoldable pub may_go : List ℕ → List ℕ → Walk ErrorValue (Unit {0})
may_go schema name = do
  seen ← look_at (keys.Object (object_in schema name))
  if is_table seen then no_child_stays (is_in schema) (object_in schema name) else done tt

abbrev pub is_current : Option (List ℕ) → List ℕ → Bool
is_current None name = false
is_current (Some schema) name = bytes_eq schema name

-- the current schema is none if it was this one
abbrev pub without_schema : SessionState → List ℕ → SessionState
without_schema session name = record session { current = if is_current session.current name then None else session.current }

abbrev pub all_gone : List ℕ → List (List ℕ) → List Change
all_gone schema names = map (λ name. gone (object_in schema name)) names ++ change (keys.Schema schema) Gone ∷ []

unfoldable pub schema_gone : SessionState → List ℕ → Walk ErrorValue Choice
schema_gone session name = do
  seen ← look_at (keys.Objects name)
  _ ← refuse_if (nat_lt 65536 (length (names_seen seen))) (beyond_limit "65536")
  _ ← every (may_go name) (names_seen seen)
  done (Changes (all_gone name (names_seen seen)) (without_schema session name))

-- DROP DATABASE. Absent: done without change with IF EXISTS, else 1008. More than 65,536 objects: 9001. The least table with a
-- child outside the schema: 3730 with the least. The schema and its objects go.
unfoldable pub drop_database : SessionState → Bool → List ℕ → Walk ErrorValue Choice
drop_database session if_exists name = do
  seen ← look_at (keys.Schema name)
  if is_nothing seen then unless if_exists (db_drop_exists name) else schema_gone session name
