-- SHOW DATABASES and SHOW TABLES.
use Rattle.std.specs.Prelude.{ℕ, List, [], ◌∷◌, ◌++◌, map, Option, Some, None, codes}
use Rattle.dd_names.specs.declared.object_name.ObjectKey.TheVariants as keys
use Rattle.dd_errors.specs.Errors.{ErrorValue}
use Rattle.sql_types.specs.declared.listing.Cell.{Cell}
use Rattle.sql_types.specs.declared.listing.Cell.TheVariants.{Value}
use Rattle.sql_types.specs.declared.listing.Listing.{Listing}
use Rattle.sql_ast.specs.declared.session.SessionState.{SessionState}
use Rattle.dd_catalog.specs.Sights.{Sight, NamesThere}
use Rattle.dd_catalog.specs.Walks.{Walk, done, refuse, ◌>>=◌, look_at}
use Rattle.rules_elements.specs.Keys.{first_given}
use Rattle.rules_outcome.specs.Choices.{Choice, Lists}
use Rattle.rules_refusals.specs.Refusals.{no_db}
use Rattle.rules_named.specs.Named.{schema_there}

abbrev pub names_seen : Sight → List (List ℕ)
names_seen (NamesThere names) = names
names_seen seen = []

-- a row of one value
abbrev pub row_of : List ℕ → List Cell
row_of name = Value name ∷ []

-- names under a header, a row each
abbrev pub names_listed : List ℕ → List (List ℕ) → Listing
names_listed header names = record { header = header ∷ []; rows = map row_of names }

-- SHOW DATABASES. The schemas in byte order.
unfoldable pub show_databases : Walk ErrorValue Choice
show_databases = do
  seen ← look_at keys.Schemas
  done (Lists (names_listed (codes "Database") (names_seen seen)))

abbrev pub chosen_schema : Option (List ℕ) → Walk ErrorValue (List ℕ)
chosen_schema None = refuse no_db
chosen_schema (Some schema) = done schema

-- SHOW TABLES. The tables and views of the schema in byte order.
unfoldable pub show_tables : SessionState → Option (List ℕ) → Walk ErrorValue Choice
show_tables session named = do
  schema ← chosen_schema (first_given named session.current)
  _ ← schema_there schema
  seen ← look_at (keys.Objects schema)
  done (Lists (names_listed (codes "Tables_in_" ++ schema) (names_seen seen)))
