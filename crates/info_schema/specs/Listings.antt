-- TABLE, which lists a table of INFORMATION_SCHEMA.
use Rattle.std.specs.Prelude.{ℕ, List, [], ◌∷◌, ◌++◌, map, Option, Some, None}
use Rattle.dd_names.specs.declared.object_name.ObjectKey.TheVariants as keys
use Rattle.dd_errors.specs.Errors.{ErrorValue}
use Rattle.sql_types.specs.declared.listing.Cell.{Cell}
use Rattle.sql_types.specs.declared.listing.Listing.{Listing}
use Rattle.dd_catalog.specs.Walks.{Walk, done, refuse, ◌>>=◌, look_at, over}
use Rattle.rules_outcome.specs.Choices.{Choice, Lists}
use Rattle.rules_refusals.specs.Refusals.{unknown_table}
use Rattle.rules_named.specs.Named.{object_in}
use Rattle.rules_schema.specs.Listings.{names_seen}
use Rattle.info_schema.specs.declared.tables.InfoTable.{InfoTable}
use Rattle.info_schema.specs.declared.tables.InfoTable.TheVariants as tables
use Rattle.info_schema.specs.Tables.{table_named, header_of, schemata_row, rows_seen}

-- the rows so far, and those of an object of the schema
unfoldable pub with_object : InfoTable → List ℕ → List (List Cell) → List ℕ → Walk ErrorValue (List (List Cell))
with_object table schema rows name = do
  seen ← look_at (keys.Object (object_in schema name))
  done (rows ++ rows_seen table seen)

-- the rows so far, and those of the objects of a schema, in byte order
unfoldable pub with_schema : InfoTable → List (List Cell) → List ℕ → Walk ErrorValue (List (List Cell))
with_schema table rows schema = do
  seen ← look_at (keys.Objects schema)
  over (with_object table schema) rows (names_seen seen)

abbrev pub listed : InfoTable → List (List Cell) → Listing
listed table rows = record { header = header_of table; rows = rows }

unfoldable pub objects_listing : InfoTable → Walk ErrorValue Choice
objects_listing table = do
  seen ← look_at keys.Schemas
  rows ← over (with_schema table) [] (names_seen seen)
  done (Lists (listed table rows))

unfoldable pub schemata_listing : Walk ErrorValue Choice
schemata_listing = do
  seen ← look_at keys.Schemas
  done (Lists (listed tables.Schemata (map schemata_row (names_seen seen))))

-- By schema, and then by object, both in byte order, then in the order of the definition. SCHEMATA looks at no object.
abbrev pub listing : InfoTable → Walk ErrorValue Choice
listing tables.Schemata = schemata_listing
listing tables.Tables = objects_listing tables.Tables
listing tables.Columns = objects_listing tables.Columns
listing tables.Statistics = objects_listing tables.Statistics
listing tables.KeyColumnUsage = objects_listing tables.KeyColumnUsage
listing tables.ReferentialConstraints = objects_listing tables.ReferentialConstraints
listing tables.Views = objects_listing tables.Views

abbrev pub listing_of : List ℕ → Option InfoTable → Walk ErrorValue Choice
listing_of name None = refuse (unknown_table name)
listing_of name (Some table) = listing table

-- TABLE. A name that INFORMATION_SCHEMA doesn't have: 1109.
unfoldable pub information : List ℕ → Walk ErrorValue Choice
information name = listing_of name (table_named name)
