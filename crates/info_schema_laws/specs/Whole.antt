-- The rows that the objects of a whole catalog have.
use Rattle.std.specs.Prelude.{ℕ, List, ◌++◌, codes, flat_map}
use Rattle.dd_names.specs.declared.object_name.ObjectKey.TheVariants as keys
use Rattle.sql_types.specs.declared.listing.Cell.{Cell}
use Rattle.dd_definitions.specs.declared.view_parts.ViewParts.{ViewParts}
use Rattle.dd_catalog.specs.Catalog.{Catalog, sight_of}
use Rattle.rules_named.specs.Named.{object_in}
use Rattle.rules_schema.specs.Listings.{names_seen}
use Rattle.sql_pieces.specs.Pieces.{quoted_name}
use Rattle.info_schema.specs.declared.tables.InfoTable.{InfoTable}
use Rattle.info_schema.specs.Tables.{rows_seen}

abbrev pub object_rows : Catalog → InfoTable → List ℕ → List ℕ → List (List Cell)
object_rows cat table schema name = rows_seen table (sight_of cat (keys.Object (object_in schema name)))

abbrev pub schema_rows : Catalog → InfoTable → List ℕ → List (List Cell)
schema_rows cat table schema = flat_map (object_rows cat table schema) (names_seen (sight_of cat (keys.Objects schema)))

-- of each schema, and in it of each object, in byte order
abbrev pub all_rows : Catalog → InfoTable → List (List Cell)
all_rows cat table = flat_map (schema_rows cat table) (names_seen (sight_of cat keys.Schemas))

-- what stands before `select` in the text of SHOW CREATE VIEW
abbrev pub before_query : ViewParts → List ℕ
before_query parts = codes "CREATE ALGORITHM=UNDEFINED DEFINER=`root`@`localhost` SQL SECURITY DEFINER VIEW " ++ (quoted_name parts.name.name ++ codes " AS ")
