-- Listings of one name and one text.
use Rattle.std.specs.Prelude.{ℕ, List, [], ◌∷◌, codes}
use Rattle.sql_types.specs.declared.listing.Cell.{Cell}
use Rattle.sql_types.specs.declared.listing.Cell.TheVariants.{Value}
use Rattle.sql_types.specs.declared.listing.Listing.{Listing}
use Rattle.dd_definitions.specs.declared.parts.TableParts.{TableParts}
use Rattle.dd_definitions.specs.declared.view_parts.ViewParts.{ViewParts}
use Rattle.show_text.specs.Tables.{table_text, database_text}
use Rattle.show_text.specs.Views.{view_text}

-- one row, which has a name and a text, each under its title
unfoldable pub text_listed : List ℕ → List ℕ → List ℕ → List ℕ → Listing
text_listed name_title text_title name text = record { header = name_title ∷ text_title ∷ []; rows = (Value name ∷ Value text ∷ []) ∷ [] }

-- a schema's name and its text
unfoldable pub database_listed : List ℕ → Listing
database_listed name = text_listed (codes "Database") (codes "Create Database") name (database_text name)

-- a table's own name, without its schema, and its text
unfoldable pub table_listed : TableParts → Listing
table_listed parts = text_listed (codes "Table") (codes "Create Table") parts.name.name (table_text parts)

-- a view's own name, without its schema, and its text
unfoldable pub view_listed : ViewParts → Listing
view_listed parts = text_listed (codes "View") (codes "Create View") parts.name.name (view_text parts)
