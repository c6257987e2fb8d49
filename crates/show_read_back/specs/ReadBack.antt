-- What the text of SHOW CREATE TABLE comes to as a statement.
use Rattle.std.specs.Prelude.{◌≡◌, ℕ, true, Option, Some}
use Rattle.std.specs.Option.{option_map}
use Rattle.dd_names.specs.declared.object_name.ObjName.{ObjName}
use Rattle.dd_errors.specs.Errors.{ErrorValue}
use Rattle.dd_definitions.specs.declared.parts.TableParts.{TableParts}
use Rattle.sql_ast.specs.declared.session.SessionState.{SessionState}
use Rattle.sql_ast.specs.declared.statement.Statement.{Statement}
use Rattle.sql_ast.specs.Reads.{Reads}
use Rattle.dd_catalog.specs.Catalog.{Catalog, Table}
use Rattle.dd_catalog.specs.Valid.{Has, IsValid}
use Rattle.dd_catalog.specs.Walks.{Found, fine, run}
use Rattle.dd_catalog.specs.WalkLaws.{Look}
use Rattle.rules_outcome.specs.Choices.{Choice}
use Rattle.rules_create.specs.Tables.{table_made}
use Rattle.show_text.specs.Tables.{table_text}
use Rattle.show_read_back.specs.Without.{IsWithout}
use Rattle.rules_decide.specs.Outcome.{outcome}

-- The text of a table's definition reads as a statement whose outcome makes an equal definition.
pub record TextMakes (look : Look) (session : SessionState) (name : ObjName) (parts : TableParts) : Type 0 where
  pub statement : Statement
  pub reads : Reads (table_text parts) statement
  pub makes : option_map (run look) (outcome session statement) ≡ Some (fine (table_made session name parts))

-- The text of each table of a valid catalog does so in the table's schema, where the catalog is seen without the table and
-- without the foreign keys of others on it.
abbrev pub EachTextMakes : Type 0
EachTextMakes = (cat : Catalog) (name : ObjName) (space : ℕ) (parts : TableParts) (look : Look) (session : SessionState)
    → IsValid cat → Has cat name (Table space parts) → IsWithout cat name look → session.current ≡ Some name.schema → TextMakes look session name parts
