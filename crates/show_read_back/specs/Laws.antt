-- What the text of SHOW CREATE TABLE makes.
use Rattle.std.specs.Prelude.{◌≡◌, ℕ, true, false, Some}
use Rattle.dd_names.specs.declared.object_name.ObjName.{ObjName}
use Rattle.dd_definitions.specs.declared.parts.TableParts.{TableParts}
use Rattle.sql_ast.specs.declared.session.SessionState.{SessionState}
use Rattle.sql_ast.specs.Reads.{Reads}
use Rattle.dd_catalog.specs.Catalog.{Catalog, Table}
use Rattle.dd_catalog.specs.Valid.{Has, IsValid}
use Rattle.dd_catalog.specs.Walks.{fine, run}
use Rattle.dd_catalog.specs.WalkLaws.{Look}
use Rattle.rules_create.specs.Tables.{table_made, create_table}
use Rattle.show_text.specs.Tables.{table_text}
use Rattle.show_text_laws.specs.Said.{elements_said, table_named, statement_said}
use Rattle.show_read_back.specs.Without.{IsWithout}

-- the table's text reads as a CREATE TABLE, which comes to a new table with the same parts
pub record ReadsBack (look : Look) (session : SessionState) (name : ObjName) (parts : TableParts) : Type 0 where
  pub reads : Reads (table_text parts) (statement_said parts)
  pub makes : run look (create_table session false (table_named parts) (elements_said parts)) ≡ fine (table_made session name parts)

-- it does so for each table of a valid catalog, where the table isn't there and its schema is the current one
abbrev pub EachReadsBack : Type 0
EachReadsBack = (cat : Catalog) (name : ObjName) (space : ℕ) (parts : TableParts) (look : Look) (session : SessionState)
    → IsValid cat → Has cat name (Table space parts) → IsWithout cat name look → session.current ≡ Some name.schema → ReadsBack look session name parts
