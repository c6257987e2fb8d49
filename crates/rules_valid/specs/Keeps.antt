-- Statements that leave a valid catalog valid, and a session with names.
use Rattle.std.specs.Prelude.{◌≡◌, ◌⊎◌, ℕ, true}
use Rattle.dd_names.specs.declared.object_name.ObjName.{ObjName}
use Rattle.dd_errors.specs.Errors.{ErrorValue}
use Rattle.dd_definitions.specs.declared.parts.TableParts.{TableParts}
use Rattle.sql_ast.specs.Names.{session_is_named}
use Rattle.sql_ast.specs.declared.session.SessionState.{SessionState}
use Rattle.dd_catalog.specs.Catalog.{Catalog, Table, all_of}
use Rattle.dd_catalog.specs.Valid.{Has, IsValid}
use Rattle.dd_catalog.specs.WalkLaws.{Look}
use Rattle.dd_catalog.specs.Walks.{Walk, fine, run}
use Rattle.rules_outcome.specs.Choices.{Choice, catalog_behind, session_behind, takes_space, IsNewSpace}

-- where the choice makes a tablespace, the number is new
abbrev pub HasNumber : Catalog → ℕ → Choice → Type 0
HasNumber cat space choice = takes_space choice ≡ true → IsNewSpace cat space

-- what the check comes to over a valid catalog leaves it valid
pub record KeepsValid (check : Walk ErrorValue Choice) : Type 0 where
  pub keeps : (cat : Catalog) (space : ℕ) (choice : Choice) → IsValid cat → HasNumber cat space choice → run (all_of cat) check ≡ fine choice → IsValid (catalog_behind space choice cat)

-- the current schema of the session behind the check is a name, where it was one or there was none
pub record KeepsNamed (session : SessionState) (check : Walk ErrorValue Choice) : Type 0 where
  pub named : (look : Look) (choice : Choice) → session_is_named session ≡ true → run look check ≡ fine choice → session_is_named (session_behind choice session) ≡ true

-- a table of the catalog has the space
pub record HasSpace (cat : Catalog) (space : ℕ) : Type 0 where
  pub name : ObjName
  pub parts : TableParts
  pub has : Has cat name (Table space parts)

-- each table behind what the check comes to has the space of a table of the catalog, or the number that the choice takes
pub record MakesOneSpace (check : Walk ErrorValue Choice) : Type 0 where
  pub made : (cat : Catalog) (space : ℕ) (choice : Choice) → IsValid cat → run (all_of cat) check ≡ fine choice
      → (name : ObjName) (held : ℕ) (parts : TableParts) → Has (catalog_behind space choice cat) name (Table held parts) → HasSpace cat held ⊎ ((takes_space choice ≡ true) × (held ≡ space))
