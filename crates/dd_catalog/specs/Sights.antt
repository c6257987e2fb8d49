-- What a check sees at a key.
use Rattle.std.specs.Prelude.{ℕ, List}
use Rattle.dd_names.specs.declared.object_name.ObjName.{ObjName}
use Rattle.dd_definitions.specs.declared.parts.TableParts.{TableParts}
use Rattle.dd_definitions.specs.declared.view_parts.ViewParts.{ViewParts}
use Rattle.dd_catalog.specs.declared.object.Object.{Object}
use Rattle.dd_catalog.specs.declared.object.Object.TheVariants as objects

-- what stands at a key, without ids: nothing, a schema, a table with its space id, a view, the names in a list, the children
-- of a table, or the owner of a constraint
pub data Sight : Type 0 where
  Nothing : Sight
  SchemaThere : Sight
  TableThere : ℕ → TableParts → Sight
  ViewThere : ViewParts → Sight
  NamesThere : List (List ℕ) → Sight
  ChildrenThere : List ObjName → Sight
  OwnerThere : ObjName → Sight

-- what is seen of an object
abbrev pub sight : Object → Sight
sight (objects.Schema id) = SchemaThere
sight (objects.Table id schema space parts) = TableThere space parts
sight (objects.View id schema parts) = ViewThere parts
sight objects.Absent = Nothing
sight (objects.Schemas names) = NamesThere names
sight (objects.Objects names) = NamesThere names
sight (objects.Children tables) = ChildrenThere tables
sight (objects.Constraint table) = OwnerThere table
