-- What a foreign key has that the rules take.
use Rattle.std.specs.Prelude.{◌≡◌, ℕ, ◌⊎◌, true, false, List, Some, map}
use Rattle.std.specs.List.{list_all}
use Rattle.dd_names.specs.Names.{fold}
use Rattle.dd_names.specs.declared.object_name.ObjName.{ObjName}
use Rattle.dd_names.specs.declared.object_name.ObjectKey.TheVariants as keys
use Rattle.dd_definitions.specs.Columns.{is_same_column, is_column}
use Rattle.dd_definitions.specs.Distinct.{are_distinct}
use Rattle.dd_definitions.specs.ForeignKeys.{has_index_on}
use Rattle.dd_definitions.specs.WellFormed.{is_well_formed}
use Rattle.dd_definitions.specs.declared.indexes.IndexDef.{IndexDef}
use Rattle.dd_definitions.specs.declared.foreign_keys.ForeignKeyDef.{ForeignKeyDef}
use Rattle.dd_definitions.specs.declared.parts.TableParts.{TableParts}
use Rattle.dd_catalog.specs.Catalog.{is_same_object}
use Rattle.dd_catalog.specs.Sights.{TableThere, OwnerThere}
use Rattle.dd_catalog.specs.Valid.{are_columns_paired}
use Rattle.dd_catalog.specs.Walks.{fine, run}
use Rattle.dd_catalog.specs.WalkLaws.{Look}
use Rattle.rules_elements.specs.ForeignKeys.{spelled, has_constraint_named, foreign_key_of}

-- the names of the columns differ in more than case, and the indexes spell them as the table does
pub record IsSpelledWell (parts : TableParts) : Type 0 where
  pub distinct : are_distinct is_same_column parts.columns ≡ true
  pub there : list_all (λ (index : IndexDef). list_all (is_column parts.columns) index.columns) parts.indexes ≡ true

-- each well-formed table is spelled so
abbrev pub TablesAreSpelledWell : Type 0
TablesAreSpelledWell = (parts : TableParts) → is_well_formed parts ≡ true → IsSpelledWell parts

-- the parent of that name is the table itself, as it is so far, or a table that is seen there
pub record IsParent (look : Look) (parts : TableParts) (name : ObjName) (parent : TableParts) : Type 0 where
  pub stands : ((is_same_object name parts.name ≡ true) × (parent ≡ parts)) ⊎ ((space : ℕ) × (look (keys.Object name) ≡ Some (TableThere space parent)))

-- The foreign key is as it is written, but spells the parent columns as the parent does. Its columns are paired with those, and
-- an index of the parent begins with them. No other foreign key of the table has its name, and no other table of the schema.
pub record IsKeyFit (look : Look) (parts : TableParts) (words key : ForeignKeyDef) (parent : TableParts) : Type 0 where
  pub parent_is : IsParent look parts words.parent parent
  pub kept : key ≡ record words { parent_columns = map (spelled parent.columns) words.parent_columns }
  pub paired : are_columns_paired parts parent key ≡ true
  pub indexed : IsSpelledWell parent → has_index_on parent.indexes key.parent_columns ≡ true
  pub own : has_constraint_named parts.foreign_keys key.name ≡ false
  pub others : (owner : ObjName) → look (keys.Constraint parts.name.schema (fold key.name)) ≡ Some (OwnerThere owner) → is_same_object owner parts.name ≡ true

-- each foreign key that the rules take is fit, with some parent, however its columns are written
abbrev pub ForeignKeysAreFit : Type 0
ForeignKeysAreFit = (look : Look) (parts : TableParts) (written : List (List ℕ)) (words key : ForeignKeyDef) → run look (foreign_key_of parts written words) ≡ fine key → (parent : TableParts) × IsKeyFit look parts words key parent
