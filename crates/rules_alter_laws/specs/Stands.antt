-- Tables whose parts fit together between the actions of a statement, which sees to the limits at its end.
use Rattle.std.specs.Prelude.{◌≡◌, ◌≤◌, true, List, length}
use Rattle.std.specs.List.{list_all, count_by}
use Rattle.dd_definitions.specs.Columns.{is_same_column, is_typed}
use Rattle.dd_definitions.specs.Distinct.{are_distinct}
use Rattle.dd_definitions.specs.ForeignKeys.{is_same_constraint, is_foreign_key_formed, are_in_order}
use Rattle.dd_definitions.specs.Indexes.{is_primary, is_same_index, is_index_formed, are_ranked_from}
use Rattle.dd_definitions.specs.declared.columns.ColumnDef.{ColumnDef}
use Rattle.dd_definitions.specs.declared.foreign_keys.ForeignKeyDef.{ForeignKeyDef}
use Rattle.dd_definitions.specs.declared.indexes.IndexDef.{IndexDef}
use Rattle.dd_definitions.specs.declared.parts.TableParts.{TableParts}
use Rattle.rules_elements_laws.specs.Taken.{is_auto_by_itself}

-- the names of the columns differ in more than case, and each fits by itself
pub record HasColumns (columns : List ColumnDef) : Type 0 where
  pub distinct : are_distinct is_same_column columns ≡ true
  pub typed : list_all is_typed columns ≡ true
  pub auto : list_all is_auto_by_itself columns ≡ true

-- the names of the indexes differ in more than case, each fits the columns, and one at most is primary
pub record HasIndexes (columns : List ColumnDef) (indexes : List IndexDef) : Type 0 where
  pub distinct : are_distinct is_same_index indexes ≡ true
  pub formed : list_all (is_index_formed columns) indexes ≡ true
  pub single : count_by is_primary indexes ≤ 1

-- each foreign key fits the columns and has an index, and they stand in the order of their names, which differ
pub record HasKeys (columns : List ColumnDef) (indexes : List IndexDef) (keys : List ForeignKeyDef) : Type 0 where
  pub formed : list_all (is_foreign_key_formed columns indexes) keys ≡ true
  pub distinct : are_distinct is_same_constraint keys ≡ true
  pub ordered : are_in_order keys ≡ true

-- there is a column, and the parts fit together
pub record Stands (parts : TableParts) : Type 0 where
  pub some : 1 ≤ length parts.columns
  pub columns : HasColumns parts.columns
  pub indexes : HasIndexes parts.columns parts.indexes
  pub keys : HasKeys parts.columns parts.indexes parts.foreign_keys

-- and the ranks of the indexes never fall
pub record StandsInOrder (parts : TableParts) : Type 0 where
  pub stands : Stands parts
  pub ranked : are_ranked_from parts.columns 0 parts.indexes ≡ true
