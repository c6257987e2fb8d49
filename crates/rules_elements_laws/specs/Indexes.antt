-- What an index has that the rules take.
use Rattle.std.specs.Prelude.{◌≡◌, ◌≤◌, true, false, length}
use Rattle.std.specs.List.{list_all, list_any}
use Rattle.std.specs.Str.{bytes_eq}
use Rattle.sql_types.specs.declared.words.KeyWords.{KeyWords}
use Rattle.dd_definitions.specs.Columns.{is_column}
use Rattle.dd_definitions.specs.Distinct.{are_distinct}
use Rattle.dd_definitions.specs.Indexes.{is_primary, is_well_named}
use Rattle.dd_definitions.specs.declared.indexes.IndexDef.{IndexDef}
use Rattle.dd_definitions.specs.declared.parts.TableParts.{TableParts}
use Rattle.dd_catalog.specs.Walks.{fine, run}
use Rattle.dd_catalog.specs.WalkLaws.{Look}
use Rattle.rules_elements.specs.Keys.{has_index_named, key_of}

-- It is of the class that is written, and has as many columns, 16 at most: different ones of the table, spelled as the table
-- spells them. It is well named. The table has no other primary key, and no other index has its name.
pub record IsIndexFit (parts : TableParts) (words : KeyWords) (index : IndexDef) : Type 0 where
  pub class : index.class ≡ words.class
  pub count : length index.columns ≡ length words.columns
  pub few : length index.columns ≤ 16
  pub distinct : are_distinct bytes_eq index.columns ≡ true
  pub there : list_all (is_column parts.columns) index.columns ≡ true
  pub named : is_well_named index ≡ true
  pub alone : is_primary index ≡ true → list_any is_primary parts.indexes ≡ false
  pub free : is_primary index ≡ false → has_index_named parts.indexes index.name ≡ false

-- each index that the rules take is fit beside the table
abbrev pub IndexesAreFit : Type 0
IndexesAreFit = (look : Look) (parts : TableParts) (words : KeyWords) (index : IndexDef) → run look (key_of parts words) ≡ fine index → IsIndexFit parts words index
