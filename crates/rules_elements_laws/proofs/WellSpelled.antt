-- Each well-formed table spells its columns in one way.
use Rattle.std.proofs.Common.{◌≡◌, ℕ, Bool, true, false, ◌&&◌, List, [], ◌∷◌, length, nat_le, refl}
use Rattle.std.specs.List.{list_all}
use Rattle.std.specs.Str.{bytes_eq}
use Rattle.dd_definitions.specs.Columns.{is_same_column, is_typed, is_column, are_columns_named, are_columns_formed, are_key_columns}
use Rattle.dd_definitions.specs.Distinct.{are_distinct}
use Rattle.dd_definitions.specs.Indexes.{is_primary_first, is_same_index, is_index_formed, is_well_named, is_never_null, are_few_indexes, are_ranked_from, are_indexes_formed, are_autos_formed}
use Rattle.dd_definitions.specs.ForeignKeys.{are_foreign_keys_formed}
use Rattle.dd_definitions.specs.WellFormed.{is_well_formed}
use Rattle.dd_definitions.specs.declared.columns.ColumnDef.{ColumnDef}
use Rattle.dd_definitions.specs.declared.indexes.IndexDef.{IndexDef}
use Rattle.dd_definitions.specs.declared.parts.TableParts.{TableParts}
use Rattle.rules_elements_laws.specs.Parents.{IsSpelledWell}
use Rattle.rules_elements_laws.proofs.Numbers.{both, together}

-- the third of three tests, and of four
third : (a b c : Bool) → (a && b && c) ≡ true → c ≡ true
third true true c is = is
third true false c is = cc
third false b c is = cc

fourth : (a b c d : Bool) → (a && b && c && d) ≡ true → d ≡ true
fourth true true true d is = is
fourth true true false d is = cc
fourth true false c d is = cc
fourth false b c d is = cc

third_of_five : (a b c d e : Bool) → (a && b && c && d && e) ≡ true → c ≡ true
third_of_five true true true d e is = refl
third_of_five true true false d e is = cc
third_of_five true false c d e is = cc
third_of_five false b c d e is = cc

first_of_four : (a b c d : Bool) → (a && b && c && d) ≡ true → a ≡ true
first_of_four true b c d is = refl
first_of_four false b c d is = cc

second_of_four : (a b c d : Bool) → (a && b && c && d) ≡ true → b ≡ true
second_of_four true true c d is = refl
second_of_four true false c d is = cc
second_of_four false b c d is = cc

names_differ : (columns : List ColumnDef) → are_columns_formed columns ≡ true → are_distinct is_same_column columns ≡ true
unfolding are_columns_formed are_columns_named
names_differ columns is =
    third (nat_le 1 (length columns)) (nat_le (length columns) 1017) (are_distinct is_same_column columns)
    (both (nat_le 1 (length columns) && nat_le (length columns) 1017 && are_distinct is_same_column columns) (list_all is_typed columns) is).0

columns_there : (columns : List ColumnDef) (names : List (List ℕ)) → are_key_columns columns names ≡ true → list_all (is_column columns) names ≡ true
unfolding are_key_columns
columns_there columns names is = fourth (nat_le 1 (length names)) (nat_le (length names) 16) (are_distinct bytes_eq names) (list_all (is_column columns) names) is

index_there : (columns : List ColumnDef) (index : IndexDef) → is_index_formed columns index ≡ true → list_all (is_column columns) index.columns ≡ true
unfolding is_index_formed
index_there columns index is = columns_there columns index.columns (first_of_three (are_key_columns columns index.columns) (is_well_named index) (is_never_null columns index) is)
  where
    first_of_three : (a b c : Bool) → (a && b && c) ≡ true → a ≡ true
    first_of_three true b c is = refl
    first_of_three false b c is = cc

all_there : (columns : List ColumnDef) (indexes : List IndexDef) → list_all (is_index_formed columns) indexes ≡ true → list_all (λ (index : IndexDef). list_all (is_column columns) index.columns) indexes ≡ true
all_there columns [] is = refl
all_there columns (index ∷ indexes) is =
    let parts = both (is_index_formed columns index) (list_all (is_index_formed columns) indexes) is in
    together (list_all (is_column columns) index.columns) (list_all (λ (i : IndexDef). list_all (is_column columns) i.columns) indexes) (index_there columns index parts.0) (all_there columns indexes parts.1)

indexes_there : (columns : List ColumnDef) (indexes : List IndexDef) → are_indexes_formed columns indexes ≡ true → list_all (is_index_formed columns) indexes ≡ true
unfolding are_indexes_formed
indexes_there columns indexes is =
    third_of_five (is_primary_first indexes) (are_distinct is_same_index indexes) (list_all (is_index_formed columns) indexes) (are_few_indexes indexes) (are_ranked_from columns 0 indexes) is

pub well_spelled : (parts : TableParts) → is_well_formed parts ≡ true → IsSpelledWell parts
unfolding is_well_formed
well_spelled parts is =
    let columns = are_columns_formed parts.columns in
    let indexes = are_indexes_formed parts.columns parts.indexes in
    let autos = are_autos_formed parts.columns parts.indexes in
    let keys = are_foreign_keys_formed parts.columns parts.indexes parts.foreign_keys in
    record {
      distinct = names_differ parts.columns (first_of_four columns indexes autos keys is);
      there = all_there parts.columns parts.indexes (indexes_there parts.columns parts.indexes (second_of_four columns indexes autos keys is));
    }
