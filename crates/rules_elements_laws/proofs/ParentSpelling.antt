-- Columns of a parent, as they are written and as the parent spells them.
use Rattle.std.proofs.Common.{◌≡◌, ℕ, Bool, true, false, ◌||◌, not, cond, List, [], ◌∷◌, map, Option, Some, None, refl, sym, ◌∙◌, ap}
use Rattle.std.specs.List.{list_all, list_any, find, starts_with}
use Rattle.std.specs.Str.{bytes_eq}
use Rattle.std.proofs.lemmas.Slice.Eq.{bytes_eq-Decides}
use Rattle.dd_names.specs.Names.{same, fold}
use Rattle.dd_definitions.specs.Columns.{is_same_column, is_column}
use Rattle.dd_definitions.specs.Distinct.{are_distinct}
use Rattle.dd_definitions.specs.ForeignKeys.{has_index_on}
use Rattle.dd_definitions.specs.declared.columns.ColumnDef.{ColumnDef}
use Rattle.dd_definitions.specs.declared.indexes.IndexDef.{IndexDef}
use Rattle.dd_definitions.specs.declared.parts.TableParts.{TableParts}
use Rattle.dd_catalog.specs.Kinds.{column_named, are_of_one_kind, first_odd_pair}
use Rattle.rules_elements.specs.ForeignKeys.{begin_with, has_index_from, name_of_column, spelled}
use Rattle.rules_elements_laws.specs.Parents.{IsSpelledWell}
use Rattle.rules_elements_laws.proofs.Numbers.{both, together, or_last}
use Rattle.rules_elements_laws.proofs.Spelled.{equal_to_itself, is_false, some_is}

pub same_fold : (a b : List ℕ) → same a b ≡ true → fold a ≡ fold b
same_fold a b is = (bytes_eq-Decides (fold a) (fold b)).0 is

-- a name is looked for by its folded form alone
pub by_fold : (columns : List ColumnDef) (a b : List ℕ) → fold a ≡ fold b → column_named columns a ≡ column_named columns b
by_fold columns a b is = ap (λ (f : List ℕ). find (λ (c : ColumnDef). bytes_eq (fold c.name) f) columns) is

pub found_fold : (columns : List ColumnDef) (name : List ℕ) (column : ColumnDef) → column_named columns name ≡ Some column → fold column.name ≡ fold name
found_fold [] name column is = cc
found_fold (c ∷ columns) name column is =
    elim (same c.name name) as (λ v. same c.name name ≡ v → ◌≡◌ {A = Option ColumnDef} (cond v (Some c) (column_named columns name)) (Some column) → fold column.name ≡ fold name) [
      | true ↦ λ here e. sym (ap (λ (d : ColumnDef). fold d.name) (some_is e)) ∙ same_fold c.name name here
      | false ↦ λ here e. found_fold columns name column e
    ] refl is

-- the name as the table spells it is that of the same column
again : (columns : List ColumnDef) (name : List ℕ) (found : Option ColumnDef) → column_named columns name ≡ found → column_named columns (name_of_column name found) ≡ found
again columns name None is = is
again columns name (Some column) is = by_fold columns column.name name (found_fold columns name column is) ∙ is

pub spelled_again : (columns : List ColumnDef) (name : List ℕ) → column_named columns (spelled columns name) ≡ column_named columns name
spelled_again columns name = again columns name (column_named columns name) refl

-- spelling the parent columns makes no pair odd
pub pairs_stay : (columns others : List ColumnDef) (names rest : List (List ℕ)) → first_odd_pair columns others names rest ≡ None → first_odd_pair columns others names (map (spelled others) rest) ≡ None
pairs_stay columns others [] rest even = refl
pairs_stay columns others (name ∷ names) [] even = refl
pairs_stay columns others (name ∷ names) (other ∷ rest) even =
    elim (are_of_one_kind (column_named columns name) (column_named others other)) as (λ v. are_of_one_kind (column_named columns name) (column_named others other) ≡ v
    → ◌≡◌ {A = Option (List ℕ × List ℕ)} (cond v (first_odd_pair columns others names rest) (Some (name, other))) None
    → first_odd_pair columns others (name ∷ names) (spelled others other ∷ map (spelled others) rest) ≡ None) [
      | true ↦ λ here e.
          let still : are_of_one_kind (column_named columns name) (column_named others (spelled others other)) ≡ true = ap (are_of_one_kind (column_named columns name)) (spelled_again others other) ∙ here in
          let answer : Bool → Option (List ℕ × List ℕ) = λ v. cond v (first_odd_pair columns others names (map (spelled others) rest)) (Some (name, spelled others other)) in
          ap answer still ∙ pairs_stay columns others names rest e
      | false ↦ λ here e. cc
    ] refl even

-- ## Names that are spelled as a column is

like_some : (d : ColumnDef) (x : List ℕ) (columns : List ColumnDef) → same d.name x ≡ true → list_any (λ (c : ColumnDef). bytes_eq c.name x) columns ≡ true → list_any (is_same_column d) columns ≡ true
like_some d x [] alike there = cc
like_some d x (c ∷ columns) alike there =
    elim (bytes_eq c.name x) as (λ v. bytes_eq c.name x ≡ v → (v || list_any (λ (e : ColumnDef). bytes_eq e.name x) columns) ≡ true → (same d.name c.name || list_any (is_same_column d) columns) ≡ true) [
      | true ↦ λ here e.
          let alike_c : same d.name c.name ≡ true = ap (same d.name) ((bytes_eq-Decides c.name x).0 here) ∙ alike in
          ap (λ v. v || list_any (is_same_column d) columns) alike_c
      | false ↦ λ here e. or_last (same d.name c.name) (list_any (is_same_column d) columns) (like_some d x columns alike e)
    ] refl there

exactly : (columns : List ColumnDef) (x y : List ℕ) → are_distinct is_same_column columns ≡ true → list_any (λ (c : ColumnDef). bytes_eq c.name x) columns ≡ true → name_of_column y (column_named columns x) ≡ x
exactly [] x y distinct there = cc
exactly (c ∷ columns) x y distinct there =
    let parts = both (not (list_any (is_same_column c) columns)) (are_distinct is_same_column columns) distinct in
    let alone : list_any (is_same_column c) columns ≡ false = is_false (list_any (is_same_column c) columns) parts.0 in
    elim (bytes_eq c.name x) as (λ v. bytes_eq c.name x ≡ v → (v || list_any (λ (e : ColumnDef). bytes_eq e.name x) columns) ≡ true → name_of_column y (cond (same c.name x) (Some c) (column_named columns x)) ≡ x) [
      | true ↦ λ here e.
          let equal : c.name ≡ x = (bytes_eq-Decides c.name x).0 here in
          let alike : same c.name x ≡ true = ap (same c.name) (sym equal) ∙ equal_to_itself (fold c.name) in
          ap (λ v. name_of_column y (cond v (Some c) (column_named columns x))) alike ∙ equal
      | false ↦ λ here e.
          elim (same c.name x) as (λ v. same c.name x ≡ v → name_of_column y (cond v (Some c) (column_named columns x)) ≡ x) [
            | true ↦ λ alike. let wrong : list_any (is_same_column c) columns ≡ true = like_some c x columns alike e in let clash : true ≡ false = sym wrong ∙ alone in cc
            | false ↦ λ apart. exactly columns x y parts.1 e
          ] refl
    ] refl there

spelled_exactly : (columns : List ColumnDef) (x name : List ℕ) → are_distinct is_same_column columns ≡ true → is_column columns x ≡ true → same x name ≡ true → spelled columns name ≡ x
unfolding is_column
spelled_exactly columns x name distinct there alike = ap (name_of_column name) (sym (by_fold columns x name (same_fold x name alike))) ∙ exactly columns x name distinct there

-- ## Indexes

begins : (columns : List ColumnDef) (xs names : List (List ℕ)) → are_distinct is_same_column columns ≡ true → list_all (is_column columns) xs ≡ true → begin_with xs names ≡ true → starts_with bytes_eq xs (map (spelled columns) names) ≡ true
begins columns xs [] distinct all is = refl
begins columns [] (name ∷ names) distinct all is = cc
begins columns (x ∷ xs) (name ∷ names) distinct all is =
    let here = both (is_column columns x) (list_all (is_column columns) xs) all in
    let alike = both (same x name) (begin_with xs names) is in
    let equal : spelled columns name ≡ x = spelled_exactly columns x name distinct here.0 alike.0 in
    together (bytes_eq (spelled columns name) x) (starts_with bytes_eq xs (map (spelled columns) names)) (ap (λ y. bytes_eq y x) equal ∙ equal_to_itself x) (begins columns xs names distinct here.1 alike.1)

some_begins : (columns : List ColumnDef) (indexes : List IndexDef) (names : List (List ℕ)) → are_distinct is_same_column columns ≡ true
    → list_all (λ (index : IndexDef). list_all (is_column columns) index.columns) indexes ≡ true → has_index_from indexes names ≡ true
    → list_any (λ (index : IndexDef). starts_with bytes_eq index.columns (map (spelled columns) names)) indexes ≡ true
some_begins columns [] names distinct all is = cc
some_begins columns (index ∷ indexes) names distinct all is =
    let here = both (list_all (is_column columns) index.columns) (list_all (λ (i : IndexDef). list_all (is_column columns) i.columns) indexes) all in
    elim (begin_with index.columns names) as (λ v. begin_with index.columns names ≡ v → (v || has_index_from indexes names) ≡ true
    → (starts_with bytes_eq index.columns (map (spelled columns) names) || list_any (λ (i : IndexDef). starts_with bytes_eq i.columns (map (spelled columns) names)) indexes) ≡ true) [
      | true ↦ λ first e. ap (λ v. v || list_any (λ (i : IndexDef). starts_with bytes_eq i.columns (map (spelled columns) names)) indexes) (begins columns index.columns names distinct here.0 first)
      | false ↦ λ first e. or_last (starts_with bytes_eq index.columns (map (spelled columns) names)) (list_any (λ (i : IndexDef). starts_with bytes_eq i.columns (map (spelled columns) names)) indexes) (some_begins columns indexes names distinct here.1 e)
    ] refl is

pub index_stays : (parent : TableParts) (names : List (List ℕ)) → IsSpelledWell parent → has_index_from parent.indexes names ≡ true → has_index_on parent.indexes (map (spelled parent.columns) names) ≡ true
unfolding has_index_on
index_stays parent names well is = some_begins parent.columns parent.indexes names well.distinct well.there is
