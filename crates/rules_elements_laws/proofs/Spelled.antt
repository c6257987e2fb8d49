-- The columns of an index as the table spells them.
use Rattle.std.proofs.Common.{◌≡◌, ℕ, ◌+◌, Bool, true, false, ◌||◌, not, cond, List, [], ◌∷◌, ◌++◌, length, Option, Some, None, refl, sym, ◌∙◌, ap, subst, arith, length-append}
use Rattle.std.specs.List.{list_all, list_any}
use Rattle.std.specs.Str.{bytes_eq}
use Rattle.std.proofs.lemmas.Slice.Eq.{bytes_eq-Decides}
use Rattle.dd_names.specs.Names.{same}
use Rattle.dd_definitions.specs.Columns.{is_column}
use Rattle.dd_definitions.specs.Distinct.{are_distinct}
use Rattle.dd_definitions.specs.declared.columns.ColumnDef.{ColumnDef}
use Rattle.dd_catalog.specs.Asked.{bind_fine, fine_is}
use Rattle.dd_catalog.specs.Kinds.{column_named}
use Rattle.dd_catalog.specs.Walks.{fine, run, done, refuse, over}
use Rattle.dd_catalog.specs.WalkLaws.{Look}
use Rattle.rules_elements.specs.Keys.{spelled_column, one_more}
use Rattle.rules_refusals.specs.Refusals.{dup_fieldname}
use Rattle.rules_elements_laws.proofs.Numbers.{both, together, or_last}
use Rattle.rules_elements_laws.proofs.FreeNames.{turned}

pub equal_to_itself : (x : List ℕ) → bytes_eq x x ≡ true
equal_to_itself x = (bytes_eq-Decides x x).1 refl

-- ## One name more

pub neither : (a b : Bool) → (a || b) ≡ false → (a ≡ false) × (b ≡ false)
neither true b none = cc
neither false b none = (refl, none)

none_of : (a b : Bool) → a ≡ false → b ≡ false → (a || b) ≡ false
none_of true b here there = cc
none_of false b here there = there

not_like_last : (y x : List ℕ) (xs : List (List ℕ)) → list_any (bytes_eq y) xs ≡ false → bytes_eq x y ≡ false → list_any (bytes_eq y) (xs ++ x ∷ []) ≡ false
not_like_last y x [] none apart = none_of (bytes_eq y x) false (turned y x ∙ apart) refl
not_like_last y x (z ∷ xs) none apart =
    let parts = neither (bytes_eq y z) (list_any (bytes_eq y) xs) none in
    none_of (bytes_eq y z) (list_any (bytes_eq y) (xs ++ x ∷ [])) parts.0 (not_like_last y x xs parts.1 apart)

pub is_false : (b : Bool) → not b ≡ true → b ≡ false
is_false true is = cc
is_false false is = refl

distinct_with : (x : List ℕ) (xs : List (List ℕ)) → are_distinct bytes_eq xs ≡ true → list_any (bytes_eq x) xs ≡ false → are_distinct bytes_eq (xs ++ x ∷ []) ≡ true
distinct_with x [] distinct none = refl
distinct_with x (y ∷ xs) distinct none =
    let now = both (not (list_any (bytes_eq y) xs)) (are_distinct bytes_eq xs) distinct in
    let apart = neither (bytes_eq x y) (list_any (bytes_eq x) xs) none in
    together (not (list_any (bytes_eq y) (xs ++ x ∷ []))) (are_distinct bytes_eq (xs ++ x ∷ []))
    (ap not (not_like_last y x xs (is_false (list_any (bytes_eq y) xs) now.0) apart.0)) (distinct_with x xs now.1 apart.1)

all_with : (columns : List ColumnDef) (x : List ℕ) (xs : List (List ℕ)) → list_all (is_column columns) xs ≡ true → is_column columns x ≡ true → list_all (is_column columns) (xs ++ x ∷ []) ≡ true
all_with columns x [] all is = together (is_column columns x) true is refl
all_with columns x (y ∷ xs) all is =
    let parts = both (is_column columns y) (list_all (is_column columns) xs) all in
    together (is_column columns y) (list_all (is_column columns) (xs ++ x ∷ [])) parts.0 (all_with columns x xs parts.1 is)

-- ## A column that is found

pub some_is : {A : Type 0} {x y : A} → ◌≡◌ {A = Option A} (Some x) (Some y) → x ≡ y
some_is e = cc

pub named_is_column : (columns : List ColumnDef) (name : List ℕ) (column : ColumnDef) → column_named columns name ≡ Some column → is_column columns column.name ≡ true
unfolding is_column
named_is_column [] name column is = cc
named_is_column (c ∷ columns) name column is =
    elim (same c.name name) as (λ v. ◌≡◌ {A = Option ColumnDef} (cond v (Some c) (column_named columns name)) (Some column) → (bytes_eq c.name column.name || list_any (λ (d : ColumnDef). bytes_eq d.name column.name) columns) ≡ true) [
      | true ↦ λ e. ap (λ (d : ColumnDef). bytes_eq c.name d.name || list_any (λ (x : ColumnDef). bytes_eq x.name d.name) columns) (sym (some_is e))
          ∙ ap (λ v. v || list_any (λ (x : ColumnDef). bytes_eq x.name c.name) columns) (equal_to_itself c.name)
      | false ↦ λ e. or_last (bytes_eq c.name column.name) (list_any (λ (d : ColumnDef). bytes_eq d.name column.name) columns) (named_is_column columns name column e)
    ] is

-- ## All names

-- different columns of the table
pub record AreSpelled (columns : List ColumnDef) (names : List (List ℕ)) : Type 0 where
  pub distinct : are_distinct bytes_eq names ≡ true
  pub there : list_all (is_column columns) names ≡ true

one_spelled : (look : Look) (columns : List ColumnDef) (before : List (List ℕ)) (name spelled : List ℕ) (found : Option ColumnDef) → column_named columns name ≡ found → AreSpelled columns before
    → run look (spelled_column before name found) ≡ fine spelled → AreSpelled columns (before ++ spelled ∷ [])
one_spelled look columns before name spelled None found are is = cc
one_spelled look columns before name spelled (Some column) found are is =
    elim (list_any (bytes_eq column.name) before) as (λ v. list_any (bytes_eq column.name) before ≡ v → run look (cond v (refuse (dup_fieldname name)) (done column.name)) ≡ fine spelled → AreSpelled columns (before ++ spelled ∷ [])) [
      | true ↦ λ twice e. cc
      | false ↦ λ once e. subst (λ n. AreSpelled columns (before ++ n ∷ [])) (fine_is e) (record {
        distinct = distinct_with column.name before are.distinct once;
        there = all_with columns column.name before are.there (named_is_column columns name column found);
      })
    ] refl is

one_more_spelled : (look : Look) (columns : List ColumnDef) (before next : List (List ℕ)) (name : List ℕ) → AreSpelled columns before → run look (one_more columns before name) ≡ fine next → AreSpelled columns next × (length next ≡ length before + 1)
unfolding one_more
one_more_spelled look columns before next name are is =
    let (spelled, one, end) = bind_fine look (spelled_column before name (column_named columns name)) _ next is in
    let made : before ++ spelled ∷ [] ≡ next = fine_is end in
    (subst (AreSpelled columns) made (one_spelled look columns before name spelled (column_named columns name) refl are one), sym (ap length made) ∙ length-append before (spelled ∷ []))

pub all_spelled : (look : Look) (columns : List ColumnDef) (names before end : List (List ℕ)) → AreSpelled columns before → run look (over (one_more columns) before names) ≡ fine end → AreSpelled columns end × (length end ≡ length before + length names)
all_spelled look columns [] before end are is = let made : before ≡ end = fine_is is in (subst (AreSpelled columns) made are, let same_length : length before ≡ length end = ap length made in omega arith)
all_spelled look columns (name ∷ names) before end are is =
    let (next, one, rest) = bind_fine look (one_more columns before name) _ end is in
    let more = one_more_spelled look columns before next name are one in
    let all = all_spelled look columns names next end more.0 rest in
    (all.0, let first : length next ≡ length before + 1 = more.1 in let others : length end ≡ length next + length names = all.1 in omega arith)
