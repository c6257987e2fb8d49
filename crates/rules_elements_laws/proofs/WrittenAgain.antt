-- The columns of a key, which the table spells, are named as they are written.
use Rattle.std.proofs.Common.{◌≡◌, ℕ, Bool, true, false, not, cond, List, [], ◌∷◌, ◌++◌, map, Option, Some, None, refl, sym, ◌∙◌, ap, subst}
use Rattle.std.specs.List.{list_any, find}
use Rattle.std.specs.Str.{bytes_eq}
use Rattle.std.proofs.lemmas.List.{append-nil, append_assoc}
use Rattle.dd_names.specs.Names.{same, fold}
use Rattle.dd_definitions.specs.Distinct.{are_distinct}
use Rattle.dd_definitions.specs.declared.columns.ColumnDef.{ColumnDef}
use Rattle.dd_catalog.specs.Asked.{bind_fine, fine_is}
use Rattle.dd_catalog.specs.Kinds.{column_named}
use Rattle.dd_catalog.specs.Walks.{fine, run, done, refuse, over}
use Rattle.dd_catalog.specs.WalkLaws.{Look}
use Rattle.rules_elements.specs.ForeignKeys.{name_or, as_written}
use Rattle.rules_elements.specs.Keys.{spelled_column, one_more, key_columns}
use Rattle.rules_refusals.specs.Refusals.{dup_fieldname}
use Rattle.rules_elements_laws.proofs.Numbers.{both}
use Rattle.rules_elements_laws.proofs.ParentSpelling.{same_fold, by_fold, found_fold}
use Rattle.rules_elements_laws.proofs.Spelled.{equal_to_itself, neither, is_false, some_is, all_spelled}

-- ## Names as they are written, each beside that of its column

record IsOf (columns : List ColumnDef) (name own : List ℕ) : Type 0 where
  column : ColumnDef
  found : column_named columns name ≡ Some column
  own_is : own ≡ column.name

abbrev AreOf : List ColumnDef → List (List ℕ) → List (List ℕ) → Type 0
AreOf columns [] [] = Unit {0}
AreOf columns [] (own ∷ owns) = ⊥
AreOf columns (name ∷ names) [] = ⊥
AreOf columns (name ∷ names) (own ∷ owns) = IsOf columns name own × AreOf columns names owns

own_fold : (columns : List ColumnDef) (name own : List ℕ) → IsOf columns name own → fold own ≡ fold name
own_fold columns name own of = ap fold of.own_is ∙ found_fold columns name of.column of.found

found_of : (look : Look) (columns : List ColumnDef) (before : List (List ℕ)) (name own : List ℕ) (found : Option ColumnDef) → column_named columns name ≡ found
    → run look (spelled_column before name found) ≡ fine own → IsOf columns name own
found_of look columns before name own None here is = cc
found_of look columns before name own (Some column) here is =
    elim (list_any (bytes_eq column.name) before) as (λ v. run look (cond v (refuse (dup_fieldname name)) (done column.name)) ≡ fine own → IsOf columns name own) [
      | true ↦ λ e. cc
      | false ↦ λ e. record { column = column; found = here; own_is = sym (fine_is e) }
    ] is

one_of : (look : Look) (columns : List ColumnDef) (before next : List (List ℕ)) (name : List ℕ) → run look (one_more columns before name) ≡ fine next → (own : List ℕ) × (next ≡ before ++ own ∷ []) × IsOf columns name own
unfolding one_more
one_of look columns before next name is =
    let (own, one, end) = bind_fine look (spelled_column before name (column_named columns name)) _ next is in
    (own, sym (fine_is end), found_of look columns before name own (column_named columns name) refl one)

all_of : (look : Look) (columns : List ColumnDef) (names before end : List (List ℕ)) → run look (over (one_more columns) before names) ≡ fine end → (owns : List (List ℕ)) × (end ≡ before ++ owns) × AreOf columns names owns
all_of look columns [] before end is = ([], sym (fine_is is) ∙ sym (append-nil before), tt)
all_of look columns (name ∷ names) before end is =
    let (next, one, rest) = bind_fine look (one_more columns before name) _ end is in
    let (own, next_is, of) = one_of look columns before next name one in
    let (owns, end_is, others) = all_of look columns names next end rest in
    (own ∷ owns, end_is ∙ ap (λ (b : List (List ℕ)). b ++ owns) next_is ∙ append_assoc before (own ∷ []) owns, (of, others))

-- ## The names again

-- two names of one column
same_own : (columns : List ColumnDef) (name own other own_other : List ℕ) → IsOf columns name own → IsOf columns other own_other → same name own_other ≡ true → own ≡ own_other
same_own columns name own other own_other of of_other alike =
    let folded : fold name ≡ fold other = same_fold name own_other alike ∙ own_fold columns other own_other of_other in
    let column : of.column ≡ of_other.column = some_is (sym of.found ∙ by_fold columns name other folded ∙ of_other.found) in
    of.own_is ∙ ap (λ (c : ColumnDef). c.name) column ∙ sym of_other.own_is

apart : (columns : List ColumnDef) (name own other own_other : List ℕ) → IsOf columns name own → IsOf columns other own_other → bytes_eq own own_other ≡ false → same name own_other ≡ false
apart columns name own other own_other of of_other differ =
    elim (same name own_other) as (λ v. same name own_other ≡ v → v ≡ false) [
      | true ↦ λ alike.
          let one : own_other ≡ own = sym (same_own columns name own other own_other of of_other alike) in
          sym (ap (bytes_eq own) one ∙ equal_to_itself own) ∙ differ
      | false ↦ λ unlike. refl
    ] refl

-- a name in front that none of the others is
not_first : (columns : List ColumnDef) (name own : List ℕ) (written names owns : List (List ℕ)) → IsOf columns name own → AreOf columns names owns → list_any (bytes_eq own) owns ≡ false
    → map (as_written (name ∷ written)) owns ≡ map (as_written written) owns
not_first columns name own written [] [] of others none = refl
not_first columns name own written [] (one ∷ ones) of others none = absurd others
not_first columns name own written (other ∷ names) [] of others none = absurd others
not_first columns name own written (other ∷ names) (one ∷ ones) of others none =
    let tests = neither (bytes_eq own one) (list_any (bytes_eq own) ones) none in
    let here : as_written (name ∷ written) one ≡ as_written written one =
    ap (λ (v : Bool). name_or one (cond v (Some name) (find (λ (o : List ℕ). same o one) written))) (apart columns name own other one of others.0 tests.0) in
    let later : map (as_written (name ∷ written)) ones ≡ map (as_written written) ones = not_first columns name own written names ones of others.1 tests.1 in
    λ i. here i ∷ later i

each_again : (columns : List ColumnDef) (names owns : List (List ℕ)) → AreOf columns names owns → are_distinct bytes_eq owns ≡ true → map (as_written names) owns ≡ names
each_again columns [] [] all distinct = refl
each_again columns [] (own ∷ owns) all distinct = absurd all
each_again columns (name ∷ names) [] all distinct = absurd all
each_again columns (name ∷ names) (own ∷ owns) all distinct =
    let (once, rest) = both (not (list_any (bytes_eq own) owns)) (are_distinct bytes_eq owns) distinct in
    let alike : same name own ≡ true = ap (bytes_eq (fold name)) (own_fold columns name own all.0) ∙ equal_to_itself (fold name) in
    let here : as_written (name ∷ names) own ≡ name = ap (λ (v : Bool). name_or own (cond v (Some name) (find (λ (o : List ℕ). same o own) names))) alike in
    let later : map (as_written (name ∷ names)) owns ≡ names =
    not_first columns name own names names owns all.0 all.1 (is_false (list_any (bytes_eq own) owns) once) ∙ each_again columns names owns all.1 rest in
    λ i. here i ∷ later i

pub named_as_written : (look : Look) (columns : List ColumnDef) (written spelled : List (List ℕ)) → run look (key_columns columns written) ≡ fine spelled → map (as_written written) spelled ≡ written
named_as_written look columns written spelled is =
    let (owns, owns_are, all) = all_of look columns written [] spelled is in
    let (spells, _) = all_spelled look columns written [] spelled (record { distinct = refl; there = refl }) is in
    subst (λ (names : List (List ℕ)). are_distinct bytes_eq names ≡ true → map (as_written written) names ≡ written) (sym owns_are) (each_again columns written owns all) spells.distinct
