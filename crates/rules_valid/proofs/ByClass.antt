-- The indexes by their class are the indexes.
use Rattle.std.specs.Prelude.{◌≡◌, ℕ, zero, suc, ◌≤◌, Bool, true, false, not, List, [], ◌∷◌, ◌++◌, filter, if◌then◌else◌, refl}
use Rattle.std.specs.List.{list_any, list_all}
use Rattle.std.proofs.Common.{sym, ◌∙◌, arith}
use Rattle.std.proofs.lemmas.Bool.{true≢false, and_parts, and_from, or_parts, or_from, not-true, not_from_false, true_from_ne_false, eq-eqb}
use Rattle.std.proofs.lemmas.List.Folds.{list_all-append}
use Rattle.sql_types.specs.declared.choices.IndexClass.{IndexClass}
use Rattle.sql_types.specs.declared.choices.IndexClass.TheVariants as classes
use Rattle.dd_definitions.specs.Indexes.{has_nullable, class_rank, rank}
use Rattle.dd_definitions.specs.declared.columns.ColumnDef.{ColumnDef}
use Rattle.dd_definitions.specs.declared.indexes.IndexDef.{IndexDef}
use Rattle.rules_create.specs.Tables.{is_ranked, by_class}

abbrev of_rank : List ColumnDef → ℕ → List IndexDef → List IndexDef
of_rank columns n indexes = filter (is_ranked columns n) indexes

class_rank_most : (class : IndexClass) (nullable : Bool) → class_rank class nullable ≤ 3
class_rank_most classes.Primary nullable = omega arith
class_rank_most classes.Unique true = omega arith
class_rank_most classes.Unique false = omega arith
class_rank_most classes.Plain nullable = omega arith

rank_most : (columns : List ColumnDef) (index : IndexDef) → rank columns index ≤ 3
unfolding rank
rank_most columns index = class_rank_most index.class (has_nullable columns index)

-- where those of each rank pass, all do
from_ranks : (p : IndexDef → Bool) (columns : List ColumnDef) (indexes : List IndexDef) → ((n : ℕ) → n ≤ 3 → list_all p (of_rank columns n indexes) ≡ true) → list_all p indexes ≡ true
from_ranks p columns [] ranks = refl
from_ranks p columns (i ∷ is) ranks = and_from (p i) (list_all p is) (first (is_ranked columns (rank columns i) i) (eq-eqb (rank columns i) (rank columns i) refl) (ranks (rank columns i) (rank_most columns i)))
    (from_ranks p columns is (λ n most. rest n (is_ranked columns n i) (ranks n most)))
  where
    first : (b : Bool) → b ≡ true → list_all p (if b then i ∷ of_rank columns (rank columns i) is else of_rank columns (rank columns i) is) ≡ true → p i ≡ true
    first true own all = (and_parts (p i) (list_all p (of_rank columns (rank columns i) is)) all).0
    first false own all = cc

    rest : (n : ℕ) (b : Bool) → list_all p (if b then i ∷ of_rank columns n is else of_rank columns n is) ≡ true → list_all p (of_rank columns n is) ≡ true
    rest n true all = (and_parts (p i) (list_all p (of_rank columns n is)) all).1
    rest n false all = all

-- what the indexes by their class pass, the indexes pass
pub before_by_class : (p : IndexDef → Bool) (columns : List ColumnDef) (indexes : List IndexDef) → list_all p (by_class columns indexes) ≡ true → list_all p indexes ≡ true
unfolding by_class
before_by_class p columns indexes all =
    let zeroth : List IndexDef = of_rank columns 0 indexes in
    let first : List IndexDef = of_rank columns 1 indexes in
    let second : List IndexDef = of_rank columns 2 indexes in
    let third : List IndexDef = of_rank columns 3 indexes in
    let (three, last) = and_parts (list_all p (zeroth ++ first ++ second)) (list_all p third) (sym (list_all-append p (zeroth ++ first ++ second) third) ∙ all) in
    let (two, later) = and_parts (list_all p (zeroth ++ first)) (list_all p second) (sym (list_all-append p (zeroth ++ first) second) ∙ three) in
    let (one, next) = and_parts (list_all p zeroth) (list_all p first) (sym (list_all-append p zeroth first) ∙ two) in
    from_ranks p columns indexes (ranked one next later last)
  where
    ranked : list_all p (of_rank columns 0 indexes) ≡ true → list_all p (of_rank columns 1 indexes) ≡ true → list_all p (of_rank columns 2 indexes) ≡ true → list_all p (of_rank columns 3 indexes) ≡ true
        → (n : ℕ) → n ≤ 3 → list_all p (of_rank columns n indexes) ≡ true
    ranked a b c d zero most = a
    ranked a b c d (suc zero) most = b
    ranked a b c d (suc (suc zero)) most = c
    ranked a b c d (suc (suc (suc zero))) most = d
    ranked a b c d (suc (suc (suc (suc n)))) most = absurd (omega arith)

none_passes : (p : IndexDef → Bool) (indexes : List IndexDef) → list_any p indexes ≡ false → list_all (λ i. not (p i)) indexes ≡ true
none_passes p [] none = refl
none_passes p (i ∷ is) none =
    let (here, rest) = or_parts (p i) (list_any p is) none in
    and_from (not (p i)) (list_all (λ j. not (p j)) is) (not_from_false (p i) here) (none_passes p is rest)

all_fail : (p : IndexDef → Bool) (indexes : List IndexDef) → list_all (λ i. not (p i)) indexes ≡ true → list_any p indexes ≡ false
all_fail p [] all = refl
all_fail p (i ∷ is) all =
    let (here, rest) = and_parts (not (p i)) (list_all (λ j. not (p j)) is) all in
    or_from (p i) (list_any p is) (not-true (p i) here) (all_fail p is rest)

-- where some index passes, some does behind the sorting
pub some_by_class : (p : IndexDef → Bool) (columns : List ColumnDef) (indexes : List IndexDef) → list_any p indexes ≡ true → list_any p (by_class columns indexes) ≡ true
some_by_class p columns indexes any =
    true_from_ne_false (list_any p (by_class columns indexes))
    (λ none. true≢false (sym any ∙ all_fail p indexes (before_by_class (λ i. not (p i)) columns indexes (none_passes p (by_class columns indexes) none))))
