-- Indexes that stand by their class stay so.
use Rattle.std.specs.Prelude.{◌≡◌, ℕ, zero, suc, ◌<◌, ◌≤◌, ◌==◌, Bool, true, false, cond, nat_le, List, [], ◌∷◌, ◌++◌, filter, refl}
use Rattle.std.proofs.Common.{sym, ◌∙◌, ap, arith}
use Rattle.std.proofs.lemmas.Bool.{and_parts, leb-true, ne_eqb, cond-false}
use Rattle.std.proofs.lemmas.List.{append_assoc}
use Rattle.sql_types.specs.declared.choices.IndexClass.{IndexClass}
use Rattle.sql_types.specs.declared.choices.IndexClass.TheVariants as classes
use Rattle.dd_definitions.specs.Indexes.{has_nullable, class_rank, rank, are_ranked_from}
use Rattle.dd_definitions.specs.declared.columns.ColumnDef.{ColumnDef}
use Rattle.dd_definitions.specs.declared.indexes.IndexDef.{IndexDef}
use Rattle.rules_create.specs.Tables.{is_ranked, by_class}

abbrev of_rank : List ColumnDef → ℕ → List IndexDef → List IndexDef
of_rank columns n indexes = filter (is_ranked columns n) indexes

class_rank_most : (class : IndexClass) (nullable : Bool) → class_rank class nullable ≤ 3
class_rank_most classes.Primary nullable = omega arith
class_rank_most classes.Unique true = omega arith
class_rank_most classes.Unique false = omega arith
class_rank_most classes.Plain nullable = omega arith

rank_most : (columns : List ColumnDef) (index : IndexDef) → rank columns index ≤ 3
unfolding rank
rank_most columns index = class_rank_most index.class (has_nullable columns index)

-- one index more, by its rank
more : (columns : List ColumnDef) (n r : ℕ) (i : IndexDef) (indexes : List IndexDef) → rank columns i ≡ r → of_rank columns n (i ∷ indexes) ≡ cond (r == n) (i ∷ of_rank columns n indexes) (of_rank columns n indexes)
more columns n r i indexes is = ap (λ (x : ℕ). cond (x == n) (i ∷ of_rank columns n indexes) (of_rank columns n indexes)) is

-- none has a rank below the least
none_below : (columns : List ColumnDef) (least n : ℕ) (indexes : List IndexDef) → are_ranked_from columns least indexes ≡ true → n < least → of_rank columns n indexes ≡ []
none_below columns least n [] ranked below = refl
none_below columns least n (i ∷ indexes) ranked below =
    let (here, rest) = and_parts (nat_le least (rank columns i)) (are_ranked_from columns (rank columns i) indexes) ranked in
    let high : least ≤ rank columns i = leb-true least (rank columns i) here in
    let higher : n < rank columns i = omega (arith, high, below) in
    cond-false (rank columns i == n) (i ∷ of_rank columns n indexes) (of_rank columns n indexes) (ne_eqb (rank columns i) n (λ e. omega (arith, e, higher)))
    ∙ none_below columns (rank columns i) n indexes rest higher

-- the four parts, one behind the other
abbrev all_four : List IndexDef → List IndexDef → List IndexDef → List IndexDef → List IndexDef
all_four a b c d = a ++ (b ++ (c ++ d))

abbrev sorted : List ColumnDef → List IndexDef → List IndexDef
sorted columns indexes = all_four (of_rank columns 0 indexes) (of_rank columns 1 indexes) (of_rank columns 2 indexes) (of_rank columns 3 indexes)

four_are : (a b c d p q r s : List IndexDef) → a ≡ p → b ≡ q → c ≡ r → d ≡ s → all_four a b c d ≡ all_four p q r s
four_are a b c d p q r s e f g h = λ i. all_four (e i) (f i) (g i) (h i)

at_rank : (columns : List ColumnDef) (i : IndexDef) (indexes : List IndexDef) → sorted columns indexes ≡ indexes → (r : ℕ) → rank columns i ≡ r → r ≤ 3 → are_ranked_from columns r indexes ≡ true → sorted columns (i ∷ indexes) ≡ i ∷ indexes
at_rank columns i indexes again zero is most ranked =
    four_are (of_rank columns 0 (i ∷ indexes)) (of_rank columns 1 (i ∷ indexes)) (of_rank columns 2 (i ∷ indexes)) (of_rank columns 3 (i ∷ indexes)) (i ∷ of_rank columns 0 indexes) (of_rank columns 1 indexes) (of_rank columns 2 indexes) (of_rank columns 3 indexes)
    (more columns 0 0 i indexes is) (more columns 1 0 i indexes is) (more columns 2 0 i indexes is) (more columns 3 0 i indexes is)
    ∙ ap (λ (is : List IndexDef). i ∷ is) again
at_rank columns i indexes again (suc zero) is most ranked =
    let none = none_below columns 1 0 indexes ranked (omega arith) in
    four_are (of_rank columns 0 (i ∷ indexes)) (of_rank columns 1 (i ∷ indexes)) (of_rank columns 2 (i ∷ indexes)) (of_rank columns 3 (i ∷ indexes)) [] (i ∷ of_rank columns 1 indexes) (of_rank columns 2 indexes) (of_rank columns 3 indexes)
    (more columns 0 1 i indexes is ∙ none) (more columns 1 1 i indexes is) (more columns 2 1 i indexes is) (more columns 3 1 i indexes is)
    ∙ ap (λ (is : List IndexDef). i ∷ is) (ap (λ (a : List IndexDef). all_four a (of_rank columns 1 indexes) (of_rank columns 2 indexes) (of_rank columns 3 indexes)) (sym none) ∙ again)
at_rank columns i indexes again (suc (suc zero)) is most ranked =
    let none = none_below columns 2 0 indexes ranked (omega arith) in
    let nor = none_below columns 2 1 indexes ranked (omega arith) in
    four_are (of_rank columns 0 (i ∷ indexes)) (of_rank columns 1 (i ∷ indexes)) (of_rank columns 2 (i ∷ indexes)) (of_rank columns 3 (i ∷ indexes)) [] [] (i ∷ of_rank columns 2 indexes) (of_rank columns 3 indexes)
    (more columns 0 2 i indexes is ∙ none) (more columns 1 2 i indexes is ∙ nor) (more columns 2 2 i indexes is) (more columns 3 2 i indexes is)
    ∙ ap (λ (is : List IndexDef). i ∷ is)
    (four_are [] [] (of_rank columns 2 indexes) (of_rank columns 3 indexes) (of_rank columns 0 indexes) (of_rank columns 1 indexes) (of_rank columns 2 indexes) (of_rank columns 3 indexes) (sym none) (sym nor) refl refl ∙ again)
at_rank columns i indexes again (suc (suc (suc zero))) is most ranked =
    let none = none_below columns 3 0 indexes ranked (omega arith) in
    let nor = none_below columns 3 1 indexes ranked (omega arith) in
    let neither = none_below columns 3 2 indexes ranked (omega arith) in
    four_are (of_rank columns 0 (i ∷ indexes)) (of_rank columns 1 (i ∷ indexes)) (of_rank columns 2 (i ∷ indexes)) (of_rank columns 3 (i ∷ indexes)) [] [] [] (i ∷ of_rank columns 3 indexes)
    (more columns 0 3 i indexes is ∙ none) (more columns 1 3 i indexes is ∙ nor) (more columns 2 3 i indexes is ∙ neither) (more columns 3 3 i indexes is)
    ∙ ap (λ (is : List IndexDef). i ∷ is)
    (four_are [] [] [] (of_rank columns 3 indexes) (of_rank columns 0 indexes) (of_rank columns 1 indexes) (of_rank columns 2 indexes) (of_rank columns 3 indexes) (sym none) (sym nor) (sym neither) refl ∙ again)
at_rank columns i indexes again (suc (suc (suc (suc n)))) is most ranked = absurd (omega (arith, most))

stays : (columns : List ColumnDef) (least : ℕ) (indexes : List IndexDef) → are_ranked_from columns least indexes ≡ true → sorted columns indexes ≡ indexes
stays columns least [] ranked = refl
stays columns least (i ∷ indexes) ranked =
    let (_, rest) = and_parts (nat_le least (rank columns i)) (are_ranked_from columns (rank columns i) indexes) ranked in
    at_rank columns i indexes (stays columns (rank columns i) indexes rest) (rank columns i) refl (rank_most columns i) rest

pub by_class_stays : (columns : List ColumnDef) (indexes : List IndexDef) → are_ranked_from columns 0 indexes ≡ true → by_class columns indexes ≡ indexes
unfolding by_class
by_class_stays columns indexes ranked =
    append_assoc (of_rank columns 0 indexes ++ of_rank columns 1 indexes) (of_rank columns 2 indexes) (of_rank columns 3 indexes)
    ∙ append_assoc (of_rank columns 0 indexes) (of_rank columns 1 indexes) (of_rank columns 2 indexes ++ of_rank columns 3 indexes)
    ∙ stays columns 0 indexes ranked
