-- The indexes behind an action are those that it has made, in another order, and their ranks never fall.
use Rattle.std.specs.Prelude.{◌≡◌, ℕ, zero, suc, ◌+◌, ◌≤◌, ◌==◌, Bool, true, false, ◌&&◌, List, [], ◌∷◌, ◌++◌, filter, refl}
use Rattle.std.specs.List.{list_all, count_by}
use Rattle.std.proofs.Common.{sym, ◌∙◌, ap, arith}
use Rattle.std.proofs.lemmas.List.{append_assoc, append-nil}
use Rattle.dd_definitions.specs.Indexes.{rank, are_ranked_from}
use Rattle.dd_definitions.specs.declared.columns.ColumnDef.{ColumnDef}
use Rattle.dd_definitions.specs.declared.indexes.IndexDef.{IndexDef}
use Rattle.dd_definitions.specs.declared.parts.TableParts.{TableParts}
use Rattle.rules_create.specs.Tables.{is_ranked, by_class}
use Rattle.rules_create.proofs.Lists.{one_if, count_more, count_append, filter_passes}
use Rattle.rules_alter.specs.Arranged.{is_standing, ranks_of, standing, stands_so, standing_so, in_turn, arranged}
use Rattle.rules_alter.specs.declared.arranged.Ranked.{Ranked}
use Rattle.rules_alter.specs.declared.arranged.Standing.{Standing}
use Rattle.rules_alter.specs.declared.arranged.Standing.TheVariants.{Stays, Moves, Comes}
use Rattle.rules_alter_laws.proofs.Lists.{AreAlike, alike_through, count_filter}
use Rattle.rules_alter_laws.proofs.Ranks.{rank_most, ranked_in_front}

-- ## By their class

one_rank : (r : ℕ) (b : Bool) → r ≤ 3 → one_if ((r == 0) && b) + one_if ((r == 1) && b) + one_if ((r == 2) && b) + one_if ((r == 3) && b) ≡ one_if b
one_rank zero true most = refl
one_rank zero false most = refl
one_rank (suc zero) true most = refl
one_rank (suc zero) false most = refl
one_rank (suc (suc zero)) true most = refl
one_rank (suc (suc zero)) false most = refl
one_rank (suc (suc (suc zero))) true most = refl
one_rank (suc (suc (suc zero))) false most = refl
one_rank (suc (suc (suc (suc r)))) b most = absurd (omega arith)

abbrev of_rank : List ColumnDef → ℕ → List IndexDef → List IndexDef
of_rank columns n indexes = filter (is_ranked columns n) indexes

class_counts : (p : IndexDef → Bool) (columns : List ColumnDef) (indexes : List IndexDef)
    → count_by p (of_rank columns 0 indexes) + count_by p (of_rank columns 1 indexes) + count_by p (of_rank columns 2 indexes) + count_by p (of_rank columns 3 indexes) ≡ count_by p indexes
class_counts p columns [] = refl
class_counts p columns (i ∷ is) =
    let c0 : count_by p (of_rank columns 0 (i ∷ is)) ≡ one_if ((rank columns i == 0) && p i) + count_by p (of_rank columns 0 is) = count_filter p (is_ranked columns 0) i is in
    let c1 : count_by p (of_rank columns 1 (i ∷ is)) ≡ one_if ((rank columns i == 1) && p i) + count_by p (of_rank columns 1 is) = count_filter p (is_ranked columns 1) i is in
    let c2 : count_by p (of_rank columns 2 (i ∷ is)) ≡ one_if ((rank columns i == 2) && p i) + count_by p (of_rank columns 2 is) = count_filter p (is_ranked columns 2) i is in
    let c3 : count_by p (of_rank columns 3 (i ∷ is)) ≡ one_if ((rank columns i == 3) && p i) + count_by p (of_rank columns 3 is) = count_filter p (is_ranked columns 3) i is in
    let whole : count_by p (i ∷ is) ≡ one_if (p i) + count_by p is = count_more p i is in
    let once = one_rank (rank columns i) (p i) (rank_most columns i) in
    let rest = class_counts p columns is in
    omega arith

by_class_alike : (columns : List ColumnDef) (indexes : List IndexDef) → AreAlike indexes (by_class columns indexes)
unfolding by_class
by_class_alike columns indexes = record {
  counts = λ p.
      let c1 = count_append p (of_rank columns 0 indexes) (of_rank columns 1 indexes) in
      let c2 = count_append p (of_rank columns 0 indexes ++ of_rank columns 1 indexes) (of_rank columns 2 indexes) in
      let c3 = count_append p (of_rank columns 0 indexes ++ of_rank columns 1 indexes ++ of_rank columns 2 indexes) (of_rank columns 3 indexes) in
      let all = class_counts p columns indexes in
      omega arith;
}

regrouped : (a b c d : List IndexDef) → a ++ b ++ c ++ d ≡ a ++ (b ++ (c ++ (d ++ [])))
regrouped a b c d = append_assoc (a ++ b) c d ∙ append_assoc a b (c ++ d) ∙ ap (λ (rest : List IndexDef). a ++ (b ++ (c ++ rest))) (sym (append-nil d))

by_class_ranked : (columns : List ColumnDef) (indexes : List IndexDef) → are_ranked_from columns 0 (by_class columns indexes) ≡ true
unfolding by_class
by_class_ranked columns indexes =
    let part : (n : ℕ) → list_all (is_ranked columns n) (of_rank columns n indexes) ≡ true = λ n. filter_passes (is_ranked columns n) indexes in
    ap (are_ranked_from columns 0) (regrouped (of_rank columns 0 indexes) (of_rank columns 1 indexes) (of_rank columns 2 indexes) (of_rank columns 3 indexes))
    ∙ ranked_in_front columns 0 0 (of_rank columns 0 indexes) _ refl (part 0)
    (ranked_in_front columns 0 1 (of_rank columns 1 indexes) _ refl (part 1)
    (ranked_in_front columns 1 2 (of_rank columns 2 indexes) _ refl (part 2) (ranked_in_front columns 2 3 (of_rank columns 3 indexes) [] refl (part 3) refl)))

-- ## By how they stood

one_standing : (s : Standing) (b : Bool) → one_if (is_standing s Stays && b) + one_if (is_standing s Moves && b) + one_if (is_standing s Comes && b) ≡ one_if b
one_standing Stays true = refl
one_standing Stays false = refl
one_standing Moves true = refl
one_standing Moves false = refl
one_standing Comes true = refl
one_standing Comes false = refl

standing_counts : (p : IndexDef → Bool) (before : List Ranked) (columns : List ColumnDef) (indexes : List IndexDef)
    → count_by p (standing_so before columns indexes Stays) + count_by p (standing_so before columns indexes Moves) + count_by p (standing_so before columns indexes Comes) ≡ count_by p indexes
standing_counts p before columns [] = refl
standing_counts p before columns (i ∷ is) =
    let c0 : count_by p (standing_so before columns (i ∷ is) Stays) ≡ one_if (is_standing (standing before columns i) Stays && p i) + count_by p (standing_so before columns is Stays) = count_filter p (stands_so before columns Stays) i is in
    let c1 : count_by p (standing_so before columns (i ∷ is) Moves) ≡ one_if (is_standing (standing before columns i) Moves && p i) + count_by p (standing_so before columns is Moves) = count_filter p (stands_so before columns Moves) i is in
    let c2 : count_by p (standing_so before columns (i ∷ is) Comes) ≡ one_if (is_standing (standing before columns i) Comes && p i) + count_by p (standing_so before columns is Comes) = count_filter p (stands_so before columns Comes) i is in
    let whole : count_by p (i ∷ is) ≡ one_if (p i) + count_by p is = count_more p i is in
    let once = one_standing (standing before columns i) (p i) in
    let rest = standing_counts p before columns is in
    omega arith

in_turn_alike : (before : List Ranked) (columns : List ColumnDef) (indexes : List IndexDef) → AreAlike indexes (in_turn before columns indexes)
in_turn_alike before columns indexes = record {
  counts = λ p.
      let c1 = count_append p (standing_so before columns indexes Stays) (standing_so before columns indexes Moves) in
      let c2 = count_append p (standing_so before columns indexes Stays ++ standing_so before columns indexes Moves) (standing_so before columns indexes Comes) in
      let all = standing_counts p before columns indexes in
      omega arith;
}

-- ## Arranged

-- the same table with these indexes, which are its own in another order and ranked
pub record IsArranged (parts : TableParts) (next : TableParts) : Type 0 where
  pub indexes : List IndexDef
  pub is : record parts { indexes = indexes } ≡ next
  pub alike : AreAlike parts.indexes indexes
  pub ranked : are_ranked_from parts.columns 0 indexes ≡ true

pub is_arranged : (before parts : TableParts) → IsArranged parts (arranged before parts)
unfolding arranged
is_arranged before parts = record {
  indexes = by_class parts.columns (in_turn (ranks_of before) parts.columns parts.indexes);
  is = refl;
  alike = alike_through (in_turn_alike (ranks_of before) parts.columns parts.indexes) (by_class_alike parts.columns (in_turn (ranks_of before) parts.columns parts.indexes));
  ranked = by_class_ranked parts.columns (in_turn (ranks_of before) parts.columns parts.indexes);
}
