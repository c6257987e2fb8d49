-- Indexes whose ranks never fall.
use Rattle.std.specs.Prelude.{◌≡◌, ℕ, ◌+◌, ◌≤◌, ◌==◌, Bool, true, false, not, nat_le, List, [], ◌∷◌, ◌++◌, map, filter, if◌then◌else◌, refl}
use Rattle.std.specs.List.{list_any, list_all, count_by}
use Rattle.std.proofs.Common.{sym, ◌∙◌, ap, subst, arith, inl, inr}
use Rattle.std.proofs.lemmas.Bool.{and_parts, and_from, or_parts, not_from_false, cases_Bool, eqb-true}
use Rattle.std.proofs.lemmas.Bool.Decides.{nat_tests}
use Rattle.sql_types.specs.declared.choices.IndexClass.{IndexClass}
use Rattle.sql_types.specs.declared.choices.IndexClass.TheVariants as classes
use Rattle.dd_definitions.specs.Indexes.{is_primary_class, is_primary, is_secondary, is_primary_first, has_nullable, class_rank, rank, are_ranked_from}
use Rattle.dd_definitions.specs.declared.columns.ColumnDef.{ColumnDef}
use Rattle.dd_definitions.specs.declared.indexes.IndexDef.{IndexDef}
use Rattle.rules_create.specs.Tables.{is_ranked}
use Rattle.rules_create.proofs.Lists.{one_if, count_more}
use Rattle.rules_alter_laws.proofs.Lists.{none_counted, one_if_true}

-- ## The rank of one index

class_rank_most : (class : IndexClass) (nullable : Bool) → class_rank class nullable ≤ 3
class_rank_most classes.Primary nullable = omega arith
class_rank_most classes.Unique true = omega arith
class_rank_most classes.Unique false = omega arith
class_rank_most classes.Plain nullable = omega arith

pub rank_most : (columns : List ColumnDef) (index : IndexDef) → rank columns index ≤ 3
unfolding rank
rank_most columns index = class_rank_most index.class (has_nullable columns index)

class_low : (class : IndexClass) (nullable : Bool) → is_primary_class class ≡ false → nat_le 1 (class_rank class nullable) ≡ true
class_low classes.Primary nullable is = cc
class_low classes.Unique true is = refl
class_low classes.Unique false is = refl
class_low classes.Plain nullable is = refl

secondary_low : (columns : List ColumnDef) (index : IndexDef) → is_primary index ≡ false → nat_le 1 (rank columns index) ≡ true
unfolding rank
secondary_low columns index is = class_low index.class (has_nullable columns index) is

class_high : (class : IndexClass) (nullable : Bool) → nat_le 1 (class_rank class nullable) ≡ true → not (is_primary_class class) ≡ true
class_high classes.Primary nullable is = cc
class_high classes.Unique nullable is = refl
class_high classes.Plain nullable is = refl

high_secondary : (columns : List ColumnDef) (index : IndexDef) → nat_le 1 (rank columns index) ≡ true → is_secondary index ≡ true
unfolding rank
high_secondary columns index is = class_high index.class (has_nullable columns index) is

-- the rank tells no more of the columns than whether one of the index may be NULL
pub same_rank : (columns next : List ColumnDef) (index other : IndexDef) → other.class ≡ index.class → has_nullable next other ≡ has_nullable columns index → rank next other ≡ rank columns index
unfolding rank
same_rank columns next index other class nullable = ap (λ c. class_rank c (has_nullable next other)) class ∙ ap (class_rank index.class) nullable

-- ## Ranks that never fall

through : (a b c : ℕ) → nat_le a b ≡ true → nat_le b c ≡ true → nat_le a c ≡ true
through a b c one other = grind (arith, nat_tests)

pub lower : (columns : List ColumnDef) (least n : ℕ) (indexes : List IndexDef) → nat_le least n ≡ true → are_ranked_from columns n indexes ≡ true → are_ranked_from columns least indexes ≡ true
lower columns least n [] most ranked = refl
lower columns least n (i ∷ is) most ranked =
    let (here, rest) = and_parts (nat_le n (rank columns i)) (are_ranked_from columns (rank columns i) is) ranked in
    and_from (nat_le least (rank columns i)) (are_ranked_from columns (rank columns i) is) (through least n (rank columns i) most here) rest

equal_below : (a n : ℕ) → a ≡ n → nat_le a n ≡ true
equal_below a n is = grind (arith, nat_tests)

pub ranked_in_front : (columns : List ColumnDef) (least n : ℕ) (front rest : List IndexDef) → nat_le least n ≡ true → list_all (is_ranked columns n) front ≡ true → are_ranked_from columns n rest ≡ true → are_ranked_from columns least (front ++ rest) ≡ true
ranked_in_front columns least n [] rest most all ranked = lower columns least n rest most ranked
ranked_in_front columns least n (i ∷ is) rest most all ranked =
    let (here, later) = and_parts (rank columns i == n) (list_all (is_ranked columns n) is) all in
    let e : rank columns i ≡ n = eqb-true (rank columns i) n here in
    and_from (nat_le least (rank columns i)) (are_ranked_from columns (rank columns i) (is ++ rest)) (ap (nat_le least) e ∙ most)
    (ranked_in_front columns (rank columns i) n is rest (equal_below (rank columns i) n e) later ranked)

pub ranked_filter : (columns : List ColumnDef) (p : IndexDef → Bool) (least : ℕ) (indexes : List IndexDef) → are_ranked_from columns least indexes ≡ true → are_ranked_from columns least (filter p indexes) ≡ true
ranked_filter columns p least [] ranked = refl
ranked_filter columns p least (i ∷ is) ranked =
    let (here, rest) = and_parts (nat_le least (rank columns i)) (are_ranked_from columns (rank columns i) is) ranked in
    on (p i) here (ranked_filter columns p (rank columns i) is rest)
  where
    on : (b : Bool) → nat_le least (rank columns i) ≡ true → are_ranked_from columns (rank columns i) (filter p is) ≡ true → are_ranked_from columns least (if b then i ∷ filter p is else filter p is) ≡ true
    on true here later = and_from (nat_le least (rank columns i)) (are_ranked_from columns (rank columns i) (filter p is)) here later
    on false here later = lower columns least (rank columns i) (filter p is) here later

-- a change of each index that keeps its rank
pub ranked_map : (columns next : List ColumnDef) (f : IndexDef → IndexDef) (q : IndexDef → Bool) → ((i : IndexDef) → q i ≡ true → rank next (f i) ≡ rank columns i) → (least : ℕ) (indexes : List IndexDef)
    → list_all q indexes ≡ true → are_ranked_from columns least indexes ≡ true → are_ranked_from next least (map f indexes) ≡ true
ranked_map columns next f q keeps least [] all ranked = refl
ranked_map columns next f q keeps least (i ∷ is) all ranked =
    let (passes, others) = and_parts (q i) (list_all q is) all in
    let (here, rest) = and_parts (nat_le least (rank columns i)) (are_ranked_from columns (rank columns i) is) ranked in
    let e : rank next (f i) ≡ rank columns i = keeps i passes in
    and_from (nat_le least (rank next (f i))) (are_ranked_from next (rank next (f i)) (map f is)) (ap (nat_le least) e ∙ here)
    (subst (λ n. are_ranked_from next n (map f is) ≡ true) (sym e) (ranked_map columns next f q keeps (rank columns i) is others rest))

-- other columns that keep the rank of each index
pub ranked_stays : (columns next : List ColumnDef) → ((i : IndexDef) → rank next i ≡ rank columns i) → (least : ℕ) (indexes : List IndexDef) → are_ranked_from columns least indexes ≡ true → are_ranked_from next least indexes ≡ true
ranked_stays columns next keeps least [] ranked = refl
ranked_stays columns next keeps least (i ∷ is) ranked =
    let (here, rest) = and_parts (nat_le least (rank columns i)) (are_ranked_from columns (rank columns i) is) ranked in
    and_from (nat_le least (rank next i)) (are_ranked_from next (rank next i) is) (ap (nat_le least) (keeps i) ∙ here)
    (subst (λ n. are_ranked_from next n is ≡ true) (sym (keeps i)) (ranked_stays columns next keeps (rank columns i) is rest))

-- ## The primary key stands first

later_secondary : (columns : List ColumnDef) (least : ℕ) (indexes : List IndexDef) → nat_le 1 least ≡ true → are_ranked_from columns least indexes ≡ true → list_all is_secondary indexes ≡ true
later_secondary columns least [] some ranked = refl
later_secondary columns least (i ∷ is) some ranked =
    let (here, rest) = and_parts (nat_le least (rank columns i)) (are_ranked_from columns (rank columns i) is) ranked in
    let high : nat_le 1 (rank columns i) ≡ true = through 1 least (rank columns i) some here in
    and_from (is_secondary i) (list_all is_secondary is) (high_secondary columns i high) (later_secondary columns (rank columns i) is high rest)

no_primary : (indexes : List IndexDef) → list_any is_primary indexes ≡ false → list_all is_secondary indexes ≡ true
no_primary [] none = refl
no_primary (i ∷ is) none =
    let (here, later) = or_parts (is_primary i) (list_any is_primary is) none in
    and_from (is_secondary i) (list_all is_secondary is) (not_from_false (is_primary i) here) (no_primary is later)

pub primary_first : (columns : List ColumnDef) (indexes : List IndexDef) → are_ranked_from columns 0 indexes ≡ true → count_by is_primary indexes ≤ 1 → is_primary_first indexes ≡ true
unfolding is_primary_first
primary_first columns [] ranked single = refl
primary_first columns (i ∷ is) ranked single =
    let (_, rest) = and_parts (nat_le 0 (rank columns i)) (are_ranked_from columns (rank columns i) is) ranked in
    elim (cases_Bool (is_primary i)) [
      | inl primary ↦
          let more : count_by is_primary (i ∷ is) ≡ one_if (is_primary i) + count_by is_primary is = count_more is_primary i is in
          let one : one_if (is_primary i) ≡ 1 = one_if_true (is_primary i) primary in
          no_primary is (none_counted is_primary is (omega arith))
      | inr other ↦ later_secondary columns (rank columns i) is (secondary_low columns i other) rest
    ]
