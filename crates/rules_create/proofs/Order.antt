-- A foreign key put in its place keeps the others in order and apart.
use Rattle.std.specs.Prelude.{◌≡◌, Bool, true, false, List, [], ◌∷◌, refl}
use Rattle.std.specs.List.{list_any, list_all}
use Rattle.std.specs.declared.cmp.Ordering.{Ordering}
use Rattle.std.specs.declared.cmp.Ordering.TheVariants.{Less, Equal, Greater}
use Rattle.std.specs.Ordering.{is_le, ordering_reverse}
use Rattle.std.proofs.Common.{◌∙◌, ap}
use Rattle.std.proofs.lemmas.Bool.{and_parts, and_from, or_parts, or_from, cond_both}
use Rattle.std.proofs.lemmas.Cmp.{nat_list_cmp_total}
use Rattle.dd_names.specs.Names.{fold, name_cmp}
use Rattle.dd_definitions.specs.Distinct.{are_distinct}
use Rattle.dd_definitions.specs.ForeignKeys.{is_same_constraint, is_before_next, are_in_order}
use Rattle.dd_definitions.specs.declared.foreign_keys.ForeignKeyDef.{ForeignKeyDef}
use Rattle.rules_create.specs.Tables.{put_in_order}
use Rattle.rules_create.proofs.Lists.{distinct_parts, distinct_more, none_stronger}
use Rattle.rules_create.proofs.Names.{same_turned}

abbrev comes_first : ForeignKeyDef → ForeignKeyDef → Bool
comes_first a b = is_le (name_cmp (fold a.name) (fold b.name))

pub put_all : (p : ForeignKeyDef → Bool) (key : ForeignKeyDef) (keys : List ForeignKeyDef) → p key ≡ true → list_all p keys ≡ true → list_all p (put_in_order key keys) ≡ true
put_all p key [] here all = and_from (p key) true here refl
put_all p key (next ∷ keys) here all =
    let (first, rest) = and_parts (p next) (list_all p keys) all in
    cond_both (comes_first next key) (next ∷ put_in_order key keys) (key ∷ next ∷ keys) (λ ks. list_all p ks ≡ true)
    (λ _. and_from (p next) (list_all p (put_in_order key keys)) first (put_all p key keys here rest)) (λ _. and_from (p key) (list_all p (next ∷ keys)) here all)

pub put_none : (p : ForeignKeyDef → Bool) (key : ForeignKeyDef) (keys : List ForeignKeyDef) → p key ≡ false → list_any p keys ≡ false → list_any p (put_in_order key keys) ≡ false
put_none p key [] here none = or_from (p key) false here refl
put_none p key (next ∷ keys) here none =
    let (first, rest) = or_parts (p next) (list_any p keys) none in
    cond_both (comes_first next key) (next ∷ put_in_order key keys) (key ∷ next ∷ keys) (λ ks. list_any p ks ≡ false)
    (λ _. or_from (p next) (list_any p (put_in_order key keys)) first (put_none p key keys here rest)) (λ _. or_from (p key) (list_any p (next ∷ keys)) here none)

pub put_distinct : (key : ForeignKeyDef) (keys : List ForeignKeyDef) → list_any (λ (k : ForeignKeyDef). is_same_constraint k key) keys ≡ false → are_distinct is_same_constraint keys ≡ true → are_distinct is_same_constraint (put_in_order key keys) ≡ true
put_distinct key [] apart distinct = refl
put_distinct key (next ∷ keys) apart distinct =
    let (here, later) = or_parts (is_same_constraint next key) (list_any (λ (k : ForeignKeyDef). is_same_constraint k key) keys) apart in
    let (first, rest) = distinct_parts is_same_constraint next keys distinct in
    let turned : list_any (is_same_constraint key) (next ∷ keys) ≡ false = none_stronger (λ (k : ForeignKeyDef). is_same_constraint k key) (is_same_constraint key) (λ k is. same_turned k.name key.name ∙ is) (next ∷ keys) apart in
    cond_both (comes_first next key) (next ∷ put_in_order key keys) (key ∷ next ∷ keys) (λ ks. are_distinct is_same_constraint ks ≡ true)
    (λ _. distinct_more is_same_constraint next (put_in_order key keys) (put_none (is_same_constraint next) key keys here first) (put_distinct key keys later rest))
    (λ _. distinct_more is_same_constraint key (next ∷ keys) turned distinct)

not_first : (r : Ordering) → is_le r ≡ false → is_le (ordering_reverse r) ≡ true
not_first Less is = cc
not_first Equal is = cc
not_first Greater is = refl

-- of two, one comes first
other_first : (a b : ForeignKeyDef) → comes_first a b ≡ false → comes_first b a ≡ true
other_first a b is = ap is_le (nat_list_cmp_total.antisymm (fold b.name) (fold a.name)) ∙ not_first (name_cmp (fold a.name) (fold b.name)) is

put_behind : (first key : ForeignKeyDef) (keys : List ForeignKeyDef) → comes_first first key ≡ true → is_before_next first keys ≡ true → is_before_next first (put_in_order key keys) ≡ true
unfolding is_before_next
put_behind first key [] here next_is = here
put_behind first key (next ∷ keys) here next_is = cond_both (comes_first next key) (next ∷ put_in_order key keys) (key ∷ next ∷ keys) (λ ks. is_before_next first ks ≡ true) (λ _. next_is) (λ _. here)

pub put_ordered : (key : ForeignKeyDef) (keys : List ForeignKeyDef) → are_in_order keys ≡ true → are_in_order (put_in_order key keys) ≡ true
unfolding is_before_next
put_ordered key [] ordered = refl
put_ordered key (next ∷ keys) ordered =
    let (first, rest) = and_parts (is_before_next next keys) (are_in_order keys) ordered in
    cond_both (comes_first next key) (next ∷ put_in_order key keys) (key ∷ next ∷ keys) (λ ks. are_in_order ks ≡ true)
    (λ here. and_from (is_before_next next (put_in_order key keys)) (are_in_order (put_in_order key keys)) (put_behind next key keys here first) (put_ordered key keys rest))
    (λ other. and_from (comes_first key next) (are_in_order (next ∷ keys)) (other_first next key other) ordered)
