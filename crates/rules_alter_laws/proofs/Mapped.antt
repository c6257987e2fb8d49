-- Lists whose items a change keeps alike.
use Rattle.std.specs.Prelude.{◌≡◌, ℕ, ◌+◌, Bool, true, false, ◌&&◌, ◌||◌, List, [], ◌∷◌, map, filter, if◌then◌else◌, refl}
use Rattle.std.specs.List.{list_any, list_all, count_by}
use Rattle.std.specs.Ordering.{is_le, ordering_reverse}
use Rattle.std.specs.declared.cmp.Ordering.{Ordering}
use Rattle.std.specs.declared.cmp.Ordering.TheVariants.{Less, Equal, Greater}
use Rattle.std.proofs.Common.{sym, ◌∙◌, ap, arith}
use Rattle.std.proofs.lemmas.Bool.{and_parts, and_from, or_parts, or_from}
use Rattle.std.proofs.lemmas.Cmp.{nat_list_cmp_total}
use Rattle.dd_names.specs.Names.{same, fold, name_cmp}
use Rattle.dd_definitions.specs.Distinct.{are_distinct}
use Rattle.dd_definitions.specs.ForeignKeys.{is_same_constraint, is_before_next, are_in_order}
use Rattle.dd_definitions.specs.declared.foreign_keys.ForeignKeyDef.{ForeignKeyDef}
use Rattle.rules_create.proofs.Lists.{one_if, count_more, distinct_parts, distinct_more, distinct_map, any_map}

-- two tests that agree where a third passes, as it does everywhere
pub same_any_where : {X : Type 0} (p q r : X → Bool) → ((x : X) → r x ≡ true → p x ≡ q x) → (xs : List X) → list_all r xs ≡ true → list_any p xs ≡ list_any q xs
same_any_where p q r agree [] all = refl
same_any_where p q r agree (x ∷ xs) all =
    let (here, later) = and_parts (r x) (list_all r xs) all in
    ap (λ b. b || list_any p xs) (agree x here) ∙ ap (λ b. q x || b) (same_any_where p q r agree xs later)

pub count_map : {X Y : Type 0} (p : Y → Bool) (f : X → Y) (xs : List X) → count_by p (map f xs) ≡ count_by (λ x. p (f x)) xs
count_map p f [] = refl
count_map p f (x ∷ xs) =
    let first : count_by p (map f (x ∷ xs)) ≡ one_if (p (f x)) + count_by p (map f xs) = count_more p (f x) (map f xs) in
    let other : count_by (λ y. p (f y)) (x ∷ xs) ≡ one_if (p (f x)) + count_by (λ y. p (f y)) xs = count_more (λ y. p (f y)) x xs in
    let rest : count_by p (map f xs) ≡ count_by (λ y. p (f y)) xs = count_map p f xs in
    omega arith

-- a change that makes no two of these items alike
pub distinct_where : {X : Type 0} (like : X → X → Bool) (r : X → Bool) (f : X → X) → ((x y : X) → r x ≡ true → r y ≡ true → like x y ≡ false → like (f x) (f y) ≡ false) → (xs : List X)
    → list_all r xs ≡ true → are_distinct like xs ≡ true → are_distinct like (map f xs) ≡ true
distinct_where like r f apart [] all distinct = refl
distinct_where {X = X} like r f apart (x ∷ xs) all distinct =
    let (here, later) = and_parts (r x) (list_all r xs) all in
    let (none, rest) = distinct_parts like x xs distinct in
    distinct_more like (f x) (map f xs) (any_map (like (f x)) f xs ∙ others xs later none here) (distinct_where like r f apart xs later rest)
  where
    others : (ys : List X) → list_all r ys ≡ true → list_any (like x) ys ≡ false → r x ≡ true → list_any (λ y. like (f x) (f y)) ys ≡ false
    others [] all none here = refl
    others (y ∷ ys) all none here =
        let (first, more) = and_parts (r y) (list_all r ys) all in
        let (unlike, rest) = or_parts (like x y) (list_any (like x) ys) none in
        or_from (like (f x) (f y)) (list_any (λ z. like (f x) (f z)) ys) (apart x y here first unlike) (others ys more rest here)

-- ## Foreign keys in the order of their names

stays_before : (f : ForeignKeyDef → ForeignKeyDef) → ((k : ForeignKeyDef) → (f k).name ≡ k.name) → (key : ForeignKeyDef) (rest : List ForeignKeyDef) → is_before_next (f key) (map f rest) ≡ is_before_next key rest
unfolding is_before_next
stays_before f keeps key [] = refl
stays_before f keeps key (next ∷ rest) = ap (λ n. is_le (name_cmp (fold n) (fold (f next).name))) (keeps key) ∙ ap (λ n. is_le (name_cmp (fold key.name) (fold n))) (keeps next)

pub ordered_map : (f : ForeignKeyDef → ForeignKeyDef) → ((k : ForeignKeyDef) → (f k).name ≡ k.name) → (keys : List ForeignKeyDef) → are_in_order (map f keys) ≡ are_in_order keys
ordered_map f keeps [] = refl
ordered_map f keeps (key ∷ rest) = ap (λ b. b && are_in_order (map f rest)) (stays_before f keeps key rest) ∙ ap (λ b. is_before_next key rest && b) (ordered_map f keeps rest)

pub names_distinct : (f : ForeignKeyDef → ForeignKeyDef) → ((k : ForeignKeyDef) → (f k).name ≡ k.name) → (keys : List ForeignKeyDef) → are_distinct is_same_constraint (map f keys) ≡ are_distinct is_same_constraint keys
names_distinct f keeps keys = distinct_map is_same_constraint f (λ a b. ap (λ n. same n (f b).name) (keeps a) ∙ ap (same a.name) (keeps b)) keys

le_through : (a b c : List ℕ) → is_le (name_cmp a b) ≡ true → is_le (name_cmp b c) ≡ true → is_le (name_cmp a c) ≡ true
le_through a b c one other = on (name_cmp a b) refl (name_cmp b c) refl one other
  where
    turned : (x y : List ℕ) → name_cmp x y ≡ ordering_reverse (name_cmp y x)
    turned x y = nat_list_cmp_total.antisymm x y

    on : (r : Ordering) → name_cmp a b ≡ r → (s : Ordering) → name_cmp b c ≡ s → is_le r ≡ true → is_le s ≡ true → is_le (name_cmp a c) ≡ true
    on Less ab Less bc one other = ap is_le (nat_list_cmp_total.trans a b c ab bc)
    on Less ab Equal bc one other =
        let first : name_cmp b a ≡ name_cmp c a = nat_list_cmp_total.congr b c a bc in
        let same_way : name_cmp a c ≡ name_cmp a b = turned a c ∙ ap ordering_reverse (sym first) ∙ sym (turned a b) in
        ap is_le (same_way ∙ ab)
    on Less ab Greater bc one other = cc
    on Equal ab s bc one other = ap is_le (nat_list_cmp_total.congr a b c ab ∙ bc) ∙ other
    on Greater ab s bc one other = cc

before_first : (key : ForeignKeyDef) (p : ForeignKeyDef → Bool) (keys : List ForeignKeyDef) → is_before_next key keys ≡ true → are_in_order keys ≡ true → is_before_next key (filter p keys) ≡ true
unfolding is_before_next
before_first key p [] first ordered = refl
before_first key p (next ∷ keys) first ordered =
    let (here, rest) = and_parts (is_before_next next keys) (are_in_order keys) ordered in
    on (p next) first (before_first key p keys (through keys first here) rest)
  where
    through : (rest : List ForeignKeyDef) → is_le (name_cmp (fold key.name) (fold next.name)) ≡ true → is_before_next next rest ≡ true → is_before_next key rest ≡ true
    through [] one other = refl
    through (third ∷ rest) one other = le_through (fold key.name) (fold next.name) (fold third.name) one other

    on : (b : Bool) → is_le (name_cmp (fold key.name) (fold next.name)) ≡ true → is_before_next key (filter p keys) ≡ true → is_before_next key (if b then next ∷ filter p keys else filter p keys) ≡ true
    on true one later = one
    on false one later = later

pub ordered_filter : (p : ForeignKeyDef → Bool) (keys : List ForeignKeyDef) → are_in_order keys ≡ true → are_in_order (filter p keys) ≡ true
ordered_filter p [] ordered = refl
ordered_filter p (key ∷ keys) ordered =
    let (first, rest) = and_parts (is_before_next key keys) (are_in_order keys) ordered in
    on (p key) (before_first key p keys first rest) (ordered_filter p keys rest)
  where
    on : (b : Bool) → is_before_next key (filter p keys) ≡ true → are_in_order (filter p keys) ≡ true → are_in_order (if b then key ∷ filter p keys else filter p keys) ≡ true
    on true first later = and_from (is_before_next key (filter p keys)) (are_in_order (filter p keys)) first later
    on false first later = later
