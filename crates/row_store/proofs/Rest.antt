-- What is left to a scan behind what it gave.
use Rattle.std.proofs.Common.{◌≡◌, ℕ, zero, suc, ◌-◌, ◌<◌, Less, Equal, Greater, Ordering, Bool, true, false, cond, ◌&&◌, List, [], ◌∷◌, length, take, drop, Option, Some, None, refl, sym, ap, subst, ◌∙◌, arith, length-drop}
use lib.Dec.{T}
use Rattle.std.specs.Prelude.{slice_get, IsTrue}
use Rattle.std.specs.Option.{option_map}
use Rattle.std.specs.FinMap as finite_map
use Rattle.std.specs.FinMap.{entries-from_sorted}
use Rattle.std.specs.List.{filter}
use Rattle.std.specs.Ordering.{is_lt, ordering_reverse}
use Rattle.std.specs.Cmp.Lexicographic.{nat_list_cmp_total}
use Rattle.std.specs.FinMap.Entries.{below_all, is_sorted-where_key}
use Rattle.row_batch.specs.Order.{key_cmp}
use Rattle.row_batch.specs.Rows.{is_under}
use Rattle.row_store.specs.Entries.{Entries, rows_of, in_key_order}
use Rattle.row_store.specs.Place.{ScanValue, is_behind, is_left, entries_left, rows_left, last_key, moved}
use Rattle.row_store.specs.Answer.{Gives}
use Rattle.row_store.proofs.Laws.{as_T, as_true}
use Rattle.row_store.proofs.Kept.{front_of, rest_of, is_Less}

not_lt : (a b : Ordering) → a ≡ ordering_reverse b → b ≡ Less → is_lt a ≡ false
not_lt Less b e h = absurd (let k : Less ≡ Greater = e ∙ ap ordering_reverse h in cc)
not_lt Equal b e h = refl
not_lt Greater b e h = refl

-- a key that is before another isn't behind it
not_back : (x y : List ℕ) → key_cmp x y ≡ Less → is_lt (key_cmp y x) ≡ false
not_back x y lt = not_lt (key_cmp y x) (key_cmp x y) (nat_list_cmp_total.antisymm y x) lt

-- all the keys are behind another, if there is one
abbrev AllBehind : Option (List ℕ) → Entries → Type 0
AllBehind None es = Unit {0}
AllBehind (Some x) es = T (below_all key_cmp x es)

first_behind : (last : Option (List ℕ)) (e : List ℕ × List ℕ) (es : Entries) → AllBehind last (e ∷ es) → is_behind last e.0 ≡ true
first_behind None e es h = refl
first_behind (Some x) e es h = as_true (is_lt (key_cmp x e.0)) (front_of _ _ h)

-- what is behind a key that is behind another is behind that
behind_both : (last : Option (List ℕ)) (y x : List ℕ) → is_behind last y ≡ true → is_lt (key_cmp y x) ≡ true → is_behind last x ≡ true
behind_both None y x a b = refl
behind_both (Some l) y x a b = ap is_lt (nat_list_cmp_total.trans l y x (is_Less (key_cmp l y) (as_T _ a)) (is_Less (key_cmp y x) (as_T _ b)))

-- a key that isn't behind one isn't behind the later ones
not_behind : (x k : List ℕ) (n : ℕ) (es : Entries) → is_lt (key_cmp k x) ≡ false → T (below_all key_cmp x es) → is_behind (last_key (Some k) (take n es)) x ≡ false
not_behind x k zero es h below = h
not_behind x k (suc n) [] h below = h
not_behind x k (suc n) (e ∷ es) h below = not_behind x e.0 n es (not_back x e.0 (is_Less (key_cmp x e.0) (front_of _ _ below))) (rest_of _ _ below)

-- and one behind the later ones is behind the first
further : (last : Option (List ℕ)) (n : ℕ) (es : Entries) (x : List ℕ) → AllBehind last es → T (in_key_order es) → is_behind (last_key last (take n es)) x ≡ true → is_behind last x ≡ true
further last zero es x all order h = h
further last (suc n) [] x all order h = h
further last (suc n) (e ∷ es) x all order h =
    behind_both last e.0 x (first_behind last e es all) (further (Some e.0) n es x (front_of _ _ order) (rest_of _ _ order) h)

all_kept : (last : Option (List ℕ)) (es : Entries) → AllBehind last es → filter (λ e. is_behind last e.0) es ≡ es
all_kept None [] all = refl
all_kept None (e ∷ es) all = ap (λ (l : Entries). e ∷ l) (all_kept None es tt)
all_kept (Some x) [] all = refl
all_kept (Some x) (e ∷ es) all =
    let here : is_lt (key_cmp x e.0) ≡ true = as_true _ (front_of _ _ all) in
    rw here (ap (λ (l : Entries). e ∷ l) (all_kept (Some x) es (rest_of _ _ all)))

-- behind the first n entries in order stand the others
behind_first : (last : Option (List ℕ)) (n : ℕ) (es : Entries) → AllBehind last es → T (in_key_order es) → filter (λ e. is_behind (last_key last (take n es)) e.0) es ≡ drop n es
behind_first last zero es all order = all_kept last es all
behind_first last (suc n) [] all order = refl
behind_first last (suc n) (e ∷ es) all order =
    let apart : is_behind (last_key (Some e.0) (take n es)) e.0 ≡ false = not_behind e.0 e.0 n es (itself e.0) (front_of _ _ order) in
    rw apart (behind_first (Some e.0) n es (front_of _ _ order) (rest_of _ _ order))
  where
    itself : (x : List ℕ) → is_lt (key_cmp x x) ≡ false
    itself x = self (key_cmp x x) (nat_list_cmp_total.antisymm x x)
      where
        self : (o : Ordering) → o ≡ ordering_reverse o → is_lt o ≡ false
        self Less e = absurd cc
        self Equal e = refl
        self Greater e = refl

filter_twice : {X : Type 0} (p q r : X → Bool) → ((x : X) → r x ≡ (p x && q x)) → (xs : List X) → filter r xs ≡ filter q (filter p xs)
filter_twice {X = X} p q r same [] = refl
filter_twice {X = X} p q r same (x ∷ xs) =
    rw (same x) (elim (p x) as (λ b. cond (b && q x) (x ∷ filter r xs) (filter r xs) ≡ filter q (cond b (x ∷ filter p xs) (filter p xs))) [
      | true ↦ elim (q x) as (λ b. cond b (x ∷ filter r xs) (filter r xs) ≡ cond b (x ∷ filter q (filter p xs)) (filter q (filter p xs))) [ true ↦ ap (λ (l : List X). x ∷ l) (filter_twice p q r same xs) | false ↦ filter_twice p q r same xs ]
      | false ↦ filter_twice p q r same xs
    ])

narrower : (u o n : Bool) → (n ≡ true → o ≡ true) → (u && n) ≡ ((u && o) && n)
narrower false o n h = refl
narrower true true n h = refl
narrower true false true h = absurd (let k : false ≡ true = h refl in cc)
narrower true false false h = refl

left_behind : (scan : ScanValue) (es : Entries) → AllBehind scan.last (entries_left scan es)
left_behind scan es = go scan.last es
  where
    go : (last : Option (List ℕ)) (es : Entries) → AllBehind last (filter (λ e. is_under scan.prefix e.0 && is_behind last e.0) es)
    go None es = tt
    go (Some x) [] = tt
    go (Some x) (e ∷ es) =
        elim (is_under scan.prefix e.0) as (λ u. T (below_all key_cmp x (cond (u && is_lt (key_cmp x e.0)) (e ∷ filter (λ e. is_under scan.prefix e.0 && is_behind (Some x) e.0) es) (filter (λ e. is_under scan.prefix e.0 && is_behind (Some x) e.0) es)))) [
          | true ↦ elim (is_lt (key_cmp x e.0)) as (λ b. is_lt (key_cmp x e.0) ≡ b → T (below_all key_cmp x (cond b (e ∷ filter (λ e. is_under scan.prefix e.0 && is_behind (Some x) e.0) es) (filter (λ e. is_under scan.prefix e.0 && is_behind (Some x) e.0) es)))) [
            | true ↦ λ is. both (is_lt (key_cmp x e.0)) _ (as_T _ is) (go (Some x) es)
            | false ↦ λ is. go (Some x) es
          ] refl
          | false ↦ go (Some x) es
        ]
      where
        both : (a b : Bool) → T a → T b → T (a && b)
        both true b p q = q
        both false b p q = p

-- behind the first n of what is left the others are left
pub left_after : (scan : ScanValue) (n : ℕ) (es : Entries) → T (in_key_order es) → entries_left (moved (take n (entries_left scan es)) scan) es ≡ drop n (entries_left scan es)
left_after scan n es order =
    let old = entries_left scan es in
    let sorted : T (in_key_order old) = is_sorted-where_key key_cmp (λ k. is_left scan k) es order in
    let last = last_key scan.last (take n old) in
    let same : (e : List ℕ × List ℕ) → (is_under scan.prefix e.0 && is_behind last e.0) ≡ ((is_under scan.prefix e.0 && is_behind scan.last e.0) && is_behind last e.0) =
    λ e. narrower (is_under scan.prefix e.0) (is_behind scan.last e.0) (is_behind last e.0) (further scan.last n old e.0 (left_behind scan es) sorted) in
    filter_twice (λ e. is_left scan e.0) (λ e. is_behind last e.0) (λ e. is_under scan.prefix e.0 && is_behind last e.0) same es ∙ behind_first scan.last n old (left_behind scan es) sorted

-- ---- as a piece is given

-- the last key is that of the last entry
pub last_at : (es : Entries) (o : Option (List ℕ × List ℕ)) → o ≡ slice_get es (length es - 1) → last_key None es ≡ option_map (λ e. e.0) o
last_at [] o is = ap (option_map (λ e. e.0)) (sym is)
last_at (e ∷ es) o is =
    let end : length (e ∷ es) - 1 ≡ length es = omega arith in
    go e es None ∙ ap (λ (n : ℕ). option_map (λ x. x.0) (slice_get (e ∷ es) n)) (sym end) ∙ ap (option_map (λ x. x.0)) (sym is)
  where
    go : (e : List ℕ × List ℕ) (es : Entries) (before : Option (List ℕ)) → last_key before (e ∷ es) ≡ option_map (λ x. x.0) (slice_get (e ∷ es) (length es))
    go e [] before = refl
    go e (f ∷ es) before = go f es (Some e.0)

some_given : (es : Entries) (key : List ℕ) → last_key None es ≡ Some key → 0 < length es
some_given [] key is = absurd cc
some_given (e ∷ es) key is = omega arith

same_last : (last : Option (List ℕ)) (es : Entries) → 0 < length es → last_key last es ≡ last_key None es
same_last last [] h = absurd (omega arith)
same_last last (e ∷ es) h = refl

never_none : (x : List ℕ) (es : Entries) → last_key (Some x) es ≡ None → ⊥
never_none x [] h = cc
never_none x (e ∷ es) h = never_none e.0 es h

none_given : (es : Entries) → last_key None es ≡ None → es ≡ []
none_given [] h = refl
none_given (e ∷ es) h = absurd (never_none e.0 es h)

pub some_there : (es : Entries) (e : List ℕ × List ℕ) → Some e ≡ slice_get es (length es - 1) → 0 < length es
some_there [] e is = absurd cc
some_there (x ∷ es) e is = omega arith

some_left : (n : ℕ) (es : Entries) → 0 < length (take n es) → 0 < length es
some_left zero es h = absurd (omega arith)
some_left (suc n) [] h = absurd (omega arith)
some_left (suc n) (e ∷ es) h = omega arith

none_left : (n : ℕ) (es : Entries) → take (suc n) es ≡ [] → es ≡ []
none_left n [] h = refl
none_left n (e ∷ es) h = absurd cc

pub gives : (old new : ScanValue) (es piece : Entries) (key : List ℕ) → IsTrue (in_key_order es) → piece ≡ take 64 (entries_left old es) → last_key None piece ≡ Some key → new ≡ record { prefix = old.prefix; last = Some key } → Gives piece old new (rows_of es)
gives old new es piece key order first last is =
    let all : finite_map.entries (rows_of es) ≡ es = entries-from_sorted key_cmp es (as_T (in_key_order es) order) in
    let some : 0 < length piece = some_given piece key last in
    let place : new ≡ moved piece old = is ∙ ap (λ (o : Option (List ℕ)). record { prefix = old.prefix; last = o }) (sym last ∙ sym (same_last old.last piece some)) in
    let left : entries_left new es ≡ drop 64 (entries_left old es) = ap (λ (s : ScanValue). entries_left s es) (place ∙ ap (λ (p : Entries). moved p old) first) ∙ left_after old 64 es (as_T (in_key_order es) order) in
    let given : piece ≡ take 64 (rows_left old (rows_of es)) = first ∙ ap (λ (e : Entries). take 64 (entries_left old e)) (sym all) in
    let rest : rows_left new (rows_of es) ≡ drop 64 (rows_left old (rows_of es)) = ap (entries_left new) all ∙ left ∙ ap (λ (e : Entries). drop 64 (entries_left old e)) (sym all) in
    let there : 0 < length (rows_left old (rows_of es)) = some_left 64 (rows_left old (rows_of es)) (subst (λ (p : Entries). 0 < length p) given some) in
    let count : length (rows_left new (rows_of es)) ≡ length (rows_left old (rows_of es)) - 64 = ap length rest ∙ length-drop 64 (rows_left old (rows_of es)) in
    record { some = some; first = given; place = place; rest = rest; fewer = omega (arith, count, there) }

pub ends : (old : ScanValue) (es piece : Entries) → IsTrue (in_key_order es) → piece ≡ take 64 (entries_left old es) → last_key None piece ≡ None → rows_left old (rows_of es) ≡ []
ends old es piece order first last =
    let all : finite_map.entries (rows_of es) ≡ es = entries-from_sorted key_cmp es (as_T (in_key_order es) order) in
    ap (entries_left old) all ∙ none_left 63 (entries_left old es) (sym first ∙ none_given piece last)

-- what is left of the entries is left of the rows
pub left_of_rows : (scan : ScanValue) (es : Entries) → IsTrue (in_key_order es) → 0 < length (entries_left scan es) → 0 < length (rows_left scan (rows_of es))
left_of_rows scan es order some =
    let all : finite_map.entries (rows_of es) ≡ es = entries-from_sorted key_cmp es (as_T (in_key_order es) order) in
    subst (λ (e : Entries). 0 < length (entries_left scan e)) (sym all) some

pub left_of_piece : (scan : ScanValue) (es piece : Entries) → IsTrue (in_key_order es) → piece ≡ take 64 (entries_left scan es) → 0 < length piece → 0 < length (rows_left scan (rows_of es))
left_of_piece scan es piece order first some = left_of_rows scan es order (some_left 64 (entries_left scan es) (subst (λ (p : Entries). 0 < length p) first some))
