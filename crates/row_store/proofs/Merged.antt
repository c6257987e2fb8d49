-- A batch done to rows in one pass makes what it makes one operation after another.
use Rattle.std.proofs.Common.{◌≡◌, ℕ, zero, suc, ◌+◌, ◌<◌, Ordering, Less, Equal, Greater, Bool, true, false, cond, not, ◌&&◌, List, [], ◌∷◌, ◌++◌, length, get_or, take, drop, refl, sym, ap, subst, ◌∙◌, append_assoc, arith}
use Rattle.std.specs.Prelude.{slice_get, IsTrue, ◌||◌, nat_eq}
use lib.Dec.{T}
use Rattle.std.specs.List.{filter, list_any}
use Rattle.std.specs.Str.{bytes_eq}
use Rattle.std.specs.Ordering.{is_lt, is_eq, nat_cmp, ordering_reverse}
use Rattle.std.specs.Cmp.{IsStrictWeakOrder, nat_cmp_total}
use Rattle.std.specs.Cmp.Lexicographic.{nat_list_cmp_total}
use Rattle.std.specs.FinMap.Entries.{put, by_order, below_all, is_sorted, is_sorted-put, is_sorted-where_key}
use Rattle.std.proofs.lemmas.Cmp.{tied_itself}
use Rattle.std.proofs.lemmas.List.{append-nil}
use Rattle.std.proofs.lemmas.List.Sorted.{ranks_by}
use Rattle.std.proofs.lemmas.Bool.Decides.{nat_tests}
use Rattle.std.proofs.lemmas.Map.Text.{is_eq-slice_cmp}
use Rattle.row_batch.specs.declared.operation.Operation.{Operation}
use Rattle.row_batch.specs.declared.operation.Operation.TheVariants.{Delete, DeletePrefix, Put}
use Rattle.row_batch.specs.Order.{key_cmp, comes_before, may_precede, in_order}
use Rattle.row_batch.specs.Rows.{is_key, is_under, applied}
use Rattle.row_batch.proofs.Ordered.{first, second}
use Rattle.row_batch.proofs.Meanings.{is_key_same}
use Rattle.row_store.specs.Entries.{Entries, rows_of, in_key_order, entries_applied}
use Rattle.row_store.specs.Merging.{puts_of, put_all, put_first, is_first_before, is_deletion_of, is_prefix_of, passes_deletion, passes_prefix, holds, skip, is_named, kept, unless, IsFrom, Moves}
use Rattle.row_store.proofs.Laws.{as_T, as_true, in_order-applied, rows-applied}
use Rattle.row_store.proofs.Kept.{front_of, rest_of, is_Less}

-- ## Keys

keys_ranked : IsStrictWeakOrder (λ a b. is_lt (key_cmp a b))
keys_ranked = ranks_by nat_list_cmp_total (λ (a : List ℕ). a)

abbrev before : List ℕ → List ℕ → Bool
before a b = is_lt (key_cmp a b)

-- before one that isn't behind another is before that
before_up : (a b c : List ℕ) → before a b ≡ true → before c b ≡ false → before a c ≡ true
before_up a b c h k = at (before a c) refl
  where
    at : (t : Bool) → before a c ≡ t → before a c ≡ true
    at true e = e
    at false e = let no : before a b ≡ false = keys_ranked.chain a c b e k in absurd cc

-- what isn't behind one that is before another is before that
before_down : (a b c : List ℕ) → before b a ≡ false → before b c ≡ true → before a c ≡ true
before_down a b c h k = at (before a c) refl
  where
    at : (t : Bool) → before a c ≡ t → before a c ≡ true
    at true e = e
    at false e = let no : before b c ≡ false = keys_ranked.chain b a c h e in absurd cc

apart : (a b : List ℕ) → before a b ≡ true → is_key b a ≡ false
apart a b h = at (is_key b a) refl
  where
    at : (t : Bool) → is_key b a ≡ t → is_key b a ≡ false
    at false e = e
    at true e =
        let same : b ≡ a = is_key_same b a e in
        let itself : before a b ≡ false = ap (λ (k : List ℕ). before a k) same ∙ ap is_lt (tied_itself nat_list_cmp_total a) in
        absurd cc

-- neither the same nor before: behind
behind_is : (key own : List ℕ) → is_key key own ≡ false → before own key ≡ false → before key own ≡ true
behind_is key own n h = at (key_cmp key own) refl
  where
    at : (o : Ordering) → key_cmp key own ≡ o → before key own ≡ true
    at Less e = ap is_lt e
    at Equal e = let same : is_key key own ≡ true = ap is_eq e in absurd cc
    at Greater e = let turned : before own key ≡ true = ap is_lt (nat_list_cmp_total.antisymm own key ∙ ap ordering_reverse e) in absurd cc

-- a prefix isn't behind what it begins
prefix_first : (prefix key : List ℕ) → is_under prefix key ≡ true → before key prefix ≡ false
prefix_first [] [] h = refl
prefix_first [] (k ∷ ks) h = refl
prefix_first (p ∷ ps) [] h = absurd cc
prefix_first (p ∷ ps) (k ∷ ks) h =
    let same : nat_eq p k ≡ true = first (nat_eq p k) (is_under ps ks) h in
    let equal : p ≡ k = grind (arith, nat_tests) in
    let tied : nat_cmp k p ≡ Equal = subst (λ n. nat_cmp k n ≡ Equal) (sym equal) (tied_itself nat_cmp_total k) in
    rw tied (prefix_first ps ks (second (nat_eq p k) (is_under ps ks) h))

-- between a prefix and what it begins stands only what it begins
between : (prefix a b : List ℕ) → before a prefix ≡ false → before b a ≡ false → is_under prefix b ≡ true → is_under prefix a ≡ true
between [] a b h k u = refl
between (p ∷ ps) [] b h k u = absurd cc
between (p ∷ ps) (x ∷ xs) [] h k u = absurd cc
between (p ∷ ps) (x ∷ xs) (y ∷ ys) h k u =
    let same : nat_eq p y ≡ true = first (nat_eq p y) (is_under ps ys) u in
    let equal : p ≡ y = grind (arith, nat_tests) in
    let low : x < p → ⊥ = λ lt. let less : nat_cmp x p ≡ Less = grind (arith, nat_tests) in let no : before (x ∷ xs) (p ∷ ps) ≡ true = rw less refl in absurd cc in
    let high : y < x → ⊥ = λ lt. let less : nat_cmp y x ≡ Less = grind (arith, nat_tests) in let no : before (y ∷ ys) (x ∷ xs) ≡ true = rw less refl in absurd cc in
    let one : x ≡ p = omega (arith, equal, low, high) in
    let two : y ≡ x = omega (arith, equal, one) in
    let tied : nat_cmp x p ≡ Equal = subst (λ n. nat_cmp x n ≡ Equal) one (tied_itself nat_cmp_total x) in
    let tied_too : nat_cmp y x ≡ Equal = subst (λ n. nat_cmp y n ≡ Equal) two (tied_itself nat_cmp_total y) in
    let itself : nat_eq p x ≡ true = grind (arith, nat_tests) in
    let rest : is_under ps xs ≡ true = between ps xs ys (rw tied at h) (rw tied_too at k) (second (nat_eq p y) (is_under ps ys) u) in
    rw itself rest

-- ## Deletions that are passed

-- What a test that passes deletions owes to one that names keys: what is passed at a key names none from there on, and behind one that
-- is neither passed nor names the key all are so.
pub record IsPassing (passes names : List ℕ → Operation → Bool) : Type 0 where
  pub far : (x : Operation) (key q : List ℕ) → before q key ≡ false → passes key x ≡ true → names q x ≡ false
  pub beyond : (x y : Operation) (key : List ℕ) → comes_before y x ≡ false → passes key x ≡ false → names key x ≡ false → (passes key y ≡ false) × (names key y ≡ false)

pub deletions_pass : IsPassing passes_deletion is_deletion_of
deletions_pass = record { far = far; beyond = beyond }
  where
    far : (x : Operation) (key q : List ℕ) → before q key ≡ false → passes_deletion key x ≡ true → is_deletion_of q x ≡ false
    far (Delete own) key q h p = apart own q (before_up own key q p h)
    far (DeletePrefix prefix) key q h p = refl
    far (Put own value) key q h p = refl

    beyond : (x y : Operation) (key : List ℕ) → comes_before y x ≡ false → passes_deletion key x ≡ false → is_deletion_of key x ≡ false → (passes_deletion key y ≡ false) × (is_deletion_of key y ≡ false)
    beyond (Delete own) (Delete other) key h p n =
        let up : before key other ≡ true = before_up key own other (behind_is key own n p) h in
        (keys_ranked.one_way key other up, apart_too key other up)
      where
        apart_too : (a b : List ℕ) → before a b ≡ true → is_key a b ≡ false
        apart_too a b h = at (is_key a b) refl
          where
            at : (t : Bool) → is_key a b ≡ t → is_key a b ≡ false
            at false e = e
            at true e =
                let same : a ≡ b = is_key_same a b e in
                let itself : before a b ≡ false = ap (λ (k : List ℕ). before k b) same ∙ ap is_lt (tied_itself nat_list_cmp_total b) in
                absurd cc
    beyond (Delete own) (DeletePrefix prefix) key h p n = (refl, refl)
    beyond (Delete own) (Put other value) key h p n = (refl, refl)
    beyond (DeletePrefix prefix) (Delete other) key h p n = absurd cc
    beyond (DeletePrefix prefix) (DeletePrefix other) key h p n = (refl, refl)
    beyond (DeletePrefix prefix) (Put other value) key h p n = (refl, refl)
    beyond (Put own value) (Delete other) key h p n = absurd cc
    beyond (Put own value) (DeletePrefix other) key h p n = (refl, refl)
    beyond (Put own value) (Put other new) key h p n = (refl, refl)

pub prefixes_pass : IsPassing passes_prefix is_prefix_of
prefixes_pass = record { far = far; beyond = beyond }
  where
    far : (x : Operation) (key q : List ℕ) → before q key ≡ false → passes_prefix key x ≡ true → is_prefix_of q x ≡ false
    far (Delete own) key q h p = refl
    far (DeletePrefix prefix) key q h p = at (is_under prefix q) refl
      where
        at : (t : Bool) → is_under prefix q ≡ t → is_under prefix q ≡ false
        at false e = e
        at true e =
            let low : before prefix key ≡ true = first (before prefix key) (not (is_under prefix key)) p in
            let out : not (is_under prefix key) ≡ true = second (before prefix key) (not (is_under prefix key)) p in
            let under : is_under prefix key ≡ true = between prefix key q (keys_ranked.one_way prefix key low) h e in
            let no : not (is_under prefix key) ≡ false = ap not under in
            absurd cc
    far (Put own value) key q h p = refl

    beyond : (x y : Operation) (key : List ℕ) → comes_before y x ≡ false → passes_prefix key x ≡ false → is_prefix_of key x ≡ false → (passes_prefix key y ≡ false) × (is_prefix_of key y ≡ false)
    beyond (Delete own) y key h p n = absurd cc
    beyond (DeletePrefix prefix) (Delete other) key h p n = absurd cc
    beyond (DeletePrefix prefix) (DeletePrefix other) key h p n = (rw not_before refl, out)
      where
        not_low : before prefix key ≡ false
        not_low = sym (and_true (before prefix key)) ∙ ap (λ (b : Bool). before prefix key && not b) (sym n) ∙ p
          where
            and_true : (a : Bool) → (a && true) ≡ a
            and_true true = refl
            and_true false = refl

        other_key : is_key key prefix ≡ false
        other_key = at (is_key key prefix) refl
          where
            at : (t : Bool) → is_key key prefix ≡ t → is_key key prefix ≡ false
            at false e = e
            at true e =
                let same : key ≡ prefix = is_key_same key prefix e in
                let under : is_under prefix key ≡ true = subst (λ (k : List ℕ). is_under prefix k ≡ true) (sym same) (itself prefix) in
                absurd cc
              where
                itself : (a : List ℕ) → is_under a a ≡ true
                itself [] = refl
                itself (x ∷ xs) = let same : nat_eq x x ≡ true = grind (arith, nat_tests) in rw same (itself xs)

        up : before key other ≡ true
        up = before_up key prefix other (behind_is key prefix other_key not_low) h

        not_before : before other key ≡ false
        not_before = keys_ranked.one_way key other up

        out : is_under other key ≡ false
        out = at (is_under other key) refl
          where
            at : (t : Bool) → is_under other key ≡ t → is_under other key ≡ false
            at false e = e
            at true e = let no : before key other ≡ false = prefix_first other key e in let yes : before key other ≡ true = up in absurd cc
    beyond (DeletePrefix prefix) (Put other value) key h p n = (refl, refl)
    beyond (Put own value) (Delete other) key h p n = absurd cc
    beyond (Put own value) (DeletePrefix other) key h p n = absurd cc
    beyond (Put own value) (Put other new) key h p n = (refl, refl)

module _ (passes names : List ℕ → Operation → Bool) (h : IsPassing passes names) where
  skip_names : (key q : List ℕ) → before q key ≡ false → (xs : List Operation) → list_any (names q) (skip (passes key) xs) ≡ list_any (names q) xs
  skip_names key q le [] = refl
  skip_names key q le (x ∷ xs) = at (passes key x) refl (skip_names key q le xs)
    where
      at : (t : Bool) → passes key x ≡ t → list_any (names q) (skip (passes key) xs) ≡ list_any (names q) xs → list_any (names q) (cond t (skip (passes key) xs) (x ∷ xs)) ≡ list_any (names q) (x ∷ xs)
      at true e rest = let no : names q x ≡ false = h.far x key q le e in rw no rest
      at false e rest = refl

  none_beyond : (key : List ℕ) (x : Operation) (xs : List Operation) → in_order (x ∷ xs) ≡ true → passes key x ≡ false → names key x ≡ false → list_any (names key) xs ≡ false
  none_beyond key x [] order p n = refl
  none_beyond key x (y ∷ ys) order p n =
      let b = h.beyond x y key (not_true (comes_before y x) (first (may_precede x (y ∷ ys)) (in_order (y ∷ ys)) order)) p n in
      let rest = none_beyond key y ys (second (may_precede x (y ∷ ys)) (in_order (y ∷ ys)) order) b.0 b.1 in
      let no : names key y ≡ false = b.1 in
      rw no rest
    where
      not_true : (t : Bool) → not t ≡ true → t ≡ false
      not_true true e = absurd cc
      not_true false e = refl

  -- where the first isn't passed, it decides whether a key is named
  head_names : (key : List ℕ) (xs : List Operation) → in_order xs ≡ true → holds (passes key) (slice_get xs 0) ≡ false → list_any (names key) xs ≡ holds (names key) (slice_get xs 0)
  head_names key [] order p = refl
  head_names key (x ∷ xs) order p = at (names key x) refl
    where
      at : (t : Bool) → names key x ≡ t → (names key x || list_any (names key) xs) ≡ names key x
      at true e = rw e refl
      at false e = rw e (none_beyond key x xs order p e)

skip_head : (test : Operation → Bool) (xs : List Operation) → holds test (slice_get (skip test xs) 0) ≡ false
skip_head test [] = refl
skip_head test (x ∷ xs) = at (test x) refl (skip_head test xs)
  where
    at : (t : Bool) → test x ≡ t → holds test (slice_get (skip test xs) 0) ≡ false → holds test (slice_get (cond t (skip test xs) (x ∷ xs)) 0) ≡ false
    at true e rest = rest
    at false e rest = e

order_drop : (n : ℕ) (xs : List Operation) → in_order xs ≡ true → in_order (drop n xs) ≡ true
order_drop zero xs h = h
order_drop (suc n) [] h = refl
order_drop (suc n) (x ∷ xs) h = order_drop n xs (second (may_precede x xs) (in_order xs) h)

get_drop : (xs : List Operation) (n : ℕ) → slice_get (drop n xs) 0 ≡ slice_get xs n
get_drop [] zero = refl
get_drop [] (suc n) = refl
get_drop (x ∷ xs) zero = refl
get_drop (x ∷ xs) (suc n) = get_drop xs n

-- ## As the code passes them

pub skip_one : (test : Operation → Bool) (xs : List Operation) (at : ℕ) → holds test (slice_get xs at) ≡ true → (skip test (drop (at + 1) xs) ≡ skip test (drop at xs)) × (at < length xs)
skip_one test [] at h = absurd cc
skip_one test (x ∷ xs) zero h = (rw h refl, omega arith)
skip_one test (x ∷ xs) (suc at) h =
    let rest = skip_one test xs at h in
    let one : suc at + 1 ≡ suc (at + 1) = omega arith in
    (rw one rest.0, omega (arith, rest.1))

pub skip_done : (test : Operation → Bool) (xs : List Operation) (at : ℕ) → holds test (slice_get xs at) ≡ false → skip test (drop at xs) ≡ drop at xs
skip_done test [] zero h = refl
skip_done test [] (suc at) h = refl
skip_done test (x ∷ xs) zero h = rw h refl
skip_done test (x ∷ xs) (suc at) h = skip_done test xs at h

-- ## One row

turned : (b : Bool) (row : List ℕ × List ℕ) (rest : Entries) → cond (not b) (row ∷ rest) rest ≡ unless b row rest
turned true row rest = refl
turned false row rest = refl

module _ (ops : List Operation) (d p e q : ℕ) (key : List ℕ) (order : in_order ops ≡ true) (deletions : drop e ops ≡ skip (passes_deletion key) (drop d ops)) (prefixes : drop q ops ≡ skip (passes_prefix key) (drop p ops)) where
  same_named : (k : List ℕ) → before k key ≡ false → is_named (drop d ops) (drop p ops) k ≡ is_named (drop e ops) (drop q ops) k
  same_named k h =
      let one : list_any (is_deletion_of k) (drop e ops) ≡ list_any (is_deletion_of k) (drop d ops) = ap (list_any (is_deletion_of k)) deletions ∙ skip_names passes_deletion is_deletion_of deletions_pass key k h (drop d ops) in
      let two : list_any (is_prefix_of k) (drop q ops) ≡ list_any (is_prefix_of k) (drop p ops) = ap (list_any (is_prefix_of k)) prefixes ∙ skip_names passes_prefix is_prefix_of prefixes_pass key k h (drop p ops) in
      rw (one, two) refl

  named_here : is_named (drop e ops) (drop q ops) key ≡ (holds (is_deletion_of key) (slice_get ops e) || holds (is_prefix_of key) (slice_get ops q))
  named_here =
      let first_not : holds (passes_deletion key) (slice_get (drop e ops) 0) ≡ false = ap (λ (xs : List Operation). holds (passes_deletion key) (slice_get xs 0)) deletions ∙ skip_head (passes_deletion key) (drop d ops) in
      let second_not : holds (passes_prefix key) (slice_get (drop q ops) 0) ≡ false = ap (λ (xs : List Operation). holds (passes_prefix key) (slice_get xs 0)) prefixes ∙ skip_head (passes_prefix key) (drop p ops) in
      let one : list_any (is_deletion_of key) (drop e ops) ≡ holds (is_deletion_of key) (slice_get ops e) = head_names passes_deletion is_deletion_of deletions_pass key (drop e ops) (order_drop e ops order) first_not ∙ ap (holds (is_deletion_of key)) (get_drop ops e) in
      let two : list_any (is_prefix_of key) (drop q ops) ≡ holds (is_prefix_of key) (slice_get ops q) = head_names passes_prefix is_prefix_of prefixes_pass key (drop q ops) (order_drop q ops order) second_not ∙ ap (holds (is_prefix_of key)) (get_drop ops q) in
      rw (one, two) refl

  same_kept : (rest : Entries) → T (below_all key_cmp key rest) → kept (drop d ops) (drop p ops) rest ≡ kept (drop e ops) (drop q ops) rest
  same_kept [] h = refl
  same_kept (x ∷ rest) h =
      let behind : before x.0 key ≡ false = keys_ranked.one_way key x.0 (true_of (before key x.0) (front_of _ _ h)) in
      ap (λ (b : Bool). cond (not b) (x ∷ kept (drop d ops) (drop p ops) rest) (kept (drop d ops) (drop p ops) rest)) (same_named x.0 behind)
      ∙ ap (λ (es : Entries). cond (not (is_named (drop e ops) (drop q ops) x.0)) (x ∷ es) es) (same_kept rest (rest_of _ _ h))
    where
      true_of : (t : Bool) → T t → t ≡ true
      true_of true h = refl
      true_of false h = absurd h

not_itself : (key : List ℕ) → before key key ≡ false
not_itself key = ap is_lt (tied_itself nat_list_cmp_total key)

pub one_row : (ops : List Operation) (d p e q : ℕ) (row : List ℕ × List ℕ) (rest : Entries) → in_order ops ≡ true → T (is_sorted key_cmp (row ∷ rest))
    → drop e ops ≡ skip (passes_deletion row.0) (drop d ops) → drop q ops ≡ skip (passes_prefix row.0) (drop p ops)
    → kept (drop d ops) (drop p ops) (row ∷ rest) ≡ unless (holds (is_deletion_of row.0) (slice_get ops e) || holds (is_prefix_of row.0) (slice_get ops q)) row (kept (drop e ops) (drop q ops) rest)
one_row ops d p e q row rest order sorted deletions prefixes =
    let here : is_named (drop d ops) (drop p ops) row.0 ≡ (holds (is_deletion_of row.0) (slice_get ops e) || holds (is_prefix_of row.0) (slice_get ops q)) = same_named ops d p e q row.0 order deletions prefixes row.0 (not_itself row.0) ∙ named_here ops d p e q row.0 order deletions prefixes in
    let others = same_kept ops d p e q row.0 order deletions prefixes rest (front_of _ _ sorted) in
    turned (is_named (drop d ops) (drop p ops) row.0) row (kept (drop d ops) (drop p ops) rest)
    ∙ ap (λ (b : Bool). unless b row (kept (drop d ops) (drop p ops) rest)) here
    ∙ ap (unless (holds (is_deletion_of row.0) (slice_get ops e) || holds (is_prefix_of row.0) (slice_get ops q)) row) others

-- ## Puts that go in front

both_T : (a b : Bool) → T a → T b → T (a && b)
both_T true b p q = q
both_T false b p q = p

below_less : (x y : List ℕ) (es : Entries) → key_cmp x y ≡ Less → T (below_all key_cmp y es) → T (below_all key_cmp x es)
below_less x y [] less h = tt
below_less x y (e ∷ es) less h = both_T (before x e.0) _ (as_T _ (ap is_lt (nat_list_cmp_total.trans x y e.0 less (is_Less (key_cmp y e.0) (front_of _ _ h))))) (below_less x y es less (rest_of _ _ h))

-- a put whose key comes before all that follow
put_front : (key value : List ℕ) (rows rest : Entries) → T (below_all key_cmp key rest) → put key_cmp key value (rows ++ rest) ≡ put key_cmp key value rows ++ rest
put_front key value [] [] h = refl
put_front key value [] (e ∷ es) h = let less : key_cmp key e.0 ≡ Less = is_Less (key_cmp key e.0) (front_of _ _ h) in rw less refl
put_front key value (r ∷ rows) rest h = at (key_cmp key r.0) (put_front key value rows rest h)
  where
    at : (o : Ordering) → put key_cmp key value (rows ++ rest) ≡ put key_cmp key value rows ++ rest
        → by_order o ((key, value) ∷ r ∷ (rows ++ rest)) ((r.0, value) ∷ (rows ++ rest)) (r ∷ put key_cmp key value (rows ++ rest)) ≡ by_order o ((key, value) ∷ r ∷ rows) ((r.0, value) ∷ rows) (r ∷ put key_cmp key value rows) ++ rest
    at Less e = refl
    at Equal e = refl
    at Greater e = ap (λ (es : Entries). r ∷ es) e

pub order_put : (key value : List ℕ) (rows : Entries) → IsTrue (in_key_order rows) → IsTrue (in_key_order (put key_cmp key value rows))
order_put key value rows h = as_true (in_key_order (put key_cmp key value rows)) (is_sorted-put key_cmp nat_list_cmp_total key value rows (as_T (in_key_order rows) h))

pub order_put_first : (ps rows : Entries) → IsTrue (in_key_order rows) → IsTrue (in_key_order (put_first ps rows))
order_put_first [] rows h = h
order_put_first (p ∷ ps) rows h = order_put p.0 p.1 rows h

pub order_put_all : (ps rows : Entries) → IsTrue (in_key_order rows) → IsTrue (in_key_order (put_all ps rows))
order_put_all [] rows h = h
order_put_all (p ∷ ps) rows h = order_put_all ps (put key_cmp p.0 p.1 rows) (order_put p.0 p.1 rows h)

front_order : (rows rest : Entries) → T (is_sorted key_cmp (rows ++ rest)) → T (is_sorted key_cmp rows)
front_order [] rest h = tt
front_order (r ∷ rows) rest h = both_T (below_all key_cmp r.0 rows) _ (front_below r.0 rows rest (front_of _ _ h)) (front_order rows rest (rest_of _ _ h))
  where
    front_below : (x : List ℕ) (rows rest : Entries) → T (below_all key_cmp x (rows ++ rest)) → T (below_all key_cmp x rows)
    front_below x [] rest h = tt
    front_below x (r ∷ rows) rest h = both_T (before x r.0) _ (front_of _ _ h) (front_below x rows rest (rest_of _ _ h))

pub moves_none : (ps rows rest : Entries) → Moves ps rows rest ps rows rest
moves_none ps rows rest = record { same = refl; order = λ s. s }

pub moves_then : (ps rows rest qs more others rs all last : Entries) → Moves ps rows rest qs more others → Moves qs more others rs all last → Moves ps rows rest rs all last
moves_then ps rows rest qs more others rs all last p q = record { same = q.same ∙ p.same; order = λ s. q.order (p.order s) }

-- the first of the puts goes in front of what its key comes before
pub moved_first : (key : List ℕ) (ps rows : Entries) → is_first_before key ps ≡ true → (rest : Entries) → IsFrom key rest → Moves ps rows rest (drop 1 ps) (put_first ps rows) rest
moved_first key [] rows h rest from = absurd cc
moved_first key (p ∷ ps) rows h rest from =
    let below = from p.0 (less_of (key_cmp p.0 key) h) in
    let front = put_front p.0 p.1 rows rest below in
    record { same = ap (put_all ps) (sym front); order = λ s. subst (λ (es : Entries). T (is_sorted key_cmp es)) front (is_sorted-put key_cmp nat_list_cmp_total p.0 p.1 (rows ++ rest) s) }
  where
    less_of : (o : Ordering) → is_lt o ≡ true → o ≡ Less
    less_of Less e = refl
    less_of Equal e = absurd cc
    less_of Greater e = absurd cc

pub moved_first_as : (key : List ℕ) (ps rows qs now : Entries) → is_first_before key ps ≡ true → qs ≡ drop 1 ps → now ≡ put_first ps rows → (rest : Entries) → IsFrom key rest → Moves ps rows rest qs now rest
moved_first_as key ps rows qs now h a b rest from = subst (λ (l : Entries). Moves ps rows rest l now rest) (sym a) (subst (λ (l : Entries). Moves ps rows rest (drop 1 ps) l rest) (sym b) (moved_first key ps rows h rest from))

pub put_first_more : (ps rows : Entries) → put_all (drop 1 ps) (put_first ps rows) ≡ put_all ps rows
put_first_more [] rows = refl
put_first_more (p ∷ ps) rows = refl

pub put_first_more_as : (ps rows qs now : Entries) → qs ≡ drop 1 ps → now ≡ put_first ps rows → put_all qs now ≡ put_all ps rows
put_first_more_as ps rows qs now a b = ap (λ (l : Entries). put_all l now) a ∙ ap (put_all (drop 1 ps)) b ∙ put_first_more ps rows

-- a row comes before all that it is below
pub from_row : (row : List ℕ × List ℕ) (rest : Entries) → T (below_all key_cmp row.0 rest) → IsFrom row.0 (row ∷ rest)
from_row row rest h = λ other less. both_T (before other row.0) _ (as_T _ (ap is_lt less)) (below_less other row.0 rest less h)

-- a row that is moved
pub moved_row : (ps rows qs more rest : Entries) (row : List ℕ × List ℕ) (now : Entries) → now ≡ more ++ row ∷ [] → Moves ps rows (row ∷ rest) qs more (row ∷ rest) → Moves ps rows (row ∷ rest) qs now rest
moved_row ps rows qs more rest row now is m =
    let one : now ++ rest ≡ more ++ (row ∷ rest) = ap (λ (es : Entries). es ++ rest) is ∙ append_assoc more (row ∷ []) rest in
    record { same = ap (put_all qs) one ∙ m.same; order = λ s. subst (λ (es : Entries). T (is_sorted key_cmp es)) (sym one) (m.order s) }

pub is_kept_row : (gone : Bool) (ps rows : Entries) (row : List ℕ × List ℕ) (rest qs now : Entries) → gone ≡ false → Moves ps rows (row ∷ rest) qs now rest → Moves ps rows (unless gone row rest) qs now rest
is_kept_row true ps rows row rest qs now h m = absurd cc
is_kept_row false ps rows row rest qs now h m = m

pub below_kept : (ds ps : List Operation) (x : List ℕ) (es : Entries) → T (below_all key_cmp x es) → T (below_all key_cmp x (kept ds ps es))
below_kept ds ps x [] h = tt
below_kept ds ps x (e ∷ es) h = at (not (is_named ds ps e.0)) (below_kept ds ps x es (rest_of _ _ h))
  where
    at : (b : Bool) → T (below_all key_cmp x (kept ds ps es)) → T (below_all key_cmp x (cond b (e ∷ kept ds ps es) (kept ds ps es)))
    at true r = both_T (before x e.0) _ (front_of _ _ h) r
    at false r = r

pub order_kept : (ds ps : List Operation) (es : Entries) → IsTrue (in_key_order es) → IsTrue (in_key_order (kept ds ps es))
order_kept ds ps es h = as_true (in_key_order (kept ds ps es)) (is_sorted-where_key key_cmp (λ k. not (is_named ds ps k)) es (as_T (in_key_order es) h))

-- what stands in front stays in key order
pub moves_order : (ps before_all qs now rest : Entries) → IsTrue (in_key_order before_all) → Moves ps [] before_all qs now rest → IsTrue (in_key_order now)
moves_order ps before_all qs now rest h m = as_true (in_key_order now) (front_order now rest (m.order (as_T (in_key_order before_all) h)))

pub moves_all : (ps before_all qs now : Entries) → Moves ps [] before_all qs now [] → put_all qs now ≡ put_all ps before_all
moves_all ps before_all qs now m = ap (put_all qs) (sym (append-nil now)) ∙ m.same

-- one row more, as the loop does it
pub row_step : (ops : List Operation) (d p e q : ℕ) (row : List ℕ × List ℕ) (k1 k2 k3 : List ℕ) (left rest all ps rows qs all_rows : Entries) (puts : Entries) (gone : Bool)
    → in_order ops ≡ true → IsTrue (in_key_order left) → left ≡ row ∷ rest → k1 ≡ row.0 → k2 ≡ row.0 → k3 ≡ row.0
    → drop e ops ≡ skip (passes_deletion k1) (drop d ops) → drop q ops ≡ skip (passes_prefix k2) (drop p ops)
    → gone ≡ (holds (is_deletion_of k3) (slice_get ops e) || holds (is_prefix_of k3) (slice_get ops q))
    → Moves puts [] all ps rows (kept (drop d ops) (drop p ops) left)
    → ((more : Entries) → T (below_all key_cmp row.0 more) → Moves ps rows (unless gone row more) qs all_rows more)
    → Moves puts [] all qs all_rows (kept (drop e ops) (drop q ops) rest)
row_step ops d p e q row k1 k2 k3 left rest all ps rows qs all_rows puts gone order sorted is a b c deletions prefixes gone_is so_far moved =
    let in_order_row : T (is_sorted key_cmp (row ∷ rest)) = as_T (in_key_order (row ∷ rest)) (subst (λ (es : Entries). IsTrue (in_key_order es)) is sorted) in
    let more = kept (drop e ops) (drop q ops) rest in
    let one = one_row ops d p e q row rest order in_order_row (deletions ∙ ap (λ (k : List ℕ). skip (passes_deletion k) (drop d ops)) a) (prefixes ∙ ap (λ (k : List ℕ). skip (passes_prefix k) (drop p ops)) b) in
    let test : gone ≡ (holds (is_deletion_of row.0) (slice_get ops e) || holds (is_prefix_of row.0) (slice_get ops q)) = gone_is ∙ ap (λ (k : List ℕ). holds (is_deletion_of k) (slice_get ops e) || holds (is_prefix_of k) (slice_get ops q)) c in
    let whole : kept (drop d ops) (drop p ops) left ≡ unless gone row more = ap (kept (drop d ops) (drop p ops)) is ∙ one ∙ ap (λ (t : Bool). unless t row more) (sym test) in
    moves_then puts [] all ps rows (unless gone row more) qs all_rows more (subst (Moves puts [] all ps rows) whole so_far) (moved more (below_kept (drop e ops) (drop q ops) row.0 rest (front_of _ _ in_order_row)))

pub rest_sorted : (row : List ℕ × List ℕ) (left rest : Entries) → left ≡ row ∷ rest → IsTrue (in_key_order left) → IsTrue (in_key_order rest)
rest_sorted row left rest is h = as_true (in_key_order rest) (rest_of (below_all key_cmp row.0 rest) (in_key_order rest) (as_T (in_key_order (row ∷ rest)) (subst (λ (es : Entries). IsTrue (in_key_order es)) is h)))

-- ## One operation after another

puts_last : (own value : List ℕ) (xs : List Operation) (key : List ℕ) → in_order (Put own value ∷ xs) ≡ true → is_named xs xs key ≡ false
puts_last own value [] key e = refl
puts_last own value (Delete other ∷ xs) key e = absurd cc
puts_last own value (DeletePrefix other ∷ xs) key e = absurd cc
puts_last own value (Put other new ∷ xs) key e = puts_last other new xs key (second (may_precede (Put own value) (Put other new ∷ xs)) (in_order (Put other new ∷ xs)) e)

all_kept : (xs ys : List Operation) (es : Entries) → ((key : List ℕ) → is_named xs ys key ≡ false) → kept xs ys es ≡ es
all_kept xs ys [] h = refl
all_kept xs ys (e ∷ es) h = let no : is_named xs ys e.0 ≡ false = h e.0 in rw no (ap (λ (rest : Entries). e ∷ rest) (all_kept xs ys es h))

filter_then : (p q r : List ℕ → Bool) → ((k : List ℕ) → r k ≡ (p k && q k)) → (es : Entries) → filter (λ e. q e.0) (filter (λ e. p e.0) es) ≡ filter (λ e. r e.0) es
filter_then p q r same [] = refl
filter_then p q r same (e ∷ es) = at (p e.0) (q e.0) (r e.0) (same e.0) refl (filter_then p q r same es)
  where
    at : (a b c : Bool) → c ≡ (a && b) → q e.0 ≡ b → filter (λ e. q e.0) (filter (λ e. p e.0) es) ≡ filter (λ e. r e.0) es
        → filter (λ e. q e.0) (cond a (e ∷ filter (λ e. p e.0) es) (filter (λ e. p e.0) es)) ≡ cond c (e ∷ filter (λ e. r e.0) es) (filter (λ e. r e.0) es)
    at true true c is eq rest = rw (is, eq) (ap (λ (l : Entries). e ∷ l) rest)
    at true false c is eq rest = rw (is, eq) rest
    at false b c is eq rest = rw is rest

-- done one after another the operations of a batch make what they make in one pass
pub applied_at_once : (xs : List Operation) (es : Entries) → in_order xs ≡ true → entries_applied xs es ≡ put_all (puts_of xs) (kept xs xs es)
applied_at_once [] es order = ap (λ (l : Entries). l) (sym (all_kept [] [] es (λ key. refl)))
applied_at_once (Delete own ∷ xs) es order =
    applied_at_once xs (filter (λ entry. not (bytes_eq entry.0 own)) es) (second (may_precede (Delete own) xs) (in_order xs) order)
    ∙ ap (put_all (puts_of xs)) (filter_then (λ k. not (bytes_eq k own)) (λ k. not (is_named xs xs k)) (λ k. not (is_named (Delete own ∷ xs) (Delete own ∷ xs) k)) (λ k. ap (λ (b : Bool). not ((b || list_any (is_deletion_of k) xs) || list_any (is_prefix_of k) xs)) (is_eq-slice_cmp k own) ∙ neither (bytes_eq k own) (list_any (is_deletion_of k) xs) (list_any (is_prefix_of k) xs)) es)
  where
    neither : (a b c : Bool) → not ((a || b) || c) ≡ (not a && not (b || c))
    neither true b c = refl
    neither false b c = refl
applied_at_once (DeletePrefix prefix ∷ xs) es order =
    applied_at_once xs (filter (λ entry. not (is_under prefix entry.0)) es) (second (may_precede (DeletePrefix prefix) xs) (in_order xs) order)
    ∙ ap (put_all (puts_of xs)) (filter_then (λ k. not (is_under prefix k)) (λ k. not (is_named xs xs k)) (λ k. not (is_named (DeletePrefix prefix ∷ xs) (DeletePrefix prefix ∷ xs) k)) (λ k. neither (is_under prefix k) (list_any (is_deletion_of k) xs) (list_any (is_prefix_of k) xs)) es)
  where
    neither : (a b c : Bool) → not (b || (a || c)) ≡ (not a && not (b || c))
    neither true true c = refl
    neither true false c = refl
    neither false b c = refl
applied_at_once (Put own value ∷ xs) es order =
    applied_at_once xs (put key_cmp own value es) (second (may_precede (Put own value) xs) (in_order xs) order)
    ∙ ap (put_all (puts_of xs)) (all_kept xs xs (put key_cmp own value es) (λ key. puts_last own value xs key order) ∙ ap (put key_cmp own value) (sym (all_kept (Put own value ∷ xs) (Put own value ∷ xs) es (λ key. puts_last own value xs key order))))

-- the puts of one operation more
pub puts_more : (xs : List Operation) (i : ℕ) (x : Operation) → i < length xs → x ≡ get_or xs i x → puts_of (take i xs) ++ puts_of (x ∷ []) ≡ puts_of (take (i + 1) xs)
puts_more [] i x lt e = absurd (omega arith)
puts_more (y ∷ ys) zero x lt e = ap (λ (z : Operation). puts_of (z ∷ [])) e
puts_more (y ∷ ys) (suc i) x lt e =
    let one : suc i + 1 ≡ suc (i + 1) = omega arith in
    one_in_front y (take i ys) (take (i + 1) ys) (puts_of (x ∷ [])) (puts_more ys i x (omega arith) e) ∙ ap (λ (n : ℕ). puts_of (take n (y ∷ ys))) (sym one)
  where
    one_in_front : (y : Operation) (xs more : List Operation) (last : Entries) → puts_of xs ++ last ≡ puts_of more → puts_of (y ∷ xs) ++ last ≡ puts_of (y ∷ more)
    one_in_front (Delete own) xs more last h = h
    one_in_front (DeletePrefix prefix) xs more last h = h
    one_in_front (Put own value) xs more last h = ap (λ (es : Entries). (own, value) ∷ es) h

-- as a commit does it
pub committed : (xs first second : List Operation) (es new puts : Entries) → in_order xs ≡ true → IsTrue (in_key_order es) → first ≡ xs → second ≡ xs → puts ≡ puts_of first → new ≡ put_all puts (kept second second es) → IsTrue (in_key_order new) × (rows_of new ≡ applied xs (rows_of es))
committed xs first second es new puts batch order a b puts_are is =
    let all : new ≡ entries_applied xs es = is ∙ ap (λ (ps : Entries). put_all ps (kept second second es)) (puts_are ∙ ap puts_of a) ∙ ap (λ (ys : List Operation). put_all (puts_of xs) (kept ys ys es)) b ∙ sym (applied_at_once xs es batch) in
    (subst (λ (e : Entries). IsTrue (in_key_order e)) (sym all) (in_order-applied xs es order), ap rows_of all ∙ rows-applied xs es order)

pub committed_where : (xs first second : List Operation) (es new puts : Entries) (done : Bool) → done ≡ true → in_order xs ≡ true → IsTrue (in_key_order es) → first ≡ xs → second ≡ xs → puts ≡ puts_of first
    → new ≡ cond done (put_all puts (kept second second es)) es → rows_of new ≡ applied xs (rows_of es)
committed_where xs first second es new puts true e batch order a b puts_are is = (committed xs first second es new puts batch order a b puts_are is).1
committed_where xs first second es new puts false e batch order a b puts_are is = absurd cc

pub left_where : (es new other : Entries) (done : Bool) → done ≡ false → new ≡ cond done other es → new ≡ es
left_where es new other true e is = absurd cc
left_where es new other false e is = is
