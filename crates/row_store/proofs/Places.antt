-- Where a key stands among entries in order.
use Rattle.std.proofs.Common.{◌≡◌, ℕ, zero, suc, ◌+◌, ◌<◌, ◌≤◌, Ordering, Less, Equal, Greater, Bool, true, false, cond, ◌&&◌, List, [], ◌∷◌, length, get_or, Result, Ok, Err, refl, sym, ap, subst, ◌∙◌, arith}
use Rattle.std.specs.Prelude.{insert, slice_get, slice_set, IsTrue}
use lib.Dec.{T}
use Rattle.std.specs.List.Sorted.{IsPartitionedBy, IsPartitionPoint}
use Rattle.std.specs.List.{prefix_len}
use Rattle.std.specs.Str.{bytes_eq}
use Rattle.std.specs.Result.{is_ok, is_err}
use Rattle.std.specs.Ordering.{is_lt, is_eq, nat_cmp, ordering_reverse}
use Rattle.std.specs.Cmp.Lexicographic.{slice_cmp, nat_list_cmp_total}
use Rattle.std.specs.FinMap.{slice_cmp-IsAntisymmetric, nat_cmp-IsAntisymmetric}
use Rattle.std.specs.FinMap.Entries.{put, by_order, below_all, is_sorted}
use Rattle.std.proofs.lemmas.Map.Text.{is_eq-slice_cmp}
use Rattle.row_batch.specs.Order.{key_cmp}
use Rattle.row_store.specs.Entries.{Entries, in_key_order, place_for, has_key}

point_prefix : {X : Type 0} (p : X → Bool) (xs : List X) (i : ℕ) → i ≤ length xs → ((k : ℕ) (d : X) → 0 ≤ k → k < i → p (get_or xs k d) ≡ true) → ((k : ℕ) (d : X) → i ≤ k → k < length xs → p (get_or xs k d) ≡ false) → i ≡ prefix_len p xs
point_prefix p [] i le f g = omega arith
point_prefix p (x ∷ xs) zero le f g = let e : p x ≡ false = g 0 x (omega arith) (omega arith) in rw e refl
point_prefix p (x ∷ xs) (suc i) le f g =
    let e : p x ≡ true = f 0 x (omega arith) (omega arith) in
    let rest : i ≡ prefix_len p xs = point_prefix p xs i (omega arith) (λ k d low high. f (suc k) d (omega arith) (omega arith)) (λ k d low high. g (suc k) d (omega arith) (omega arith)) in
    let one : suc i ≡ 1 + prefix_len p xs = omega (arith, rest) in
    rw e one

front_of : (a b : Bool) → T (a && b) → T a
front_of true b h = tt
front_of false b h = absurd h

rest_of : (a b : Bool) → T (a && b) → T b
rest_of true b h = h
rest_of false b h = absurd h

is_Less : (o : Ordering) → T (is_lt o) → o ≡ Less
is_Less Less h = refl
is_Less Equal h = absurd h
is_Less Greater h = absurd h

less_of : (o : Ordering) → is_lt o ≡ true → o ≡ Less
less_of Less h = refl
less_of Equal h = absurd cc
less_of Greater h = absurd cc

below_at : (x : List ℕ) (es : Entries) (j : ℕ) (d : List ℕ × List ℕ) → T (below_all key_cmp x es) → j < length es → key_cmp x (get_or es j d).0 ≡ Less
below_at x [] j d h lt = absurd (omega arith)
below_at x (e ∷ es) zero d h lt = is_Less (key_cmp x e.0) (front_of _ _ h)
below_at x (e ∷ es) (suc j) d h lt = below_at x es j d (rest_of _ _ h) (omega arith)

-- what stands in front of an entry before a key is before it
earlier : (key : List ℕ) (es : Entries) (i j : ℕ) (d : List ℕ × List ℕ) → T (is_sorted key_cmp es) → i ≤ j → j < length es → is_lt (key_cmp (get_or es j d).0 key) ≡ true → is_lt (key_cmp (get_or es i d).0 key) ≡ true
earlier key [] i j d h le lt e = absurd (omega arith)
earlier key (x ∷ es) zero zero d h le lt e = e
earlier key (x ∷ es) zero (suc j) d h le lt e =
    ap is_lt (nat_list_cmp_total.trans x.0 (get_or es j d).0 key (below_at x.0 es j d (front_of _ _ h) (omega arith)) (less_of (key_cmp (get_or es j d).0 key) e))
earlier key (x ∷ es) (suc i) zero d h le lt e = absurd (omega arith)
earlier key (x ∷ es) (suc i) (suc j) d h le lt e = earlier key es i j d (rest_of _ _ h) (omega arith) (omega arith) e

pub before_first : (key : List ℕ) (es : Entries) → IsTrue (in_key_order es) → IsPartitionedBy (λ e. is_lt (key_cmp e.0 key)) es
before_first key es h i j d le lt e = earlier key es i j d (sorted (is_sorted key_cmp es) h) le lt e
  where
    sorted : (b : Bool) → IsTrue b → T b
    sorted true h = tt
    sorted false h = absurd cc

-- the point up to which keys are before one is its place
pub point_is_place : (key : List ℕ) (es : Entries) (i : ℕ) → i ≤ length es → IsPartitionPoint (λ (e : List ℕ × List ℕ). is_lt (key_cmp e.0 key) ≡ true) (λ (e : List ℕ × List ℕ). is_lt (key_cmp e.0 key) ≡ false) es i → i ≡ place_for key es
point_is_place key es i le h = point_prefix (λ (e : List ℕ × List ℕ). is_lt (key_cmp e.0 key)) es i le h.0 h.1

-- ---- a put at its place

flipped : (a b : Ordering) → a ≡ ordering_reverse b → is_lt a ≡ true → b ≡ Greater
flipped a Less e h = absurd (let k : false ≡ true = sym (ap is_lt e) ∙ h in cc)
flipped a Equal e h = absurd (let k : false ≡ true = sym (ap is_lt e) ∙ h in cc)
flipped a Greater e h = refl

-- a key before another is followed by it
pub greater_than : (a b : List ℕ) → is_lt (key_cmp a b) ≡ true → key_cmp b a ≡ Greater
greater_than a b h = flipped (key_cmp a b) (key_cmp b a) (nat_list_cmp_total.antisymm a b) h

equal_is : (o : Ordering) → is_eq o ≡ true → o ≡ Equal
equal_is Less e = absurd cc
equal_is Equal e = refl
equal_is Greater e = absurd cc

pub same_key : (a b : List ℕ) → bytes_eq a b ≡ true → a ≡ b
same_key a b h = slice_cmp-IsAntisymmetric nat_cmp-IsAntisymmetric a b (equal_is (slice_cmp nat_cmp a b) (is_eq-slice_cmp a b ∙ h))

pub key_itself : (a : List ℕ) → key_cmp a a ≡ Equal
key_itself a = self (key_cmp a a) (nat_list_cmp_total.antisymm a a)
  where
    self : (o : Ordering) → o ≡ ordering_reverse o → o ≡ Equal
    self Less e = absurd cc
    self Equal e = refl
    self Greater e = absurd cc

-- neither before nor the same: behind
pub less_than : (a b : List ℕ) → is_lt (key_cmp a b) ≡ false → bytes_eq a b ≡ false → key_cmp b a ≡ Less
less_than a b h n = turned (key_cmp a b) (key_cmp b a) (nat_list_cmp_total.antisymm b a) h (is_eq-slice_cmp a b ∙ n)
  where
    turned : (o r : Ordering) → r ≡ ordering_reverse o → is_lt o ≡ false → is_eq o ≡ false → r ≡ Less
    turned Less r e h n = absurd cc
    turned Equal r e h n = absurd cc
    turned Greater r e h n = e

-- a key that stands there keeps its entry, which gets the value
pub put_over : (key value : List ℕ) (entries : Entries) → has_key key (slice_get entries (place_for key entries)) ≡ true
    → (d : List ℕ × List ℕ) → slice_set entries (place_for key entries) ((get_or entries (place_for key entries) d).0, value) ≡ put key_cmp key value entries
put_over key value [] h d = absurd cc
put_over key value (e ∷ es) h d =
    let n = place_for key es in
    let P : Bool → Type 0 = λ b. has_key key (slice_get (e ∷ es) (cond b (1 + n) 0)) ≡ true
    → slice_set (e ∷ es) (cond b (1 + n) 0) ((get_or (e ∷ es) (cond b (1 + n) 0) d).0, value) ≡ by_order (key_cmp key e.0) ((key, value) ∷ e ∷ es) ((e.0, value) ∷ es) (e ∷ put key_cmp key value es) in
    elim (is_lt (key_cmp e.0 key)) as (λ b. is_lt (key_cmp e.0 key) ≡ b → P b) [
      | true ↦ λ is h. let k : 1 + n ≡ suc n = omega arith in
          rw (k, greater_than e.0 key is) (ap (λ (l : Entries). e ∷ l) (put_over key value es (rw k at h) d))
      | false ↦ λ is h. let same : e.0 ≡ key = same_key e.0 key h in
          let tie : key_cmp key e.0 ≡ Equal = ap (key_cmp key) same ∙ key_itself key in
          rw tie refl
    ] refl h

-- another key gets an entry there
pub put_in : (key value : List ℕ) (entries : Entries) → has_key key (slice_get entries (place_for key entries)) ≡ false → insert entries (place_for key entries) (key, value) ≡ put key_cmp key value entries
put_in key value [] h = refl
put_in key value (e ∷ es) h =
    let n = place_for key es in
    let P : Bool → Type 0 = λ b. has_key key (slice_get (e ∷ es) (cond b (1 + n) 0)) ≡ false
    → insert (e ∷ es) (cond b (1 + n) 0) (key, value) ≡ by_order (key_cmp key e.0) ((key, value) ∷ e ∷ es) ((e.0, value) ∷ es) (e ∷ put key_cmp key value es) in
    elim (is_lt (key_cmp e.0 key)) as (λ b. is_lt (key_cmp e.0 key) ≡ b → P b) [
      | true ↦ λ is h. let k : 1 + n ≡ suc n = omega arith in
          rw (k, greater_than e.0 key is) (ap (λ (l : Entries). e ∷ l) (put_in key value es (rw k at h)))
      | false ↦ λ is h. rw (less_than e.0 key is h) refl
    ] refl h

-- as the code reads and writes it
pub over_at : (key value key1 key2 : List ℕ) (es es1 es2 : Entries) (place : ℕ) (x : List ℕ × List ℕ) → key1 ≡ key → key2 ≡ key → es1 ≡ es → es2 ≡ es → place ≡ place_for key1 es1 → true ≡ has_key key2 (slice_get es2 place) → x ≡ get_or es place x → slice_set es place (x.0, value) ≡ put key_cmp key value es
over_at key value key1 key2 es es1 es2 place x k1 k2 e1 e2 at has is =
    let here : place ≡ place_for key es = rw (← k1, ← e1) at in
    let stands : has_key key (slice_get es (place_for key es)) ≡ true = rw (← here, ← k2, ← e2) (sym has) in
    subst (λ (p : ℕ). slice_set es p (x.0, value) ≡ put key_cmp key value es) (sym here)
    (subst (λ (y : List ℕ × List ℕ). slice_set es (place_for key es) (y.0, value) ≡ put key_cmp key value es) (ap (λ (p : ℕ). get_or es p x) (sym here) ∙ sym is) (put_over key value es stands x))

pub in_at : (key value key1 key2 : List ℕ) (es es1 es2 : Entries) (place : ℕ) → key1 ≡ key → key2 ≡ key → es1 ≡ es → es2 ≡ es → place ≡ place_for key1 es1 → false ≡ has_key key2 (slice_get es2 place) → insert es place (key, value) ≡ put key_cmp key value es
in_at key value key1 key2 es es1 es2 place k1 k2 e1 e2 at has =
    let here : place ≡ place_for key es = rw (← k1, ← e1) at in
    let stands : has_key key (slice_get es (place_for key es)) ≡ false = rw (← here, ← k2, ← e2) (sym has) in
    subst (λ (p : ℕ). insert es p (key, value) ≡ put key_cmp key value es) (sym here) (put_in key value es stands)

-- what was done, where nothing failed
pub done_ok : {X T E : Type 0} (r : Result T E) (new done old : X) → new ≡ cond (is_ok r) done old → is_err r ≡ false → new ≡ done
done_ok (Ok x) new done old e h = e
done_ok (Err x) new done old e h = absurd cc
