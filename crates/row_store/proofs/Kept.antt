-- The value that entries in order have under a key.
use Rattle.std.proofs.Common.{◌≡◌, ℕ, suc, ◌+◌, Less, Equal, Greater, Ordering, Bool, true, false, cond, ◌&&◌, List, [], ◌∷◌, get_or, Option, Some, None, refl, sym, ap, ◌∙◌, arith}
use Rattle.std.specs.Prelude.{IsTrue, slice_get}
use lib.Dec.{T}
use Rattle.std.specs.Ordering.{is_lt, is_eq, eq_by_cmp}
use Rattle.std.specs.Cmp.Lexicographic.{nat_list_cmp_total}
use Rattle.std.specs.FinMap as finite_map
use Rattle.std.specs.FinMap.{get-from_sorted}
use Rattle.std.specs.FinMap.Entries.{find, below_all}
use Rattle.row_batch.specs.Rows.{Rows}
use Rattle.row_batch.specs.Order.{key_cmp}
use Rattle.row_store.specs.Entries.{Entries, rows_of, in_key_order, place_for, has_key}
use Rattle.row_store.proofs.Places.{greater_than, same_key, key_itself, less_than}
use Rattle.row_store.proofs.Laws.{as_T}

pub front_of : (a b : Bool) → T (a && b) → T a
front_of true b h = tt
front_of false b h = absurd h

pub rest_of : (a b : Bool) → T (a && b) → T b
rest_of true b h = h
rest_of false b h = absurd h

pub is_Less : (o : Ordering) → T (is_lt o) → o ≡ Less
is_Less Less h = refl
is_Less Equal h = absurd h
is_Less Greater h = absurd h

-- no entry has a key that comes before them all
none_below : (key x : List ℕ) (es : Entries) → key_cmp key x ≡ Less → T (below_all key_cmp x es) → find key_cmp key es ≡ None
none_below key x [] lt h = refl
none_below key x (e ∷ es) lt h =
    let on : key_cmp key e.0 ≡ Less = nat_list_cmp_total.trans key x e.0 lt (is_Less (key_cmp x e.0) (front_of _ _ h)) in
    let other : eq_by_cmp key_cmp key e.0 ≡ false = ap is_eq on in
    rw other (none_below key x es lt (rest_of _ _ h))

pub found_at : (key : List ℕ) (es : Entries) → has_key key (slice_get es (place_for key es)) ≡ true → (d : List ℕ × List ℕ) → find key_cmp key es ≡ Some (get_or es (place_for key es) d).1
found_at key [] h d = absurd cc
found_at key (e ∷ es) h d =
    let n = place_for key es in
    let P : Bool → Type 0 = λ b. has_key key (slice_get (e ∷ es) (cond b (1 + n) 0)) ≡ true
    → cond (is_eq (key_cmp key e.0)) (Some e.1) (find key_cmp key es) ≡ Some (get_or (e ∷ es) (cond b (1 + n) 0) d).1 in
    elim (is_lt (key_cmp e.0 key)) as (λ b. is_lt (key_cmp e.0 key) ≡ b → P b) [
      | true ↦ λ is h. let k : 1 + n ≡ suc n = omega arith in
          rw (k, greater_than e.0 key is) (found_at key es (rw k at h) d)
      | false ↦ λ is h. let same : e.0 ≡ key = same_key e.0 key h in
          let tie : key_cmp key e.0 ≡ Equal = ap (key_cmp key) same ∙ key_itself key in
          rw tie refl
    ] refl h

pub none_at_place : (key : List ℕ) (es : Entries) → T (in_key_order es) → has_key key (slice_get es (place_for key es)) ≡ false → find key_cmp key es ≡ None
none_at_place key [] order h = refl
none_at_place key (e ∷ es) order h =
    let n = place_for key es in
    let P : Bool → Type 0 = λ b. has_key key (slice_get (e ∷ es) (cond b (1 + n) 0)) ≡ false
    → cond (is_eq (key_cmp key e.0)) (Some e.1) (find key_cmp key es) ≡ None in
    elim (is_lt (key_cmp e.0 key)) as (λ b. is_lt (key_cmp e.0 key) ≡ b → P b) [
      | true ↦ λ is h. let k : 1 + n ≡ suc n = omega arith in
          rw (greater_than e.0 key is) (none_at_place key es (rest_of _ _ order) (rw k at h))
      | false ↦ λ is h. let less : key_cmp key e.0 ≡ Less = less_than e.0 key is h in
          rw less (none_below key e.0 es less (front_of _ _ order))
    ] refl h

-- as the code reads them
pub some_value : (key key1 key2 : List ℕ) (es es1 es2 : Entries) (place : ℕ) (x : List ℕ × List ℕ) (value : List ℕ) → key1 ≡ key → key2 ≡ key → es1 ≡ es → es2 ≡ es → place ≡ place_for key1 es1 → true ≡ has_key key2 (slice_get es2 place) → x ≡ get_or es place x → value ≡ x.1 → find key_cmp key es ≡ Some value
some_value key key1 key2 es es1 es2 place x value k1 k2 e1 e2 at has is given =
    let here : place ≡ place_for key es = rw (← k1, ← e1) at in
    let stands : has_key key (slice_get es (place_for key es)) ≡ true = rw (← here, ← k2, ← e2) (sym has) in
    found_at key es stands x ∙ ap (λ (y : List ℕ × List ℕ). Some y.1) (ap (λ (p : ℕ). get_or es p x) (sym here) ∙ sym is) ∙ ap Some (sym given)

pub no_value : (key key1 key2 : List ℕ) (es es1 es2 : Entries) (place : ℕ) → IsTrue (in_key_order es) → key1 ≡ key → key2 ≡ key → es1 ≡ es → es2 ≡ es → place ≡ place_for key1 es1 → false ≡ has_key key2 (slice_get es2 place) → find key_cmp key es ≡ None
no_value key key1 key2 es es1 es2 place order k1 k2 e1 e2 at has =
    let here : place ≡ place_for key es = rw (← k1, ← e1) at in
    let stands : has_key key (slice_get es (place_for key es)) ≡ false = rw (← here, ← k2, ← e2) (sym has) in
    none_at_place key es (as_T (in_key_order es) order) stands

-- as the map has it
pub as_kept : (rows : Rows) (sought key : List ℕ) (es es1 : Entries) (o : Option (List ℕ)) → IsTrue (in_key_order es) → rows ≡ rows_of es → key ≡ sought → es1 ≡ es → find key_cmp key es1 ≡ o → finite_map.get rows sought ≡ o
as_kept rows sought key es es1 o order view k e found =
    ap (λ (m : Rows). finite_map.get m sought) view ∙ get-from_sorted key_cmp es sought (as_T (in_key_order es) order)
    ∙ ap (λ (q : List ℕ). find key_cmp q es) (sym k) ∙ ap (find key_cmp key) (sym e) ∙ found
