-- What records have under keys, and how that follows batches.
use Rattle.std.proofs.Common.{◌≡◌, inl, inr, ℕ, ◌<◌, ◌^◌, Bool, true, false, cond, ◌||◌, List, [], ◌∷◌, ◌++◌, Option, Some, None, is_some, refl, sym, ◌∙◌, ap, subst, arith}
use Rattle.std.specs.Prelude.{nat_lt}
use Rattle.std.specs.Int.{w64, to_be_bytes, from_be_bytes}
use Rattle.std.specs.List.{AllByRecursion}
use Rattle.std.specs.Option.{option_or}
use Rattle.std.specs.FinMap as finite_map
use Rattle.std.proofs.lemmas.Bool.{cases_Bool, cases_order, and_parts, and_from, ltb-true, lt-ltb}
use Rattle.std.proofs.lemmas.Nat.{from_be_bytes-to_be_bytes_8}
use Rattle.row_batch.specs.declared.operation.Operation.{Operation}
use Rattle.row_batch.specs.Order.{key_cmp, in_order}
use Rattle.row_batch.specs.Rows.{Rows, no_rows, is_key, applied}
use Rattle.row_batch.specs.Meaning.{made_of, last_put, is_deleted}
use Rattle.row_batch.proofs.Meanings.{is_key_same, is_key_itself, made_applied, last_put_more, deleted_more}
use Rattle.ddl_log.specs.declared.records.LogRecord.{LogRecord}
use Rattle.ddl_log.specs.Records.{IsRecord, record_bytes}
use Rattle.ddl_log.specs.Reading.{record_at}
use Rattle.ddl_log.specs.Effect.{follows, by_id}
use Rattle.ddl_log.proofs.Bodies.{record_again}
use Rattle.log_rows.specs.Logs.{record_key, is_record_key, record_under, IsLog, ChangesLog, put_row, delete_row, LeavesLog, LeavesOthers}

-- ## Keys

pub is_record : (id : ℕ) → is_record_key (record_key id) ≡ true
unfolding record_key
is_record id = refl

key_rest : (x y : ℕ) (xs ys : List ℕ) → x ∷ xs ≡ y ∷ ys → xs ≡ ys
key_rest x y xs ys is = cc is

-- an id below 2 ^ 64 has a key of its own
pub one_key : (a b : ℕ) → a < 2 ^ 64 → b < 2 ^ 64 → record_key a ≡ record_key b → a ≡ b
unfolding record_key
one_key a b small few is =
    sym (from_be_bytes-to_be_bytes_8 a small)
    ∙ ap (from_be_bytes w64) (key_rest 9 9 (to_be_bytes w64 a) (to_be_bytes w64 b) is)
    ∙ from_be_bytes-to_be_bytes_8 b few

-- ## Lists of records

less : (a b : ℕ) → nat_lt a b ≡ true → a < b
less a b is = ltb-true a b is

module _ {A : Type 0} (P : A → Type 0) where
  pub each_front : (xs ys : List A) → AllByRecursion P (xs ++ ys) → AllByRecursion P xs
  each_front [] ys it = tt
  each_front (x ∷ xs) ys it = (it.0, each_front xs ys it.1)

  pub each_back : (xs ys : List A) → AllByRecursion P (xs ++ ys) → AllByRecursion P ys
  each_back [] ys it = it
  each_back (x ∷ xs) ys it = each_back xs ys it.1

  pub each_both : (xs ys : List A) → AllByRecursion P xs → AllByRecursion P ys → AllByRecursion P (xs ++ ys)
  each_both [] ys one two = two
  each_both (x ∷ xs) ys one two = (one.0, each_both xs ys one.1 two)

-- a greater number than the first id may stand before the rest no less
follows_less : (a b : ℕ) (items : List LogRecord) → a < b → follows b items ≡ true → follows a items ≡ true
follows_less a b [] lt is = refl
follows_less a b (x ∷ xs) lt is =
    let parts = and_parts (nat_lt b x.id) (follows x.id xs) is in
    and_from (nat_lt a x.id) (follows x.id xs) (lt-ltb a x.id (omega (arith, lt, less b x.id parts.0))) parts.1

follows_rest : (id : ℕ) (xs ys : List LogRecord) → follows id (xs ++ ys) ≡ true → follows id ys ≡ true
follows_rest id [] ys is = is
follows_rest id (x ∷ xs) ys is =
    let parts = and_parts (nat_lt id x.id) (follows x.id (xs ++ ys)) is in
    follows_less id x.id ys (less id x.id parts.0) (follows_rest x.id xs ys parts.1)

follows_by_id : (id : ℕ) (items : List LogRecord) → follows id items ≡ true → by_id items ≡ true
follows_by_id id [] is = refl
follows_by_id id (x ∷ xs) is = (and_parts (nat_lt id x.id) (follows x.id xs) is).1

pub by_id_back : (xs ys : List LogRecord) → by_id (xs ++ ys) ≡ true → by_id ys ≡ true
by_id_back [] ys is = is
by_id_back (x ∷ xs) ys is = follows_by_id x.id ys (follows_rest x.id xs ys is)

-- ## What they have under a key

pub under_both : (xs ys : List LogRecord) (q : List ℕ) → record_under (xs ++ ys) q ≡ option_or (record_under xs q) (record_under ys q)
under_both [] ys q = refl
under_both (x ∷ xs) ys q = by (is_key q (record_key x.id)) (under_both xs ys q)
  where
    by : (b : Bool) → record_under (xs ++ ys) q ≡ option_or (record_under xs q) (record_under ys q)
        → cond b (Some (record_bytes x)) (record_under (xs ++ ys) q) ≡ option_or (cond b (Some (record_bytes x)) (record_under xs q)) (record_under ys q)
    by true rest = refl
    by false rest = rest

-- nothing under the key of an id that they follow
none_under : (id : ℕ) (items : List LogRecord) → id < 2 ^ 64 → AllByRecursion IsRecord items → follows id items ≡ true → record_under items (record_key id) ≡ None
none_under id [] small each is = refl
none_under id (x ∷ xs) small each is =
    let parts = and_parts (nat_lt id x.id) (follows x.id xs) is in
    let lt : id < x.id = less id x.id parts.0 in
    let rest = none_under id xs small each.1 (follows_less id x.id xs lt parts.1) in
    elim (cases_Bool (is_key (record_key id) (record_key x.id))) [
      | inl same ↦ let e : id ≡ x.id = one_key id x.id small each.0.id (is_key_same (record_key id) (record_key x.id) same) in absurd (omega (arith, lt, e))
      | inr apart ↦ ap (λ (b : Bool). cond b (Some (record_bytes x)) (record_under xs (record_key id))) apart ∙ rest
    ]

-- what the first have under a key the others don't
pub apart_under : (xs ys : List LogRecord) (q v : List ℕ) → AllByRecursion IsRecord (xs ++ ys) → by_id (xs ++ ys) ≡ true → record_under xs q ≡ Some v → record_under ys q ≡ None
apart_under [] ys q v each order there = absurd cc
apart_under (x ∷ xs) ys q v each order there = elim (cases_Bool (is_key q (record_key x.id))) [
  | inl same ↦
      ap (record_under ys) (is_key_same q (record_key x.id) same)
      ∙ none_under x.id ys each.0.id (each_back IsRecord xs ys each.1) (follows_rest x.id xs ys order)
  | inr off ↦ apart_under xs ys q v each.1 (follows_by_id x.id (xs ++ ys) order) (sym (ap (λ (b : Bool). cond b (Some (record_bytes x)) (record_under xs q)) off) ∙ there)
]

-- ## A batch that grows

pub begins : ChangesLog [] [] []
begins = record { is = λ q is old. refl }

abbrev none : Option (List ℕ)
none = None

-- a put behind other operations
put_made : (operations : List Operation) (item : LogRecord) (q : List ℕ) (old : Option (List ℕ)) → made_of (operations ++ put_row item ∷ []) q old ≡ cond (is_key q (record_key item.id)) (Some (record_bytes item)) (made_of operations q old)
put_made operations item q old =
    ap (λ (put : Option (List ℕ)). option_or put (cond (is_deleted (operations ++ put_row item ∷ []) q) None old)) (last_put_more operations (put_row item ∷ []) q)
    ∙ ap (λ (b : Bool). option_or (option_or (last_put (put_row item ∷ []) q) (last_put operations q)) (cond b None old)) (deleted_more operations (put_row item ∷ []) q)
    ∙ by (is_key q (record_key item.id)) (is_deleted operations q) (last_put operations q)
  where
    by : (b d : Bool) (put : Option (List ℕ))
        → option_or (option_or (cond b (Some (record_bytes item)) None) put) (cond (d || false) None old) ≡ cond b (Some (record_bytes item)) (option_or put (cond d None old))
    by true d put = refl
    by false true put = refl
    by false false put = refl

-- a deletion behind other operations
drop_made : (operations : List Operation) (item : LogRecord) (q : List ℕ) (old : Option (List ℕ))
    → made_of (operations ++ delete_row item ∷ []) q old ≡ option_or (last_put operations q) (cond (is_deleted operations q || is_key q (record_key item.id)) None old)
drop_made operations item q old =
    ap (λ (put : Option (List ℕ)). option_or put (cond (is_deleted (operations ++ delete_row item ∷ []) q) None old)) (last_put_more operations (delete_row item ∷ []) q)
    ∙ ap (λ (b : Bool). option_or (last_put operations q) (cond b None old)) (deleted_more operations (delete_row item ∷ []) q)
    ∙ by (is_deleted operations q) (is_key q (record_key item.id))
  where
    by : (d b : Bool) → option_or (last_put operations q) (cond (d || (b || false)) None old) ≡ option_or (last_put operations q) (cond (d || b) None old)
    by true b = refl
    by false true = refl
    by false false = refl

module _ (operations : List Operation) (gone come : List LogRecord) (item : LogRecord) (it : ChangesLog operations gone come) where
  pub puts : AllByRecursion IsRecord (come ++ item ∷ []) → by_id (come ++ item ∷ []) ≡ true → ChangesLog (operations ++ put_row item ∷ []) gone (come ++ item ∷ [])
  puts each order = record { is = λ q is old. put_made operations item q old ∙ whole q is old }
    where
      last : List LogRecord
      last = item ∷ []

      -- where the others have something, the last has nothing
      by : (b : Bool) (c rest : Option (List ℕ)) → ((v : List ℕ) → c ≡ Some v → cond b (Some (record_bytes item)) None ≡ None) → cond b (Some (record_bytes item)) (option_or c rest) ≡ option_or (option_or c (cond b (Some (record_bytes item)) None)) rest
      by true None rest apart = refl
      by true (Some v) rest apart = let no : Some (record_bytes item) ≡ None = apart v refl in absurd cc
      by false None rest apart = refl
      by false (Some v) rest apart = refl

      whole : (q : List ℕ) → is_record_key q ≡ true → (old : Option (List ℕ)) → cond (is_key q (record_key item.id)) (Some (record_bytes item)) (made_of operations q old) ≡ option_or (record_under (come ++ item ∷ []) q) (cond (is_some (record_under gone q)) None old)
      whole q is old =
          let rest : Option (List ℕ) = cond (is_some (record_under gone q)) None old in
          ap (cond (is_key q (record_key item.id)) (Some (record_bytes item))) (it.is q is old)
          ∙ by (is_key q (record_key item.id)) (record_under come q) rest (λ v there. apart_under come (item ∷ []) q v each order there)
          ∙ ap (λ (u : Option (List ℕ)). option_or u rest) (sym (under_both come (item ∷ []) q))

  pub drops : ChangesLog (operations ++ delete_row item ∷ []) (item ∷ gone) come
  drops = record {
    is = λ q is old.
        drop_made operations item q old
        ∙ by (is_key q (record_key item.id)) (is_deleted operations q) (record_under gone q) (last_put operations q) (record_under come q) old (it.is q is);
  }
    where
      by : (b d : Bool) (g put c old : Option (List ℕ)) → ((old : Option (List ℕ)) → option_or put (cond d None old) ≡ option_or c (cond (is_some g) None old))
          → option_or put (cond (d || b) None old) ≡ option_or c (cond (is_some (cond b (Some (record_bytes item)) g)) None old)
      by true true g put c old h = by_gone g h
        where
          by_gone : (g : Option (List ℕ)) → ((old : Option (List ℕ)) → option_or put none ≡ option_or c (cond (is_some g) None old)) → option_or put none ≡ option_or c none
          by_gone None h = h None
          by_gone (Some v) h = h None
      by true false g put c old h = by_gone g h
        where
          by_gone : (g : Option (List ℕ)) → ((old : Option (List ℕ)) → option_or put old ≡ option_or c (cond (is_some g) None old)) → option_or put none ≡ option_or c none
          by_gone None h = h None
          by_gone (Some v) h = h None
      by false true g put c old h = h old
      by false false g put c old h = h old

pub others : (old new : List Operation) (gone come : List LogRecord) → ChangesLog old gone come → LeavesLog old new → ChangesLog new gone come
others old new gone come it leaves = record { is = λ q is before. leaves q is before ∙ it.is q is before }

-- a key that is no record's isn't the record's
other_key : (q : List ℕ) (id : ℕ) → is_record_key q ≡ false → is_key q (record_key id) ≡ false
other_key q id is = elim (cases_Bool (is_key q (record_key id))) [
  | inl same ↦ let no : true ≡ false = sym (is_record id) ∙ ap is_record_key (sym (is_key_same q (record_key id) same)) ∙ is in absurd cc
  | inr off ↦ off
]

pub put_alone : (operations : List Operation) (item : LogRecord) → LeavesOthers operations (operations ++ put_row item ∷ [])
put_alone operations item q is old = put_made operations item q old ∙ ap (λ (b : Bool). cond b (Some (record_bytes item)) (made_of operations q old)) (other_key q item.id is)

pub drop_alone : (operations : List Operation) (item : LogRecord) → LeavesOthers operations (operations ++ delete_row item ∷ [])
drop_alone operations item q is old =
    drop_made operations item q old
    ∙ ap (λ (b : Bool). option_or (last_put operations q) (cond (is_deleted operations q || b) None old)) (other_key q item.id is)
    ∙ by (is_deleted operations q)
  where
    by : (d : Bool) → option_or (last_put operations q) (cond (d || false) None old) ≡ option_or (last_put operations q) (cond d None old)
    by true = refl
    by false = refl

-- ## The log behind a batch

arranged : (e g c l : Option (List ℕ)) → ((v : List ℕ) → e ≡ Some v → (g ≡ None) × (c ≡ None)) → ((v : List ℕ) → g ≡ Some v → l ≡ None)
    → option_or c (cond (is_some g) None (option_or e (option_or g l))) ≡ option_or e (option_or c l)
arranged (Some v) g c l first second = let h = first v refl in rw (h.0, h.1) refl
arranged None None c l first second = refl
arranged None (Some v) c l first second = rw (second v refl) refl

none_left : (a b : Option (List ℕ)) → option_or a b ≡ None → (a ≡ None) × (b ≡ None)
none_left None b is = (refl, is)
none_left (Some v) b is = absurd cc

module _ (operations : List Operation) (rows : Rows) (earlier gone come later : List LogRecord) where
  pub follows_log : IsLog rows (earlier ++ (gone ++ later)) → ChangesLog operations gone come → in_order operations ≡ true → AllByRecursion IsRecord come → by_id (earlier ++ (come ++ later)) ≡ true
      → IsLog (applied operations rows) (earlier ++ (come ++ later))
  follows_log log it sorted each order = record { order = order; each = whole; are = λ q is. at q is }
    where
      behind : AllByRecursion IsRecord (gone ++ later)
      behind = each_back IsRecord earlier (gone ++ later) log.each

      whole : AllByRecursion IsRecord (earlier ++ (come ++ later))
      whole = each_both IsRecord earlier (come ++ later) (each_front IsRecord earlier (gone ++ later) log.each) (each_both IsRecord come later each (each_back IsRecord gone later behind))

      three : (mid : List LogRecord) (q : List ℕ) → record_under (earlier ++ (mid ++ later)) q ≡ option_or (record_under earlier q) (option_or (record_under mid q) (record_under later q))
      three mid q = under_both earlier (mid ++ later) q ∙ ap (option_or (record_under earlier q)) (under_both mid later q)

      -- where the earlier ones have something, none of the others has
      first : (q v : List ℕ) → record_under earlier q ≡ Some v → (record_under gone q ≡ None) × (record_under come q ≡ None)
      first q v there =
          let one = apart_under earlier (gone ++ later) q v log.each log.order there in
          let two = apart_under earlier (come ++ later) q v whole order there in (
            (none_left (record_under gone q) (record_under later q) (sym (under_both gone later q) ∙ one)).0,
            (none_left (record_under come q) (record_under later q) (sym (under_both come later q) ∙ two)).0,
          )

      second : (q v : List ℕ) → record_under gone q ≡ Some v → record_under later q ≡ None
      second q v there = apart_under gone later q v behind (by_id_back earlier (gone ++ later) log.order) there

      at : (q : List ℕ) → is_record_key q ≡ true → finite_map.get (applied operations rows) q ≡ record_under (earlier ++ (come ++ later)) q
      at q is =
          made_applied operations rows q sorted
          ∙ it.is q is (finite_map.get rows q)
          ∙ ap (λ (v : Option (List ℕ)). option_or (record_under come q) (cond (is_some (record_under gone q)) None v)) (log.are q is ∙ three gone q)
          ∙ arranged (record_under earlier q) (record_under gone q) (record_under come q) (record_under later q) (first q) (second q)
          ∙ sym (three come q)

-- one record comes or goes
follows_without : (id : ℕ) (xs ys : List LogRecord) (x : LogRecord) → follows id (xs ++ x ∷ ys) ≡ true → follows id (xs ++ ys) ≡ true
follows_without id [] ys x is = let parts = and_parts (nat_lt id x.id) (follows x.id ys) is in follows_less id x.id ys (less id x.id parts.0) parts.1
follows_without id (z ∷ zs) ys x is =
    let parts = and_parts (nat_lt id z.id) (follows z.id (zs ++ x ∷ ys)) is in
    and_from (nat_lt id z.id) (follows z.id (zs ++ ys)) parts.0 (follows_without z.id zs ys x parts.1)

by_id_without : (xs ys : List LogRecord) (x : LogRecord) → by_id (xs ++ x ∷ ys) ≡ true → by_id (xs ++ ys) ≡ true
by_id_without [] ys x is = follows_by_id x.id ys is
by_id_without (y ∷ xs) ys x is = follows_without y.id xs ys x is

module _ (rows : Rows) (item : LogRecord) (earlier later : List LogRecord) where
  pub log_with : IsRecord item → IsLog rows (earlier ++ later) → by_id (earlier ++ item ∷ later) ≡ true → IsLog (applied (put_row item ∷ []) rows) (earlier ++ item ∷ later)
  log_with is log order = follows_log (put_row item ∷ []) rows earlier [] (item ∷ []) later log (puts [] [] [] item begins (is, tt) refl) refl (is, tt) order

  pub log_without : IsLog rows (earlier ++ item ∷ later) → IsLog (applied (delete_row item ∷ []) rows) (earlier ++ later)
  log_without log = follows_log (delete_row item ∷ []) rows earlier (item ∷ []) [] later log (drops [] [] [] item begins) refl tt (by_id_without earlier later item log.order)

-- ## One log

some_same : (x y : List ℕ) → Some x ≡ Some y → x ≡ y
some_same x y is = cc is

some_item : (x y : LogRecord) → Some x ≡ Some y → x ≡ y
some_item x y is = cc is

-- the first record has its bytes under its key
under_first : (x : LogRecord) (xs : List LogRecord) → record_under (x ∷ xs) (record_key x.id) ≡ Some (record_bytes x)
under_first x xs = rw (is_key_itself (record_key x.id)) refl

same_record : (x y : LogRecord) → IsRecord x → IsRecord y → x.id ≡ y.id → record_bytes x ≡ record_bytes y → x ≡ y
same_record x y one two ids bytes =
    some_item x y (sym (record_again x one) ∙ ap (λ (n : ℕ). record_at n (record_bytes x)) ids ∙ ap (record_at y.id) bytes ∙ record_again y two)

abbrev AreAlike : List LogRecord → List LogRecord → Type 0
AreAlike xs ys = (q : List ℕ) → is_record_key q ≡ true → record_under xs q ≡ record_under ys q

-- a first record that none of the others has can't be
not_there : (x : LogRecord) (xs ys : List LogRecord) → AreAlike (x ∷ xs) ys → record_under ys (record_key x.id) ≡ None → ⊥
not_there x xs ys alike gone = let no : Some (record_bytes x) ≡ None = sym (under_first x xs) ∙ alike (record_key x.id) (is_record x.id) ∙ gone in cc

pub one_list : (xs ys : List LogRecord) → AllByRecursion IsRecord xs → AllByRecursion IsRecord ys → by_id xs ≡ true → by_id ys ≡ true → AreAlike xs ys → xs ≡ ys
one_list [] [] each_x each_y order_x order_y alike = refl
one_list [] (y ∷ ys) each_x each_y order_x order_y alike = absurd (not_there y ys [] (λ q is. sym (alike q is)) refl)
one_list (x ∷ xs) [] each_x each_y order_x order_y alike = absurd (not_there x xs [] alike refl)
one_list (x ∷ xs) (y ∷ ys) each_x each_y order_x order_y alike =
    heads (λ ids. let same = same_record x y each_x.0 each_y.0 ids (some_same (record_bytes x) (record_bytes y) (bytes ids)) in
    let rest = one_list xs ys each_x.1 each_y.1 (follows_by_id x.id xs order_x) (follows_by_id y.id ys order_y) (tails ids) in
    ap (λ (z : LogRecord). z ∷ xs) same ∙ ap (λ (l : List LogRecord). y ∷ l) rest)
  where
    -- the lesser of two first ids would be missing in the other list
    missing : (a : LogRecord) (tail : List LogRecord) (b : LogRecord) (bs : List LogRecord) → IsRecord a → AllByRecursion IsRecord (b ∷ bs) → a.id < b.id → follows b.id bs ≡ true → AreAlike (a ∷ tail) (b ∷ bs) → ⊥
    missing a tail b bs one each lt order alike =
        let above : follows a.id (b ∷ bs) ≡ true = and_from (nat_lt a.id b.id) (follows b.id bs) (lt-ltb a.id b.id lt) order in
        not_there a tail (b ∷ bs) alike (none_under a.id (b ∷ bs) one.id each above)

    heads : {X : Type 0} → (x.id ≡ y.id → X) → X
    heads on = elim (cases_order x.id y.id) [
      | inl same ↦ on same
      | inr (inl lt) ↦ absurd (missing x xs y ys each_x.0 each_y lt order_y alike)
      | inr (inr lt) ↦ absurd (missing y ys x xs each_y.0 each_x lt order_x (λ q is. sym (alike q is)))
    ]

    bytes : x.id ≡ y.id → Some (record_bytes x) ≡ Some (record_bytes y)
    bytes ids = sym (under_first x xs) ∙ alike (record_key x.id) (is_record x.id) ∙ ap (λ (n : ℕ). record_under (y ∷ ys) (record_key n)) ids ∙ under_first y ys

    tails : x.id ≡ y.id → AreAlike xs ys
    tails ids q is = elim (cases_Bool (is_key q (record_key x.id))) [
      | inl same ↦
          let at = is_key_same q (record_key x.id) same in
          ap (record_under xs) at ∙ none_under x.id xs each_x.0.id each_x.1 order_x
          ∙ sym (ap (record_under ys) (at ∙ ap record_key ids) ∙ none_under y.id ys each_y.0.id each_y.1 order_y)
      | inr off ↦
          let off_y : is_key q (record_key y.id) ≡ false = subst (λ (n : ℕ). is_key q (record_key n) ≡ false) ids off in
          sym (ap (λ (b : Bool). cond b (Some (record_bytes x)) (record_under xs q)) off) ∙ alike q is
          ∙ ap (λ (b : Bool). cond b (Some (record_bytes y)) (record_under ys q)) off_y
    ]

pub one_log : (rows : Rows) (xs ys : List LogRecord) → IsLog rows xs → IsLog rows ys → xs ≡ ys
one_log rows xs ys one two = one_list xs ys one.each two.each one.order two.order (λ q is. sym (one.are q is) ∙ two.are q is)

pub no_log : IsLog no_rows []
no_log = record { order = refl; each = tt; are = λ q is. finite_map.get-empty key_cmp q }
