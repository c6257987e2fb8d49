-- Rows that go into a batch, one after the other, and keys that are taken away.
use Rattle.std.proofs.Common.{◌≡◌, ℕ, zero, suc, ◌+◌, ◌<◌, ◌≤◌, Bool, true, false, cond, List, [], ◌∷◌, ◌++◌, length, take, get_or, Option, None, Some, Result, Ok, Err, refl, sym, ap, subst, ◌∙◌, append_assoc, arith}
use Rattle.std.specs.Prelude.{OnOk, ◌||◌}
use Rattle.std.specs.List.{list_any, AllByRecursion}
use Rattle.std.specs.Option.{option_or}
use Rattle.std.proofs.lemmas.List.{append-nil, take_all}
use Rattle.std.proofs.lemmas.List.Folds.{list_any-append}
use Rattle.row_batch.specs.declared.operation.Operation.{Operation}
use Rattle.row_batch.specs.declared.operation.Operation.TheVariants.{Delete, DeletePrefix, Put}
use Rattle.row_batch.specs.Batches.{BatchValue}
use Rattle.row_batch.specs.Rows.{is_key, is_under}
use Rattle.row_batch.specs.Meaning.{Means}
use Rattle.row_batch.proofs.Meanings.{means_more}
use Rattle.row_fields.specs.Fields.{fields_bytes}
use Rattle.catalog_rows.specs.Owners.{Row, key_bytes}
use Rattle.catalog_rows.specs.Lists.{numbered}
use Rattle.catalog_rows.specs.Changes.{with_put, put_behind, is_among}
use Rattle.catalog_rows.specs.Adding.{Adds, Added, AddedOne, AddedEach, Takes, Taken}
use Rattle.catalog_rows.proofs.Fitting.{one_fits, take_one}

-- ## Puts

put_behind_more : (xs ys : List Row) (puts : List ℕ → Option (List ℕ)) → put_behind (xs ++ ys) puts ≡ put_behind ys (put_behind xs puts)
put_behind_more [] ys puts = refl
put_behind_more (x ∷ xs) ys puts = put_behind_more xs ys (with_put x puts)

pub adds_nothing : (old : List Operation) → Adds old old []
adds_nothing old = λ gone puts means. means

pub adds_then : (old mid new : List Operation) (xs ys : List Row) → Adds old mid xs → Adds mid new ys → Adds old new (xs ++ ys)
adds_then old mid new xs ys p q = λ gone puts means. subst (Means new gone) (sym (put_behind_more xs ys puts)) (q gone (put_behind xs puts) (p gone puts means))

put_or : (b : Bool) (value : List ℕ) (put : Option (List ℕ)) → option_or (cond b (Some value) None) put ≡ cond b (Some value) put
put_or true value put = refl
put_or false value put = refl

adds_put : (old : List Operation) (row : Row) → Adds old (old ++ Put (key_bytes row.key) (fields_bytes row.value) ∷ []) (row ∷ [])
adds_put old row = λ gone puts means.
    let more = means_more old gone puts (Put (key_bytes row.key) (fields_bytes row.value)) means in
    record { is = λ key before. more.is key before ∙ ap (λ put. option_or put (cond (gone key) None before)) (put_or (is_key key (key_bytes row.key)) (fields_bytes row.value) (puts key)) }

pub added_put : {T E : Type 0} (r : Result T E) (old new : BatchValue) (row : Row) (key value : List ℕ) → key ≡ key_bytes row.key → value ≡ fields_bytes row.value
    → OnOk r (new ≡ record { operations = old.operations ++ Put key value ∷ []; is_framed = false }) → OnOk r (Added old new (row ∷ []))
added_put (Ok x) old new row key value k v e = record {
  unframed = ap (λ (b : BatchValue). b.is_framed) e;
  adds = subst (λ (operations : List Operation). Adds old.operations operations (row ∷ []))
      (sym (ap (λ (b : BatchValue). b.operations) e ∙ (λ i. old.operations ++ Put (k i) (v i) ∷ []))) (adds_put old.operations row);
}
added_put (Err x) old new row key value k v e = tt

pub added_nothing : (old : BatchValue) → old.is_framed ≡ false → Added old old []
added_nothing old unframed = record { unframed = unframed; adds = adds_nothing old.operations }

pub added_then : (old mid new : BatchValue) (xs ys : List Row) → Added old mid xs → Added mid new ys → Added old new (xs ++ ys)
added_then old mid new xs ys p q = record { unframed = q.unframed; adds = adds_then old.operations mid.operations new.operations xs ys p.adds q.adds }

-- ## Items by their numbers

numbered_take : {X : Type 0} (make : ℕ → X → List Row) (i : ℕ) (xs : List X) (k : ℕ) (d : X) → k < length xs → numbered make i (take (suc k) xs) ≡ numbered make i (take k xs) ++ make (i + k) (get_or xs k d)
numbered_take make i [] k d lt = absurd (omega arith)
numbered_take make i (x ∷ xs) zero d lt = let e : i + 0 ≡ i = omega arith in rw e (append-nil (make i x))
numbered_take make i (x ∷ xs) (suc k) d lt =
    let e : i + suc k ≡ suc i + k = omega arith in
    rw e (ap (λ (rest : List Row). make i x ++ rest) (numbered_take make (suc i) xs k d (omega arith)) ∙ sym (append_assoc (make i x) (numbered make (suc i) (take k xs)) (make (suc i + k) (get_or xs k d))))

pub numbered_more : {X : Type 0} (make : ℕ → X → List Row) (xs : List X) (k : ℕ) (x : X) → k < length xs → x ≡ get_or xs k x → numbered make 0 (take (k + 1) xs) ≡ numbered make 0 (take k xs) ++ make k x
numbered_more make xs k x lt is =
    let one : k + 1 ≡ suc k = omega arith in
    let none : 0 + k ≡ k = omega arith in
    rw one (numbered_take make 0 xs k x lt ∙ ap (λ (i : ℕ). numbered make 0 (take k xs) ++ make i (get_or xs k x)) none ∙ ap (λ y. numbered make 0 (take k xs) ++ make k y) (sym is))

-- what a loop has added of the items before a place
pub record AddedUpTo {X : Type 0} (Fits : X → Type 0) (old new : BatchValue) (make : ℕ → X → List Row) (xs : List X) (k place : ℕ) : Type 0 where
  pub added : Added old new (numbered make 0 (take k xs))
  pub fits : AllByRecursion Fits (take k xs)
  pub counted : place ≡ k

pub begins : {X : Type 0} (Fits : X → Type 0) (old : BatchValue) (make : ℕ → X → List Row) (xs : List X) → old.is_framed ≡ false → AddedUpTo Fits old old make xs 0 0
begins Fits old make xs unframed = record { added = added_nothing old unframed; fits = tt; counted = refl }

pub goes_on : {X : Type 0} (Fits : X → Type 0) (old mid new : BatchValue) (make : ℕ → X → List Row) (xs : List X) (k place : ℕ) (x : X) → k < length xs → x ≡ get_or xs k x → AddedUpTo Fits old mid make xs k place
    → AddedOne Fits mid new (make place x) x → AddedUpTo Fits old new make xs (k + 1) (place + 1)
goes_on Fits old mid new make xs k place x lt is so_far one = record {
  added = subst (Added old new) (sym (numbered_more make xs k x lt is)) (added_then old mid new (numbered make 0 (take k xs)) (make k x) so_far.added (subst (λ (i : ℕ). Added mid new (make i x)) so_far.counted one.added));
  fits = one_fits Fits xs k x lt is so_far.fits one.fits;
  counted = ap (λ n. n + 1) so_far.counted;
}

pub anything_goes_on : {X : Type 0} (old mid new : BatchValue) (make : ℕ → X → List Row) (xs : List X) (k place : ℕ) (x : X) → k < length xs → x ≡ get_or xs k x → AddedUpTo (λ _. Unit {0}) old mid make xs k place
    → Added mid new (make place x) → AddedUpTo (λ _. Unit {0}) old new make xs (k + 1) (place + 1)
anything_goes_on old mid new make xs k place x lt is so_far one = goes_on (λ _. Unit {0}) old mid new make xs k place x lt is so_far (record { added = one; fits = tt })

pub ends : {X : Type 0} (Fits : X → Type 0) (old new : BatchValue) (make : ℕ → X → List Row) (xs : List X) (k place : ℕ) → length xs ≤ k → length xs ≤ 65535 → AddedUpTo Fits old new make xs k place → AddedEach Fits old new make xs
ends Fits old new make xs k place le few so_far =
    let all : take k xs ≡ xs = take_all k xs le in
    record {
      added = subst (λ ys. Added old new (numbered make 0 ys)) all so_far.added;
      fits = subst (λ ys. AllByRecursion Fits ys) all so_far.fits;
      few = omega arith;
    }

-- ## Keys that are taken away

three : (a b c : Bool) → (b || (a || c)) ≡ ((a || b) || c)
three true true c = refl
three true false c = refl
three false b c = refl

pub takes_same : (old new : List Operation) (test other : List ℕ → Bool) → ((key : List ℕ) → test key ≡ other key) → Takes old new test → Takes old new other
takes_same old new test other same takes = λ gone puts means.
    let more = takes gone puts means in
    record { is = λ key before. more.is key before ∙ ap (λ b. option_or (puts key) (cond (b || gone key) None before)) (same key) }

pub takes_then : (old mid new : List Operation) (test other : List ℕ → Bool) → Takes old mid test → Takes mid new other → Takes old new (λ key. test key || other key)
takes_then old mid new test other p q = λ gone puts means.
    let more = q (λ key. test key || gone key) puts (p gone puts means) in
    record { is = λ key before. more.is key before ∙ ap (λ b. option_or (puts key) (cond b None before)) (three (test key) (other key) (gone key)) }

pub taken_nothing : (old : BatchValue) → old.is_framed ≡ false → Taken old old (λ key. false)
taken_nothing old unframed = record { unframed = unframed; takes = λ gone puts means. means }

pub taken_same : (old new : BatchValue) (test other : List ℕ → Bool) → ((key : List ℕ) → test key ≡ other key) → Taken old new test → Taken old new other
taken_same old new test other same taken = record { unframed = taken.unframed; takes = takes_same old.operations new.operations test other same taken.takes }

pub taken_then : (old mid new : BatchValue) (test other : List ℕ → Bool) → Taken old mid test → Taken mid new other → Taken old new (λ key. test key || other key)
taken_then old mid new test other p q = record { unframed = q.unframed; takes = takes_then old.operations mid.operations new.operations test other p.takes q.takes }

pub taken_delete : {T E : Type 0} (r : Result T E) (old new : BatchValue) (key own : List ℕ) → key ≡ own → OnOk r (new ≡ record { operations = old.operations ++ Delete key ∷ []; is_framed = false }) → OnOk r (Taken old new (λ q. is_key q own))
taken_delete (Ok x) old new key own same e = record {
  unframed = ap (λ (b : BatchValue). b.is_framed) e;
  takes = λ gone puts means. subst (λ (operations : List Operation). Means operations (λ q. is_key q own || gone q) puts)
      (sym (ap (λ (b : BatchValue). b.operations) e ∙ ap (λ k. old.operations ++ Delete k ∷ []) same)) (means_more old.operations gone puts (Delete own) means);
}
taken_delete (Err x) old new key own same e = tt

pub taken_under : {T E : Type 0} (r : Result T E) (old new : BatchValue) (prefix own : List ℕ) → prefix ≡ own → OnOk r (new ≡ record { operations = old.operations ++ DeletePrefix prefix ∷ []; is_framed = false }) → OnOk r (Taken old new (λ q. is_under own q))
taken_under (Ok x) old new prefix own same e = record {
  unframed = ap (λ (b : BatchValue). b.is_framed) e;
  takes = λ gone puts means. subst (λ (operations : List Operation). Means operations (λ q. is_under own q || gone q) puts)
      (sym (ap (λ (b : BatchValue). b.operations) e ∙ ap (λ k. old.operations ++ DeletePrefix k ∷ []) same)) (means_more old.operations gone puts (DeletePrefix own) means);
}
taken_under (Err x) old new prefix own same e = tt

-- a loop over tests
pub or_false : (b : Bool) → (b || false) ≡ b
or_false true = refl
or_false false = refl

pub taken_one : {X : Type 0} (test : X → List ℕ → Bool) (old mid new : BatchValue) (xs : List X) (k : ℕ) (x d : X) → k < length xs → x ≡ get_or xs k d → Taken old mid (λ q. list_any (λ y. test y q) (take k xs)) → Taken mid new (test x)
    → Taken old new (λ q. list_any (λ y. test y q) (take (k + 1) xs))
taken_one test old mid new xs k x d lt is p q =
    taken_same old new (λ key. list_any (λ y. test y key) (take k xs) || test x key) (λ key. list_any (λ y. test y key) (take (k + 1) xs))
    (λ key. ap (λ b. list_any (λ y. test y key) (take k xs) || b) (sym (or_false (test x key)) ∙ ap (λ y. test y key || false) is) ∙ sym (list_any-append (λ y. test y key) (take k xs) (get_or xs k d ∷ []))
    ∙ ap (list_any (λ y. test y key)) (sym (take_one xs k d lt)))
    (taken_then old mid new (λ key. list_any (λ y. test y key) (take k xs)) (test x) p q)

pub taken_all : {X : Type 0} (test : X → List ℕ → Bool) (old new : BatchValue) (xs : List X) (k : ℕ) → length xs ≤ k → Taken old new (λ q. list_any (λ y. test y q) (take k xs)) → Taken old new (λ q. list_any (λ y. test y q) xs)
taken_all test old new xs k le p = subst (λ ys. Taken old new (λ q. list_any (λ y. test y q) ys)) (take_all k xs le) p

pub links_one : {X : Type 0} (make : ℕ → X → List Row) (old mid new : BatchValue) (xs : List X) (k place : ℕ) (x : X) → k < length xs → x ≡ get_or xs k x → place ≡ k → Taken old mid (λ q. is_among q (numbered make 0 (take k xs)))
    → Taken mid new (λ q. is_among q (make place x)) → Taken old new (λ q. is_among q (numbered make 0 (take (k + 1) xs)))
links_one make old mid new xs k place x lt is at p q =
    taken_same old new (λ key. is_among key (numbered make 0 (take k xs)) || is_among key (make place x)) (λ key. is_among key (numbered make 0 (take (k + 1) xs)))
    (λ key. ap (λ (i : ℕ). is_among key (numbered make 0 (take k xs)) || is_among key (make i x)) at ∙ sym (list_any-append (λ (row : Row). is_key key (key_bytes row.key)) (numbered make 0 (take k xs)) (make k x))
    ∙ ap (is_among key) (sym (numbered_more make xs k x lt is)))
    (taken_then old mid new (λ key. is_among key (numbered make 0 (take k xs))) (λ key. is_among key (make place x)) p q)

pub links_all : {X : Type 0} (make : ℕ → X → List Row) (old new : BatchValue) (xs : List X) (k : ℕ) → length xs ≤ k → Taken old new (λ q. is_among q (numbered make 0 (take k xs))) → Taken old new (λ q. is_among q (numbered make 0 xs))
links_all make old new xs k le p = subst (λ ys. Taken old new (λ q. is_among q (numbered make 0 ys))) (take_all k xs le) p

-- the test of one key, as that of a list of one row
pub taken_row : {T E : Type 0} (r : Result T E) (old new : BatchValue) (row : Row) (key : List ℕ) → key ≡ key_bytes row.key → OnOk r (Taken old new (λ q. is_key q key)) → OnOk r (Taken old new (λ q. is_among q (row ∷ [])))
taken_row (Ok x) old new row key same p = taken_same old new (λ q. is_key q key) (λ q. is_among q (row ∷ [])) (λ q. ap (is_key q) same ∙ sym (or_false (is_key q (key_bytes row.key)))) p
taken_row (Err x) old new row key same p = tt

-- two rows, one after the other
pub taken_both : {T E : Type 0} (r : Result T E) (old mid new : BatchValue) (x y : Row) → Taken old mid (λ q. is_among q (x ∷ [])) → OnOk r (Taken mid new (λ q. is_among q (y ∷ []))) → OnOk r (Taken old new (λ q. is_among q (x ∷ y ∷ [])))
taken_both (Ok z) old mid new x y p q =
    taken_same old new (λ key. is_among key (x ∷ []) || is_among key (y ∷ [])) (λ key. is_among key (x ∷ y ∷ []))
    (λ key. ap (λ b. b || is_among key (y ∷ [])) (or_false (is_key key (key_bytes x.key))))
    (taken_then old mid new (λ key. is_among key (x ∷ [])) (λ key. is_among key (y ∷ [])) p q)
taken_both (Err z) old mid new x y p q = tt

pub or_moved : (a b c : Bool) → ((a || b) || c) ≡ (a || (b || c))
or_moved true b c = refl
or_moved false b c = refl

-- what two, or three, deletions take away together
pub taken_two : {T E : Type 0} (r : Result T E) (old mid new : BatchValue) (p q whole : List ℕ → Bool) → ((key : List ℕ) → (p key || q key) ≡ whole key) → Taken old mid p → OnOk r (Taken mid new q) → OnOk r (Taken old new whole)
taken_two (Ok x) old mid new p q whole same one two = taken_same old new (λ key. p key || q key) whole same (taken_then old mid new p q one two)
taken_two (Err x) old mid new p q whole same one two = tt

pub taken_three : {T E : Type 0} (r : Result T E) (old a b new : BatchValue) (p q s whole : List ℕ → Bool) → ((key : List ℕ) → ((p key || q key) || s key) ≡ whole key) → Taken old a p → Taken a b q → OnOk r (Taken b new s) → OnOk r (Taken old new whole)
taken_three r old a b new p q s whole same one two three = taken_two r old b new (λ key. p key || q key) s whole same (taken_then old a b p q one two) three
