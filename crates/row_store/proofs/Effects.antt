-- What batches make one after another is what they make at once.
use Rattle.std.proofs.Common.{◌≡◌, ℕ, zero, suc, Less, Bool, true, false, cond, not, List, [], ◌∷◌, ◌++◌, take, drop, Option, Some, None, refl, sym, ap, subst, ◌∙◌}
use Rattle.std.specs.Prelude.{IsTrue, ◌||◌}
use lib.Dec.{T}
use Rattle.std.specs.List.{filter, list_any, AllByRecursion}
use Rattle.std.specs.Option.{option_or}
use Rattle.std.specs.Ordering.{is_eq, eq_by_cmp}
use Rattle.std.specs.Cmp.Lexicographic.{nat_list_cmp_total}
use Rattle.std.specs.FinMap as finite_map
use Rattle.std.specs.FinMap.{same_map, get-from_sorted, get-empty}
use Rattle.std.specs.FinMap.Entries.{put, find, below_all, is_sorted, find-put, find-where_key}
use Rattle.std.proofs.lemmas.List.Sorted.{list_any-IsPermutation}
use Rattle.row_batch.specs.declared.operation.Operation.{Operation}
use Rattle.row_batch.specs.declared.operation.Operation.TheVariants.{Delete, DeletePrefix, Put}
use Rattle.row_batch.specs.Order.{key_cmp, IsArranged}
use Rattle.row_batch.specs.Batches.{BatchValue}
use Rattle.row_batch.specs.Rows.{Rows, is_key, applied, no_rows}
use Rattle.row_batch.specs.Meaning.{last_put, deletes, is_deleted, made_of}
use Rattle.row_batch.proofs.Meanings.{key_alone, is_key_same, made_applied, deleted_more}
use Rattle.row_journal.specs.Contents.{IsSized}
use Rattle.row_journal.specs.Opening.{operations_of}
use Rattle.row_store.specs.Entries.{Entries, rows_of, in_key_order}
use Rattle.row_store.specs.Merging.{puts_of, put_all, is_deletion_of, is_prefix_of, is_named, kept}
use Rattle.row_store.specs.Effects.{is_deletion, made_by, IsEffect}
use Rattle.row_store.specs.Value.{rows_after}
use Rattle.row_store.proofs.Laws.{as_T}
use Rattle.row_store.proofs.Kept.{front_of, rest_of, is_Less}

abbrev none : Option (List ℕ)
none = None

-- ## Values under a key

-- no entry behind a key is of it
none_behind : (x key : List ℕ) (es : Entries) → is_key key x ≡ true → T (below_all key_cmp x es) → find key_cmp key es ≡ None
none_behind x key [] same h = refl
none_behind x key (e ∷ es) same h =
    let less : key_cmp x e.0 ≡ Less = is_Less (key_cmp x e.0) (front_of _ _ h) in
    let on : key_cmp key e.0 ≡ Less = subst (λ (k : List ℕ). key_cmp k e.0 ≡ Less) (sym (is_key_same key x same)) less in
    let other : eq_by_cmp key_cmp key e.0 ≡ false = ap is_eq on in
    rw other (none_behind x key es same (rest_of _ _ h))

found_put : (key : List ℕ) (p : List ℕ × List ℕ) (es : Entries) → find key_cmp key (put key_cmp p.0 p.1 es) ≡ cond (is_key key p.0) (Some p.1) (find key_cmp key es)
found_put key p es = find-put key_cmp nat_list_cmp_total key p.0 p.1 es

one_of_two : (b : Bool) (value : List ℕ) (later old : Option (List ℕ)) → (b ≡ true → later ≡ None) → option_or later (cond b (Some value) old) ≡ option_or (cond b (Some value) later) old
one_of_two true value later old h = ap (λ (o : Option (List ℕ)). option_or o (Some value)) (h refl)
one_of_two false value later old h = refl

-- rows in key order that are put count where they have the key
found_all : (ps es : Entries) (key : List ℕ) → T (is_sorted key_cmp ps) → find key_cmp key (put_all ps es) ≡ option_or (find key_cmp key ps) (find key_cmp key es)
found_all [] es key h = refl
found_all (p ∷ ps) es key h =
    found_all ps (put key_cmp p.0 p.1 es) key (rest_of _ _ h) ∙ ap (option_or (find key_cmp key ps)) (found_put key p es)
    ∙ one_of_two (is_key key p.0) p.1 (find key_cmp key ps) (find key_cmp key es) (λ same. none_behind p.0 key ps same (front_of _ _ h))

put_later : (b : Bool) (value : List ℕ) (later old : Option (List ℕ)) → option_or later (cond b (Some value) old) ≡ option_or (option_or later (cond b (Some value) none)) old
put_later true value None old = refl
put_later true value (Some new) old = refl
put_later false value None old = refl
put_later false value (Some new) old = refl

no_later : (later old : Option (List ℕ)) → option_or later old ≡ option_or (option_or later none) old
no_later None old = refl
no_later (Some new) old = refl

-- the puts of a batch
found_puts : (xs : List Operation) (es : Entries) (key : List ℕ) → find key_cmp key (put_all (puts_of xs) es) ≡ option_or (last_put xs key) (find key_cmp key es)
found_puts [] es key = refl
found_puts (Delete own ∷ xs) es key = found_puts xs es key ∙ no_later (last_put xs key) (find key_cmp key es)
found_puts (DeletePrefix prefix ∷ xs) es key = found_puts xs es key ∙ no_later (last_put xs key) (find key_cmp key es)
found_puts (Put own value ∷ xs) es key =
    found_puts xs (put key_cmp own value es) key ∙ ap (option_or (last_put xs key)) (found_put key (own, value) es) ∙ put_later (is_key key own) value (last_put xs key) (find key_cmp key es)

-- ## Deletions

named_is : (xs : List Operation) (key : List ℕ) → is_named xs xs key ≡ is_deleted xs key
named_is [] key = refl
named_is (Delete own ∷ xs) key = one (is_key key own) (list_any (is_deletion_of key) xs) (list_any (is_prefix_of key) xs) (is_deleted xs key) (named_is xs key)
  where
    one : (a b c d : Bool) → (b || c) ≡ d → ((a || b) || c) ≡ (a || d)
    one true b c d h = refl
    one false b c d h = h
named_is (DeletePrefix prefix ∷ xs) key = one (Rattle.row_batch.specs.Rows.is_under prefix key) (list_any (is_deletion_of key) xs) (list_any (is_prefix_of key) xs) (is_deleted xs key) (named_is xs key)
  where
    one : (a b c d : Bool) → (b || c) ≡ d → (b || (a || c)) ≡ (a || d)
    one true true c d h = refl
    one true false c d h = refl
    one false b c d h = h
named_is (Put own value ∷ xs) key = named_is xs key

found_kept : (xs : List Operation) (es : Entries) (key : List ℕ) → find key_cmp key (kept xs xs es) ≡ cond (not (is_deleted xs key)) (find key_cmp key es) None
found_kept xs es key =
    find-where_key key_cmp (λ k. not (is_named xs xs k)) key (λ x e. ap (λ k. not (is_named xs xs k)) (sym (key_alone key x e))) es
    ∙ ap (λ (b : Bool). cond (not b) (find key_cmp key es) none) (named_is xs key)

only_deletions : (xs : List Operation) (key : List ℕ) → is_deleted (filter is_deletion xs) key ≡ is_deleted xs key
only_deletions [] key = refl
only_deletions (Delete own ∷ xs) key = ap (λ (b : Bool). is_key key own || b) (only_deletions xs key)
only_deletions (DeletePrefix prefix ∷ xs) key = ap (λ (b : Bool). Rattle.row_batch.specs.Rows.is_under prefix key || b) (only_deletions xs key)
only_deletions (Put own value ∷ xs) key = only_deletions xs key

deleted_arranged : (came xs : List Operation) (key : List ℕ) → IsArranged came xs → is_deleted xs key ≡ is_deleted came key
deleted_arranged came xs key h = sym (list_any-IsPermutation (deletes key) came xs h.same)

-- ## Effects

made_by_more : (xs ys : List (List Operation)) (key : List ℕ) (old : Option (List ℕ)) → made_by (xs ++ ys) key old ≡ made_by ys key (made_by xs key old)
made_by_more [] ys key old = refl
made_by_more (x ∷ xs) ys key old = made_by_more xs ys key (made_of x key old)

pub nothing_done : (gone : List Operation) (rows : Entries) → gone ≡ [] → rows ≡ [] → IsEffect gone rows []
nothing_done gone rows a b = rw (a, b) (record { gone_order = refl; order = refl; makes = λ key old. refl })

pub one_done : (xs gone : List Operation) (rows : Entries) → IsArranged (filter is_deletion xs) gone → rows ≡ put_all (puts_of xs) [] → IsTrue (in_key_order rows) → IsEffect gone rows (xs ∷ [])
one_done xs gone rows arranged is order = record {
  gone_order = arranged.order;
  order = order;
  makes = λ key old.
      let puts : find key_cmp key rows ≡ last_put xs key = ap (find key_cmp key) is ∙ found_puts xs [] key ∙ alone (last_put xs key) in
      let deleted : is_deleted gone key ≡ is_deleted xs key = deleted_arranged (filter is_deletion xs) gone key arranged ∙ only_deletions xs key in
      rw (puts, deleted) refl;
}
  where
    alone : (o : Option (List ℕ)) → option_or o none ≡ o
    alone None = refl
    alone (Some value) = refl

pub both_done : (front back : List (List Operation)) (gone more all : List Operation) (rows others new : Entries) → IsEffect gone rows front → IsEffect more others back
    → new ≡ put_all others (kept more more rows) → IsTrue (in_key_order new) → IsArranged (gone ++ more) all → IsEffect all new (front ++ back)
both_done front back gone more all rows others new first second is order arranged = record {
  gone_order = arranged.order;
  order = order;
  makes = λ key old.
      let found : find key_cmp key new ≡ option_or (find key_cmp key others) (cond (not (is_deleted more key)) (find key_cmp key rows) None) =
      ap (find key_cmp key) is ∙ found_all others (kept more more rows) key (as_T (in_key_order others) second.order) ∙ ap (option_or (find key_cmp key others)) (found_kept more rows key) in
      let deleted : is_deleted all key ≡ (is_deleted gone key || is_deleted more key) = deleted_arranged (gone ++ more) all key arranged ∙ deleted_more gone more key in
      ap (λ (o : Option (List ℕ)). option_or o (cond (is_deleted all key) None old)) found
      ∙ ap (λ (b : Bool). option_or (option_or (find key_cmp key others) (cond (not (is_deleted more key)) (find key_cmp key rows) None)) (cond b None old)) deleted
      ∙ join (find key_cmp key others) (find key_cmp key rows) old (is_deleted gone key) (is_deleted more key)
      ∙ ap (λ (o : Option (List ℕ)). option_or (find key_cmp key others) (cond (is_deleted more key) None o)) (first.makes key old)
      ∙ second.makes key (made_by front key old) ∙ sym (made_by_more front back key old);
}
  where
    join : (b a old : Option (List ℕ)) (d e : Bool) → option_or (option_or b (cond (not e) a none)) (cond (d || e) none old) ≡ option_or b (cond e none (option_or a (cond d none old)))
    join (Some value) a old d e = refl
    join None a old true true = refl
    join None a old false true = refl
    join None (Some value) old d false = refl
    join None None old true false = refl
    join None None old false false = refl

pub operations_split : (batches : List BatchValue) (n : ℕ) → operations_of (take n batches) ++ operations_of (drop n batches) ≡ operations_of batches
operations_split batches zero = refl
operations_split [] (suc n) = refl
operations_split (b ∷ batches) (suc n) = ap (λ (xs : List (List Operation)). b.operations ∷ xs) (operations_split batches n)

pub sized_front : (batches : List BatchValue) (n : ℕ) → AllByRecursion IsSized (operations_of batches) → AllByRecursion IsSized (operations_of (take n batches))
sized_front batches zero h = tt
sized_front [] (suc n) h = tt
sized_front (b ∷ batches) (suc n) h = (h.0, sized_front batches n h.1)

pub sized_back : (batches : List BatchValue) (n : ℕ) → AllByRecursion IsSized (operations_of batches) → AllByRecursion IsSized (operations_of (drop n batches))
sized_back batches zero h = h
sized_back [] (suc n) h = tt
sized_back (b ∷ batches) (suc n) h = sized_back batches n h.1

-- ## The rows of batches

got_after : (batches : List (List Operation)) (rows : Rows) (key : List ℕ) → AllByRecursion IsSized batches → finite_map.get (rows_after batches rows) key ≡ made_by batches key (finite_map.get rows key)
got_after [] rows key h = refl
got_after (batch ∷ batches) rows key h = got_after batches (applied batch rows) key h.1 ∙ ap (made_by batches key) (made_applied batch rows key h.0.is_batch.order)

pub rows_of_effect : (batches : List (List Operation)) (gone : List Operation) (rows : Entries) → AllByRecursion IsSized batches → IsEffect gone rows batches → rows_of rows ≡ rows_after batches no_rows
rows_of_effect batches gone rows sized effect = same_map nat_list_cmp_total key_alone _ _ (λ key.
    get-from_sorted key_cmp rows key (as_T (in_key_order rows) effect.order)
    ∙ sym (only_put (find key_cmp key rows) (is_deleted gone key)) ∙ effect.makes key None
    ∙ sym (got_after batches no_rows key sized ∙ ap (made_by batches key) (get-empty key_cmp key)))
  where
    only_put : (o : Option (List ℕ)) (b : Bool) → option_or o (cond b none none) ≡ o
    only_put None true = refl
    only_put None false = refl
    only_put (Some value) b = refl

pub split_whole : (batches front back : List BatchValue) (n : ℕ) → front ≡ take n batches → back ≡ drop n batches → operations_of front ++ operations_of back ≡ operations_of batches
split_whole batches front back n a b =
    ap (λ (l : List BatchValue). operations_of l ++ operations_of back) a ∙ ap (λ (l : List BatchValue). operations_of (take n batches) ++ operations_of l) b ∙ operations_split batches n

pub rows_made : (batches : List (List Operation)) (gone : List Operation) (rows new : Entries) → AllByRecursion IsSized batches → IsEffect gone rows batches → new ≡ rows → IsTrue (in_key_order new) × (rows_of new ≡ rows_after batches no_rows)
rows_made batches gone rows new sized effect is = (subst (λ (es : Entries). IsTrue (in_key_order es)) (sym is) effect.order, ap rows_of is ∙ rows_of_effect batches gone rows sized effect)
