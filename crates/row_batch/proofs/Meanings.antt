-- What operations make of each key, in order and as they came.
use Rattle.std.proofs.Common.{◌≡◌, ℕ, Ordering, Less, Equal, Greater, Bool, true, false, cond, not, ◌&&◌, List, [], ◌∷◌, ◌++◌, Option, Some, None, refl, sym, ap, ◌∙◌}
use Rattle.std.specs.Prelude.{◌||◌}
use Rattle.std.specs.List.{filter}
use Rattle.std.specs.List.Sorted.{ties}
use Rattle.std.specs.Option.{option_or}
use Rattle.std.specs.Ordering.{is_lt, is_eq, ordering_reverse}
use Rattle.std.specs.FinMap as finite_map
use Rattle.std.specs.Cmp.Lexicographic.{nat_list_cmp_total}
use Rattle.std.proofs.lemmas.Cmp.{tied_itself}
use Rattle.std.proofs.lemmas.List.Sorted.{list_any-IsPermutation}
use Rattle.row_batch.specs.declared.operation.Operation.{Operation}
use Rattle.row_batch.specs.declared.operation.Operation.TheVariants.{Delete, DeletePrefix, Put}
use Rattle.row_batch.specs.Order.{key_cmp, comes_before, may_precede, in_order, IsArranged}
use Rattle.row_batch.specs.Rows.{Rows, is_key, is_under, after, applied}
use Rattle.row_batch.specs.Meaning.{put_of, last_put, deletes, is_deleted, made_of, Means}
use Rattle.row_batch.proofs.Ordered.{second}

-- keys that tie are one
pub key_alone : finite_map.IsAntisymmetric key_cmp
key_alone = finite_map.slice_cmp-IsAntisymmetric finite_map.nat_cmp-IsAntisymmetric

equal : (o : Ordering) → is_eq o ≡ true → o ≡ Equal
equal Less e = absurd cc
equal Equal e = refl
equal Greater e = absurd cc

pub is_key_same : (a b : List ℕ) → is_key a b ≡ true → a ≡ b
is_key_same a b e = key_alone a b (equal (key_cmp a b) e)

pub is_key_itself : (a : List ℕ) → is_key a a ≡ true
is_key_itself a = ap is_eq (tied_itself nat_list_cmp_total a)

-- ## In order

turned : {A : Type 0} (b : Bool) (x y : A) → cond (not b) x y ≡ cond b y x
turned true x y = refl
turned false x y = refl

abbrev none : Option (List ℕ)
none = None

-- the value under a key behind one operation
abbrev behind_one : Operation → List ℕ → Option (List ℕ) → Option (List ℕ)
behind_one (Delete own) key old = cond (is_key key own) None old
behind_one (DeletePrefix prefix) key old = cond (is_under prefix key) None old
behind_one (Put own value) key old = cond (is_key key own) (Some value) old

got_after : (x : Operation) (rows : Rows) (key : List ℕ) → finite_map.get (after x rows) key ≡ behind_one x key (finite_map.get rows key)
got_after (Delete own) rows key = finite_map.get-remove nat_list_cmp_total rows own key
got_after (DeletePrefix prefix) rows key =
    finite_map.get-retain_keys rows (λ k. not (is_under prefix k)) key (λ x tied. ap (λ k. not (is_under prefix k)) (sym (key_alone key x tied)))
    ∙ turned (is_under prefix key) (finite_map.get rows key) None
got_after (Put own value) rows key = finite_map.get-insert nat_list_cmp_total rows own value key

-- behind a put no deletion stands
pub puts_last : (own value : List ℕ) (xs : List Operation) (key : List ℕ) → in_order (Put own value ∷ xs) ≡ true → is_deleted xs key ≡ false
puts_last own value [] key e = refl
puts_last own value (Delete other ∷ xs) key e = absurd cc
puts_last own value (DeletePrefix other ∷ xs) key e = absurd cc
puts_last own value (Put other new ∷ xs) key e = puts_last other new xs key (second (may_precede (Put own value) (Put other new ∷ xs)) (in_order (Put other new ∷ xs)) e)

gone_both : (a b : Bool) (put old : Option (List ℕ)) → option_or put (cond b none (cond a none old)) ≡ option_or put (cond (a || b) none old)
gone_both true true put old = refl
gone_both true false put old = refl
gone_both false b put old = refl

nothing_put : (put old : Option (List ℕ)) → option_or put old ≡ option_or (option_or put none) old
nothing_put None old = refl
nothing_put (Some value) old = refl

put_first : (b : Bool) (value : List ℕ) (put old : Option (List ℕ)) → option_or put (cond b (Some value) old) ≡ option_or (option_or put (cond b (Some value) none)) old
put_first true value None old = refl
put_first true value (Some new) old = refl
put_first false value None old = refl
put_first false value (Some new) old = refl

one_more : (x : Operation) (xs : List Operation) (key : List ℕ) (old : Option (List ℕ)) → in_order (x ∷ xs) ≡ true → made_of xs key (behind_one x key old) ≡ made_of (x ∷ xs) key old
one_more (Delete own) xs key old order =
    gone_both (is_key key own) (is_deleted xs key) (last_put xs key) old ∙ nothing_put (last_put xs key) (cond (is_key key own || is_deleted xs key) none old)
one_more (DeletePrefix prefix) xs key old order =
    gone_both (is_under prefix key) (is_deleted xs key) (last_put xs key) old ∙ nothing_put (last_put xs key) (cond (is_under prefix key || is_deleted xs key) none old)
one_more (Put own value) xs key old order =
    let no_more : is_deleted xs key ≡ false = puts_last own value xs key order in
    rw no_more (put_first (is_key key own) value (last_put xs key) old)

-- operations in order make of each key what they mean
pub made_applied : (xs : List Operation) (rows : Rows) (key : List ℕ) → in_order xs ≡ true → finite_map.get (applied xs rows) key ≡ made_of xs key (finite_map.get rows key)
made_applied [] rows key order = refl
made_applied (x ∷ xs) rows key order =
    made_applied xs (after x rows) key (second (may_precede x xs) (in_order xs) order)
    ∙ ap (made_of xs key) (got_after x rows key) ∙ one_more x xs key (finite_map.get rows key) order

-- ## As they came

-- the puts of a key tie with each other, and no other operation puts it
tied : Operation → List ℕ → Bool
tied x key = ties comes_before (Put key []) x

abbrev Counts : List ℕ → Operation → Type 0
Counts key x = ties comes_before (Put key []) x ≡ false → put_of key x ≡ None

turned_round : (a b : Ordering) → a ≡ ordering_reverse b → is_eq b ≡ true → (not (is_lt b) && not (is_lt a)) ≡ true
turned_round a Less e h = absurd cc
turned_round a Equal e h = rw e refl
turned_round a Greater e h = absurd cc

other_key : (b : Bool) (value : List ℕ) → (b ≡ true → ⊥) → cond b (Some value) none ≡ None
other_key true value h = absurd (h refl)
other_key false value h = refl

counts : (key : List ℕ) (x : Operation) → Counts key x
counts key (Delete own) e = refl
counts key (DeletePrefix own) e = refl
counts key (Put own value) e =
    other_key (is_key key own) value (λ same.
    let ties_so : (not (is_lt (key_cmp key own)) && not (is_lt (key_cmp own key))) ≡ true = turned_round (key_cmp own key) (key_cmp key own) (nat_list_cmp_total.antisymm own key) same in
    cc)

only_tied : (key : List ℕ) (xs : List Operation) → last_put (filter (ties comes_before (Put key [])) xs) key ≡ last_put xs key
only_tied key [] = refl
only_tied key (x ∷ xs) = at (ties comes_before (Put key []) x) refl (only_tied key xs)
  where
    nothing : (put : Option (List ℕ)) → put ≡ option_or put none
    nothing None = refl
    nothing (Some value) = refl

    at : (b : Bool) → ties comes_before (Put key []) x ≡ b → last_put (filter (ties comes_before (Put key [])) xs) key ≡ last_put xs key → last_put (cond b (x ∷ filter (ties comes_before (Put key [])) xs) (filter (ties comes_before (Put key [])) xs)) key ≡ option_or (last_put xs key) (put_of key x)
    at true e rest = ap (λ (put : Option (List ℕ)). option_or put (put_of key x)) rest
    at false e rest = rest ∙ nothing (last_put xs key) ∙ ap (option_or (last_put xs key)) (sym (counts key x e))

-- an arrangement means what the operations mean as they came
pub arranged_means : (came xs : List Operation) → IsArranged came xs → (key : List ℕ) (old : Option (List ℕ)) → made_of xs key old ≡ made_of came key old
arranged_means came xs h key old =
    let puts : last_put xs key ≡ last_put came key = sym (only_tied key xs) ∙ ap (λ (ys : List Operation). last_put ys key) (h.ties (Put key [])) ∙ only_tied key came in
    let gone : is_deleted xs key ≡ is_deleted came key = sym (list_any-IsPermutation (deletes key) came xs h.same) in
    rw (puts, gone) refl

pub arranged_applied : (came xs : List Operation) → IsArranged came xs → (rows : Rows) (key : List ℕ) → finite_map.get (applied xs rows) key ≡ made_of came key (finite_map.get rows key)
arranged_applied came xs h rows key = made_applied xs rows key h.order ∙ arranged_means came xs h key (finite_map.get rows key)

-- ## Operations that come behind others

either_or : (a b c : Option (List ℕ)) → option_or (option_or a b) c ≡ option_or a (option_or b c)
either_or None b c = refl
either_or (Some value) b c = refl

or_none : (a : Option (List ℕ)) → a ≡ option_or a none
or_none None = refl
or_none (Some value) = refl

pub last_put_more : (xs ys : List Operation) (key : List ℕ) → last_put (xs ++ ys) key ≡ option_or (last_put ys key) (last_put xs key)
last_put_more [] ys key = or_none (last_put ys key)
last_put_more (x ∷ xs) ys key = ap (λ (put : Option (List ℕ)). option_or put (put_of key x)) (last_put_more xs ys key) ∙ either_or (last_put ys key) (last_put xs key) (put_of key x)

pub deleted_more : (xs ys : List Operation) (key : List ℕ) → is_deleted (xs ++ ys) key ≡ (is_deleted xs key || is_deleted ys key)
deleted_more [] ys key = refl
deleted_more (x ∷ xs) ys key = one (deletes key x) (is_deleted xs key) (is_deleted ys key) (is_deleted (xs ++ ys) key) (deleted_more xs ys key)
  where
    one : (a b c d : Bool) → d ≡ (b || c) → (a || d) ≡ ((a || b) || c)
    one true b c d h = refl
    one false b c d h = h

pub means_nothing : Means [] (λ _. false) (λ _. None)
means_nothing = record { is = λ key old. refl }

joined : (last put puts : Option (List ℕ)) (deleted deletes gone : Bool) (old : Option (List ℕ))
    → ((old : Option (List ℕ)) → option_or last (cond deleted none old) ≡ option_or puts (cond gone none old))
    → option_or (option_or put last) (cond (deleted || (deletes || false)) none old) ≡ option_or (option_or put puts) (cond (deletes || gone) none old)
joined last (Some value) puts deleted deletes gone old h = refl
joined last None puts true true true old h = h old
joined last None puts true true false old h = h none
joined last None puts false true true old h = h none
joined last None puts false true false old h = h none
joined last None puts true false gone old h = h old
joined last None puts false false gone old h = h old

-- one operation more
pub means_more : (xs : List Operation) (gone : List ℕ → Bool) (puts : List ℕ → Option (List ℕ)) (x : Operation) → Means xs gone puts
    → Means (xs ++ x ∷ []) (λ key. deletes key x || gone key) (λ key. option_or (put_of key x) (puts key))
means_more xs gone puts x means = record {
  is = λ key old.
      ap (λ (put : Option (List ℕ)). option_or put (cond (is_deleted (xs ++ x ∷ []) key) none old)) (last_put_more xs (x ∷ []) key)
      ∙ ap (λ (b : Bool). option_or (option_or (put_of key x) (last_put xs key)) (cond b none old)) (deleted_more xs (x ∷ []) key)
      ∙ joined (last_put xs key) (put_of key x) (puts key) (is_deleted xs key) (deletes key x) (gone key) old (means.is key);
}

-- in order they leave each key with what they mean
pub means_applied : (xs : List Operation) (gone : List ℕ → Bool) (puts : List ℕ → Option (List ℕ)) → in_order xs ≡ true → Means xs gone puts
    → (rows : Rows) (key : List ℕ) → finite_map.get (applied xs rows) key ≡ option_or (puts key) (cond (gone key) none (finite_map.get rows key))
means_applied xs gone puts order means rows key = made_applied xs rows key order ∙ means.is key (finite_map.get rows key)
