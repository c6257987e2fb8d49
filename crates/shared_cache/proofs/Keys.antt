-- Keys that tie are one, and lists of keys.
use Rattle.std.proofs.Common.{◌≡◌, ℕ, zero, suc, ◌≤◌, Bool, true, false, cond, List, [], ◌∷◌, length, take, drop, ◌||◌, ◌&&◌, refl, sym, ◌∙◌, ap, subst, arith}
use Rattle.std.specs.Prelude.{not, Some, None}
use Rattle.std.specs.List.{IsDistinct, AllByRecursion}
use Rattle.std.specs.Map.{keys_of, lookup_entry, remove_entry}
use Rattle.std.specs.declared.cmp.Ordering.{Ordering}
use Rattle.std.specs.declared.cmp.Ordering.TheVariants.{Less, Equal, Greater}
use Rattle.std.specs.Ordering.{ordering_then, ordering_reverse, is_eq}
use Rattle.std.specs.FinMap as finite_map
use Rattle.std.proofs.lemmas.Bool.{true≢false}
use Rattle.std.proofs.lemmas.Map.Views.{any-filter_same}
use Rattle.dd_names.specs.Names.{name_cmp}
use Rattle.dd_names.specs.declared.object_name.ObjectKey.{ObjectKey}
use Rattle.dd_names.specs.declared.object_name.ObjectKey.TheVariants.{Schemas, Schema, Objects, Object, Children, Constraint}
use Rattle.dd_names.specs.contracts.object_name.ObjectKeyOrd.TheImpl.Laws.{matches_eq-law, total-law}
use Rattle.dd_catalog.proofs.ObjectNames.{name_alone, object_alone}
use Rattle.shared_cache.specs.State.{key_cmp, same_key, among, without}
use Rattle.shared_cache.specs.Fields.{key_eq}

then_parts : (r s : Ordering) → ordering_then r s ≡ Equal → (r ≡ Equal) × (s ≡ Equal)
then_parts Less s e = absurd cc
then_parts Equal s e = (refl, e)
then_parts Greater s e = absurd cc

pub key_alone : finite_map.IsAntisymmetric key_cmp
key_alone Schemas Schemas e = refl
key_alone (Schema a) (Schema b) e = ap Schema (name_alone a b e)
key_alone (Objects a) (Objects b) e = ap Objects (name_alone a b e)
key_alone (Object a) (Object b) e = ap Object (object_alone a b e)
key_alone (Children a) (Children b) e = ap Children (object_alone a b e)
key_alone (Constraint a f) (Constraint b g) e =
    let parts : (name_cmp a b ≡ Equal) × (name_cmp f g ≡ Equal) = then_parts (name_cmp a b) (name_cmp f g) e in
    let schema : a ≡ b = name_alone a b parts.0 in
    let folded : f ≡ g = name_alone f g parts.1 in
    λ i. Constraint (schema i) (folded i)
key_alone a b e = absurd cc

equal : (r : Ordering) → is_eq r ≡ true → r ≡ Equal
equal Less e = absurd (true≢false (sym e))
equal Equal e = refl
equal Greater e = absurd (true≢false (sym e))

pub one : (a b : ObjectKey) → same_key a b ≡ true → a ≡ b
one a b e = key_alone a b (equal (key_cmp a b) e)

own_turn : (r : Ordering) → r ≡ ordering_reverse r → is_eq r ≡ true
own_turn Less e = absurd cc
own_turn Equal e = refl
own_turn Greater e = absurd cc

pub itself : (a : ObjectKey) → same_key a a ≡ true
itself a = own_turn (key_cmp a a) (total-law.antisymm a a)

pub tied : (a b : ObjectKey) → key_eq a b ≡ same_key a b
tied a b = matches_eq-law a b

pub turned : (a b : ObjectKey) → same_key a b ≡ same_key b a
turned a b = on (same_key a b) (same_key b a) refl refl
  where
    on : (x y : Bool) → same_key a b ≡ x → same_key b a ≡ y → same_key a b ≡ same_key b a
    on true y xs ys = xs ∙ sym (ap (same_key b) (one a b xs) ∙ itself b)
    on false true xs ys = absurd (true≢false (sym (ap (same_key a) (one b a ys) ∙ itself a) ∙ xs))
    on false false xs ys = xs ∙ sym ys

-- ## Lists

-- what is left without a key
pub among-without : (key : ObjectKey) (keys : List ObjectKey) (other : ObjectKey) → among (without key keys) other ≡ cond (same_key key other) false (among keys other)
among-without key keys other =
    any-filter_same (λ k. same_key k other) (λ k. not (same_key key k)) (not (same_key key other)) (λ k is. ap (λ k. not (same_key key k)) (one k other is)) keys
    ∙ on (same_key key other)
  where
    on : (b : Bool) → (not b && among keys other) ≡ cond b false (among keys other)
    on true = refl
    on false = refl

pub fewer : (key : ObjectKey) (keys : List ObjectKey) → length (without key keys) ≤ length keys
fewer key [] = arith_zero
  where
    arith_zero : 0 ≤ 0
    arith_zero = omega arith
fewer key (k ∷ keys) = on (not (same_key key k)) (fewer key keys)
  where
    on : (b : Bool) → length (without key keys) ≤ length keys → length (cond b (k ∷ without key keys) (without key keys)) ≤ suc (length keys)
    on true le = omega (arith, le)
    on false le = omega (arith, le)

pub unchanged : (key : ObjectKey) (keys : List ObjectKey) → AllByRecursion (λ k. key_eq key k ≡ false) keys → without key keys ≡ keys
unchanged key [] apart = refl
unchanged key (k ∷ keys) apart =
    ap (λ b. cond (not b) (k ∷ without key keys) (without key keys)) (sym (tied key k) ∙ apart.0) ∙ ap (λ keys. k ∷ keys) (unchanged key keys apart.1)

-- what an entry's removal leaves where no key comes twice
pub removed : (key : ObjectKey) (entries : List (ObjectKey × Unit {0})) → IsDistinct key_eq (keys_of entries) → keys_of (remove_entry (key_eq key) entries) ≡ without key (keys_of entries)
unfolding IsDistinct
removed key [] apart = refl
removed key (e ∷ entries) apart = on (removed key entries apart.1) (key_eq key e.0) refl
  where
    shown : (b : Bool) → key_eq key e.0 ≡ b → without key (keys_of (e ∷ entries)) ≡ cond (not b) (e.0 ∷ without key (keys_of entries)) (without key (keys_of entries))
    shown b is = ap (λ b. cond (not b) (e.0 ∷ without key (keys_of entries)) (without key (keys_of entries))) (sym (tied key e.0) ∙ is)

    left : (b : Bool) → key_eq key e.0 ≡ b → keys_of (remove_entry (key_eq key) (e ∷ entries)) ≡ keys_of (cond b entries (e ∷ remove_entry (key_eq key) entries))
    left b is = ap (λ b. keys_of (cond b entries (e ∷ remove_entry (key_eq key) entries))) is

    on : keys_of (remove_entry (key_eq key) entries) ≡ without key (keys_of entries) → (b : Bool) → key_eq key e.0 ≡ b → keys_of (remove_entry (key_eq key) (e ∷ entries)) ≡ without key (keys_of (e ∷ entries))
    on later true is = left true is
        ∙ sym (unchanged key (keys_of entries) (subst (λ k. AllByRecursion (λ other. key_eq k other ≡ false) (keys_of entries)) (sym (one key e.0 (sym (tied key e.0) ∙ is))) apart.0))
        ∙ sym (shown true is)
    on later false is = left false is ∙ ap (λ keys. e.0 ∷ keys) later ∙ sym (shown false is)

neither : (a b : Bool) → (a || b) ≡ false → (a ≡ false) × (b ≡ false)
neither true b e = absurd (true≢false e)
neither false b e = (refl, e)

-- a key that isn't among them has no entry
pub no_entry : (key : ObjectKey) (entries : List (ObjectKey × Unit {0})) → among (keys_of entries) key ≡ false → lookup_entry (key_eq key) entries ≡ None
no_entry key [] absent = refl
no_entry key (e ∷ entries) absent =
    let parts : (same_key e.0 key ≡ false) × (among (keys_of entries) key ≡ false) = neither (same_key e.0 key) (among (keys_of entries) key) absent in
    ap (λ b. cond b (Some e) (lookup_entry (key_eq key) entries)) (tied key e.0 ∙ turned key e.0 ∙ parts.0) ∙ no_entry key entries parts.1

-- a key that isn't among others is apart from each
pub apart_from : (key : ObjectKey) (keys : List ObjectKey) → among keys key ≡ false → AllByRecursion (λ other. key_eq key other ≡ false) keys
apart_from key [] absent = tt
apart_from key (k ∷ keys) absent =
    let parts : (same_key k key ≡ false) × (among keys key ≡ false) = neither (same_key k key) (among keys key) absent in
    (tied key k ∙ turned key k ∙ parts.0, apart_from key keys parts.1)

dropped : (P : ObjectKey → Type 0) (n : ℕ) (keys : List ObjectKey) → AllByRecursion P keys → AllByRecursion P (drop n keys)
dropped P zero keys all = all
dropped P (suc n) [] all = tt
dropped P (suc n) (k ∷ keys) all = dropped P n keys all.1

not_first : (k other : ObjectKey) (keys : List ObjectKey) → AllByRecursion (λ later. key_eq k later ≡ false) keys → among keys other ≡ true → same_key k other ≡ false
not_first k other [] apart is = absurd (true≢false (sym is))
not_first k other (l ∷ keys) apart is = on (not_first k other keys apart.1) (same_key l other) refl
  where
    on : (among keys other ≡ true → same_key k other ≡ false) → (b : Bool) → same_key l other ≡ b → same_key k other ≡ false
    on later true same = ap (same_key k) (sym (one l other same)) ∙ sym (tied k l) ∙ apart.0
    on later false same = later (sym (ap (λ b. b || among keys other) same) ∙ is)

-- of keys that are apart the first n are those that aren't among the others
pub among-take : (n : ℕ) (keys : List ObjectKey) → IsDistinct key_eq keys → (other : ObjectKey) → among (take n keys) other ≡ cond (among (drop n keys) other) false (among keys other)
unfolding IsDistinct
among-take zero keys apart other = on (among keys other)
  where
    on : (b : Bool) → false ≡ cond b false b
    on true = refl
    on false = refl
among-take (suc n) [] apart other = refl
among-take (suc n) (k ∷ keys) apart other = on (among-take n keys apart.1 other) (among (drop n keys) other) refl
  where
    on : among (take n keys) other ≡ cond (among (drop n keys) other) false (among keys other) → (b : Bool) → among (drop n keys) other ≡ b → (same_key k other || among (take n keys) other) ≡ cond (among (drop n keys) other) false (same_key k other || among keys other)
    on later true is =
        ap (λ b. b || among (take n keys) other) (not_first k other (drop n keys) (dropped (λ later. key_eq k later ≡ false) n keys apart.0) is)
        ∙ later ∙ ap (λ b. cond b false (among keys other)) is
        ∙ sym (ap (λ b. cond b false (same_key k other || among keys other)) is)
    on later false is =
        ap (λ b. same_key k other || b) (later ∙ ap (λ b. cond b false (among keys other)) is)
        ∙ sym (ap (λ b. cond b false (same_key k other || among keys other)) is)
