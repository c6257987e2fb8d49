-- Foreign keys by their folded names.
use Rattle.std.specs.Prelude.{◌≡◌, ℕ, ◌^◌, ◌<◌, Bool, true, false, ◌||◌, max, List, [], ◌∷◌, map, Option, Some, None, if◌then◌else◌, refl}
use Rattle.std.specs.List.{list_any}
use Rattle.std.specs.Option.{is_some}
use Rattle.std.specs.Map.{values_of, lookup}
use Rattle.std.specs.BTreeMap.{is_at, insert_entry}
use Rattle.std.specs.Str.{bytes_eq}
use Rattle.std.specs.declared.cmp.Ordering.{Ordering}
use Rattle.std.specs.declared.cmp.Ordering.TheVariants.{Less, Equal, Greater}
use Rattle.std.specs.Ordering.{is_eq, is_le, match_ordering, ordering_reverse}
use Rattle.std.proofs.Common.{cond, sym, ◌∙◌, ap, subst, arith}
use Rattle.std.proofs.lemmas.Bool.{true≢false, or_parts}
use Rattle.std.proofs.lemmas.Cmp.{nat_list_cmp_total}
use Rattle.std.proofs.lemmas.Map.Text.{is_eq-slice_cmp}
use Rattle.dd_names.specs.Names.{fold, same, name_cmp}
use Rattle.dd_errors.specs.Errors.{ErrorValue}
use Rattle.dd_definitions.specs.declared.foreign_keys.ForeignKeyDef.{ForeignKeyDef}
use Rattle.dd_catalog.specs.declared.stop.Stop.{Stop}
use Rattle.dd_catalog.specs.declared.stop.Stop.TheVariants as stops
use Rattle.dd_catalog.specs.Follow.{Stops}
use Rattle.dd_catalog.specs.Walks.{Found, done, ◌>>=◌, fine, run, refuse_if}
use Rattle.dd_catalog.specs.WalkLaws.{Look}
use Rattle.rules_refusals.specs.Refusals.{fk_dup_name}
use Rattle.rules_elements.specs.ForeignKeys.{has_constraint_named}
use Rattle.rules_create.specs.Tables.{behind, constraint_front, number_of, greatest_number, put_in_order}
use Rattle.rules_create.specs.Drafts.{keys_in, by_folded_name, AreOrdered, added_key}
use Rattle.rules_create.specs.declared.ordered_keys.OrderedKeys.{OrderedKeys}
use Rattle.rules_create.proofs.Names.{bytes_turned}

abbrev came : {A : Type 0} → A → Found ErrorValue A
came x = fine x

abbrev pairs : List ForeignKeyDef → List (List ℕ × ForeignKeyDef)
pairs keys = map by_folded_name keys

values_are : (keys : List ForeignKeyDef) → values_of (pairs keys) ≡ keys
values_are [] = refl
values_are (key ∷ keys) = ap (λ ks. key ∷ ks) (values_are keys)

-- ## Whether a name is there

pub name_is_there : (keys : List ForeignKeyDef) (name : List ℕ) → is_some (lookup (is_at (name_cmp (fold name))) (pairs keys)) ≡ has_constraint_named keys name
name_is_there [] name = refl
name_is_there (key ∷ keys) name = at (is_eq (name_cmp (fold name) (fold key.name))) refl (name_is_there keys name)
  where
    test : is_eq (name_cmp (fold name) (fold key.name)) ≡ same key.name name
    test = is_eq-slice_cmp (fold name) (fold key.name) ∙ bytes_turned (fold name) (fold key.name)

    at : (b : Bool) → is_eq (name_cmp (fold name) (fold key.name)) ≡ b → is_some (lookup (is_at (name_cmp (fold name))) (pairs keys)) ≡ has_constraint_named keys name
        → is_some (cond b (Some key) (lookup (is_at (name_cmp (fold name))) (pairs keys))) ≡ (same key.name name || has_constraint_named keys name)
    at true is rest = ap (λ b. b || has_constraint_named keys name) (sym is ∙ test)
    at false is rest = rest ∙ ap (λ b. b || has_constraint_named keys name) (sym is ∙ test)

pub has_name : (keys : OrderedKeys) (table name folded : List ℕ) (has : Bool) → folded ≡ fold name → has ≡ is_some (lookup (is_at (name_cmp folded)) keys.by_name.entries) → AreOrdered keys table → has ≡ has_constraint_named (keys_in keys) name
has_name keys table name folded has is said ordered =
    said
    ∙ ap (λ f. is_some (lookup (is_at (name_cmp f)) keys.by_name.entries)) is
    ∙ ap (λ es. is_some (lookup (is_at (name_cmp (fold name))) es)) ordered.by_name
    ∙ name_is_there (keys_in keys) name

pub added_stop : (look : Look) (keys : List ForeignKeyDef) (key : ForeignKeyDef) (stop : Stop) → has_constraint_named keys key.name ≡ true → stop ≡ stops.Refused (fk_dup_name key.name) → Stops stop (run look (added_key keys key))
added_stop look keys key stop there is =
    subst (λ s. Stops s (run look (added_key keys key))) (sym is) (ap (λ b. run look (refuse_if b (fk_dup_name key.name) >>= λ _. done (put_in_order key keys))) there)

pub added_fine : (look : Look) (keys more : List ForeignKeyDef) (key : ForeignKeyDef) → has_constraint_named keys key.name ≡ false → more ≡ put_in_order key keys → run look (added_key keys key) ≡ fine more
added_fine look keys more key none is =
    ap (λ b. run look (refuse_if b (fk_dup_name key.name) >>= λ _. done (put_in_order key keys))) none ∙ ap (λ ks. came ks) (sym is)

-- ## In its place

is_behind : (r : Ordering) → r ≡ Less → is_le (ordering_reverse r) ≡ false
is_behind Less is = refl
is_behind Equal is = cc
is_behind Greater is = cc

is_in_front : (r : Ordering) → r ≡ Greater → is_le (ordering_reverse r) ≡ true
is_in_front Less is = cc
is_in_front Equal is = cc
is_in_front Greater is = refl

pub in_place : (key : ForeignKeyDef) (keys : List ForeignKeyDef) → has_constraint_named keys key.name ≡ false → insert_entry name_cmp (pairs keys) (fold key.name) key ≡ pairs (put_in_order key keys)
in_place key [] none = refl
in_place key (next ∷ keys) none = at (name_cmp (fold key.name) (fold next.name)) refl (in_place key keys (or_parts (same next.name key.name) (has_constraint_named keys key.name) none).1)
  where
    turned : name_cmp (fold next.name) (fold key.name) ≡ ordering_reverse (name_cmp (fold key.name) (fold next.name))
    turned = nat_list_cmp_total.antisymm (fold next.name) (fold key.name)

    apart : is_eq (name_cmp (fold key.name) (fold next.name)) ≡ false
    apart = is_eq-slice_cmp (fold key.name) (fold next.name) ∙ bytes_turned (fold key.name) (fold next.name) ∙ (or_parts (same next.name key.name) (has_constraint_named keys key.name) none).0

    at : (r : Ordering) → name_cmp (fold key.name) (fold next.name) ≡ r → insert_entry name_cmp (pairs keys) (fold key.name) key ≡ pairs (put_in_order key keys)
        → match_ordering r ((fold key.name, key) ∷ pairs (next ∷ keys)) ((fold next.name, key) ∷ pairs keys) (by_folded_name next ∷ insert_entry name_cmp (pairs keys) (fold key.name) key)
        ≡ pairs (if is_le (name_cmp (fold next.name) (fold key.name)) then next ∷ put_in_order key keys else key ∷ next ∷ keys)
    at Less is rest = ap (λ b. pairs (if b then next ∷ put_in_order key keys else key ∷ next ∷ keys)) (sym (ap is_le turned ∙ is_behind (name_cmp (fold key.name) (fold next.name)) is))
    at Equal is rest = absurd (true≢false (sym (ap is_eq is) ∙ apart))
    at Greater is rest =
        ap (λ es. by_folded_name next ∷ es) rest
        ∙ ap (λ b. pairs (if b then next ∷ put_in_order key keys else key ∷ next ∷ keys)) (sym (ap is_le turned ∙ is_in_front (name_cmp (fold key.name) (fold next.name)) is))

-- ## The greatest number

three : (a b c : ℕ) → max a (max b c) ≡ max (max a b) c
three a b c = omega arith

turned_max : (a b : ℕ) → max a b ≡ max b a
turned_max a b = omega arith

greatest_of_all : (front : List ℕ) (key : ForeignKeyDef) (keys : List ForeignKeyDef) → greatest_number front (put_in_order key keys) ≡ max (greatest_number front keys) (number_of (behind front key.name))
greatest_of_all front key [] = turned_max (number_of (behind front key.name)) 0
greatest_of_all front key (next ∷ keys) = at (is_le (name_cmp (fold next.name) (fold key.name))) (greatest_of_all front key keys)
  where
    own : ℕ
    own = number_of (behind front key.name)

    first : ℕ
    first = number_of (behind front next.name)

    at : (b : Bool) → greatest_number front (put_in_order key keys) ≡ max (greatest_number front keys) own
        → greatest_number front (if b then next ∷ put_in_order key keys else key ∷ next ∷ keys) ≡ max (max first (greatest_number front keys)) own
    at true rest = ap (λ n. max first n) rest ∙ three first (greatest_number front keys) own
    at false rest = turned_max own (max first (greatest_number front keys))

below : (a b c : ℕ) → a < c → b < c → max a b < c
below a b c left right = omega arith

-- ## One more

pub one_in_order : (old new : OrderedKeys) (table : List ℕ) (key : ForeignKeyDef) (folded : List ℕ) → folded ≡ fold key.name → has_constraint_named (keys_in old) key.name ≡ false
    → new.by_name.entries ≡ insert_entry name_cmp old.by_name.entries folded key → AreOrdered old table → new.by_name.entries ≡ pairs (put_in_order key (keys_in old))
one_in_order old new table key folded is none puts ordered =
    puts ∙ ap (λ es. insert_entry name_cmp es folded key) ordered.by_name ∙ ap (λ f. insert_entry name_cmp (pairs (keys_in old)) f key) is ∙ in_place key (keys_in old) none

pub keys_with_one : (old new : OrderedKeys) (key : ForeignKeyDef) → new.by_name.entries ≡ pairs (put_in_order key (keys_in old)) → keys_in new ≡ put_in_order key (keys_in old)
keys_with_one old new key is = ap (λ es. values_of es) is ∙ values_are (put_in_order key (keys_in old))

pub ordered_with_one : (old new : OrderedKeys) (table : List ℕ) (key : ForeignKeyDef) (number : ℕ) → new.by_name.entries ≡ pairs (put_in_order key (keys_in old)) → new.front ≡ old.front
    → number ≡ number_of (behind old.front key.name) → number < 10 ^ 38 → new.greatest ≡ max old.greatest number → AreOrdered old table → AreOrdered new table
ordered_with_one old new table key number entries same_front is few greatest ordered =
    let keys = keys_with_one old new key entries in
    record {
      by_name = entries ∙ ap (λ ks. pairs ks) (sym keys);
      front = same_front ∙ ordered.front;
      greatest = greatest
          ∙ ap (λ n. max n number) ordered.greatest
          ∙ ap (λ n. max (greatest_number (constraint_front table) (keys_in old)) n) (is ∙ ap (λ f. number_of (behind f key.name)) ordered.front)
          ∙ sym (greatest_of_all (constraint_front table) key (keys_in old))
          ∙ ap (greatest_number (constraint_front table)) (sym keys);
      small = smaller (below old.greatest number (10 ^ 38) ordered.small few);
    }
  where
    smaller : max old.greatest number < 10 ^ 38 → new.greatest < 10 ^ 38
    smaller lt = omega (arith, greatest)

pub none_ordered : (keys : OrderedKeys) (table : List ℕ) → keys.by_name.entries ≡ [] → keys.front ≡ constraint_front table → keys.greatest ≡ 0 → AreOrdered keys table
none_ordered keys table none front least = record {
  by_name = none ∙ ap (λ es. pairs (values_of es)) (sym none);
  front = front;
  greatest = least ∙ ap (λ es. greatest_number (constraint_front table) (values_of es)) (sym none);
  small = omega arith;
}
