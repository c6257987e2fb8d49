-- One turn of the search for a name that stood before.
use Rattle.std.proofs.Common.{◌≡◌, ℕ, ◌+◌, ◌<◌, ◌≤◌, true, false, cond, List, [], ◌∷◌, ◌++◌, length, get_or, take, drop, sym, ◌∙◌, ap}
use Rattle.std.specs.Prelude.{Option, Some, Bool, ◌&&◌, ◌||◌, not}
use Rattle.std.specs.Str.{bytes_eq}
use Rattle.std.specs.declared.cmp.Ordering.{Ordering}
use Rattle.std.specs.declared.cmp.Ordering.TheVariants.{Less, Equal, Greater}
use Rattle.std.specs.Ordering.{is_eq, ordering_then}
use Rattle.std.specs.BTreeSet.{BTreeSet, contains}
use Rattle.std.proofs.lemmas.Slice.Eq.{bytes_eq-Decides}
use Rattle.std.proofs.lemmas.Bool.{true≢false}
use Rattle.std.proofs.Common.{subst}
use Rattle.std.proofs.Common.{refl}
use Rattle.std.proofs.lemmas.Map.Text.{is_eq-slice_cmp}
use Rattle.std.proofs.lemmas.List.Folds.{list_any-append}
use Rattle.dd_names.specs.Names.{name_cmp}
use Rattle.dd_catalog.specs.Catalog.{is_same_object, object_cmp}
use Rattle.std.proofs.lemmas.List.{drop_more, take_more, take_all}
use Rattle.dd_names.specs.declared.object_name.ObjName.{ObjName}
use Rattle.rules_schema.specs.Drops.{is_among, first_twice}

at_place : (objects : List ObjName) (place : ℕ) (object : ObjName) → place < length objects → object ≡ get_or objects place object
    → first_twice (take place objects) (drop place objects) ≡ cond (is_among (take place objects) object) (Some object) (first_twice (take (place + 1) objects) (drop (place + 1) objects))
at_place objects place object lt is =
    ap (first_twice (take place objects)) (drop_more objects place object lt ∙ ap (λ x. x ∷ drop (place + 1) objects) (sym is))
    ∙ ap (λ before. cond (is_among (take place objects) object) (Some object) (first_twice before (drop (place + 1) objects))) (sym (take_more objects place object lt ∙ ap (λ x. take place objects ++ x ∷ []) (sym is)))

-- the name stood before
pub stood_before : (objects : List ObjName) (place : ℕ) (object : ObjName) (total : Option ObjName) → place < length objects → object ≡ get_or objects place object
    → is_among (take place objects) object ≡ true → first_twice (take place objects) (drop place objects) ≡ total → Some object ≡ total
stood_before objects place object total lt is among so_far =
    sym (at_place objects place object lt is ∙ ap (λ b. cond b (Some object) (first_twice (take (place + 1) objects) (drop (place + 1) objects))) among) ∙ so_far

-- it didn't
pub next_place : (objects : List ObjName) (place : ℕ) (object : ObjName) (total : Option ObjName) → place < length objects → object ≡ get_or objects place object
    → is_among (take place objects) object ≡ false → first_twice (take place objects) (drop place objects) ≡ total → first_twice (take (place + 1) objects) (drop (place + 1) objects) ≡ total
next_place objects place object total lt is among so_far =
    sym (at_place objects place object lt is ∙ ap (λ b. cond b (Some object) (first_twice (take (place + 1) objects) (drop (place + 1) objects))) among) ∙ so_far

-- ## The set of the names before

-- the set has the names
pub record Has (seen : BTreeSet ObjName) (before : List ObjName) : Type 0 where
  pub at : (q : ObjName) → contains object_cmp seen q ≡ is_among before q

both_tie : (r s : Ordering) → is_eq (ordering_then r s) ≡ (is_eq r && is_eq s)
both_tie Less s = refl
both_tie Equal s = refl
both_tie Greater s = refl

bytes_turn : (a b : List ℕ) → bytes_eq a b ≡ bytes_eq b a
bytes_turn a b = on (bytes_eq a b) (bytes_eq b a) refl refl
  where
    on : (x y : Bool) → bytes_eq a b ≡ x → bytes_eq b a ≡ y → x ≡ y
    on true true one other = refl
    on false false one other = refl
    on true false one other = absurd (true≢false (sym ((bytes_eq-Decides b a).1 (sym ((bytes_eq-Decides a b).0 one))) ∙ other))
    on false true one other = absurd (true≢false (sym ((bytes_eq-Decides a b).1 (sym ((bytes_eq-Decides b a).0 other))) ∙ one))

tie : (k q : ObjName) → is_eq (object_cmp k q) ≡ is_same_object q k
tie k q = both_tie (name_cmp k.schema q.schema) (name_cmp k.name q.name)
    ∙ ap (λ b. b && is_eq (name_cmp k.name q.name)) (is_eq-slice_cmp k.schema q.schema ∙ bytes_turn k.schema q.schema)
    ∙ ap (λ b. bytes_eq q.schema k.schema && b) (is_eq-slice_cmp k.name q.name ∙ bytes_turn k.name q.name)

one_more : (b x : Bool) → cond b true x ≡ (x || (b || false))
one_more true true = refl
one_more true false = refl
one_more false true = refl
one_more false false = refl

pub has_none : (seen : BTreeSet ObjName) → ((q : ObjName) → contains object_cmp seen q ≡ false) → Has seen []
has_none seen none = record { at = none }

pub has_more : (seen new : BTreeSet ObjName) (before : List ObjName) (k : ObjName) → Has seen before
    → ((q : ObjName) → contains object_cmp new q ≡ cond (is_eq (object_cmp k q)) true (contains object_cmp seen q)) → Has new (before ++ k ∷ [])
has_more seen new before k has adds = record {
  at = λ q. adds q ∙ one_more (is_eq (object_cmp k q)) (contains object_cmp seen q)
      ∙ ap (λ x. x || (is_eq (object_cmp k q) || false)) (has.at q)
      ∙ ap (λ b. is_among before q || (b || false)) (tie k q)
      ∙ sym (list_any-append (is_same_object q) before (k ∷ []));
}

flipped : (b : Bool) (added : Bool) → added ≡ not b → added ≡ false → b ≡ true
flipped true added is said = refl
flipped false added is said = absurd (true≢false (sym is ∙ said))

kept : (b : Bool) (added : Bool) → added ≡ not b → added ≡ true → b ≡ false
kept false added is said = refl
kept true added is said = absurd (true≢false (sym said ∙ is))

-- the set tells whether the name stood before
pub was_among : (seen : BTreeSet ObjName) (before : List ObjName) (object key : ObjName) (added : Bool) → key ≡ object → Has seen before → added ≡ not (contains object_cmp seen key) → added ≡ false → is_among before object ≡ true
was_among seen before object key added same has is said = ap (is_among before) (sym same) ∙ sym (has.at key) ∙ flipped (contains object_cmp seen key) added is said

pub not_among : (seen : BTreeSet ObjName) (before : List ObjName) (object key : ObjName) (added : Bool) → key ≡ object → Has seen before → added ≡ not (contains object_cmp seen key) → added ≡ true → is_among before object ≡ false
not_among seen before object key added same has is said = ap (is_among before) (sym same) ∙ sym (has.at key) ∙ kept (contains object_cmp seen key) added is said

pub has_taken : (seen new : BTreeSet ObjName) (objects : List ObjName) (place : ℕ) (object key : ObjName) → place < length objects → object ≡ get_or objects place object → key ≡ object → Has seen (take place objects)
    → ((q : ObjName) → contains object_cmp new q ≡ cond (is_eq (object_cmp key q)) true (contains object_cmp seen q)) → Has new (take (place + 1) objects)
has_taken seen new objects place object key lt is same has adds =
    subst (Has new) (sym (take_more objects place object lt ∙ ap (λ x. take place objects ++ x ∷ []) (sym is ∙ sym same))) (has_more seen new (take place objects) key has adds)

-- the set has all of the names, and no others
pub all_has : (seen : BTreeSet ObjName) (objects : List ObjName) (count : ℕ) → length objects ≤ count → Has seen (take count objects) → contains object_cmp seen ≡ is_among objects
all_has seen objects count le has = λ i q. (has.at q ∙ ap (λ (os : List ObjName). is_among os q) (take_all count objects le)) i
