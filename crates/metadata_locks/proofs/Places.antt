-- What is locked after one key has got its place or a mode.
use Rattle.std.proofs.Common.{◌≡◌, ℕ, ◌+◌, ◌<◌, ◌≤◌, Bool, true, false, cond, List, [], ◌∷◌, length, get_or, drop, ◌||◌, ◌&&◌, refl, sym, ◌∙◌, ap, subst}
use Rattle.std.proofs.lemmas.List.{drop_more, drop_all}
use Rattle.std.specs.Prelude.{Option, Some, None, not, is_some}
use Rattle.std.proofs.lemmas.Bool.{true≢false}
use Rattle.std.specs.declared.cmp.Ordering.{Ordering}
use Rattle.std.specs.declared.cmp.Ordering.TheVariants.{Less, Equal, Greater}
use Rattle.std.specs.Ordering.{is_eq}
use Rattle.std.specs.BTreeMap as tree
use Rattle.metadata_locks.specs.declared.request.LockKey.{LockKey}
use Rattle.metadata_locks.specs.declared.request.Mode.{Mode}
use Rattle.metadata_locks.specs.declared.request.Mode.TheVariants.{IX, S, X}
use Rattle.metadata_locks.specs.declared.request.Request.{Request}
use Rattle.metadata_locks.specs.declared.modes.Modes.{Modes}
use Rattle.metadata_locks.specs.Modes.{no_modes, has, with_mode}
use Rattle.metadata_locks.specs.Held.{Held, key_cmp, modes_or_none, modes_at, HasPlace, HavePlaces, same_mode, is_for, ask_for}
use Rattle.metadata_locks.proofs.Keys.{key_alone}

-- the new has these modes at the key, and elsewhere what the old has
pub record Puts (old new : Held) (key : LockKey) (modes : Modes) : Type 0 where
  pub at : (q : LockKey) → tree.get key_cmp new q ≡ cond (is_eq (key_cmp key q)) (Some modes) (tree.get key_cmp old q)

added : (a m : Mode) (modes : Modes) → has (with_mode a modes) m ≡ (same_mode a m || has modes m)
added IX IX modes = refl
added IX S modes = refl
added IX X modes = refl
added S IX modes = refl
added S S modes = refl
added S X modes = refl
added X IX modes = refl
added X S modes = refl
added X X modes = refl

pub granted : (old new : Held) (request : Request) (modes after : Modes) → Puts old new request.key after → Some modes ≡ tree.get key_cmp old request.key
    → after ≡ with_mode request.mode modes → (key : LockKey) (mode : Mode) → has (modes_at new key) mode ≡ (is_for key mode request || has (modes_at old key) mode)
granted old new request modes after puts found is key mode = on (key_cmp request.key key) refl
  where
    shown : (r : Ordering) → key_cmp request.key key ≡ r → has (modes_at new key) mode ≡ has (modes_or_none (cond (is_eq r) (Some after) (tree.get key_cmp old key))) mode
    shown r order = ap (λ o. has (modes_or_none o) mode) (puts.at key ∙ ap (λ r. cond (is_eq r) (Some after) (tree.get key_cmp old key)) order)

    asked : (r : Ordering) → key_cmp request.key key ≡ r → ((is_eq r && same_mode request.mode mode) || has (modes_at old key) mode) ≡ (is_for key mode request || has (modes_at old key) mode)
    asked r order = ap (λ r. (is_eq r && same_mode request.mode mode) || has (modes_at old key) mode) (sym order)

    on : (r : Ordering) → key_cmp request.key key ≡ r → has (modes_at new key) mode ≡ (is_for key mode request || has (modes_at old key) mode)
    on Less order = shown Less order ∙ asked Less order
    on Greater order = shown Greater order ∙ asked Greater order
    on Equal order =
        shown Equal order ∙ ap (λ m. has m mode) is ∙ added request.mode mode modes
        ∙ ap (λ m. same_mode request.mode mode || has m mode) (ap modes_or_none (found ∙ ap (tree.get key_cmp old) (key_alone request.key key order)))
        ∙ asked Equal order

nothing_at : (o : Option Modes) → not (is_some o) ≡ true → modes_or_none o ≡ no_modes
nothing_at None none = refl
nothing_at (Some modes) none = absurd (true≢false (sym none))

pub place_made : (old new : Held) (key : LockKey) → Puts old new key no_modes → not (is_some (tree.get key_cmp old key)) ≡ true → (other : LockKey) → modes_at new other ≡ modes_at old other
place_made old new key puts none other = on (key_cmp key other) refl
  where
    shown : (r : Ordering) → key_cmp key other ≡ r → modes_at new other ≡ modes_or_none (cond (is_eq r) (Some no_modes) (tree.get key_cmp old other))
    shown r order = ap modes_or_none (puts.at other ∙ ap (λ r. cond (is_eq r) (Some no_modes) (tree.get key_cmp old other)) order)

    on : (r : Ordering) → key_cmp key other ≡ r → modes_at new other ≡ modes_at old other
    on Less order = shown Less order
    on Greater order = shown Greater order
    on Equal order = shown Equal order ∙ sym (nothing_at (tree.get key_cmp old key) none) ∙ ap (λ q. modes_at old q) (key_alone key other order)

-- ## All requests

-- the requests from a place on
rest_at : (all : List Request) (place : ℕ) (request : Request) → place < length all → request ≡ get_or all place request → drop place all ≡ request ∷ drop (place + 1) all
rest_at all place request lt is = drop_more all place request lt ∙ ap (λ r. r ∷ drop (place + 1) all) (sym is)

-- all that has its place in `held` has it in the later
pub record Grows (held later : Held) : Type 0 where
  pub keeps : (key : LockKey) → HasPlace held key → HasPlace later key

-- whatever keeps these places and has one for all that are left has one for all
pub record MakesRest (held : Held) (rest all : List Request) : Type 0 where
  pub whole : (later : Held) → Grows held later → HavePlaces later rest → HavePlaces later all

pub makes_none : (held : Held) (all : List Request) → MakesRest held all all
makes_none held all = record { whole = λ later grows has. has }

pub makes_next : (held next : Held) (all : List Request) (place : ℕ) (request : Request) → place < length all → request ≡ get_or all place request
    → ((key : LockKey) → HasPlace held key → HasPlace next key) → HasPlace next request.key
    → MakesRest held (drop place all) all → MakesRest next (drop (place + 1) all) all
makes_next held next all place request lt is grows made makes = record {
  whole = λ later more has. makes.whole later (record { keeps = λ key had. more.keeps key (grows key had) })
      (subst (HavePlaces later) (sym (rest_at all place request lt is)) (more.keeps request.key made, has));
}

pub makes_all : (held : Held) (all : List Request) (place : ℕ) → length all ≤ place → MakesRest held (drop place all) all → HavePlaces held all
makes_all held all place le makes = makes.whole held (record { keeps = λ key had. had }) (subst (HavePlaces held) (sym (drop_all place all le)) tt)

-- what is granted so far, with what is left to grant, is all
pub record GrantsRest (first held : Held) (rest all : List Request) : Type 0 where
  pub each : (key : LockKey) (mode : Mode) → (ask_for rest key mode || has (modes_at held key) mode) ≡ (ask_for all key mode || has (modes_at first key) mode)

pub grants_none : (first : Held) (all : List Request) → GrantsRest first first all all
grants_none first all = record { each = λ key mode. refl }

moved : (a b c : Bool) → (a || (b || c)) ≡ ((b || a) || c)
moved true true c = refl
moved true false c = refl
moved false true c = refl
moved false false c = refl

pub grants_next : (first held next : Held) (all : List Request) (place : ℕ) (request : Request) → place < length all → request ≡ get_or all place request
    → ((key : LockKey) (mode : Mode) → has (modes_at next key) mode ≡ (is_for key mode request || has (modes_at held key) mode))
    → GrantsRest first held (drop place all) all → GrantsRest first next (drop (place + 1) all) all
grants_next first held next all place request lt is granted grants = record {
  each = λ key mode. ap (λ h. ask_for (drop (place + 1) all) key mode || h) (granted key mode)
      ∙ moved (ask_for (drop (place + 1) all) key mode) (is_for key mode request) (has (modes_at held key) mode)
      ∙ ap (λ rest. ask_for rest key mode || has (modes_at held key) mode) (sym (rest_at all place request lt is))
      ∙ grants.each key mode;
}

pub grants_all : (first held : Held) (all : List Request) (place : ℕ) → length all ≤ place → GrantsRest first held (drop place all) all
    → (key : LockKey) (mode : Mode) → has (modes_at held key) mode ≡ (ask_for all key mode || has (modes_at first key) mode)
grants_all first held all place le grants key mode =
    ap (λ rest. ask_for rest key mode || has (modes_at held key) mode) (sym (drop_all place all le)) ∙ grants.each key mode

-- the places that are left to grant are there
pub place_here : (held : Held) (all : List Request) (place : ℕ) (request : Request) → place < length all → request ≡ get_or all place request → HavePlaces held (drop place all) → HasPlace held request.key
place_here held all place request lt is has = (subst (HavePlaces held) (rest_at all place request lt is) has).0

kept : (held next : Held) → ((key : LockKey) → HasPlace held key → HasPlace next key) → (requests : List Request) → HavePlaces held requests → HavePlaces next requests
kept held next keeps [] has = tt
kept held next keeps (request ∷ requests) has = (keeps request.key has.0, kept held next keeps requests has.1)

pub places_left : (held next : Held) (all : List Request) (place : ℕ) (request : Request) → place < length all → request ≡ get_or all place request
    → ((key : LockKey) → HasPlace held key → HasPlace next key) → HavePlaces held (drop place all) → HavePlaces next (drop (place + 1) all)
places_left held next all place request lt is keeps has =
    kept held next keeps (drop (place + 1) all) (subst (HavePlaces held) (rest_at all place request lt is) has).1
