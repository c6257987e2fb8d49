-- What different sessions have locked goes together.
use Rattle.std.proofs.Common.{◌≡◌, ◌≢◌, ◌⊎◌, inl, inr, ℕ, ◌<◌, ◌≤◌, length, get_or, drop, Bool, true, false, cond, List, [], ◌∷◌, ◌+◌, ◌||◌, ◌&&◌, ◌==◌, refl, sym, ◌∙◌, ap}
use Rattle.std.specs.Prelude.{Option, Some, None, not}
use Rattle.std.proofs.lemmas.Bool.{true≢false}
use Rattle.std.specs.declared.cmp.Ordering.{Ordering}
use Rattle.std.specs.declared.cmp.Ordering.TheVariants.{Less, Equal, Greater}
use Rattle.std.specs.Ordering.{is_eq, nat_cmp}
use Rattle.std.specs.Option.{option_map}
use Rattle.std.specs.List.{find}
use Rattle.std.specs.Map.{lookup}
use Rattle.std.specs.FinMap as finite_map
use Rattle.std.specs.BTreeMap as tree
use Rattle.std.specs.BTreeMap.{is_at}
use Rattle.metadata_locks.specs.declared.request.LockKey.{LockKey}
use Rattle.metadata_locks.specs.declared.request.Mode.{Mode}
use Rattle.metadata_locks.specs.declared.request.Mode.TheVariants.{IX, S, X}
use Rattle.metadata_locks.specs.declared.request.Request.{Request}
use Rattle.metadata_locks.specs.declared.modes.Modes.{Modes}
use Rattle.metadata_locks.specs.declared.locks.Locks.{Locks}
use Rattle.metadata_locks.specs.Modes.{has, goes_with, is_against}
use Rattle.metadata_locks.specs.Held.{Held, key_cmp, modes_at, modes_held, same_mode, is_for, ask_for, holds, IsCompatible}
use Rattle.metadata_locks.specs.Conflicts.{is_held_against, holder_among, holder_against, at_place, conflict_from, first_conflict}
use Rattle.std.proofs.lemmas.Bool.{eq-eqb}
use Rattle.std.proofs.lemmas.List.{drop_more, drop_all}
use Rattle.std.proofs.Math.Facts.{eqb_yes}
use Rattle.metadata_locks.proofs.Keys.{key_alone}
use Rattle.metadata_locks.proofs.Sessions.{none_has, to_T}

pub turned : (a b : Mode) → goes_with a b ≡ goes_with b a
turned IX IX = refl
turned IX S = refl
turned IX X = refl
turned S IX = refl
turned S S = refl
turned S X = refl
turned X IX = refl
turned X S = refl
turned X X = refl

some_none : {A : Type 0} (x : A) → Some x ≢ None
some_none x e = cc

-- ## Without a conflict nothing is held against a request

among_both : (session : ℕ) (request : Request) (e : ℕ × Held) (es : List (ℕ × Held)) (other : ℕ) (held : Held)
    → (holder_among session request es ≡ None → lookup (is_at (nat_cmp other)) es ≡ Some held → is_held_against session request (other, held) ≡ false)
    → holder_among session request (e ∷ es) ≡ None → lookup (is_at (nat_cmp other)) (e ∷ es) ≡ Some held
    → (b : Bool) → is_held_against session request e ≡ b → (r : Ordering) → nat_cmp other e.0 ≡ r → is_held_against session request (other, held) ≡ false
among_both session request e es other held later none found = on
  where
    passed : is_held_against session request e ≡ false → holder_among session request es ≡ None
    passed against = sym (ap (λ b. option_map (λ (held : ℕ × Held). held.0) (cond b (Some e) (find (is_held_against session request) es))) against) ∙ none

    found_later : (r : Ordering) → nat_cmp other e.0 ≡ r → cond (is_eq r) (Some e.1) (lookup (is_at (nat_cmp other)) es) ≡ Some held
    found_later r order = sym (ap (λ r. cond (is_eq r) (Some e.1) (lookup (is_at (nat_cmp other)) es)) order) ∙ found

    on : (b : Bool) → is_held_against session request e ≡ b → (r : Ordering) → nat_cmp other e.0 ≡ r → is_held_against session request (other, held) ≡ false
    on true against r order = absurd (some_none e.0 (sym (ap (λ b. option_map (λ (held : ℕ × Held). held.0) (cond b (Some e) (find (is_held_against session request) es))) against) ∙ none))
    on false against Equal order =
        let number : other ≡ e.0 = finite_map.nat_cmp-IsAntisymmetric other e.0 order in
        let same : Some e.1 ≡ Some held = found_later Equal order in
        let value : e.1 ≡ held = cc in
        ap (λ o. is_held_against session request (o, held)) number ∙ ap (λ h. is_held_against session request (e.0, h)) (sym value) ∙ against
    on false against Less order = later (passed against) (found_later Less order)
    on false against Greater order = later (passed against) (found_later Greater order)

-- where none of the sessions has locked against it, none of these has
not_among : (session : ℕ) (request : Request) (sessions : List (ℕ × Held)) (other : ℕ) (held : Held) → holder_among session request sessions ≡ None
    → lookup (is_at (nat_cmp other)) sessions ≡ Some held → is_held_against session request (other, held) ≡ false
not_among session request [] other held none found = absurd (some_none held (sym found))
not_among session request (e ∷ es) other held none found =
    among_both session request e es other held (not_among session request es other held) none found (is_held_against session request e) refl (nat_cmp other e.0) refl

no_holder : (o : Option ℕ) (place : ℕ) (later : Option (ℕ × ℕ)) → at_place place o later ≡ None → (o ≡ None) × (later ≡ None)
no_holder None place later none = (refl, none)
no_holder (Some holder) place later none = absurd (some_none (place, holder) none)

or_false : (a b : Bool) → (a || b) ≡ false → (a ≡ false) × (b ≡ false)
or_false true b e = absurd (true≢false e)
or_false false b e = (refl, e)

or_true : (a b : Bool) → (a || b) ≡ true → (a ≡ true) ⊎ (b ≡ true)
or_true true b e = inl refl
or_true false b e = inr e

and_true : (a b : Bool) → (a && b) ≡ true → (a ≡ true) × (b ≡ true)
and_true true b e = (refl, e)
and_true false b e = absurd (true≢false (sym e))

and_not : (held goes : Bool) → (held && not goes) ≡ false → held ≡ true → goes ≡ true
and_not held true none is = refl
and_not true false none is = absurd (true≢false none)
and_not false false none is = absurd (true≢false (sym is))

-- modes of one key with none against a mode
with_each : (mode other : Mode) (modes : Modes) → is_against mode modes ≡ false → has modes other ≡ true → goes_with mode other ≡ true
with_each mode IX modes none held = and_not (has modes IX) (goes_with mode IX) (or_false (has modes IX && not (goes_with mode IX)) ((has modes S && not (goes_with mode S)) || (has modes X && not (goes_with mode X))) none).0 held
with_each mode S modes none held =
    let rest : ((has modes S && not (goes_with mode S)) || (has modes X && not (goes_with mode X))) ≡ false = (or_false (has modes IX && not (goes_with mode IX)) ((has modes S && not (goes_with mode S)) || (has modes X && not (goes_with mode X))) none).1 in
    and_not (has modes S) (goes_with mode S) (or_false (has modes S && not (goes_with mode S)) (has modes X && not (goes_with mode X)) rest).0 held
with_each mode X modes none held =
    let rest : ((has modes S && not (goes_with mode S)) || (has modes X && not (goes_with mode X))) ≡ false = (or_false (has modes IX && not (goes_with mode IX)) ((has modes S && not (goes_with mode S)) || (has modes X && not (goes_with mode X))) none).1 in
    and_not (has modes X) (goes_with mode X) (or_false (has modes S && not (goes_with mode S)) (has modes X && not (goes_with mode X)) rest).1 held

one_mode : (a b : Mode) → same_mode a b ≡ true → a ≡ b
one_mode IX IX e = refl
one_mode S S e = refl
one_mode X X e = refl
one_mode IX S e = absurd (true≢false (sym e))
one_mode IX X e = absurd (true≢false (sym e))
one_mode S IX e = absurd (true≢false (sym e))
one_mode S X e = absurd (true≢false (sym e))
one_mode X IX e = absurd (true≢false (sym e))
one_mode X S e = absurd (true≢false (sym e))

ties : (r : Ordering) → is_eq r ≡ true → r ≡ Equal
ties Less e = absurd (true≢false (sym e))
ties Equal e = refl
ties Greater e = absurd (true≢false (sym e))

-- what another session has locked goes with a request that none is against
with_request : (locks : Locks) (session : ℕ) (request : Request) (other : ℕ) (mode : Mode) → holder_against locks session request ≡ None → (other == session) ≡ false
    → holds locks other request.key mode ≡ true → goes_with request.mode mode ≡ true
with_request locks session request other mode none apart held = on (tree.get nat_cmp locks.sessions other) refl
  where
    on : (o : Option Held) → tree.get nat_cmp locks.sessions other ≡ o → goes_with request.mode mode ≡ true
    on None is = absurd (true≢false (sym held ∙ ap (λ o. has (modes_held o request.key) mode) is ∙ none_has mode))
    on (Some h) is = with_each request.mode mode (modes_at h request.key)
        (ap (λ b. not b && is_against request.mode (modes_at h request.key)) (sym apart) ∙ not_among session request locks.sessions.entries other h none is)
        (sym (ap (λ o. has (modes_held o request.key) mode) is) ∙ held)

asked_here : (locks : Locks) (session : ℕ) (request : Request) → holder_against locks session request ≡ None
    → (other : ℕ) (key : LockKey) (asked mode : Mode) → is_for key asked request ≡ true → (other == session) ≡ false → holds locks other key mode ≡ true → goes_with asked mode ≡ true
asked_here locks session request none other key asked mode here apart held =
    let both : (is_eq (key_cmp request.key key) ≡ true) × (same_mode request.mode asked ≡ true) = and_true (is_eq (key_cmp request.key key)) (same_mode request.mode asked) here in
    let one : request.key ≡ key = key_alone request.key key (ties (key_cmp request.key key) both.0) in
    ap (λ m. goes_with m mode) (sym (one_mode request.mode asked both.1))
    ∙ with_request locks session request other mode none apart (ap (λ k. holds locks other k mode) one ∙ held)

either_holds : {A B C : Type 0} → A ⊎ B → (A → C) → (B → C) → C
either_holds (inl a) f g = f a
either_holds (inr b) f g = g b

no_conflict : (locks : Locks) (session place : ℕ) (requests : List Request) → conflict_from locks session place requests ≡ None
    → (other : ℕ) (key : LockKey) (asked mode : Mode) → ask_for requests key asked ≡ true → (other == session) ≡ false → holds locks other key mode ≡ true → goes_with asked mode ≡ true
no_conflict locks session place [] none other key asked mode asks apart held = absurd (true≢false (sym asks))
no_conflict locks session place (request ∷ requests) none other key asked mode asks apart held =
    let parts : (holder_against locks session request ≡ None) × (conflict_from locks session (place + 1) requests ≡ None) =
    no_holder (holder_against locks session request) place (conflict_from locks session (place + 1) requests) none in
    either_holds (or_true (is_for key asked request) (ask_for requests key asked) asks)
    (λ here. asked_here locks session request parts.0 other key asked mode here apart held)
    (λ later. no_conflict locks session (place + 1) requests parts.1 other key asked mode later apart held)

-- two sessions that differ aren't both this one
other_apart : (session a b : ℕ) → (a == session) ≡ true → (a == b) ≡ false → (b == session) ≡ false
other_apart session a b is apart = on (b == session) refl
  where
    on : (x : Bool) → (b == session) ≡ x → (b == session) ≡ false
    on false e = e
    on true e = absurd (true≢false (sym (eq-eqb a b (eqb_yes (to_T (a == session) is) ∙ sym (eqb_yes (to_T (b == session) e)))) ∙ apart))

-- what is locked beside, where no request conflicts, still goes together
pub stays_together : (old new : Locks) (session : ℕ) (requests : List Request) → first_conflict old session requests ≡ None
    → ((other : ℕ) (key : LockKey) (mode : Mode) → holds new other key mode ≡ ((other == session && ask_for requests key mode) || holds old other key mode))
    → IsCompatible old → IsCompatible new
stays_together old new session requests none granted compatible = record {
  together = λ a b key mode mode' apart held held'.
      on a b key mode mode' apart
      (or_true (a == session && ask_for requests key mode) (holds old a key mode) (sym (granted a key mode) ∙ held))
      (or_true (b == session && ask_for requests key mode') (holds old b key mode') (sym (granted b key mode') ∙ held'));
}
  where
    swapped : (a b : ℕ) → (a == b) ≡ false → (b == a) ≡ false
    swapped a b apart = turn (b == a) refl
      where
        turn : (x : Bool) → (b == a) ≡ x → (b == a) ≡ false
        turn false e = e
        turn true e = absurd (true≢false (sym (eq-eqb a b (sym (eqb_yes (to_T (b == a) e)))) ∙ apart))

    on : (a b : ℕ) (key : LockKey) (mode mode' : Mode) → (a == b) ≡ false
        → (((a == session && ask_for requests key mode) ≡ true) ⊎ (holds old a key mode ≡ true))
        → (((b == session && ask_for requests key mode') ≡ true) ⊎ (holds old b key mode' ≡ true)) → goes_with mode mode' ≡ true
    on a b key mode mode' apart (inr held) (inr other) = compatible.together a b key mode mode' apart held other
    on a b key mode mode' apart (inl asked) (inr other) =
        let its : ((a == session) ≡ true) × (ask_for requests key mode ≡ true) = and_true (a == session) (ask_for requests key mode) asked in
        no_conflict old session 0 requests none b key mode mode' its.1 (other_apart session a b its.0 apart) other
    on a b key mode mode' apart (inr held) (inl asked) =
        let its : ((b == session) ≡ true) × (ask_for requests key mode' ≡ true) = and_true (b == session) (ask_for requests key mode') asked in
        turned mode mode' ∙ no_conflict old session 0 requests none a key mode' mode its.1 (other_apart session b a its.0 (swapped a b apart)) held
    on a b key mode mode' apart (inl asked) (inl asked') =
        let its : ((a == session) ≡ true) × (ask_for requests key mode ≡ true) = and_true (a == session) (ask_for requests key mode) asked in
        let others : ((b == session) ≡ true) × (ask_for requests key mode' ≡ true) = and_true (b == session) (ask_for requests key mode') asked' in
        absurd (true≢false (sym others.0 ∙ other_apart session a b its.0 apart))

-- what holds no more than before still goes together
pub fewer_together : (old new : Locks) → ((other : ℕ) (key : LockKey) (mode : Mode) → holds new other key mode ≡ true → holds old other key mode ≡ true)
    → IsCompatible old → IsCompatible new
fewer_together old new fewer compatible = record {
  together = λ a b key mode mode' apart held held'. compatible.together a b key mode mode' apart (fewer a key mode held) (fewer b key mode' held');
}

-- ## The first conflict, place by place

at_drop : (locks : Locks) (session : ℕ) (all : List Request) (place : ℕ) (request : Request) → place < length all → request ≡ get_or all place request
    → conflict_from locks session place (drop place all) ≡ at_place place (holder_against locks session request) (conflict_from locks session (place + 1) (drop (place + 1) all))
at_drop locks session all place request lt is =
    ap (conflict_from locks session place) (drop_more all place request lt ∙ ap (λ r. r ∷ drop (place + 1) all) (sym is))

pub conflict_here : (locks : Locks) (session : ℕ) (all : List Request) (place : ℕ) (request : Request) (holder : ℕ) → place < length all → request ≡ get_or all place request
    → Some holder ≡ holder_against locks session request → conflict_from locks session place (drop place all) ≡ first_conflict locks session all → Some (place, holder) ≡ first_conflict locks session all
conflict_here locks session all place request holder lt is found so_far =
    ap (λ o. at_place place o (conflict_from locks session (place + 1) (drop (place + 1) all))) found ∙ sym (at_drop locks session all place request lt is) ∙ so_far

pub conflict_later : (locks : Locks) (session : ℕ) (all : List Request) (place : ℕ) (request : Request) → place < length all → request ≡ get_or all place request
    → None ≡ holder_against locks session request → conflict_from locks session place (drop place all) ≡ first_conflict locks session all
    → conflict_from locks session (place + 1) (drop (place + 1) all) ≡ first_conflict locks session all
conflict_later locks session all place request lt is none so_far =
    ap (λ o. at_place place o (conflict_from locks session (place + 1) (drop (place + 1) all))) none ∙ sym (at_drop locks session all place request lt is) ∙ so_far

pub conflict_none : (locks : Locks) (session : ℕ) (all : List Request) (place : ℕ) → length all ≤ place → conflict_from locks session place (drop place all) ≡ first_conflict locks session all
    → None ≡ first_conflict locks session all
conflict_none locks session all place le so_far = ap (conflict_from locks session place) (sym (drop_all place all le)) ∙ so_far
