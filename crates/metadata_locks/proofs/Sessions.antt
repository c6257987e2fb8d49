-- What sessions have locked after one of them has changed.
use Rattle.std.proofs.Common.{◌≡◌, ◌≢◌, T, ℕ, Bool, true, false, cond, [], ◌||◌, ◌&&◌, ◌==◌, refl, sym, ◌∙◌, ap, if◌then◌else◌}
use Rattle.std.specs.Prelude.{Option, Some, None, not, is_some}
use Rattle.std.proofs.lemmas.Bool.{true≢false}
use Rattle.std.specs.declared.cmp.Ordering.{Ordering}
use Rattle.std.specs.declared.cmp.Ordering.TheVariants.{Less, Equal, Greater}
use Rattle.std.specs.Ordering.{is_eq, nat_cmp}
use Rattle.std.specs.FinMap as finite_map
use Rattle.std.specs.BTreeMap as tree
use Rattle.std.specs.BTreeMap.{BTreeMap}
use Rattle.metadata_locks.specs.declared.request.LockKey.{LockKey}
use Rattle.metadata_locks.specs.declared.request.Mode.{Mode}
use Rattle.metadata_locks.specs.declared.request.Mode.TheVariants.{IX, S, X}
use Rattle.metadata_locks.specs.Modes.{no_modes, has}
use Rattle.std.specs.Map.{lookup}
use Rattle.std.specs.BTreeMap.{is_at}
use Rattle.std.specs.Cmp.{nat_cmp_is}
use Rattle.std.proofs.lemmas.Bool.{eq-eqb}
use Rattle.std.proofs.Math.Facts.{eqb_yes}
use Rattle.metadata_locks.specs.Held.{Held, key_cmp, modes_or_none, modes_at, modes_held}

-- the new has this for the session, and for the others what the old has
pub record Sets (old new : BTreeMap ℕ Held) (session : ℕ) (held : Option Held) : Type 0 where
  pub at : (q : ℕ) → tree.get nat_cmp new q ≡ cond (is_eq (nat_cmp session q)) held (tree.get nat_cmp old q)

pub none_has : (mode : Mode) → has no_modes mode ≡ false
none_has IX = refl
none_has S = refl
none_has X = refl

-- what the others have locked stays
pub others_stay : (old new : BTreeMap ℕ Held) (session other : ℕ) (held : Option Held) → Sets old new session held → is_eq (nat_cmp session other) ≡ false
    → tree.get nat_cmp new other ≡ tree.get nat_cmp old other
others_stay old new session other held sets apart = sets.at other ∙ ap (λ b. cond b held (tree.get nat_cmp old other)) apart

pub its_own : (old new : BTreeMap ℕ Held) (session other : ℕ) (held : Option Held) → Sets old new session held → is_eq (nat_cmp session other) ≡ true
    → tree.get nat_cmp new other ≡ held
its_own old new session other held sets same = sets.at other ∙ ap (λ b. cond b held (tree.get nat_cmp old other)) same

pub to_T : (b : Bool) → b ≡ true → T b
to_T true e = tt
to_T false e = absurd (true≢false (sym e))

-- the order ties exactly where the numbers are equal
pub tie : (session other : ℕ) → is_eq (nat_cmp session other) ≡ (other == session)
tie session other = on (nat_cmp session other) refl (other == session) refl
  where
    on : (r : Ordering) → nat_cmp session other ≡ r → (b : Bool) → (other == session) ≡ b → is_eq (nat_cmp session other) ≡ (other == session)
    on Less order false same = ap is_eq order ∙ sym same
    on Greater order false same = ap is_eq order ∙ sym same
    on Equal order true same = ap is_eq order ∙ sym same
    on Equal order false same = absurd (true≢false (sym (eq-eqb other session (sym (finite_map.nat_cmp-IsAntisymmetric session other order))) ∙ same))
    on Less order true same = absurd (less (nat_cmp_is session other Equal (sym (eqb_yes (to_T (other == session) same))) ∙ order))
      where
        less : Equal ≢ Less
        less e = cc
    on Greater order true same = absurd (greater (nat_cmp_is session other Equal (sym (eqb_yes (to_T (other == session) same))) ∙ order))
      where
        greater : Equal ≢ Greater
        greater e = cc

-- what a session has locked in a mode, in either case
pub held_then : (old new : BTreeMap ℕ Held) (session : ℕ) (held : Option Held) → Sets old new session held → (other : ℕ) (key : LockKey) (mode : Mode)
    → has (modes_held (tree.get nat_cmp new other) key) mode ≡ (if other == session then has (modes_held held key) mode else has (modes_held (tree.get nat_cmp old other) key) mode)
held_then old new session held sets other key mode = on (other == session) refl
  where
    on : (b : Bool) → (other == session) ≡ b
        → has (modes_held (tree.get nat_cmp new other) key) mode ≡ (if other == session then has (modes_held held key) mode else has (modes_held (tree.get nat_cmp old other) key) mode)
    on true same = ap (λ o. has (modes_held o key) mode) (its_own old new session other held sets (tie session other ∙ same))
        ∙ ap (λ b. if b then has (modes_held held key) mode else has (modes_held (tree.get nat_cmp old other) key) mode) (sym same)
    on false same = ap (λ o. has (modes_held o key) mode) (others_stay old new session other held sets (tie session other ∙ same))
        ∙ ap (λ b. if b then has (modes_held held key) mode else has (modes_held (tree.get nat_cmp old other) key) mode) (sym same)

-- a session that is given back
pub released : (old new : BTreeMap ℕ Held) (session : ℕ) → Sets old new session None → (other : ℕ) (key : LockKey) (mode : Mode)
    → has (modes_held (tree.get nat_cmp new other) key) mode ≡ (if other == session then false else has (modes_held (tree.get nat_cmp old other) key) mode)
released old new session sets other key mode =
    held_then old new session None sets other key mode
    ∙ ap (λ b. if other == session then b else has (modes_held (tree.get nat_cmp old other) key) mode) (none_has mode)

-- a session that is made, without locks
pub made : (old new : BTreeMap ℕ Held) (session : ℕ) (held : Held) → held.entries ≡ [] → not (is_some (tree.get nat_cmp old session)) ≡ true → Sets old new session (Some held)
    → (other : ℕ) (key : LockKey) (mode : Mode) → has (modes_held (tree.get nat_cmp new other) key) mode ≡ has (modes_held (tree.get nat_cmp old other) key) mode
made old new session held empty none sets other key mode = on (other == session) refl
  where
    nothing : (o : Option Held) → not (is_some o) ≡ true → has (modes_held o key) mode ≡ false
    nothing None is = none_has mode
    nothing (Some h) is = absurd (true≢false (sym is))

    no_keys : (h : Held) → h.entries ≡ [] → has (modes_at h key) mode ≡ false
    no_keys h is = ap (λ es. has (modes_or_none (lookup (is_at (key_cmp key)) es)) mode) is ∙ none_has mode

    on : (b : Bool) → (other == session) ≡ b → has (modes_held (tree.get nat_cmp new other) key) mode ≡ has (modes_held (tree.get nat_cmp old other) key) mode
    on true same =
        let one : other ≡ session = eqb_yes (to_T (other == session) same) in
        ap (λ o. has (modes_held o key) mode) (its_own old new session other (Some held) sets (tie session other ∙ same))
        ∙ no_keys held empty ∙ sym (nothing (tree.get nat_cmp old session) none) ∙ ap (λ q. has (modes_held (tree.get nat_cmp old q) key) mode) (sym one)
    on false same = ap (λ o. has (modes_held o key) mode) (others_stay old new session other (Some held) sets (tie session other ∙ same))

-- a session that has locked more
pub locked : (old new : BTreeMap ℕ Held) (session : ℕ) (before after : Held) (asked : LockKey → Mode → Bool) → Sets old new session (Some after) → Some before ≡ tree.get nat_cmp old session
    → ((key : LockKey) (mode : Mode) → has (modes_at after key) mode ≡ (asked key mode || has (modes_at before key) mode))
    → (other : ℕ) (key : LockKey) (mode : Mode) → has (modes_held (tree.get nat_cmp new other) key) mode ≡ ((other == session && asked key mode) || has (modes_held (tree.get nat_cmp old other) key) mode)
locked old new session before after asked sets found more other key mode = on (other == session) refl
  where
    on : (b : Bool) → (other == session) ≡ b → has (modes_held (tree.get nat_cmp new other) key) mode ≡ ((other == session && asked key mode) || has (modes_held (tree.get nat_cmp old other) key) mode)
    on true same =
        let one : other ≡ session = eqb_yes (to_T (other == session) same) in
        ap (λ o. has (modes_held o key) mode) (its_own old new session other (Some after) sets (tie session other ∙ same))
        ∙ more key mode
        ∙ ap (λ o. asked key mode || has (modes_held o key) mode) (found ∙ ap (tree.get nat_cmp old) (sym one))
        ∙ ap (λ b. (b && asked key mode) || has (modes_held (tree.get nat_cmp old other) key) mode) (sym same)
    on false same = ap (λ o. has (modes_held o key) mode) (others_stay old new session other (Some after) sets (tie session other ∙ same))
        ∙ ap (λ b. (b && asked key mode) || has (modes_held (tree.get nat_cmp old other) key) mode) (sym same)

-- a session whose places alone have changed
pub unchanged : (old new : BTreeMap ℕ Held) (session : ℕ) (before after : Held) → Sets old new session (Some after) → Some before ≡ tree.get nat_cmp old session
    → ((key : LockKey) → modes_at after key ≡ modes_at before key)
    → (other : ℕ) (key : LockKey) (mode : Mode) → has (modes_held (tree.get nat_cmp new other) key) mode ≡ has (modes_held (tree.get nat_cmp old other) key) mode
unchanged old new session before after sets found same other key mode =
    locked old new session before after (λ _ _. false) sets found (λ key mode. ap (λ m. has m mode) (same key)) other key mode
    ∙ none (other == session)
  where
    none : (b : Bool) → ((b && false) || has (modes_held (tree.get nat_cmp old other) key) mode) ≡ has (modes_held (tree.get nat_cmp old other) key) mode
    none true = refl
    none false = refl
