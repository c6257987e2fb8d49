-- A session's plan is committed.
use Rattle.std.proofs.Common.{◌≡◌, inl, ℕ, List, [], ◌∷◌, ◌++◌, Option, Some, None, refl, sym, ◌∙◌, ap, subst}
use Rattle.std.specs.List.{flat_map}
use Rattle.disk_trait.specs.Change.{Directory}
use Rattle.disk_trait.specs.Story.{Story}
use Rattle.row_batch.specs.declared.operation.Operation.{Operation}
use Rattle.row_store.specs.Value.{StoreValue}
use Rattle.ddl_log.specs.declared.records.LogRecord.{LogRecord}
use Rattle.ddl_log.specs.Effect.{IsFree}
use Rattle.dict_store_laws.specs.Recovers.{IsOrderly}
use Rattle.dict_store_laws.specs.Kept.{Work, IsKept}
use Rattle.dict_store_laws.specs.Steps.{MayCommit}
use Rattle.dict_store_laws.specs.Plans.{LeadsTo, Follows, Writes}
use Rattle.dict_store_laws.proofs.Commits.{may_exchange, may_create}
use Rattle.dict_flight_laws.specs.Phases.{Plan, Creation, Phase, Idle, Planned, Prepared, Performed, Left, Replayed, items_of, file_of, records_of, made_by, owned, claims, finished, made, all_claims, log, work_of}
use Rattle.dict_flight_laws.specs.Flight.{In, AreClear, ClaimsOrdinary, MayMakeAt, IsRightPlan, IsRightAt, IsInFlight, IsReady}
use Rattle.dict_flight_laws.proofs.Lists.{in_right, all_apart_of, clear_of_part, clear_join, part_of_all, flat_at, flat_same, clear_at, each_at}
use Rattle.dict_flight_laws.proofs.Orders.{exchanged, clear_free}
use Rattle.dict_flight_laws.proofs.Places.{owned_claimed, finished_claimed, with_one, assemble}
use Rattle.dict_flight_laws.proofs.Elsewhere.{all_still, all_agree}

-- Whichever phase a session commits from, its claims are the records of its plan, and none of them is done.
module _ (s : Option Story) (store : StoreValue) (wanted : Directory) (before after : List Phase) (p : Phase) (plan : Plan) (is : claims p ≡ records_of plan) (none : finished p ≡ []) (right : IsRightPlan plan wanted)
    (old : IsInFlight s store wanted (before ++ p ∷ after)) where
  abbrev left : Phase
  left = Left plan.texts plan.records

  both : AreClear (records_of plan) (all_claims before) × AreClear (records_of plan) (all_claims after)
  both = subst (λ (l : List LogRecord). AreClear l (all_claims before) × AreClear l (all_claims after)) is (clear_at before after p old.clear)

  same : (q : List ℕ) → IsFree q (records_of plan) → plan.change wanted q ≡ wanted q
  same q is_free = right.local.elsewhere wanted q is_free

  -- what the others have, by a part of their claims
  clear_part_of : (f : Phase → List LogRecord) → ((o : Phase) (x : LogRecord) → In (f o) x → In (claims o) x) → AreClear (records_of plan) (flat_map f before) × AreClear (records_of plan) (flat_map f after)
  clear_part_of f part = (
    clear_of_part (records_of plan) (all_claims before) (flat_map f before) (λ y it. part_of_all f part before y it) both.0,
    clear_of_part (records_of plan) (all_claims after) (flat_map f after) (λ y it. part_of_all f part after y it) both.1,
  )

  clear_both : (f : Phase → List LogRecord) → ((o : Phase) (x : LogRecord) → In (f o) x → In (claims o) x) → AreClear (records_of plan) (flat_map f before ++ flat_map f after)
  clear_both f part = let parts = clear_part_of f part in clear_join (records_of plan) (flat_map f before) (flat_map f after) parts.0 parts.1

  in_records : (x : LogRecord) → In plan.records x → In (records_of plan) x
  in_records x it = in_right (items_of plan.creates) plan.records x it

  -- the others' records
  finished_are : flat_map finished (before ++ p ∷ after) ≡ flat_map finished before ++ flat_map finished after
  finished_are = flat_at finished before after p ∙ ap (λ (l : List LogRecord). flat_map finished before ++ (l ++ flat_map finished after)) none

  orderly : IsOrderly (log (before ++ left ∷ after))
  orderly =
      let parts = clear_part_of owned owned_claimed in
      subst IsOrderly (sym (flat_at owned before after left))
      (exchanged (log before) (owned p) plan.records (log after) (subst IsOrderly (flat_at owned before after p) old.kept.fit.orderly)
      (λ x it. each_at ClaimsOrdinary before after p old.ordinary x (subst (λ (l : List LogRecord). In l x) (sym is) (in_records x it))) right.fits.last
      (λ x y in_x in_y. parts.0 x y (in_records x in_x) in_y) (λ x y in_x in_y. parts.1 x y (in_records x in_x) in_y))

  pub follows : (made : Option (List ℕ × List ℕ)) → LeadsTo made plan.records wanted (plan.change wanted) → Follows (owned p) plan.records made (work_of wanted (before ++ p ∷ after)) (work_of (plan.change wanted) (before ++ left ∷ after))
  follows made leads =
      let clear = clear_both owned owned_claimed in
      record {
        earlier = log before;
        later = log after;
        were = flat_at owned before after p;
        are = flat_at owned before after left;
        apart = all_apart_of plan.records (log after) (λ x y in_x in_y. clear x y (in_records x in_x) (in_right (log before) (log after) y in_y));
        leads = leads;
        agrees = all_agree wanted (plan.change wanted) (records_of plan) same (log before ++ log after) clear;
        agrees_finished = all_agree wanted (plan.change wanted) (records_of plan) same (flat_map finished (before ++ p ∷ after))
            (subst (λ (l : List LogRecord). AreClear (records_of plan) l) (sym finished_are) (clear_both finished finished_claimed));
        finished = flat_same finished before after left p (sym none);
        orderly = orderly;
      }

  pub log_clear : AreClear (records_of plan) (log before ++ log after)
  log_clear = clear_both owned owned_claimed

  pub moved_on : (t : Option Story) (grown : StoreValue) → IsKept t grown (work_of (plan.change wanted) (before ++ left ∷ after)) → IsInFlight t grown (plan.change wanted) (before ++ left ∷ after)
  moved_on t grown kept =
      assemble s t store grown wanted (plan.change wanted) before after p left old kept
      (λ x it. subst (λ (l : List LogRecord). In l x) (sym is) (in_records x it)) (right.fits.last, right.fits.given)
      (all_still wanted (plan.change wanted) (records_of plan) same before both.0) (all_still wanted (plan.change wanted) (records_of plan) same after both.1)

-- ## From either phase

module _ (s : Option Story) (store : StoreValue) (wanted : Directory) (before after : List Phase) (plan : Plan) (batch : List Operation) where
  abbrev next : Work
  next = work_of (plan.change wanted) (before ++ Left plan.texts plan.records ∷ after)

  from_planned : plan.creates ≡ None → IsInFlight s store wanted (before ++ Planned plan ∷ after) → Writes [] plan.records batch next → MayCommit s store.rows batch next
  from_planned creates old writes =
      let p = Planned plan in
      let right = each_at (IsRightAt wanted) before after p old.each in
      may_exchange s store (work_of wanted (before ++ p ∷ after)) next old.kept plan.records batch (record {
        follows = follows s store wanted before after p plan refl refl right old None (subst (λ (o : Option Creation). LeadsTo (file_of o) plan.records wanted (plan.change wanted)) creates right.fits.leads);
        writes = writes;
        made = flat_same made before after (Left plan.texts plan.records) p refl;
      })

  from_performed : (c : Creation) → IsInFlight s store wanted (before ++ Performed c plan ∷ after) → Writes (c.item ∷ []) plan.records batch next → MayCommit s store.rows batch next
  unfolding follows
  from_performed c old writes =
      let p = Performed c plan in
      let mine = each_at (IsRightAt wanted) before after p old.each in
      let is : claims p ≡ records_of plan = ap (λ (o : Option Creation). items_of o ++ plan.records) (sym mine.1) in
      let claimed : In (records_of plan) c.item = subst (λ (l : List LogRecord). In l c.item) is (inl refl) in
      may_create s store (work_of wanted (before ++ p ∷ after)) next old.kept plan.records batch c.item (made_by c) (record {
        follows = follows s store wanted before after p plan is refl mine.0 old (Some (made_by c)) (subst (λ (o : Option Creation). LeadsTo (file_of o) plan.records wanted (plan.change wanted)) mine.1 mine.0.fits.leads);
        writes = writes;
        kind = (subst (λ (o : Option Creation). MayMakeAt o wanted) mine.1 mine.0.fits.may_make).0;
        at = refl;
        is_free = clear_free c.item (log before ++ log after) (λ y it. log_clear s store wanted before after p plan is refl mine.0 old c.item y claimed it);
        made = with_one made before after (Left plan.texts plan.records) p (made_by c) refl refl;
      })

  pub may_commit : (p : Phase) → IsReady p plan → IsInFlight s store wanted (before ++ p ∷ after) → Writes (owned p) plan.records batch next → MayCommit s store.rows batch next
  may_commit Idle ready old writes = absurd ready
  may_commit (Planned it) ready old writes = from_planned ready.1 (subst (λ (x : Plan). IsInFlight s store wanted (before ++ Planned x ∷ after)) ready.0 old) writes
  may_commit (Prepared c it) ready old writes = absurd ready
  may_commit (Performed c it) ready old writes = from_performed c (subst (λ (x : Plan). IsInFlight s store wanted (before ++ Performed c x ∷ after)) ready old) writes
  may_commit (Left texts items) ready old writes = absurd ready
  may_commit (Replayed texts item items) ready old writes = absurd ready

module _ (s : Option Story) (store : StoreValue) (wanted : Directory) (before after : List Phase) (plan : Plan) (t : Option Story) (grown : StoreValue) (kept : IsKept t grown (work_of (plan.change wanted) (before ++ Left plan.texts plan.records ∷ after))) where
  pub committed : (p : Phase) → IsReady p plan → IsInFlight s store wanted (before ++ p ∷ after) → IsInFlight t grown (plan.change wanted) (before ++ Left plan.texts plan.records ∷ after)
  committed Idle ready old = absurd ready
  committed (Planned it) ready old =
      let mine = subst (λ (x : Plan). IsInFlight s store wanted (before ++ Planned x ∷ after)) ready.0 old in
      moved_on s store wanted before after (Planned plan) plan refl refl (each_at (IsRightAt wanted) before after (Planned plan) mine.each) mine t grown kept
  committed (Prepared c it) ready old = absurd ready
  committed (Performed c it) ready old =
      let it_is = subst (λ (x : Plan). IsInFlight s store wanted (before ++ Performed c x ∷ after)) ready old in
      let mine = each_at (IsRightAt wanted) before after (Performed c plan) it_is.each in
      moved_on s store wanted before after (Performed c plan) plan (ap (λ (o : Option Creation). items_of o ++ plan.records) (sym mine.1)) refl mine.0 it_is t grown kept
  committed (Left texts items) ready old = absurd ready
  committed (Replayed texts item items) ready old = absurd ready
