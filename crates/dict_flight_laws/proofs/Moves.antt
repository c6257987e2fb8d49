-- The steps of a session but its commit.
use Rattle.std.proofs.Common.{◌≡◌, inl, inr, ⊎_elim, ℕ, zero, suc, true, false, List, [], ◌∷◌, ◌++◌, Option, Some, None, refl, sym, ◌∙◌, ap, subst}
use Rattle.std.specs.List.{flat_map}
use Rattle.disk_trait.specs.Change.{Directory}
use Rattle.disk_trait.specs.Story.{Story, Images}
use Rattle.row_store.specs.Value.{StoreValue}
use Rattle.ddl_log.specs.declared.records.Kind.{Kind}
use Rattle.ddl_log.specs.declared.records.Kind.TheVariants.{DeleteSpace}
use Rattle.ddl_log.specs.declared.records.LogRecord.{LogRecord}
use Rattle.ddl_log.specs.Effect.{by_id, IsFree, IsApart}
use Rattle.ddl_log.proofs.Effects.{old_beside, old_free}
use Rattle.dict_store_laws.specs.System.{IsOrdinary, is_system}
use Rattle.post_ddl.specs.Replays.{IsGiven}
use Rattle.dict_store_laws.specs.Recovers.{IsLastAt}
use Rattle.dict_store_laws.specs.Kept.{File, Work, IsKept, AreThere, AreOwn}
use Rattle.dict_store_laws.specs.Steps.{IsWith, MayMake, MayPrepare, MayRemove, MayReplay, with_made, with_records}
use Rattle.dict_store_laws.proofs.Phases.{accounted, own_front, own_both, there_front, there_both}
use Rattle.dict_flight_laws.specs.Phases.{Creation, Plan, Phase, Idle, Planned, Prepared, Performed, Left, Replayed, items_of, records_of, made_by, owned, claims, finished, made, all_claims, log, work_of, idles}
use Rattle.dict_flight_laws.specs.Flight.{In, AreClear, AllClear, Each, ClaimsOrdinary, MayMakeAt, IsRightPlan, IsRightAt, IsInFlight}
use Rattle.dict_flight_laws.proofs.Lists.{flat_at, flat_same, clear_put, each_at, each_put}
use Rattle.dict_flight_laws.proofs.Places.{apart_before, apart_both, apart_finished, off_made, names_none_of, none_of, with_one, first_of, as_work, as_lists, each_same, moved}

-- a file that was made may be given up
forget : (s : Option Story) (store : StoreValue) (work : Work) (file : File) (made : List File) → IsKept s store work → IsWith file made work.made → IsKept s store (with_made work made)
forget s store work file made kept place =
    let own = own_front place.earlier (file ∷ place.later) (subst AreOwn place.more_is kept.fit.made) in
    record {
      path = kept.path;
      on = kept.on;
      log = kept.log;
      fit = record { orderly = kept.fit.orderly; finished = kept.fit.finished; made = subst AreOwn (sym place.without_is) (own_both place.earlier place.later own.0 own.1.1) };
      so_far = λ image it.
          let so = kept.so_far image it in
          let parts = there_front image place.earlier (file ∷ place.later) (subst (λ (l : List File). AreThere l image) place.more_is so.there) in
          record { right = so.right; done = so.done; there = subst (λ (l : List File). AreThere l image) (sym place.without_is) (there_both image place.earlier place.later parts.0 parts.1.1) };
    }

module _ (wanted : Directory) (before after : List Phase) (p q : Phase) where
  -- the work is the same where a session's part is
  pub same_work : owned p ≡ owned q → finished p ≡ finished q → made p ≡ made q → work_of wanted (before ++ p ∷ after) ≡ work_of wanted (before ++ q ∷ after)
  same_work one two three =
      as_lists wanted (log (before ++ p ∷ after)) (log (before ++ q ∷ after)) (flat_map finished (before ++ p ∷ after)) (flat_map finished (before ++ q ∷ after)) (flat_map made (before ++ p ∷ after)) (flat_map made (before ++ q ∷ after))
      (flat_same owned before after p q one) (flat_same finished before after p q two) (flat_same made before after p q three)

-- ## Begin and end

none_of_idles : {A : Type 0} (f : Phase → List A) → f Idle ≡ [] → (n : ℕ) → flat_map f (idles n) ≡ []
none_of_idles f is zero = refl
none_of_idles {A} f is (suc n) = ap (λ (l : List A). l ++ flat_map f (idles n)) is ∙ none_of_idles f is n

idle_clear : (n : ℕ) → AllClear (idles n)
idle_clear zero = tt
idle_clear (suc n) = ((λ x y absent in_y. absurd absent), idle_clear n)

idle_each : (P : Phase → Type 0) → P Idle → (n : ℕ) → Each P (idles n)
idle_each P it zero = tt
idle_each P it (suc n) = (it, idle_each P it n)

pub begins : (s : Option Story) (store : StoreValue) (wanted : Directory) (n : ℕ) → IsKept s store (record { items = []; wanted = wanted; finished = []; made = [] }) → IsInFlight s store wanted (idles n)
begins s store wanted n kept = record {
  kept = as_work s store (record { items = []; wanted = wanted; finished = []; made = [] }) (work_of wanted (idles n))
      (as_lists wanted [] (log (idles n)) [] (flat_map finished (idles n)) [] (flat_map made (idles n)) (sym (none_of_idles owned refl n)) (sym (none_of_idles finished refl n)) (sym (none_of_idles made refl n))) kept;
  clear = idle_clear n;
  ordinary = idle_each ClaimsOrdinary (λ x absent. absurd absent) n;
  each = idle_each (IsRightAt wanted) tt n;
}

pub wanted_there : (s : Option Story) (store : StoreValue) (wanted : Directory) (n : ℕ) → IsInFlight s store wanted (idles n) → (image : Directory) → Images s image → (path : List ℕ) → is_system path ≡ false → image path ≡ wanted path
wanted_there s store wanted n it image now path own =
    accounted (log (idles n)) wanted image (it.kept.so_far image now).right path own (subst (λ (l : List LogRecord). IsFree path l) (sym (none_of_idles owned refl n)) tt)

module _ (s : Option Story) (store : StoreValue) (wanted : Directory) (before after : List Phase) where
  pub plans : (plan : Plan) → IsInFlight s store wanted (before ++ Idle ∷ after) → AreClear (records_of plan) (all_claims before) → AreClear (records_of plan) (all_claims after) → ((item : LogRecord) → In (records_of plan) item → IsOrdinary item)
      → IsRightPlan plan wanted → IsInFlight s store wanted (before ++ Planned plan ∷ after)
  plans plan old one two own right = record {
    kept = as_work s store (work_of wanted (before ++ Idle ∷ after)) (work_of wanted (before ++ Planned plan ∷ after)) (same_work wanted before after Idle (Planned plan) refl refl refl) old.kept;
    clear = clear_put before after Idle (Planned plan) one two old.clear;
    ordinary = each_put ClaimsOrdinary ClaimsOrdinary before after Idle (Planned plan) (each_same ClaimsOrdinary before) (each_same ClaimsOrdinary after) own old.ordinary;
    each = each_put (IsRightAt wanted) (IsRightAt wanted) before after Idle (Planned plan) (each_same (IsRightAt wanted) before) (each_same (IsRightAt wanted) after) right old.each;
  }

  -- a step without a call
  quietly : (p q : Phase) → IsInFlight s store wanted (before ++ p ∷ after) → owned p ≡ owned q → finished p ≡ finished q → made p ≡ made q → ((x : LogRecord) → In (claims q) x → In (claims p) x) → IsRightAt wanted q
      → IsInFlight s store wanted (before ++ q ∷ after)
  quietly p q old one two three part mine =
      moved s s store store wanted before after p q old (as_work s store (work_of wanted (before ++ p ∷ after)) (work_of wanted (before ++ q ∷ after)) (same_work wanted before after p q one two three) old.kept) part mine

  pub gives_up : (plan : Plan) → IsInFlight s store wanted (before ++ Planned plan ∷ after) → IsInFlight s store wanted (before ++ Idle ∷ after)
  gives_up plan old = quietly (Planned plan) Idle old refl refl refl (λ x none. absurd none) tt

  pub ends : (texts : List ℕ → List ℕ) → IsInFlight s store wanted (before ++ Left texts [] ∷ after) → IsInFlight s store wanted (before ++ Idle ∷ after)
  ends texts old = quietly (Left texts []) Idle old refl refl refl (λ x none. absurd none) tt

  module _ (c : Creation) (plan : Plan) (texts : List ℕ → List ℕ) where
    only_item : (x : LogRecord) → In (c.item ∷ []) x → In (c.item ∷ plan.records) x
    only_item x it = ⊎_elim (λ is. inl is) (λ none. absurd none) it

    -- a record that deletes a file stands last and gets no bytes
    left_item : c.item.kind ≡ DeleteSpace → IsRightAt wanted (Left texts (c.item ∷ []))
    left_item kind = ((subst (λ (k : Kind). IsLastAt k c.item.old_path []) (sym kind) tt, tt), (subst (λ (k : Kind). IsGiven k c.item.old_path (texts c.item.old_path) wanted) (sym kind) tt, tt))

    deletes : (creates : Option Creation) → creates ≡ Some c → MayMakeAt creates wanted → (c.item.kind ≡ DeleteSpace) × (wanted c.item.old_path ≡ None)
    deletes creates is it = subst (λ (o : Option Creation). MayMakeAt o wanted) is it

    pub rolls_back : IsInFlight s store wanted (before ++ Prepared c plan ∷ after) → IsInFlight s store wanted (before ++ Left texts (c.item ∷ []) ∷ after)
    rolls_back old =
        let mine = each_at (IsRightAt wanted) before after (Prepared c plan) old.each in
        quietly (Prepared c plan) (Left texts (c.item ∷ [])) old refl refl refl only_item (left_item (deletes plan.creates mine.1 mine.0.fits.may_make).0)

    pub rolls_back_made : IsInFlight s store wanted (before ++ Performed c plan ∷ after) → IsInFlight s store wanted (before ++ Left texts (c.item ∷ []) ∷ after)
    rolls_back_made old =
        let p = Performed c plan in
        let q = Left texts (c.item ∷ []) in
        let mine = each_at (IsRightAt wanted) before after p old.each in
        let work = work_of wanted (before ++ p ∷ after) in
        let less = forget s store work (made_by c) (flat_map made (before ++ q ∷ after)) old.kept (with_one made before after q p (made_by c) refl refl) in
        moved s s store store wanted before after p q old
        (as_work s store (with_made work (flat_map made (before ++ q ∷ after))) (work_of wanted (before ++ q ∷ after))
        (as_lists wanted (log (before ++ p ∷ after)) (log (before ++ q ∷ after)) (flat_map finished (before ++ p ∷ after)) (flat_map finished (before ++ q ∷ after)) (flat_map made (before ++ q ∷ after)) (flat_map made (before ++ q ∷ after))
        (flat_same owned before after p q refl) (flat_same finished before after p q refl) refl) less)
        only_item (left_item (deletes plan.creates mine.1 mine.0.fits.may_make).0)

-- ## A creation

module _ (s : Option Story) (store : StoreValue) (wanted : Directory) (before after : List Phase) (c : Creation) (plan : Plan) where
  module _ (creates : plan.creates ≡ Some c) (old : IsInFlight s store wanted (before ++ Planned plan ∷ after)) where
    claimed : (x : LogRecord) → In (c.item ∷ plan.records) x → In (records_of plan) x
    claimed x it = subst (λ (o : Option Creation). In (items_of o ++ plan.records) x) (sym creates) it

    mine : IsRightPlan plan wanted
    mine = each_at (IsRightAt wanted) before after (Planned plan) old.each

    pub may_prepare : by_id (log (before ++ Prepared c plan ∷ after)) ≡ true → MayPrepare c.item (work_of wanted (before ++ Planned plan ∷ after)) (log (before ++ Prepared c plan ∷ after))
    may_prepare order =
        let p = Planned plan in
        let may = subst (λ (o : Option Creation). MayMakeAt o wanted) creates mine.fits.may_make in
        let here : In (claims p) c.item = claimed c.item (inl refl) in
        record {
          place = with_one owned before after p (Prepared c plan) c.item refl refl;
          order = order;
          kind = may.0;
          ordinary = each_at ClaimsOrdinary before after p old.ordinary c.item here;
          apart = subst (λ (l : List LogRecord). IsApart c.item l) (sym (flat_at owned before after p)) (apart_both before after p old.clear c.item here);
          unwanted = may.1;
        }

    pub prepared : (t : Option Story) (grown : StoreValue) → IsKept t grown (with_records (work_of wanted (before ++ Planned plan ∷ after)) (log (before ++ Prepared c plan ∷ after)) (flat_map finished (before ++ Planned plan ∷ after)))
        → IsInFlight t grown wanted (before ++ Prepared c plan ∷ after)
    prepared t grown kept =
        let p = Planned plan in
        let q = Prepared c plan in
        moved s t store grown wanted before after p q old
        (as_work t grown (with_records (work_of wanted (before ++ p ∷ after)) (log (before ++ q ∷ after)) (flat_map finished (before ++ p ∷ after))) (work_of wanted (before ++ q ∷ after))
        (as_lists wanted (log (before ++ q ∷ after)) (log (before ++ q ∷ after)) (flat_map finished (before ++ p ∷ after)) (flat_map finished (before ++ q ∷ after)) (flat_map made (before ++ p ∷ after)) (flat_map made (before ++ q ∷ after))
        refl (flat_same finished before after p q refl) (flat_same made before after p q refl)) kept)
        claimed (mine, creates)

  module _ (old : IsInFlight s store wanted (before ++ Prepared c plan ∷ after)) where
    mine_prepared : IsRightPlan plan wanted × (plan.creates ≡ Some c)
    mine_prepared = each_at (IsRightAt wanted) before after (Prepared c plan) old.each

    kind : c.item.kind ≡ DeleteSpace
    kind = (subst (λ (o : Option Creation). MayMakeAt o wanted) mine_prepared.1 mine_prepared.0.fits.may_make).0

    pub may_make : MayMake c.item.old_path (work_of wanted (before ++ Prepared c plan ∷ after)) × IsWith (made_by c) (flat_map made (before ++ Prepared c plan ∷ after)) (flat_map made (before ++ Performed c plan ∷ after))
    may_make = (
      record {
        item = c.item;
        first = first_of before after (Prepared c plan) c.item [] old.clear refl;
        kind = kind;
        at = refl;
        finished = old_free c.item.kind c.item.old_path c.item.new_path (flat_map finished (before ++ Prepared c plan ∷ after)) (apart_finished before after (Prepared c plan) old.clear c.item (inl refl) refl);
        made = none_of c.item.old_path (flat_map made (before ++ Prepared c plan ∷ after)) (λ f it. old_beside c.item.kind c.item.old_path c.item.new_path f.0 (off_made before after (Prepared c plan) old.clear c.item (inl refl) refl f it));
      },
      with_one made before after (Prepared c plan) (Performed c plan) (made_by c) refl refl,
    )

    pub performed : (t : Option Story) (grown : StoreValue) → IsKept t grown (with_made (work_of wanted (before ++ Prepared c plan ∷ after)) (flat_map made (before ++ Performed c plan ∷ after))) → IsInFlight t grown wanted (before ++ Performed c plan ∷ after)
    performed t grown kept =
        let p = Prepared c plan in
        let q = Performed c plan in
        moved s t store grown wanted before after p q old
        (as_work t grown (with_made (work_of wanted (before ++ p ∷ after)) (flat_map made (before ++ q ∷ after))) (work_of wanted (before ++ q ∷ after))
        (as_lists wanted (log (before ++ p ∷ after)) (log (before ++ q ∷ after)) (flat_map finished (before ++ p ∷ after)) (flat_map finished (before ++ q ∷ after)) (flat_map made (before ++ q ∷ after)) (flat_map made (before ++ q ∷ after))
        (flat_same owned before after p q refl) (flat_same finished before after p q refl) refl) kept)
        (λ x it. it) mine_prepared

-- ## A record

module _ (s : Option Story) (store : StoreValue) (wanted : Directory) (before after : List Phase) (texts : List ℕ → List ℕ) (item : LogRecord) (items : List LogRecord) where
  module _ (old : IsInFlight s store wanted (before ++ Left texts (item ∷ items) ∷ after)) where
    pub may_replay : MayReplay item (texts item.old_path) (work_of wanted (before ++ Left texts (item ∷ items) ∷ after))
        × IsWith item (flat_map finished (before ++ Left texts (item ∷ items) ∷ after)) (flat_map finished (before ++ Replayed texts item items ∷ after))
    may_replay =
        let p = Left texts (item ∷ items) in (
          record {
            first = first_of before after p item items old.clear refl;
            given = (each_at (IsRightAt wanted) before after p old.each).1.0;
            finished = apart_finished before after p old.clear item (inl refl) refl;
            made = names_none_of item (flat_map made (before ++ p ∷ after)) (λ f it. off_made before after p old.clear item (inl refl) refl f it);
          },
          with_one finished before after p (Replayed texts item items) item refl refl,
        )

    pub replayed : (t : Option Story) (grown : StoreValue)
        → IsKept t grown (with_records (work_of wanted (before ++ Left texts (item ∷ items) ∷ after)) (log (before ++ Left texts (item ∷ items) ∷ after)) (flat_map finished (before ++ Replayed texts item items ∷ after)))
        → IsInFlight t grown wanted (before ++ Replayed texts item items ∷ after)
    replayed t grown kept =
        let p = Left texts (item ∷ items) in
        let q = Replayed texts item items in
        let mine = each_at (IsRightAt wanted) before after p old.each in
        moved s t store grown wanted before after p q old
        (as_work t grown (with_records (work_of wanted (before ++ p ∷ after)) (log (before ++ p ∷ after)) (flat_map finished (before ++ q ∷ after))) (work_of wanted (before ++ q ∷ after))
        (as_lists wanted (log (before ++ p ∷ after)) (log (before ++ q ∷ after)) (flat_map finished (before ++ q ∷ after)) (flat_map finished (before ++ q ∷ after)) (flat_map made (before ++ p ∷ after)) (flat_map made (before ++ q ∷ after))
        (flat_same owned before after p q refl) refl (flat_same made before after p q refl)) kept)
        (λ x it. it) (mine.0, mine.1.1)

  module _ (old : IsInFlight s store wanted (before ++ Replayed texts item items ∷ after)) where
    pub may_remove : MayRemove item (work_of wanted (before ++ Replayed texts item items ∷ after)) (log (before ++ Left texts items ∷ after)) (flat_map finished (before ++ Left texts items ∷ after))
    may_remove =
        let p = Replayed texts item items in
        let q = Left texts items in
        record {
          place = record { earlier = log before; later = items ++ log after; without_is = flat_at owned before after q; more_is = flat_at owned before after p };
          done = with_one finished before after q p item refl refl;
          apart = apart_before before after p old.clear item (inl refl);
        }

    pub removed : (t : Option Story) (grown : StoreValue)
        → IsKept t grown (with_records (work_of wanted (before ++ Replayed texts item items ∷ after)) (log (before ++ Left texts items ∷ after)) (flat_map finished (before ++ Left texts items ∷ after)))
        → IsInFlight t grown wanted (before ++ Left texts items ∷ after)
    removed t grown kept =
        let p = Replayed texts item items in
        let q = Left texts items in
        let mine = each_at (IsRightAt wanted) before after p old.each in
        moved s t store grown wanted before after p q old
        (as_work t grown (with_records (work_of wanted (before ++ p ∷ after)) (log (before ++ q ∷ after)) (flat_map finished (before ++ q ∷ after))) (work_of wanted (before ++ q ∷ after))
        (as_lists wanted (log (before ++ q ∷ after)) (log (before ++ q ∷ after)) (flat_map finished (before ++ q ∷ after)) (flat_map finished (before ++ q ∷ after)) (flat_map made (before ++ p ∷ after)) (flat_map made (before ++ q ∷ after))
        refl refl (flat_same made before after p q refl)) kept)
        (λ x it. inr it) (mine.0.1, mine.1)
