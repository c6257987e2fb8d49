-- One session's records among those of the others.
use Rattle.std.proofs.Common.{◌≡◌, ◌⊎◌, inl, inr, ⊎_elim, ℕ, List, [], ◌∷◌, ◌++◌, Option, refl, sym, ◌∙◌, ap, subst}
use Rattle.std.specs.List.{flat_map}
use Rattle.disk_trait.specs.Change.{Directory}
use Rattle.disk_trait.specs.Story.{Story}
use Rattle.row_store.specs.Value.{StoreValue}
use Rattle.ddl_log.specs.declared.records.LogRecord.{LogRecord}
use Rattle.ddl_log.specs.Effect.{Differs, IsOff, IsApart}
use Rattle.ddl_log.proofs.Effects.{old_free}
use Rattle.dict_store_laws.specs.Kept.{File, Work, NamesNone, IsNone, IsKept}
use Rattle.dict_store_laws.specs.Steps.{IsWith, IsFirst}
use Rattle.dict_flight_laws.specs.Phases.{Phase, Idle, Planned, Prepared, Performed, Left, Replayed, owned, claims, finished, made, all_claims, log, work_of}
use Rattle.dict_flight_laws.specs.Flight.{In, AllClear, Each, ClaimsOrdinary, IsRightAt, IsInFlight}
use Rattle.dict_flight_laws.proofs.Lists.{in_left, in_right, in_either, apart_of, clear_sym, clear_part, part_of_all, flat_at, clear_at, clear_put, each_at, each_put, each_of}

-- ## What a session has is among its claims

pub owned_claimed : (p : Phase) (x : LogRecord) → In (owned p) x → In (claims p) x
owned_claimed Idle x it = it
owned_claimed (Planned plan) x it = absurd it
owned_claimed (Prepared c plan) x it = ⊎_elim (λ is. inl is) (λ none. absurd none) it
owned_claimed (Performed c plan) x it = ⊎_elim (λ is. inl is) (λ none. absurd none) it
owned_claimed (Left texts items) x it = it
owned_claimed (Replayed texts item items) x it = it

pub finished_claimed : (p : Phase) (x : LogRecord) → In (finished p) x → In (claims p) x
finished_claimed Idle x it = it
finished_claimed (Planned plan) x it = absurd it
finished_claimed (Prepared c plan) x it = absurd it
finished_claimed (Performed c plan) x it = absurd it
finished_claimed (Left texts items) x it = absurd it
finished_claimed (Replayed texts item items) x it = ⊎_elim (λ is. inl is) (λ none. absurd none) it

-- a file is at the path of one of these records
record IsAtOne (items : List LogRecord) (f : File) : Type 0 where
  item : LogRecord
  claimed : In items item
  at : item.old_path ≡ f.0

made_one : (p : Phase) (f : File) → In (made p) f → IsAtOne (claims p) f
made_one Idle f it = absurd it
made_one (Planned plan) f it = absurd it
made_one (Prepared c plan) f it = absurd it
made_one (Performed c plan) f it = ⊎_elim (λ is. record { item = c.item; claimed = inl refl; at = ap (λ (g : File). g.0) is }) (λ none. absurd none) it
made_one (Left texts items) f it = absurd it
made_one (Replayed texts item items) f it = absurd it

made_claimed : (ps : List Phase) (f : File) → In (flat_map made ps) f → IsAtOne (all_claims ps) f
made_claimed [] f it = absurd it
made_claimed (p ∷ ps) f it = ⊎_elim
    (λ l. let m = made_one p f l in record { item = m.item; claimed = in_left (claims p) (all_claims ps) m.item m.claimed; at = m.at })
    (λ r. let m = made_claimed ps f r in record { item = m.item; claimed = in_right (claims p) (all_claims ps) m.item m.claimed; at = m.at })
    (in_either (made p) (flat_map made ps) f it)

-- ## What it claims is apart from what the others have

off_old : (item y : LogRecord) → IsApart item (y ∷ []) → IsOff item y.old_path
off_old item y it = (old_free y.kind y.old_path y.new_path (item ∷ []) (clear_sym item y it)).0

pub names_none_of : (item : LogRecord) (files : List File) → ((f : File) → In files f → IsOff item f.0) → NamesNone item files
names_none_of item [] all = tt
names_none_of item (f ∷ fs) all = (all f (inl refl), names_none_of item fs (λ g it. all g (inr it)))

pub none_of : (path : List ℕ) (files : List File) → ((f : File) → In files f → Differs path f.0) → IsNone path files
none_of path [] all = tt
none_of path (f ∷ fs) all = (all f (inl refl), none_of path fs (λ g it. all g (inr it)))

module _ (before after : List Phase) (p : Phase) (clear : AllClear (before ++ p ∷ after)) (item : LogRecord) (mine : In (claims p) item) where
  clear_others : (y : LogRecord) → In (all_claims before) y ⊎ In (all_claims after) y → IsApart item (y ∷ [])
  clear_others y it = let both = clear_at before after p clear in ⊎_elim (λ l. both.0 item y mine l) (λ r. both.1 item y mine r) it

  pub apart_before : IsApart item (log before)
  apart_before = apart_of item (log before) (λ y it. clear_others y (inl (part_of_all owned owned_claimed before y it)))

  pub apart_both : IsApart item (log before ++ log after)
  apart_both = apart_of item (log before ++ log after)
      (λ y it. clear_others y (⊎_elim (λ l. inl (part_of_all owned owned_claimed before y l)) (λ r. inr (part_of_all owned owned_claimed after y r)) (in_either (log before) (log after) y it)))

  -- where it has no record that is done, and no file
  pub apart_finished : finished p ≡ [] → IsApart item (flat_map finished (before ++ p ∷ after))
  apart_finished none = apart_of item (flat_map finished (before ++ p ∷ after)) (λ y it.
      let at = subst (λ (l : List LogRecord). In l y) (flat_at finished before after p ∙ ap (λ (l : List LogRecord). flat_map finished before ++ (l ++ flat_map finished after)) none) it in
      clear_others y (⊎_elim (λ l. inl (part_of_all finished finished_claimed before y l)) (λ r. inr (part_of_all finished finished_claimed after y r)) (in_either (flat_map finished before) (flat_map finished after) y at)))

  pub off_made : made p ≡ [] → (f : File) → In (flat_map made (before ++ p ∷ after)) f → IsOff item f.0
  off_made none f it =
      let at = subst (λ (l : List File). In l f) (flat_at made before after p ∙ ap (λ (l : List File). flat_map made before ++ (l ++ flat_map made after)) none) it in
      ⊎_elim (λ l. by (all_claims before) (made_claimed before f l) (λ m. inl m)) (λ r. by (all_claims after) (made_claimed after f r) (λ m. inr m)) (in_either (flat_map made before) (flat_map made after) f at)
    where
      by : (items : List LogRecord) (m : IsAtOne items f) → (In items m.item → In (all_claims before) m.item ⊎ In (all_claims after) m.item) → IsOff item f.0
      by items m place = subst (λ (path : List ℕ). IsOff item path) m.at (off_old item m.item (clear_others m.item (place m.claimed)))

-- ## Lists with one more

pub with_one : {A : Type 0} (f : Phase → List A) (before after : List Phase) (p q : Phase) (x : A) → f p ≡ [] → f q ≡ x ∷ [] → IsWith x (flat_map f (before ++ p ∷ after)) (flat_map f (before ++ q ∷ after))
with_one {A} f before after p q x none one = record {
  earlier = flat_map f before;
  later = flat_map f after;
  without_is = flat_at f before after p ∙ ap (λ (l : List A). flat_map f before ++ (l ++ flat_map f after)) none;
  more_is = flat_at f before after q ∙ ap (λ (l : List A). flat_map f before ++ (l ++ flat_map f after)) one;
}

-- the first of a session's records
pub first_of : (before after : List Phase) (p : Phase) (item : LogRecord) (rest : List LogRecord) → AllClear (before ++ p ∷ after) → owned p ≡ item ∷ rest → IsFirst item (log (before ++ p ∷ after))
first_of before after p item rest clear own = record {
  earlier = log before;
  later = rest ++ log after;
  are = flat_at owned before after p ∙ ap (λ (l : List LogRecord). log before ++ (l ++ log after)) own;
  apart = apart_before before after p clear item (owned_claimed p item (subst (λ (l : List LogRecord). In l item) (sym own) (inl refl)));
}

-- ## The whole, from its parts

pub as_work : (t : Option Story) (grown : StoreValue) (work other : Work) → work ≡ other → IsKept t grown work → IsKept t grown other
as_work t grown work other same it = subst (λ (w : Work). IsKept t grown w) same it

pub as_lists : (wanted : Directory) (items items' done done' : List LogRecord) (files files' : List File) → items ≡ items' → done ≡ done' → files ≡ files'
    → ◌≡◌ {A = Work} (record { items = items; wanted = wanted; finished = done; made = files }) (record { items = items'; wanted = wanted; finished = done'; made = files' })
as_lists wanted items items' done done' files files' one two three =
    ap (λ (l : List LogRecord). record { items = l; wanted = wanted; finished = done; made = files }) one
    ∙ ap (λ (l : List LogRecord). record { items = items'; wanted = wanted; finished = l; made = files }) two
    ∙ ap (λ (l : List File). record { items = items'; wanted = wanted; finished = done'; made = l }) three

pub each_same : (P : Phase → Type 0) (ps : List Phase) → Each (λ o. P o → P o) ps
each_same P ps = each_of (λ o. P o → P o) (λ p x. x) ps

pub assemble : (s t : Option Story) (store grown : StoreValue) (wanted next : Directory) (before after : List Phase) (p q : Phase) → IsInFlight s store wanted (before ++ p ∷ after) → IsKept t grown (work_of next (before ++ q ∷ after))
    → ((x : LogRecord) → In (claims q) x → In (claims p) x) → IsRightAt next q → Each (λ o. IsRightAt wanted o → IsRightAt next o) before → Each (λ o. IsRightAt wanted o → IsRightAt next o) after
    → IsInFlight t grown next (before ++ q ∷ after)
assemble s t store grown wanted next before after p q old kept part mine one two =
    let both = clear_at before after p old.clear in
    record {
      kept = kept;
      clear = clear_put before after p q (clear_part (claims p) (all_claims before) (claims q) part both.0) (clear_part (claims p) (all_claims after) (claims q) part both.1) old.clear;
      ordinary = each_put ClaimsOrdinary ClaimsOrdinary before after p q (each_same ClaimsOrdinary before) (each_same ClaimsOrdinary after) (λ x it. each_at ClaimsOrdinary before after p old.ordinary x (part x it)) old.ordinary;
      each = each_put (IsRightAt wanted) (IsRightAt next) before after p q one two mine old.each;
    }

-- where the same files are wanted
pub moved : (s t : Option Story) (store grown : StoreValue) (wanted : Directory) (before after : List Phase) (p q : Phase) → IsInFlight s store wanted (before ++ p ∷ after) → IsKept t grown (work_of wanted (before ++ q ∷ after))
    → ((x : LogRecord) → In (claims q) x → In (claims p) x) → IsRightAt wanted q → IsInFlight t grown wanted (before ++ q ∷ after)
moved s t store grown wanted before after p q old kept part mine =
    assemble s t store grown wanted wanted before after p q old kept part mine (each_same (IsRightAt wanted) before) (each_same (IsRightAt wanted) after)
