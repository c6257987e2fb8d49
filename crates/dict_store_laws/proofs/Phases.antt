-- What the steps of a session leave: the record of a creation, its file, the operation of a record, and its removal.
use Rattle.std.proofs.Common.{◌≡◌, ℕ, Bool, false, if◌then◌else◌, List, [], ◌∷◌, ◌++◌, Option, Some, None, refl, sym, ◌∙◌, ap, subst}
use Rattle.std.specs.List.{AllByRecursion}
use Rattle.disk_trait.specs.Change.{Directory}
use Rattle.disk_trait.specs.Story.{Story, Images, reads, IsSoundStory}
use Rattle.disk_trait.proofs.Acts.{reads_now}
use Rattle.disk_trait.specs.Carried.{Off, Leaves, Comes, Carries, Turns}
use Rattle.disk_trait.proofs.Follows.{apart-sym}
use Rattle.row_batch.specs.declared.operation.Operation.{Operation}
use Rattle.row_batch.specs.Rows.{applied}
use Rattle.row_store.specs.Value.{StoreValue}
use Rattle.row_store.specs.OnDisk.{HasRows, IsOnDisk}
use Rattle.ddl_log.specs.declared.records.Kind.{Kind}
use Rattle.ddl_log.specs.declared.records.Kind.TheVariants.{DeleteSpace, RenameSpace, WriteSdi}
use Rattle.ddl_log.specs.declared.records.LogRecord.{LogRecord}
use Rattle.ddl_log.specs.Effect.{Differs, IsBeside, IsOff, IsFree, AreBeside, IsApart, IsDone, IsUnder}
use Rattle.ddl_log.proofs.Effects.{free, is_done, is_under, old_beside}
use Rattle.post_ddl.specs.Replays.{Does}
use Rattle.log_rows.specs.Logs.{IsLog}
use Rattle.log_rows.proofs.Logs.{one_log}
use Rattle.dict_store_laws.specs.System.{system_path, is_system, stripped, IsOrdinary, IsRight}
use Rattle.dict_store_laws.specs.Recovers.{IsLastAt, AreLast, IsOrderly, Holds}
use Rattle.dict_store_laws.specs.Kept.{File, Work, AreDone, AreThere, AreOwn, NamesNone, IsNone, IsFit, IsSoFar, IsKept}
use Rattle.dict_store_laws.specs.Steps.{IsWith, IsFirst, MayCommit, MayPrepare, MayMake, MayRemove, with_records, with_made}
use Rattle.dict_store_laws.proofs.Stripped.{system_is, system_differs, off_system, right_under, right_done, right_added, right_covered, one_of, without_one, with_one}
use Rattle.dict_store_laws.proofs.Planned.{done_absent, apart_first, done_apart}
use Rattle.dict_store_laws.proofs.Leaving.{leaves_by, has_rows, stays_on}

-- ## Lists of what is done and there

pub as_items : (xs ys : List LogRecord) (wanted d : Directory) → xs ≡ ys → IsRight xs wanted d → IsRight ys wanted d
as_items xs ys wanted d same right = subst (λ (l : List LogRecord). IsRight l wanted d) same right

module _ (wanted d : Directory) where
  pub done_front : (xs ys : List LogRecord) → AreDone (xs ++ ys) wanted d → AreDone xs wanted d × AreDone ys wanted d
  done_front [] ys it = (tt, it)
  done_front (x ∷ xs) ys it = let rest = done_front xs ys it.1 in ((it.0, rest.0), rest.1)

  pub done_both : (xs ys : List LogRecord) → AreDone xs wanted d → AreDone ys wanted d → AreDone (xs ++ ys) wanted d
  done_both [] ys one two = two
  done_both (x ∷ xs) ys one two = (one.0, done_both xs ys one.1 two)

module _ (d : Directory) where
  pub there_front : (xs ys : List File) → AreThere (xs ++ ys) d → AreThere xs d × AreThere ys d
  there_front [] ys it = (tt, it)
  there_front (x ∷ xs) ys it = let rest = there_front xs ys it.1 in ((it.0, rest.0), rest.1)

  pub there_both : (xs ys : List File) → AreThere xs d → AreThere ys d → AreThere (xs ++ ys) d
  there_both [] ys one two = two
  there_both (x ∷ xs) ys one two = (one.0, there_both xs ys one.1 two)

pub own_front : (xs ys : List File) → AreOwn (xs ++ ys) → AreOwn xs × AreOwn ys
own_front [] ys it = (tt, it)
own_front (x ∷ xs) ys it = let rest = own_front xs ys it.1 in ((it.0, rest.0), rest.1)

pub own_both : (xs ys : List File) → AreOwn xs → AreOwn ys → AreOwn (xs ++ ys)
own_both [] ys one two = two
own_both (x ∷ xs) ys one two = (one.0, own_both xs ys one.1 two)

-- done records stay done, and files there, as the directory changes at the paths of a record that is apart from them
all_done : (item : LogRecord) (fs : List LogRecord) (wanted d e : Directory) → IsApart item fs → ((q : List ℕ) → IsOff item q → e q ≡ d q) → AreDone fs wanted d → AreDone fs wanted e
all_done item [] wanted d e apart same it = tt
all_done item (f ∷ fs) wanted d e apart same it =
    let parts = apart_first item f fs apart in (done_apart item f wanted d e parts.0 same it.0, all_done item fs wanted d e parts.1 same it.1)

there_off : (item : LogRecord) (files : List File) (d e : Directory) → NamesNone item files → ((q : List ℕ) → IsOff item q → e q ≡ d q) → AreThere files d → AreThere files e
there_off item [] d e off same it = tt
there_off item (f ∷ fs) d e off same it = (same f.0 off.0 ∙ it.0, there_off item fs d e off.1 same it.1)

there_other : (path : List ℕ) (files : List File) (d e : Directory) → IsNone path files → Off path d e → AreThere files d → AreThere files e
there_other path [] d e other off it = tt
there_other path (f ∷ fs) d e other off it = (off f.0 other.0 ∙ it.0, there_other path fs d e other.1 off it.1)

-- ## The order of records

-- where a record comes that names no path of the others, files that are written anew are still named last
free_with : (p : List ℕ) (xs ys : List LogRecord) (item : LogRecord) → IsOff item p → IsFree p (xs ++ ys) → IsFree p (xs ++ item ∷ ys)
free_with p [] ys item off it = (off, it)
free_with p (x ∷ xs) ys item off it = (it.0, free_with p xs ys item off it.1)

free_without : (p : List ℕ) (xs ys : List LogRecord) (item : LogRecord) → IsFree p (xs ++ item ∷ ys) → IsFree p (xs ++ ys)
free_without p [] ys item it = it.1
free_without p (x ∷ xs) ys item it = (it.0, free_without p xs ys item it.1)

last_at_with : (kind : Kind) (p : List ℕ) (xs ys : List LogRecord) (item : LogRecord) → IsOff item p → IsLastAt kind p (xs ++ ys) → IsLastAt kind p (xs ++ item ∷ ys)
last_at_with DeleteSpace p xs ys item off it = tt
last_at_with RenameSpace p xs ys item off it = tt
last_at_with WriteSdi p xs ys item off it = free_with p xs ys item off it

last_at_without : (kind : Kind) (p : List ℕ) (xs ys : List LogRecord) (item : LogRecord) → IsLastAt kind p (xs ++ item ∷ ys) → IsLastAt kind p (xs ++ ys)
last_at_without DeleteSpace p xs ys item it = tt
last_at_without RenameSpace p xs ys item it = tt
last_at_without WriteSdi p xs ys item it = free_without p xs ys item it

pub last_without : (xs ys : List LogRecord) (item : LogRecord) → AreLast (xs ++ item ∷ ys) → AreLast (xs ++ ys)
last_without [] ys item it = it.1
last_without (x ∷ xs) ys item it = (last_at_without x.kind x.old_path xs ys item it.0, last_without xs ys item it.1)

-- a deletion of a path that none of the others names
last_with : (xs ys : List LogRecord) (item : LogRecord) → item.kind ≡ DeleteSpace → IsFree item.old_path (xs ++ ys) → AreLast (xs ++ ys) → AreLast (xs ++ item ∷ ys)
last_with [] ys item kind is_free it = (subst (λ (k : Kind). IsLastAt k item.old_path ys) (sym kind) tt, it)
last_with (x ∷ xs) ys item kind is_free it = (last_at_with x.kind x.old_path xs ys item off it.0, last_with xs ys item kind is_free.1 it.1)
  where
    off : IsOff item x.old_path
    off = subst (λ (k : Kind). IsBeside k item.old_path item.new_path x.old_path) (sym kind) (apart-sym x.old_path item.old_path (old_beside x.kind x.old_path x.new_path item.old_path is_free.0))

pub apart_is : (item : LogRecord) (items : List LogRecord) → item.kind ≡ DeleteSpace → IsApart item items → IsFree item.old_path items
apart_is item items kind it = subst (λ (k : Kind). AreBeside k item.old_path item.new_path items) kind it

pub is_apart : (item : LogRecord) (items : List LogRecord) → item.kind ≡ DeleteSpace → IsFree item.old_path items → IsApart item items
is_apart item items kind it = subst (λ (k : Kind). AreBeside k item.old_path item.new_path items) (sym kind) it

pub free_back : (p : List ℕ) (xs ys : List LogRecord) → IsFree p (xs ++ ys) → IsFree p ys
free_back p [] ys it = it
free_back p (x ∷ xs) ys it = free_back p xs ys it.1

pub orderly_without : (xs ys : List LogRecord) (item : LogRecord) → IsOrderly (xs ++ item ∷ ys) → IsOrderly (xs ++ ys)
orderly_without xs ys item it = record { ordinary = without_one IsOrdinary xs ys item it.ordinary; last = last_without xs ys item it.last }

-- ## A commit of a record and of its removal

module _ (s : Option Story) (store : StoreValue) (work : Work) (kept : IsKept s store work) (item : LogRecord) (items : List LogRecord) where
  pub may_prepare : (batch : List Operation) → MayPrepare item work items → IsLog (applied batch store.rows) items → MayCommit s store.rows batch (with_records work items work.finished)
  may_prepare batch may log =
      let p = may.place in
      let is_free : IsFree item.old_path (p.earlier ++ p.later) = subst (λ (l : List LogRecord). IsFree item.old_path l) p.without_is (apart_is item work.items may.kind may.apart) in
      let was : IsOrderly (p.earlier ++ p.later) = subst IsOrderly p.without_is kept.fit.orderly in
      let now : IsOrderly (p.earlier ++ item ∷ p.later) = record { ordinary = with_one IsOrdinary p.earlier p.later item may.ordinary was.ordinary; last = last_with p.earlier p.later item may.kind is_free was.last } in
      record {
        log = log;
        fit = record { orderly = subst IsOrderly (sym p.more_is) now; finished = kept.fit.finished; made = kept.fit.made };
        so_far = λ image it. let so = kept.so_far image it in record {
          right =
              as_items (p.earlier ++ item ∷ p.later) items work.wanted image (sym p.more_is)
              (right_added item p.earlier p.later work.wanted image image (is_apart item p.later may.kind (free_back item.old_path p.earlier p.later is_free)) (done_absent item work.wanted may.kind may.unwanted)
              (as_items work.items (p.earlier ++ p.later) work.wanted image p.without_is so.right));
          done = so.done;
          there = so.there;
        };
      }

  module _ (finished : List LogRecord) where
    pub may_remove : (batch : List Operation) → MayRemove item work items finished → IsLog (applied batch store.rows) items → MayCommit s store.rows batch (with_records work items finished)
    may_remove batch may log =
        let p = may.place in
        let q = may.done in
        let own : AllByRecursion IsOrdinary (q.earlier ++ item ∷ q.later) = subst (λ (l : List LogRecord). AllByRecursion IsOrdinary l) q.more_is kept.fit.finished in
        let was : IsOrderly (p.earlier ++ item ∷ p.later) = subst IsOrderly p.more_is kept.fit.orderly in
        record {
          log = log;
          fit = record {
            orderly = subst IsOrderly (sym p.without_is) (orderly_without p.earlier p.later item was);
            finished = subst (λ (l : List LogRecord). AllByRecursion IsOrdinary l) (sym q.without_is) (without_one IsOrdinary q.earlier q.later item own);
            made = kept.fit.made;
          };
          so_far = λ image it.
              let so = kept.so_far image it in
              let done : AreDone (q.earlier ++ item ∷ q.later) work.wanted image = subst (λ (l : List LogRecord). AreDone l work.wanted image) q.more_is so.done in
              let parts = done_front work.wanted image q.earlier (item ∷ q.later) done in
              record {
                right =
                    as_items (p.earlier ++ p.later) items work.wanted image (sym p.without_is)
                    (right_done item p.earlier p.later work.wanted image image (one_of IsOrdinary q.earlier q.later item own) may.apart parts.1.0
                    (as_items work.items (p.earlier ++ item ∷ p.later) work.wanted image p.more_is so.right));
                done = subst (λ (l : List LogRecord). AreDone l work.wanted image) (sym q.without_is) (done_both work.wanted image q.earlier q.later parts.0 parts.1.1);
                there = so.there;
              };
        }

-- ## A step that leaves the system file alone

module _ (s : Option Story) (store : StoreValue) (work : Work) (kept : IsKept s store work) where
  pub rows_there : (image : Directory) → Images s image → HasRows store.rows (image system_path)
  rows_there image it = subst (λ (p : List ℕ). HasRows store.rows (image p)) kept.path (has_rows store s kept.on image it)

  -- each crash leaves the store's rows, and files that fit
  pub kept_holds : (image : Directory) → Images s image → Holds store.rows work.wanted image
  kept_holds image it = record { items = work.items; file = rows_there image it; log = kept.log; orderly = kept.fit.orderly; right = (kept.so_far image it).right }

  module _ (R : Directory → Directory → Type 0) (alone : (d e : Directory) → R d e → e system_path ≡ d system_path) where
    pub step_leaves : ((d e : Directory) → IsRight work.items work.wanted d → R d e → IsRight work.items work.wanted e) → (before now : ℕ) (t : Option Story) → Carries R before now s t
        → Leaves before now s t (Holds store.rows work.wanted)
    step_leaves right before now t it = leaves_by R (Holds store.rows work.wanted) before now s t it (λ d e from step. record {
      items = work.items;
      file = subst (λ (x : Option (List ℕ)). HasRows store.rows x) (sym (alone d e step)) (rows_there d from);
      log = kept.log;
      orderly = kept.fit.orderly;
      right = right d e (kept.so_far d from).right step;
    })

    at_path : (d e : Directory) → e system_path ≡ d system_path → e store.journal.path ≡ d store.journal.path
    at_path d e same = subst (λ (p : List ℕ). e p ≡ d p) (sym kept.path) same

    pub step_kept : (t : Option Story) (next : Work) (Q : Directory → Directory → Type 0) → ((d e : Directory) → Q d e → e system_path ≡ d system_path)
        → next.items ≡ work.items → IsFit next → ((d e : Directory) → Images t e → IsSoFar work d → R d e → IsSoFar next e) → Turns s t Q → ((image : Directory) → Images t image → Comes R s image) → IsKept t store next
    step_kept t next Q read_alone same fit so_far turns comes = record {
      path = kept.path;
      on = stays_on store R Q (λ d e step. at_path d e (alone d e step)) (λ d e step. at_path d e (read_alone d e step)) s t turns comes kept.on;
      log = subst (λ (l : List LogRecord). IsLog store.rows l) (sym same) kept.log;
      fit = fit;
      so_far = λ image it. let from = comes image it in so_far from.0 image it (kept.so_far from.0 from.1) from.2;
    }

-- ## The file of a creation

off_alone : (path : List ℕ) → is_system path ≡ false → (d e : Directory) → Off path d e → e system_path ≡ d system_path
off_alone path own d e off = off system_path (system_differs path system_path own system_is)

module _ (s : Option Story) (store : StoreValue) (work : Work) (kept : IsKept s store work) (path : List ℕ) (own : is_system path ≡ false) where
  module _ (may : MayMake path work) where
    off_here : (d e : Directory) → Off path d e → (q : List ℕ) → Differs may.item.old_path q → e q ≡ d q
    off_here d e off q apart = off q (subst (λ (p : List ℕ). Differs p q) may.at apart)

    make_right : (d e : Directory) → IsRight work.items work.wanted d → Off path d e → IsRight work.items work.wanted e
    make_right d e right off =
        let f = may.first in
        as_items (f.earlier ++ may.item ∷ f.later) work.items work.wanted e (sym f.are)
        (right_covered may.item f.earlier f.later work.wanted d e may.kind (apart_is may.item f.earlier may.kind f.apart) (off_here d e off)
        (as_items work.items (f.earlier ++ may.item ∷ f.later) work.wanted d f.are right))

    pub make_leaves : (before now : ℕ) (t : Option Story) → Carries (Off path) before now s t → Leaves before now s t (Holds store.rows work.wanted)
    make_leaves before now t it = step_leaves s store work kept (Off path) (off_alone path own) make_right before now t it

    off_kind : (q : List ℕ) → IsOff may.item q → Differs may.item.old_path q
    off_kind q off = old_beside may.item.kind may.item.old_path may.item.new_path q off

    make_so_far : (d e : Directory) → IsSoFar work d → Off path d e → IsSoFar work e
    make_so_far d e so off = record {
      right = make_right d e so.right off;
      done = all_done may.item work.finished work.wanted d e (is_apart may.item work.finished may.kind (subst (λ (p : List ℕ). IsFree p work.finished) (sym may.at) may.finished)) (λ q apart. off_here d e off q (off_kind q apart)) so.done;
      there = there_other path work.made d e may.made off so.there;
    }

    -- whatever the call answers
    pub make_keeps : (before now : ℕ) (t : Option Story) → Carries (Off path) before now s t → Turns s t (Off path) → IsKept t store work
    make_keeps before now t it turns =
        step_kept s store work kept (Off path) (off_alone path own) t work (Off path) (off_alone path own) refl kept.fit (λ d e now so off. make_so_far d e so off) turns it.images

    -- and once the file is made
    pub make_made : (bytes : List ℕ) (made : List File) (before now : ℕ) (t : Option Story) → IsWith (path, bytes) work.made made → Carries (Off path) before now s t → Turns s t (Off path)
        → ((image : Directory) → Images t image → image path ≡ Some bytes) → IsKept t store (with_made work made)
    make_made bytes made before now t place it turns there =
        let was : AreOwn (place.earlier ++ place.later) = subst AreOwn place.without_is kept.fit.made in
        let parts = own_front place.earlier place.later was in
        let fit : AreOwn made = subst AreOwn (sym place.more_is) (own_both place.earlier ((path, bytes) ∷ place.later) parts.0 (own, parts.1)) in
        step_kept s store work kept (Off path) (off_alone path own) t (with_made work made) (Off path) (off_alone path own) refl (record { orderly = kept.fit.orderly; finished = kept.fit.finished; made = fit })
        (λ d e now so off. let is = make_so_far d e so off in record { right = is.right; done = is.done; there = all_there e (there e now) is.there }) turns it.images
      where
        all_there : (e : Directory) → e path ≡ Some bytes → AreThere work.made e → AreThere made e
        all_there e here it =
            let parts = there_front e place.earlier place.later (subst (λ (l : List File). AreThere l e) place.without_is it) in
            subst (λ (l : List File). AreThere l e) (sym place.more_is) (there_both e place.earlier ((path, bytes) ∷ place.later) parts.0 (here, parts.1))

-- ## The operation of a record

module _ (s : Option Story) (store : StoreValue) (work : Work) (kept : IsKept s store work) (item : LogRecord) (first : IsFirst item work.items) where
  pub item_ordinary : IsOrdinary item
  item_ordinary = one_of IsOrdinary first.earlier first.later item (subst (λ (l : List LogRecord). AllByRecursion IsOrdinary l) first.are kept.fit.orderly.ordinary)

  under_alone : (d e : Directory) → IsUnder item work.wanted d e → e system_path ≡ d system_path
  under_alone d e it = it.others system_path (off_system item system_path item_ordinary system_is)

  under_right : (d e : Directory) → IsRight work.items work.wanted d → IsUnder item work.wanted d e → IsRight work.items work.wanted e
  under_right d e right it =
      as_items (first.earlier ++ item ∷ first.later) work.items work.wanted e (sym first.are)
      (right_under item first.earlier first.later work.wanted d e item_ordinary first.apart it
      (as_items work.items (first.earlier ++ item ∷ first.later) work.wanted d first.are right))

  pub replay_leaves : (before now : ℕ) (t : Option Story) → Carries (IsUnder item work.wanted) before now s t → Leaves before now s t (Holds store.rows work.wanted)
  replay_leaves before now t it = step_leaves s store work kept (IsUnder item work.wanted) under_alone under_right before now t it

  does_alone : (d e : Directory) → Does item work.wanted d e → e system_path ≡ d system_path
  does_alone d e is = under_alone d e (is_under item work.wanted d e is)

  module _ (apart : IsApart item work.finished) (off : NamesNone item work.made) where
    pub replay_kept : (finished : List LogRecord) (t : Option Story) → IsWith item work.finished finished → ((image : Directory) → Images t image → Comes (Does item work.wanted) s image) → Turns s t (Does item work.wanted)
        → IsKept t store (with_records work work.items finished)
    replay_kept finished t place comes turns =
        let was : AllByRecursion IsOrdinary (place.earlier ++ place.later) = subst (λ (l : List LogRecord). AllByRecursion IsOrdinary l) place.without_is kept.fit.finished in
        let own : AllByRecursion IsOrdinary finished = subst (λ (l : List LogRecord). AllByRecursion IsOrdinary l) (sym place.more_is) (with_one IsOrdinary place.earlier place.later item item_ordinary was) in
        step_kept s store work kept (Does item work.wanted) does_alone t (with_records work work.items finished) (Does item work.wanted) does_alone refl
        (record { orderly = kept.fit.orderly; finished = own; made = kept.fit.made })
        (λ d e now so is. let under = is_under item work.wanted d e is in record {
          right = under_right d e so.right under;
          done = with_it e (is_done item work.wanted d e is) (all_done item work.finished work.wanted d e apart under.others so.done);
          there = there_off item work.made d e off under.others so.there;
        })
        turns comes
      where
        with_it : (e : Directory) → IsDone item work.wanted e → AreDone work.finished work.wanted e → AreDone finished work.wanted e
        with_it e one it =
            let parts = done_front work.wanted e place.earlier place.later (subst (λ (l : List LogRecord). AreDone l work.wanted e) place.without_is it) in
            subst (λ (l : List LogRecord). AreDone l work.wanted e) (sym place.more_is) (done_both work.wanted e place.earlier (item ∷ place.later) parts.0 (one, parts.1))

-- ## What is there

-- a directory whose files are right has the wanted ones at the paths that no record names
pub accounted : (items : List LogRecord) (wanted directory : Directory) → IsRight items wanted directory → (path : List ℕ) → is_system path ≡ false → IsFree path items → directory path ≡ wanted path
accounted items wanted directory right path own is_free =
    sym (ap (λ (b : Bool). if b then None else directory path) own) ∙ sym (free path items wanted (stripped directory) is_free) ∙ ap (λ (f : Directory). f path) right

pub reads_accounted : (s : Story) (now : ℕ) (store : StoreValue) (work : Work) → IsSoundStory (Some s) now → IsKept (Some s) store work → (path : List ℕ) → is_system path ≡ false → IsFree path work.items → reads s path ≡ work.wanted path
reads_accounted s now store work sound kept path own is_free = accounted work.items work.wanted (reads s) (kept.so_far (reads s) (reads_now s now sound)).right path own is_free

-- ## A store that was opened

pub opened : (s : Option Story) (store : StoreValue) (items : List LogRecord) (wanted : Directory) → store.journal.path ≡ system_path → IsOnDisk s store → IsLog store.rows items → IsOrderly items
    → ((image : Directory) → Images s image → Holds store.rows wanted image) → IsKept s store (record { items = items; wanted = wanted; finished = []; made = [] })
opened s store items wanted path on log orderly each = record {
  path = path;
  on = on;
  log = log;
  fit = record { orderly = orderly; finished = tt; made = tt };
  so_far = λ image it. let h = each image it in record { right = as_items h.items items wanted image (one_log store.rows h.items items h.log log) h.right; done = tt; there = tt };
}
