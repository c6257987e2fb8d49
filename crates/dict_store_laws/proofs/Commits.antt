-- What a commit leaves, and which plans may be committed.
use Rattle.std.proofs.Common.{◌≡◌, inl, inr, ⊎_elim, ℕ, true, false, List, [], ◌∷◌, ◌++◌, Option, Some, None, sym, ◌∙◌, subst}
use Rattle.std.specs.List.{AllByRecursion}
use Rattle.disk_trait.specs.Change.{Directory}
use Rattle.disk_trait.specs.Story.{Story, Images}
use Rattle.disk_trait.specs.Carried.{Off, Leaves, Carries}
use Rattle.disk_trait.proofs.Follows.{apart-sym}
use Rattle.row_batch.specs.declared.operation.Operation.{Operation}
use Rattle.row_batch.specs.Rows.{Rows, applied}
use Rattle.row_store.specs.Value.{StoreValue}
use Rattle.row_store.specs.OnDisk.{HasRows, KeepsRows, MayHaveRows, IsOnDisk}
use Rattle.ddl_log.specs.declared.records.LogRecord.{LogRecord}
use Rattle.ddl_log.specs.Effect.{by_id, Differs, IsFree, Agrees}
use Rattle.log_rows.specs.Logs.{IsLog}
use Rattle.log_rows.proofs.Logs.{follows_log}
use Rattle.dict_store_laws.specs.System.{system_path, is_system, IsOrdinary}
use Rattle.dict_store_laws.specs.Recovers.{Holds, HoldsEither}
use Rattle.dict_store_laws.specs.Kept.{File, Work, AreDone, AreThere, AreOwn, IsFit, IsSoFar, IsKept}
use Rattle.dict_store_laws.specs.Steps.{MayCommit}
use Rattle.dict_store_laws.specs.Plans.{Follows, Writes, MayExchange, MayCreate}
use Rattle.dict_store_laws.proofs.Stripped.{system_is, system_differs, off_system, right_same}
use Rattle.dict_store_laws.proofs.Planned.{right_planned, right_made, done_agrees, done_off}
use Rattle.dict_store_laws.proofs.Leaving.{leaves_by}
use Rattle.dict_store_laws.proofs.Phases.{as_items, is_apart, free_back, there_front, there_both, own_front, own_both}

-- ## A change of the system file

-- the system file's path is none of the others
not_system : (q : List ℕ) → is_system q ≡ false → Differs system_path q
not_system q own = apart-sym q system_path (system_differs q system_path own system_is)

module _ (d e : Directory) (off : Off system_path d e) where
  done_same : (items : List LogRecord) (wanted : Directory) → AllByRecursion IsOrdinary items → AreDone items wanted d → AreDone items wanted e
  done_same [] wanted own it = tt
  done_same (item ∷ items) wanted own it = (
    done_off item system_path wanted d e (off_system item system_path own.0 system_is) (not_system item.old_path own.0.old_path) off it.0,
    done_same items wanted own.1 it.1,
  )

  there_same : (files : List File) → AreOwn files → AreThere files d → AreThere files e
  there_same [] own it = tt
  there_same (file ∷ files) own it = (off file.0 (not_system file.0 own.0) ∙ it.0, there_same files own.1 it.1)

  so_far_same : (work : Work) → IsFit work → IsSoFar work d → IsSoFar work e
  so_far_same work fit it = record {
    right = right_same work.items work.wanted d e (λ q own. off q (not_system q own)) it.right;
    done = done_same work.finished work.wanted fit.finished it.done;
    there = there_same work.made fit.made it.there;
  }

-- ## A commit

module _ (s : Option Story) (store : StoreValue) (work : Work) (kept : IsKept s store work) where
  off_here : (d e : Directory) → Off store.journal.path d e → Off system_path d e
  off_here d e off = subst (λ (p : List ℕ). Off p d e) kept.path off

  rows_here : (rows : Rows) (e : Directory) → HasRows rows (e store.journal.path) → HasRows rows (e system_path)
  rows_here rows e it = subst (λ (p : List ℕ). HasRows rows (e p)) kept.path it

  still_holds : (d e : Directory) → Images s d → Off system_path d e → HasRows store.rows (e system_path) → Holds store.rows work.wanted e
  still_holds d e it off file = record { items = work.items; file = file; log = kept.log; orderly = kept.fit.orderly; right = (so_far_same d e off work kept.fit (kept.so_far d it)).right }

  pub fault_leaves : (before now : ℕ) (t : Option Story) → Carries (KeepsRows store.journal.path store.rows) before now s t → Leaves before now s t (Holds store.rows work.wanted)
  fault_leaves before now t it = leaves_by (KeepsRows store.journal.path store.rows) (Holds store.rows work.wanted) before now s t it
      (λ d e from step. still_holds d e from (off_here d e step.off) (rows_here store.rows e step.file))

  module _ (batch : List Operation) (next : Work) (may : MayCommit s store.rows batch next) where
    holds_either : (d e : Directory) → Images s d → MayHaveRows store.journal.path store.rows (applied batch store.rows) d e → HoldsEither store.rows work.wanted (applied batch store.rows) next.wanted e
    holds_either d e it step = ⊎_elim
        (λ old. inl (still_holds d e it (off_here d e step.off) (rows_here store.rows e old)))
        (λ new. inr (record {
          items = next.items;
          file = rows_here (applied batch store.rows) e new;
          log = may.log;
          orderly = may.fit.orderly;
          right = (so_far_same d e (off_here d e step.off) next may.fit (may.so_far d it)).right;
        }))
        step.file

    pub commit_leaves : (before now : ℕ) (t : Option Story) → Carries (MayHaveRows store.journal.path store.rows (applied batch store.rows)) before now s t
        → Leaves before now s t (HoldsEither store.rows work.wanted (applied batch store.rows) next.wanted)
    commit_leaves before now t it =
        leaves_by (MayHaveRows store.journal.path store.rows (applied batch store.rows)) (HoldsEither store.rows work.wanted (applied batch store.rows) next.wanted) before now s t it holds_either

    pub commit_kept : (before now : ℕ) (t : Option Story) (grown : StoreValue) → grown.journal.path ≡ store.journal.path → grown.rows ≡ applied batch store.rows
        → Carries (MayHaveRows store.journal.path store.rows (applied batch store.rows)) before now s t → IsOnDisk t grown → IsKept t grown next
    commit_kept before now t grown path rows it on = record {
      path = path ∙ kept.path;
      on = on;
      log = subst (λ (r : Rows). IsLog r next.items) (sym rows) may.log;
      fit = may.fit;
      so_far = λ image h. let from = it.images image h in so_far_same from.0 image (off_here from.0 image from.2.off) next may.fit (may.so_far from.0 from.1);
    }

-- ## Plans

done_others : (items : List LogRecord) (before wanted d : Directory) → Agrees items before wanted → AreDone items before d → AreDone items wanted d
done_others [] before wanted d agrees it = tt
done_others (item ∷ items) before wanted d agrees it = (done_agrees item before wanted d agrees.0 it.0, done_others items before wanted d agrees.1 it.1)

module _ (rows : Rows) (taken planned : List LogRecord) (made : Option File) (batch : List Operation) (work next : Work) (follows : Follows taken planned made work next) (writes : Writes taken planned batch next) where
  planned_log : IsLog rows work.items → IsLog (applied batch rows) next.items
  planned_log log =
      subst (λ (l : List LogRecord). IsLog (applied batch rows) l) (sym follows.are)
      (follows_log batch rows follows.earlier taken planned follows.later (subst (λ (l : List LogRecord). IsLog rows l) follows.were log) writes.changes writes.sorted writes.each
      (subst (λ (l : List LogRecord). by_id l ≡ true) follows.are writes.order))

  planned_done : (d : Directory) → AreDone work.finished work.wanted d → AreDone next.finished next.wanted d
  planned_done d it = subst (λ (l : List LogRecord). AreDone l next.wanted d) (sym follows.finished) (done_others work.finished work.wanted next.wanted d follows.agrees_finished it)

  planned_ordinary : AllByRecursion IsOrdinary work.finished → AllByRecursion IsOrdinary next.finished
  planned_ordinary it = subst (λ (l : List LogRecord). AllByRecursion IsOrdinary l) (sym follows.finished) it

module _ (s : Option Story) (store : StoreValue) (work next : Work) (kept : IsKept s store work) (planned : List LogRecord) (batch : List Operation) where
  pub may_exchange : MayExchange planned batch work next → MayCommit s store.rows batch next
  may_exchange may = let f = may.follows in record {
    log = planned_log store.rows [] planned None batch work next f may.writes kept.log;
    fit = record {
      orderly = f.orderly;
      finished = planned_ordinary store.rows [] planned None batch work next f may.writes kept.fit.finished;
      made = subst AreOwn (sym may.made) kept.fit.made;
    };
    so_far = λ image it. let so = kept.so_far image it in record {
      right =
          as_items (f.earlier ++ (planned ++ f.later)) next.items next.wanted image (sym f.are)
          (right_planned f.earlier planned f.later work.wanted next.wanted image f.apart f.agrees f.leads (as_items work.items (f.earlier ++ f.later) work.wanted image f.were so.right));
      done = planned_done store.rows [] planned None batch work next f may.writes image so.done;
      there = subst (λ (l : List File). AreThere l image) (sym may.made) so.there;
    };
  }

  pub may_create : (item : LogRecord) (file : File) → MayCreate item file planned batch work next → MayCommit s store.rows batch next
  may_create item file may =
      let f = may.follows in
      let place = may.made in
      let own_parts = own_front place.earlier (file ∷ place.later) (subst AreOwn place.more_is kept.fit.made) in
      record {
        log = planned_log store.rows (item ∷ []) planned (Some file) batch work next f may.writes kept.log;
        fit = record {
          orderly = f.orderly;
          finished = planned_ordinary store.rows (item ∷ []) planned (Some file) batch work next f may.writes kept.fit.finished;
          made = subst AreOwn (sym place.without_is) (own_both place.earlier place.later own_parts.0 own_parts.1.1);
        };
        so_far = λ image it.
            let so = kept.so_far image it in
            let parts = there_front image place.earlier (file ∷ place.later) (subst (λ (l : List File). AreThere l image) place.more_is so.there) in
            let free_later : IsFree item.old_path f.later = subst (λ (p : List ℕ). IsFree p f.later) (sym may.at) (free_back file.0 f.earlier f.later may.is_free) in
            record {
              right =
                  as_items (f.earlier ++ (planned ++ f.later)) next.items next.wanted image (sym f.are)
                  (right_made f.earlier planned f.later work.wanted next.wanted image item file.0 file.1 may.kind may.at own_parts.1.0 (is_apart item f.later may.kind free_later) may.is_free parts.1.0 f.apart f.agrees f.leads
                  (as_items work.items (f.earlier ++ item ∷ f.later) work.wanted image f.were so.right));
              done = planned_done store.rows (item ∷ []) planned (Some file) batch work next f may.writes image so.done;
              there = subst (λ (l : List File). AreThere l image) (sym place.without_is) (there_both image place.earlier place.later parts.0 parts.1.1);
            };
      }
