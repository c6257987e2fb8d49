-- From what a run of calls makes of each image to what a crash leaves.
use Rattle.std.proofs.Common.{◌≡◌, inl, inr, ⊎_elim, ℕ, ◌≤◌, Option, Some, None, sym, ◌∙◌, subst, List}
use Rattle.disk_trait.specs.Change.{Directory}
use Rattle.disk_trait.specs.Story.{Story, WhereTold, Images, Since, reads}
use Rattle.disk_trait.specs.Carried.{Leaves, Comes, Carries, Turns, IsSettled}
use Rattle.row_store.specs.Value.{StoreValue, IsRowsFile}
use Rattle.row_store.specs.Opening.{Opens}
use Rattle.row_store.specs.OnDisk.{HasRows, IsOnDisk}

pub leaves_by : (R : Directory → Directory → Type 0) (P : Directory → Type 0) (before now : ℕ) (old new : Option Story) → Carries R before now old new
    → ((c d : Directory) → Images old c → R c d → P d) → Leaves before now old new P
leaves_by R P before now old new it is = record {
  later = it.leaves.later;
  each = λ t image le h. ⊎_elim (λ was. inl was) (λ x. inr (is x.0 image x.1 x.2)) (it.leaves.each t image le h);
}

-- where no call was made
pub leaves_same : (before now : ℕ) (old new : Option Story) (P : Directory → Type 0) → before ≤ now → new ≡ old → Leaves before now old new P
leaves_same before now old new P le same = record { later = le; each = λ t image t_le it. inl (subst (λ (s : Option Story). Since s t image) same it) }

pub leaves_weaker : (P Q : Directory → Type 0) (before now : ℕ) (old new : Option Story) → ((image : Directory) → P image → Q image) → Leaves before now old new P → Leaves before now old new Q
leaves_weaker P Q before now old new by it = record { later = it.later; each = λ t image le h. ⊎_elim (λ was. inl was) (λ x. inr (by image x)) (it.each t image le h) }

-- ## The system file through calls that leave it alone

module _ (store : StoreValue) where
  pub has_rows : (s : Option Story) → IsOnDisk s store → (image : Directory) → Images s image → HasRows store.rows (image store.journal.path)
  has_rows None on image it = absurd it
  has_rows (Some s) on image it = (on.file.0, subst (λ (x : Option (List ℕ)). IsRowsFile on.file.0 x) (sym (on.settled image it)) on.file.1, on.file.3)

  opens_same : (d e : Directory) → e store.journal.path ≡ d store.journal.path → Opens store.journal store.rows d → Opens store.journal store.rows e
  opens_same d e same it = (it.0, subst (λ (x : Option (List ℕ)). IsRowsFile it.0 x) (sym same) it.1, (it.2.0, same ∙ it.2.1, it.2.2, it.2.3), it.3)

  module _ (R Q : Directory → Directory → Type 0) (image_same : (d e : Directory) → R d e → e store.journal.path ≡ d store.journal.path) (read_same : (d e : Directory) → Q d e → e store.journal.path ≡ d store.journal.path) where
    file_stays : (s t : Option Story) → Turns s t Q → WhereTold s (Opens store.journal store.rows) → WhereTold t (Opens store.journal store.rows)
    file_stays None None turns it = tt
    file_stays None (Some t) turns it = absurd turns
    file_stays (Some s) None turns it = absurd turns
    file_stays (Some s) (Some t) turns it = opens_same (reads s) (reads t) (read_same (reads s) (reads t) turns) it

    settled_stays : (s t : Option Story) → Turns s t Q → ((image : Directory) → Images t image → Comes R s image) → IsSettled store.journal.path s → IsSettled store.journal.path t
    settled_stays None None turns comes it image h = tt
    settled_stays None (Some t) turns comes it image h = absurd turns
    settled_stays (Some s) None turns comes it image h = absurd turns
    settled_stays (Some s) (Some t) turns comes it image h =
        let from = comes image h in image_same from.0 image from.2 ∙ it from.0 from.1 ∙ sym (read_same (reads s) (reads t) turns)

    pub stays_on : (s t : Option Story) → Turns s t Q → ((image : Directory) → Images t image → Comes R s image) → IsOnDisk s store → IsOnDisk t store
    stays_on s t turns comes on = record { at = on.at; file = file_stays s t turns on.file; settled = settled_stays s t turns comes on.settled }
