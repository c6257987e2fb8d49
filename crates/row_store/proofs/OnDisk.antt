-- What a commit leaves of the rows.
use Rattle.std.proofs.Common.{◌≡◌, inl, inr, ℕ, ◌≤◌, List, [], ◌∷◌, ◌++◌, length, Option, Some, None, refl, sym, ◌∙◌, ap, subst, arith, length-append, length-take, length-drop, take-take}
use Rattle.disk_trait.specs.Change.{Directory}
use Rattle.disk_trait.specs.Story.{Story, WhereTold, Images, reads}
use Rattle.disk_trait.specs.Carried.{Carries, Same, Turns, IsSettled}
use Rattle.disk_trait.proofs.Acts.{stays, weaken}
use Rattle.row_batch.specs.declared.operation.Operation.{Operation}
use Rattle.row_batch.specs.Rows.{Rows, applied, no_rows}
use Rattle.row_journal.specs.Contents.{gated}
use Rattle.row_journal.specs.declared.outcome.Appended.{Appended}
use Rattle.row_journal.specs.declared.outcome.Appended.TheVariants as appends
use Rattle.row_journal.specs.Value.{JournalValue, Stands, StandsSome}
use Rattle.row_journal.specs.Append.{HasGate, Has, SameFront, Keeps, MayAppend, IsDone, IsFault, ReadsAs, journal_after}
use Rattle.row_journal.proofs.Steps.{told_gate}
use Rattle.row_journal.proofs.Exact.{one_list}
use Rattle.row_store.specs.declared.outcome.Committed.{Committed}
use Rattle.row_store.specs.declared.outcome.Committed.TheVariants.{Done, Fault, Unsure, Memory}
use Rattle.row_store.specs.Header.{empty_file}
use Rattle.row_store.specs.Making.{IsMade}
use Rattle.row_store.specs.Value.{StoreValue, rows_after, IsRowsFile}
use Rattle.row_store.specs.Opening.{Opens}
use Rattle.row_store.specs.Outcome.{Through, WithoutMemory, rows_committed}
use Rattle.row_store.specs.OnDisk.{HasRows, KeepsRows, MayHaveRows, ReadsRows, IsOnDisk}
use Rattle.row_store.proofs.Laws.{rows_after-push}
use Rattle.row_store.proofs.Made.{holds_none, made_there, stands_made}

-- a file has the rows of one map alone
pub one_rows : (a b : Rows) (file : Option (List ℕ)) → HasRows a file → HasRows b file → a ≡ b
one_rows a b file one two = one.2 ∙ ap (λ (bs : List (List Operation)). rows_after bs no_rows) (one_list 64 one.0 two.0 file one.1.journal two.1.journal) ∙ sym two.2

-- where the front is the same and batches stand behind it, there is a system file
rows_file : (batches more : List (List Operation)) (x y : Option (List ℕ)) → IsRowsFile batches x → SameFront 64 x y → Has 64 more y → IsRowsFile more y
rows_file batches more None y is front has = absurd is.journal
rows_file batches more (Some x) None is front has = absurd has
rows_file batches more (Some x) (Some y) is front has = record {
  head = record {
    len = omega (arith, length-take 65 y, length-drop 64 y, ap length has.stands, length-append (gated more) (has.gate ∷ has.rest));
    front = take-take 64 65 y (omega arith) ∙ front ∙ sym (take-take 64 65 x (omega arith)) ∙ is.head.front;
  };
  journal = has;
}

module _ (path : List ℕ) (at : ℕ) (batches : List (List Operation)) (rows : Rows) (at_is : at ≡ 64) (made : rows ≡ rows_after batches no_rows) where
  file_with : (more : List (List Operation)) (c d : Directory) → IsRowsFile batches (c path) → SameFront at (c path) (d path) → Has at more (d path) → IsRowsFile more (d path)
  file_with more c d was front has =
      rows_file batches more (c path) (d path) was (subst (λ (a : ℕ). SameFront a (c path) (d path)) at_is front) (subst (λ (a : ℕ). Has a more (d path)) at_is has)

  next_rows : (batch : List Operation) (d : Directory) → IsRowsFile (batches ++ batch ∷ []) (d path) → HasRows (applied batch rows) (d path)
  next_rows batch d file = (batches ++ batch ∷ [], file, ap (applied batch) made ∙ sym (rows_after-push batches batch no_rows))

  kept_rows : (c d : Directory) → IsRowsFile batches (c path) → Keeps path at batches c d → KeepsRows path rows c d
  kept_rows c d was step = record { off = step.off; file = (batches, file_with batches c d was step.front step.file, made) }

  added_rows : (batch : List Operation) (c d : Directory) → IsRowsFile batches (c path) → Keeps path at (batches ++ batch ∷ []) c d → KeepsRows path (applied batch rows) c d
  added_rows batch c d was step = record { off = step.off; file = next_rows batch d (file_with (batches ++ batch ∷ []) c d was step.front step.file) }

  may_rows : (batch : List Operation) (c d : Directory) → IsRowsFile batches (c path) → MayAppend path at batches batch c d → MayHaveRows path rows (applied batch rows) c d
  may_rows batch c d was step = record {
    off = step.off;
    file = elim step.file [
      | inl has ↦ inl (batches, file_with batches c d was step.front has, made)
      | inr has ↦ inr (next_rows batch d (file_with (batches ++ batch ∷ []) c d was step.front has))
    ];
  }

  read_rows : (appended : Appended) (batch : List Operation) (c d : Directory) → IsRowsFile batches (c path) → ReadsAs appended path at batches batch c d → ReadsRows appended path rows (applied batch rows) c d
  read_rows appends.Done batch c d was step = added_rows batch c d was step
  read_rows (appends.Fault count) batch c d was step = kept_rows c d was step
  read_rows (appends.Unsure count) batch c d was step = may_rows batch c d was step

-- ---- a store on the disk

module _ (store : StoreValue) where
  -- the batches that the disk reads, or none where it tells no content
  abbrev batches_of : (s : Option Story) → IsOnDisk s store → List (List Operation)
  batches_of None on = []
  batches_of (Some s) on = on.file.0

  they_stand : (s : Option Story) (on : IsOnDisk s store) → WhereTold s (Stands store.journal (batches_of s on))
  they_stand None on = tt
  they_stand (Some s) on = on.file.2

  left_so : (s : Option Story) (on : IsOnDisk s store) (image : Directory) → Images s image → IsRowsFile (batches_of s on) (image store.journal.path) × (store.rows ≡ rows_after (batches_of s on) no_rows)
  left_so None on image it = absurd it
  left_so (Some s) on image it = (subst (λ (x : Option (List ℕ)). IsRowsFile on.file.0 x) (sym (on.settled image it)) on.file.1, on.file.3)

  -- each image has the rows
  pub has_rows : (s : Option Story) → IsOnDisk s store → (image : Directory) → Images s image → HasRows store.rows (image store.journal.path)
  has_rows s on image it = let left = left_so s on image it in (batches_of s on, left.0, left.1)

-- what a call leaves of what stood on the disk, in words of batches
abbrev AnyMoment : ℕ → ℕ → Option Story → Option Story → StoreValue → List Operation → Type 0
AnyMoment before now s t store batch =
    (batches : List (List Operation)) → WhereTold s (Stands store.journal batches) → IsSettled store.journal.path s → Carries (MayAppend store.journal.path store.journal.at batches batch) before now s t

abbrev AtFault : ℕ → ℕ → Option Story → Option Story → StoreValue → Type 0
AtFault before now s t store =
    (batches : List (List Operation)) → WhereTold s (Stands store.journal batches) → IsSettled store.journal.path s → Carries (Keeps store.journal.path store.journal.at batches) before now s t

abbrev Read : Appended → Option Story → Option Story → StoreValue → List Operation → Type 0
Read appended s t store batch = (batches : List (List Operation)) → WhereTold s (Stands store.journal batches) → Turns s t (ReadsAs appended store.journal.path store.journal.at batches batch)

turns_by : (P Q : Directory → Directory → Type 0) (s t : Option Story) → WhereTold s (λ c. (d : Directory) → P c d → Q c d) → Turns s t P → Turns s t Q
turns_by P Q None None by turns = tt
turns_by P Q None (Some t) by turns = absurd turns
turns_by P Q (Some s) None by turns = absurd turns
turns_by P Q (Some s) (Some t) by turns = by (reads t) turns

module _ (before now : ℕ) (s t : Option Story) (store : StoreValue) (batch : List Operation) (on : IsOnDisk s store) where
  images_may : AnyMoment before now s t store batch → Carries (MayHaveRows store.journal.path store.rows (applied batch store.rows)) before now s t
  images_may it =
      let batches = batches_of store s on in
      weaken (MayAppend store.journal.path store.journal.at batches batch) (MayHaveRows store.journal.path store.rows (applied batch store.rows)) before now s t
      (λ c d from step. let left = left_so store s on c from in may_rows store.journal.path store.journal.at batches store.rows on.at left.1 batch c d left.0 step)
      (it batches (they_stand store s on) on.settled)

  images_keep : AtFault before now s t store → Carries (KeepsRows store.journal.path store.rows) before now s t
  images_keep it =
      let batches = batches_of store s on in
      weaken (Keeps store.journal.path store.journal.at batches) (KeepsRows store.journal.path store.rows) before now s t
      (λ c d from step. let left = left_so store s on c from in kept_rows store.journal.path store.journal.at batches store.rows on.at left.1 c d left.0 step)
      (it batches (they_stand store s on) on.settled)

  -- no call was made
  images_same : before ≤ now → t ≡ s → Carries (MayHaveRows store.journal.path store.rows (applied batch store.rows)) before now s t
  images_same le same =
      weaken Same (MayHaveRows store.journal.path store.rows (applied batch store.rows)) before now s t
      (λ c d from is. record { off = λ q apart. is q; file = inl (subst (λ (x : Option (List ℕ)). HasRows store.rows x) (sym (is store.journal.path)) (has_rows store s on c from)) })
      (stays Same (λ d path. refl) before now s t le same)

  reads_rows : (appended : Appended) → Read appended s t store batch → Turns s t (ReadsRows appended store.journal.path store.rows (applied batch store.rows))
  reads_rows appended it = by_story s on it
    where
      by_story : (s : Option Story) → IsOnDisk s store → Read appended s t store batch → Turns s t (ReadsRows appended store.journal.path store.rows (applied batch store.rows))
      by_story None on it = turns_by (ReadsAs appended store.journal.path store.journal.at [] batch) (ReadsRows appended store.journal.path store.rows (applied batch store.rows)) None t tt (it [] tt)
      by_story (Some s) on it =
          turns_by (ReadsAs appended store.journal.path store.journal.at on.file.0 batch) (ReadsRows appended store.journal.path store.rows (applied batch store.rows)) (Some s) t
          (λ d step. read_rows store.journal.path store.journal.at on.file.0 store.rows on.at on.file.3 appended batch (reads s) d on.file.1 step) (it on.file.0 on.file.2)

-- once it is done, the store is on the disk with the next rows
module _ (store grown : StoreValue) (batch : List Operation) (path : grown.journal.path ≡ store.journal.path) (rows : grown.rows ≡ applied batch store.rows) where
  opens_after : (s t : Option Story) → IsOnDisk s store
      → ((batches : List (List Operation)) → WhereTold s (Stands store.journal batches) → WhereTold t (Stands grown.journal (batches ++ batch ∷ [])))
      → Read appends.Done s t store batch → WhereTold t (Opens grown.journal grown.rows)
  opens_after None None on stands turns = tt
  opens_after None (Some t) on stands turns = absurd (turns [] tt)
  opens_after (Some s) None on stands turns = tt
  opens_after (Some s) (Some t) on stands turns =
      let was = on.file in
      let all = was.0 ++ batch ∷ [] in
      let step = turns was.0 was.2 in
      let p = store.journal.path in
      let file = file_with p store.journal.at was.0 store.rows on.at was.3 all (reads s) (reads t) was.1 step.front step.file in
      (all, subst (λ (q : List ℕ). IsRowsFile all (reads t q)) (sym path) file, stands was.0 was.2, rows ∙ ap (applied batch) was.3 ∙ sym (rows_after-push was.0 batch no_rows))

  on_disk_after : (s t : Option Story) → grown.journal.at ≡ store.journal.at → IsOnDisk s store
      → ((batches : List (List Operation)) → WhereTold s (Stands store.journal batches) → WhereTold t (Stands grown.journal (batches ++ batch ∷ [])))
      → Read appends.Done s t store batch → IsSettled store.journal.path t → IsOnDisk t grown
  on_disk_after s t at on stands turns settled = record {
    at = at ∙ on.at;
    file = opens_after s t on stands turns;
    settled = subst (λ (p : List ℕ). IsSettled p t) (sym path) settled;
  }

-- ---- a commit

pub without_memory : {P Q : Type 0} (r : Committed) → (P → Q) → WithoutMemory r P → WithoutMemory r Q
without_memory Done by it = tt
without_memory (Fault count) by it = tt
without_memory (Unsure count) by it = tt
without_memory Memory by it = by it

module _ (before now : ℕ) (s t : Option Story) (store : StoreValue) (batch : List Operation) where
  pub rows_carried : (r : Committed) → before ≤ now → Through r (λ appended. AnyMoment before now s t store batch) → WithoutMemory r (t ≡ s) → IsOnDisk s store
      → Carries (MayHaveRows store.journal.path store.rows (applied batch store.rows)) before now s t
  rows_carried Done le moments same on = images_may before now s t store batch on moments
  rows_carried (Fault count) le moments same on = images_may before now s t store batch on moments
  rows_carried (Unsure count) le moments same on = images_may before now s t store batch on moments
  rows_carried Memory le moments same on = images_same before now s t store batch on le same

  pub rows_kept : (r : Committed) → Through r (λ appended. IsFault appended → AtFault before now s t store)
      → Through r (λ appended. IsFault appended → IsOnDisk s store → Carries (KeepsRows store.journal.path store.rows) before now s t)
  rows_kept Done fault = λ is on. absurd is
  rows_kept (Fault count) fault = λ is on. images_keep before now s t store batch on (fault is)
  rows_kept (Unsure count) fault = λ is on. absurd is
  rows_kept Memory fault = tt

  pub rows_read : (r : Committed) → Through r (λ appended. Read appended s t store batch)
      → Through r (λ appended. IsOnDisk s store → Turns s t (ReadsRows appended store.journal.path store.rows (applied batch store.rows)))
  rows_read Done it = λ on. reads_rows before now s t store batch on appends.Done it
  rows_read (Fault count) it = λ on. reads_rows before now s t store batch on (appends.Fault count) it
  rows_read (Unsure count) it = λ on. reads_rows before now s t store batch on (appends.Unsure count) it
  rows_read Memory it = tt

  pub rows_on : (r : Committed) (grown : StoreValue) (size : ℕ) → Through r (λ appended. grown.journal ≡ journal_after appended size store.journal) → grown.rows ≡ rows_committed r batch store.rows
      → Through r (λ appended. IsDone appended → (batches : List (List Operation)) → WhereTold s (Stands store.journal batches) → WhereTold t (Stands grown.journal (batches ++ batch ∷ [])))
      → Through r (λ appended. Read appended s t store batch) → Through r (λ appended. IsDone appended → IsSettled store.journal.path t)
      → Through r (λ appended. IsDone appended → IsOnDisk s store → IsOnDisk t grown)
  rows_on Done grown size journal rows stands it settled = λ is on.
      on_disk_after store grown batch (ap (λ (j : JournalValue). j.path) journal) rows s t (ap (λ (j : JournalValue). j.at) journal) on (stands is) it (settled is)
  rows_on (Fault count) grown size journal rows stands it settled = λ is on. absurd is
  rows_on (Unsure count) grown size journal rows stands it settled = λ is on. absurd is
  rows_on Memory grown size journal rows stands it settled = tt

-- ---- opening

-- what holds of the rows of each list of batches holds of the rows
pub of_rows : (s : Option Story) (path : List ℕ) (P : Rows → Type 0) → WhereTold s (λ d. (batches : List (List Operation)) → IsRowsFile batches (d path) → P (rows_after batches no_rows)) → WhereTold s (λ d. (rows : Rows) → HasRows rows (d path) → P rows)
of_rows None path P it = tt
of_rows (Some s) path P it = λ rows has. subst P (sym has.2) (it has.0 has.1)

pub on_disk_opened : (s t : Option Story) (store : StoreValue) (path : List ℕ) → store.journal.path ≡ path → store.journal.at ≡ 64 → t ≡ s → WhereTold s (Opens store.journal store.rows) → IsSettled path s → IsOnDisk t store
on_disk_opened s t store path path_is at same opens settled =
    subst (λ (x : Option Story). IsOnDisk x store) (sym same) (record { at = at; file = opens; settled = subst (λ (p : List ℕ). IsSettled p s) (sym path_is) settled })

made_file : IsRowsFile [] (Some empty_file)
made_file = record { head = record { len = refl; front = refl }; journal = holds_none }

-- a file that was made has no rows
pub on_disk_made : (s t : Option Story) (store : StoreValue) (path : List ℕ) → store.journal ≡ record { path = path; at = 64; end = 64; fault = None } → store.rows ≡ no_rows
    → Turns s t (IsMade path empty_file) → IsSettled path t → IsOnDisk t store
on_disk_made s t store path journal rows turns settled = record {
  at = ap (λ (j : JournalValue). j.at) journal;
  file = opens t (made_there s t path empty_file turns) (stands_made s t store.journal path path journal refl turns);
  settled = subst (λ (p : List ℕ). IsSettled p t) (sym path_is) settled;
}
  where
    path_is : store.journal.path ≡ path
    path_is = ap (λ (j : JournalValue). j.path) journal

    opens : (t : Option Story) → WhereTold t (λ d. d path ≡ Some empty_file) → WhereTold t (Stands store.journal []) → WhereTold t (Opens store.journal store.rows)
    opens None there stands = tt
    opens (Some t) there stands = ([], subst (λ (x : Option (List ℕ)). IsRowsFile [] x) (sym (ap (reads t) path_is ∙ there)) made_file, stands, rows)

-- a store that was opened may append
pub gate_opened : (s t : Option Story) (journal : JournalValue) (rows : Rows) → t ≡ s → WhereTold s (Opens journal rows) → WhereTold t (HasGate journal.path journal.end)
gate_opened s t journal rows same it = subst (λ (x : Option Story). WhereTold x (HasGate journal.path journal.end)) (sym same) (told_gate s journal (stands s it))
  where
    stands : (s : Option Story) → WhereTold s (Opens journal rows) → WhereTold s (StandsSome journal)
    stands None it = tt
    stands (Some s) it = (it.0, it.2)
