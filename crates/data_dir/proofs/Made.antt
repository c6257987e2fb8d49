-- What a file that is made, or removed, leaves.
use Rattle.std.proofs.Common.{◌≡◌, inl, inr, ℕ, ◌+◌, Bool, true, false, List, [], Option, Some, None, Result, Ok, Err, refl, sym, ◌∙◌, ap, subst}
use Rattle.std.specs.Option.{option_map, unwrap_or}
use Rattle.disk_trait.specs.Change.{Directory, Change, made, removed, reads_after}
use Rattle.disk_trait.specs.Crash.{Event, did, failed}
use Rattle.disk_trait.specs.Story.{Story, reads, happened, WhereTold, Images}
use Rattle.disk_trait.specs.Calls.{Acts, Undecided, IsThere}
use Rattle.disk_trait.specs.Carried.{Off, Turns, Carries, Comes, IsSettled}
use Rattle.disk_trait.proofs.Paths.{update-here, update-off}
use Rattle.disk_trait.proofs.Acts.{then_by, is_gone}
use Rattle.data_dir.specs.Files.{Makes, Drops, Rewrites, MayRewrite}
use Rattle.data_dir.proofs.Rewritten.{turns_then}

-- ---- a create or a remove, whatever it answered

same_off : (s : Option Story) (path : List ℕ) → Turns s s (Off path)
same_off None path = tt
same_off (Some s) path = λ q apart. refl

module _ (path : List ℕ) (change : Change) (off : (d : Directory) → Off path d (reads_after change d)) where
  did_off : (s : Option Story) (moment : ℕ) → Turns s (happened moment (did change) s) (Off path)
  did_off None moment = tt
  did_off (Some s) moment = off (reads s)

  failed_off : (s : Option Story) (moment : ℕ) (reads_so : Bool) → Turns s (happened moment (failed change reads_so) s) (Off path)
  failed_off None moment reads_so = tt
  failed_off (Some s) moment true = off (reads s)
  failed_off (Some s) moment false = λ q apart. refl

  link_turns : {T E : Type 0} (before : ℕ) (old new : Option Story) (result : Result T E) → Acts before old new result change (Undecided change) → Turns old new (Off path)
  link_turns before old new (Ok v) acts = subst (λ (t : Option Story). Turns old t (Off path)) (sym acts.ok) (did_off old (before + 1))
  link_turns before old new (Err e) acts = elim acts.err [
    | inl is ↦ subst (λ (t : Option Story). Turns old t (Off path)) (sym is) (same_off old path)
    | inr it ↦ subst (λ (t : Option Story). Turns old t (Off path)) (sym (it.3 ∙ ap (λ (v : Event). happened (before + 1) v old) it.2.1)) (failed_off old (before + 1) it.2.0)
  ]

pub create_turns : {T E : Type 0} (before : ℕ) (old new : Option Story) (result : Result T E) (path : List ℕ) → Acts before old new result (made path) (Undecided (made path)) → Turns old new (Off path)
create_turns before old new result path acts = link_turns path (made path) (λ d q apart. update-off d path (Some (unwrap_or (d path) [])) q apart) before old new result acts

pub remove_turns : {T E : Type 0} (before : ℕ) (old new : Option Story) (result : Result T E) (path : List ℕ) → Acts before old new result (removed path) (Undecided (removed path)) → Turns old new (Off path)
remove_turns before old new result path acts = link_turns path (removed path) (λ d q apart. update-off d path None q apart) before old new result acts

-- ---- a file that was made

there_made : (s : Option Story) (moment : ℕ) (path : List ℕ) → WhereTold (happened moment (did (made path)) s) (IsThere path)
there_made None moment path = tt
there_made (Some s) moment path = (unwrap_or (reads s path) [], update-here (reads s) path (Some (unwrap_or (reads s path) [])))

pub is_there : (old new : Option Story) (moment : ℕ) (path : List ℕ) → new ≡ happened moment (did (made path)) old → WhereTold new (IsThere path)
is_there old new moment path is = subst (λ (t : Option Story). WhereTold t (IsThere path)) (sym is) (there_made old moment path)

module _ (path : List ℕ) where
  pub made_turns : (s t u : Option Story) → Turns s t (Off path) → Turns t u (MayRewrite path) → Turns s u (Off path)
  made_turns s t u one two = turns_then (Off path) (MayRewrite path) (Off path) (λ c d e off may q apart. may.off q apart ∙ off q apart) s t u one two

  pub made_carry : (before mid now : ℕ) (s t u : Option Story) → Carries (Off path) before mid s t → Carries (MayRewrite path) mid now t u → Carries (Off path) before now s u
  made_carry before mid now s t u one two =
      then_by (Off path) (MayRewrite path) (Off path) before mid now s t u (λ d e from it. it) (λ c d e from off mid may q apart. may.off q apart ∙ off q apart) one two

  pub made_reads : (bytes : List ℕ) (s t u : Option Story) → Turns s t (Off path) → WhereTold t (IsThere path) → Turns t u (Rewrites path bytes) → Turns s u (Makes path bytes)
  made_reads bytes None None None one there two = tt
  made_reads bytes None None (Some u) one there two = absurd two
  made_reads bytes None (Some t) u one there two = absurd one
  made_reads bytes (Some s) None u one there two = absurd one
  made_reads bytes (Some s) (Some t) None one there two = absurd two
  made_reads bytes (Some s) (Some t) (Some u) one there two = record {
    off = λ q apart. two.off q apart ∙ one q apart;
    file = two.file ∙ ap (option_map (λ _. bytes)) there.1;
  }

  pub made_images : (bytes : List ℕ) (s u : Option Story) → Turns s u (Makes path bytes) → IsSettled path u → (image : Directory) → Images u image → image path ≡ Some bytes
  made_images bytes s None turns fixed image it = absurd it
  made_images bytes None (Some u) turns fixed image it = absurd turns
  made_images bytes (Some s) (Some u) turns fixed image it = fixed image it ∙ turns.file

  -- ---- a file that was removed

  drop_reads : (s : Option Story) (moment : ℕ) → Turns s (happened moment (did (removed path)) s) (Drops path)
  drop_reads None moment = tt
  drop_reads (Some s) moment = record { off = λ q apart. update-off (reads s) path None q apart; gone = update-here (reads s) path None }

  pub dropped : (old new : Option Story) (moment : ℕ) → new ≡ happened moment (did (removed path)) old → Turns old new (Drops path)
  dropped old new moment is = subst (λ (t : Option Story). Turns old t (Drops path)) (sym is) (drop_reads old moment)

  pub drop_images : (before now moment : ℕ) (old new : Option Story) → Carries (Off path) before now old new → new ≡ happened moment (did (removed path)) old → (image : Directory) → Images new image → Comes (Drops path) old image
  drop_images before now moment old new carries is image it =
      let from = carries.images image it in
      (from.0, from.1, record { off = from.2; gone = is_gone old new moment path is image it })
