-- How a run of calls goes on.
use Rattle.std.proofs.Common.{◌≡◌, ◌⊎◌, inl, inr, ⊎_elim, ℕ, ◌+◌, ◌≤◌, Bool, true, false, List, [], length, Option, Some, None, Result, Ok, Err, is_err, refl, sym, ◌∙◌, ap, subst, arith}
use Rattle.std.specs.Option.{option_map}
use Rattle.disk_trait.specs.Change.{Directory, Step, Change, made, removed, moved, wrote, cut, tried, spoiled, settled, overlaid}
use Rattle.disk_trait.specs.Crash.{Event, did, failed, state}
use Rattle.disk_trait.specs.Story.{Story, reads, happened, WhereTold, Images, Since, IsSoundStory}
use Rattle.disk_trait.specs.Calls.{Acts, Undecided, Spoils, NoEvent, IsThere, HasRoom}
use Rattle.disk_trait.specs.Carried.{Off, Comes, Carries, Turns, Same, Moves, MayMove, StepsTo, Wrote, IsSettled, Safe}
use Rattle.disk_trait.proofs.Paths.{update-here}
use Rattle.disk_trait.proofs.Follows.{place, IsAtOne, off_did, off_failed, settled_image, only_now, moved_did, moved_failed, removed_image, wrote_from, cut_from, tried_from, spoiled_from, wrote_nothing, settled_from, main_lies, made_image}

grows : (s : Option Story) (moment : ℕ) (event : Event) (t : ℕ) (image : Directory) → Since (happened moment event s) t image → Since s t image ⊎ Images (happened moment event s) image
grows None moment event t image it = absurd it
grows (Some s) moment event t image (inl it) = inr it
grows (Some s) moment event t image (inr it) = inl it.1

pub now_only : (s : Option Story) (now : ℕ) → IsSoundStory s now → (image : Directory) → Since s now image → Images s image
now_only None now sound image it = absurd it
now_only (Some s) now sound image it = only_now s.start s.events now sound.current image it

module _ (R : Directory → Directory → Type 0) (same : (d : Directory) → R d d) where
  pub stays : (before now : ℕ) (old new : Option Story) → before ≤ now → new ≡ old → Carries R before now old new
  stays before now old new le is = record {
    leaves = record { later = le; each = λ t image t_le it. inl (subst (λ (s : Option Story). Since s t image) is it) };
    images = λ image it. (image, subst (λ (s : Option Story). Images s image) is it, same image);
  }

  one_event : (before now moment : ℕ) (old new : Option Story) (event : Event) → before ≤ now → new ≡ happened moment event old
      → ((image : Directory) → Images (happened moment event old) image → Comes R old image) → Carries R before now old new
  one_event before now moment old new event le is comes = record {
    leaves = record {
      later = le;
      each = λ t image t_le it. ⊎_elim (λ was. inl was) (λ h. inr (comes image h)) (grows old moment event t image (subst (λ (s : Option Story). Since s t image) is it));
    };
    images = λ image it. comes image (subst (λ (s : Option Story). Images s image) is it);
  }

  -- one call
  pub acts_carry : {T E : Type 0} (before now : ℕ) (old new : Option Story) (result : Result T E) (change : Change) (Fails : Event → Type 0)
      → Acts before old new result change Fails → before ≤ now
      → ((image : Directory) → Images (happened (before + 1) (did change) old) image → Comes R old image)
      → ((event : Event) → Fails event → (image : Directory) → Images (happened (before + 1) event old) image → Comes R old image)
      → Carries R before now old new
  acts_carry before now old new (Ok v) change Fails acts le done fails = one_event before now (before + 1) old new (did change) le acts.ok done
  acts_carry before now old new (Err e) change Fails acts le done fails = elim acts.err [
    | inl is ↦ stays before now old new le is
    | inr it ↦ one_event before now (before + 1) old new it.0 le it.3 (fails it.0 it.2)
  ]

  -- one run of calls and then another
  pub carries_then : ((c d e : Directory) → R c d → R d e → R c e) → (before mid now : ℕ) (old between new : Option Story)
      → Carries R before mid old between → Carries R mid now between new → Carries R before now old new
  carries_then trans before mid now old between new first second = record {
    leaves = record {
      later = omega (arith, first.leaves.later, second.leaves.later);
      each = λ t image t_le it. ⊎_elim (first.leaves.each t image t_le) (λ h. inr (further image h)) (second.leaves.each t image (omega (arith, t_le, first.leaves.later)) it);
    };
    images = λ image it. further image (second.images image it);
  }
    where
      further : (image : Directory) → Comes R between image → Comes R old image
      further image it = let first_from = first.images it.0 it.1 in (first_from.0, first_from.1, trans first_from.0 it.0 image first_from.2 it.2)

pub off_same : (path : List ℕ) (d : Directory) → Off path d d
off_same path d other apart = refl

pub off_trans : (path : List ℕ) (c d e : Directory) → Off path c d → Off path d e → Off path c e
off_trans path c d e one two other apart = two other apart ∙ one other apart

off_did_story : (s : Option Story) (moment : ℕ) (change : Change) → IsAtOne change → (image : Directory) → Images (happened moment (did change) s) image → Comes (Off (place change)) s image
off_did_story None moment change one image it = absurd it
off_did_story (Some s) moment change one image it = off_did s.start s.events moment change one image it

off_failed_story : (s : Option Story) (moment : ℕ) (change : Change) → IsAtOne change → (reads_so : Bool) (image : Directory) → Images (happened moment (failed change reads_so) s) image → Comes (Off (place change)) s image
off_failed_story None moment change one reads_so image it = absurd it
off_failed_story (Some s) moment change one reads_so image it = off_failed s.start s.events moment change one reads_so image it

module _ {T E : Type 0} (before now : ℕ) (old new : Option Story) (result : Result T E) where
  -- a create or a remove
  pub linked_off : (change : Change) → IsAtOne change → Acts before old new result change (Undecided change) → before ≤ now → Carries (Off (place change)) before now old new
  linked_off change one acts le =
      acts_carry (Off (place change)) (off_same (place change)) before now old new result change (Undecided change) acts le
      (off_did_story old (before + 1) change one)
      (λ event it image h. off_failed_story old (before + 1) change one it.0 image (subst (λ (e : Event). Images (happened (before + 1) e old) image) it.1 h))

  -- a write or a cut
  pub written_off : (change : Change) → IsAtOne change → (step : Step) → Acts before old new result change (Spoils old (place change) step) → before ≤ now → Carries (Off (place change)) before now old new
  written_off change one step acts le =
      acts_carry (Off (place change)) (off_same (place change)) before now old new result change (Spoils old (place change) step) acts le
      (off_did_story old (before + 1) change one)
      (λ event it image h. elim it [
        | inl is ↦ off_did_story old (before + 1) (tried (place change) step) tt image (subst (λ (e : Event). Images (happened (before + 1) e old) image) is h)
        | inr so ↦ off_did_story old (before + 1) (spoiled (place change) step so.0) tt image (subst (λ (e : Event). Images (happened (before + 1) e old) image) so.2 h)
      ])

  -- a sync
  pub settled_off : (change : Change) → IsAtOne change → Acts before old new result change NoEvent → before ≤ now → Carries (Off (place change)) before now old new
  settled_off change one acts le =
      acts_carry (Off (place change)) (off_same (place change)) before now old new result change NoEvent acts le
      (off_did_story old (before + 1) change one) (λ event it image h. absurd it)

-- a call that didn't fail was done
pub was_done : {T E : Type 0} (before : ℕ) (old new : Option Story) (result : Result T E) (change : Change) (Fails : Event → Type 0) → Acts before old new result change Fails → is_err result ≡ false → new ≡ happened (before + 1) (did change) old
was_done before old new (Ok v) change Fails acts fine = acts.ok
was_done before old new (Err e) change Fails acts fine = absurd (cc)

pub off_then : (path : List ℕ) (before mid now : ℕ) (old between new : Option Story) → Carries (Off path) before mid old between → Carries (Off path) mid now between new → Carries (Off path) before now old new
off_then path before mid now old between new first second = carries_then (Off path) (off_same path) (off_trans path) before mid now old between new first second

-- a synced file is left as it reads
pub settled_story : (s : Option Story) (moment : ℕ) (path : List ℕ) (image : Directory) → Images (happened moment (did (settled path)) s) image → WhereTold s (λ d. image path ≡ d path)
settled_story None moment path image it = tt
settled_story (Some s) moment path image it = settled_image s.start s.events moment path image it

moved_did_story : (s : Option Story) (moment : ℕ) (from to : List ℕ) (image : Directory) → Images (happened moment (did (moved from to)) s) image → Comes (Moves from to) s image
moved_did_story None moment from to image it = absurd it
moved_did_story (Some s) moment from to image it = moved_did s.start s.events moment from to image it

moved_failed_story : (s : Option Story) (moment : ℕ) (from to : List ℕ) (reads_so : Bool) (image : Directory) → Images (happened moment (failed (moved from to) reads_so) s) image → Comes (MayMove from to) s image
moved_failed_story None moment from to reads_so image it = absurd it
moved_failed_story (Some s) moment from to reads_so image it = moved_failed s.start s.events moment from to reads_so image it

module _ {T E : Type 0} (before now : ℕ) (old new : Option Story) (result : Result T E) (from to : List ℕ) (acts : Acts before old new result (moved from to) (Undecided (moved from to))) where
  -- a rename
  pub moves : before ≤ now → Carries (MayMove from to) before now old new
  moves le =
      acts_carry (MayMove from to) (λ d. inl (λ q. refl)) before now old new result (moved from to) (Undecided (moved from to)) acts le
      (λ image it. let was = moved_did_story old (before + 1) from to image it in (was.0, was.1, inr was.2))
      (λ event it image h. moved_failed_story old (before + 1) from to it.0 image (subst (λ (e : Event). Images (happened (before + 1) e old) image) it.1 h))

-- once it is done
pub has_moved : (old new : Option Story) (moment : ℕ) (from to : List ℕ) → new ≡ happened moment (did (moved from to)) old → (image : Directory) → Images new image → Comes (Moves from to) old image
has_moved old new moment from to is image it = moved_did_story old moment from to image (subst (λ (s : Option Story). Images s image) is it)

-- a removed file is gone
removed_story : (s : Option Story) (moment : ℕ) (path : List ℕ) (image : Directory) → Images (happened moment (did (removed path)) s) image → image path ≡ None
removed_story None moment path image it = absurd it
removed_story (Some s) moment path image it = removed_image s.start s.events moment path image it

pub is_gone : (old new : Option Story) (moment : ℕ) (path : List ℕ) → new ≡ happened moment (did (removed path)) old → (image : Directory) → Images new image → image path ≡ None
is_gone old new moment path is image it = removed_story old moment path image (subst (λ (s : Option Story). Images s image) is it)

turns_same : (s : Option Story) (from to : List ℕ) → Turns s s (MayMove from to)
turns_same None from to = tt
turns_same (Some s) from to = inl (λ q. refl)

turns_failed : (s : Option Story) (moment : ℕ) (from to : List ℕ) (reads_so : Bool) → Turns s (happened moment (failed (moved from to) reads_so) s) (MayMove from to)
turns_failed None moment from to reads_so = tt
turns_failed (Some s) moment from to true = inr (λ q. refl)
turns_failed (Some s) moment from to false = inl (λ q. refl)

-- what the disk reads after a rename that failed
pub may_read : {T E : Type 0} (before : ℕ) (old new : Option Story) (from to : List ℕ) (e : E) → Acts {T = T} before old new (Err e) (moved from to) (Undecided (moved from to)) → Turns old new (MayMove from to)
may_read before old new from to e acts = elim acts.err [
  | inl is ↦ subst (λ (s : Option Story). Turns old s (MayMove from to)) (sym is) (turns_same old from to)
  | inr it ↦ subst (λ (s : Option Story). Turns old s (MayMove from to)) (sym (it.3 ∙ ap (λ (event : Event). happened (before + 1) event old) it.2.1)) (turns_failed old (before + 1) from to it.2.0)
]

-- from one relation to another
pub weaken : (R Q : Directory → Directory → Type 0) (before now : ℕ) (old new : Option Story) → ((c d : Directory) → Images old c → R c d → Q c d) → Carries R before now old new → Carries Q before now old new
weaken R Q before now old new is it = record {
  leaves = record {
    later = it.leaves.later;
    each = λ t image t_le h. ⊎_elim (λ was. inl was) (λ x. inr (x.0, x.1, is x.0 image x.1 x.2)) (it.leaves.each t image t_le h);
  };
  images = λ image h. let x = it.images image h in (x.0, x.1, is x.0 image x.1 x.2);
}

-- one run of calls and then another, each by its own relation
pub then_by : (R S Q : Directory → Directory → Type 0) (before mid now : ℕ) (old between new : Option Story)
    → ((c d : Directory) → Images old c → R c d → Q c d) → ((c d e : Directory) → Images old c → R c d → Images between d → S d e → Q c e)
    → Carries R before mid old between → Carries S mid now between new → Carries Q before now old new
then_by R S Q before mid now old between new is further first second = record {
  leaves = record {
    later = omega (arith, first.leaves.later, second.leaves.later);
    each = λ t image t_le it.
        ⊎_elim
        (λ h. ⊎_elim (λ was. inl was) (λ x. inr (x.0, x.1, is x.0 image x.1 x.2)) (first.leaves.each t image t_le h))
        (λ h. inr (on image h))
        (second.leaves.each t image (omega (arith, t_le, first.leaves.later)) it);
  };
  images = λ image it. on image (second.images image it);
}
  where
    on : (image : Directory) → Comes S between image → Comes Q old image
    on image it = let x = first.images it.0 it.1 in (x.0, x.1, further x.0 it.0 image x.1 x.2 it.1 it.2)

wrote_story : (s : Option Story) (moment : ℕ) (path : List ℕ) (at : ℕ) (bytes : List ℕ) (image : Directory) → Images (happened moment (did (wrote path at bytes)) s) image → Comes (Wrote path (inl (at, length bytes))) s image
wrote_story None moment path at bytes image it = absurd it
wrote_story (Some s) moment path at bytes image it = wrote_from s.start s.events moment path at bytes image it

spoiled_story : (s : Option Story) (moment : ℕ) (path : List ℕ) (step : Step) (bytes : List ℕ) (image : Directory) → Images (happened moment (did (spoiled path step bytes)) s) image → Comes (Wrote path step) s image
spoiled_story None moment path step bytes image it = absurd it
spoiled_story (Some s) moment path step bytes image it = spoiled_from s.start s.events moment path step bytes image it

tried_story : (s : Option Story) (moment : ℕ) (path : List ℕ) (step : Step) (image : Directory) → Images (happened moment (did (tried path step)) s) image → Comes (Wrote path step) s image
tried_story None moment path step image it = absurd it
tried_story (Some s) moment path step image it = tried_from s.start s.events moment path step image it

cut_story : (s : Option Story) (moment : ℕ) (path : List ℕ) (size : ℕ) (image : Directory) → Images (happened moment (did (cut path size)) s) image → Comes (Wrote path (inr size)) s image
cut_story None moment path size image it = absurd it
cut_story (Some s) moment path size image it = cut_from s.start s.events moment path size image it

-- a write or a cut
steps_to : {T E : Type 0} (before now : ℕ) (old new : Option Story) (result : Result T E) (path : List ℕ) (step : Step) (change : Change)
    → ((moment : ℕ) (image : Directory) → Images (happened moment (did change) old) image → Comes (Wrote path step) old image)
    → Acts before old new result change (Spoils old path step) → before ≤ now → Carries (Wrote path step) before now old new
steps_to before now old new result path step change done acts le =
    acts_carry (Wrote path step) (wrote_nothing path step) before now old new result change (Spoils old path step) acts le (done (before + 1))
    (λ event it image h. elim it [
      | inl is ↦ tried_story old (before + 1) path step image (subst (λ (e : Event). Images (happened (before + 1) e old) image) is h)
      | inr so ↦ spoiled_story old (before + 1) path step so.0 image (subst (λ (e : Event). Images (happened (before + 1) e old) image) so.2 h)
    ])

-- a write
pub writes : {T E : Type 0} (before now : ℕ) (old new : Option Story) (result : Result T E) (path : List ℕ) (at : ℕ) (bytes : List ℕ)
    → Acts before old new result (wrote path at bytes) (Spoils old path (inl (at, length bytes))) → before ≤ now → Carries (Wrote path (inl (at, length bytes))) before now old new
writes before now old new result path at bytes acts le =
    steps_to before now old new result path (inl (at, length bytes)) (wrote path at bytes) (λ moment image it. wrote_story old moment path at bytes image it) acts le

-- a cut
pub cuts : {T E : Type 0} (before now : ℕ) (old new : Option Story) (result : Result T E) (path : List ℕ) (size : ℕ)
    → Acts before old new result (cut path size) (Spoils old path (inr size)) → before ≤ now → Carries (Wrote path (inr size)) before now old new
cuts before now old new result path size acts le = steps_to before now old new result path (inr size) (cut path size) (λ moment image it. cut_story old moment path size image it) acts le

settles_story : (s : Option Story) (moment now : ℕ) (path : List ℕ) → IsSoundStory s now → (image : Directory) → Images (happened moment (did (settled path)) s) image → Comes Same s image
settles_story None moment now path sound image it = absurd it
settles_story (Some s) moment now path sound image it = (image, settled_from s.start s.events moment now path sound image it, λ q. refl)

-- a sync
pub settles : {T E : Type 0} (before now : ℕ) (old new : Option Story) (result : Result T E) (path : List ℕ) → IsSoundStory old before → Acts before old new result (settled path) NoEvent → before ≤ now → Carries Same before now old new
settles before now old new result path sound acts le =
    acts_carry Same (λ d q. refl) before now old new result (settled path) NoEvent acts le (settles_story old (before + 1) before path sound) (λ event it image h. absurd it)

settled_now : (s : Option Story) (moment : ℕ) (path : List ℕ) → IsSettled path (happened moment (did (settled path)) s)
settled_now None moment path image it = absurd it
settled_now (Some s) moment path image it = settled_image s.start s.events moment path image it

pub is_settled : (old new : Option Story) (moment : ℕ) (path : List ℕ) → new ≡ happened moment (did (settled path)) old → IsSettled path new
is_settled old new moment path is = subst (λ (s : Option Story). IsSettled path s) (sym is) (settled_now old moment path)

pub wrote_on : (path : List ℕ) (step : Step) (c d e : Directory) → Wrote path step c d → Same d e → Wrote path step c e
wrote_on path step c d e it same = record { off = λ q apart. same q ∙ it.off q apart; at = subst (λ (x : Option (List ℕ)). StepsTo step (c path) x) (sym (same path)) it.at }

pub there_after : (s : Option Story) (moment : ℕ) (path : List ℕ) (at : ℕ) (bytes : List ℕ) → WhereTold s (HasRoom path at) → WhereTold (happened moment (did (wrote path at bytes)) s) (IsThere path)
there_after None moment path at bytes room = tt
there_after (Some s) moment path at bytes room = (overlaid at bytes room.0, update-here (reads s) path (option_map (overlaid at bytes) (reads s path)) ∙ ap (option_map (overlaid at bytes)) room.1)

-- what is safe since an earlier moment stays so over calls that keep it
pub safe_on : (R : Directory → Directory → Type 0) (before now : ℕ) (old new : Option Story) (t : ℕ) (P : Directory → Type 0) → Carries R before now old new → t ≤ before
    → ((c d : Directory) → Images old c → R c d → P d) → Safe old t P → Safe new t P
safe_on R before now old new t P carries le keeps safe image it = ⊎_elim (safe image) (λ x. keeps x.0 image x.1 x.2) (carries.leaves.each t image le it)

-- and what holds of each image now is safe from now on
pub safe_from : (s : Option Story) (now : ℕ) (P : Directory → Type 0) → IsSoundStory s now → ((image : Directory) → Images s image → P image) → Safe s now P
safe_from s now P sound holds image it = holds image (now_only s now sound image it)

-- what the disk reads is one of the things that a crash now may leave
pub reads_now : (s : Story) (now : ℕ) → IsSoundStory (Some s) now → Images (Some s) (reads s)
reads_now s now sound = ((state s.start s.events).files, main_lies s.start s.events, sound.stands)

-- once a file was made on a path that was free, each crash leaves it there, and empty
made_story : (s : Option Story) (moment now : ℕ) (path : List ℕ) → IsSoundStory s now → WhereTold s (λ d. d path ≡ None) → (image : Directory) → Images (happened moment (did (made path)) s) image → image path ≡ Some []
made_story None moment now path sound free image it = absurd it
made_story (Some s) moment now path sound free image it = made_image s.start s.events moment now path sound free image it

pub is_made : (old new : Option Story) (moment now : ℕ) (path : List ℕ) → IsSoundStory old now → WhereTold old (λ d. d path ≡ None) → new ≡ happened moment (did (made path)) old → (image : Directory) → Images new image → image path ≡ Some []
is_made old new moment now path sound free is image it = made_story old moment now path sound free image (subst (λ (s : Option Story). Images s image) is it)
