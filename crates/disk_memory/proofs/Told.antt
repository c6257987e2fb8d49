-- A call that failed, as a record tells it.
use Rattle.std.proofs.Common.{◌≡◌, inl, inr, ℕ, ◌+◌, ◌<◌, Bool, true, false, ◌∷◌, Option, Some, None, Result, Ok, Err, OnOk, is_err, refl, ◌∙◌, ap, subst, sym}
use Rattle.disk_trait.specs.Change.{Directory, Change}
use Rattle.disk_trait.specs.Crash.{Events, Event}
use Rattle.disk_trait.specs.Story.{Story, happened}
use Rattle.disk_trait.specs.Calls.{Acts, last_moment}
use Rattle.disk_memory.specs.declared.record.Record.{Record}
use Rattle.disk_memory.specs.Record.{noted, told, story_when, Notes}

story_noted : (keep : Bool) (start : Directory) (old new : Events) (moment k : ℕ) (event : Event) → k ≡ moment → new ≡ noted keep (k, event) old → story_when keep start new ≡ happened moment event (story_when keep start old)
story_noted true start old new moment k event at is = ap (story_when true start) (is ∙ ap (λ (m : ℕ). (m, event) ∷ old) at)
story_noted false start old new moment k event at is = refl

-- one more event was noted
pub story_more : (start : Directory) (old new : Record) (moment k : ℕ) (event : Event) → k ≡ moment → Notes old new (k, event) → story_when new.keep start (told new) ≡ happened moment event (story_when old.keep start (told old))
story_more start old new moment k event at notes =
    subst (λ (keep : Bool). story_when keep start (told new) ≡ happened moment event (story_when old.keep start (told old))) (sym notes.keep)
    (story_noted old.keep start (told old) (told new) moment k event at notes.told)

-- so a failed call acts
pub acts_noted : {T E : Type 0} (e : E) (start : Directory) (old new : Record) (before k : ℕ) (change : Change) (Fails : Event → Type 0) (event : Event) → before < last_moment → Fails event → k ≡ before + 1 → Notes old new (k, event)
    → Acts {T = T} before (story_when old.keep start (told old)) (story_when new.keep start (told new)) (Err e) change Fails
acts_noted e start old new before k change Fails event lt fails at notes = record { ok = tt; err = inr (event, lt, fails, story_more start old new (before + 1) k event at notes) }

pub on_ok : {T E P : Type 0} (r : Result T E) → OnOk r P → is_err r ≡ false → P
on_ok (Ok x) p fine = p
on_ok (Err e) p fine = absurd (cc)
