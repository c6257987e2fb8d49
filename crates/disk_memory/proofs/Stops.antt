-- A record that is done again up to a moment leaves what a crash then leaves.
use Rattle.std.proofs.Common.{◌≡◌, ◌⊎◌, inl, inr, ℕ, ◌<◌, List, Option, sym, ◌∙◌, ap, subst, arith}
use Rattle.disk_trait.specs.Change.{Directory}
use Rattle.disk_trait.specs.Crash.{Events, state, MayLeave, Image}
use Rattle.disk_trait.specs.Calls.{next_count}
use Rattle.disk_trait.proofs.Follows.{main_lies}
use Rattle.disk_memory.specs.declared.disk.MemoryDisk.{MemoryDisk}
use Rattle.disk_memory.specs.Replay.{IsLike, Agrees}
use Rattle.disk_memory.specs.Shown.{began, events, until, Leaves}

image_of : (choice : ℕ) (start : Directory) (events : Events) (reads torn left : Directory) → Agrees choice start events reads torn → IsLike left torn → Image start events left
image_of choice start events reads torn left so like = ((state start events).files, main_lies start events, λ q. subst (λ (y : Option (List ℕ)). MayLeave ((state start events).files q) y) (sym (like q)) (so.stands q))

pub stops_before : (m : MemoryDisk) (moment choice last : ℕ) (reads torn left : Directory) → choice ≡ 0 → last ≡ moment → Agrees choice (began m) (until last (events m)) reads torn → IsLike left torn → Leaves m moment choice left
stops_before m moment choice last reads torn left none is so like =
    let at_moment = subst (λ (k : ℕ). Agrees choice (began m) (until k (events m)) reads torn) is so in
    record {
      image = inl (image_of choice (began m) (until moment (events m)) reads torn left at_moment like);
      synced = λ _ path. like path ∙ at_moment.synced none path;
      done = λ one. absurd (omega (arith, one, none));
    }

pub stops_after : (m : MemoryDisk) (moment choice last : ℕ) (reads torn left : Directory) → 0 < choice → last ≡ next_count moment → Agrees choice (began m) (until last (events m)) reads torn → IsLike left torn → Leaves m moment choice left
stops_after m moment choice last reads torn left some is so like =
    let at_next = subst (λ (k : ℕ). Agrees choice (began m) (until k (events m)) reads torn) is so in
    record {
      image = inr (image_of choice (began m) (until (next_count moment) (events m)) reads torn left at_next like);
      synced = λ none. absurd (omega (arith, some, none));
      done = λ one path. like path ∙ at_next.done one path;
    }
