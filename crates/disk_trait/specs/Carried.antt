-- What a run of calls leaves, in words that go up through the layers. R relates the directory of before to that of after.
use Rattle.std.specs.Prelude.{◌≡◌, ℕ, ◌≤◌, false, List, Option, Some, None, ◌⊎◌}
use Rattle.std.specs.Str.{bytes_eq}
use Rattle.disk_trait.specs.Change.{Directory, Step, relinked}
use Rattle.disk_trait.specs.Crash.{Takes}
use Rattle.disk_trait.specs.Story.{Story, WhereTold, Images, Since, reads}

-- new is old but perhaps at one path
abbrev pub Off : List ℕ → Directory → Directory → Type 0
Off path old new = (other : List ℕ) → bytes_eq path other ≡ false → new other ≡ old other

-- A crash from now on, or at any moment since old, leaves what it might have left before, or something with P.
pub record Leaves (before now : ℕ) (old new : Option Story) (P : Directory → Type 0) : Type 0 where
  pub later : before ≤ now
  pub each : (t : ℕ) (image : Directory) → t ≤ before → Since new t image → Since old t image ⊎ P image

-- each image is by R from one that a crash might have left before
abbrev pub Comes : (Directory → Directory → Type 0) → Option Story → Directory → Type 0
Comes R old image = (from : Directory) × Images old from × R from image

-- Each crash in the calls, and from then on, leaves what is by R from an image of before.
pub record Carries (R : Directory → Directory → Type 0) (before now : ℕ) (old new : Option Story) : Type 0 where
  pub leaves : Leaves before now old new (Comes R old)
  pub images : (image : Directory) → Images new image → Comes R old image

-- both tell what they read
abbrev pub Turns : Option Story → Option Story → (Directory → Directory → Type 0) → Type 0
Turns None None P = Unit {0}
Turns None (Some t) P = ⊥
Turns (Some s) None P = ⊥
Turns (Some s) (Some t) P = P (reads s) (reads t)

abbrev pub Same : Directory → Directory → Type 0
Same old new = (path : List ℕ) → new path ≡ old path

-- a file was given another path, if it was there
abbrev pub Moves : List ℕ → List ℕ → Directory → Directory → Type 0
Moves from to old new = (path : List ℕ) → new path ≡ relinked (old from) from to old path

abbrev pub MayMove : List ℕ → List ℕ → Directory → Directory → Type 0
MayMove from to old new = Same old new ⊎ Moves from to old new

-- a file had a step that a crash may cut short, and nothing else changed
abbrev pub StepsTo : Step → Option (List ℕ) → Option (List ℕ) → Type 0
StepsTo step None None = Unit {0}
StepsTo step None (Some new) = ⊥
StepsTo step (Some old) None = ⊥
StepsTo step (Some old) (Some new) = Takes step old new

pub record Wrote (path : List ℕ) (step : Step) (old new : Directory) : Type 0 where
  pub off : Off path old new
  pub at : StepsTo step (old path) (new path)

-- each crash now leaves the file as it reads
abbrev pub IsSettled : List ℕ → Option Story → Type 0
IsSettled path s = (image : Directory) → Images s image → WhereTold s (λ d. image path ≡ d path)

-- Whatever a crash since a moment may have left has P.
abbrev pub Safe : Option Story → ℕ → (Directory → Type 0) → Type 0
Safe s t P = (image : Directory) → Since s t image → P image
