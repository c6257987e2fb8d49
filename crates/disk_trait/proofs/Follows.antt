-- What lies on a disk after a call, from what lay there before.
use Rattle.std.proofs.Common.{◌≡◌, ◌⊎◌, inl, inr, ℕ, ◌≤◌, Bool, IsTrue, true, false, ◌&&◌, ◌||◌, List, [], ◌∷◌, length, Option, Some, None, refl, sym, ◌∙◌, ap, subst, arith, rules}
use Rattle.std.specs.Str.{bytes_eq}
use Rattle.std.specs.Map.{update}
use Rattle.std.specs.Option.{option_map, unwrap_or}
use Rattle.std.specs.List.{list_any}
use Rattle.std.proofs.lemmas.List.{take_all}
use Rattle.disk_trait.specs.Change.{Directory, Step, Loose, Files, clean, stepped, Change, made, removed, moved, wrote, cut, tried, spoiled, settled, files_after, relinked, is_in, share}
use Rattle.disk_trait.specs.Crash.{Takes, Reaches, MayLeave, Events, did, failed, state, MayLie, Image, ImageSince, IsSound, last_event}
use Rattle.disk_trait.specs.Carried.{Off, StepsTo, Wrote}
use Rattle.disk_trait.proofs.Paths.{bytes_eq-same, paths, update-here, update-off, by_path}

-- a step may be lost
pub takes_nothing : (step : Step) (bytes : List ℕ) → Takes step bytes bytes
takes_nothing (inl range) bytes = search rules
takes_nothing (inr size) bytes = record { no_shorter = omega arith; front = sym (take_all (length bytes) bytes (omega arith)) }

all_lost : (synced : List ℕ) (steps : List Step) → Reaches synced steps synced
all_lost synced [] = refl
all_lost synced (step ∷ earlier) = (synced, all_lost synced earlier, takes_nothing step synced)

lost : Option Loose → Option (List ℕ)
lost None = None
lost (Some file) = Some file.synced

lost_may : (file : Option Loose) → MayLeave file (lost file)
unfolding lost
lost_may None = tt
lost_may (Some file) = all_lost file.synced file.steps

module _ (start : Directory) where
  -- a change at one path leaves the others
  pub changed_at : (events : Events) (path : List ℕ) (old files : Files) (w : Option Loose) (image : Directory)
      → MayLie start events old → ((q : List ℕ) → files q ≡ update bytes_eq old path w q) → ((q : List ℕ) → MayLeave (files q) (image q))
      → (v : Option (List ℕ)) → MayLeave (old path) v
      → Image start events (update bytes_eq image path v) × Off path (update bytes_eq image path v) image
  changed_at events path old files w image lies are may v may_v =
      let P : List ℕ → Type 0 = λ q. MayLeave (old q) (update bytes_eq image path v q) in
      let here : P path = subst (λ (x : Option (List ℕ)). MayLeave (old path) x) (sym (update-here image path v)) may_v in
      let off : (q : List ℕ) → bytes_eq path q ≡ false → P q = λ q apart.
      subst (λ (x : Option (List ℕ)). MayLeave (old q) x) (sym (update-off image path v q apart))
      (subst (λ (x : Option Loose). MayLeave x (image q)) (are q ∙ update-off old path w q apart) (may q)) in
      ((old, lies, by_path path P here off), λ q apart. sym (update-off image path v q apart))

-- the one path of a change that isn't a rename
abbrev pub place : Change → List ℕ
place (made path) = path
place (removed path) = path
place (moved from to) = from
place (wrote path at bytes) = path
place (cut path size) = path
place (tried path step) = path
place (spoiled path step bytes) = path
place (settled path) = path

abbrev pub IsAtOne : Change → Type 0
IsAtOne (moved from to) = ⊥
IsAtOne _ = Unit {0}

-- what lies at that path then
abbrev point : Change → Directory → Files → Option Loose
point (made path) reads old = Some (unwrap_or (old path) (clean []))
point (removed path) reads old = None
point (moved from to) reads old = None
point (wrote path at bytes) reads old = option_map (stepped (inl (at, length bytes))) (old path)
point (cut path size) reads old = option_map (stepped (inr size)) (old path)
point (tried path step) reads old = option_map (stepped step) (old path)
point (spoiled path step bytes) reads old = option_map (stepped step) (old path)
point (settled path) reads old = option_map clean (reads path)

at_point : (change : Change) → IsAtOne change → (reads : Directory) (old : Files) (q : List ℕ) → files_after change reads old q ≡ update bytes_eq old (place change) (point change reads old) q
at_point (made path) one reads old q = refl
at_point (removed path) one reads old q = refl
at_point (moved from to) one reads old q = absurd one
at_point (wrote path at bytes) one reads old q = refl
at_point (cut path size) one reads old q = refl
at_point (tried path step) one reads old q = refl
at_point (spoiled path step bytes) one reads old q = refl
at_point (settled path) one reads old q = refl

module _ (start : Directory) (events : Events) (moment : ℕ) (change : Change) (one : IsAtOne change) where
  off_changed : (old files : Files) (image : Directory) → MayLie start events old → ((q : List ℕ) → files q ≡ files_after change (state start events).reads old q)
      → ((q : List ℕ) → MayLeave (files q) (image q)) → (from : Directory) × Image start events from × Off (place change) from image
  off_changed old files image lies are may =
      let r = (state start events).reads in
      let done = changed_at start events (place change) old files (point change r old) image lies (λ q. are q ∙ at_point change one r old q) may (lost (old (place change))) (lost_may (old (place change))) in
      (update bytes_eq image (place change) (lost (old (place change))), done.0, done.1)

  pub off_did : (image : Directory) → Image start ((moment, did change) ∷ events) image → (from : Directory) × Image start events from × Off (place change) from image
  off_did image it = let lie = it.1 in off_changed lie.0 it.0 image lie.1 lie.3 it.2

  pub off_failed : (reads_so : Bool) (image : Directory) → Image start ((moment, failed change reads_so) ∷ events) image → (from : Directory) × Image start events from × Off (place change) from image
  off_failed reads_so image it =
      let lie = it.1 in
      elim lie.2 [
        | inl same ↦ (image, (lie.0, lie.1, λ q. subst (λ (x : Option Loose). MayLeave x (image q)) (same q) (it.2 q)), λ q apart. refl)
        | inr are ↦ off_changed lie.0 it.0 image lie.1 are it.2
      ]

-- a synced file is left as it reads
may_clean : (x y : Option (List ℕ)) → MayLeave (option_map clean x) y → y ≡ x
may_clean None None may = refl
may_clean None (Some b) may = absurd may
may_clean (Some a) None may = absurd may
may_clean (Some a) (Some b) may = ap Some may

pub settled_image : (start : Directory) (events : Events) (moment : ℕ) (path : List ℕ) (image : Directory) → Image start ((moment, did (settled path)) ∷ events) image → image path ≡ (state start events).reads path
settled_image start events moment path image it =
    let lie = it.1 in
    may_clean ((state start events).reads path) (image path)
    (subst (λ (x : Option Loose). MayLeave x (image path)) (lie.3 path ∙ update-here lie.0 path (option_map clean ((state start events).reads path))) (it.2 path))

-- since now there is what a crash now may leave
pub only_now : (start : Directory) (events : Events) (now : ℕ) → last_event events ≤ now → (image : Directory) → ImageSince start events now image → Image start events image
only_now start [] now current image it = it
only_now start (event ∷ events) now current image (inl it) = it
only_now start (event ∷ events) now current image (inr it) = absurd (omega (arith, it.0, current))

may_none : (y : Option (List ℕ)) → MayLeave None y → y ≡ None
may_none None may = refl
may_none (Some b) may = absurd may

some_may : (file : Loose) (y : Option (List ℕ)) → MayLeave (Some file) y → (b : List ℕ) × (y ≡ Some b)
some_may file None may = absurd may
some_may file (Some b) may = (b, refl)

pub relinked_same : {X : Type 0} (f : List ℕ → Option X) (path : List ℕ) (w : Option X) → f path ≡ w → (q : List ℕ) → relinked w path path f q ≡ f q
relinked_same f path None is q = refl
relinked_same f path (Some file) is q =
    by_path path (λ q. relinked (Some file) path path f q ≡ f q) (update-here (update bytes_eq f path None) path (Some file) ∙ sym is)
    (λ q apart. update-off (update bytes_eq f path None) path (Some file) q apart ∙ update-off f path None q apart) q

pub apart-sym : (a b : List ℕ) → bytes_eq a b ≡ false → bytes_eq b a ≡ false
apart-sym a b apart = elim (paths b a) [
  | inl same ↦ absurd (let it : bytes_eq a b ≡ true = subst (λ (x : List ℕ). bytes_eq a x ≡ true) (sym same) (bytes_eq-same a) in cc (it, apart))
  | inr is ↦ is
]

-- a file under another path
module _ (start : Directory) (events : Events) (from to : List ℕ) (old files : Files) (image : Directory) (lies : MayLie start events old) (may : (q : List ℕ) → MayLeave (files q) (image q)) where
  to_itself : (file : Loose) → old from ≡ Some file → from ≡ to → ((q : List ℕ) → files q ≡ relinked (Some file) from to old q) → (was : Directory) × Image start events was × ((q : List ℕ) → image q ≡ relinked (was from) from to was q)
  to_itself file there same are = (
    image,
    (old, lies, λ q. subst (λ (x : Option Loose). MayLeave x (image q)) (are q ∙ subst (λ (x : List ℕ). relinked (Some file) from x old q ≡ old q) same (relinked_same old from (Some file) there q)) (may q)),
    λ q. sym (subst (λ (x : List ℕ). relinked (image from) from x image q ≡ image q) same (relinked_same image from (image from) refl q)),
  )

  to_other : (file : Loose) → old from ≡ Some file → bytes_eq from to ≡ false → ((q : List ℕ) → files q ≡ relinked (Some file) from to old q) → (was : Directory) × Image start events was × ((q : List ℕ) → image q ≡ relinked (was from) from to was q)
  to_other file there apart are =
      let back = apart-sym from to apart in
      let first = update bytes_eq image from (image to) in
      let was = update bytes_eq first to (lost (old to)) in
      let was_from : was from ≡ image to = update-off first to (lost (old to)) from back ∙ update-here image from (image to) in
      let was_to : was to ≡ lost (old to) = update-here first to (lost (old to)) in
      let was_off : (q : List ℕ) → bytes_eq from q ≡ false → bytes_eq to q ≡ false → was q ≡ image q = λ q a b. update-off first to (lost (old to)) q b ∙ update-off image from (image to) q a in
      let gone = update bytes_eq old from None in
      let f_to : files to ≡ Some file = are to ∙ update-here gone to (Some file) in
      let f_from : files from ≡ None = are from ∙ update-off gone to (Some file) from back ∙ update-here old from None in
      let f_off : (q : List ℕ) → bytes_eq from q ≡ false → bytes_eq to q ≡ false → files q ≡ old q = λ q a b. are q ∙ update-off gone to (Some file) q b ∙ update-off old from None q a in
      let may_to = subst (λ (x : Option Loose). MayLeave x (image to)) f_to (may to) in
      let b = some_may file (image to) may_to in
      let none = may_none (image from) (subst (λ (x : Option Loose). MayLeave x (image from)) f_from (may from)) in
      let L : List ℕ → Type 0 = λ q. MayLeave (old q) (was q) in
      let l_from : L from = subst (λ (x : Option (List ℕ)). MayLeave (old from) x) (sym was_from) (subst (λ (x : Option Loose). MayLeave x (image to)) (sym there) may_to) in
      let l_to : L to = subst (λ (x : Option (List ℕ)). MayLeave (old to) x) (sym was_to) (lost_may (old to)) in
      let l_off : (q : List ℕ) → bytes_eq from q ≡ false → bytes_eq to q ≡ false → L q = λ q x y.
      subst (λ (d : Option (List ℕ)). MayLeave (old q) d) (sym (was_off q x y)) (subst (λ (d : Option Loose). MayLeave d (image q)) (f_off q x y) (may q)) in
      let P : List ℕ → Type 0 = λ q. image q ≡ relinked (Some b.0) from to was q in
      let without = update bytes_eq was from None in
      let p_to : P to = b.1 ∙ sym (update-here without to (Some b.0)) in
      let p_from : P from = none ∙ sym (update-off without to (Some b.0) from back ∙ update-here was from None) in
      let p_off : (q : List ℕ) → bytes_eq from q ≡ false → bytes_eq to q ≡ false → P q = λ q x y.
      sym (update-off without to (Some b.0) q y ∙ update-off was from None q x ∙ was_off q x y) in (
        was,
        (old, lies, by_path from L l_from (λ q x. by_path to (λ r. bytes_eq from r ≡ false → L r) (λ _. l_to) (λ r y x. l_off r x y) q x)),
        λ q. subst (λ (w : Option (List ℕ)). image q ≡ relinked w from to was q) (sym (was_from ∙ b.1))
            (by_path from P p_from (λ q x. by_path to (λ r. bytes_eq from r ≡ false → P r) (λ _. p_to) (λ r y x. p_off r x y) q x) q),
      )

  moved_by : (file : Option Loose) → old from ≡ file → ((q : List ℕ) → files q ≡ relinked file from to old q) → (was : Directory) × Image start events was × ((q : List ℕ) → image q ≡ relinked (was from) from to was q)
  moved_by None gone are =
      let at_from : image from ≡ None = may_none (image from) (subst (λ (x : Option Loose). MayLeave x (image from)) (are from ∙ gone) (may from)) in
      (image, (old, lies, λ q. subst (λ (x : Option Loose). MayLeave x (image q)) (are q) (may q)), λ q. rw at_from refl)
  moved_by (Some file) there are = elim (paths from to) [
    | inl same ↦ to_itself file there same are
    | inr apart ↦ to_other file there apart are
  ]

-- from an image of before, where the rename was done or not
pub moved_did : (start : Directory) (events : Events) (moment : ℕ) (from to : List ℕ) (image : Directory) → Image start ((moment, did (moved from to)) ∷ events) image → (was : Directory) × Image start events was × ((q : List ℕ) → image q ≡ relinked (was from) from to was q)
moved_did start events moment from to image it = let lie = it.1 in moved_by start events from to lie.0 it.0 image lie.1 it.2 (lie.0 from) refl lie.3

pub moved_failed : (start : Directory) (events : Events) (moment : ℕ) (from to : List ℕ) (reads_so : Bool) (image : Directory) → Image start ((moment, failed (moved from to) reads_so) ∷ events) image
    → (was : Directory) × Image start events was × (((q : List ℕ) → image q ≡ was q) ⊎ ((q : List ℕ) → image q ≡ relinked (was from) from to was q))
moved_failed start events moment from to reads_so image it =
    let lie = it.1 in
    elim lie.2 [
      | inl same ↦ (image, (lie.0, lie.1, λ q. subst (λ (x : Option Loose). MayLeave x (image q)) (same q) (it.2 q)), inl (λ q. refl))
      | inr are ↦ let done = moved_by start events from to lie.0 it.0 image lie.1 it.2 (lie.0 from) refl are in (done.0, done.1, inr done.2)
    ]

-- a path that a call names is one of those that it decides
own_path : (paths : List (List ℕ)) (undecided : List (List (List ℕ))) (path : List ℕ) → is_in path paths ≡ true → IsTrue (is_in path paths || list_any (λ named. share named paths && is_in path named) undecided)
own_path paths undecided path named = rw named refl

free_path : (x : Option Loose) (y : Option (List ℕ)) → MayLeave x y → y ≡ None → x ≡ None
free_path None y may none = refl
free_path (Some file) None may none = absurd may
free_path (Some file) (Some b) may none = absurd (cc)

-- a file that was made on a free path is left there, and empty
pub made_image : (start : Directory) (events : Events) (moment now : ℕ) (path : List ℕ) → IsSound start events now → (state start events).reads path ≡ None → (image : Directory) → Image start ((moment, did (made path)) ∷ events) image → image path ≡ Some []
made_image start events moment now path sound free image it =
    let lie = it.1 in
    let s = state start events in
    let was : lie.0 path ≡ s.files path = lie.2 path (own_path (path ∷ []) s.undecided path (rw (bytes_eq-same path) refl)) in
    let none : lie.0 path ≡ None = was ∙ free_path (s.files path) (s.reads path) (sound.stands path) free in
    let laid : it.0 path ≡ Some (clean []) = lie.3 path ∙ update-here lie.0 path (Some (unwrap_or (lie.0 path) (clean []))) ∙ ap (λ (x : Option Loose). Some (unwrap_or x (clean []))) none in
    may_clean (Some []) (image path) (subst (λ (x : Option Loose). MayLeave x (image path)) laid (it.2 path))

pub removed_image : (start : Directory) (events : Events) (moment : ℕ) (path : List ℕ) (image : Directory) → Image start ((moment, did (removed path)) ∷ events) image → image path ≡ None
removed_image start events moment path image it =
    let lie = it.1 in
    may_none (image path) (subst (λ (x : Option Loose). MayLeave x (image path)) (lie.3 path ∙ update-here lie.0 path None) (it.2 path))

-- a step at a file, from an image of before
module _ (start : Directory) (events : Events) (path : List ℕ) (step : Step) (old files : Files) (image : Directory) (lies : MayLie start events old)
    (are : (q : List ℕ) → files q ≡ update bytes_eq old path (option_map (stepped step) (old path)) q) (may : (q : List ℕ) → MayLeave (files q) (image q)) where
  step_before : (file : Option Loose) (y : Option (List ℕ)) → MayLeave (option_map (stepped step) file) y → (v : Option (List ℕ)) × MayLeave file v × StepsTo step v y
  step_before None None it = (None, tt, tt)
  step_before None (Some b) it = absurd it
  step_before (Some file) None it = absurd it
  step_before (Some file) (Some b) it = (Some it.0, it.1, it.2)

  stepped_from : (was : Directory) × Image start events was × Wrote path step was image
  stepped_from =
      let at_path = subst (λ (x : Option Loose). MayLeave x (image path)) (are path ∙ update-here old path (option_map (stepped step) (old path))) (may path) in
      let v = step_before (old path) (image path) at_path in
      let done = changed_at start events path old files (option_map (stepped step) (old path)) image lies are may v.0 v.1 in
      (update bytes_eq image path v.0, done.0, record { off = done.1; at = subst (λ (x : Option (List ℕ)). StepsTo step x (image path)) (sym (update-here image path v.0)) v.2 })

pub wrote_from : (start : Directory) (events : Events) (moment : ℕ) (path : List ℕ) (at : ℕ) (bytes : List ℕ) (image : Directory) → Image start ((moment, did (wrote path at bytes)) ∷ events) image → (was : Directory) × Image start events was × Wrote path (inl (at, length bytes)) was image
wrote_from start events moment path at bytes image it = let lie = it.1 in stepped_from start events path (inl (at, length bytes)) lie.0 it.0 image lie.1 lie.3 it.2

pub cut_from : (start : Directory) (events : Events) (moment : ℕ) (path : List ℕ) (size : ℕ) (image : Directory) → Image start ((moment, did (cut path size)) ∷ events) image → (was : Directory) × Image start events was × Wrote path (inr size) was image
cut_from start events moment path size image it = let lie = it.1 in stepped_from start events path (inr size) lie.0 it.0 image lie.1 lie.3 it.2

pub tried_from : (start : Directory) (events : Events) (moment : ℕ) (path : List ℕ) (step : Step) (image : Directory) → Image start ((moment, did (tried path step)) ∷ events) image → (was : Directory) × Image start events was × Wrote path step was image
tried_from start events moment path step image it = let lie = it.1 in stepped_from start events path step lie.0 it.0 image lie.1 lie.3 it.2

pub spoiled_from : (start : Directory) (events : Events) (moment : ℕ) (path : List ℕ) (step : Step) (bytes : List ℕ) (image : Directory) → Image start ((moment, did (spoiled path step bytes)) ∷ events) image → (was : Directory) × Image start events was × Wrote path step was image
spoiled_from start events moment path step bytes image it = let lie = it.1 in stepped_from start events path step lie.0 it.0 image lie.1 lie.3 it.2

pub wrote_nothing : (path : List ℕ) (step : Step) (d : Directory) → Wrote path step d d
wrote_nothing path step d = record { off = λ q apart. refl; at = nothing (d path) }
  where
    nothing : (x : Option (List ℕ)) → StepsTo step x x
    nothing None = tt
    nothing (Some b) = takes_nothing step b

-- what a crash leaves after a sync it might have left before
pub settled_from : (start : Directory) (events : Events) (moment now : ℕ) (path : List ℕ) → IsSound start events now → (image : Directory) → Image start ((moment, did (settled path)) ∷ events) image → Image start events image
settled_from start events moment now path sound image it =
    let lie = it.1 in
    let s = state start events in
    let was : lie.0 path ≡ s.files path = lie.2 path (own_path (path ∷ []) s.undecided path (rw (bytes_eq-same path) refl)) in
    let here : MayLeave (lie.0 path) (image path) =
    subst (λ (x : Option Loose). MayLeave x (image path)) (sym was) (subst (λ (y : Option (List ℕ)). MayLeave (s.files path) y) (sym (settled_image start events moment path image it)) (sound.stands path)) in
    (lie.0, lie.1, by_path path (λ q. MayLeave (lie.0 q) (image q)) here (λ q apart. subst (λ (x : Option Loose). MayLeave x (image q)) (lie.3 q ∙ update-off lie.0 path (option_map clean (s.reads path)) q apart) (it.2 q)))

-- what lies on the disk where each failed call is as it reads
pub main_lies : (start : Directory) (events : Events) → MayLie start events (state start events).files
main_lies start [] = λ q. refl
main_lies start ((moment, did change) ∷ events) = ((state start events).files, main_lies start events, λ q named. refl, λ q. refl)
main_lies start ((moment, failed change true) ∷ events) = ((state start events).files, main_lies start events, inr (λ q. refl))
main_lies start ((moment, failed change false) ∷ events) = ((state start events).files, main_lies start events, inl (λ q. refl))
