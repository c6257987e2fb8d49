-- What the last sync left, after a change.
use Rattle.std.proofs.Common.{◌≡◌, ℕ, Bool, true, false, cond, List, [], Option, Some, None, refl, sym, ◌∙◌, ap}
use Rattle.std.specs.Option.{option_map, unwrap_or}
use Rattle.std.specs.Str.{bytes_eq}
use Rattle.std.specs.Map.{update}
use Rattle.disk_trait.specs.Change.{Directory, Files, Loose, Step, clean, stepped, linked, unlinked, relinked}
use Rattle.disk_trait.proofs.Paths.{update-here, update-off, by_path}
use Rattle.disk_memory.specs.Replay.{synced_of}

pub update-own : (d : Directory) (path q : List ℕ) → update bytes_eq d path (d path) q ≡ d q
update-own d path q = by_path path (λ q. update bytes_eq d path (d path) q ≡ d q) (update-here d path (d path)) (λ q apart. update-off d path (d path) q apart) q

synced-cond : (b : Bool) (x y : Option Loose) → cond b (synced_of x) (synced_of y) ≡ synced_of (cond b x y)
synced-cond true x y = refl
synced-cond false x y = refl

-- the directory that the syncs left
abbrev pub all_synced : Files → Directory
all_synced files q = synced_of (files q)

pub synced-update : (files : Files) (path : List ℕ) (x : Option Loose) (q : List ℕ) → update bytes_eq (all_synced files) path (synced_of x) q ≡ synced_of (update bytes_eq files path x q)
synced-update files path x q = synced-cond (bytes_eq path q) x (files q)

made-one : (x : Option Loose) → Some (unwrap_or (synced_of x) []) ≡ synced_of (Some (unwrap_or x (clean [])))
made-one None = refl
made-one (Some file) = refl

pub synced-made : (files : Files) (path q : List ℕ) → linked [] path (all_synced files) q ≡ synced_of (linked (clean []) path files q)
synced-made files path q =
    ap (λ (y : Option (List ℕ)). update bytes_eq (all_synced files) path y q) (made-one (files path)) ∙ synced-update files path (Some (unwrap_or (files path) (clean []))) q

pub synced-removed : (files : Files) (path q : List ℕ) → unlinked path (all_synced files) q ≡ synced_of (unlinked path files q)
synced-removed files path q = synced-update files path None q

moved-one : (files : Files) (from to : List ℕ) (x : Option Loose) (q : List ℕ) → relinked (synced_of x) from to (all_synced files) q ≡ synced_of (relinked x from to files q)
moved-one files from to None q = refl
moved-one files from to (Some file) q =
    ap (λ (d : Directory). update bytes_eq d to (Some file.synced) q) (λ i q. synced-update files from None q i) ∙ synced-update (update bytes_eq files from None) to (Some file) q

pub synced-moved : (files : Files) (from to q : List ℕ) → relinked (all_synced files from) from to (all_synced files) q ≡ synced_of (relinked (files from) from to files q)
synced-moved files from to q = moved-one files from to (files from) q

stepped-one : (step : Step) (x : Option Loose) → synced_of x ≡ synced_of (option_map (stepped step) x)
stepped-one step None = refl
stepped-one step (Some file) = refl

-- a step is lost
pub synced-stepped : (files : Files) (path : List ℕ) (step : Step) (q : List ℕ) → all_synced files q ≡ synced_of (update bytes_eq files path (option_map (stepped step) (files path)) q)
synced-stepped files path step q =
    sym (update-own (all_synced files) path q)
    ∙ ap (λ (y : Option (List ℕ)). update bytes_eq (all_synced files) path y q) (stepped-one step (files path))
    ∙ synced-update files path (option_map (stepped step) (files path)) q

settled-one : (y : Option (List ℕ)) → y ≡ synced_of (option_map clean y)
settled-one None = refl
settled-one (Some bytes) = refl

pub synced-settled : (files : Files) (reads : Directory) (path q : List ℕ) → update bytes_eq (all_synced files) path (reads path) q ≡ synced_of (update bytes_eq files path (option_map clean (reads path)) q)
synced-settled files reads path q =
    ap (λ (y : Option (List ℕ)). update bytes_eq (all_synced files) path y q) (settled-one (reads path)) ∙ synced-update files path (option_map clean (reads path)) q
