-- What a history keeps through a crash.
use Rattle.std.specs.Prelude.{◌≡◌, ℕ, ◌+◌, ◌<◌, ◌≤◌, Option, Some}
use Rattle.disk_trait.specs.Change.{Directory}
use Rattle.disk_trait.specs.Story.{Story, Since, Images}
use Rattle.dict_store_laws.specs.Recovers.{Meaning, Recovers}

-- a directory recovers to the catalog after some number of entries, within these bounds
pub record IsPrefix {Catalog : Type 0} (meaning : Meaning Catalog) (after : ℕ → Catalog) (low high : ℕ) (directory : Directory) : Type 0 where
  pub k : ℕ
  pub from : low ≤ k
  pub to : k ≤ high
  pub recovers : Recovers meaning directory (after k)

-- Each crash since a moment leaves the catalog after a prefix of the history, which has n entries; each crash since an entry was
-- acknowledged, after a prefix with that entry. `stamp` has the moment of each acknowledged entry.
pub record Safe {Catalog : Type 0} (meaning : Meaning Catalog) (s : Option Story) (begun : ℕ) (after : ℕ → Catalog) (n : ℕ) (stamp : ℕ → Option ℕ) : Type 0 where
  pub prefix : (image : Directory) → Since s begun image → IsPrefix meaning after 0 n image
  pub acknowledged : (i t : ℕ) → i < n → stamp i ≡ Some t → (image : Directory) → Since s t image → IsPrefix meaning after (i + 1) n image

-- no entry was acknowledged later than now
abbrev pub IsStamped : ℕ → (ℕ → Option ℕ) → ℕ → Type 0
IsStamped n stamp now = (i t : ℕ) → i < n → stamp i ≡ Some t → t ≤ now

-- The history goes on: its entries stay, and further ones are acknowledged only now, and where each crash now has them.
pub record Grows {Catalog : Type 0} (meaning : Meaning Catalog) (s : Option Story) (now : ℕ) (after later : ℕ → Catalog) (n m : ℕ) (stamp marked : ℕ → Option ℕ) : Type 0 where
  pub longer : n ≤ m
  pub same : (k : ℕ) → k ≤ n → later k ≡ after k
  pub marks : (i : ℕ) → i < n → marked i ≡ stamp i
  pub new : (i t : ℕ) → n ≤ i → i < m → marked i ≡ Some t → (t ≡ now) × ((image : Directory) → Images s image → IsPrefix meaning later (i + 1) m image)
