-- What the size of a file tells of it.
use Rattle.std.proofs.Common.{◌≡◌, ℕ, ◌≤◌, List, length, Option, Some, None, refl, sym, subst}
use Rattle.std.specs.Option.{option_map}
use Rattle.disk_trait.specs.Story.{Story, WhereTold, reads}
use Rattle.disk_trait.specs.Calls.{IsThere, HasRoom}

there_of : (file : Option (List ℕ)) (n : ℕ) → Some n ≡ option_map length file → (bytes : List ℕ) × (file ≡ Some bytes) × (n ≡ length bytes)
there_of None n is = absurd (cc)
there_of (Some bytes) n is = (bytes, refl, cc)

pub there_by_size : (s t : Option Story) (path : List ℕ) (n : ℕ) → t ≡ s → WhereTold s (λ d. Some n ≡ option_map length (d path)) → WhereTold t (IsThere path)
there_by_size None t path n same size = subst (λ (x : Option Story). WhereTold x (IsThere path)) (sym same) tt
there_by_size (Some s) t path n same size = let it = there_of (reads s path) n size in subst (λ (x : Option Story). WhereTold x (IsThere path)) (sym same) (it.0, it.1)

pub room_by_size : (s t : Option Story) (path : List ℕ) (n at : ℕ) → t ≡ s → WhereTold s (λ d. Some n ≡ option_map length (d path)) → at ≤ n → WhereTold t (HasRoom path at)
room_by_size None t path n at same size le = subst (λ (x : Option Story). WhereTold x (HasRoom path at)) (sym same) tt
room_by_size (Some s) t path n at same size le =
    let it = there_of (reads s path) n size in
    subst (λ (x : Option Story). WhereTold x (HasRoom path at)) (sym same) (it.0, it.1, subst (λ (k : ℕ). at ≤ k) it.2 le)
