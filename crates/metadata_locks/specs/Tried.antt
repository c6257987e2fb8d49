-- What `try_all` tells of a conflict.
use Rattle.std.specs.Prelude.{ℕ, ◌≡◌, Option, Some, None, Result, Ok, Err}
use Rattle.metadata_locks.specs.declared.locks.TryFault.{TryFault}
use Rattle.metadata_locks.specs.declared.locks.TryFault.TheVariants.{Conflict, Memory}

-- a conflict is the first one, and there is none where all was locked; want of memory says that there is none either
abbrev pub conflict_told : Result Unit TryFault → Option (ℕ × ℕ) → Type 0
conflict_told (Ok _) first = first ≡ None
conflict_told (Err (Conflict request holder)) first = first ≡ Some (request, holder)
conflict_told (Err Memory) first = first ≡ None
