-- Modes of locks, and which go together.
use Rattle.std.specs.Prelude.{Bool, true, false, ◌&&◌, ◌||◌, not}
use Rattle.metadata_locks.specs.declared.request.Mode.{Mode}
use Rattle.metadata_locks.specs.declared.request.Mode.TheVariants.{IX, S, X}
use Rattle.metadata_locks.specs.declared.modes.Modes.{Modes}

-- two modes of different sessions on one key go together where both are IX or both are S, and in no other case
abbrev pub goes_with : Mode → Mode → Bool
goes_with IX IX = true
goes_with S S = true
goes_with _ _ = false

-- the modes in which one session has locked one key

abbrev pub no_modes : Modes
no_modes = record { intention = false; shared = false; exclusive = false }

abbrev pub has : Modes → Mode → Bool
has modes IX = modes.intention
has modes S = modes.shared
has modes X = modes.exclusive

abbrev pub with_mode : Mode → Modes → Modes
with_mode IX modes = record modes { intention = true }
with_mode S modes = record modes { shared = true }
with_mode X modes = record modes { exclusive = true }

-- one of the modes doesn't go with this one
abbrev pub is_against : Mode → Modes → Bool
is_against mode modes = (has modes IX && not (goes_with mode IX)) || ((has modes S && not (goes_with mode S)) || (has modes X && not (goes_with mode X)))
