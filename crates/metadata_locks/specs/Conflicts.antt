-- The first request that doesn't go with what another session has locked.
use Rattle.std.specs.Prelude.{ℕ, Bool, ◌&&◌, ◌==◌, ◌+◌, not, List, [], ◌∷◌, Option, Some, None}
use Rattle.std.specs.List.{find}
use Rattle.std.specs.Option.{option_map}
use Rattle.metadata_locks.specs.declared.request.Request.{Request}
use Rattle.metadata_locks.specs.declared.locks.Locks.{Locks}
use Rattle.metadata_locks.specs.Modes.{is_against}
use Rattle.metadata_locks.specs.Held.{Held, modes_at}

-- another session has locked the request's key in a mode that doesn't go with it
abbrev pub is_held_against : ℕ → Request → ℕ × Held → Bool
is_held_against session request held = not (held.0 == session) && is_against request.mode (modes_at held.1 request.key)

-- the first of them that has
abbrev pub holder_among : ℕ → Request → List (ℕ × Held) → Option ℕ
holder_among session request sessions = option_map (λ held. held.0) (find (is_held_against session request) sessions)

-- the least session that has; sessions stand in the order of their numbers
abbrev pub holder_against : Locks → ℕ → Request → Option ℕ
holder_against locks session request = holder_among session request locks.sessions.entries

abbrev pub at_place : ℕ → Option ℕ → Option (ℕ × ℕ) → Option (ℕ × ℕ)
at_place place None later = later
at_place place (Some holder) later = Some (place, holder)

abbrev pub conflict_from : Locks → ℕ → ℕ → List Request → Option (ℕ × ℕ)
conflict_from locks session place [] = None
conflict_from locks session place (request ∷ requests) = at_place place (holder_against locks session request) (conflict_from locks session (place + 1) requests)

-- the least place of a request that another session has locked against, with that session
abbrev pub first_conflict : Locks → ℕ → List Request → Option (ℕ × ℕ)
first_conflict locks session requests = conflict_from locks session 0 requests
