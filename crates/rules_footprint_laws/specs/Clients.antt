-- What a client was told and what was then decided of its statement.
use Rattle.std.specs.Prelude.{List, [], map, Result, Ok, Err}
use Rattle.dd_errors.specs.Errors.{ErrorValue}
use Rattle.sql_ast.specs.declared.session.SessionState.{SessionState}
use Rattle.sql_ast.specs.declared.statement.Statement.{Statement}
use Rattle.dd_catalog.specs.declared.stop.Stop.{Stop}
use Rattle.dd_catalog.specs.declared.stop.Stop.TheVariants as stops
use Rattle.dd_catalog.specs.Walks.{Walk, run}
use Rattle.dd_catalog.specs.WalkLaws.{Look}
use Rattle.metadata_locks.specs.declared.request.Request.{Request}
use Rattle.rules_outcome.specs.Choices.{Choice}
use Rattle.rules_outcome.specs.Decided.{Decides}
use Rattle.rules_outcome.specs.declared.decided.Decided.{Decided}
use Rattle.rules_locks.specs.Claims.{with_claims}
use Rattle.rules_locks.specs.Told.{IsTold}
use Rattle.rules_intents.specs.Intents.{intent}
use Rattle.rules_footprint.specs.Footprints.{asked_claims}
use Rattle.rules_footprint.specs.Steps.{step_of}
use Rattle.rules_footprint.specs.declared.footprints.Told.{Told}

-- what `footprint` gives
abbrev pub requests : SessionState → Statement → List Told → Result Decided Stop → List Request
requests session statement told decided = with_claims [] (asked_claims (intent session statement) (map step_of told) decided)

-- it isn't want of memory
abbrev pub HasAnswer : Result Decided Stop → Type 0
HasAnswer (Ok d) = Unit {0}
HasAnswer (Err (stops.Refused error)) = Unit {0}
HasAnswer (Err (stops.Need key)) = Unit {0}
HasAnswer (Err stops.Memory) = ⊥

-- the client was told each key as the check needed it, and what was decided is what the check comes to over what the client knows
pub record IsClient (look : Look) (told : List Told) (check : Walk ErrorValue Choice) (decided : Result Decided Stop) : Type 0 where
  pub in_order : IsTold look (map step_of told) check
  pub decides : Decides decided (run look check)
  pub answers : HasAnswer decided
