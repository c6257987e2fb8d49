-- USE and SET.
use Rattle.std.specs.Prelude.{ℕ, min, max, List, [], Some}
use Rattle.dd_errors.specs.Errors.{ErrorValue}
use Rattle.sql_ast.specs.declared.session.SessionState.{SessionState}
use Rattle.dd_catalog.specs.Walks.{Walk, done, ◌>>=◌}
use Rattle.rules_outcome.specs.Choices.{Choice, Changes}
use Rattle.rules_named.specs.Named.{schema_there}

-- USE. The schema becomes current.
unfoldable pub use_schema : SessionState → List ℕ → Walk ErrorValue Choice
use_schema session name = do
  _ ← schema_there name
  done (Changes [] (record session { current = Some name }))

-- SET lock_wait_timeout. The value is taken, or the nearer end of the range from 1 to 31,536,000.
unfoldable pub set_tries : SessionState → ℕ → Walk ErrorValue Choice
set_tries session value = done (Changes [] (record session { tries = max 1 (min value 31536000) }))
