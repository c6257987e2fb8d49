-- What the dictionary keeps for a new client.
use Rattle.std.specs.Prelude.{ℕ, None}
use Rattle.sql_ast.specs.declared.session.SessionState.{SessionState}

-- a client has no current schema at first, and 31,536,000 tries
abbrev pub new_session : ℕ → SessionState
new_session s = record { number = s; current = None; tries = 31536000 }
