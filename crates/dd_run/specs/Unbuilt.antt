-- What the program doesn't run yet.
use Rattle.std.specs.Prelude.{ℕ, Bool, not, List, [], ◌∷◌, Option, None, Some, position}
use Rattle.sql_ast.specs.declared.statement.Statement.{Statement}
use Rattle.rules_decide.specs.Outcome.{is_decided}
use Rattle.script_read.specs.declared.script.Script.{Script}

-- a statement of a kind that isn't run
abbrev pub is_unbuilt : Statement → Bool
is_unbuilt statement = not (is_decided statement)

-- a session behind the first
abbrev pub second_session : List Script → Option (ℕ × ℕ)
second_session [] = None
second_session (script ∷ scripts) = Some (1, 0)

abbrev pub unbuilt_at : Option ℕ → List Script → Option (ℕ × ℕ)
unbuilt_at (Some number) scripts = Some (0, number)
unbuilt_at None scripts = second_session scripts

-- The least session and number of what isn't run: a statement of another kind in the first session, or a second session, which
-- is named by its number 0.
unfoldable pub first_unbuilt : List Script → Option (ℕ × ℕ)
first_unbuilt [] = None
first_unbuilt (script ∷ scripts) = unbuilt_at (position is_unbuilt script.statements) scripts
