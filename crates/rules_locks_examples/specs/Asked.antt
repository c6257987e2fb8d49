-- What a statement asks for over the small catalog, beside what it is to ask for.
use Rattle.std.specs.Prelude.{◌≡◌, List, [], map, codes}
use Prim.Native.String.{String}
use Rattle.dd_errors.specs.Errors.{ErrorValue}
use Rattle.sql_ast.specs.declared.statement.Statement.{Statement}
use Rattle.dd_catalog.specs.Walks.{Walk}
use Rattle.metadata_locks.specs.declared.request.LockKey.{LockKey}
use Rattle.metadata_locks.specs.declared.request.LockKey.TheVariants as on
use Rattle.metadata_locks.specs.declared.request.Mode.TheVariants as modes
use Rattle.metadata_locks.specs.declared.request.Request.{Request}
use Rattle.rules_outcome.specs.Choices.{Choice}
use Rattle.rules_locks.specs.Holdings.{request}
use Rattle.rules_locks.specs.Locks.{Intent, locks}
use Rattle.rules_locks.specs.Steps.{steps, rest}
use Rattle.rules_locks.specs.Told.{once}
use Rattle.rules_intents.specs.Intents.{intent}
use Rattle.rules_locks_examples.specs.Family.{known, session}

-- the locks of a check
abbrev pub locks_of : Intent → Walk ErrorValue Choice → List Request
locks_of meant check = locks meant (steps known (once [] check)) (rest known (once [] check))

-- those of a statement with its check
abbrev pub asked : Statement → Walk ErrorValue Choice → List Request
asked statement check = locks_of (intent session statement) check

-- ## Requests

abbrev pub ix : LockKey → Request
ix key = request modes.IX key

abbrev pub s : LockKey → Request
s key = request modes.S key

abbrev pub x : LockKey → Request
x key = request modes.X key

abbrev pub all : LockKey
all = on.All

abbrev pub schema : String → LockKey
schema name = on.Schema (codes name)

abbrev pub d : String → LockKey
d name = on.Object (record { schema = codes "d"; name = codes name })

abbrev pub e : String → LockKey
e name = on.Object (record { schema = codes "e"; name = codes name })

abbrev pub n : String → LockKey
n name = on.Object (record { schema = codes "n"; name = codes name })

-- a constraint's name in a schema
abbrev pub constraint : String → String → LockKey
constraint in_schema name = on.Constraint (codes in_schema) (codes name)

-- ## Tables of cases

abbrev pub Case : Type 0
Case = List Request × List Request

abbrev pub AllAre : List Case → Type 0
AllAre cases = map (λ (c : Case). c.0) cases ≡ map (λ (c : Case). c.1) cases
