-- TRUNCATE TABLE.
use Rattle.std.specs.Prelude.{List, [], ◌∷◌, Option, Some, None}
use Rattle.dd_names.specs.declared.object_name.ObjName.{ObjName}
use Rattle.dd_names.specs.declared.object_name.ObjectKey.TheVariants as keys
use Rattle.dd_errors.specs.Errors.{ErrorValue}
use Rattle.sql_types.specs.declared.words.ObjRef.{ObjRef}
use Rattle.dd_definitions.specs.declared.parts.TableParts.{TableParts}
use Rattle.sql_ast.specs.declared.session.SessionState.{SessionState}
use Rattle.dd_catalog.specs.Sights.{Sight, TableThere}
use Rattle.dd_catalog.specs.Walks.{Walk, done, refuse, ◌>>=◌, look_at}
use Rattle.rules_outcome.specs.Choices.{Choice, Changes, FreshTable, change}
use Rattle.rules_refusals.specs.Refusals.{no_such_table, truncate_illegal_fk}
use Rattle.rules_named.specs.Named.{one_named}
use Rattle.rules_schema.specs.Drops.{children_seen, constraint_on}

-- a child: 1701
unfoldable pub child_refused : ObjName → List ObjName → Walk ErrorValue (Unit {0})
child_refused table [] = done tt
child_refused table (child ∷ children) = do
  seen ← look_at (keys.Object child)
  refuse (truncate_illegal_fk child (constraint_on table seen))

-- the table's least child
unfoldable pub no_child : ObjName → Walk ErrorValue (Unit {0})
no_child table = do
  seen ← look_at (keys.Children table)
  child_refused table (children_seen seen)

-- the same table in a new tablespace
abbrev pub emptied : SessionState → ObjName → TableParts → Choice
emptied session table parts = Changes (change (keys.Object table) (FreshTable parts) ∷ []) session

-- nothing, or a view: 1146
abbrev pub truncate_seen : SessionState → ObjName → Sight → Walk ErrorValue Choice
truncate_seen session table (TableThere space parts) = no_child table >>= λ _. done (emptied session table parts)
truncate_seen session table seen = refuse (no_such_table table)

-- Absent or a view: 1146. A child: 1701 with the least. The table has a new tablespace.
unfoldable pub truncate : SessionState → ObjRef → Walk ErrorValue Choice
truncate session ref = do
  table ← one_named session.current ref
  seen ← look_at (keys.Object table)
  truncate_seen session table seen
