-- The objects that a statement names. First each name without a schema takes the current one, with none 1046; then each schema
-- that isn't there is 1049; both in the order of the text.
use Rattle.std.specs.Prelude.{ℕ, Bool, true, false, List, [], ◌∷◌, Option, Some, None, if◌then◌else◌}
use Rattle.dd_names.specs.declared.object_name.ObjName.{ObjName}
use Rattle.dd_names.specs.declared.object_name.ObjectKey.TheVariants as keys
use Rattle.dd_errors.specs.Errors.{ErrorValue}
use Rattle.sql_types.specs.declared.words.ObjRef.{ObjRef}
use Rattle.dd_catalog.specs.Sights.{Sight, Nothing}
use Rattle.dd_catalog.specs.Walks.{Walk, done, refuse, ◌>>=◌, look_at, refuse_if, each, every}
use Rattle.rules_elements.specs.Keys.{first_given}
use Rattle.rules_outcome.specs.Choices.{Choice, Same}
use Rattle.rules_refusals.specs.Refusals.{no_db, bad_db}

abbrev pub object_in : List ℕ → List ℕ → ObjName
object_in schema name = record { schema = schema; name = name }

abbrev pub is_nothing : Sight → Bool
is_nothing Nothing = true
is_nothing seen = false

abbrev pub in_schema : Option (List ℕ) → List ℕ → Walk ErrorValue ObjName
in_schema None name = refuse no_db
in_schema (Some schema) name = done (object_in schema name)

-- the schema that is written, or the current one
unfoldable pub resolved : Option (List ℕ) → ObjRef → Walk ErrorValue ObjName
resolved current ref = in_schema (first_given ref.schema current) ref.name

unfoldable pub schema_there : List ℕ → Walk ErrorValue (Unit {0})
schema_there name = do
  seen ← look_at (keys.Schema name)
  refuse_if (is_nothing seen) (bad_db name)

abbrev pub own_schema_there : ObjName → Walk ErrorValue (Unit {0})
own_schema_there object = schema_there object.schema

-- one name
unfoldable pub one_named : Option (List ℕ) → ObjRef → Walk ErrorValue ObjName
one_named current ref = do
  object ← resolved current ref
  _ ← own_schema_there object
  done object

-- several names
unfoldable pub all_named : Option (List ℕ) → List ObjRef → Walk ErrorValue (List ObjName)
all_named current refs = do
  objects ← each (resolved current) refs
  _ ← every own_schema_there objects
  done objects

-- nothing changes, or the statement is refused
abbrev pub unless : Bool → ErrorValue → Walk ErrorValue Choice
unless skipped error = if skipped then done Same else refuse error
