-- Edits beside the steps of their statement.
use Rattle.std.specs.Prelude.{◌≡◌, List, [], ◌∷◌, Option, Some, None, Result, Ok, Err, if◌then◌else◌}
use Rattle.std.specs.List.{AllByRecursion}
use Rattle.dd_names.specs.declared.object_name.ObjectKey.{ObjectKey}
use Rattle.dd_names.specs.declared.object_name.ObjectKey.TheVariants as keys
use Rattle.dd_definitions.specs.declared.foreign_keys.ForeignKeyDef.{ForeignKeyDef}
use Rattle.dd_catalog.specs.declared.object.Object.{Object}
use Rattle.dd_catalog.specs.declared.object.Object.TheVariants as objects
use Rattle.dd_catalog.specs.declared.stop.Stop.{Stop}
use Rattle.dd_catalog.specs.declared.stop.Stop.TheVariants as stops
use Rattle.rules_outcome.specs.declared.decided.Edit.{Edit}
use Rattle.rules_outcome.specs.declared.decided.Decided.{Decided}
use Rattle.rules_outcome.specs.declared.decided.Decided.TheVariants as decided
use Rattle.rules_outcome.specs.Decided.{AreBefore, chosen}
use Rattle.rules_locks.specs.Claims.{Claim}
use Rattle.rules_locks.specs.Locks.{choice_claims, front_claims, keys_before}
use Rattle.rules_locks.specs.Steps.{Step}
use Rattle.rules_locks.specs.Told.{is_same_place}
use Rattle.rules_footprint.specs.declared.footprints.Told.{Told}

-- the foreign keys of what stood before
abbrev pub keys_of : Option Object → List ForeignKeyDef
keys_of (Some (objects.Table id schema space parts)) = parts.foreign_keys
keys_of before = []

abbrev pub FitsAt : List Step → ObjectKey → Option Object → Type 0
FitsAt steps (keys.Object object) before = keys_before steps object ≡ keys_of before
FitsAt steps key before = Unit {0}

-- the steps saw the foreign keys that stood before
abbrev pub Fits : List Step → Edit → Type 0
Fits steps edit = FitsAt steps edit.key edit.before

abbrev pub AllFit : List Step → Decided → Type 0
AllFit steps (decided.Edits edits) = AllByRecursion (Fits steps) edits.puts
AllFit steps other = Unit {0}

-- what was told of the key, if anything was
abbrev pub told_at : List Told → ObjectKey → Option Object
told_at [] key = None
told_at (t ∷ told) key = if is_same_place t.key.now key then Some t.object.now else told_at told key

-- each edit has what was told of its key
abbrev pub AreTold : List Told → Result Decided Stop → Type 0
AreTold told (Ok d) = AreBefore (told_at told) d
AreTold told (Err stop) = Unit {0}

-- what is decided claims what it changes; a key that is needed claims what it may before anything is seen
abbrev pub decided_claims : List Step → Result Decided Stop → List Claim
decided_claims steps (Ok d) = choice_claims steps (chosen d)
decided_claims steps (Err (stops.Need key)) = front_claims key
decided_claims steps (Err stop) = []
