-- What a renaming leaves at the name of an object.
use Rattle.std.specs.Prelude.{Bool, true, false, List, []}
use Rattle.dd_definitions.specs.declared.foreign_keys.ForeignKeyDef.{ForeignKeyDef}
use Rattle.dd_catalog.specs.declared.object.Object.{Object}
use Rattle.dd_catalog.specs.declared.object.Object.TheVariants as objects
use Rattle.rules_outcome.specs.declared.decided.After as left
use Rattle.rules_outcome.specs.declared.decided.After.TheVariants as after
use Rattle.rules_outcome.specs.Choices.{After}
use Rattle.rules_outcome.specs.Decided.{after_of}

-- a table, a view, or nothing
abbrev pub is_left : Object → Bool
is_left (objects.Table id schema space parts) = true
is_left (objects.View id schema parts) = true
is_left objects.Absent = true
is_left other = false

-- what an edit leaves at a name where this stands behind it; what is renamed was there
abbrev pub kept : Object → left.After
kept (objects.Table id schema space parts) = after.KeptTable id schema space parts
kept (objects.View id schema parts) = after.KeptView id schema parts
kept other = after.Gone

-- the same, without ids
abbrev pub after_left : Object → After
after_left object = after_of (kept object)

-- the foreign keys of a table that is left; anything else has none
abbrev pub keys_left : Object → List ForeignKeyDef
keys_left (objects.Table id schema space parts) = parts.foreign_keys
keys_left other = []
