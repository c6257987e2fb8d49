-- What a new name of the table changes, when its constraints have their new names.
use Rattle.std.specs.Prelude.{ℕ, List, ◌∷◌, map}
use Rattle.dd_names.specs.declared.object_name.ObjName.{ObjName}
use Rattle.dd_names.specs.declared.object_name.ObjectKey.TheVariants as keys
use Rattle.dd_definitions.specs.declared.foreign_keys.ForeignKeyDef.{ForeignKeyDef}
use Rattle.rules_outcome.specs.Choices.{Change, Gone, change}
use Rattle.rules_alter.specs.declared.states.Altering.{Altering}
use Rattle.rules_alter.specs.Statements.{child_moved, table_behind}

-- nothing at the old name, the table at the new one, and all its children
abbrev pub moved_changes : ℕ → Altering → ObjName → List ForeignKeyDef → List Change
moved_changes space state to foreign_keys =
    change (keys.Object state.parts.name) Gone
    ∷ change (keys.Object to) (table_behind space state.is_rebuilt (record state.parts { name = to; foreign_keys = foreign_keys }))
    ∷ map (child_moved state.parts.name to) state.children
