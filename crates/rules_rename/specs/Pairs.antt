-- What a pair changes, and what all pairs so far change, as it is kept.
use Rattle.std.specs.Prelude.{◌≡◌, List, [], ◌∷◌, Option, Some, None, map}
use Rattle.std.specs.BTreeSet.{contains}
use Rattle.dd_names.specs.declared.object_name.ObjName.{ObjName}
use Rattle.dd_names.specs.declared.object_name.ObjectKey.{ObjectKey}
use Rattle.dd_names.specs.declared.object_name.ObjectKey.TheVariants as keys
use Rattle.dd_catalog.specs.declared.object.Object.{Object}
use Rattle.dd_catalog.specs.declared.object.Object.TheVariants as objects
use Rattle.dd_catalog.specs.Catalog.{object_cmp}
use Rattle.rules_outcome.specs.Decided.{there}
use Rattle.rules_outcome.specs.declared.decided.Edit.{Edit}
use Rattle.rules_schema.specs.Drops.{is_among}
use Rattle.rules_rename.specs.Renames as renames
use Rattle.rules_rename.specs.Left.{kept}
use Rattle.rules_rename.specs.Puts.{Put, entry_of, overlay_of}
use Rattle.rules_rename.specs.declared.child_names.ChildNames.{ChildNames}
use Rattle.rules_rename.specs.declared.pairs.Renamed.{Renamed}
use Rattle.rules_rename.specs.declared.pairs.Renaming.{Renaming}

abbrev pub renamed_of : Renamed → renames.Renamed
renamed_of renamed = record { changes = map entry_of renamed.changes; children = renamed.children }

-- nothing at the old name, and this at the new one
abbrev pub moved_to : ObjName → ObjName → Object → List Put
moved_to from to after = (from, objects.Absent) ∷ (to, after) ∷ []

-- the set has the names of the list
pub record AreSame (children : ChildNames) : Type 0 where
  pub all : (name : ObjName) → contains object_cmp children.known name ≡ is_among children.names name

abbrev pub renaming_of : Renaming → renames.Renaming
renaming_of renaming = record { overlay = overlay_of renaming.overlay; children = renaming.children.names }

-- ## Edits

-- what stood before, where something is known
abbrev pub before_at : Option Object → Option Object
before_at None = None
before_at (Some object) = there object

abbrev pub edit_of : (ObjectKey → Option Object) → Put → Edit
edit_of known put = record { key = keys.Object put.0; before = before_at (known (keys.Object put.0)); after = kept put.1 }
