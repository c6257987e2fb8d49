-- What the pairs so far change, as it is kept: the objects by their names, each with what is left there.
use Rattle.std.specs.Prelude.{◌≡◌, ℕ, Bool, true, false, List, [], ◌∷◌, map, Option, Some, None, is_some, if◌then◌else◌}
use Rattle.std.specs.BTreeMap.{insert_entry}
use Rattle.std.specs.FinMap as finite_map
use Rattle.std.specs.List.{AllByRecursion, flat_map}
use Rattle.dd_names.specs.declared.object_name.ObjName.{ObjName}
use Rattle.dd_names.specs.declared.object_name.ObjectKey.{ObjectKey}
use Rattle.dd_names.specs.declared.object_name.ObjectKey.TheVariants as keys
use Rattle.dd_errors.specs.Errors.{ErrorValue}
use Rattle.dd_catalog.specs.declared.object.Object.{Object}
use Rattle.dd_catalog.specs.Catalog.{Placed, object_cmp}
use Rattle.dd_catalog.specs.Sights.{Sight, Nothing, OwnerThere}
use Rattle.dd_catalog.specs.Walks.{Found, fine}
use Rattle.dd_catalog.specs.WalkLaws.{Look, go_on}
use Rattle.dd_catalog.specs.Follow.{sights}
use Rattle.rules_elements.specs.ForeignKeys.{is_owned_elsewhere}
use Rattle.rules_outcome.specs.Choices.{After}
use Rattle.rules_rename.specs.Overlays.{Overlay, placed_of}
use Rattle.rules_rename.specs.Behind.{look_behind}
use Rattle.rules_rename.specs.Left.{after_left}

-- the name of an object that is changed, and what is left there
abbrev pub Put : Type 0
Put = ObjName × Object

abbrev pub entry_of : Put → ObjName × After
entry_of put = (put.0, after_left put.1)

-- in the order of names, one a name
abbrev pub are_in_order : List Put → Bool
are_in_order puts = finite_map.is_sorted object_cmp (map entry_of puts)

-- the changes, where they are in order
unfoldable pub overlay_of : List Put → Overlay
overlay_of puts = finite_map.from_sorted (map entry_of puts)

-- what is known behind the changes
unfoldable pub behind : (ObjectKey → Option Object) → List Put → Look
behind known puts = look_behind (overlay_of puts) (sights known)

-- ## What is changed

abbrev pub after_at : List Put → ObjName → Option After
after_at puts name = finite_map.find object_cmp name (map entry_of puts)

abbrev pub is_changed : List Put → ObjName → Bool
is_changed puts name = is_some (after_at puts name)

-- the changed objects that are there
abbrev pub placed : List Put → List (ObjName × Placed)
placed puts = flat_map placed_of (map entry_of puts)

-- ## What stood there

-- something is known at the name, be it that nothing is there
abbrev pub IsKnown : (ObjectKey → Option Object) → Put → Type 0
IsKnown known put = is_some (known (keys.Object put.0)) ≡ true

abbrev pub AreKnown : (ObjectKey → Option Object) → List Put → Type 0
AreKnown known puts = AllByRecursion (IsKnown known) puts

-- ## One more

-- in its place, or in place of what was left at its name
abbrev pub put_in : Put → List Put → List Put
put_in put puts = insert_entry object_cmp puts put.0 put.1

abbrev pub put_all : List Put → List Put → List Put
put_all [] puts = puts
put_all (p ∷ more) puts = put_all more (put_in p puts)

-- ## What is seen behind the changes

abbrev pub owner_left : List Put → Sight → Sight
owner_left puts (OwnerThere owner) = if is_changed puts owner then Nothing else OwnerThere owner
owner_left puts seen = seen

-- whether an owner is another table, if there is one
abbrev pub owned_by : ObjName → Sight → Option Bool
owned_by table Nothing = None
owned_by table owner = Some (is_owned_elsewhere table owner)

-- whether the owner that is found is another table
abbrev pub owned_found : ObjName → Found ErrorValue Sight → Found ErrorValue Bool
owned_found table found = go_on found (λ owner. fine (is_owned_elsewhere table owner))
