-- What is seen of the tables that stand at a key.
use Rattle.std.specs.Prelude.{List, [], ◌∷◌}
use Rattle.dd_names.specs.declared.object_name.ObjName.{ObjName}
use Rattle.dd_names.specs.declared.object_name.ObjectKey.{ObjectKey}
use Rattle.dd_names.specs.declared.object_name.ObjectKey.TheVariants as keys
use Rattle.dd_catalog.specs.Catalog.{Placed, children_among, owner_among}
use Rattle.dd_catalog.specs.Sights.{Sight, Nothing, ChildrenThere, OwnerThere}

abbrev pub first_seen : List ObjName → Sight
first_seen [] = Nothing
first_seen (table ∷ tables) = OwnerThere table

-- of all tables that stand there
abbrev pub listing_seen : ObjectKey → List ObjName → Sight
listing_seen (keys.Children parent) tables = ChildrenThere tables
listing_seen (keys.Constraint schema folded) tables = first_seen tables
listing_seen key tables = Nothing

-- among these objects
abbrev pub listed_at : ObjectKey → List (ObjName × Placed) → Sight
listed_at (keys.Children parent) objects = ChildrenThere (children_among parent objects)
listed_at (keys.Constraint schema folded) objects = owner_among schema folded objects
listed_at key objects = Nothing
