-- Objects in the order of their names, as the map of them.
use Rattle.std.specs.Prelude.{List, IsTrue}
use Rattle.std.specs.FinMap as finite_map
use Rattle.dd_names.specs.declared.object_name.ObjName.{ObjName}
use Rattle.dd_catalog.specs.Catalog.{Placed, object_cmp}

-- the map of objects whose names rise
abbrev pub map_of : List (ObjName × Placed) → finite_map.FinMap object_cmp Placed
map_of objects = finite_map.from_sorted objects

-- the names rise
abbrev pub are_in_order : List (ObjName × Placed) → Type 0
are_in_order objects = IsTrue (finite_map.is_sorted object_cmp objects)
