-- Whoever sees what a valid catalog has sees formed objects.
use Rattle.std.specs.Prelude.{◌≡◌, ℕ, Option, Some, None}
use Rattle.std.specs.FinMap as finite_map
use Rattle.dd_names.specs.declared.object_name.ObjectKey.TheVariants as keys
use Rattle.dd_definitions.specs.declared.parts.TableParts.{TableParts}
use Rattle.dd_definitions.specs.declared.view_parts.ViewParts.{ViewParts}
use Rattle.dd_catalog.specs.Catalog.{Catalog, Placed, Table, View, object_seen, sight_of}
use Rattle.dd_catalog.specs.Sights.{TableThere, ViewThere}
use Rattle.dd_catalog.specs.Valid.{Has, IsValid}
use Rattle.dd_catalog.specs.WalkLaws.{Look, IsOf}
use Rattle.rules_create.specs.Leaves.{SeesFormed}

table_placed : (placed : Option Placed) (space : ℕ) (parts : TableParts) → object_seen placed ≡ TableThere space parts → placed ≡ Some (Table space parts)
table_placed None space parts is = cc
table_placed (Some (Table n p)) space parts is = let number : n ≡ space = cc in let same_parts : p ≡ parts = cc in cc
table_placed (Some (View p)) space parts is = cc

view_placed : (placed : Option Placed) (parts : ViewParts) → object_seen placed ≡ ViewThere parts → placed ≡ Some (View parts)
view_placed None parts is = cc
view_placed (Some (Table n p)) parts is = cc
view_placed (Some (View p)) parts is = let same_parts : p ≡ parts = cc in cc

pub valid_sees_formed : (cat : Catalog) (look : Look) → IsValid cat → IsOf (sight_of cat) look → SeesFormed look
valid_sees_formed cat look valid of = record {
  tables = λ name space parts known.
      let has : Has cat name (Table space parts) = record { is = table_placed (finite_map.get cat.objects name) space parts (of.stands (keys.Object name) (TableThere space parts) known) } in
      record { formed = valid.formed name (Table space parts) has; named = valid.names_carried name (Table space parts) has };
  views = λ name parts known.
      let has : Has cat name (View parts) = record { is = view_placed (finite_map.get cat.objects name) parts (of.stands (keys.Object name) (ViewThere parts) known) } in
      record { formed = valid.formed name (View parts) has; named = valid.names_carried name (View parts) has };
}
