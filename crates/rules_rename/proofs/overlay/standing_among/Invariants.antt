use Rattle.std.proofs.Common.{◌≡◌, map}
use Rattle.std.specs.Prelude.{filter}
use Rattle.std.specs.BTreeMap as tree
use Rattle.dd_names.specs.declared.object_name.ObjName.{ObjName}
use Rattle.dd_catalog.specs.Catalog.{object_cmp}
use Rattle.dd_index.specs.Keys.{passes}
use Rattle.rules_rename.specs.Indexed.{left_stands}
use Rattle.rules_rename.proofs.overlay.standing_among.Given as goal

abbrev pub invariant-names : goal.invariant-names
invariant-names l = l.tables ≡ filter (λ (name : ObjName). passes (left_stands l.key) name (tree.get object_cmp l.all name)) (map (λ name. name.now) l.yielded)
