-- What is known at each key.
use Rattle.std.specs.Prelude.{Option}
use Rattle.std.specs.declared.cmp.Ordering.{Ordering}
use Rattle.std.specs.BTreeMap as tree
use Rattle.dd_names.specs.declared.object_name.ObjectKey.{ObjectKey}
use Rattle.dd_names.specs.contracts.object_name.ObjectKeyOrd.TheImpl as key_ord
use Rattle.dd_catalog.specs.declared.object.Object.{Object}
use Rattle.plain_catalog.specs.declared.part.Part.{Part}

-- by the kind of the keys, and then by their names
abbrev pub key_cmp : ObjectKey → ObjectKey → Ordering
key_cmp = (key_ord.ghosts).cmp

abbrev pub known_in : Part → ObjectKey → Option Object
known_in part key = tree.get key_cmp part.objects key
