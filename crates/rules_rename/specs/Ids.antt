-- Ids of what the pairs so far leave.
use Rattle.std.specs.Prelude.{List, Option}
use Rattle.std.specs.List.{AllByRecursion}
use Rattle.dd_names.specs.declared.object_name.ObjectKey.{ObjectKey}
use Rattle.dd_catalog.specs.declared.object.Object.{Object}
use Rattle.rules_outcome.specs.Decided.{HasIdsAt}
use Rattle.rules_rename.specs.Left.{kept}
use Rattle.rules_rename.specs.Puts.{Put}

abbrev pub IsWithIds : (ObjectKey → Option Object) → Put → Type 0
IsWithIds known put = HasIdsAt known put.0 (kept put.1)

-- each leaves ids that are known
abbrev pub AreWithIds : (ObjectKey → Option Object) → List Put → Type 0
AreWithIds known puts = AllByRecursion (IsWithIds known) puts
