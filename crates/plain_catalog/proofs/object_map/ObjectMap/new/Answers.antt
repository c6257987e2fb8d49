use Rattle.std.proofs.Common.{ap, ◌∙◌}
use Rattle.plain_catalog.specs.Objects.{map_of}
use Rattle.plain_catalog.proofs.ByName.{map_of_none}
use Rattle.plain_catalog.proofs.object_map.ObjectMap.new.Goals as goal

pub returns : goal.returns
returns c = ap map_of c.new.ensures.empty ∙ map_of_none
