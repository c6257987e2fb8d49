use Rattle.std.proofs.Common.{ap, ◌∙◌}
use Rattle.plain_catalog.specs.Names.{set_of}
use Rattle.plain_catalog.proofs.Sorted.{set_of_none}
use Rattle.plain_catalog.proofs.name_set.NameSet.new.Goals as goal

pub returns : goal.returns
returns c = ap set_of c.new.ensures.empty ∙ set_of_none
