use Rattle.std.proofs.Common.{◌∙◌}
use Rattle.dd_catalog.specs.Sights.{sight}
use Rattle.rules_evictions.proofs.Hits.{hit_is}
use Rattle.rules_evictions.proofs.evicting.Evictions.hits.Goals as goal

pub returns : goal.returns
returns c all of = c.hits_at.ensures ∙ hit_is c.args.self.now all of c.args.key.now (sight c.args.object.now)
