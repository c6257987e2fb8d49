use Rattle.dd_names.specs.declared.object_name.ObjectKey.TheVariants as keys
use Rattle.rules_evictions.proofs.Hits.{hit_is}
use Rattle.rules_evictions.proofs.Plans.{client_stays}
use Rattle.rules_evictions.proofs.laws.evictions_are_enough.Goals as goal

pub returns-clause-stays : goal.returns-clause-stays
returns-clause-stays c = client_stays

pub returns-clause-schemas : goal.returns-clause-schemas
returns-clause-schemas c evicted all name seen of = hit_is evicted all of (keys.Schema name) seen

pub returns-clause-objects : goal.returns-clause-objects
returns-clause-objects c evicted all name seen of = hit_is evicted all of (keys.Object name) seen
