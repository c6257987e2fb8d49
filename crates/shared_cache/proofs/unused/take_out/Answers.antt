use Rattle.std.proofs.Common.{◌∙◌, ap}
use Rattle.std.specs.Map.{keys_of}
use Rattle.shared_cache.specs.Fields.{Unused}
use Rattle.shared_cache.proofs.Keys.{removed}
use Rattle.shared_cache.proofs.unused.take_out.Goals as goal

pub returns-clause-keys : goal.returns-clause-keys
returns-clause-keys c = ap (λ (u : Unused). keys_of u.entries) c.pop.ensures.entries ∙ removed c.args.key.now c.args.unused.now.entries c.len.ensures.valid.0
