use Rattle.indexmap.specs.IndexMap.{index_map_len}
use Rattle.client_cache.specs.Registries.{holds_in}
use Rattle.client_cache.specs.Cleared.{Released}
use Rattle.client_cache.proofs.held.release_all.Given as goal

abbrev pub invariant-keys : goal.invariant-keys
invariant-keys l = Released (holds_in l.initial.held) (holds_in l.held) l.initial.shared l.shared

abbrev pub decreases-keys : goal.decreases-keys
decreases-keys l = index_map_len l.held
