use Rattle.client_cache.specs.Registries.{holds_in}
use Rattle.client_cache.proofs.Steps.{nothing_yet, then_released, still_used}
use Rattle.client_cache.proofs.held.release_all.Goals as goal

pub keys-init : goal.keys-init
keys-init c = nothing_yet (holds_in c.args.held.now) c.args.shared.now

pub release_last-requires : goal.release_last-requires
release_last-requires c = record {
  used = still_used (holds_in c.args.held.now) (holds_in c.keys.held) c.args.shared.now c.keys.shared c.requires.used c.keys.invariant;
}

pub keys-preserved : goal.keys-preserved
keys-preserved c =
    then_released (holds_in c.args.held.now) (holds_in c.keys.held) (holds_in c.release_last.new.held) c.args.shared.now c.keys.shared c.release_last.new.shared
    c.keys.invariant c.release_last.ensures.released
