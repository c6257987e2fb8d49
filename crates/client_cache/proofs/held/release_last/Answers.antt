use Rattle.std.proofs.Common.{◌≡◌, true, ◌∙◌, ap}
use Rattle.std.specs.Prelude.{is_some}
use Rattle.std.specs.Option.{option_map}
use Rattle.std.specs.Map.{lookup}
use Rattle.std.specs.Arc.{arc_value}
use Rattle.indexmap.specs.IndexMap.{get}
use Rattle.client_cache.specs.Registries.{is_key, holds_in}
use Rattle.client_cache.proofs.Steps.{step, last_held, gone_one}
use Rattle.client_cache.proofs.held.release_last.Goals as goal
use Rattle.client_cache.proofs.held.release_last.Goals.{In-Some}

had : (c : In-Some) → holds_in c.args.held.now c.in-Some.key ≡ true
had c = ap (λ entries. is_some (option_map arc_value (lookup (is_key c.in-Some.key) entries))) c.in-Some.ensures.entries ∙ last_held arc_value c.pop.new.self.entries c.in-Some.key c.in-Some._object

pub release-requires : goal.release-requires
release-requires c = record { used = c.requires.used.used c.in-Some.key (had (goal.at.release-requires c).In-Some) }

pub returns-in-Some-clause-released : goal.returns-in-Some-clause-released
returns-in-Some-clause-released c =
    let some = (goal.at.returns-in-Some-clause-released c).In-Some in
    step (holds_in c.args.held.now) (holds_in c.pop.new.self) c.in-Some.key c.args.shared.now c.release.new.self (had some)
    (λ q. gone_one arc_value (get is_key c.pop.new.self q) (is_key c.in-Some.key q) (get is_key c.args.held.now q) (c.in-Some.ensures.updates.0 q)) c.release.ensures
