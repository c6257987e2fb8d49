-- What isn't hit stays, of a client that was told what its check needed.
use Rattle.std.specs.Prelude.{◌≡◌, ℕ, false, List, [], map, Ok}
use Rattle.std.proofs.Common.{sym, ◌∙◌, ap, subst}
use Rattle.dd_names.specs.declared.object_name.ObjectKey.{ObjectKey}
use Rattle.dd_errors.specs.Errors.{ErrorValue}
use Rattle.dd_catalog.specs.Catalog.{Catalog, sight_of}
use Rattle.dd_catalog.specs.Valid.{IsValid}
use Rattle.dd_catalog.specs.Walks.{Walk, done, fine, run}
use Rattle.dd_catalog.specs.WalkLaws.{IsOf, Look}
use Rattle.rules_outcome.specs.Choices.{Choice, catalog_behind}
use Rattle.rules_outcome.specs.Decided.{chosen}
use Rattle.rules_outcome.specs.declared.decided.Decided.{Decided}
use Rattle.rules_locks.specs.Claims.{Claim}
use Rattle.rules_locks.specs.Evictions.{is_hit}
use Rattle.rules_locks.specs.Held.{HasPlan}
use Rattle.rules_locks.specs.Holdings.{Holding, holding}
use Rattle.rules_locks.specs.Locks.{Intent, Reads, choice_claims, locks}
use Rattle.rules_locks.specs.Steps.{Leads, steps}
use Rattle.rules_locks.proofs.Requests.{among_itself}
use Rattle.rules_locks_laws.proofs.Evicts.{unhit_stays}
use Rattle.rules_locks_laws.proofs.Known.{rest_is, steps_lead, steps_stand}
use Rattle.rules_footprint.specs.Steps.{step_of}
use Rattle.rules_footprint.specs.declared.footprints.Told.{Told}
use Rattle.rules_footprint_laws.specs.Clients.{IsClient}
use Rattle.rules_footprint_laws.proofs.Once.{told_choice}

abbrev silent : Intent
silent = record { claims = []; grip = Reads }

-- the locks of a check with its choice, over what is known of a catalog
abbrev held_for : Look → Walk ErrorValue Choice → Choice → Holding
held_for look check choice = holding (locks silent (steps look check) (done choice))

abbrev plan_of : (cat : Catalog) (look : Look) (check : Walk ErrorValue Choice) (choice : Choice) → IsOf (sight_of cat) look → run look check ≡ fine choice → HasPlan cat silent check (held_for look check choice) choice
plan_of cat look check choice of is = record {
  steps = steps look check;
  leads = subst (Leads check (steps look check)) (rest_is look check choice is) (steps_lead look check);
  stand = steps_stand (sight_of cat) look check of;
  all = among_itself (held_for look check choice);
  only = among_itself (held_for look check choice);
}

pub client_stays : (cat : Catalog) (space : ℕ) (look : Look) (told : List Told) (check : Walk ErrorValue Choice) (d : Decided) → IsClient look told check (Ok d) → IsOf (sight_of cat) look → IsValid cat → IsValid (catalog_behind space (chosen d) cat)
    → (key : ObjectKey) → is_hit (choice_claims (map step_of told) (chosen d)) key (sight_of cat key) ≡ false → sight_of (catalog_behind space (chosen d) cat) key ≡ sight_of cat key
client_stays cat space look told check d is of valid valid_behind key unhit =
    unhit_stays cat space (held_for look check (chosen d)) silent check (chosen d) valid valid_behind (plan_of cat look check (chosen d) of is.decides) key
    (ap (λ (all : List Claim). is_hit all key (sight_of cat key)) (sym (told_choice look (map step_of told) check (chosen d) is.in_order)) ∙ unhit)
