use Rattle.std.proofs.Common.{◌≡◌, ◌∙◌, ◌++◌, [], List, ap, map}
use Rattle.std.specs.List.{flat_map}
use Rattle.metadata_locks.specs.declared.request.Request.{Request}
use Rattle.rules_intents.specs.Intents.{intent, text_claims, text_grip}
use Rattle.rules_locks.specs.Claims.{with_claims}
use Rattle.rules_locks.specs.Locks.{Grip, step_claims}
use Rattle.rules_footprint.specs.Coded.{claims_of}
use Rattle.rules_footprint.specs.Footprints.{asked_claims}
use Rattle.rules_footprint.specs.Plans.{decided_claims}
use Rattle.rules_footprint.specs.Steps.{step_of}
use Rattle.rules_footprint.proofs.Fitting.{joined, told_fits}
use Rattle.rules_footprint.proofs.footprints.footprint.Goals as goal

pub returns : goal.returns
returns c =
    let statement = c.args.statement.now in
    let steps = map step_of c.args.told.now in
    let ends = c.in_ok-add_end.ensures steps (told_fits c.args.told.now c.args.decided.now c.requires.before) in
    let looks = c.in_ok-add_looks.ensures ∙ ap (λ (g : Grip). claims_of c.add_text.new.claims ++ flat_map (step_claims g) steps) c.grip_of.ensures in
    let all : claims_of c.add_end.new.claims ≡ asked_claims (intent c.args.session.now statement) steps c.args.decided.now =
    joined (claims_of c.new-claims.result) (claims_of c.add_text.new.claims) (claims_of c.add_looks.new.claims) (claims_of c.add_end.new.claims) (text_claims c.args.session.now.current statement)
    (flat_map (step_claims (text_grip statement)) steps) (decided_claims steps c.args.decided.now) (ap claims_of c.new-claims.ensures) c.in_ok-add_text.ensures looks ends in
    c.in_ok-add_claims.ensures ∙ ap (λ (r : List Request). with_claims r (claims_of c.as_slice.result.now)) c.new-asked.ensures
    ∙ ap (with_claims []) (ap claims_of c.as_slice.ensures ∙ all)
