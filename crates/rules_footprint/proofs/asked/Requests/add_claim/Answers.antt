use Rattle.std.proofs.Common.{◌≡◌, ◌∙◌, List, OnOk, subst, sym}
use Rattle.metadata_locks.specs.declared.request.Request.{Request}
use Rattle.rules_locks.proofs.Covers.{covered_stays}
use Rattle.rules_footprint.specs.Coded.{claim_of, requests_of}
use Rattle.rules_footprint.proofs.Loops.{uncovered}
use Rattle.rules_footprint.proofs.asked.Requests.add_claim.Goals as goal

pub returns-then-branch : goal.returns-then-branch
returns-then-branch c = sym (covered_stays (requests_of c.args.self.now) (claim_of c.args.claim.now) (sym c.in_ok-covers.ensures ∙ c.if-branch.true))

pub returns : goal.returns
returns c =
    subst (λ (all : List Request). OnOk c.ask_for.result (requests_of c.ask_for.new.self ≡ all))
    (uncovered (requests_of c.args.self.now) (claim_of c.args.claim.now) (sym c.in_ok-covers.ensures ∙ c.if-branch.false)) c.ask_for.ensures
