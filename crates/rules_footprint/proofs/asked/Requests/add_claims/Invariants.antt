use Rattle.std.proofs.Common.{◌≡◌, take}
use Rattle.rules_locks.specs.Claims.{with_claims}
use Rattle.rules_footprint.specs.Coded.{claims_of, requests_of}
use Rattle.rules_footprint.proofs.asked.Requests.add_claims.Given as goal

abbrev pub invariant-claims : goal.invariant-claims
invariant-claims l = requests_of l.self ≡ with_claims (requests_of l.fn.self) (claims_of (take l.claim-index l.claims))
