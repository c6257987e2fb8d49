-- Claims and requests as the code has them.
use Rattle.std.specs.Prelude.{List, map}
use Rattle.metadata_locks.specs.declared.request.Request.{Request}
use Rattle.rules_locks.specs.Claims as claims
use Rattle.rules_footprint.specs.declared.asked.Requests.{Requests}
use Rattle.rules_footprint.specs.declared.claims.Claim.{Claim}
use Rattle.rules_footprint.specs.declared.claims.Claim.TheVariants as code

abbrev pub claim_of : Claim → claims.Claim
claim_of code.KeepSchemas = claims.KeepSchemas
claim_of (code.KeepSchema name) = claims.KeepSchema name
claim_of (code.KeepObjects schema) = claims.KeepObjects schema
claim_of (code.KeepObject object) = claims.KeepObject object
claim_of (code.KeepChildren parent) = claims.KeepChildren parent
claim_of (code.KeepFree schema folded) = claims.KeepFree schema folded
claim_of code.ChangeCatalog = claims.ChangeCatalog
claim_of (code.ChangeSchema name) = claims.ChangeSchema name
claim_of (code.ChangeObject object) = claims.ChangeObject object
claim_of (code.JoinParent parent) = claims.JoinParent parent
claim_of (code.TakeName schema folded) = claims.TakeName schema folded

abbrev pub claims_of : List Claim → List claims.Claim
claims_of all = map claim_of all

-- the requests, in order
abbrev pub requests_of : Requests → List Request
requests_of asked = asked.all.keys
