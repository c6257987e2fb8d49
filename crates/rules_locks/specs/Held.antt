-- Locks that a session holds for its statement, and what they keep of a catalog.
use Rattle.std.specs.Prelude.{◌≡◌, true, List, []}
use Rattle.std.specs.List.{AllByRecursion}
use Rattle.dd_names.specs.declared.object_name.ObjectKey.{ObjectKey}
use Rattle.dd_errors.specs.Errors.{ErrorValue}
use Rattle.dd_catalog.specs.Catalog.{Catalog, sight_of, all_of}
use Rattle.dd_catalog.specs.Walks.{Walk, done, Found, fine, refused, needs}
use Rattle.rules_outcome.specs.Choices.{Choice}
use Rattle.metadata_locks.specs.declared.request.Request.{Request}
use Rattle.rules_locks.specs.Holdings.{Holding, holding, AreAmong}
use Rattle.rules_locks.specs.Steps.{Step, Leads, AllStand, steps, rest}
use Rattle.rules_locks.specs.Claims.{Claim, is_covered}
use Rattle.rules_locks.specs.Locks.{Intent, Reads, look_claims, front_claims, choice_claims, locks}

-- the session holds the locks of the first steps that the check takes over the catalog, behind which this is left of it
pub record IsHeld (cat : Catalog) (intent : Intent) (check : Walk ErrorValue Choice) (held : Holding) (left : Walk ErrorValue Choice) : Type 0 where
  pub steps : List Step
  pub leads : Leads check steps left
  pub stand : AllStand (sight_of cat) steps
  pub all : AreAmong (holding (locks intent steps left)) held
  pub only : AreAmong held (holding (locks intent steps left))

-- the check comes to the choice over the catalog, and the session holds the locks for it
abbrev pub HasPlan : Catalog → Intent → Walk ErrorValue Choice → Holding → Choice → Type 0
HasPlan cat intent check held choice = IsHeld cat intent check held (done choice)

-- the locks are enough for all of these claims
abbrev pub AreCovered : Holding → List Claim → Type 0
AreCovered held claims = AllByRecursion (λ (claim : Claim). is_covered held claim ≡ true) claims

-- they keep what stands at the key
abbrev pub Keeps : Holding → ObjectKey → Catalog → Type 0
Keeps held key cat = AreCovered held (look_claims Reads key (sight_of cat key))

-- a second catalog is the same at all that they keep
abbrev pub Agrees : Catalog → Catalog → Holding → Type 0
Agrees cat next held = (key : ObjectKey) → Keeps held key cat → sight_of next key ≡ sight_of cat key

-- all locks of the check over the whole catalog
abbrev pub all_locks : Catalog → Intent → Walk ErrorValue Choice → List Request
all_locks cat intent check = locks intent (steps (all_of cat) check) (rest (all_of cat) check)

-- what the end of a check claims, by what it came to
abbrev pub found_claims : List Step → Found ErrorValue Choice → List Claim
found_claims steps (fine choice) = choice_claims steps choice
found_claims steps (refused error) = []
found_claims steps (needs key) = front_claims key
