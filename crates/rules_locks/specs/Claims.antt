-- What a statement claims of a catalog: of a key at which its check looks, that it stays as it was seen, and of what it changes,
-- that it is its own. Which locks are asked for a claim, and which are enough for it.
use Rattle.std.specs.Prelude.{ℕ, Bool, ◌&&◌, ◌||◌, List, [], ◌∷◌, if◌then◌else◌}
use Rattle.dd_names.specs.declared.object_name.ObjName.{ObjName}
use Rattle.metadata_locks.specs.declared.request.LockKey.{LockKey}
use Rattle.metadata_locks.specs.declared.request.LockKey.TheVariants as on
use Rattle.metadata_locks.specs.declared.request.Mode.TheVariants.{IX, S, X}
use Rattle.metadata_locks.specs.declared.request.Request.{Request}
use Rattle.rules_locks.specs.Holdings.{request, with_requests, Holding, holding}

pub data Claim : Type 0 where
  -- ## Of a look

  -- no schema comes or goes
  KeepSchemas : Claim
  -- the schema stays, or stays away
  KeepSchema : List ℕ → Claim
  -- no object of the schema comes or goes
  KeepObjects : List ℕ → Claim
  -- the object stays as it is, or stays away
  KeepObject : ObjName → Claim
  -- no table becomes a child of this one
  KeepChildren : ObjName → Claim
  -- no table of the schema takes the constraint's name
  KeepFree : List ℕ → List ℕ → Claim
  -- ## Of a change

  -- the catalog changes
  ChangeCatalog : Claim
  -- the schema comes or goes
  ChangeSchema : List ℕ → Claim
  -- the object comes, changes or goes
  ChangeObject : ObjName → Claim
  -- a table becomes a child of this one
  JoinParent : ObjName → Claim
  -- a table of the schema takes the constraint's name
  TakeName : List ℕ → List ℕ → Claim

abbrev pub requests_for : Claim → List Request
requests_for KeepSchemas = request S on.All ∷ []
requests_for (KeepSchema name) = request IX (on.Schema name) ∷ []
requests_for (KeepObjects schema) = request S (on.Schema schema) ∷ []
requests_for (KeepObject object) = request IX (on.Schema object.schema) ∷ request S (on.Object object) ∷ []
requests_for (KeepChildren parent) = request IX (on.Schema parent.schema) ∷ request X (on.Object parent) ∷ []
requests_for (KeepFree schema folded) = request X (on.Constraint schema folded) ∷ []
requests_for ChangeCatalog = request IX on.All ∷ []
requests_for (ChangeSchema name) = request X (on.Schema name) ∷ []
requests_for (ChangeObject object) = request IX (on.Schema object.schema) ∷ request X (on.Object object) ∷ []
requests_for (JoinParent parent) = request IX (on.Schema parent.schema) ∷ request S (on.Object parent) ∷ []
requests_for (TakeName schema folded) = request X (on.Constraint schema folded) ∷ []

-- ## What is enough

abbrev pub reads : Holding → LockKey → Bool
reads held key = held key S || held key X

-- the schema, or the object within it
abbrev pub below : Holding → ObjName → Bool → Bool
below held object own = held (on.Schema object.schema) X || (held (on.Schema object.schema) IX && own)

abbrev pub reads_object : Holding → ObjName → Bool
reads_object held object = below held object (reads held (on.Object object))

abbrev pub changes_object : Holding → ObjName → Bool
changes_object held object = below held object (held (on.Object object) X)

-- Whether the locks are enough for the claim. Who reads the whole catalog keeps all of it, since whoever changes it has IX there.
abbrev pub is_covered : Holding → Claim → Bool
is_covered held KeepSchemas = held on.All S
is_covered held (KeepSchema name) = held on.All S || (held (on.Schema name) IX || reads held (on.Schema name))
is_covered held (KeepObjects schema) = held on.All S || reads held (on.Schema schema)
is_covered held (KeepObject object) = held on.All S || reads_object held object
is_covered held (KeepChildren parent) = held on.All S || changes_object held parent
is_covered held (KeepFree schema folded) = held on.All S || held (on.Constraint schema folded) X
is_covered held ChangeCatalog = held on.All IX
is_covered held (ChangeSchema name) = held (on.Schema name) X
is_covered held (ChangeObject object) = changes_object held object
is_covered held (JoinParent parent) = reads_object held parent
is_covered held (TakeName schema folded) = held (on.Constraint schema folded) X

-- ## Claims in order

-- what isn't covered is asked for
unfoldable pub with_claim : List Request → Claim → List Request
with_claim requests claim = if is_covered (holding requests) claim then requests else with_requests requests (requests_for claim)

abbrev pub with_claims : List Request → List Claim → List Request
with_claims requests [] = requests
with_claims requests (claim ∷ claims) = with_claims (with_claim requests claim) claims
