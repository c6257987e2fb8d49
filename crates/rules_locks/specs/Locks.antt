-- The locks of a check: what its looks and its changes claim, in the order of its steps.
use Rattle.std.specs.Prelude.{ℕ, Bool, false, ◌||◌, List, [], ◌∷◌, ◌++◌, map, if◌then◌else◌}
use Rattle.std.specs.List.{list_any, flat_map}
use Rattle.std.specs.Str.{bytes_eq}
use Rattle.dd_names.specs.Names.{fold}
use Rattle.dd_names.specs.declared.object_name.ObjName.{ObjName}
use Rattle.dd_names.specs.declared.object_name.ObjectKey.{ObjectKey}
use Rattle.dd_names.specs.declared.object_name.ObjectKey.TheVariants as keys
use Rattle.dd_errors.specs.Errors.{ErrorValue}
use Rattle.dd_definitions.specs.declared.foreign_keys.ForeignKeyDef.{ForeignKeyDef}
use Rattle.dd_catalog.specs.Sights.{Sight, TableThere, ChildrenThere, OwnerThere}
use Rattle.dd_catalog.specs.Catalog.{is_same_object}
use Rattle.dd_catalog.specs.Walks.{Walk, done, refuse, ask}
use Rattle.rules_outcome.specs.Choices.{After, Gone, NewSchema, FreshTable, KeptTable, NewView, KeptView, Change, Choice, Same, Changes, Lists}
use Rattle.metadata_locks.specs.declared.request.Request.{Request}
use Rattle.rules_locks.specs.Claims.{Claim, KeepSchemas, KeepSchema, KeepObjects, KeepObject, KeepChildren, KeepFree, ChangeCatalog, ChangeSchema, ChangeObject, JoinParent, TakeName, with_claims}
use Rattle.rules_locks.specs.Steps.{Step}

-- ## A look

-- whether a statement reads the children of its tables, or writes them
pub data Grip : Type 0 where
  Reads : Grip
  Writes : Grip

abbrev pub child_claim : Grip → ObjName → Claim
child_claim Reads child = KeepObject child
child_claim Writes child = ChangeObject child

abbrev pub children_claims : Grip → Sight → List Claim
children_claims grip (ChildrenThere children) = map (child_claim grip) children
children_claims grip seen = []

-- a constraint's name stays taken where its owner stays as it is
abbrev pub owner_claims : List ℕ → List ℕ → Sight → List Claim
owner_claims schema folded (OwnerThere owner) = KeepObject owner ∷ []
owner_claims schema folded seen = KeepFree schema folded ∷ []

-- before anything is seen at the key
abbrev pub front_claims : ObjectKey → List Claim
front_claims keys.Schemas = KeepSchemas ∷ []
front_claims (keys.Schema name) = KeepSchema name ∷ []
front_claims (keys.Objects schema) = KeepObjects schema ∷ []
front_claims (keys.Object object) = KeepObject object ∷ []
front_claims (keys.Children parent) = KeepChildren parent ∷ []
front_claims (keys.Constraint schema folded) = []

-- by what is seen there
abbrev pub seen_claims : Grip → ObjectKey → Sight → List Claim
seen_claims grip (keys.Children parent) seen = children_claims grip seen
seen_claims grip (keys.Constraint schema folded) seen = owner_claims schema folded seen
seen_claims grip key seen = []

abbrev pub look_claims : Grip → ObjectKey → Sight → List Claim
look_claims grip key seen = front_claims key ++ seen_claims grip key seen

abbrev pub step_claims : Grip → Step → List Claim
step_claims grip s = look_claims grip s.key s.seen

-- ## A change

abbrev pub refers_in : List ForeignKeyDef → ObjName → Bool
refers_in foreign_keys parent = list_any (λ (key : ForeignKeyDef). is_same_object key.parent parent) foreign_keys

abbrev pub names_in : List ForeignKeyDef → List ℕ → Bool
names_in foreign_keys folded = list_any (λ (key : ForeignKeyDef). bytes_eq (fold key.name) folded) foreign_keys

-- a parent that the object didn't have, other than itself
abbrev pub parent_claims : ObjName → List ForeignKeyDef → ObjName → List Claim
parent_claims object before parent = if is_same_object object parent || refers_in before parent then [] else JoinParent parent ∷ []

-- a constraint's name that it didn't have
abbrev pub name_claims : ObjName → List ForeignKeyDef → List ℕ → List Claim
name_claims object before folded = if names_in before folded then [] else TakeName object.schema folded ∷ []

abbrev pub key_claims : ObjName → List ForeignKeyDef → ForeignKeyDef → List Claim
key_claims object before key = parent_claims object before key.parent ++ name_claims object before (fold key.name)

abbrev pub keys_seen : Sight → List ForeignKeyDef
keys_seen (TableThere space parts) = parts.foreign_keys
keys_seen seen = []

abbrev pub is_at : ObjName → ObjectKey → Bool
is_at object (keys.Object other) = is_same_object other object
is_at object key = false

-- the foreign keys that the object was seen to have
abbrev pub keys_before : List Step → ObjName → List ForeignKeyDef
keys_before [] object = []
keys_before (s ∷ steps) object = if is_at object s.key then keys_seen s.seen else keys_before steps object

abbrev pub keys_left : After → List ForeignKeyDef
keys_left Gone = []
keys_left NewSchema = []
keys_left (FreshTable parts) = parts.foreign_keys
keys_left (KeptTable space parts) = parts.foreign_keys
keys_left (NewView parts) = []
keys_left (KeptView parts) = []

abbrev pub claims_at : List Step → ObjectKey → After → List Claim
claims_at steps (keys.Schema name) after = ChangeCatalog ∷ ChangeSchema name ∷ []
claims_at steps (keys.Object object) after = ChangeCatalog ∷ ChangeObject object ∷ flat_map (key_claims object (keys_before steps object)) (keys_left after)
claims_at steps key after = []

abbrev pub change_claims : List Step → Change → List Claim
change_claims steps change = claims_at steps change.key change.after

abbrev pub choice_claims : List Step → Choice → List Claim
choice_claims steps Same = []
choice_claims steps (Changes changes session) = flat_map (change_claims steps) changes
choice_claims steps (Lists listing) = []

-- ## A statement

-- what a statement's text claims from the start, and whether it reads or writes children
pub record Intent : Type 0 where
  pub claims : List Claim
  pub grip : Grip

-- the end of a check claims what it changes; a look that is still to come claims what it may before anything is seen
abbrev pub end_claims : List Step → Walk ErrorValue Choice → List Claim
end_claims steps (done choice) = choice_claims steps choice
end_claims steps (refuse error) = []
end_claims steps (ask key go) = front_claims key

abbrev pub all_claims : Intent → List Step → Walk ErrorValue Choice → List Claim
all_claims intent steps left = intent.claims ++ (flat_map (step_claims intent.grip) steps ++ end_claims steps left)

-- the requests of a statement that has taken these steps, of whose check this is left
unfoldable pub locks : Intent → List Step → Walk ErrorValue Choice → List Request
locks intent steps left = with_claims [] (all_claims intent steps left)
