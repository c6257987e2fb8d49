-- Locks that are asked for cover what they are asked for.
use Rattle.std.specs.Prelude.{◌≡◌, ℕ, Bool, true, false, ◌&&◌, ◌||◌, List, [], ◌∷◌, ◌++◌, if◌then◌else◌, refl}
use Rattle.std.specs.List.{flat_map, AllByRecursion}
use Rattle.std.specs.declared.cmp.Ordering.TheVariants.{Equal}
use Rattle.std.proofs.Common.{ap, inl, inr}
use Rattle.std.proofs.lemmas.Bool.{or_cases, or_left, or_right, and_parts, and_from}
use Rattle.std.proofs.lemmas.Cmp.{nat_list_cmp_total, tied_itself}
use Rattle.dd_names.specs.Names.{name_cmp}
use Rattle.dd_names.specs.declared.object_name.ObjName.{ObjName}
use Rattle.dd_errors.specs.Errors.{ErrorValue}
use Rattle.dd_catalog.specs.Walks.{Walk}
use Rattle.rules_outcome.specs.Choices.{Choice}
use Rattle.metadata_locks.specs.declared.request.LockKey.{LockKey}
use Rattle.metadata_locks.specs.declared.request.LockKey.TheVariants as on
use Rattle.metadata_locks.specs.declared.request.Mode.TheVariants.{IX, S, X}
use Rattle.metadata_locks.specs.declared.request.Request.{Request}
use Rattle.rules_locks.specs.Holdings.{with_requests, Holding, holding, AreAmong}
use Rattle.rules_locks.specs.Claims.{Claim, KeepSchemas, KeepSchema, KeepObjects, KeepObject, KeepChildren, KeepFree, ChangeCatalog, ChangeSchema, ChangeObject, JoinParent, TakeName, requests_for, reads, below, reads_object, changes_object, is_covered, with_claim, with_claims}
use Rattle.rules_locks.specs.Held.{AreCovered}
use Rattle.rules_locks.specs.Locks.{Intent, all_claims, locks}
use Rattle.rules_locks.specs.Steps.{Step}
use Rattle.rules_locks.proofs.Requests.{among_itself, among_through, requests_among, asked_among}

-- ## More locks cover more

or_more : (a b c d : Bool) → (a ≡ true → c ≡ true) → (b ≡ true → d ≡ true) → (a || b) ≡ true → (c || d) ≡ true
or_more a b c d one other is = elim (or_cases a b is) [ inl here ↦ or_left c d (one here) | inr here ↦ or_right c d (other here) ]

and_more : (a b c d : Bool) → (a ≡ true → c ≡ true) → (b ≡ true → d ≡ true) → (a && b) ≡ true → (c && d) ≡ true
and_more a b c d one other is = let (here, there) = and_parts a b is in and_from c d (one here) (other there)

module _ (less more : Holding) (among : AreAmong less more) where
  reads_more : (key : LockKey) → reads less key ≡ true → reads more key ≡ true
  reads_more key = or_more (less key S) (less key X) (more key S) (more key X) (among.all key S) (among.all key X)

  below_more : (object : ObjName) (a b : Bool) → (a ≡ true → b ≡ true) → below less object a ≡ true → below more object b ≡ true
  below_more object a b own =
      or_more (less (on.Schema object.schema) X) (less (on.Schema object.schema) IX && a) (more (on.Schema object.schema) X) (more (on.Schema object.schema) IX && b)
      (among.all (on.Schema object.schema) X)
      (and_more (less (on.Schema object.schema) IX) a (more (on.Schema object.schema) IX) b (among.all (on.Schema object.schema) IX) own)

  object_read : (object : ObjName) → reads_object less object ≡ true → reads_object more object ≡ true
  object_read object = below_more object (reads less (on.Object object)) (reads more (on.Object object)) (reads_more (on.Object object))

  object_changed : (object : ObjName) → changes_object less object ≡ true → changes_object more object ≡ true
  object_changed object = below_more object (less (on.Object object) X) (more (on.Object object) X) (among.all (on.Object object) X)

  or_whole : (a b : Bool) → (a ≡ true → b ≡ true) → (less on.All S || a) ≡ true → (more on.All S || b) ≡ true
  or_whole a b = or_more (less on.All S) a (more on.All S) b (among.all on.All S)

  pub covered_more : (claim : Claim) → is_covered less claim ≡ true → is_covered more claim ≡ true
  covered_more KeepSchemas = among.all on.All S
  covered_more (KeepSchema name) =
      or_whole (less (on.Schema name) IX || reads less (on.Schema name)) (more (on.Schema name) IX || reads more (on.Schema name))
      (or_more (less (on.Schema name) IX) (reads less (on.Schema name)) (more (on.Schema name) IX) (reads more (on.Schema name)) (among.all (on.Schema name) IX) (reads_more (on.Schema name)))
  covered_more (KeepObjects schema) = or_whole (reads less (on.Schema schema)) (reads more (on.Schema schema)) (reads_more (on.Schema schema))
  covered_more (KeepObject object) = or_whole (reads_object less object) (reads_object more object) (object_read object)
  covered_more (KeepChildren parent) = or_whole (changes_object less parent) (changes_object more parent) (object_changed parent)
  covered_more (KeepFree schema folded) = or_whole (less (on.Constraint schema folded) X) (more (on.Constraint schema folded) X) (among.all (on.Constraint schema folded) X)
  covered_more ChangeCatalog = among.all on.All IX
  covered_more (ChangeSchema name) = among.all (on.Schema name) X
  covered_more (ChangeObject object) = object_changed object
  covered_more (JoinParent parent) = object_read parent
  covered_more (TakeName schema folded) = among.all (on.Constraint schema folded) X

  pub all_covered_more : (claims : List Claim) → AreCovered less claims → AreCovered more claims
  all_covered_more [] all = tt
  all_covered_more (claim ∷ claims) all = (covered_more claim all.0, all_covered_more claims all.1)

-- ## What is asked for a claim covers it

name_tied : (name : List ℕ) → name_cmp name name ≡ Equal
name_tied name = tied_itself nat_list_cmp_total name

asked_covers : (claim : Claim) → is_covered (holding (requests_for claim)) claim ≡ true
unfolding holding
asked_covers KeepSchemas = refl
asked_covers (KeepSchema name) = simp name_tied
asked_covers (KeepObjects schema) = simp name_tied
asked_covers (KeepObject object) = simp name_tied
asked_covers (KeepChildren parent) = simp name_tied
asked_covers (KeepFree schema folded) = simp name_tied
asked_covers ChangeCatalog = refl
asked_covers (ChangeSchema name) = simp name_tied
asked_covers (ChangeObject object) = simp name_tied
asked_covers (JoinParent parent) = simp name_tied
asked_covers (TakeName schema folded) = simp name_tied

pub with_covers : (requests : List Request) (claim : Claim) → is_covered (holding (with_claim requests claim)) claim ≡ true
unfolding with_claim
with_covers requests claim = on (is_covered (holding requests) claim) refl
  where
    on : (b : Bool) → is_covered (holding requests) claim ≡ b → is_covered (holding (if b then requests else with_requests requests (requests_for claim))) claim ≡ true
    on true is = is
    on false is =
        covered_more (holding (requests_for claim)) (holding (with_requests requests (requests_for claim))) (asked_among requests (requests_for claim)) claim (asked_covers claim)

pub with_among : (requests : List Request) (claim : Claim) → AreAmong (holding requests) (holding (with_claim requests claim))
unfolding with_claim
with_among requests claim = on (is_covered (holding requests) claim)
  where
    on : (b : Bool) → AreAmong (holding requests) (holding (if b then requests else with_requests requests (requests_for claim)))
    on true = among_itself (holding requests)
    on false = requests_among requests (requests_for claim)

pub claims_among : (requests : List Request) (claims : List Claim) → AreAmong (holding requests) (holding (with_claims requests claims))
claims_among requests [] = among_itself (holding requests)
claims_among requests (claim ∷ claims) =
    among_through (holding requests) (holding (with_claim requests claim)) (holding (with_claims (with_claim requests claim) claims))
    (with_among requests claim) (claims_among (with_claim requests claim) claims)

pub claims_covered : (requests : List Request) (claims : List Claim) → AreCovered (holding (with_claims requests claims)) claims
claims_covered requests [] = tt
claims_covered requests (claim ∷ claims) = (
  covered_more (holding (with_claim requests claim)) (holding (with_claims (with_claim requests claim) claims)) (claims_among (with_claim requests claim) claims) claim (with_covers requests claim),
  claims_covered (with_claim requests claim) claims,
)

pub claims_append : (requests : List Request) (one more : List Claim) → with_claims requests (one ++ more) ≡ with_claims (with_claims requests one) more
claims_append requests [] more = refl
claims_append requests (claim ∷ one) more = claims_append (with_claim requests claim) one more

-- what is covered isn't asked for again
pub covered_stays : (requests : List Request) (claim : Claim) → is_covered (holding requests) claim ≡ true → with_claim requests claim ≡ requests
unfolding with_claim
covered_stays requests claim is = ap (λ (b : Bool). if b then requests else with_requests requests (requests_for claim)) is

-- ## All of lists that stand one behind another

pub front_all : {A : Type 0} (P : A → Type 0) (xs ys : List A) → AllByRecursion P (xs ++ ys) → AllByRecursion P xs
front_all P [] ys all = tt
front_all P (x ∷ xs) ys all = (all.0, front_all P xs ys all.1)

pub back_all : {A : Type 0} (P : A → Type 0) (xs ys : List A) → AllByRecursion P (xs ++ ys) → AllByRecursion P ys
back_all P [] ys all = all
back_all P (x ∷ xs) ys all = back_all P xs ys all.1

pub flat_all : {A B : Type 0} (P : B → Type 0) (f : A → List B) (xs : List A) → AllByRecursion P (flat_map f xs) → AllByRecursion (λ x. AllByRecursion P (f x)) xs
flat_all P f [] all = tt
flat_all P f (x ∷ xs) all = (front_all P (f x) (flat_map f xs) all, flat_all P f xs (back_all P (f x) (flat_map f xs) all))

pub more_all : {A : Type 0} (P Q : A → Type 0) → ((x : A) → P x → Q x) → (xs : List A) → AllByRecursion P xs → AllByRecursion Q xs
more_all P Q f [] all = tt
more_all P Q f (x ∷ xs) all = (f x all.0, more_all P Q f xs all.1)

-- ## Locks of a check

pub locks_covered : (intent : Intent) (steps : List Step) (left : Walk ErrorValue Choice) (held : Holding) → AreAmong (holding (locks intent steps left)) held → AreCovered held (all_claims intent steps left)
unfolding locks
locks_covered intent steps left held among =
    all_covered_more (holding (with_claims [] (all_claims intent steps left))) held among (all_claims intent steps left) (claims_covered [] (all_claims intent steps left))
