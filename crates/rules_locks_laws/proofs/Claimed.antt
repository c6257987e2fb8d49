-- What the locks of a check cover: each look as it was seen, and each change.
use Rattle.std.specs.Prelude.{◌≡◌, ◌⊎◌, ℕ, Bool, true, false, ◌&&◌, ◌||◌, List, [], ◌∷◌, ◌++◌, map, Option, Some, None, if◌then◌else◌, refl}
use Rattle.std.specs.List.{flat_map, AllByRecursion}
use Rattle.std.specs.FinMap as finite_map
use Rattle.std.specs.Str.{bytes_eq}
use Rattle.std.proofs.Common.{sym, ◌∙◌, ap, subst, inl, inr}
use Rattle.std.proofs.lemmas.Bool.{or_cases, or_left, or_right, or_from}
use Rattle.dd_names.specs.Names.{fold}
use Rattle.dd_names.specs.declared.object_name.ObjName.{ObjName}
use Rattle.dd_names.specs.declared.object_name.ObjectKey.{ObjectKey}
use Rattle.dd_names.specs.declared.object_name.ObjectKey.TheVariants as keys
use Rattle.dd_errors.specs.Errors.{ErrorValue}
use Rattle.dd_definitions.specs.declared.foreign_keys.ForeignKeyDef.{ForeignKeyDef}
use Rattle.dd_catalog.specs.Sights.{Sight, Nothing, SchemaThere, TableThere, ViewThere, NamesThere, ChildrenThere, OwnerThere}
use Rattle.dd_catalog.specs.Catalog.{Catalog, Placed, Table, View, is_same_object, object_seen, sight_of}
use Rattle.dd_catalog.specs.Walks.{Walk}
use Rattle.dd_catalog.proofs.ObjectNames.{same_object}
use Rattle.metadata_locks.specs.declared.request.LockKey.TheVariants as on
use Rattle.metadata_locks.specs.declared.request.Mode.TheVariants.{IX, S, X}
use Rattle.rules_outcome.specs.Choices.{Change, change, Choice}
use Rattle.rules_locks.specs.Holdings.{Holding, holding, AreAmong}
use Rattle.rules_locks.specs.Steps.{Step, AllStand}
use Rattle.rules_locks.specs.Claims.{Claim, KeepObject, ChangeObject, JoinParent, TakeName, reads, reads_object, is_covered}
use Rattle.rules_locks.specs.Locks.{Grip, Reads, Writes, child_claim, children_claims, look_claims, step_claims, refers_in, names_in, parent_claims, name_claims, key_claims, keys_seen, is_at, keys_before, keys_left, change_claims, Intent, end_claims, locks}
use Rattle.rules_locks.specs.Held.{AreCovered}
use Rattle.rules_locks.proofs.Places.{bytes_are}
use Rattle.rules_locks.proofs.Covers.{locks_covered, front_all, back_all, flat_all, more_all}
use Rattle.rules_locks_laws.proofs.Catalogs.{IsIn}
use Rattle.rules_locks_laws.proofs.Stays.{keys_there, ClaimsChanges}

abbrev pub IsCovered : Holding → Claim → Type 0
IsCovered held claim = is_covered held claim ≡ true

-- ## Looks

below_reads : (a b c : Bool) → (a && c) ≡ true → (a && (b || c)) ≡ true
below_reads true b c is = or_right b c is
below_reads false b c is = cc

-- who may change an object may read it
change_reads : (held : Holding) (object : ObjName) → is_covered held (ChangeObject object) ≡ true → is_covered held (KeepObject object) ≡ true
change_reads held object is =
    or_right (held on.All S) (reads_object held object)
    (elim (or_cases (held (on.Schema object.schema) X) (held (on.Schema object.schema) IX && held (on.Object object) X) is) [
      | inl whole ↦ or_left (held (on.Schema object.schema) X) (held (on.Schema object.schema) IX && reads held (on.Object object)) whole
      | inr within ↦
          or_right (held (on.Schema object.schema) X) (held (on.Schema object.schema) IX && reads held (on.Object object))
          (below_reads (held (on.Schema object.schema) IX) (held (on.Object object) S) (held (on.Object object) X) within)
    ])

children_read : (held : Holding) (children : List ObjName) → AreCovered held (map (child_claim Writes) children) → AreCovered held (map (child_claim Reads) children)
children_read held [] all = tt
children_read held (child ∷ children) all = (change_reads held child all.0, children_read held children all.1)

seen_read : (held : Holding) (seen : Sight) → AreCovered held (children_claims Writes seen) → AreCovered held (children_claims Reads seen)
seen_read held (ChildrenThere children) all = children_read held children all
seen_read held Nothing all = tt
seen_read held SchemaThere all = tt
seen_read held (TableThere space parts) all = tt
seen_read held (ViewThere parts) all = tt
seen_read held (NamesThere names) all = tt
seen_read held (OwnerThere owner) all = tt

-- who is covered for a look of a statement that writes children is covered for that of one that reads them
look_read : (held : Holding) (grip : Grip) (key : ObjectKey) (seen : Sight) → AreCovered held (look_claims grip key seen) → AreCovered held (look_claims Reads key seen)
look_read held Reads key seen all = all
look_read held Writes keys.Schemas seen all = all
look_read held Writes (keys.Schema name) seen all = all
look_read held Writes (keys.Objects schema) seen all = all
look_read held Writes (keys.Object object) seen all = all
look_read held Writes (keys.Children parent) seen all = (all.0, seen_read held seen all.1)
look_read held Writes (keys.Constraint schema folded) seen all = all

-- behind the claims of the text
behind_text : (intent : Intent) (steps : List Step) (left : Walk ErrorValue Choice) (held : Holding) → AreAmong (holding (locks intent steps left)) held
    → AreCovered held (flat_map (step_claims intent.grip) steps ++ end_claims steps left)
behind_text intent steps left held among = back_all (IsCovered held) intent.claims (flat_map (step_claims intent.grip) steps ++ end_claims steps left) (locks_covered intent steps left held among)

abbrev pub AllKept : Holding → List Step → Type 0
AllKept held steps = AllByRecursion (λ (s : Step). AreCovered held (look_claims Reads s.key s.seen)) steps

pub steps_kept : (intent : Intent) (steps : List Step) (left : Walk ErrorValue Choice) (held : Holding) → AreAmong (holding (locks intent steps left)) held → AllKept held steps
steps_kept intent steps left held among =
    more_all (λ (s : Step). AreCovered held (step_claims intent.grip s)) (λ (s : Step). AreCovered held (look_claims Reads s.key s.seen)) (λ s all. look_read held intent.grip s.key s.seen all) steps
    (flat_all (IsCovered held) (step_claims intent.grip) steps (front_all (IsCovered held) (flat_map (step_claims intent.grip) steps) (end_claims steps left) (behind_text intent steps left held among)))

pub end_covered : (intent : Intent) (steps : List Step) (left : Walk ErrorValue Choice) (held : Holding) → AreAmong (holding (locks intent steps left)) held → AreCovered held (end_claims steps left)
end_covered intent steps left held among = back_all (IsCovered held) (flat_map (step_claims intent.grip) steps) (end_claims steps left) (behind_text intent steps left held among)

-- ## Changes

all_in : {A : Type 0} (P : A → Type 0) (x : A) (xs : List A) → AllByRecursion P xs → IsIn x xs → P x
all_in P x [] all there = absurd there
all_in P x (y ∷ ys) all (inl here) = subst P here all.0
all_in P x (y ∷ ys) all (inr later) = all_in P x ys all.1 later

keys_seen_are : (found : Option Placed) → keys_seen (object_seen found) ≡ keys_there found
keys_seen_are None = refl
keys_seen_are (Some (Table space parts)) = refl
keys_seen_are (Some (View parts)) = refl

abbrev IsBefore : Catalog → ObjName → List ForeignKeyDef → Type 0
IsBefore cat object before = (before ≡ []) ⊎ (before ≡ keys_there (finite_map.get cat.objects object))

-- the foreign keys that were seen are those that the object has
keys_before_are : (cat : Catalog) (steps : List Step) (object : ObjName) → AllStand (sight_of cat) steps → IsBefore cat object (keys_before steps object)
keys_before_are cat [] object stand = inl refl
keys_before_are cat (s ∷ steps) object stand = at s.key refl (keys_before_are cat steps object stand.1)
  where
    same : (other : ObjName) (b : Bool) → is_same_object other object ≡ b → s.key ≡ keys.Object other → IsBefore cat object (keys_before steps object) → IsBefore cat object (if b then keys_seen s.seen else keys_before steps object)
    same other true is key rest =
        inr (ap keys_seen (sym stand.0 ∙ ap (sight_of cat) key) ∙ keys_seen_are (finite_map.get cat.objects other) ∙ ap (λ (o : ObjName). keys_there (finite_map.get cat.objects o)) (same_object other object is))
    same other false is key rest = rest

    at : (key : ObjectKey) → s.key ≡ key → IsBefore cat object (keys_before steps object) → IsBefore cat object (if is_at object key then keys_seen s.seen else keys_before steps object)
    at (keys.Object other) is rest = same other (is_same_object other object) refl is rest
    at keys.Schemas is rest = rest
    at (keys.Schema name) is rest = rest
    at (keys.Objects schema) is rest = rest
    at (keys.Children parent) is rest = rest
    at (keys.Constraint schema folded) is rest = rest

not_seen_before : (test : List ForeignKeyDef → Bool) → test [] ≡ false → (cat : Catalog) (object : ObjName) (before : List ForeignKeyDef) → IsBefore cat object before → test (keys_there (finite_map.get cat.objects object)) ≡ false → test before ≡ false
not_seen_before test none cat object before (inl is) not_there = ap test is ∙ none
not_seen_before test none cat object before (inr is) not_there = ap test is ∙ not_there

module _ (P : Claim → Type 0) (object : ObjName) (before : List ForeignKeyDef) where
  parents_joined : (parent : ObjName) (foreign_keys : List ForeignKeyDef) → AllByRecursion (λ (key : ForeignKeyDef). AllByRecursion P (key_claims object before key)) foreign_keys
      → refers_in foreign_keys parent ≡ true → is_same_object object parent ≡ false → refers_in before parent ≡ false → P (JoinParent parent)
  parents_joined parent [] all refers apart new = cc
  parents_joined parent (key ∷ foreign_keys) all refers apart new =
      elim (or_cases (is_same_object key.parent parent) (refers_in foreign_keys parent) refers) [
        | inl here ↦
            let joined : AllByRecursion P (parent_claims object before key.parent) = front_all P (parent_claims object before key.parent) (name_claims object before (fold key.name)) all.0 in
            let own : AllByRecursion P (parent_claims object before parent) = subst (λ (p : ObjName). AllByRecursion P (parent_claims object before p)) (same_object key.parent parent here) joined in
            (subst (λ b. AllByRecursion P (if b then [] else JoinParent parent ∷ [])) (or_from (is_same_object object parent) (refers_in before parent) apart new) own).0
        | inr later ↦ parents_joined parent foreign_keys all.1 later apart new
      ]

  names_taken : (folded : List ℕ) (foreign_keys : List ForeignKeyDef) → AllByRecursion (λ (key : ForeignKeyDef). AllByRecursion P (key_claims object before key)) foreign_keys
      → names_in foreign_keys folded ≡ true → names_in before folded ≡ false → P (TakeName object.schema folded)
  names_taken folded [] all has_it new = cc
  names_taken folded (key ∷ foreign_keys) all has_it new =
      elim (or_cases (bytes_eq (fold key.name) folded) (names_in foreign_keys folded) has_it) [
        | inl here ↦
            let taken : AllByRecursion P (name_claims object before (fold key.name)) = back_all P (parent_claims object before key.parent) (name_claims object before (fold key.name)) all.0 in
            let own : AllByRecursion P (name_claims object before folded) = subst (λ (n : List ℕ). AllByRecursion P (name_claims object before n)) (bytes_are (fold key.name) folded here) taken in
            (subst (λ b. AllByRecursion P (if b then [] else TakeName object.schema folded ∷ [])) new own).0
        | inr later ↦ names_taken folded foreign_keys all.1 later new
      ]

pub changes_claimed : (cat : Catalog) (P : Claim → Type 0) (steps : List Step) (changes : List Change) → AllStand (sight_of cat) steps → AllByRecursion (λ (c : Change). AllByRecursion P (change_claims steps c)) changes → ClaimsChanges P cat changes
changes_claimed cat P steps changes stand all = record {
  objects = λ name after there.
      let claims : AllByRecursion P (change_claims steps (change (keys.Object name) after)) = all_in (λ (c : Change). AllByRecursion P (change_claims steps c)) (change (keys.Object name) after) changes all there in
      let foreign_keys = flat_all P (key_claims name (keys_before steps name)) (keys_left after) claims.1.1 in
      record {
        any = claims.0;
        own = claims.1.0;
        parents = λ parent refers apart new.
            parents_joined P name (keys_before steps name) parent (keys_left after) foreign_keys refers apart (not_seen_before (λ l. refers_in l parent) refl cat name (keys_before steps name) (keys_before_are cat steps name stand) new);
        names = λ folded has_it new.
            names_taken P name (keys_before steps name) folded (keys_left after) foreign_keys has_it (not_seen_before (λ l. names_in l folded) refl cat name (keys_before steps name) (keys_before_are cat steps name stand) new);
      };
  schemas = λ name after there.
      let claims : AllByRecursion P (change_claims steps (change (keys.Schema name) after)) = all_in (λ (c : Change). AllByRecursion P (change_claims steps c)) (change (keys.Schema name) after) changes all there in
      record { any = claims.0; own = claims.1.0 };
}
