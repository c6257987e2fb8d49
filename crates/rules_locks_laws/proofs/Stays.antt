-- What is claimed stays where others change what they claim.
use Rattle.std.specs.Prelude.{◌≡◌, ℕ, true, false, not, List, [], ◌∷◌, map, filter, Option, Some, None, refl}
use Rattle.std.specs.List.{AllByRecursion}
use Rattle.std.specs.FinMap as finite_map
use Rattle.std.specs.Str.{bytes_eq}
use Rattle.std.proofs.Common.{sym, ◌∙◌, ap, subst, inl, inr}
use Rattle.std.proofs.lemmas.Bool.{true≢false, and_parts, and_from, false_from_ne_true}
use Rattle.dd_names.specs.declared.object_name.ObjName.{ObjName}
use Rattle.dd_names.specs.declared.object_name.ObjectKey.{ObjectKey}
use Rattle.dd_names.specs.declared.object_name.ObjectKey.TheVariants as keys
use Rattle.dd_definitions.specs.declared.foreign_keys.ForeignKeyDef.{ForeignKeyDef}
use Rattle.dd_catalog.specs.Sights.{NamesThere, ChildrenThere}
use Rattle.dd_catalog.specs.Catalog.{Catalog, NameSet, Placed, object_cmp, foreign_keys_of, is_same_object, refers_to, has_constraint, names_among, children_among, owner_among, schema_seen, object_seen, sight_of}
use Rattle.dd_catalog.specs.Valid.{IsValid}
use Rattle.rules_outcome.specs.Choices.{After, Gone, NewSchema, FreshTable, KeptTable, NewView, KeptView, Change, change, applied}
use Rattle.rules_locks.specs.Claims.{Claim, KeepSchemas, KeepSchema, KeepObjects, KeepObject, KeepChildren, KeepFree, ChangeCatalog, ChangeSchema, ChangeObject, JoinParent, TakeName}
use Rattle.rules_locks.specs.Locks.{Reads, look_claims, refers_in, names_in, keys_left}
use Rattle.rules_locks.proofs.Places.{bytes_are}
use Rattle.rules_locks_laws.proofs.Catalogs.{IsIn, left_there, Left, objects_left, schema_left, schemas_left, is_child_of, is_in_schema, is_owner, children_are, names_are, first_owner, owner_is, same_entries_pass, out_where, found_passing, found_in, FirstPasses, first_passes}

-- ## What changes claim

abbrev pub keys_there : Option Placed → List ForeignKeyDef
keys_there None = []
keys_there (Some placed) = foreign_keys_of placed

-- an object where this stood is claimed, each parent that it didn't have, and each name of a constraint that it didn't have
pub record ChangesObject (Does : Claim → Type 0) (name : ObjName) (before : Option Placed) (after : After) : Type 0 where
  pub any : Does ChangeCatalog
  pub own : Does (ChangeObject name)
  pub parents : (parent : ObjName) → refers_in (keys_left after) parent ≡ true → is_same_object name parent ≡ false → refers_in (keys_there before) parent ≡ false → Does (JoinParent parent)
  pub names : (folded : List ℕ) → names_in (keys_left after) folded ≡ true → names_in (keys_there before) folded ≡ false → Does (TakeName name.schema folded)

pub record ChangesSchema (Does : Claim → Type 0) (name : List ℕ) : Type 0 where
  pub any : Does ChangeCatalog
  pub own : Does (ChangeSchema name)

-- each change is claimed
pub record ClaimsChanges (Does : Claim → Type 0) (cat : Catalog) (changes : List Change) : Type 0 where
  pub objects : (name : ObjName) (after : After) → IsIn (change (keys.Object name) after) changes → ChangesObject Does name (finite_map.get cat.objects name) after
  pub schemas : (name : List ℕ) (after : After) → IsIn (change (keys.Schema name) after) changes → ChangesSchema Does name

nothing_is_some : (v : Placed) → ◌≡◌ {A = Option Placed} None (Some v) → ⊥
nothing_is_some v e = cc

-- ## The foreign keys behind a change

pub left_keys : (space : ℕ) (after : After) → keys_there (left_there space after) ≡ keys_left after
left_keys space Gone = refl
left_keys space NewSchema = refl
left_keys space (FreshTable parts) = refl
left_keys space (KeptTable kept parts) = refl
left_keys space (NewView parts) = refl
left_keys space (KeptView parts) = refl

keys_of_left : (space : ℕ) (after : After) (v : Placed) → left_there space after ≡ Some v → keys_left after ≡ foreign_keys_of v
keys_of_left space after v is = sym (left_keys space after) ∙ ap keys_there is

-- what the one keeps, the other doesn't do
pub record DoNotClash (Keeps Does : Claim → Type 0) : Type 0 where
  pub schemas : (name : List ℕ) → Keeps KeepSchemas → Does ChangeCatalog → Does (ChangeSchema name) → ⊥
  pub schema : (name : List ℕ) → Keeps (KeepSchema name) → Does ChangeCatalog → Does (ChangeSchema name) → ⊥
  pub objects : (object : ObjName) → Keeps (KeepObjects object.schema) → Does ChangeCatalog → Does (ChangeObject object) → ⊥
  pub object : (object : ObjName) → Keeps (KeepObject object) → Does ChangeCatalog → Does (ChangeObject object) → ⊥
  pub children : (parent : ObjName) → Keeps (KeepChildren parent) → Does ChangeCatalog → Does (JoinParent parent) → ⊥
  pub name : (schema folded : List ℕ) → Keeps (KeepFree schema folded) → Does ChangeCatalog → Does (TakeName schema folded) → ⊥

module _ (Keeps Does : Claim → Type 0) (apart : DoNotClash Keeps Does) (space : ℕ) (cat : Catalog) (changes : List Change) (covers : ClaimsChanges Does cat changes) where
  abbrev behind : Catalog
  behind = applied space changes cat

  -- an object that is kept isn't changed
  kept : (name : ObjName) → Keeps (KeepObject name) → (found : Option Placed) → Left space changes name found → ⊥
  kept name keep found left =
      let changed : ChangesObject Does name (finite_map.get cat.objects name) left.after = covers.objects name left.after left.among in
      apart.object name keep changed.any changed.own

  pub object_stays : (name : ObjName) → Keeps (KeepObject name) → finite_map.get behind.objects name ≡ finite_map.get cat.objects name
  object_stays name keep = elim (objects_left space changes cat name) [ inl same ↦ same | inr left ↦ absurd (kept name keep (finite_map.get behind.objects name) left) ]

  schemas_stay : Keeps KeepSchemas → behind.schemas ≡ cat.schemas
  schemas_stay keep = elim (schemas_left space changes cat) [
    | inl same ↦ same
    | inr some ↦
        let theirs : ChangesSchema Does some.name = covers.schemas some.name some.after some.among in
        absurd (apart.schemas some.name keep theirs.any theirs.own)
  ]

  schema_stays : (name : List ℕ) → Keeps (KeepSchema name) → finite_map.contains_key behind.schemas name ≡ finite_map.contains_key cat.schemas name
  schema_stays name keep = elim (schema_left space changes cat name) [
    | inl same ↦ same
    | inr changed ↦
        let theirs : ChangesSchema Does name = covers.schemas name changed.after changed.among in
        absurd (apart.schema name keep theirs.any theirs.own)
  ]

  -- ## The objects of a schema

  none_in_schema : (schema : List ℕ) → Keeps (KeepObjects schema) → (name : ObjName) (found : Option Placed) → Left space changes name found → (v : Placed) → is_in_schema schema (name, v) ≡ true → ⊥
  none_in_schema schema keep name found left v own =
      let changed : ChangesObject Does name (finite_map.get cat.objects name) left.after = covers.objects name left.after left.among in
      apart.objects name (subst (λ d. Keeps (KeepObjects d)) (sym (bytes_are name.schema schema own)) keep) changed.any changed.own

  names_stay : (schema : List ℕ) → Keeps (KeepObjects schema) → names_among schema (finite_map.entries behind.objects) ≡ names_among schema (finite_map.entries cat.objects)
  names_stay schema keep =
      names_are schema (finite_map.entries behind.objects)
      ∙ ap (map (λ (e : ObjName × Placed). e.0.name)) (same_entries_pass (is_in_schema schema) space changes cat (λ name left. (
        out_where (is_in_schema schema) name (finite_map.get cat.objects name) (λ v is own. none_in_schema schema keep name (finite_map.get behind.objects name) left v own),
        out_where (is_in_schema schema) name (finite_map.get behind.objects name) (λ v is own. none_in_schema schema keep name (finite_map.get behind.objects name) left v own),
      )))
      ∙ sym (names_are schema (finite_map.entries cat.objects))

  -- ## The children of a table

  abbrev KeepsChildren : ObjName → Type 0
  KeepsChildren parent = AllByRecursion (λ (child : ObjName). Keeps (KeepObject child)) (children_among parent (finite_map.entries cat.objects))

  -- a child before isn't changed
  no_child_before : (parent : ObjName) → KeepsChildren parent → (name : ObjName) (found : Option Placed) → Left space changes name found
      → (v : Placed) → finite_map.get cat.objects name ≡ Some v → is_child_of parent (name, v) ≡ true → ⊥
  no_child_before parent keeps name found left v is child =
      kept name (found_in (λ (c : ObjName). Keeps (KeepObject c)) name v (filter (is_child_of parent) (finite_map.entries cat.objects)) (found_passing (is_child_of parent) cat name v is child)
      (subst (AllByRecursion (λ (c : ObjName). Keeps (KeepObject c))) (children_are parent (finite_map.entries cat.objects)) keeps)) found left

  -- and none comes
  no_child_behind : (parent : ObjName) → Keeps (KeepChildren parent) → KeepsChildren parent → (name : ObjName) (found : Option Placed) → Left space changes name found
      → (v : Placed) → found ≡ Some v → is_child_of parent (name, v) ≡ true → ⊥
  no_child_behind parent keep keeps name found left v is child =
      let changed : ChangesObject Does name (finite_map.get cat.objects name) left.after = covers.objects name left.after left.among in
      let (refers, other_one) = and_parts (refers_to parent v) (not (is_same_object name parent)) child in
      let new_keys : keys_left left.after ≡ foreign_keys_of v = keys_of_left space left.after v (sym left.is ∙ is) in
      let not_own : is_same_object name parent ≡ false = false_from_ne_true (is_same_object name parent) (λ same. true≢false (sym other_one ∙ ap not same)) in
      let not_before : refers_in (keys_there (finite_map.get cat.objects name)) parent ≡ false =
      false_from_ne_true (refers_in (keys_there (finite_map.get cat.objects name)) parent) (λ before. was parent keeps name found left other_one (finite_map.get cat.objects name) refl before) in
      apart.children parent keep changed.any (changed.parents parent (ap (λ l. refers_in l parent) new_keys ∙ refers) not_own not_before)
    where
      was : (parent : ObjName) → KeepsChildren parent → (name : ObjName) (found : Option Placed) → Left space changes name found → not (is_same_object name parent) ≡ true → (o : Option Placed) → finite_map.get cat.objects name ≡ o → refers_in (keys_there o) parent ≡ true → ⊥
      was parent keeps name found left apart None is before = cc
      was parent keeps name found left apart (Some w) is before = no_child_before parent keeps name found left w is (and_from (refers_to parent w) (not (is_same_object name parent)) before apart)

  children_stay : (parent : ObjName) → Keeps (KeepChildren parent) → KeepsChildren parent → children_among parent (finite_map.entries behind.objects) ≡ children_among parent (finite_map.entries cat.objects)
  children_stay parent keep keeps =
      children_are parent (finite_map.entries behind.objects)
      ∙ ap (map (λ (e : ObjName × Placed). e.0)) (same_entries_pass (is_child_of parent) space changes cat (λ name left. (
        out_where (is_child_of parent) name (finite_map.get cat.objects name) (no_child_before parent keeps name (finite_map.get behind.objects name) left),
        out_where (is_child_of parent) name (finite_map.get behind.objects name) (no_child_behind parent keep keeps name (finite_map.get behind.objects name) left),
      )))
      ∙ sym (children_are parent (finite_map.entries cat.objects))

  -- ## The owner of a constraint

  abbrev owners : List ℕ → List ℕ → Catalog → List (ObjName × Placed)
  owners schema folded of = filter (is_owner schema folded) (finite_map.entries of.objects)

  -- a name that is kept free has no owner, and gets none
  free_stays : (schema folded : List ℕ) → Keeps (KeepFree schema folded) → owners schema folded cat ≡ [] → owners schema folded behind ≡ owners schema folded cat
  free_stays schema folded keep none = same_entries_pass (is_owner schema folded) space changes cat (λ name left. (
    out_where (is_owner schema folded) name (finite_map.get cat.objects name) (no_owner name),
    out_where (is_owner schema folded) name (finite_map.get behind.objects name) (no_new name left),
  ))
    where
      no_owner : (name : ObjName) (v : Placed) → finite_map.get cat.objects name ≡ Some v → is_owner schema folded (name, v) ≡ true → ⊥
      no_owner name v is owns =
          nothing_is_some v (sym (ap (finite_map.find object_cmp name) none) ∙ found_passing (is_owner schema folded) cat name v is owns)

      owned_before : (name : ObjName) → bytes_eq name.schema schema ≡ true → (o : Option Placed) → finite_map.get cat.objects name ≡ o → names_in (keys_there o) folded ≡ true → ⊥
      owned_before name own None is before = cc
      owned_before name own (Some w) is before = no_owner name w is (and_from (bytes_eq name.schema schema) (has_constraint folded w) own before)

      no_new : (name : ObjName) → Left space changes name (finite_map.get behind.objects name) → (v : Placed) → finite_map.get behind.objects name ≡ Some v → is_owner schema folded (name, v) ≡ true → ⊥
      no_new name left v is owns =
          let changed : ChangesObject Does name (finite_map.get cat.objects name) left.after = covers.objects name left.after left.among in
          let (own, has_it) = and_parts (bytes_eq name.schema schema) (has_constraint folded v) owns in
          let new_keys : keys_left left.after ≡ foreign_keys_of v = keys_of_left space left.after v (sym left.is ∙ is) in
          let not_before : names_in (keys_there (finite_map.get cat.objects name)) folded ≡ false =
          false_from_ne_true (names_in (keys_there (finite_map.get cat.objects name)) folded) (λ before. owned_before name own (finite_map.get cat.objects name) refl before) in
          apart.name schema folded keep changed.any
          (subst (λ d. Does (TakeName d folded)) (bytes_are name.schema schema own) (changed.names folded (ap (λ l. names_in l folded) new_keys ∙ has_it) not_before))

  -- an owner that is kept stays the only one, since both catalogs are valid
  owner_stays : (schema folded : List ℕ) → IsValid cat → IsValid behind → (e : ObjName × Placed) → FirstPasses (is_owner schema folded) cat e → Keeps (KeepObject e.0) → owners schema folded behind ≡ owners schema folded cat
  owner_stays schema folded valid valid_behind e first keep = same_entries_pass (is_owner schema folded) space changes cat (λ name left. (
    out_where (is_owner schema folded) name (finite_map.get cat.objects name) (λ v is owns. kept name (is_e cat valid first.there name v is owns) (finite_map.get behind.objects name) left),
    out_where (is_owner schema folded) name (finite_map.get behind.objects name) (λ v is owns. kept name (is_e behind valid_behind (object_stays e.0 keep ∙ first.there) name v is owns) (finite_map.get behind.objects name) left),
  ))
    where
      is_e : (in_cat : Catalog) → IsValid in_cat → finite_map.get in_cat.objects e.0 ≡ Some e.1 → (name : ObjName) (v : Placed) → finite_map.get in_cat.objects name ≡ Some v → is_owner schema folded (name, v) ≡ true → Keeps (KeepObject name)
      is_e in_cat fine there name v is owns =
          let (own, has_it) = and_parts (bytes_eq name.schema schema) (has_constraint folded v) owns in
          let (own_e, e_has_it) = and_parts (bytes_eq e.0.schema schema) (has_constraint folded e.1) first.passes in
          subst (λ n. Keeps (KeepObject n))
          (fine.constraints_distinct e.0 name e.1 v folded (record { is = there }) (record { is = is }) (bytes_are e.0.schema schema own_e ∙ sym (bytes_are name.schema schema own)) e_has_it has_it) keep

  owner_sight_stays : (schema folded : List ℕ) → IsValid cat → IsValid behind → AllByRecursion Keeps (look_claims Reads (keys.Constraint schema folded) (owner_among schema folded (finite_map.entries cat.objects)))
      → owner_among schema folded (finite_map.entries behind.objects) ≡ owner_among schema folded (finite_map.entries cat.objects)
  owner_sight_stays schema folded valid valid_behind guarded =
      owner_is schema folded (finite_map.entries behind.objects)
      ∙ ap first_owner (on (owners schema folded cat) refl (subst (λ seen. AllByRecursion Keeps (look_claims Reads (keys.Constraint schema folded) seen)) (owner_is schema folded (finite_map.entries cat.objects)) guarded))
      ∙ sym (owner_is schema folded (finite_map.entries cat.objects))
    where
      on : (l : List (ObjName × Placed)) → owners schema folded cat ≡ l → AllByRecursion Keeps (look_claims Reads (keys.Constraint schema folded) (first_owner l)) → owners schema folded behind ≡ owners schema folded cat
      on [] none claims = free_stays schema folded claims.0 none
      on (e ∷ es) is claims = owner_stays schema folded valid valid_behind e (first_passes (is_owner schema folded) cat e es is) claims.0

  -- ## Each key

  children_of_map : (children : List ObjName) → AllByRecursion Keeps (map (λ child. KeepObject child) children) → AllByRecursion (λ (child : ObjName). Keeps (KeepObject child)) children
  children_of_map [] all = tt
  children_of_map (child ∷ children) all = (all.0, children_of_map children all.1)

  pub sight_stays : IsValid cat → IsValid behind → (key : ObjectKey) → AllByRecursion Keeps (look_claims Reads key (sight_of cat key)) → sight_of behind key ≡ sight_of cat key
  sight_stays valid valid_behind keys.Schemas claims = ap (λ (m : NameSet). NamesThere (finite_map.keys m)) (schemas_stay claims.0)
  sight_stays valid valid_behind (keys.Schema name) claims = ap schema_seen (schema_stays name claims.0)
  sight_stays valid valid_behind (keys.Objects schema) claims = ap NamesThere (names_stay schema claims.0)
  sight_stays valid valid_behind (keys.Object name) claims = ap object_seen (object_stays name claims.0)
  sight_stays valid valid_behind (keys.Children parent) claims = ap ChildrenThere (children_stay parent claims.0 (children_of_map (children_among parent (finite_map.entries cat.objects)) claims.1))
  sight_stays valid valid_behind (keys.Constraint schema folded) claims = owner_sight_stays schema folded valid valid_behind claims
