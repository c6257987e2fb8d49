-- TRUNCATE TABLE: a catalog whose table has another tablespace.
use Rattle.std.specs.Prelude.{◌≡◌, ℕ, ◌≤◌, Bool, true, false, cond, List, Option, Some, None, refl}
use Rattle.std.specs.FinMap as finite_map
use Rattle.std.proofs.Common.{sym, ◌∙◌, ap, subst, inl, inr}
use Rattle.dd_names.specs.declared.object_name.ObjName.{ObjName}
use Rattle.sql_types.specs.declared.words.ObjRef.{ObjRef}
use Rattle.sql_ast.specs.declared.session.SessionState.{SessionState}
use Rattle.dd_definitions.specs.declared.foreign_keys.ForeignKeyDef.{ForeignKeyDef}
use Rattle.dd_definitions.specs.declared.parts.TableParts.{TableParts}
use Rattle.dd_catalog.proofs.ObjectNames.{same_object, get_inserted}
use Rattle.dd_catalog.specs.Asked.{fine_is, bind_fine}
use Rattle.dd_catalog.specs.Catalog.{Catalog, Placed, Table, View, all_of, has_constraint, is_same_object, object_seen}
use Rattle.dd_catalog.specs.Sights.{Sight, TableThere}
use Rattle.dd_catalog.specs.Valid.{Has, IsValid, are_parents_fit, is_parent_fit, is_placed_formed, is_placed_named, own_name}
use Rattle.dd_catalog.specs.Walks.{fine, run}
use Rattle.rules_outcome.specs.Choices.{Choice, IsNewSpace, catalog_behind, takes_space}
use Rattle.rules_named.specs.Named.{one_named}
use Rattle.rules_create.proofs.Lists.{all_weaker}
use Rattle.rules_tables.specs.Truncates.{emptied, no_child, truncate, truncate_seen}
use Rattle.rules_valid.specs.Keeps.{HasNumber, KeepsNamed, KeepsValid, MakesOneSpace}
use Rattle.rules_valid.proofs.Created.{IsNewOrOld, new_or_old, same_parts, same_space, with_table}
use Rattle.rules_valid.proofs.Sessions.{LeavesNamed, keeps_so}
use Rattle.rules_valid.proofs.Spaces.{Ends, KeepsNone, ends_after, makes_one}

-- ## The catalog behind it

module _ (cat : Catalog) (old space : ℕ) (table : ObjName) (parts : TableParts) (valid : IsValid cat) (fresh : IsNewSpace cat space) (there : finite_map.get cat.objects table ≡ Some (Table old parts)) where
  before : Has cat table (Table old parts)
  before = record { is = there }

  -- a parent fits with its tablespace as with another
  parent_stays : (its : TableParts) (key : ForeignKeyDef) → is_parent_fit its key (finite_map.get cat.objects key.parent) ≡ true → is_parent_fit its key (finite_map.get (with_table cat space table parts).objects key.parent) ≡ true
  parent_stays its key is = ap (is_parent_fit its key) (get_inserted cat.objects table (Table space parts) key.parent) ∙ on (is_same_object key.parent table) refl
    where
      on : (b : Bool) → is_same_object key.parent table ≡ b → is_parent_fit its key (cond b (Some (Table space parts)) (finite_map.get cat.objects key.parent)) ≡ true
      on true same = sym (ap (is_parent_fit its key) (ap (finite_map.get cat.objects) (same_object key.parent table same) ∙ there)) ∙ is
      on false apart = is

  parents_stay_fit : (its : TableParts) → are_parents_fit cat its ≡ true → are_parents_fit (with_table cat space table parts) its ≡ true
  parents_stay_fit its fit = all_weaker (λ (key : ForeignKeyDef). is_parent_fit its key (finite_map.get cat.objects key.parent))
      (λ (key : ForeignKeyDef). is_parent_fit its key (finite_map.get (with_table cat space table parts).objects key.parent)) (parent_stays its) its.foreign_keys fit

  schema_is : (q : ObjName) (placed : Placed) → IsNewOrOld cat space table parts q placed → finite_map.contains_key cat.schemas q.schema ≡ true
  schema_is q placed (inl made) = ap (λ (o : ObjName). finite_map.contains_key cat.schemas o.schema) made.0 ∙ valid.schemas_there table (Table old parts) before
  schema_is q placed (inr has) = valid.schemas_there q placed has

  name_is : (q : ObjName) (placed : Placed) → IsNewOrOld cat space table parts q placed → own_name placed ≡ q
  name_is q placed (inl made) = ap own_name made.1 ∙ valid.names_carried table (Table old parts) before ∙ sym made.0
  name_is q placed (inr has) = valid.names_carried q placed has

  names_are : (q : ObjName) (placed : Placed) → IsNewOrOld cat space table parts q placed → is_placed_named placed ≡ true
  names_are q placed (inl made) = ap is_placed_named made.1 ∙ valid.named table (Table old parts) before
  names_are q placed (inr has) = valid.named q placed has

  form_is : (q : ObjName) (placed : Placed) → IsNewOrOld cat space table parts q placed → is_placed_formed placed ≡ true
  form_is q placed (inl made) = ap is_placed_formed made.1 ∙ valid.formed table (Table old parts) before
  form_is q placed (inr has) = valid.formed q placed has

  range_is : (q : ObjName) (s : ℕ) (its : TableParts) → IsNewOrOld cat space table parts q (Table s its) → (1 ≤ s) × (s ≤ 4294967294)
  range_is q s its (inl made) = subst (λ n. (1 ≤ n) × (n ≤ 4294967294)) (sym (same_space s space its parts made.1)) (fresh.least, fresh.greatest)
  range_is q s its (inr has) = valid.spaces_in_range q s its has

  space_taken : (q : ObjName) (s : ℕ) (its others : TableParts) → Table s its ≡ Table space parts → Has cat q (Table s others) → ⊥
  space_taken q s its others made has = fresh.new q others (subst (λ n. Has cat q (Table n others)) (same_space s space its parts made) has)

  spaces_apart : (a b : ObjName) (s : ℕ) (its others : TableParts) → IsNewOrOld cat space table parts a (Table s its) → IsNewOrOld cat space table parts b (Table s others) → a ≡ b
  spaces_apart a b s its others (inl made) (inl other) = made.0 ∙ sym other.0
  spaces_apart a b s its others (inl made) (inr other) = absurd (space_taken b s its others made.1 other)
  spaces_apart a b s its others (inr has) (inl other) = absurd (space_taken a s others its other.1 has)
  spaces_apart a b s its others (inr has) (inr other) = valid.spaces_distinct a b s its others has other

  -- as what stood at the table's name
  shared : (a b : ObjName) (placed other : Placed) (folded : List ℕ) → (a ≡ table) × (placed ≡ Table space parts) → Has cat b other → a.schema ≡ b.schema → has_constraint folded placed ≡ true → has_constraint folded other ≡ true → a ≡ b
  shared a b placed other folded made has same one two =
      made.0 ∙ valid.constraints_distinct table b (Table old parts) other folded before has (sym (ap (λ (o : ObjName). o.schema) made.0) ∙ same) (ap (has_constraint folded) (sym made.1) ∙ one) two

  constraints_apart : (a b : ObjName) (placed other : Placed) (folded : List ℕ) → IsNewOrOld cat space table parts a placed → IsNewOrOld cat space table parts b other → a.schema ≡ b.schema
      → has_constraint folded placed ≡ true → has_constraint folded other ≡ true → a ≡ b
  constraints_apart a b placed other folded (inl made) (inl others) same one two = made.0 ∙ sym others.0
  constraints_apart a b placed other folded (inl made) (inr has) same one two = shared a b placed other folded made has same one two
  constraints_apart a b placed other folded (inr has) (inl made) same one two = sym (shared b a other placed folded made has (sym same) two one)
  constraints_apart a b placed other folded (inr has) (inr others) same one two = valid.constraints_distinct a b placed other folded has others same one two

  parents_are : (q : ObjName) (s : ℕ) (its : TableParts) → IsNewOrOld cat space table parts q (Table s its) → are_parents_fit (with_table cat space table parts) its ≡ true
  parents_are q s its (inl made) = subst (λ (p : TableParts). are_parents_fit (with_table cat space table parts) p ≡ true) (sym (same_parts s space its parts made.1)) (parents_stay_fit parts (valid.parents_fit table old parts before))
  parents_are q s its (inr has) = parents_stay_fit its (valid.parents_fit q s its has)

  split : (q : ObjName) (placed : Placed) → Has (with_table cat space table parts) q placed → IsNewOrOld cat space table parts q placed
  split = new_or_old cat space table parts

  emptied_valid : IsValid (with_table cat space table parts)
  emptied_valid = record {
    own_schemas = λ name has. valid.own_schemas name has;
    schemas_named = λ name has. valid.schemas_named name has;
    named = λ name placed has. names_are name placed (split name placed has);
    schemas_there = λ name placed has. schema_is name placed (split name placed has);
    names_carried = λ name placed has. name_is name placed (split name placed has);
    formed = λ name placed has. form_is name placed (split name placed has);
    spaces_in_range = λ name s its has. range_is name s its (split name (Table s its) has);
    spaces_distinct = λ a b s its others has other. spaces_apart a b s its others (split a (Table s its) has) (split b (Table s others) other);
    constraints_distinct = λ a b placed other folded has others same one two. constraints_apart a b placed other folded (split a placed has) (split b other others) same one two;
    parents_fit = λ name s its has. parents_are name s its (split name (Table s its) has);
  }

-- ## The statement

seen_valid : (session : SessionState) (cat : Catalog) (space : ℕ) (choice : Choice) → IsValid cat → HasNumber cat space choice → (table : ObjName) (found : Option Placed) → finite_map.get cat.objects table ≡ found
    → run (all_of cat) (truncate_seen session table (object_seen found)) ≡ fine choice → IsValid (catalog_behind space choice cat)
seen_valid session cat space choice valid new table None there is = cc
seen_valid session cat space choice valid new table (Some (View parts)) there is = cc
seen_valid session cat space choice valid new table (Some (Table old parts)) there is =
    let (_, none, last) = bind_fine (all_of cat) (no_child table) _ choice is in
    subst (λ c. IsValid (catalog_behind space c cat)) (fine_is last) (emptied_valid cat old space table parts valid (new (sym (ap takes_space (fine_is last)))) there)

pub truncate_keeps : (session : SessionState) (ref : ObjRef) → KeepsValid (truncate session ref)
unfolding truncate
truncate_keeps session ref = record {
  keeps = λ cat space choice valid new is.
      let (table, named, after_name) = bind_fine (all_of cat) (one_named session.current ref) _ choice is in
      seen_valid session cat space choice valid new table (finite_map.get cat.objects table) refl after_name;
}

-- ## Its end

seen_ends : (P : Choice → Type 0) (session : SessionState) (table : ObjName) → ((parts : TableParts) → P (emptied session table parts)) → (seen : Sight) → Ends P (truncate_seen session table seen)
seen_ends P session table leaves (TableThere space parts) = ends_after P (no_child table) _ (λ _. leaves parts)
seen_ends P session table leaves _ = tt

truncate_ends : (P : Choice → Type 0) (session : SessionState) (ref : ObjRef) → ((table : ObjName) (parts : TableParts) → P (emptied session table parts)) → Ends P (truncate session ref)
unfolding truncate
truncate_ends P session ref leaves = ends_after P (one_named session.current ref) _ (λ (table : ObjName) seen. seen_ends P session table (leaves table) seen)

pub truncate_makes : (session : SessionState) (ref : ObjRef) → MakesOneSpace (truncate session ref)
truncate_makes session ref = makes_one _ (truncate_ends KeepsNone session ref (λ table parts. (refl, tt)))

pub truncate_leaves : (session : SessionState) (ref : ObjRef) → KeepsNamed session (truncate session ref)
truncate_leaves session ref = keeps_so session (truncate session ref) (truncate_ends (LeavesNamed session) session ref (λ table parts named. named))
