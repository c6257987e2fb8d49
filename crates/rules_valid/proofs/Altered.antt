-- CREATE INDEX and DROP INDEX, and ALTER TABLE that gives no new name, keep a valid catalog valid.
use Rattle.std.specs.Prelude.{◌≡◌, ℕ, Bool, true, ◌||◌, List, [], ◌∷◌, map, filter, Option, Some, None, refl}
use Rattle.std.specs.List.{list_any, list_all, AllByRecursion, flat_map}
use Rattle.std.specs.FinMap as finite_map
use Rattle.std.proofs.Common.{sym, ◌∙◌, ap, subst, inl, inr}
use Rattle.std.proofs.lemmas.Bool.{and_from}
use Rattle.dd_names.specs.Names.{is_name}
use Rattle.dd_names.specs.declared.object_name.ObjName.{ObjName}
use Rattle.sql_types.specs.declared.words.ObjRef.{ObjRef}
use Rattle.sql_ast.specs.Names.{is_key_named, session_is_named}
use Rattle.sql_ast.specs.Names as says
use Rattle.sql_ast.specs.declared.action.AlterAction.{AlterAction}
use Rattle.sql_ast.specs.declared.action.AlterAction.TheVariants as actions
use Rattle.sql_ast.specs.declared.session.SessionState.{SessionState}
use Rattle.dd_definitions.specs.Named.{is_object_named, has_names}
use Rattle.dd_catalog.specs.Catalog.{Catalog, Placed, Table, View, all_of, object_seen}
use Rattle.dd_catalog.specs.Valid.{IsValid}
use Rattle.dd_catalog.specs.Walks.{◌>>=◌, done, each, every, fine, run}
use Rattle.dd_catalog.specs.Asked.{fine_is, bind_fine}
use Rattle.rules_outcome.specs.Choices.{Change, Choice, Changes, catalog_behind, makes_space, takes_space, IsNewSpace}
use Rattle.rules_named.specs.Named.{own_schema_there, resolved}
use Rattle.rules_create.specs.Leaves.{IsTableAt, SeesFormed}
use Rattle.rules_create.proofs.Seen.{valid_sees_formed}
use Rattle.rules_alter.specs.Statements.{Names, target_in, all_resolved, names_of, last_of, table_seen, Found, child_change, is_child_changed, children_of, table_behind, changes_in_place, changes_of, start_of, all_acted, altered, alter_table, create_index, drop_index, index_words}
use Rattle.rules_alter.specs.declared.states.Altering.{Altering}
use Rattle.rules_alter.specs.declared.states.Child.{Child}
use Rattle.rules_alter_laws.proofs.Leaves.{all_are_formed}
use Rattle.rules_alter_laws.proofs.Limits.{formed_stands}
use Rattle.rules_alter_keys_laws.proofs.Whole.{all_follow}
use Rattle.rules_valid.specs.Altered.{is_action_named}
use Rattle.rules_valid.specs.Keeps.{KeepsValid, MakesOneSpace}
use Rattle.rules_valid.proofs.AlteredBuilt.{starts_of, IsMade, in_place_catalog, catalog_is, in_place_valid, in_place_spaces}
use Rattle.rules_valid.proofs.AlteredNamed.{AreAllNamed, KeepsAllNamed, added_key_named, dropped_index_named}
use Rattle.rules_valid.proofs.AlteredNames.{actions_named}
use Rattle.rules_valid.proofs.AlteredStart.{IsStart, children_are, each_starts}
use Rattle.rules_valid.proofs.MadeNamed.{names_are, named_of}
use Rattle.rules_valid.proofs.RenamedLists.{IsIn}
use Rattle.rules_valid.proofs.Resolved.{resolved_named}

-- ## The names

-- the table is what the statement names, and no name is new
record AreNames (cat : Catalog) (session : SessionState) (ref : ObjRef) (names : Names) : Type 0 where
  table : run (all_of cat) (resolved session.current ref) ≡ fine names.table
  none : names.targets ≡ []

names_are_so : (cat : Catalog) (session : SessionState) (ref : ObjRef) (acts : List AlterAction) (names : Names) → flat_map target_in acts ≡ [] → run (all_of cat) (names_of session ref acts) ≡ fine names → AreNames cat session ref names
unfolding names_of all_resolved
names_are_so cat session ref acts names none is =
    let (found, all, after_all) = bind_fine (all_of cat) (all_resolved session ref acts) _ names is in
    let (_, own, after_own) = bind_fine (all_of cat) (own_schema_there found.table) _ names after_all in
    let (_, others, last) = bind_fine (all_of cat) (every own_schema_there found.targets) _ names after_own in
    let (table, resolved_is, after_table) = bind_fine (all_of cat) (resolved session.current ref) _ found all in
    let (targets, each_is, same_names) = bind_fine (all_of cat) (each (resolved session.current) (flat_map target_in acts)) _ found after_table in
    let no_targets : run (all_of cat) (each (resolved session.current) []) ≡ fine targets = subst (λ (refs : List ObjRef). run (all_of cat) (each (resolved session.current) refs) ≡ fine targets) none each_is in
    subst (AreNames cat session ref) (fine_is same_names ∙ fine_is last) (record { table = resolved_is; none = sym (fine_is no_targets) })

-- ## The table and its children

found_is : (cat : Catalog) (table : ObjName) (known : Option Placed) (found : Found) → run (all_of cat) (table_seen table (object_seen known)) ≡ fine found → known ≡ Some (Table found.space found.parts)
found_is cat table None found is = cc
found_is cat table (Some (Table space parts)) found is = ap (λ (f : Found). Some (Table f.space f.parts)) (fine_is is)
found_is cat table (Some (View parts)) found is = cc

all_from_in : {X : Type 0} (P : X → Type 0) (xs : List X) → ((x : X) → IsIn x xs → P x) → AllByRecursion P xs
all_from_in P [] gives = tt
all_from_in P (x ∷ xs) gives = (gives x (inl refl), all_from_in P xs (λ y is. gives y (inr is)))

some_is : {X : Type 0} {x y : X} → ◌≡◌ {A = Option X} (Some x) (Some y) → x ≡ y
some_is e = cc

sees : (cat : Catalog) → IsValid cat → SeesFormed (all_of cat)
sees cat valid = valid_sees_formed cat (all_of cat) valid (record { stands = λ key seen is. some_is is })

-- ## The choice

-- the statement changes the table in its place, as the actions have made it
record IsAlteredSo (cat : Catalog) (session : SessionState) (ref : ObjRef) (acts : List AlterAction) (choice : Choice) : Type 0 where
  table : ObjName
  found : Found
  state : Altering
  resolved_is : run (all_of cat) (resolved session.current ref) ≡ fine table
  acted : run (all_of cat) (all_acted (start_of found.parts (starts_of cat table)) acts) ≡ fine state
  made : IsMade cat table found state
  is : Changes (changes_in_place found.space state) session ≡ choice

made_so : (cat : Catalog) (table : ObjName) (found : Found) (acts : List AlterAction) (state : Altering) → IsValid cat → finite_map.get cat.objects table ≡ Some (Table found.space found.parts) → run (all_of cat) (all_acted (start_of found.parts (starts_of cat table)) acts) ≡ fine state → IsMade cat table found state
made_so cat table found acts state valid was acted =
    let at : IsTableAt table found.parts = record { formed = valid.formed table (Table found.space found.parts) (record { is = was }); named = valid.names_carried table (Table found.space found.parts) (record { is = was }) } in
    let children = all_from_in (λ (child : Child). IsTableAt child.name child.parts) (starts_of cat table) (λ child is.
    let start : IsStart cat table child = each_starts cat table child is in
    record { formed = valid.formed child.name (Table child.space child.parts) (record { is = start.was }); named = valid.names_carried child.name (Table child.space child.parts) (record { is = start.was }) }) in
    record {
      was = was;
      altered = all_are_formed (all_of cat) table (start_of found.parts (starts_of cat table)) acts state (record { stands = at; children = children }) acted;
      whole = all_follow (all_of cat) (start_of found.parts (starts_of cat table)) acts state (sees cat valid) (formed_stands found.parts at.formed) children acted;
    }

altered_so : (cat : Catalog) (session : SessionState) (ref : ObjRef) (acts : List AlterAction) (choice : Choice) → flat_map target_in acts ≡ [] → IsValid cat → run (all_of cat) (alter_table session ref acts) ≡ fine choice → IsAlteredSo cat session ref acts choice
unfolding alter_table altered
altered_so cat session ref acts choice none valid is =
    let (names, named, after_names) = bind_fine (all_of cat) (names_of session ref acts) _ choice is in
    let are : AreNames cat session ref names = names_are_so cat session ref acts names none named in
    let (found, is_table, after_table) = bind_fine (all_of cat) (table_seen names.table (object_seen (finite_map.get cat.objects names.table))) (λ found. children_of names.table >>= λ children. altered session acts (last_of names.targets) found children) choice after_names in
    let (children, all, after_children) = bind_fine (all_of cat) (children_of names.table) (λ children. altered session acts (last_of names.targets) found children) choice after_table in
    let same_children : starts_of cat names.table ≡ children = children_are cat names.table children all in
    let (state, acted, after_acts) = bind_fine (all_of cat) (all_acted (start_of found.parts children) acts) (λ state. changes_of found.space state (last_of names.targets) >>= λ changes. done (Changes changes session)) choice after_children in
    let (changes, made, last) = bind_fine (all_of cat) (changes_of found.space state (last_of names.targets)) (λ changes. done (Changes changes session)) choice after_acts in
    let in_place : run (all_of cat) (changes_of found.space state None) ≡ fine changes = subst (λ (targets : List ObjName). run (all_of cat) (changes_of found.space state (last_of targets)) ≡ fine changes) are.none made in
    let acted_so : run (all_of cat) (all_acted (start_of found.parts (starts_of cat names.table)) acts) ≡ fine state = subst (λ (cs : List Child). run (all_of cat) (all_acted (start_of found.parts cs) acts) ≡ fine state) (sym same_children) acted in
    record {
      table = names.table;
      found = found;
      state = state;
      resolved_is = are.table;
      acted = acted_so;
      made = made_so cat names.table found acts state valid (found_is cat names.table (finite_map.get cat.objects names.table) found is_table) acted_so;
      is = ap (λ (cs : List Change). Changes cs session) (fine_is in_place) ∙ fine_is last;
    }

-- ## The theorems

takes_it : (space : ℕ) (state : Altering) (session : SessionState) → state.is_rebuilt ≡ true → takes_space (Changes (changes_in_place space state) session) ≡ true
takes_it space state session rebuilt = ap (λ b. makes_space (table_behind space b state.parts) || list_any (λ (c : Change). makes_space c.after) (map child_change (filter is_child_changed state.children))) rebuilt

start_named : (cat : Catalog) → IsValid cat → (table : ObjName) (found : Found) → finite_map.get cat.objects table ≡ Some (Table found.space found.parts) → AreAllNamed table (start_of found.parts (starts_of cat table))
start_named cat valid table found was =
    let (_, own) = named_of found.parts (valid.named table (Table found.space found.parts) (record { is = was })) in
    record {
      own = record { name = valid.names_carried table (Table found.space found.parts) (record { is = was }); columns = own.columns; indexes = own.indexes; foreign_keys = own.foreign_keys };
      children = all_from_in (λ (child : Child). has_names child.parts ≡ true) (starts_of cat table) (λ child is. valid.named child.name (Table child.space child.parts) (record { is = (each_starts cat table child is).was }));
    }

-- ALTER TABLE without a new name, whose actions keep names
alter_keeps : (session : SessionState) (ref : ObjRef) (acts : List AlterAction) → session_is_named session ≡ true → says.is_object_named ref ≡ true → flat_map target_in acts ≡ [] → ((cat : Catalog) → IsValid cat → KeepsAllNamed (all_of cat) acts) → KeepsValid (alter_table session ref acts)
alter_keeps session ref acts current said none names = record {
  keeps = λ cat space choice valid number is.
      let so : IsAlteredSo cat session ref acts choice = altered_so cat session ref acts choice none valid is in
      let table_named : is_object_named so.table ≡ true = resolved_named (all_of cat) session.current ref so.table current said so.resolved_is in
      let named : AreAllNamed so.table so.state = (names cat valid).kept so.table (start_of so.found.parts (starts_of cat so.table)) so.state table_named (start_named cat valid so.table so.found so.made.was) so.acted in
      let new : so.state.is_rebuilt ≡ true → IsNewSpace cat space = λ rebuilt. number (ap takes_space (sym so.is) ∙ takes_it so.found.space so.state session rebuilt) in
      subst (λ c. IsValid (catalog_behind space c cat)) so.is
      (subst IsValid (sym (catalog_is space so.found.space so.state cat)) (in_place_valid cat valid so.table space so.found so.state so.made new (names_are so.table so.state.parts table_named named.own) named.children));
}

pub alter_makes : (session : SessionState) (ref : ObjRef) (acts : List AlterAction) → flat_map target_in acts ≡ [] → MakesOneSpace (alter_table session ref acts)
alter_makes session ref acts none = record {
  made = λ cat space choice valid is name held parts has.
      let so : IsAlteredSo cat session ref acts choice = altered_so cat session ref acts choice none valid is in
      let there : finite_map.get (in_place_catalog space so.found.space so.state cat).objects name ≡ Some (Table held parts) =
      ap (λ (c : Catalog). finite_map.get c.objects name) (sym (catalog_is space so.found.space so.state cat)) ∙ ap (λ c. finite_map.get (catalog_behind space c cat).objects name) so.is ∙ has.is in
      elim (in_place_spaces cat valid so.table space so.found so.state so.made name held parts there) [
        | inl before ↦ inl before
        | inr made ↦ inr (ap takes_space (sym so.is) ∙ takes_it so.found.space so.state session made.0, made.1)
      ];
}

pub create_index_keeps : (session : SessionState) (is_unique : Bool) (name : List ℕ) (ref : ObjRef) (columns : List (List ℕ)) → session_is_named session ≡ true → says.is_object_named ref ≡ true → is_name name ≡ true → list_all is_name columns ≡ true
    → KeepsValid (create_index session is_unique name ref columns)
create_index_keeps session is_unique name ref columns current said named all =
    alter_keeps session ref (actions.AddKey (index_words is_unique name columns) ∷ []) current said refl
    (λ cat valid. added_key_named (all_of cat) (index_words is_unique name columns) (and_from (is_name name) (list_all is_name columns) named all))

pub create_index_makes : (session : SessionState) (is_unique : Bool) (name : List ℕ) (ref : ObjRef) (columns : List (List ℕ)) → MakesOneSpace (create_index session is_unique name ref columns)
create_index_makes session is_unique name ref columns = alter_makes session ref (actions.AddKey (index_words is_unique name columns) ∷ []) refl

pub drop_index_keeps : (session : SessionState) (name : List ℕ) (ref : ObjRef) → session_is_named session ≡ true → says.is_object_named ref ≡ true → KeepsValid (drop_index session name ref)
drop_index_keeps session name ref current said = alter_keeps session ref (actions.DropIndex name ∷ []) current said refl (λ cat valid. dropped_index_named (all_of cat) name)

pub drop_index_makes : (session : SessionState) (name : List ℕ) (ref : ObjRef) → MakesOneSpace (drop_index session name ref)
drop_index_makes session name ref = alter_makes session ref (actions.DropIndex name ∷ []) refl

-- ALTER TABLE without a new name of the table
pub alter_table_keeps : (session : SessionState) (ref : ObjRef) (acts : List AlterAction) → session_is_named session ≡ true → says.is_object_named ref ≡ true → list_all is_action_named acts ≡ true → flat_map target_in acts ≡ [] → KeepsValid (alter_table session ref acts)
alter_table_keeps session ref acts current said acts_said none = alter_keeps session ref acts current said none (λ cat valid. actions_named cat valid acts acts_said)
