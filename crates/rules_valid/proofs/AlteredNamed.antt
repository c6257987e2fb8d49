-- The names in a table that CREATE INDEX and DROP INDEX leave are names.
use Rattle.std.specs.Prelude.{◌≡◌, ℕ, true, not, List, [], ◌∷◌, map}
use Rattle.std.specs.List.{AllByRecursion}
use Rattle.std.proofs.Common.{◌∙◌, subst}
use Rattle.dd_names.specs.Names.{same}
use Rattle.dd_names.specs.declared.object_name.ObjName.{ObjName}
use Rattle.sql_types.specs.declared.words.KeyWords.{KeyWords}
use Rattle.sql_ast.specs.Names.{is_key_named}
use Rattle.sql_ast.specs.declared.action.AlterAction.{AlterAction}
use Rattle.sql_ast.specs.declared.action.AlterAction.TheVariants as actions
use Rattle.dd_definitions.specs.Named.{is_object_named, is_index_named, has_names}
use Rattle.dd_definitions.specs.declared.indexes.IndexDef.{IndexDef}
use Rattle.dd_definitions.specs.declared.parts.TableParts.{TableParts}
use Rattle.dd_catalog.specs.Walks.{fine, run, refuse_if, over}
use Rattle.dd_catalog.specs.WalkLaws.{Look}
use Rattle.dd_catalog.specs.Asked.{fine_is, bind_fine}
use Rattle.rules_refusals.specs.Refusals.{drop_index_fk}
use Rattle.rules_create.proofs.Lists.{filter_all}
use Rattle.rules_alter.specs.Actions.{acted, one_action, rebuilt_behind}
use Rattle.rules_alter.specs.Altering.{with_parts}
use Rattle.rules_alter.specs.Arranged.{arranged}
use Rattle.rules_alter.specs.Keys.{add_key, drop_index, is_index_lacking, key_added, null_words, other_indexes, the_index}
use Rattle.rules_alter.specs.Statements.{within_limits, all_acted}
use Rattle.rules_alter.specs.declared.states.Altering.{Altering}
use Rattle.rules_alter.specs.declared.states.Child.{Child}
use Rattle.rules_alter_laws.proofs.Arranged.{IsArranged, is_arranged}
use Rattle.rules_alter_laws.proofs.Lists.{alike_all}
use Rattle.rules_valid.proofs.MadeNamed.{AreNamed, key_keeps}

-- the table has this name, and all names in it and in its children are names
pub record AreAllNamed (table : ObjName) (state : Altering) : Type 0 where
  pub own : AreNamed table state.parts
  pub children : AllByRecursion (λ (child : Child). has_names child.parts ≡ true) state.children

-- all actions keep them so
pub record KeepsAllNamed (look : Look) (acts : List AlterAction) : Type 0 where
  pub kept : (table : ObjName) (start state : Altering) → is_object_named table ≡ true → AreAllNamed table start → run look (all_acted start acts) ≡ fine state → AreAllNamed table state

pub arranged_named : (table : ObjName) (parts next : TableParts) → IsArranged parts next → AreNamed table parts → AreNamed table next
arranged_named table parts next there named = subst (AreNamed table) {x = record parts { indexes = there.indexes }} there.is (record {
  name = named.name;
  columns = named.columns;
  indexes = alike_all is_index_named parts.indexes there.indexes there.alike named.indexes;
  foreign_keys = named.foreign_keys;
})

-- ## One action

one_named : (look : Look) (action : AlterAction) → ((table : ObjName) (start state : Altering) → AreAllNamed table start → run look (acted action start) ≡ fine state → AreAllNamed table state) → KeepsAllNamed look (action ∷ [])
unfolding all_acted one_action
one_named look action keeps = record {
  kept = λ table start state named_is named is.
      let (behind, all, after_acts) = bind_fine look (over one_action start (action ∷ [])) _ state is in
      let (x, limits, last) = bind_fine look (within_limits behind) _ state after_acts in
      let (next, one, rest) = bind_fine look (one_action start action) (λ s. over one_action s []) behind all in
      let (made, acted_is, same_next) = bind_fine look (acted action start) _ next one in
      let kept : AreAllNamed table made = keeps table start made named acted_is in
      let rebuilt : AreAllNamed table next = subst (AreAllNamed table) {x = rebuilt_behind action start made} (fine_is same_next) (record { own = kept.own; children = kept.children }) in
      subst (AreAllNamed table) (fine_is rest ∙ fine_is last) rebuilt;
}

pub key_named : (look : Look) (words : KeyWords) → is_key_named words ≡ true → (table : ObjName) (start state : Altering) → AreAllNamed table start → run look (add_key words start) ≡ fine state → AreAllNamed table state
unfolding add_key
key_named look words said table start state named is =
    let (parts, made, last) = bind_fine look (key_added start.nulls start.parts words) _ state is in
    let more : AreNamed table parts = key_keeps look table (map null_words start.nulls) start.parts words parts said named.own made in
    subst (AreAllNamed table) {x = with_parts start (arranged start.parts parts)} (fine_is last) (record { own = arranged_named table parts (arranged start.parts parts) (is_arranged start.parts parts) more; children = named.children })

pub index_gone_named : (look : Look) (name : List ℕ) (table : ObjName) (start state : Altering) → AreAllNamed table start → run look (drop_index name start) ≡ fine state → AreAllNamed table state
unfolding drop_index
index_gone_named look name table start state named is =
    let (_, there, after_index) = bind_fine look (the_index start.parts name) _ state is in
    let (_, lacks, last) = bind_fine look (refuse_if (is_index_lacking start (other_indexes name start.parts.indexes)) (drop_index_fk name)) _ state after_index in
    subst (AreAllNamed table) {x = with_parts start (record start.parts { indexes = other_indexes name start.parts.indexes })} (fine_is last) (record {
      own = record {
        name = named.own.name;
        columns = named.own.columns;
        indexes = filter_all (λ (i : IndexDef). not (same i.name name)) is_index_named start.parts.indexes named.own.indexes;
        foreign_keys = named.own.foreign_keys;
      };
      children = named.children;
    })

pub added_key_named : (look : Look) (words : KeyWords) → is_key_named words ≡ true → KeepsAllNamed look (actions.AddKey words ∷ [])
added_key_named look words said = one_named look (actions.AddKey words) (key_named look words said)

pub dropped_index_named : (look : Look) (name : List ℕ) → KeepsAllNamed look (actions.DropIndex name ∷ [])
dropped_index_named look name = one_named look (actions.DropIndex name) (index_gone_named look name)
