-- Each action keeps the parts of the table together.
use Rattle.std.specs.Prelude.{◌≡◌, ℕ, true, false, List, map, Option, None, refl}
use Rattle.std.proofs.Common.{sym, ◌∙◌, subst}
use Rattle.sql_types.specs.declared.words.ColumnWords.{ColumnWords}
use Rattle.sql_types.specs.declared.words.FkWords.{FkWords}
use Rattle.sql_types.specs.declared.words.KeyWords.{KeyWords}
use Rattle.sql_ast.specs.declared.action.AlterAction.{AlterAction}
use Rattle.sql_ast.specs.declared.action.AlterAction.TheVariants as actions
use Rattle.sql_ast.specs.declared.action.Place.{Place}
use Rattle.dd_definitions.specs.Columns.{is_column}
use Rattle.dd_definitions.specs.Indexes.{primary_name}
use Rattle.dd_catalog.specs.Walks.{fine, run, refuse_if, over}
use Rattle.dd_catalog.specs.WalkLaws.{Look}
use Rattle.dd_catalog.specs.Asked.{fine_is, bind_fine, over_keeps}
use Rattle.rules_refusals.specs.Refusals.{dup_fieldname}
use Rattle.rules_create.specs.Tables.{has_column, one_foreign_key}
use Rattle.rules_alter.specs.Actions.{acted, one_action, rebuilt_behind}
use Rattle.rules_alter.specs.Altering.{other_columns, the_name, unknown_column, with_parts}
use Rattle.rules_alter.specs.Arranged.{arranged}
use Rattle.rules_alter.specs.Columns.{add_column, add_columns, arranged_behind, column_added, column_keys_added, rename_column}
use Rattle.rules_alter.specs.ForeignKeys.{add_foreign_key}
use Rattle.rules_alter.specs.Keys.{add_key, key_added, null_words}
use Rattle.rules_alter.specs.declared.states.Altering.{Altering}
use Rattle.rules_alter_laws.specs.Stands.{Stands, StandsInOrder}
use Rattle.rules_alter_laws.proofs.AddedColumns.{IsColumnAdded, column_is_added}
use Rattle.rules_alter_laws.proofs.AddedForeignKeys.{IsLinked, foreign_key_is_added}
use Rattle.rules_alter_laws.proofs.AddedKeys.{IsKeyed, key_is_added}
use Rattle.rules_alter_laws.proofs.Defaults.{default_is_set, default_is_dropped}
use Rattle.rules_alter_laws.proofs.Dropped.{name_is_spelled, spelled_is_column, column_is_dropped}
use Rattle.rules_alter_laws.proofs.Ordered.{AreChildrenFormed, IsBehind, arranged_is_behind}
use Rattle.rules_alter_laws.proofs.OtherIndexes.{index_is_dropped, index_is_renamed, foreign_key_is_dropped}
use Rattle.rules_alter_laws.proofs.Redefined.{column_keys_behind, column_is_behind}
use Rattle.rules_alter_laws.proofs.Renamed.{is_renaming, renamed_behind}
use Rattle.rules_create.proofs.Names.{not_refused}

-- ## ADD COLUMN

-- the table with columns and indexes more
record IsGrown (before state : Altering) : Type 0 where
  stands : Stands state.parts
  name : state.parts.name ≡ before.parts.name
  children : state.children ≡ before.children

grown_itself : (before : Altering) → Stands before.parts → IsGrown before before
grown_itself before good = record { stands = good; name = refl; children = refl }

column_grows : (look : Look) (before : Altering) (place : Option Place) (state : Altering) (words : ColumnWords) (next : Altering) → IsGrown before state → run look (column_added place state words) ≡ fine next → IsGrown before next
column_grows look before place state words next so_far is =
    let added : IsColumnAdded state next = column_is_added look place state words next so_far.stands is in
    record { stands = added.stands; name = added.name ∙ so_far.name; children = added.children ∙ so_far.children }

keys_grow : (look : Look) (before state : Altering) (words : ColumnWords) (next : Altering) → IsGrown before state → run look (column_keys_added state words) ≡ fine next → IsGrown before next
keys_grow look before state words next so_far is =
    let (parts, added, same_state) = column_keys_behind look state words next so_far.stands is in
    subst (IsGrown before) same_state (record { stands = added.stands; name = added.name ∙ so_far.name; children = so_far.children })

grown_behind : (before state : Altering) → IsGrown before state → IsBehind before (arranged_behind before state)
grown_behind before state grown = arranged_is_behind before state grown.stands grown.name (λ formed. subst (λ children. AreChildrenFormed (record state { children = children })) (sym grown.children) formed)

column_behind : (look : Look) (words : ColumnWords) (place : Option Place) (before next : Altering) → StandsInOrder before.parts → run look (add_column words place before) ≡ fine next → IsBehind before next
unfolding add_column
column_behind look words place before next good is =
    let (added, one, after_column) = bind_fine look (column_added place before words) _ next is in
    let (keyed, keys, last) = bind_fine look (column_keys_added added words) _ next after_column in
    let first : IsGrown before added = column_grows look before place before words added (grown_itself before good.stands) one in
    subst (IsBehind before) {x = arranged_behind before keyed} (fine_is last) (grown_behind before keyed (keys_grow look before added words keyed first keys))

columns_behind : (look : Look) (words : List ColumnWords) (before next : Altering) → StandsInOrder before.parts → run look (add_columns words before) ≡ fine next → IsBehind before next
unfolding add_columns
columns_behind look words before next good is =
    let (added, each_added, after_columns) = bind_fine look (over (column_added None) before words) _ next is in
    let (keyed, each_keyed, last) = bind_fine look (over column_keys_added added words) _ next after_columns in
    let first : IsGrown before added = over_keeps (IsGrown before) look (column_added None) (column_grows look before None) before words added (grown_itself before good.stands) each_added in
    let second : IsGrown before keyed = over_keeps (IsGrown before) look column_keys_added (keys_grow look before) added words keyed first each_keyed in
    subst (IsBehind before) {x = arranged_behind before keyed} (fine_is last) (grown_behind before keyed second)

-- ## ADD KEY and ADD FOREIGN KEY

key_behind : (look : Look) (words : KeyWords) (state next : Altering) → StandsInOrder state.parts → run look (add_key words state) ≡ fine next → IsBehind state next
unfolding add_key
key_behind look words state next good is =
    let (parts, made, last) = bind_fine look (key_added state.nulls state.parts words) _ next is in
    let added : IsKeyed state.parts parts = key_is_added look (map null_words state.nulls) state.parts words parts good.stands made in
    subst (IsBehind state) {x = with_parts state (arranged state.parts parts)} (fine_is last) (arranged_is_behind state (with_parts state parts) added.stands added.name (λ formed. formed))

foreign_key_behind : (look : Look) (words : FkWords) (state next : Altering) → StandsInOrder state.parts → run look (add_foreign_key words state) ≡ fine next → IsBehind state next
unfolding add_foreign_key
foreign_key_behind look words state next good is =
    let (parts, made, last) = bind_fine look (one_foreign_key state.parts words) _ next is in
    let added : IsLinked look state.parts parts = foreign_key_is_added look state.parts words parts good.stands made in
    subst (IsBehind state) {x = with_parts state (arranged state.parts parts)} (fine_is last) (arranged_is_behind state (with_parts state parts) added.stands added.name (λ formed. formed))

-- ## RENAME COLUMN

name_behind : (look : Look) (from to : List ℕ) (state next : Altering) → StandsInOrder state.parts → run look (rename_column from to state) ≡ fine next → IsBehind state next
unfolding rename_column
name_behind look from to state next good is =
    let (old, found, after_old) = bind_fine look (the_name (unknown_column state.parts from) state.parts from) _ next is in
    let (_, new, last) = bind_fine look (refuse_if (has_column (other_columns old state.parts.columns) to) (dup_fieldname to)) _ next after_old in
    let there : is_column state.parts.columns old ≡ true = spelled_is_column state.parts.columns from old (name_is_spelled look (unknown_column state.parts from) state.parts from old found) in
    let absent : has_column (other_columns old state.parts.columns) to ≡ false = not_refused look (has_column (other_columns old state.parts.columns) to) (dup_fieldname to) tt new in
    subst (IsBehind state) (fine_is last) (renamed_behind old to state (is_renaming state.parts.columns old to good.stands.columns.distinct there absent) good)

-- ## Each action

stays_behind : (state next : Altering) → StandsInOrder state.parts → state ≡ next → IsBehind state next
stays_behind state next good is = subst (IsBehind state) is (record { stands = good; name = refl; children = λ formed. formed })

acted_behind : (look : Look) (action : AlterAction) (state next : Altering) → StandsInOrder state.parts → run look (acted action state) ≡ fine next → IsBehind state next
acted_behind look (actions.AddColumn column place) state next good is = column_behind look column place state next good is
acted_behind look (actions.AddColumns columns) state next good is = columns_behind look columns state next good is
acted_behind look (actions.AddKey words) state next good is = key_behind look words state next good is
acted_behind look (actions.AddForeignKey words) state next good is = foreign_key_behind look words state next good is
acted_behind look (actions.DropColumn name) state next good is = column_is_dropped look name state next good.stands is
acted_behind look (actions.ModifyColumn column place) state next good is = column_is_behind look column.name column place state next good is
acted_behind look (actions.ChangeColumn name column place) state next good is = column_is_behind look name column place state next good is
acted_behind look (actions.RenameColumn from to) state next good is = name_behind look from to state next good is
acted_behind look (actions.SetDefault name value) state next good is = default_is_set look name value state next good is
acted_behind look (actions.DropDefault name) state next good is = default_is_dropped look name state next good is
acted_behind look (actions.DropIndex name) state next good is = index_is_dropped look name state next good is
acted_behind look actions.DropPrimaryKey state next good is = index_is_dropped look primary_name state next good is
acted_behind look (actions.DropForeignKey name) state next good is = foreign_key_is_dropped look name state next good is
acted_behind look (actions.RenameIndex from to) state next good is = index_is_renamed look from to state next good is
acted_behind look (actions.RenameTable to) state next good is = stays_behind state next good (fine_is is)
acted_behind look actions.Force state next good is = stays_behind state next good (fine_is is)
acted_behind look actions.Engine state next good is = stays_behind state next good (fine_is is)

pub action_behind : (look : Look) (action : AlterAction) (state next : Altering) → StandsInOrder state.parts → run look (one_action state action) ≡ fine next → IsBehind state next
unfolding one_action
action_behind look action state next good is =
    let (behind, made, last) = bind_fine look (acted action state) _ next is in
    let kept : IsBehind state behind = acted_behind look action state behind good made in
    subst (IsBehind state) {x = rebuilt_behind action state behind} (fine_is last) (record { stands = kept.stands; name = kept.name; children = kept.children })

-- ## All actions

pub actions_behind : (look : Look) (start : Altering) (acts : List AlterAction) (state : Altering) → StandsInOrder start.parts → run look (over one_action start acts) ≡ fine state → IsBehind start state
actions_behind look start acts state good is = over_keeps (IsBehind start) look one_action one start acts state (record { stands = good; name = refl; children = λ formed. formed }) is
  where
    one : (before : Altering) (action : AlterAction) (next : Altering) → IsBehind start before → run look (one_action before action) ≡ fine next → IsBehind start next
    one before action next so_far made =
        let kept : IsBehind before next = action_behind look action before next so_far.stands made in
        record { stands = kept.stands; name = kept.name ∙ so_far.name; children = λ formed. kept.children (so_far.children formed) }
