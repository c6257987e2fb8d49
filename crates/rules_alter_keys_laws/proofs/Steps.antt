-- What each action keeps of foreign keys.
use Rattle.std.specs.Prelude.{◌≡◌, ℕ, ◌≤◌, ◌==◌, Bool, true, false, ◌&&◌, ◌||◌, not, List, [], ◌∷◌, map, length, Option, Some, None, if◌then◌else◌, refl}
use Rattle.std.specs.List.{list_any, list_all, AllByRecursion, find, flat_map}
use Rattle.std.specs.Str.{bytes_eq}
use Rattle.std.proofs.Common.{sym, ◌∙◌, ap, subst, arith, inl, inr}
use Rattle.std.proofs.lemmas.Bool.{true≢false, and_parts, and_from, or_parts, or_left, or_right, not_from_false, cond_both, cases_Bool, eqb-true}
use Rattle.dd_names.specs.Names.{same, fold}
use Rattle.dd_names.specs.declared.object_name.ObjName.{ObjName}
use Rattle.dd_names.specs.declared.object_name.ObjectKey.TheVariants as keys
use Rattle.dd_errors.specs.Errors.{ErrorValue}
use Rattle.sql_types.specs.declared.words.ColumnWords.{ColumnWords}
use Rattle.sql_types.specs.declared.words.FkWords.{FkWords}
use Rattle.sql_types.specs.declared.words.KeyWords.{KeyWords}
use Rattle.sql_types.specs.declared.literal.Literal.{Literal}
use Rattle.sql_ast.specs.declared.action.AlterAction.{AlterAction}
use Rattle.sql_ast.specs.declared.action.AlterAction.TheVariants as actions
use Rattle.sql_ast.specs.declared.action.Place.{Place}
use Rattle.dd_definitions.specs.Columns.{is_column}
use Rattle.dd_definitions.specs.ForeignKeys.{has_index_on, is_foreign_key_formed}
use Rattle.dd_definitions.specs.Indexes.{primary_name}
use Rattle.dd_definitions.specs.declared.columns.ColumnDef.{ColumnDef}
use Rattle.dd_definitions.specs.declared.foreign_keys.ForeignKeyDef.{ForeignKeyDef}
use Rattle.dd_definitions.specs.declared.indexes.IndexDef.{IndexDef}
use Rattle.dd_definitions.specs.declared.parts.TableParts.{TableParts}
use Rattle.dd_catalog.specs.Catalog.{is_same_object}
use Rattle.dd_catalog.specs.Walks.{Walk, fine, run, refuse_if, refuse_some, every, over}
use Rattle.dd_catalog.specs.WalkLaws.{Look}
use Rattle.dd_catalog.specs.Asked.{fine_is, bind_fine, over_keeps}
use Rattle.rules_refusals.specs.Refusals.{cant_drop_field_or_key, cant_remove_all_fields, drop_index_fk, dup_fieldname, dup_keyname, primary_cant_have_null}
use Rattle.rules_elements.specs.ForeignKeys.{has_constraint_named}
use Rattle.rules_elements.specs.Keys.{has_index_named}
use Rattle.rules_create.specs.Leaves.{IsTableAt, SeesFormed}
use Rattle.rules_create.specs.Tables.{has_column, is_null, one_foreign_key}
use Rattle.rules_create.proofs.Lists.{all_weaker, all_map, filter_all}
use Rattle.rules_create.proofs.Names.{bytes_are, bytes_same, not_refused}
use Rattle.rules_create.proofs.Order.{put_all}
use Rattle.rules_alter.specs.Actions.{acted, one_action, rebuilt_behind}
use Rattle.rules_alter.specs.Altering.{all_renamed, any_referring, child_renamed, column_renamed, is_among_names, is_child_touched, other_columns, own_key_renamed, refers_to_column, renamed_index, renamed_name, the_name, unknown_column, with_keys_renamed, with_parent_renamed, with_parts}
use Rattle.rules_alter.specs.Arranged.{arranged}
use Rattle.rules_alter.specs.Columns.{add_column, add_columns, allowed_change, allowed_drop, arranged_behind, change_column, changed, child_allows, column_added, column_keys_added, default_of, default_set, drop_column, drop_default, dropped, index_without, is_nulled_key, never_nulled, null_unless, is_in_primary, redefined, referring_key_refused, refused_by, refused_by_own, remade, rename_column, set_default, with_default, without_column}
use Rattle.rules_alter.specs.ForeignKeys.{add_foreign_key, drop_foreign_key, other_keys}
use Rattle.rules_alter.specs.Keys.{add_key, drop_index, is_index_lacking, key_added, lacks_index, lacks_parent_index, not_primary, null_words, other_indexes, rename_index, the_index, with_name}
use Rattle.rules_alter.specs.declared.states.Altering.{Altering}
use Rattle.rules_alter.specs.declared.states.Child.{Child}
use Rattle.rules_alter_laws.specs.Stands.{Stands, StandsInOrder}
use Rattle.rules_alter_laws.proofs.AddedColumns.{IsColumnAdded, column_is_added}
use Rattle.rules_alter_laws.proofs.AddedForeignKeys.{IsLinked, foreign_key_is_added}
use Rattle.rules_alter_laws.proofs.AddedKeys.{IsKeyed, key_is_added}
use Rattle.rules_alter_laws.proofs.Dropped.{find_none, not_refused_some, name_is_spelled, spelled_is_column, key_columns_some, still_leads}
use Rattle.rules_alter_laws.proofs.Kept.{Leads, leads_itself, IsKeyFormed, key_parts}
use Rattle.rules_alter_laws.proofs.Limits.{formed_stands}
use Rattle.rules_alter_laws.proofs.Ordered.{AreChildrenFormed}
use Rattle.rules_alter_laws.proofs.OtherIndexes.{named_leads}
use Rattle.rules_alter_laws.proofs.Redefined.{IsRedefined, is_redefined, column_keys_behind, IsChangeAllowed, change_is_allowed}
use Rattle.rules_alter_laws.proofs.Renamed.{IsRenaming, is_renaming, leads_renamed}
use Rattle.rules_alter_keys_laws.specs.Grounds.{is_unowned, has_parent_index, is_grounded}
use Rattle.rules_alter_keys_laws.specs.Led.{is_led, are_led, IsLed}
use Rattle.rules_alter_keys_laws.proofs.Added.{key_is_good}
use Rattle.rules_alter_keys_laws.proofs.Follows.{IsFollowed, followed_itself, followed_through, IsAddedKey, IsTableOnly, same_keys, table_follows, arranged_only}
use Rattle.rules_alter_keys_laws.proofs.Relation.{children_themselves, children_are_renamed}

-- ## Columns and keys that are added

column_only : (look : Look) (place : Option Place) (state : Altering) (words : ColumnWords) (next : Altering) → Stands state.parts → run look (column_added place state words) ≡ fine next → IsTableOnly look state next
column_only look place state words next good is =
    let added : IsColumnAdded state next = column_is_added look place state words next good is in
    same_keys look state next added.name added.children (subst (Leads state.parts.indexes) (sym added.indexes) (leads_itself state.parts.indexes)) added.foreign_keys

keys_only : (look : Look) (state : Altering) (words : ColumnWords) (next : Altering) → Stands state.parts → run look (column_keys_added state words) ≡ fine next → IsTableOnly look state next
keys_only look state words next good is =
    let (parts, added, same_state) = column_keys_behind look state words next good is in
    subst (IsTableOnly look state) same_state (same_keys look state (with_parts state parts) added.name refl added.leads added.foreign_keys)

-- the table stands, and what is said of foreign keys follows
record IsGrowing (look : Look) (before state : Altering) : Type 0 where
  stands : Stands state.parts
  follows : IsFollowed look before state

grows : (look : Look) (before : Altering) → Stands before.parts → IsGrowing look before before
grows look before good = record { stands = good; follows = followed_itself look before }

column_grows : (look : Look) (before : Altering) (place : Option Place) (state : Altering) (words : ColumnWords) (next : Altering) → IsGrowing look before state → run look (column_added place state words) ≡ fine next → IsGrowing look before next
column_grows look before place state words next so_far is = record {
  stands = (column_is_added look place state words next so_far.stands is).stands;
  follows = followed_through look before state next so_far.follows (table_follows look state next (column_only look place state words next so_far.stands is));
}

keys_grow : (look : Look) (before state : Altering) (words : ColumnWords) (next : Altering) → IsGrowing look before state → run look (column_keys_added state words) ≡ fine next → IsGrowing look before next
keys_grow look before state words next so_far is =
    let (parts, added, same_state) = column_keys_behind look state words next so_far.stands is in
    record {
      stands = subst (λ (s : Altering). Stands s.parts) same_state added.stands;
      follows = followed_through look before state next so_far.follows (table_follows look state next (keys_only look state words next so_far.stands is));
    }

arranged_follows : (look : Look) (before state : Altering) → IsFollowed look before state → IsFollowed look before (arranged_behind before state)
arranged_follows look before state follows = followed_through look before state (arranged_behind before state) follows (table_follows look state (arranged_behind before state) (arranged_only look before.parts state))

column_follows : (look : Look) (words : ColumnWords) (place : Option Place) (before next : Altering) → Stands before.parts → run look (add_column words place before) ≡ fine next → IsFollowed look before next
unfolding add_column
column_follows look words place before next good is =
    let (added, one, after_column) = bind_fine look (column_added place before words) _ next is in
    let (keyed, keys, last) = bind_fine look (column_keys_added added words) _ next after_column in
    let first : IsGrowing look before added = column_grows look before place before words added (grows look before good) one in
    let second : IsGrowing look before keyed = keys_grow look before added words keyed first keys in
    subst (IsFollowed look before) {x = arranged_behind before keyed} (fine_is last) (arranged_follows look before keyed second.follows)

columns_follow : (look : Look) (words : List ColumnWords) (before next : Altering) → Stands before.parts → run look (add_columns words before) ≡ fine next → IsFollowed look before next
unfolding add_columns
columns_follow look words before next good is =
    let (added, each_added, after_columns) = bind_fine look (over (column_added None) before words) _ next is in
    let (keyed, each_keyed, last) = bind_fine look (over column_keys_added added words) _ next after_columns in
    let first : IsGrowing look before added = over_keeps (IsGrowing look before) look (column_added None) (column_grows look before None) before words added (grows look before good) each_added in
    let second : IsGrowing look before keyed = over_keeps (IsGrowing look before) look column_keys_added (keys_grow look before) added words keyed first each_keyed in
    subst (IsFollowed look before) {x = arranged_behind before keyed} (fine_is last) (arranged_follows look before keyed second.follows)

key_follows : (look : Look) (words : KeyWords) (state next : Altering) → Stands state.parts → run look (add_key words state) ≡ fine next → IsFollowed look state next
unfolding add_key
key_follows look words state next good is =
    let (parts, made, last) = bind_fine look (key_added state.nulls state.parts words) _ next is in
    let added : IsKeyed state.parts parts = key_is_added look (map null_words state.nulls) state.parts words parts good made in
    let first : IsFollowed look state (with_parts state parts) = table_follows look state (with_parts state parts) (same_keys look state (with_parts state parts) added.name refl added.leads added.foreign_keys) in
    subst (IsFollowed look state) {x = with_parts state (arranged state.parts parts)} (fine_is last)
    (followed_through look state (with_parts state parts) (with_parts state (arranged state.parts parts)) first (table_follows look (with_parts state parts) (with_parts state (arranged state.parts parts)) (arranged_only look state.parts (with_parts state parts))))

foreign_key_follows : (look : Look) (words : FkWords) (state next : Altering) → SeesFormed look → Stands state.parts → run look (add_foreign_key words state) ≡ fine next → IsFollowed look state next
unfolding add_foreign_key
foreign_key_follows look words state next sees good is =
    let (parts, made, last) = bind_fine look (one_foreign_key state.parts words) _ next is in
    let added : IsLinked look state.parts parts = foreign_key_is_added look state.parts words parts good made in
    let key : IsAddedKey look parts added.key = key_is_good look state.parts parts sees added in
    let first : IsFollowed look state (with_parts state parts) = table_follows look state (with_parts state parts) (record {
      name = added.name;
      children = refl;
      leads = added.leads;
      keys = λ p new all. ap (list_all p) added.foreign_keys ∙ put_all p added.key state.parts.foreign_keys (new added.key key) all;
    }) in
    subst (IsFollowed look state) {x = with_parts state (arranged state.parts parts)} (fine_is last)
    (followed_through look state (with_parts state parts) (with_parts state (arranged state.parts parts)) first (table_follows look (with_parts state parts) (with_parts state (arranged state.parts parts)) (arranged_only look state.parts (with_parts state parts))))

-- ## A column by another name

not_among : (from to : List ℕ) (names : List (List ℕ)) → is_among_names names from ≡ false → map (renamed_name from to) names ≡ names
not_among from to [] none = refl
not_among from to (name ∷ names) none =
    let (first, rest) = or_parts (bytes_eq from name) (is_among_names names from) none in
    let same : renamed_name from to name ≡ name = on (bytes_eq name from) refl first in
    ap (λ n. n ∷ map (renamed_name from to) names) same ∙ ap (λ (ns : List (List ℕ)). name ∷ ns) (not_among from to names rest)
  where
    on : (b : Bool) → bytes_eq name from ≡ b → bytes_eq from name ≡ false → (if b then to else name) ≡ name
    on true is apart = absurd (true≢false (sym (bytes_same from name (sym (bytes_are name from is))) ∙ apart))
    on false is apart = refl

key_led : (table : ObjName) (from to : List ℕ) (indexes : List IndexDef) (key : ForeignKeyDef) → is_led table indexes key ≡ true → is_led table (map (renamed_index from to) indexes) (with_parent_renamed table from to key) ≡ true
key_led table from to indexes key led = cond_both (is_same_object key.parent table) (record key { parent_columns = map (renamed_name from to) key.parent_columns }) key (λ (k : ForeignKeyDef). is_led table (map (renamed_index from to) indexes) k ≡ true)
    (λ same. or_right (not (is_same_object key.parent table)) (has_index_on (map (renamed_index from to) indexes) (map (renamed_name from to) key.parent_columns))
    (leads_renamed from to indexes key.parent_columns (sym (ap (λ b. not b || has_index_on indexes key.parent_columns) same) ∙ led)))
    (λ other. or_left (not (is_same_object key.parent table)) (has_index_on (map (renamed_index from to) indexes) key.parent_columns) (not_from_false (is_same_object key.parent table) other))

untouched_led : (table : ObjName) (from to : List ℕ) (indexes : List IndexDef) (key : ForeignKeyDef) → refers_to_column table from key ≡ false → is_led table indexes key ≡ true → is_led table (map (renamed_index from to) indexes) key ≡ true
untouched_led table from to indexes key untouched led = elim (cases_Bool (is_same_object key.parent table)) [
  | inl same ↦
      let apart : is_among_names key.parent_columns from ≡ false = sym (ap (λ b. b && is_among_names key.parent_columns from) same) ∙ untouched in
      let has : has_index_on indexes key.parent_columns ≡ true = sym (ap (λ b. not b || has_index_on indexes key.parent_columns) same) ∙ led in
      or_right (not (is_same_object key.parent table)) (has_index_on (map (renamed_index from to) indexes) key.parent_columns)
      (ap (has_index_on (map (renamed_index from to) indexes)) (sym (not_among from to key.parent_columns apart)) ∙ leads_renamed from to indexes key.parent_columns has)
  | inr other ↦ or_left (not (is_same_object key.parent table)) (has_index_on (map (renamed_index from to) indexes) key.parent_columns) (not_from_false (is_same_object key.parent table) other)
]

keys_untouched : (table : ObjName) (from to : List ℕ) (indexes : List IndexDef) (keys : List ForeignKeyDef) → list_any (refers_to_column table from) keys ≡ false → are_led table indexes keys ≡ true → are_led table (map (renamed_index from to) indexes) keys ≡ true
keys_untouched table from to indexes [] none led = refl
keys_untouched table from to indexes (key ∷ keys) none led =
    let (first, rest) = or_parts (refers_to_column table from key) (list_any (refers_to_column table from) keys) none in
    let (here, later) = and_parts (is_led table indexes key) (are_led table indexes keys) led in
    and_from (is_led table (map (renamed_index from to) indexes) key) (are_led table (map (renamed_index from to) indexes) keys) (untouched_led table from to indexes key first here) (keys_untouched table from to indexes keys rest later)

child_led : (table : ObjName) (from to : List ℕ) (indexes : List IndexDef) (child : Child) → are_led table indexes child.parts.foreign_keys ≡ true → are_led table (map (renamed_index from to) indexes) (child_renamed table from to child).parts.foreign_keys ≡ true
child_led table from to indexes child led = cond_both (is_child_touched table from child) (record child { parts = with_keys_renamed table from to child.parts; is_changed = true }) child
    (λ (c : Child). are_led table (map (renamed_index from to) indexes) c.parts.foreign_keys ≡ true)
    (λ _. all_map (is_led table (map (renamed_index from to) indexes)) (with_parent_renamed table from to) child.parts.foreign_keys
    ∙ all_weaker (is_led table indexes) (λ k. is_led table (map (renamed_index from to) indexes) (with_parent_renamed table from to k)) (key_led table from to indexes) child.parts.foreign_keys led)
    (λ untouched. keys_untouched table from to indexes child.parts.foreign_keys untouched led)

children_led : (table : ObjName) (from to : List ℕ) (indexes : List IndexDef) (children : List Child) → AllByRecursion (λ (child : Child). are_led table indexes child.parts.foreign_keys ≡ true) children
    → AllByRecursion (λ (child : Child). are_led table (map (renamed_index from to) indexes) child.parts.foreign_keys ≡ true) (map (child_renamed table from to) children)
children_led table from to indexes [] all = tt
children_led table from to indexes (child ∷ children) all = (child_led table from to indexes child all.0, children_led table from to indexes children all.1)

own_grounded : (look : Look) (table : ObjName) (from to : List ℕ) (key : ForeignKeyDef) → is_grounded look table key ≡ true → is_grounded look table (own_key_renamed table from to key) ≡ true
own_grounded look table from to key grounded = cond_both (is_same_object key.parent table) (record (record key { columns = map (renamed_name from to) key.columns }) { parent_columns = map (renamed_name from to) key.parent_columns }) (record key { columns = map (renamed_name from to) key.columns })
    (λ (k : ForeignKeyDef). is_grounded look table k ≡ true)
    (λ same.
    let (unowned, _) = and_parts (is_unowned table (look (keys.Constraint table.schema (fold key.name)))) (is_same_object key.parent table || has_parent_index key (look (keys.Object key.parent))) grounded in
    let changed_key : ForeignKeyDef = record (record key { columns = map (renamed_name from to) key.columns }) { parent_columns = map (renamed_name from to) key.parent_columns } in
    and_from (is_unowned table (look (keys.Constraint table.schema (fold key.name)))) (is_same_object key.parent table || has_parent_index changed_key (look (keys.Object key.parent))) unowned
    (or_left (is_same_object key.parent table) (has_parent_index changed_key (look (keys.Object key.parent))) same))
    (λ _. grounded)

all_follow : (look : Look) (from to : List ℕ) (state : Altering) → IsFollowed look state (all_renamed from to state)
all_follow look from to state = record {
  name = refl;
  led = λ led. record {
    own = all_map (is_led state.parts.name (map (renamed_index from to) state.parts.indexes)) (own_key_renamed state.parts.name from to) state.parts.foreign_keys
        ∙ all_weaker (is_led state.parts.name state.parts.indexes) (λ k. is_led state.parts.name (map (renamed_index from to) state.parts.indexes) (own_key_renamed state.parts.name from to k))
        (λ k is. key_led state.parts.name from to state.parts.indexes (record k { columns = map (renamed_name from to) k.columns }) is) state.parts.foreign_keys led.own;
    children = children_led state.parts.name from to state.parts.indexes state.children led.children;
  };
  grounded = λ grounded. record {
    own = all_map (is_grounded look state.parts.name) (own_key_renamed state.parts.name from to) state.parts.foreign_keys
        ∙ all_weaker (is_grounded look state.parts.name) (λ k. is_grounded look state.parts.name (own_key_renamed state.parts.name from to k)) (own_grounded look state.parts.name from to) state.parts.foreign_keys grounded.own;
  };
  children = children_are_renamed state.parts.name from to state.children;
}

renamed_follows : (look : Look) (from to : List ℕ) (state : Altering) → IsFollowed look state (column_renamed from to state)
unfolding column_renamed
renamed_follows look from to state = cond_both (bytes_eq from to) state (all_renamed from to state) (IsFollowed look state) (λ _. followed_itself look state) (λ _. all_follow look from to state)

name_follows : (look : Look) (from to : List ℕ) (state next : Altering) → run look (rename_column from to state) ≡ fine next → IsFollowed look state next
unfolding rename_column
name_follows look from to state next is =
    let (old, found, after_old) = bind_fine look (the_name (unknown_column state.parts from) state.parts from) _ next is in
    let (_, new, last) = bind_fine look (refuse_if (has_column (other_columns old state.parts.columns) to) (dup_fieldname to)) _ next after_old in
    subst (IsFollowed look state) (fine_is last) (renamed_follows look old to state)

-- ## A column with another definition

redefined_follows : (look : Look) (old : List ℕ) (words : ColumnWords) (place : Option Place) (made : ColumnDef) (before : Altering) → IsFollowed look before (redefined old words place made before)
unfolding redefined
redefined_follows look old words place made before =
    let renamed : Altering = column_renamed old (null_unless (is_in_primary before.parts.indexes old) made).name before in
    followed_through look before renamed (redefined old words place made before) (renamed_follows look old (null_unless (is_in_primary before.parts.indexes old) made).name before)
    (table_follows look renamed (redefined old words place made before) (same_keys look renamed (redefined old words place made before) refl refl (leads_itself renamed.parts.indexes) refl))

change_follows : (look : Look) (name : List ℕ) (words : ColumnWords) (place : Option Place) (before next : Altering) → StandsInOrder before.parts → run look (change_column name words place before) ≡ fine next → IsFollowed look before next
unfolding change_column changed never_nulled remade
change_follows look name words place before next good is =
    let (old, found, after_old) = bind_fine look (the_name (unknown_column before.parts name) before.parts name) _ next is in
    let (behind, never, last) = bind_fine look (never_nulled old words place before) _ next after_old in
    let (keyed, remade_is, after_made) = bind_fine look (remade old words place before) _ behind never in
    let (_, nulls, same_state) = bind_fine look (refuse_if (is_nulled_key old words before) primary_cant_have_null) _ behind after_made in
    let (made, allowed, keys) = bind_fine look (allowed_change old words place before.parts) _ keyed remade_is in
    let there : is_column before.parts.columns old ≡ true = spelled_is_column before.parts.columns name old (name_is_spelled look (unknown_column before.parts name) before.parts name old found) in
    let may : IsChangeAllowed old words before.parts made = change_is_allowed look old words place before.parts made allowed in
    let new : IsRenaming before.parts.columns old made.name = is_renaming before.parts.columns old made.name good.stands.columns.distinct there (ap (has_column (other_columns old before.parts.columns)) may.name ∙ may.new) in
    let defined : IsRedefined before (redefined old words place made before) = is_redefined old words place made before new good may.fit in
    let first : IsFollowed look before (redefined old words place made before) = redefined_follows look old words place made before in
    let second : IsFollowed look before keyed = followed_through look before (redefined old words place made before) keyed first
    (table_follows look (redefined old words place made before) keyed (keys_only look (redefined old words place made before) words keyed defined.stands keys)) in
    subst (IsFollowed look before) {x = arranged_behind before behind} (fine_is last) (arranged_follows look before behind (subst (IsFollowed look before) (fine_is same_state) second))

-- ## A column less

pub every_all : {A : Type 0} (P : A → Type 0) (look : Look) (check : A → Walk ErrorValue (Unit {0})) → ((x : A) → run look (check x) ≡ fine tt → P x) → (xs : List A) → run look (every check xs) ≡ fine tt → AllByRecursion P xs
every_all P look check gives [] is = tt
every_all P look check gives (x ∷ xs) is =
    let (_, one, rest) = bind_fine look (check x) (λ _. every check xs) tt is in
    (gives x one, every_all P look check gives xs rest)

referring_none : (name : List ℕ) (child : TableParts) (found : Option ForeignKeyDef) → referring_key_refused name child found ≡ None → found ≡ None
referring_none name child None is = refl
referring_none name child (Some key) is = cc

none_refers : (look : Look) (name : List ℕ) (table : ObjName) (column : List ℕ) (parts : TableParts) → run look (refuse_some (refused_by name table column parts)) ≡ fine tt → list_any (refers_to_column table column) parts.foreign_keys ≡ false
none_refers look name table column parts is =
    find_none (refers_to_column table column) parts.foreign_keys (referring_none name parts (find (refers_to_column table column) parts.foreign_keys) (not_refused_some look (refused_by name table column parts) tt is))

-- neither the table nor a child refers to the column
record IsUnused (column : List ℕ) (state : Altering) : Type 0 where
  own : list_any (refers_to_column state.parts.name column) state.parts.foreign_keys ≡ false
  children : AllByRecursion (λ (child : Child). list_any (refers_to_column state.parts.name column) child.parts.foreign_keys ≡ false) state.children

is_unused : (look : Look) (name column : List ℕ) (state : Altering) → run look (allowed_drop name column state) ≡ fine tt → IsUnused column state
unfolding allowed_drop
is_unused look name column state is =
    let (_, more, after_more) = bind_fine look (refuse_if (length state.parts.columns == 1) cant_remove_all_fields) _ tt is in
    let (_, own, after_own) = bind_fine look (refuse_some (refused_by_own name column state.parts.foreign_keys)) _ tt after_more in
    let (_, others, last) = bind_fine look (every (child_allows name state.parts.name column) state.children) (λ _. refuse_some (refused_by name state.parts.name column state.parts)) tt after_own in
    record {
      own = none_refers look name state.parts.name column state.parts last;
      children = every_all (λ (child : Child). list_any (refers_to_column state.parts.name column) child.parts.foreign_keys ≡ false) look (child_allows name state.parts.name column)
          (λ child allows. none_refers look name state.parts.name column child.parts allows) state.children others;
    }

key_without : (table : ObjName) (column : List ℕ) (indexes : List IndexDef) (key : ForeignKeyDef) → 1 ≤ length key.parent_columns → refers_to_column table column key ≡ false → is_led table indexes key ≡ true → is_led table (flat_map (index_without column) indexes) key ≡ true
key_without table column indexes key some unused led = elim (cases_Bool (is_same_object key.parent table)) [
  | inl same ↦
      let apart : is_among_names key.parent_columns column ≡ false = sym (ap (λ b. b && is_among_names key.parent_columns column) same) ∙ unused in
      let has : has_index_on indexes key.parent_columns ≡ true = sym (ap (λ b. not b || has_index_on indexes key.parent_columns) same) ∙ led in
      or_right (not (is_same_object key.parent table)) (has_index_on (flat_map (index_without column) indexes) key.parent_columns) (still_leads column indexes key.parent_columns some apart has)
  | inr other ↦ or_left (not (is_same_object key.parent table)) (has_index_on (flat_map (index_without column) indexes) key.parent_columns) (not_from_false (is_same_object key.parent table) other)
]

some_parents : (columns : List ColumnDef) (indexes : List IndexDef) (key : ForeignKeyDef) → is_foreign_key_formed columns indexes key ≡ true → 1 ≤ length key.parent_columns
some_parents columns indexes key formed =
    let parts : IsKeyFormed columns indexes key = key_parts columns indexes key formed in
    let some : 1 ≤ length key.columns = key_columns_some columns key.columns parts.fits in
    let count : length key.columns ≡ length key.parent_columns = eqb-true (length key.columns) (length key.parent_columns) parts.count in
    omega arith

keys_without : (table : ObjName) (column : List ℕ) (indexes : List IndexDef) (columns : List ColumnDef) (own : List IndexDef) (keys : List ForeignKeyDef) → list_all (is_foreign_key_formed columns own) keys ≡ true → list_any (refers_to_column table column) keys ≡ false
    → are_led table indexes keys ≡ true → are_led table (flat_map (index_without column) indexes) keys ≡ true
keys_without table column indexes columns own [] formed unused led = refl
keys_without table column indexes columns own (key ∷ keys) formed unused led =
    let (here, more) = and_parts (is_foreign_key_formed columns own key) (list_all (is_foreign_key_formed columns own) keys) formed in
    let (first, others) = or_parts (refers_to_column table column key) (list_any (refers_to_column table column) keys) unused in
    let (one, rest) = and_parts (is_led table indexes key) (are_led table indexes keys) led in
    and_from (is_led table (flat_map (index_without column) indexes) key) (are_led table (flat_map (index_without column) indexes) keys)
    (key_without table column indexes key (some_parents columns own key here) first one) (keys_without table column indexes columns own keys more others rest)

children_without : (table : ObjName) (column : List ℕ) (indexes : List IndexDef) (children : List Child) → AllByRecursion (λ (child : Child). IsTableAt child.name child.parts) children
    → AllByRecursion (λ (child : Child). list_any (refers_to_column table column) child.parts.foreign_keys ≡ false) children → AllByRecursion (λ (child : Child). are_led table indexes child.parts.foreign_keys ≡ true) children
    → AllByRecursion (λ (child : Child). are_led table (flat_map (index_without column) indexes) child.parts.foreign_keys ≡ true) children
children_without table column indexes [] formed unused led = tt
children_without table column indexes (child ∷ children) formed unused led = (
  keys_without table column indexes child.parts.columns child.parts.indexes child.parts.foreign_keys (formed_stands child.parts formed.0.formed).stands.keys.formed unused.0 led.0,
  children_without table column indexes children formed.1 unused.1 led.1,
)

without_follows : (look : Look) (column : List ℕ) (state : Altering) → Stands state.parts → AreChildrenFormed state → IsUnused column state → IsFollowed look state (with_parts state (without_column column state.parts))
without_follows look column state good formed unused = record {
  name = refl;
  led = λ led. record {
    own = keys_without state.parts.name column state.parts.indexes state.parts.columns state.parts.indexes state.parts.foreign_keys good.keys.formed unused.own led.own;
    children = children_without state.parts.name column state.parts.indexes state.children formed unused.children led.children;
  };
  grounded = λ grounded. record { own = grounded.own };
  children = children_themselves state.parts.name state.children;
}

-- another list of nulls is no matter of foreign keys
nulls_follow : (look : Look) (state : Altering) (nulls : List (List ℕ)) → IsFollowed look state (record state { nulls = nulls })
nulls_follow look state nulls = record { name = refl; led = λ led. record { own = led.own; children = led.children }; grounded = λ grounded. record { own = grounded.own }; children = children_themselves state.parts.name state.children }

drop_follows : (look : Look) (name : List ℕ) (state next : Altering) → Stands state.parts → AreChildrenFormed state → run look (drop_column name state) ≡ fine next → IsFollowed look state next
unfolding drop_column
drop_follows look name state next good formed is =
    let (column, found, after_column) = bind_fine look (the_name (cant_drop_field_or_key name) state.parts name) _ next is in
    let (_, allowed, last) = bind_fine look (allowed_drop name column state) _ next after_column in
    let mid : Altering = with_parts state (without_column column state.parts) in
    let first : IsFollowed look state (with_parts state (without_column column state.parts)) = without_follows look column state good formed (is_unused look name column state allowed) in
    let behind : Altering = with_parts mid (arranged state.parts mid.parts) in
    subst (IsFollowed look state) {x = dropped column state} (fine_is last)
    (followed_through look state behind (dropped column state) (followed_through look state mid behind first (table_follows look mid behind (arranged_only look state.parts mid))) (nulls_follow look behind (dropped column state).nulls))

-- ## Defaults

default_set_follows : (look : Look) (name : List ℕ) (value : Literal) (state next : Altering) → run look (set_default name value state) ≡ fine next → IsFollowed look state next
unfolding set_default
default_set_follows look name value state next is =
    let (found, made, last) = bind_fine look (default_of name value state.parts) _ next is in
    subst (IsFollowed look state) {x = default_set (is_null (Some value)) found state} (fine_is last)
    (table_follows look state (default_set (is_null (Some value)) found state) (same_keys look state (default_set (is_null (Some value)) found state) refl refl (leads_itself state.parts.indexes) refl))

default_dropped_follows : (look : Look) (name : List ℕ) (state next : Altering) → run look (drop_default name state) ≡ fine next → IsFollowed look state next
unfolding drop_default
default_dropped_follows look name state next is =
    let (column, found, last) = bind_fine look (the_name (unknown_column state.parts name) state.parts name) _ next is in
    subst (IsFollowed look state) {x = with_parts state (with_default column None state.parts)} (fine_is last)
    (table_follows look state (with_parts state (with_default column None state.parts)) (same_keys look state (with_parts state (with_default column None state.parts)) refl refl (leads_itself state.parts.indexes) refl))

-- ## Indexes

keys_lead : (table : ObjName) (indexes : List IndexDef) (keys : List ForeignKeyDef) → list_any (lacks_parent_index table indexes) keys ≡ false → are_led table indexes keys ≡ true
keys_lead table indexes [] none = refl
keys_lead table indexes (key ∷ keys) none =
    let (first, rest) = or_parts (lacks_parent_index table indexes key) (list_any (lacks_parent_index table indexes) keys) none in
    and_from (is_led table indexes key) (are_led table indexes keys) (on (is_same_object key.parent table) (has_index_on indexes key.parent_columns) first) (keys_lead table indexes keys rest)
  where
    on : (same has : Bool) → (same && not has) ≡ false → (not same || has) ≡ true
    on true true none = refl
    on true false none = cc
    on false has none = refl

children_lead : (table : ObjName) (indexes : List IndexDef) (children : List Child) → list_any (λ (child : Child). list_any (lacks_parent_index table indexes) child.parts.foreign_keys) children ≡ false → AllByRecursion (λ (child : Child). are_led table indexes child.parts.foreign_keys ≡ true) children
children_lead table indexes [] none = tt
children_lead table indexes (child ∷ children) none =
    let (first, rest) = or_parts (list_any (lacks_parent_index table indexes) child.parts.foreign_keys) (list_any (λ (c : Child). list_any (lacks_parent_index table indexes) c.parts.foreign_keys) children) none in
    (keys_lead table indexes child.parts.foreign_keys first, children_lead table indexes children rest)

still_led : (state : Altering) (indexes : List IndexDef) → is_index_lacking state indexes ≡ false → IsLed (with_parts state (record state.parts { indexes = indexes }))
unfolding is_index_lacking
still_led state indexes none =
    let (_, referring) = or_parts (list_any (lacks_index indexes) state.parts.foreign_keys) (any_referring (λ (parts : TableParts). list_any (lacks_parent_index state.parts.name indexes) parts.foreign_keys) state) none in
    let (children, own) = or_parts (list_any (λ (child : Child). list_any (lacks_parent_index state.parts.name indexes) child.parts.foreign_keys) state.children) (list_any (lacks_parent_index state.parts.name indexes) state.parts.foreign_keys) referring in
    record { own = keys_lead state.parts.name indexes state.parts.foreign_keys own; children = children_lead state.parts.name indexes state.children children }

index_dropped_follows : (look : Look) (name : List ℕ) (state next : Altering) → run look (drop_index name state) ≡ fine next → IsFollowed look state next
unfolding drop_index
index_dropped_follows look name state next is =
    let (_, there, after_index) = bind_fine look (the_index state.parts name) _ next is in
    let (_, lacks, last) = bind_fine look (refuse_if (is_index_lacking state (other_indexes name state.parts.indexes)) (drop_index_fk name)) _ next after_index in
    let none = not_refused look (is_index_lacking state (other_indexes name state.parts.indexes)) (drop_index_fk name) tt lacks in
    subst (IsFollowed look state) {x = with_parts state (record state.parts { indexes = other_indexes name state.parts.indexes })} (fine_is last) (record {
      name = refl;
      led = λ led. still_led state (other_indexes name state.parts.indexes) none;
      grounded = λ grounded. record { own = grounded.own };
      children = children_themselves state.parts.name state.children;
    })

index_renamed_follows : (look : Look) (from to : List ℕ) (state next : Altering) → run look (rename_index from to state) ≡ fine next → IsFollowed look state next
unfolding rename_index
index_renamed_follows look from to state next is =
    let (_, there, after_index) = bind_fine look (the_index state.parts from) _ next is in
    let (_, from_other, after_from) = bind_fine look (not_primary from) _ next after_index in
    let (_, to_other, after_to) = bind_fine look (not_primary to) _ next after_from in
    let (_, new, last) = bind_fine look (refuse_if (has_index_named (other_indexes from state.parts.indexes) to) (dup_keyname to)) _ next after_to in
    let behind : Altering = with_parts state (record state.parts { indexes = map (with_name from to) state.parts.indexes }) in
    subst (IsFollowed look state) {x = with_parts state (record state.parts { indexes = map (with_name from to) state.parts.indexes })} (fine_is last)
    (table_follows look state behind (same_keys look state behind refl refl (record { on = λ names has. named_leads from to state.parts.indexes names ∙ has }) refl))

-- ## Foreign keys less

foreign_key_dropped_follows : (look : Look) (name : List ℕ) (state next : Altering) → run look (drop_foreign_key name state) ≡ fine next → IsFollowed look state next
unfolding drop_foreign_key
foreign_key_dropped_follows look name state next is =
    let (_, there, last) = bind_fine look (refuse_if (not (has_constraint_named state.parts.foreign_keys name)) (cant_drop_field_or_key name)) _ next is in
    let behind : Altering = with_parts state (record state.parts { foreign_keys = other_keys name state.parts.foreign_keys }) in
    subst (IsFollowed look state) {x = with_parts state (record state.parts { foreign_keys = other_keys name state.parts.foreign_keys })} (fine_is last)
    (table_follows look state behind (record {
      name = refl;
      children = refl;
      leads = leads_itself state.parts.indexes;
      keys = λ p added all. filter_all (λ (key : ForeignKeyDef). not (same key.name name)) p state.parts.foreign_keys all;
    }))

-- ## Each action

done_follows : (look : Look) (state next : Altering) → state ≡ next → IsFollowed look state next
done_follows look state next is = subst (IsFollowed look state) is (followed_itself look state)

acted_follows : (look : Look) (action : AlterAction) (state next : Altering) → SeesFormed look → StandsInOrder state.parts → AreChildrenFormed state → run look (acted action state) ≡ fine next → IsFollowed look state next
acted_follows look (actions.AddColumn column place) state next sees good formed is = column_follows look column place state next good.stands is
acted_follows look (actions.AddColumns columns) state next sees good formed is = columns_follow look columns state next good.stands is
acted_follows look (actions.AddKey words) state next sees good formed is = key_follows look words state next good.stands is
acted_follows look (actions.AddForeignKey words) state next sees good formed is = foreign_key_follows look words state next sees good.stands is
acted_follows look (actions.DropColumn name) state next sees good formed is = drop_follows look name state next good.stands formed is
acted_follows look (actions.ModifyColumn column place) state next sees good formed is = change_follows look column.name column place state next good is
acted_follows look (actions.ChangeColumn name column place) state next sees good formed is = change_follows look name column place state next good is
acted_follows look (actions.RenameColumn from to) state next sees good formed is = name_follows look from to state next is
acted_follows look (actions.SetDefault name value) state next sees good formed is = default_set_follows look name value state next is
acted_follows look (actions.DropDefault name) state next sees good formed is = default_dropped_follows look name state next is
acted_follows look (actions.DropIndex name) state next sees good formed is = index_dropped_follows look name state next is
acted_follows look actions.DropPrimaryKey state next sees good formed is = index_dropped_follows look primary_name state next is
acted_follows look (actions.DropForeignKey name) state next sees good formed is = foreign_key_dropped_follows look name state next is
acted_follows look (actions.RenameIndex from to) state next sees good formed is = index_renamed_follows look from to state next is
acted_follows look (actions.RenameTable to) state next sees good formed is = done_follows look state next (fine_is is)
acted_follows look actions.Force state next sees good formed is = done_follows look state next (fine_is is)
acted_follows look actions.Engine state next sees good formed is = done_follows look state next (fine_is is)

rebuilt_follows : (look : Look) (state : Altering) (rebuilt : Bool) → IsFollowed look state (record state { is_rebuilt = rebuilt })
rebuilt_follows look state rebuilt = record { name = refl; led = λ led. record { own = led.own; children = led.children }; grounded = λ grounded. record { own = grounded.own }; children = children_themselves state.parts.name state.children }

pub action_follows : (look : Look) (action : AlterAction) (state next : Altering) → SeesFormed look → StandsInOrder state.parts → AreChildrenFormed state → run look (one_action state action) ≡ fine next → IsFollowed look state next
unfolding one_action
action_follows look action state next sees good formed is =
    let (behind, made, last) = bind_fine look (acted action state) _ next is in
    subst (IsFollowed look state) {x = rebuilt_behind action state behind} (fine_is last)
    (followed_through look state behind (rebuilt_behind action state behind) (acted_follows look action state behind sees good formed made) (rebuilt_follows look behind (rebuilt_behind action state behind).is_rebuilt))
