-- The names in a table that the actions of ALTER TABLE leave are names.
use Rattle.std.specs.Prelude.{◌≡◌, ℕ, Bool, true, false, not, List, [], ◌∷◌, length, map, filter, Option, Some, None, refl}
use Rattle.std.specs.List.{list_all, AllByRecursion}
use Rattle.std.specs.Str.{bytes_eq}
use Rattle.std.proofs.Common.{◌∙◌, ap, subst}
use Rattle.std.proofs.lemmas.Bool.{and_parts, and_from, cond_both}
use Rattle.dd_names.specs.Names.{same, is_name}
use Rattle.dd_names.specs.declared.object_name.ObjName.{ObjName}
use Rattle.sql_types.specs.declared.literal.Literal.{Literal}
use Rattle.sql_types.specs.declared.words.ColumnWords.{ColumnWords}
use Rattle.sql_types.specs.declared.words.FkWords.{FkWords}
use Rattle.sql_ast.specs.Names.{is_key_named}
use Rattle.sql_ast.specs.Names as says
use Rattle.sql_ast.specs.declared.action.AlterAction.{AlterAction}
use Rattle.sql_ast.specs.declared.action.AlterAction.TheVariants as actions
use Rattle.sql_ast.specs.declared.action.Place.{Place}
use Rattle.dd_definitions.specs.Indexes.{primary_name}
use Rattle.dd_definitions.specs.Named.{is_object_named, is_column_named, is_index_named, is_foreign_key_named, has_names}
use Rattle.dd_definitions.specs.declared.columns.ColumnDef.{ColumnDef}
use Rattle.dd_definitions.specs.declared.foreign_keys.ForeignKeyDef.{ForeignKeyDef}
use Rattle.dd_definitions.specs.declared.indexes.IndexDef.{IndexDef}
use Rattle.dd_definitions.specs.declared.parts.TableParts.{TableParts}
use Rattle.dd_catalog.specs.Catalog.{Catalog, all_of, is_same_object}
use Rattle.dd_catalog.specs.Valid.{IsValid}
use Rattle.dd_catalog.specs.Walks.{fine, run, refuse_if, over}
use Rattle.dd_catalog.specs.WalkLaws.{Look}
use Rattle.dd_catalog.specs.Asked.{fine_is, bind_fine}
use Rattle.rules_refusals.specs.Refusals.{cant_drop_field_or_key, dup_fieldname, dup_keyname, primary_cant_have_null}
use Rattle.rules_elements.specs.Columns.{column_of}
use Rattle.rules_elements.specs.ForeignKeys.{has_constraint_named}
use Rattle.rules_elements.specs.Keys.{has_index_named}
use Rattle.rules_create.specs.Tables.{has_column, is_null, one_foreign_key, one_key, own_keys}
use Rattle.rules_create.proofs.Lists.{all_map, all_weaker, filter_all}
use Rattle.rules_alter.specs.Actions.{acted, one_action, rebuilt_behind}
use Rattle.rules_alter.specs.Altering.{all_renamed, child_renamed, column_renamed, is_child_touched, is_named_so, other_columns, own_key_renamed, renamed_column, renamed_index, renamed_name, the_name, unknown_column, with_keys_renamed, with_parent_renamed, with_parts}
use Rattle.rules_alter.specs.Arranged.{arranged}
use Rattle.rules_alter.specs.Columns.{add_column, add_columns, allowed_change, allowed_drop, allowed_place, arranged_behind, change_column, changed, column_added, column_keys_added, column_with_default, default_of, default_set, drop_column, drop_default, dropped, index_or_none, index_without, is_in_primary, is_null_in, is_nulled_key, never_nulled, null_unless, place_at, place_or, put_at, redefined, remade, rename_column, set_default, with_default, with_null, without_column}
use Rattle.rules_alter.specs.ForeignKeys.{add_foreign_key, drop_foreign_key, other_keys}
use Rattle.rules_alter.specs.Keys.{key_added, not_primary, null_words, other_indexes, rename_index, the_index, with_name}
use Rattle.rules_alter.specs.Statements.{within_limits, all_acted}
use Rattle.rules_alter.specs.declared.states.Altering.{Altering}
use Rattle.rules_alter.specs.declared.states.Child.{Child}
use Rattle.rules_alter_laws.proofs.Arranged.{is_arranged}
use Rattle.rules_alter_laws.proofs.Lists.{alike_all, put_alike}
use Rattle.rules_alter_laws.proofs.Redefined.{IsChangeAllowed, change_is_allowed}
use Rattle.rules_valid.specs.Altered.{is_action_named}
use Rattle.rules_valid.proofs.AlteredNamed.{AreAllNamed, KeepsAllNamed, arranged_named, index_gone_named, key_named}
use Rattle.rules_valid.proofs.MadeNamed.{over_passing, flat_all, AreKeyNames, key_names, foreign_key_named, AreNamed, names_are, named_of, key_keeps, foreign_key_keeps, column_has_name, own_keys_named}

-- ## Columns and keys that are added

put_named : (place : Option Place) (n : ℕ) (column : ColumnDef) (columns : List ColumnDef) → is_name column.name ≡ true → list_all is_column_named columns ≡ true → list_all is_column_named (put_at place n column columns) ≡ true
put_named place n column columns own named = alike_all is_column_named (column ∷ columns) (put_at place n column columns) (put_alike columns (place_or place n columns) column) (and_from (is_name column.name) (list_all is_column_named columns) own named)

column_named : (look : Look) (table : ObjName) (place : Option Place) (state : Altering) (words : ColumnWords) (next : Altering) → says.is_column_named words ≡ true → AreAllNamed table state → run look (column_added place state words) ≡ fine next → AreAllNamed table next
unfolding column_added
column_named look table place state words next said named is =
    let (_, absent, after_name) = bind_fine look (refuse_if (has_column state.parts.columns words.name) (dup_fieldname words.name)) _ next is in
    let (column, made, after_column) = bind_fine look (column_of words) _ next after_name in
    let (_, placed, last) = bind_fine look (allowed_place state.parts state.parts.columns place) _ next after_column in
    let own : is_name column.name ≡ true = ap is_name (column_has_name look words column made) ∙ said in
    let behind : Altering = record state { parts = record state.parts { columns = put_at place (length state.parts.columns) column state.parts.columns }; nulls = with_null (is_null_in words) words.name state.nulls } in
    subst (AreAllNamed table) {x = behind} (fine_is last) (record {
      own = record { name = named.own.name; columns = put_named place (length state.parts.columns) column state.parts.columns own named.own.columns; indexes = named.own.indexes; foreign_keys = named.own.foreign_keys };
      children = named.children;
    })

keys_named : (look : Look) (table : ObjName) (state : Altering) (words : ColumnWords) (next : Altering) → says.is_column_named words ≡ true → AreAllNamed table state → run look (column_keys_added state words) ≡ fine next → AreAllNamed table next
unfolding column_keys_added
keys_named look table state words next said named is =
    let (parts, made, last) = bind_fine look (over (key_added state.nulls) state.parts (own_keys words)) _ next is in
    let more : AreNamed table parts = over_passing (AreNamed table) is_key_named look (one_key (map null_words state.nulls)) (λ s x n says_so so_far one. key_keeps look table (map null_words state.nulls) s x n says_so so_far one) state.parts (own_keys words) parts (own_keys_named words said) named.own made in
    subst (AreAllNamed table) {x = with_parts state parts} (fine_is last) (record { own = more; children = named.children })

arranged_all : (table : ObjName) (before state : Altering) → AreAllNamed table state → AreAllNamed table (arranged_behind before state)
arranged_all table before state named = record { own = arranged_named table state.parts (arranged before.parts state.parts) (is_arranged before.parts state.parts) named.own; children = named.children }

add_named : (look : Look) (table : ObjName) (words : ColumnWords) (place : Option Place) (before next : Altering) → says.is_column_named words ≡ true → AreAllNamed table before → run look (add_column words place before) ≡ fine next → AreAllNamed table next
unfolding add_column
add_named look table words place before next said named is =
    let (added, one, after_column) = bind_fine look (column_added place before words) _ next is in
    let (keyed, keys, last) = bind_fine look (column_keys_added added words) _ next after_column in
    subst (AreAllNamed table) {x = arranged_behind before keyed} (fine_is last) (arranged_all table before keyed (keys_named look table added words keyed said (column_named look table place before words added said named one) keys))

adds_named : (look : Look) (table : ObjName) (words : List ColumnWords) (before next : Altering) → list_all says.is_column_named words ≡ true → AreAllNamed table before → run look (add_columns words before) ≡ fine next → AreAllNamed table next
unfolding add_columns
adds_named look table words before next said named is =
    let (added, each_added, after_columns) = bind_fine look (over (column_added None) before words) _ next is in
    let (keyed, each_keyed, last) = bind_fine look (over column_keys_added added words) _ next after_columns in
    let first : AreAllNamed table added = over_passing (AreAllNamed table) says.is_column_named look (column_added None) (column_named look table None) before words added said named each_added in
    let second : AreAllNamed table keyed = over_passing (AreAllNamed table) says.is_column_named look column_keys_added (keys_named look table) added words keyed said first each_keyed in
    subst (AreAllNamed table) {x = arranged_behind before keyed} (fine_is last) (arranged_all table before keyed second)

foreign_key_more_named : (cat : Catalog) → IsValid cat → (table : ObjName) (words : FkWords) (state next : Altering) → is_object_named table ≡ true → says.is_foreign_key_named words ≡ true → AreAllNamed table state → run (all_of cat) (add_foreign_key words state) ≡ fine next → AreAllNamed table next
unfolding add_foreign_key
foreign_key_more_named cat valid table words state next own said named is =
    let (parts, made, last) = bind_fine (all_of cat) (one_foreign_key state.parts words) _ next is in
    let more : AreNamed table parts = foreign_key_keeps cat table valid own state.parts words parts said named.own made in
    subst (AreAllNamed table) {x = with_parts state (arranged state.parts parts)} (fine_is last) (record { own = arranged_named table parts (arranged state.parts parts) (is_arranged state.parts parts) more; children = named.children })

-- ## A column less

index_less_named : (column : List ℕ) (index : IndexDef) → is_index_named index ≡ true → list_all is_index_named (index_without column index) ≡ true
index_less_named column index named =
    let (own, columns) = and_parts (is_name index.name) (list_all is_name index.columns) named in
    on own (filter (λ name. not (bytes_eq name column)) index.columns) (filter_all (λ name. not (bytes_eq name column)) is_name index.columns columns)
  where
    on : is_name index.name ≡ true → (rest : List (List ℕ)) → list_all is_name rest ≡ true → list_all is_index_named (index_or_none index rest) ≡ true
    on own [] all = refl
    on own (name ∷ names) all = and_from (is_index_named (record index { columns = name ∷ names })) true (and_from (is_name index.name) (list_all is_name (name ∷ names)) own all) refl

drop_named : (look : Look) (table : ObjName) (name : List ℕ) (state next : Altering) → AreAllNamed table state → run look (drop_column name state) ≡ fine next → AreAllNamed table next
unfolding drop_column
drop_named look table name state next named is =
    let (column, found, after_column) = bind_fine look (the_name (cant_drop_field_or_key name) state.parts name) _ next is in
    let (_, allowed, last) = bind_fine look (allowed_drop name column state) _ next after_column in
    let less : AreNamed table (without_column column state.parts) = record {
      name = named.own.name;
      columns = filter_all (λ c. not (is_named_so column c)) is_column_named state.parts.columns named.own.columns;
      indexes = flat_all is_index_named is_index_named (index_without column) (index_less_named column) state.parts.indexes named.own.indexes;
      foreign_keys = named.own.foreign_keys;
    } in
    subst (AreAllNamed table) {x = dropped column state} (fine_is last)
    (record { own = arranged_named table (without_column column state.parts) (arranged state.parts (without_column column state.parts)) (is_arranged state.parts (without_column column state.parts)) less; children = named.children })

-- ## A column by another name

name_is_one : (from to name : List ℕ) → is_name to ≡ true → is_name name ≡ true → is_name (renamed_name from to name) ≡ true
name_is_one from to name new named = cond_both (bytes_eq name from) to name (λ n. is_name n ≡ true) (λ _. new) (λ _. named)

names_are_ones : (from to : List ℕ) (names : List (List ℕ)) → is_name to ≡ true → list_all is_name names ≡ true → list_all is_name (map (renamed_name from to) names) ≡ true
names_are_ones from to names new all = all_map is_name (renamed_name from to) names ∙ all_weaker is_name (λ n. is_name (renamed_name from to n)) (λ n is. name_is_one from to n new is) names all

parent_named_so : (table : ObjName) (from to : List ℕ) (key : ForeignKeyDef) → is_name to ≡ true → is_foreign_key_named key ≡ true → is_foreign_key_named (with_parent_renamed table from to key) ≡ true
parent_named_so table from to key new named =
    let are : AreKeyNames key = key_names key named in
    cond_both (is_same_object key.parent table) (record key { parent_columns = map (renamed_name from to) key.parent_columns }) key (λ (k : ForeignKeyDef). is_foreign_key_named k ≡ true)
    (λ _. foreign_key_named (record key { parent_columns = map (renamed_name from to) key.parent_columns }) are.name are.columns are.parent (names_are_ones from to key.parent_columns new are.parent_columns)) (λ _. named)

own_key_named_so : (table : ObjName) (from to : List ℕ) (key : ForeignKeyDef) → is_name to ≡ true → is_foreign_key_named key ≡ true → is_foreign_key_named (own_key_renamed table from to key) ≡ true
own_key_named_so table from to key new named =
    let are : AreKeyNames key = key_names key named in
    parent_named_so table from to (record key { columns = map (renamed_name from to) key.columns }) new
    (foreign_key_named (record key { columns = map (renamed_name from to) key.columns }) are.name (names_are_ones from to key.columns new are.columns) are.parent are.parent_columns)

index_named_so : (from to : List ℕ) (index : IndexDef) → is_name to ≡ true → is_index_named index ≡ true → is_index_named (renamed_index from to index) ≡ true
index_named_so from to index new named =
    let (own, columns) = and_parts (is_name index.name) (list_all is_name index.columns) named in
    and_from (is_name index.name) (list_all is_name (map (renamed_name from to) index.columns)) own (names_are_ones from to index.columns new columns)

child_keys_named : (table : ObjName) (from to : List ℕ) (parts : TableParts) → is_name to ≡ true → has_names parts ≡ true → has_names (with_keys_renamed table from to parts) ≡ true
child_keys_named table from to parts new named =
    let (own, are) = named_of parts named in
    names_are parts.name (with_keys_renamed table from to parts) own (record {
      name = refl;
      columns = are.columns;
      indexes = are.indexes;
      foreign_keys = all_map is_foreign_key_named (with_parent_renamed table from to) parts.foreign_keys
          ∙ all_weaker is_foreign_key_named (λ k. is_foreign_key_named (with_parent_renamed table from to k)) (λ k is. parent_named_so table from to k new is) parts.foreign_keys are.foreign_keys;
    })

children_named : (table : ObjName) (from to : List ℕ) (children : List Child) → is_name to ≡ true → AllByRecursion (λ (child : Child). has_names child.parts ≡ true) children → AllByRecursion (λ (child : Child). has_names child.parts ≡ true) (map (child_renamed table from to) children)
children_named table from to [] new all = tt
children_named table from to (child ∷ children) new all = (
  cond_both (is_child_touched table from child) (record child { parts = with_keys_renamed table from to child.parts; is_changed = true }) child (λ (c : Child). has_names c.parts ≡ true) (λ _. child_keys_named table from to child.parts new all.0) (λ _. all.0),
  children_named table from to children new all.1,
)

renamed_named : (table : ObjName) (from to : List ℕ) (state : Altering) → is_name to ≡ true → AreAllNamed table state → AreAllNamed table (column_renamed from to state)
unfolding column_renamed
renamed_named table from to state new named = cond_both (bytes_eq from to) state (all_renamed from to state) (AreAllNamed table) (λ _. named) (λ _. record {
  own = record {
    name = named.own.name;
    columns = all_map is_column_named (renamed_column from to) state.parts.columns ∙ all_weaker is_column_named (λ c. is_column_named (renamed_column from to c)) (λ c is. name_is_one from to c.name new is) state.parts.columns named.own.columns;
    indexes = all_map is_index_named (renamed_index from to) state.parts.indexes ∙ all_weaker is_index_named (λ i. is_index_named (renamed_index from to i)) (λ i is. index_named_so from to i new is) state.parts.indexes named.own.indexes;
    foreign_keys = all_map is_foreign_key_named (own_key_renamed state.parts.name from to) state.parts.foreign_keys
        ∙ all_weaker is_foreign_key_named (λ k. is_foreign_key_named (own_key_renamed state.parts.name from to k)) (λ k is. own_key_named_so state.parts.name from to k new is) state.parts.foreign_keys named.own.foreign_keys;
  };
  children = children_named state.parts.name from to state.children new named.children;
})

rename_named : (look : Look) (table : ObjName) (from to : List ℕ) (state next : Altering) → is_name to ≡ true → AreAllNamed table state → run look (rename_column from to state) ≡ fine next → AreAllNamed table next
unfolding rename_column
rename_named look table from to state next new named is =
    let (old, found, after_old) = bind_fine look (the_name (unknown_column state.parts from) state.parts from) _ next is in
    let (_, absent, last) = bind_fine look (refuse_if (has_column (other_columns old state.parts.columns) to) (dup_fieldname to)) _ next after_old in
    subst (AreAllNamed table) (fine_is last) (renamed_named table old to state new named)

-- ## A column with another definition

unless_name : (is_key : Bool) (column : ColumnDef) → (null_unless is_key column).name ≡ column.name
unless_name true column = refl
unless_name false column = refl

redefined_named : (table : ObjName) (old : List ℕ) (words : ColumnWords) (place : Option Place) (made : ColumnDef) (before : Altering) → is_name made.name ≡ true → AreAllNamed table before → AreAllNamed table (redefined old words place made before)
unfolding redefined
redefined_named table old words place made before new named =
    let column : ColumnDef = null_unless (is_in_primary before.parts.indexes old) made in
    let own : is_name column.name ≡ true = ap is_name (unless_name (is_in_primary before.parts.indexes old) made) ∙ new in
    let renamed : Altering = column_renamed old column.name before in
    let first : AreAllNamed table renamed = renamed_named table old column.name before own named in
    record {
      own = record {
        name = first.own.name;
        columns = put_named place (place_at column.name renamed.parts.columns) column (other_columns column.name renamed.parts.columns) own (filter_all (λ c. not (is_named_so column.name c)) is_column_named renamed.parts.columns first.own.columns);
        indexes = first.own.indexes;
        foreign_keys = first.own.foreign_keys;
      };
      children = first.children;
    }

change_named : (look : Look) (table : ObjName) (name : List ℕ) (words : ColumnWords) (place : Option Place) (before next : Altering) → says.is_column_named words ≡ true → AreAllNamed table before → run look (change_column name words place before) ≡ fine next → AreAllNamed table next
unfolding change_column changed never_nulled remade
change_named look table name words place before next said named is =
    let (old, found, after_old) = bind_fine look (the_name (unknown_column before.parts name) before.parts name) _ next is in
    let (behind, never, last) = bind_fine look (never_nulled old words place before) _ next after_old in
    let (keyed, remade_is, after_made) = bind_fine look (remade old words place before) _ behind never in
    let (_, nulls, same_state) = bind_fine look (refuse_if (is_nulled_key old words before) primary_cant_have_null) _ behind after_made in
    let (made, allowed, keys) = bind_fine look (allowed_change old words place before.parts) _ keyed remade_is in
    let may : IsChangeAllowed old words before.parts made = change_is_allowed look old words place before.parts made allowed in
    let first : AreAllNamed table (redefined old words place made before) = redefined_named table old words place made before (ap is_name may.name ∙ said) named in
    let second : AreAllNamed table keyed = keys_named look table (redefined old words place made before) words keyed said first keys in
    subst (AreAllNamed table) {x = arranged_behind before behind} (fine_is last) (arranged_all table before behind (subst (AreAllNamed table) (fine_is same_state) second))

-- ## Defaults, indexes and foreign keys

default_keeps_name : (name : List ℕ) (default : Option (List ℕ)) (column : ColumnDef) → is_column_named column ≡ true → is_column_named (column_with_default name default column) ≡ true
default_keeps_name name default column named = cond_both (bytes_eq column.name name) (record column { default = default }) column (λ (c : ColumnDef). is_column_named c ≡ true) (λ _. named) (λ _. named)

default_named : (table : ObjName) (name : List ℕ) (default : Option (List ℕ)) (parts : TableParts) → AreNamed table parts → AreNamed table (with_default name default parts)
default_named table name default parts named = record {
  name = named.name;
  columns = all_map is_column_named (column_with_default name default) parts.columns ∙ all_weaker is_column_named (λ c. is_column_named (column_with_default name default c)) (default_keeps_name name default) parts.columns named.columns;
  indexes = named.indexes;
  foreign_keys = named.foreign_keys;
}

default_set_named : (look : Look) (table : ObjName) (name : List ℕ) (value : Literal) (state next : Altering) → AreAllNamed table state → run look (set_default name value state) ≡ fine next → AreAllNamed table next
unfolding set_default
default_set_named look table name value state next named is =
    let (found, made, last) = bind_fine look (default_of name value state.parts) _ next is in
    subst (AreAllNamed table) {x = default_set (is_null (Some value)) found state} (fine_is last) (record { own = default_named table found.0 found.1 state.parts named.own; children = named.children })

default_dropped_named : (look : Look) (table : ObjName) (name : List ℕ) (state next : Altering) → AreAllNamed table state → run look (drop_default name state) ≡ fine next → AreAllNamed table next
unfolding drop_default
default_dropped_named look table name state next named is =
    let (column, found, last) = bind_fine look (the_name (unknown_column state.parts name) state.parts name) _ next is in
    subst (AreAllNamed table) {x = with_parts state (with_default column None state.parts)} (fine_is last) (record { own = default_named table column None state.parts named.own; children = named.children })

index_anew : (from to : List ℕ) (index : IndexDef) → is_name to ≡ true → is_index_named index ≡ true → is_index_named (with_name from to index) ≡ true
index_anew from to index new named =
    let (_, columns) = and_parts (is_name index.name) (list_all is_name index.columns) named in
    cond_both (same index.name from) (record index { name = to }) index (λ (i : IndexDef). is_index_named i ≡ true) (λ _. and_from (is_name to) (list_all is_name index.columns) new columns) (λ _. named)

index_renamed_named : (look : Look) (table : ObjName) (from to : List ℕ) (state next : Altering) → is_name to ≡ true → AreAllNamed table state → run look (rename_index from to state) ≡ fine next → AreAllNamed table next
unfolding rename_index
index_renamed_named look table from to state next new named is =
    let (_, there, after_index) = bind_fine look (the_index state.parts from) _ next is in
    let (_, from_other, after_from) = bind_fine look (not_primary from) _ next after_index in
    let (_, to_other, after_to) = bind_fine look (not_primary to) _ next after_from in
    let (_, absent, last) = bind_fine look (refuse_if (has_index_named (other_indexes from state.parts.indexes) to) (dup_keyname to)) _ next after_to in
    subst (AreAllNamed table) {x = with_parts state (record state.parts { indexes = map (with_name from to) state.parts.indexes })} (fine_is last) (record {
      own = record {
        name = named.own.name;
        columns = named.own.columns;
        indexes = all_map is_index_named (with_name from to) state.parts.indexes ∙ all_weaker is_index_named (λ i. is_index_named (with_name from to i)) (λ i is. index_anew from to i new is) state.parts.indexes named.own.indexes;
        foreign_keys = named.own.foreign_keys;
      };
      children = named.children;
    })

foreign_key_gone_named : (look : Look) (table : ObjName) (name : List ℕ) (state next : Altering) → AreAllNamed table state → run look (drop_foreign_key name state) ≡ fine next → AreAllNamed table next
unfolding drop_foreign_key
foreign_key_gone_named look table name state next named is =
    let (_, there, last) = bind_fine look (refuse_if (not (has_constraint_named state.parts.foreign_keys name)) (cant_drop_field_or_key name)) _ next is in
    subst (AreAllNamed table) {x = with_parts state (record state.parts { foreign_keys = other_keys name state.parts.foreign_keys })} (fine_is last) (record {
      own = record { name = named.own.name; columns = named.own.columns; indexes = named.own.indexes; foreign_keys = filter_all (λ (key : ForeignKeyDef). not (same key.name name)) is_foreign_key_named state.parts.foreign_keys named.own.foreign_keys };
      children = named.children;
    })

-- ## Each action

acted_named : (cat : Catalog) → IsValid cat → (table : ObjName) → is_object_named table ≡ true → (action : AlterAction) (state next : Altering) → is_action_named action ≡ true → AreAllNamed table state → run (all_of cat) (acted action state) ≡ fine next → AreAllNamed table next
acted_named cat valid table own (actions.AddColumn column place) state next said named is = add_named (all_of cat) table column place state next said named is
acted_named cat valid table own (actions.AddColumns columns) state next said named is = adds_named (all_of cat) table columns state next said named is
acted_named cat valid table own (actions.AddKey words) state next said named is = key_named (all_of cat) words said table state next named is
acted_named cat valid table own (actions.AddForeignKey words) state next said named is = foreign_key_more_named cat valid table words state next own said named is
acted_named cat valid table own (actions.DropColumn name) state next said named is = drop_named (all_of cat) table name state next named is
acted_named cat valid table own (actions.ModifyColumn column place) state next said named is = change_named (all_of cat) table column.name column place state next said named is
acted_named cat valid table own (actions.ChangeColumn name column place) state next said named is = change_named (all_of cat) table name column place state next said named is
acted_named cat valid table own (actions.RenameColumn from to) state next said named is = rename_named (all_of cat) table from to state next said named is
acted_named cat valid table own (actions.SetDefault name value) state next said named is = default_set_named (all_of cat) table name value state next named is
acted_named cat valid table own (actions.DropDefault name) state next said named is = default_dropped_named (all_of cat) table name state next named is
acted_named cat valid table own (actions.DropIndex name) state next said named is = index_gone_named (all_of cat) name table state next named is
acted_named cat valid table own actions.DropPrimaryKey state next said named is = index_gone_named (all_of cat) primary_name table state next named is
acted_named cat valid table own (actions.DropForeignKey name) state next said named is = foreign_key_gone_named (all_of cat) table name state next named is
acted_named cat valid table own (actions.RenameIndex from to) state next said named is = index_renamed_named (all_of cat) table from to state next said named is
acted_named cat valid table own (actions.RenameTable to) state next said named is = subst (AreAllNamed table) (fine_is is) named
acted_named cat valid table own actions.Force state next said named is = subst (AreAllNamed table) (fine_is is) named
acted_named cat valid table own actions.Engine state next said named is = subst (AreAllNamed table) (fine_is is) named

action_named : (cat : Catalog) → IsValid cat → (table : ObjName) → is_object_named table ≡ true → (state : Altering) (action : AlterAction) (next : Altering) → is_action_named action ≡ true → AreAllNamed table state → run (all_of cat) (one_action state action) ≡ fine next → AreAllNamed table next
unfolding one_action
action_named cat valid table own state action next said named is =
    let (behind, made, last) = bind_fine (all_of cat) (acted action state) _ next is in
    let kept : AreAllNamed table behind = acted_named cat valid table own action state behind said named made in
    subst (AreAllNamed table) {x = rebuilt_behind action state behind} (fine_is last) (record { own = kept.own; children = kept.children })

pub actions_named : (cat : Catalog) → IsValid cat → (acts : List AlterAction) → list_all is_action_named acts ≡ true → KeepsAllNamed (all_of cat) acts
unfolding all_acted
actions_named cat valid acts said = record {
  kept = λ table start state own named is.
      let (behind, acted_all, after_acts) = bind_fine (all_of cat) (over one_action start acts) _ state is in
      let (x, limits, last) = bind_fine (all_of cat) (within_limits behind) _ state after_acts in
      subst (AreAllNamed table) (fine_is last) (over_passing (AreAllNamed table) is_action_named (all_of cat) one_action (action_named cat valid table own) start acts behind said named acted_all);
}
