-- A table one of whose columns has another definition.
use Rattle.std.specs.Prelude.{◌≡◌, ◌⊎◌, ℕ, Bool, true, false, cond, ◌&&◌, ◌||◌, not, List, [], ◌∷◌, map, Option, refl}
use Rattle.std.specs.List.{list_any, list_all}
use Rattle.std.specs.Option.{is_none}
use Rattle.std.specs.Str.{bytes_eq}
use Rattle.std.proofs.Common.{sym, ◌∙◌, ap, subst, inl, inr}
use Rattle.std.proofs.lemmas.Bool.{true≢false, and_parts, and_from, and_right, or_cases, or_parts, or_from, or_left, or_right, not-true, not_from_false, false_from_ne_true, cases_Bool, cond_both}
use Rattle.dd_names.specs.Names.{same}
use Rattle.sql_types.specs.declared.words.ColumnWords.{ColumnWords}
use Rattle.sql_ast.specs.declared.action.Place.{Place}
use Rattle.dd_definitions.specs.Columns.{is_typed, is_column, is_nullable}
use Rattle.dd_definitions.specs.Indexes.{is_primary, is_secondary, is_integer, is_never_null, has_nullable, is_index_formed}
use Rattle.dd_definitions.specs.declared.columns.ColumnDef.{ColumnDef}
use Rattle.dd_definitions.specs.declared.indexes.IndexDef.{IndexDef}
use Rattle.dd_definitions.specs.declared.parts.TableParts.{TableParts}
use Rattle.dd_catalog.specs.Walks.{fine, run, refuse_if, over}
use Rattle.dd_catalog.specs.WalkLaws.{Look}
use Rattle.dd_catalog.specs.Asked.{fine_is, bind_fine}
use Rattle.rules_refusals.specs.Refusals.{dup_fieldname, primary_cant_have_null}
use Rattle.rules_elements.specs.Columns.{column_of}
use Rattle.rules_elements_laws.specs.Taken.{IsFit}
use Rattle.rules_elements_laws.proofs.ColumnsFit.{columns_are_fit}
use Rattle.rules_create.specs.Tables.{has_column, own_keys}
use Rattle.rules_create.proofs.FoldedNames.{column_has_name}
use Rattle.rules_create.proofs.Lists.{all_weaker, none_of, filter_passes, any_map}
use Rattle.rules_create.proofs.Names.{bytes_are, bytes_same, not_refused}
use Rattle.rules_alter.specs.Altering.{all_renamed, column_renamed, is_among_names, is_named_so, other_columns, renamed_column, renamed_index, renamed_name, the_name, unknown_column, with_parts}
use Rattle.rules_alter.specs.Columns.{allowed_change, allowed_place, arranged_behind, change_column, changed, column_changed, column_keys_added, is_in_primary, is_null_in, is_nulled_key, never_nulled, null_unless, place_at, place_or, redefined, remade, with_definition}
use Rattle.rules_alter.specs.Keys.{key_added, null_words}
use Rattle.rules_alter.specs.declared.states.Altering.{Altering}
use Rattle.rules_alter_laws.specs.Stands.{Stands, StandsInOrder}
use Rattle.rules_alter_laws.proofs.AddedColumns.{IsWithColumn, with_column_stands, with_column_some, with_column_names}
use Rattle.rules_alter_laws.proofs.AddedKeys.{IsKeyed, keys_are_added}
use Rattle.rules_alter_laws.proofs.Dropped.{name_is_spelled, spelled_is_column, others_stand, other_stays, nulls_of_others, apart_from}
use Rattle.rules_alter_laws.proofs.Kept.{KeepNames, columns_there, key_columns_stay, IsIndexFormed, index_parts, index_from, leads_itself, keys_stay}
use Rattle.rules_alter_laws.proofs.Lists.{alike_any, alike_turned, put_alike}
use Rattle.rules_alter_laws.proofs.Mapped.{same_any_where}
use Rattle.rules_alter_laws.proofs.Ordered.{AreChildrenFormed, IsBehind, arranged_is_behind}
use Rattle.rules_alter_laws.proofs.Renamed.{IsRenaming, is_renaming, same_bytes, renamed_is_column, renamed_behind}

-- ## The definition among the other columns

pub both_pass : {X : Type 0} (p q : X → Bool) (xs : List X) → list_all p xs ≡ true → list_all q xs ≡ true → list_all (λ x. p x && q x) xs ≡ true
both_pass p q [] one other = refl
both_pass p q (x ∷ xs) one other =
    let (first, rest) = and_parts (p x) (list_all p xs) one in
    let (second, others) = and_parts (q x) (list_all q xs) other in
    and_from (p x && q x) (list_all (λ y. p y && q y) xs) (and_from (p x) (q x) first second) (both_pass p q xs rest others)

none_of_others : (name : List ℕ) (columns : List ColumnDef) → has_column (other_columns name columns) name ≡ false
none_of_others name columns =
    none_of (λ c. not (is_named_so name c)) (λ (c : ColumnDef). same c.name name) (λ c is. not-true (same c.name name) is) (other_columns name columns) (filter_passes (λ c. not (is_named_so name c)) columns)

defined_with : (place : Option Place) (column : ColumnDef) (columns : List ColumnDef) → IsWithColumn (other_columns column.name columns) column (with_definition place column columns)
defined_with place column columns = record {
  alike = put_alike (other_columns column.name columns) (place_or place (place_at column.name columns) (other_columns column.name columns)) column;
  new = none_of_others column.name columns;
}

-- a column of this name is there, and another definition takes its place
record IsDefined (columns : List ColumnDef) (column : ColumnDef) (next : List ColumnDef) : Type 0 where
  there : is_column columns column.name ≡ true
  more : IsWithColumn (other_columns column.name columns) column next

defined_names : (columns : List ColumnDef) (column : ColumnDef) (next : List ColumnDef) → IsDefined columns column next → ((name : List ℕ) → is_column columns name ≡ true → bytes_eq name column.name ≡ false → same name column.name ≡ false) → KeepNames columns next
unfolding is_column
defined_names columns column next defined apart = record {
  there = λ name is. elim (cases_Bool (bytes_eq name column.name)) [
    | inl here ↦
        alike_any (λ (c : ColumnDef). bytes_eq c.name name) (column ∷ other_columns column.name columns) next defined.more.alike
        (or_left (bytes_eq column.name name) (list_any (λ (c : ColumnDef). bytes_eq c.name name) (other_columns column.name columns)) (bytes_same column.name name (sym (bytes_are name column.name here))))
    | inr other ↦ (with_column_names (other_columns column.name columns) column next defined.more).there name (other_stays column.name name columns is (apart name is other))
  ];
}

null_is : (columns : List ColumnDef) (column : ColumnDef) (next : List ColumnDef) (name : List ℕ) → IsDefined columns column next → is_nullable next name ≡ true → ((bytes_eq column.name name && column.nullable) ≡ true) ⊎ (is_nullable columns name ≡ true)
unfolding is_nullable
null_is columns column next name defined null =
    elim (or_cases (bytes_eq column.name name && column.nullable) (list_any (λ (c : ColumnDef). bytes_eq c.name name && c.nullable) (other_columns column.name columns))
    (alike_any (λ (c : ColumnDef). bytes_eq c.name name && c.nullable) next (column ∷ other_columns column.name columns) (alike_turned defined.more.alike) null)) [
      | inl here ↦ inl here
      | inr later ↦ inr (nulls_of_others column.name name columns later)
    ]

none_null : (columns : List ColumnDef) (column : ColumnDef) (next : List ColumnDef) → IsDefined columns column next → (names : List (List ℕ)) → list_any (is_nullable columns) names ≡ false → (is_among_names names column.name && column.nullable) ≡ false → list_any (is_nullable next) names ≡ false
none_null columns column next defined [] none guard = refl
none_null columns column next defined (name ∷ names) none guard =
    let (first, others) = or_parts (is_nullable columns name) (list_any (is_nullable columns) names) none in
    or_from (is_nullable next name) (list_any (is_nullable next) names)
    (false_from_ne_true (is_nullable next name) (λ null. elim (null_is columns column next name defined null) [
      | inl own ↦
          let (is, nullable) = and_parts (bytes_eq column.name name) column.nullable own in
          true≢false (sym (and_from (is_among_names (name ∷ names) column.name) column.nullable (or_left (bytes_eq column.name name) (is_among_names names column.name) is) nullable) ∙ guard)
      | inr before ↦ true≢false (sym before ∙ first)
    ]))
    (none_null columns column next defined names others (rest (bytes_eq column.name name) guard))
  where
    rest : (b : Bool) → ((b || is_among_names names column.name) && column.nullable) ≡ false → (is_among_names names column.name && column.nullable) ≡ false
    rest true none = and_right (is_among_names names column.name) column.nullable none
    rest false none = none

-- an index of the primary key that has the column asks that it is NOT NULL
abbrev is_guarded : ColumnDef → IndexDef → Bool
is_guarded column index = not (is_primary index && (is_among_names index.columns column.name && column.nullable))

guarded_none : (primary secondary among : Bool) → secondary ≡ not primary → not (primary && among) ≡ true → secondary ≡ false → among ≡ false
guarded_none true secondary true is guard other = cc
guarded_none true secondary false is guard other = refl
guarded_none false secondary among is guard other = cc

defined_never_null : (columns : List ColumnDef) (column : ColumnDef) (next : List ColumnDef) → IsDefined columns column next → (index : IndexDef) → is_guarded column index ≡ true → is_never_null columns index ≡ true → is_never_null next index ≡ true
unfolding is_never_null has_nullable
defined_never_null columns column next defined index guard never = elim (cases_Bool (is_secondary index)) [
  | inl secondary ↦ or_left (is_secondary index) (not (list_any (is_nullable next) index.columns)) secondary
  | inr primary ↦
      let among : (is_among_names index.columns column.name && column.nullable) ≡ false = guarded_none (is_primary index) (is_secondary index) (is_among_names index.columns column.name && column.nullable) refl guard primary in
      let none : list_any (is_nullable columns) index.columns ≡ false = not-true (list_any (is_nullable columns) index.columns) (sym (ap (λ b. b || not (list_any (is_nullable columns) index.columns)) primary) ∙ never) in
      or_right (is_secondary index) (not (list_any (is_nullable next) index.columns)) (not_from_false (list_any (is_nullable next) index.columns) (none_null columns column next defined index.columns none among))
]

defined_index : (columns : List ColumnDef) (column : ColumnDef) (next : List ColumnDef) → IsDefined columns column next → KeepNames columns next → (index : IndexDef) → (is_index_formed columns index && is_guarded column index) ≡ true → is_index_formed next index ≡ true
defined_index columns column next defined names index both =
    let (formed, guard) = and_parts (is_index_formed columns index) (is_guarded column index) both in
    let parts : IsIndexFormed columns index = index_parts columns index formed in
    index_from next index (record { fits = key_columns_stay columns next names index.columns parts.fits; named = parts.named; never = defined_never_null columns column next defined index guard parts.never })

defined_stands : (place : Option Place) (column : ColumnDef) (parts : TableParts) → Stands parts → is_column parts.columns column.name ≡ true → IsFit column → list_all (is_guarded column) parts.indexes ≡ true
    → Stands (record parts { columns = with_definition place column parts.columns })
defined_stands place column parts good there fit guard =
    let columns = parts.columns in
    let next = with_definition place column parts.columns in
    let defined : IsDefined parts.columns column (with_definition place column parts.columns) = record { there = there; more = defined_with place column parts.columns } in
    let names : KeepNames parts.columns (with_definition place column parts.columns) = defined_names parts.columns column (with_definition place column parts.columns) defined (λ name is other. apart_from parts.columns column.name name good.columns.distinct there is other) in
    record {
      some = with_column_some (other_columns column.name columns) column next defined.more;
      columns = with_column_stands (other_columns column.name columns) column next defined.more fit (others_stand column.name columns good.columns);
      indexes = record {
        distinct = good.indexes.distinct;
        formed = all_weaker (λ i. is_index_formed columns i && is_guarded column i) (is_index_formed next) (defined_index columns column next defined names) parts.indexes (both_pass (is_index_formed columns) (is_guarded column) parts.indexes good.indexes.formed guard);
        single = good.indexes.single;
      };
      keys = keys_stay columns next parts.indexes parts.indexes parts.foreign_keys names (leads_itself parts.indexes) good.keys;
    }

-- ## The name before it

-- the column has the new name, and where the primary key has it, it had it before
record IsNamed (from to : List ℕ) (state next : Altering) : Type 0 where
  behind : IsBehind state next
  there : is_column next.parts.columns to ≡ true
  primary : is_in_primary next.parts.indexes to ≡ true → is_in_primary state.parts.indexes from ≡ true

same_among : (columns : List ColumnDef) (from to : List ℕ) → IsRenaming columns from to → (names : List (List ℕ)) → list_all (is_column columns) names ≡ true → is_among_names (map (renamed_name from to) names) (renamed_name from to from) ≡ is_among_names names from
same_among columns from to new names there =
    any_map (bytes_eq (renamed_name from to from)) (renamed_name from to) names
    ∙ same_any_where (λ n. bytes_eq (renamed_name from to from) (renamed_name from to n)) (bytes_eq from) (is_column columns) (λ n is. same_bytes columns from to new from n new.there is) names there

same_primary : (columns : List ColumnDef) (from to : List ℕ) → IsRenaming columns from to → (indexes : List IndexDef) → list_all (is_index_formed columns) indexes ≡ true → is_in_primary (map (renamed_index from to) indexes) (renamed_name from to from) ≡ is_in_primary indexes from
same_primary columns from to new indexes formed =
    any_map (λ (i : IndexDef). is_primary i && is_among_names i.columns (renamed_name from to from)) (renamed_index from to) indexes
    ∙ same_any_where (λ (i : IndexDef). is_primary i && is_among_names (map (renamed_name from to) i.columns) (renamed_name from to from)) (λ (i : IndexDef). is_primary i && is_among_names i.columns from) (is_index_formed columns)
    (λ i is. ap (λ b. is_primary i && b) (same_among columns from to new i.columns (columns_there columns i.columns (index_parts columns i is).fits))) indexes formed

own_name : (from to : List ℕ) → renamed_name from to from ≡ to
own_name from to = ap (λ b. cond b to from) (bytes_same from from refl)

is_named : (from to : List ℕ) (state : Altering) → IsRenaming state.parts.columns from to → StandsInOrder state.parts → IsNamed from to state (column_renamed from to state)
unfolding column_renamed
is_named from to state new good =
    let behind : IsBehind state (cond (bytes_eq from to) state (all_renamed from to state)) = renamed_behind from to state new good in
    record {
      behind = behind;
      there = cond_both (bytes_eq from to) state (all_renamed from to state) (λ (s : Altering). is_column s.parts.columns to ≡ true)
          (λ equal. ap (is_column state.parts.columns) (sym (bytes_are from to equal)) ∙ new.there)
          (λ _. ap (is_column (map (renamed_column from to) state.parts.columns)) (sym (own_name from to)) ∙ renamed_is_column state.parts.columns from to from new.there);
      primary = cond_both (bytes_eq from to) state (all_renamed from to state) (λ (s : Altering). is_in_primary s.parts.indexes to ≡ true → is_in_primary state.parts.indexes from ≡ true)
          (λ equal is. ap (is_in_primary state.parts.indexes) (bytes_are from to equal) ∙ is)
          (λ _ is. sym (same_primary state.parts.columns from to new state.parts.indexes good.stands.indexes.formed) ∙ ap (is_in_primary (map (renamed_index from to) state.parts.indexes)) (own_name from to) ∙ is);
    }

-- ## A column of the primary key stays NOT NULL

fit_unless : (is_key : Bool) (column : ColumnDef) → IsFit column → IsFit (null_unless is_key column)
unfolding is_typed
fit_unless true column fit = record { typed = fit.typed; auto = not_null_stays column.auto (is_integer column.kind) column.nullable (is_none column.default) fit.auto }
  where
    not_null_stays : (auto integer null none : Bool) → (not auto || (integer && (not null && none))) ≡ true → (not auto || (integer && (true && none))) ≡ true
    not_null_stays false integer null none fits = refl
    not_null_stays true true true none fits = cc
    not_null_stays true true false none fits = fits
    not_null_stays true false null none fits = cc
fit_unless false column fit = fit

name_unless : (is_key : Bool) (column : ColumnDef) → (null_unless is_key column).name ≡ column.name
name_unless true column = refl
name_unless false column = refl

-- where none has the column in a primary key, or it is NOT NULL, all are guarded
all_guarded : (column : ColumnDef) (indexes : List IndexDef) → (is_in_primary indexes column.name ≡ true → column.nullable ≡ false) → list_all (is_guarded column) indexes ≡ true
all_guarded column [] asks = refl
all_guarded column (i ∷ is) asks =
    and_from (is_guarded column i) (list_all (is_guarded column) is)
    (first (is_primary i) (is_among_names i.columns column.name) column.nullable (λ here. asks (or_left (is_primary i && is_among_names i.columns column.name) (is_in_primary is column.name) here)))
    (all_guarded column is (λ later. asks (or_right (is_primary i && is_among_names i.columns column.name) (is_in_primary is column.name) later)))
  where
    first : (p a n : Bool) → ((p && a) ≡ true → n ≡ false) → not (p && (a && n)) ≡ true
    first true true true asks = absurd (true≢false (asks refl))
    first true true false asks = refl
    first true false n asks = refl
    first false a n asks = refl

never_unless : (is_key : Bool) (column : ColumnDef) → is_key ≡ true → (null_unless is_key column).nullable ≡ false
never_unless true column is = refl
never_unless false column is = cc

-- ## The column with its new definition

pub record IsRedefined (before next : Altering) : Type 0 where
  pub stands : Stands next.parts
  pub name : next.parts.name ≡ before.parts.name
  pub children : AreChildrenFormed before → AreChildrenFormed next

column_is_changed : (from : List ℕ) (place : Option Place) (column : ColumnDef) (is_null : Bool) (state : Altering) → IsRenaming state.parts.columns from column.name → StandsInOrder state.parts → IsFit column
    → (is_in_primary state.parts.indexes from ≡ true → column.nullable ≡ false) → IsRedefined state (column_changed from place column is_null state)
column_is_changed from place column is_null state new good fit asks =
    let renamed : Altering = column_renamed from column.name state in
    let named : IsNamed from column.name state renamed = is_named from column.name state new good in
    record {
      stands = defined_stands place column renamed.parts named.behind.stands.stands named.there fit (all_guarded column renamed.parts.indexes (λ is. asks (named.primary is)));
      name = named.behind.name;
      children = named.behind.children;
    }

pub is_redefined : (old : List ℕ) (words : ColumnWords) (place : Option Place) (made : ColumnDef) (before : Altering) → IsRenaming before.parts.columns old made.name → StandsInOrder before.parts → IsFit made → IsRedefined before (redefined old words place made before)
unfolding redefined
is_redefined old words place made before new good fit =
    let is_key : Bool = is_in_primary before.parts.indexes old in
    column_is_changed old place (null_unless (is_in_primary before.parts.indexes old) made) (is_null_in words) before
    (subst (IsRenaming before.parts.columns old) (sym (name_unless (is_in_primary before.parts.indexes old) made)) new) good (fit_unless (is_in_primary before.parts.indexes old) made fit)
    (never_unless (is_in_primary before.parts.indexes old) made)

-- ## Its keys

pub column_keys_behind : (look : Look) (state : Altering) (words : ColumnWords) (next : Altering) → Stands state.parts → run look (column_keys_added state words) ≡ fine next → (parts : TableParts) × IsKeyed state.parts parts × (with_parts state parts ≡ next)
unfolding column_keys_added
column_keys_behind look state words next good is =
    let (parts, made, last) = bind_fine look (over (key_added state.nulls) state.parts (own_keys words)) _ next is in
    (parts, keys_are_added look (map null_words state.nulls) state.parts (own_keys words) parts good made, fine_is last)

-- ## CHANGE COLUMN and MODIFY COLUMN

pub record IsChangeAllowed (old : List ℕ) (words : ColumnWords) (parts : TableParts) (made : ColumnDef) : Type 0 where
  pub fit : IsFit made
  pub name : made.name ≡ words.name
  pub new : has_column (other_columns old parts.columns) words.name ≡ false

pub change_is_allowed : (look : Look) (old : List ℕ) (words : ColumnWords) (place : Option Place) (parts : TableParts) (made : ColumnDef) → run look (allowed_change old words place parts) ≡ fine made → IsChangeAllowed old words parts made
unfolding allowed_change
change_is_allowed look old words place parts made is =
    let (_, absent, after_name) = bind_fine look (refuse_if (has_column (other_columns old parts.columns) words.name) (dup_fieldname words.name)) _ made is in
    let (column, defined, after_column) = bind_fine look (column_of words) _ made after_name in
    let (_, placed, last) = bind_fine look (allowed_place parts (other_columns old parts.columns) place) _ made after_column in
    subst (IsChangeAllowed old words parts) (fine_is last) (record {
      fit = columns_are_fit look words column defined;
      name = column_has_name look words column defined;
      new = not_refused look (has_column (other_columns old parts.columns) words.name) (dup_fieldname words.name) tt absent;
    })

is_remade : (look : Look) (old : List ℕ) (words : ColumnWords) (place : Option Place) (before keyed : Altering) → StandsInOrder before.parts → is_column before.parts.columns old ≡ true → run look (remade old words place before) ≡ fine keyed → IsRedefined before keyed
unfolding remade
is_remade look old words place before keyed good there is =
    let (made, allowed, keys) = bind_fine look (allowed_change old words place before.parts) _ keyed is in
    let may : IsChangeAllowed old words before.parts made = change_is_allowed look old words place before.parts made allowed in
    let new : IsRenaming before.parts.columns old made.name = is_renaming before.parts.columns old made.name good.stands.columns.distinct there (ap (has_column (other_columns old before.parts.columns)) may.name ∙ may.new) in
    let defined : IsRedefined before (redefined old words place made before) = is_redefined old words place made before new good may.fit in
    let (parts, added, same_state) = column_keys_behind look (redefined old words place made before) words keyed defined.stands keys in
    subst (IsRedefined before) same_state (record { stands = added.stands; name = added.name ∙ defined.name; children = defined.children })

pub column_is_behind : (look : Look) (name : List ℕ) (words : ColumnWords) (place : Option Place) (before next : Altering) → StandsInOrder before.parts → run look (change_column name words place before) ≡ fine next → IsBehind before next
unfolding change_column changed never_nulled
column_is_behind look name words place before next good is =
    let (old, found, after_old) = bind_fine look (the_name (unknown_column before.parts name) before.parts name) _ next is in
    let there : is_column before.parts.columns old ≡ true = spelled_is_column before.parts.columns name old (name_is_spelled look (unknown_column before.parts name) before.parts name old found) in
    let (behind, never, last) = bind_fine look (never_nulled old words place before) _ next after_old in
    let (keyed, made, after_made) = bind_fine look (remade old words place before) _ behind never in
    let (_, nulls, same_state) = bind_fine look (refuse_if (is_nulled_key old words before) primary_cant_have_null) _ behind after_made in
    let keyed_is : IsRedefined before behind = subst (IsRedefined before) (fine_is same_state) (is_remade look old words place before keyed good there made) in
    subst (IsBehind before) {x = arranged_behind before behind} (fine_is last) (arranged_is_behind before behind keyed_is.stands keyed_is.name keyed_is.children)
