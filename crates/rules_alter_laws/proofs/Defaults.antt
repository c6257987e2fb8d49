-- A table one of whose columns has another default.
use Rattle.std.specs.Prelude.{◌≡◌, ℕ, ◌≤◌, Bool, true, false, ◌&&◌, ◌||◌, not, List, [], ◌∷◌, map, Option, Some, None, if◌then◌else◌, refl}
use Rattle.std.specs.List.{list_any, list_all}
use Rattle.std.specs.Option.{is_none}
use Rattle.std.specs.Str.{bytes_eq}
use Rattle.std.proofs.Common.{sym, ◌∙◌, ap, subst}
use Rattle.std.proofs.lemmas.Bool.{true≢false, and_parts, and_from, or_left, or_right, or_parts, not_from_false, false_from_ne_true, cond_both}
use Rattle.std.proofs.lemmas.List.{length-map}
use Rattle.dd_names.specs.Names.{same, fold}
use Rattle.dd_errors.specs.Errors.{ErrorValue}
use Rattle.sql_types.specs.declared.literal.Literal.{Literal}
use Rattle.dd_definitions.specs.Columns.{is_same_column, is_short_type, is_typed, is_column, is_nullable}
use Rattle.dd_definitions.specs.Defaults.{is_fitting_default}
use Rattle.dd_definitions.specs.Distinct.{are_distinct}
use Rattle.dd_definitions.specs.Indexes.{is_integer, has_nullable}
use Rattle.dd_definitions.specs.declared.columns.ColumnDef.{ColumnDef}
use Rattle.dd_definitions.specs.declared.indexes.IndexDef.{IndexDef}
use Rattle.dd_definitions.specs.declared.parts.TableParts.{TableParts}
use Rattle.dd_catalog.specs.Kinds.{column_named}
use Rattle.dd_catalog.specs.Walks.{fine, run}
use Rattle.dd_catalog.specs.WalkLaws.{Look}
use Rattle.dd_catalog.specs.Asked.{fine_is, bind_fine}
use Rattle.rules_elements.specs.Columns.{kept_default}
use Rattle.rules_elements_laws.specs.Taken.{is_auto_by_itself}
use Rattle.rules_elements_laws.proofs.ColumnsFit.{IsDefault, default_is}
use Rattle.rules_elements_laws.proofs.ParentSpelling.{found_fold}
use Rattle.rules_create.specs.Tables.{is_null}
use Rattle.rules_create.proofs.Lists.{all_weaker, any_map, all_map, same_any, distinct_map, distinct_parts}
use Rattle.rules_create.proofs.Names.{bytes_are, bytes_same, same_where_equal}
use Rattle.rules_alter.specs.Altering.{column_or, the_column, the_name, unknown_column, with_parts}
use Rattle.rules_alter.specs.Columns.{column_with_default, default_of, default_set, drop_default, set_default, with_default, words_of}
use Rattle.rules_alter.specs.declared.states.Altering.{Altering}
use Rattle.rules_alter_laws.specs.Stands.{HasColumns, Stands, StandsInOrder}
use Rattle.rules_alter_laws.proofs.Kept.{KeepNames, KeepNulls, indexes_stay, leads_itself, keys_stay}
use Rattle.rules_alter_laws.proofs.Ordered.{IsBehind, parts_are_behind}
use Rattle.rules_alter_laws.proofs.Redefined.{both_pass}
use Rattle.rules_alter_laws.proofs.Ranks.{same_rank, ranked_stays}

-- ## Another default for each column of a name

either_way : (name : List ℕ) (default : Option (List ℕ)) (column : ColumnDef) (P : ColumnDef → Type 0) → (bytes_eq column.name name ≡ true → P (record column { default = default })) → (bytes_eq column.name name ≡ false → P column) → P (column_with_default name default column)
either_way name default column P changed as_it_is = cond_both (bytes_eq column.name name) (record column { default = default }) column P changed as_it_is

keeps_name : (name : List ℕ) (default : Option (List ℕ)) (column : ColumnDef) → (column_with_default name default column).name ≡ column.name
keeps_name name default column = either_way name default column (λ c. c.name ≡ column.name) (λ _. refl) (λ _. refl)

keeps_null : (name : List ℕ) (default : Option (List ℕ)) (column : ColumnDef) → (column_with_default name default column).nullable ≡ column.nullable
keeps_null name default column = either_way name default column (λ c. c.nullable ≡ column.nullable) (λ _. refl) (λ _. refl)

-- a column of the name may have the default
abbrev takes : Option (List ℕ) → ColumnDef → Bool
takes default column = is_fitting_default column.kind default && (not column.auto || is_none default)

abbrev may_take : List ℕ → Option (List ℕ) → ColumnDef → Bool
may_take name default column = not (bytes_eq column.name name) || takes default column

taken : (name : List ℕ) (default : Option (List ℕ)) (column : ColumnDef) → may_take name default column ≡ true → bytes_eq column.name name ≡ true → takes default column ≡ true
taken name default column may is = sym (ap (λ b. not b || takes default column) is) ∙ may

still_typed : (name : List ℕ) (default : Option (List ℕ)) (column : ColumnDef) → (is_typed column && may_take name default column) ≡ true → is_typed (column_with_default name default column) ≡ true
unfolding is_typed
still_typed name default column both =
    let (typed, may) = and_parts (is_short_type column.kind && is_fitting_default column.kind column.default) (may_take name default column) both in
    either_way name default column (λ c. (is_short_type c.kind && is_fitting_default c.kind c.default) ≡ true)
    (λ is. and_from (is_short_type column.kind) (is_fitting_default column.kind default) (and_parts (is_short_type column.kind) (is_fitting_default column.kind column.default) typed).0
    (and_parts (is_fitting_default column.kind default) (not column.auto || is_none default) (taken name default column may is)).0)
    (λ _. typed)

auto_with : (auto integer null before none : Bool) → (not auto || (integer && (not null && before))) ≡ true → (not auto || none) ≡ true → (not auto || (integer && (not null && none))) ≡ true
auto_with false integer null before none fits may = refl
auto_with true true true before none fits may = cc
auto_with true true false before none fits may = may
auto_with true false null before none fits may = cc

still_auto : (name : List ℕ) (default : Option (List ℕ)) (column : ColumnDef) → (is_auto_by_itself column && may_take name default column) ≡ true → is_auto_by_itself (column_with_default name default column) ≡ true
still_auto name default column both =
    let (fits, may) = and_parts (is_auto_by_itself column) (may_take name default column) both in
    either_way name default column (λ c. is_auto_by_itself c ≡ true)
    (λ is. auto_with column.auto (is_integer column.kind) column.nullable (is_none column.default) (is_none default) fits (and_parts (is_fitting_default column.kind default) (not column.auto || is_none default) (taken name default column may is)).1)
    (λ _. fits)

same_names : (name : List ℕ) (default : Option (List ℕ)) (a b : ColumnDef) → is_same_column (column_with_default name default a) (column_with_default name default b) ≡ is_same_column a b
same_names name default a b = ap (λ n. same n (column_with_default name default b).name) (keeps_name name default a) ∙ ap (same a.name) (keeps_name name default b)

columns_stand : (name : List ℕ) (default : Option (List ℕ)) (columns : List ColumnDef) → HasColumns columns → list_all (may_take name default) columns ≡ true → HasColumns (map (column_with_default name default) columns)
columns_stand name default columns good may = record {
  distinct = distinct_map is_same_column (column_with_default name default) (same_names name default) columns ∙ good.distinct;
  typed = all_map is_typed (column_with_default name default) columns
      ∙ all_weaker (λ c. is_typed c && may_take name default c) (λ c. is_typed (column_with_default name default c)) (still_typed name default) columns (both_pass is_typed (may_take name default) columns good.typed may);
  auto = all_map is_auto_by_itself (column_with_default name default) columns
      ∙ all_weaker (λ c. is_auto_by_itself c && may_take name default c) (λ c. is_auto_by_itself (column_with_default name default c)) (still_auto name default) columns (both_pass is_auto_by_itself (may_take name default) columns good.auto may);
}

same_column : (name : List ℕ) (default : Option (List ℕ)) (columns : List ColumnDef) (other : List ℕ) → is_column (map (column_with_default name default) columns) other ≡ is_column columns other
unfolding is_column
same_column name default columns other =
    any_map (λ (c : ColumnDef). bytes_eq c.name other) (column_with_default name default) columns
    ∙ same_any (λ (c : ColumnDef). bytes_eq (column_with_default name default c).name other) (λ (c : ColumnDef). bytes_eq c.name other) (λ c. ap (λ n. bytes_eq n other) (keeps_name name default c)) columns

same_nullable : (name : List ℕ) (default : Option (List ℕ)) (columns : List ColumnDef) (other : List ℕ) → is_nullable (map (column_with_default name default) columns) other ≡ is_nullable columns other
unfolding is_nullable
same_nullable name default columns other =
    any_map (λ (c : ColumnDef). bytes_eq c.name other && c.nullable) (column_with_default name default) columns
    ∙ same_any (λ (c : ColumnDef). bytes_eq (column_with_default name default c).name other && (column_with_default name default c).nullable) (λ (c : ColumnDef). bytes_eq c.name other && c.nullable)
    (λ c. ap (λ n. bytes_eq n other && (column_with_default name default c).nullable) (keeps_name name default c) ∙ ap (λ b. bytes_eq c.name other && b) (keeps_null name default c)) columns

same_has_nullable : (name : List ℕ) (default : Option (List ℕ)) (columns : List ColumnDef) (index : IndexDef) → has_nullable (map (column_with_default name default) columns) index ≡ has_nullable columns index
unfolding has_nullable
same_has_nullable name default columns index = same_any (is_nullable (map (column_with_default name default) columns)) (is_nullable columns) (same_nullable name default columns) index.columns

default_stands : (name : List ℕ) (default : Option (List ℕ)) (parts : TableParts) → StandsInOrder parts → list_all (may_take name default) parts.columns ≡ true → StandsInOrder (with_default name default parts)
default_stands name default parts good may =
    let columns = parts.columns in
    let next = map (column_with_default name default) parts.columns in
    let names : KeepNames parts.columns (map (column_with_default name default) parts.columns) = record { there = λ other is. same_column name default parts.columns other ∙ is } in
    let nulls : KeepNulls parts.columns (map (column_with_default name default) parts.columns) = record { none = λ other is null. sym (same_nullable name default parts.columns other) ∙ null } in
    record {
      stands = record {
        some = subst (λ n. 1 ≤ n) (sym (length-map parts.columns (column_with_default name default))) good.stands.some;
        columns = columns_stand name default columns good.stands.columns may;
        indexes = indexes_stay columns next parts.indexes names nulls good.stands.indexes;
        keys = keys_stay columns next parts.indexes parts.indexes parts.foreign_keys names (leads_itself parts.indexes) good.stands.keys;
      };
      ranked = ranked_stays columns next (λ i. same_rank columns next i i refl (same_has_nullable name default columns i)) 0 parts.indexes good.ranked;
    }

-- ## The column that is found is the only one

found_alike : (columns : List ColumnDef) (name : List ℕ) (column : ColumnDef) → column_named columns name ≡ Some column → same column.name name ≡ true
found_alike columns name column found = bytes_same (fold column.name) (fold name) (found_fold columns name column found)

none_spelled : (name : List ℕ) (default : Option (List ℕ)) (column : ColumnDef) (columns : List ColumnDef) → column.name ≡ name → list_any (is_same_column column) columns ≡ false → list_all (may_take name default) columns ≡ true
none_spelled name default column [] is none = refl
none_spelled name default column (c ∷ cs) is none =
    let (apart, later) = or_parts (is_same_column column c) (list_any (is_same_column column) cs) none in
    let unlike : bytes_eq c.name name ≡ false = false_from_ne_true (bytes_eq c.name name) (λ e. true≢false (sym (same_where_equal column.name c.name (is ∙ sym (bytes_are c.name name e))) ∙ apart)) in
    and_from (may_take name default c) (list_all (may_take name default) cs) (or_left (not (bytes_eq c.name name)) (takes default c) (not_from_false (bytes_eq c.name name) unlike)) (none_spelled name default column cs is later)

only_found : (name : List ℕ) (default : Option (List ℕ)) (columns : List ColumnDef) (column : ColumnDef) → are_distinct is_same_column columns ≡ true → column_named columns name ≡ Some column → takes default column ≡ true
    → list_all (may_take column.name default) columns ≡ true
only_found name default [] column distinct found fits = refl
only_found name default (c ∷ cs) column distinct found fits =
    let (apart, rest) = distinct_parts is_same_column c cs distinct in
    on (same c.name name) refl found apart (λ later. only_found name default cs column rest later fits)
  where
    on : (b : Bool) → same c.name name ≡ b → (if b then Some c else column_named cs name) ≡ Some column → list_any (is_same_column c) cs ≡ false → (column_named cs name ≡ Some column → list_all (may_take column.name default) cs ≡ true)
        → list_all (may_take column.name default) (c ∷ cs) ≡ true
    on true alike found apart rest =
        let one : c ≡ column = cc in
        and_from (may_take column.name default c) (list_all (may_take column.name default) cs)
        (or_right (not (bytes_eq c.name column.name)) (takes default c) (ap (takes default) one ∙ fits))
        (none_spelled column.name default c cs (ap (λ (d : ColumnDef). d.name) one) apart)
    on false other found apart rest =
        let unlike : bytes_eq c.name column.name ≡ false = false_from_ne_true (bytes_eq c.name column.name) (λ e. true≢false (sym (ap (λ n. same n name) (bytes_are c.name column.name e) ∙ found_alike cs name column found) ∙ other)) in
        and_from (may_take column.name default c) (list_all (may_take column.name default) cs) (or_left (not (bytes_eq c.name column.name)) (takes default c) (not_from_false (bytes_eq c.name column.name) unlike)) (rest found)

-- ## SET DEFAULT and DROP DEFAULT

column_is_found : (look : Look) (error : ErrorValue) (found : Option ColumnDef) (column : ColumnDef) → run look (column_or error found) ≡ fine column → found ≡ Some column
column_is_found look error None column is = cc
column_is_found look error (Some c) column is = let some : ColumnDef → Option ColumnDef = λ d. Some d in ap some (fine_is is)

none_where : (auto none : Bool) → (auto ≡ true → none ≡ true) → (not auto || none) ≡ true
none_where true none absent = absent refl
none_where false none absent = refl

kept_takes : (column : ColumnDef) (default : Option (List ℕ)) → IsDefault column.auto column.kind default → takes default column ≡ true
kept_takes column default kept = and_from (is_fitting_default column.kind default) (not column.auto || is_none default) kept.fitting (none_where column.auto (is_none default) kept.absent)

-- a default that the columns of the name may have
record IsTaken (parts : TableParts) (found : List ℕ × Option (List ℕ)) : Type 0 where
  may : list_all (may_take found.0 found.1) parts.columns ≡ true

default_is_taken : (look : Look) (name : List ℕ) (value : Literal) (parts : TableParts) (found : List ℕ × Option (List ℕ)) → Stands parts → run look (default_of name value parts) ≡ fine found → IsTaken parts found
unfolding default_of
default_is_taken look name value parts found good is =
    let (column, there, after_column) = bind_fine look (the_column (unknown_column parts name) parts name) _ found is in
    let (default, kept, last) = bind_fine look (kept_default (words_of name value column) column.kind (Some value)) _ found after_column in
    subst (IsTaken parts) (fine_is last) (record {
      may = only_found name default parts.columns column good.columns.distinct (column_is_found look (unknown_column parts name) (column_named parts.columns name) column there)
          (kept_takes column default (default_is look (words_of name value column) column.kind (Some value) default kept));
    })

default_behind : (is_written : Bool) (found : List ℕ × Option (List ℕ)) (state : Altering) → StandsInOrder state.parts → IsTaken state.parts found → IsBehind state (default_set is_written found state)
default_behind is_written found state good taken = record { stands = default_stands found.0 found.1 state.parts good taken.may; name = refl; children = λ formed. formed }

pub default_is_set : (look : Look) (name : List ℕ) (value : Literal) (state next : Altering) → StandsInOrder state.parts → run look (set_default name value state) ≡ fine next → IsBehind state next
unfolding set_default
default_is_set look name value state next good is =
    let (found, made, last) = bind_fine look (default_of name value state.parts) _ next is in
    subst (IsBehind state) (fine_is last) (default_behind (is_null (Some value)) found state good (default_is_taken look name value state.parts found good.stands made))

none_takes : (name : List ℕ) (columns : List ColumnDef) → list_all (may_take name None) columns ≡ true
none_takes name [] = refl
none_takes name (c ∷ cs) = and_from (may_take name None c) (list_all (may_take name None) cs) (or_right (not (bytes_eq c.name name)) (takes None c) (or_right (not c.auto) true refl)) (none_takes name cs)

pub default_is_dropped : (look : Look) (name : List ℕ) (state next : Altering) → StandsInOrder state.parts → run look (drop_default name state) ≡ fine next → IsBehind state next
unfolding drop_default
default_is_dropped look name state next good is =
    let (column, found, last) = bind_fine look (the_name (unknown_column state.parts name) state.parts name) _ next is in
    subst (IsBehind state) {x = with_parts state (with_default column None state.parts)} (fine_is last)
    (parts_are_behind state (with_default column None state.parts) (default_stands column None state.parts good (none_takes column state.parts.columns)) refl)
