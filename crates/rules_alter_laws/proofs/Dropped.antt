-- A table with one column less.
use Rattle.std.specs.Prelude.{◌≡◌, ◌⊎◌, ℕ, ◌+◌, ◌≤◌, ◌==◌, Bool, true, false, ◌&&◌, ◌||◌, not, nat_le, List, [], ◌∷◌, ◌++◌, filter, length, Option, Some, None, if◌then◌else◌, refl}
use Rattle.std.specs.List.{list_any, list_all, count_by, find, flat_map, starts_with}
use Rattle.std.specs.Str.{bytes_eq}
use Rattle.std.proofs.Common.{sym, ◌∙◌, ap, subst, arith, inl, inr}
use Rattle.std.proofs.lemmas.Bool.{true≢false, and_parts, and_from, or_cases, or_parts, or_left, or_right, not-true, not_from_false, false_from_ne_true, cases_Bool}
use Rattle.std.proofs.lemmas.Bool.Decides.{nat_tests}
use Rattle.std.proofs.lemmas.List.Folds.{list_all-append, list_any-append}
use Rattle.std.proofs.lemmas.List.Sums.{length-filter}
use Rattle.dd_names.specs.Names.{same, fold}
use Rattle.dd_errors.specs.Errors.{ErrorValue}
use Rattle.dd_definitions.specs.Columns.{is_same_column, is_typed, is_column, is_nullable, are_key_columns}
use Rattle.dd_definitions.specs.Distinct.{are_distinct}
use Rattle.dd_definitions.specs.ForeignKeys.{has_index_on, is_foreign_key_formed}
use Rattle.dd_definitions.specs.Indexes.{is_primary, is_secondary, is_same_index, is_well_named, is_never_null, has_nullable, is_index_formed}
use Rattle.dd_definitions.specs.declared.columns.ColumnDef.{ColumnDef}
use Rattle.dd_definitions.specs.declared.foreign_keys.ForeignKeyDef.{ForeignKeyDef}
use Rattle.dd_definitions.specs.declared.indexes.IndexDef.{IndexDef}
use Rattle.dd_definitions.specs.declared.parts.TableParts.{TableParts}
use Rattle.dd_catalog.specs.Kinds.{column_named}
use Rattle.dd_catalog.specs.Walks.{fine, run, refuse_if, refuse_some}
use Rattle.dd_catalog.specs.WalkLaws.{Look}
use Rattle.dd_catalog.specs.Asked.{fine_is, bind_fine}
use Rattle.rules_refusals.specs.Refusals.{cant_drop_field_or_key, cant_remove_all_fields}
use Rattle.rules_elements_laws.specs.Taken.{is_auto_by_itself}
use Rattle.rules_elements_laws.proofs.ParentSpelling.{by_fold}
use Rattle.rules_elements_laws.proofs.Spelled.{named_is_column}
use Rattle.rules_create.specs.Tables.{has_column}
use Rattle.rules_create.proofs.Lists.{any_weaker, none_stronger, filter_all, filter_none, distinct_filter, one_if, count_more, count_append, count_both}
use Rattle.rules_create.proofs.Names.{bytes_are, bytes_same, same_turned, not_refused}
use Rattle.rules_alter.specs.Altering.{is_among_names, is_named_so, name_or, other_columns, the_name}
use Rattle.rules_alter.specs.Columns.{allowed_drop, dropped, drop_column, index_or_none, index_without, own_key_refused, refused_by_own, without_column}
use Rattle.rules_alter.specs.declared.states.Altering.{Altering}
use Rattle.rules_alter_laws.specs.Stands.{HasColumns, HasIndexes, Stands}
use Rattle.rules_alter_laws.proofs.AddedColumns.{has_spelled}
use Rattle.rules_alter_laws.proofs.AddedForeignKeys.{spelled_itself}
use Rattle.rules_alter_laws.proofs.Kept.{sorts_by, columns_there, index_from, IsIndexFormed, index_parts, key_from, IsKeyFormed, key_parts}
use Rattle.rules_alter_laws.proofs.Lists.{distinct_counts, counts_distinct, any_in_filter}
use Rattle.rules_alter_laws.proofs.Ordered.{IsBehind, arranged_stands, arranged_name}

-- ## What is found

pub find_none : {X : Type 0} (p : X → Bool) (xs : List X) → find p xs ≡ None → list_any p xs ≡ false
find_none p [] none = refl
find_none {X = X} p (x ∷ xs) none = on (p x) none (λ later. find_none p xs later)
  where
    on : (b : Bool) → ◌≡◌ {A = Option X} (if b then Some x else find p xs) None → (find p xs ≡ None → list_any p xs ≡ false) → (b || list_any p xs) ≡ false
    on true found rest = cc
    on false later rest = rest later

pub not_refused_some : {E : Type 0} (look : Look) (refusal : Option E) (x : Unit {0}) → run look (refuse_some refusal) ≡ fine x → refusal ≡ None
not_refused_some look None x is = refl
not_refused_some look (Some e) x is = cc

-- how the table spells the column of a name
pub record IsSpelled (columns : List ColumnDef) (name spelled : List ℕ) : Type 0 where
  pub column : ColumnDef
  pub found : column_named columns name ≡ Some column
  pub named : column.name ≡ spelled

pub name_is_spelled : (look : Look) (error : ErrorValue) (parts : TableParts) (name spelled : List ℕ) → run look (the_name error parts name) ≡ fine spelled → IsSpelled parts.columns name spelled
name_is_spelled look error parts name spelled is = on (column_named parts.columns name) refl is
  where
    on : (found : Option ColumnDef) → column_named parts.columns name ≡ found → run look (name_or error found) ≡ fine spelled → IsSpelled parts.columns name spelled
    on None none is = cc
    on (Some column) there is = record { column = column; found = there; named = fine_is is }

pub spelled_is_column : (columns : List ColumnDef) (name spelled : List ℕ) → IsSpelled columns name spelled → is_column columns spelled ≡ true
spelled_is_column columns name spelled there = ap (is_column columns) (sym there.named) ∙ named_is_column columns name there.column there.found

none_named : (columns : List ColumnDef) (name : List ℕ) → column_named columns name ≡ None → has_column columns name ≡ false
none_named columns name none = find_none (λ (c : ColumnDef). same c.name name) columns none

-- two spellings of a name of a column are one
pub spelled_once : (columns : List ColumnDef) (a b : List ℕ) → are_distinct is_same_column columns ≡ true → is_column columns a ≡ true → is_column columns b ≡ true → same a b ≡ true → a ≡ b
spelled_once columns a b distinct one other alike = on (column_named columns a) refl
  where
    on : (found : Option ColumnDef) → column_named columns a ≡ found → a ≡ b
    on None none = absurd (true≢false (sym (has_spelled columns a one) ∙ none_named columns a none))
    on (Some column) there =
        sym (spelled_itself columns a column distinct one there)
        ∙ spelled_itself columns b column distinct other (by_fold columns b a (sym (bytes_are (fold a) (fold b) alike)) ∙ there)

-- ## The other columns

others_few : (named others all : ℕ) → all ≡ named + others → named ≤ 1 → 1 ≤ all → (all == 1) ≡ false → 1 ≤ others
others_few named others all sum few some more = grind (arith, nat_tests)

pub others_stand : (name : List ℕ) (columns : List ColumnDef) → HasColumns columns → HasColumns (other_columns name columns)
others_stand name columns good = record {
  distinct = distinct_filter is_same_column (λ column. not (is_named_so name column)) columns good.distinct;
  typed = filter_all (λ column. not (is_named_so name column)) is_typed columns good.typed;
  auto = filter_all (λ column. not (is_named_so name column)) is_auto_by_itself columns good.auto;
}

pub some_others : (name : List ℕ) (columns : List ColumnDef) (column : ColumnDef) → column.name ≡ name → HasColumns columns → 1 ≤ length columns → (length columns == 1) ≡ false → 1 ≤ length (other_columns name columns)
some_others name columns column is good there more =
    let same_test : count_by (is_named_so name) columns ≡ count_by (is_same_column column) columns = ap (λ (p : ColumnDef → Bool). count_by p columns) (λ i c. (ap (same c.name) (sym is) ∙ same_turned c.name column.name) i) in
    let few : count_by (is_same_column column) columns ≤ 1 = distinct_counts is_same_column (sorts_by (λ (c : ColumnDef). c.name)) columns good.distinct column in
    let sum : length columns ≡ count_by (is_named_so name) columns + count_by (λ c. not (is_named_so name c)) columns = count_both (is_named_so name) columns in
    let counted : length (other_columns name columns) ≡ count_by (λ c. not (is_named_so name c)) columns = length-filter (λ c. not (is_named_so name c)) columns in
    let some : 1 ≤ count_by (λ c. not (is_named_so name c)) columns = others_few (count_by (is_named_so name) columns) (count_by (λ c. not (is_named_so name c)) columns) (length columns) sum (omega arith) there more in
    omega arith

-- another column stays
pub other_stays : (name other : List ℕ) (columns : List ColumnDef) → is_column columns other ≡ true → same other name ≡ false → is_column (other_columns name columns) other ≡ true
unfolding is_column
other_stays name other columns is apart =
    any_in_filter (λ (c : ColumnDef). bytes_eq c.name other) (λ c. not (is_named_so name c)) columns
    (any_weaker (λ (c : ColumnDef). bytes_eq c.name other) (λ (c : ColumnDef). not (is_named_so name c) && bytes_eq c.name other)
    (λ c here. and_from (not (is_named_so name c)) (bytes_eq c.name other) (not_from_false (same c.name name) (ap (λ n. same n name) (bytes_are c.name other here) ∙ apart)) here) columns is)

pub nulls_of_others : (name other : List ℕ) (columns : List ColumnDef) → is_nullable (other_columns name columns) other ≡ true → is_nullable columns other ≡ true
unfolding is_nullable
nulls_of_others name other columns null = on (cases_Bool (list_any (λ (c : ColumnDef). bytes_eq c.name other && c.nullable) columns))
  where
    on : (list_any (λ (c : ColumnDef). bytes_eq c.name other && c.nullable) columns ≡ true) ⊎ (list_any (λ (c : ColumnDef). bytes_eq c.name other && c.nullable) columns ≡ false)
        → list_any (λ (c : ColumnDef). bytes_eq c.name other && c.nullable) columns ≡ true
    on (inl is) = is
    on (inr none) = absurd (true≢false (sym null ∙ filter_none (λ c. not (is_named_so name c)) (λ (c : ColumnDef). bytes_eq c.name other && c.nullable) columns none))

-- the name of a column that is spelled otherwise differs in more than case
pub apart_from : (columns : List ColumnDef) (name other : List ℕ) → are_distinct is_same_column columns ≡ true → is_column columns name ≡ true → is_column columns other ≡ true → bytes_eq other name ≡ false → same other name ≡ false
apart_from columns name other distinct one is apart = false_from_ne_true (same other name) (λ alike. true≢false (sym (bytes_same other name (spelled_once columns other name distinct is one alike)) ∙ apart))

-- those of the names that are spelled otherwise
abbrev names_without : List ℕ → List (List ℕ) → List (List ℕ)
names_without column names = filter (λ name. not (bytes_eq name column)) names

names_stay : (column : List ℕ) (columns : List ColumnDef) (names : List (List ℕ)) → are_distinct is_same_column columns ≡ true → is_column columns column ≡ true → list_all (is_column columns) names ≡ true → list_all (is_column (other_columns column columns)) (names_without column names) ≡ true
names_stay column columns [] distinct is all = refl
names_stay column columns (name ∷ names) distinct is all =
    let (here, later) = and_parts (is_column columns name) (list_all (is_column columns) names) all in
    on (bytes_eq name column) refl here (names_stay column columns names distinct is later)
  where
    on : (b : Bool) → bytes_eq name column ≡ b → is_column columns name ≡ true → list_all (is_column (other_columns column columns)) (names_without column names) ≡ true
        → list_all (is_column (other_columns column columns)) (if not b then name ∷ names_without column names else names_without column names) ≡ true
    on true gone here rest = rest
    on false apart here rest =
        and_from (is_column (other_columns column columns) name) (list_all (is_column (other_columns column columns)) (names_without column names))
        (other_stays column name columns here (apart_from columns column name distinct is here apart)) rest

-- ## Its indexes

filter_short : {X : Type 0} (p : X → Bool) (xs : List X) → length (filter p xs) ≤ length xs
filter_short p xs =
    let counted : length (filter p xs) ≡ count_by p xs = length-filter p xs in
    let sum : length xs ≡ count_by p xs + count_by (λ x. not (p x)) xs = count_both p xs in
    omega arith

still_few : (all rest : ℕ) → (nat_le 1 all && nat_le all 16) ≡ true → 1 ≤ rest → rest ≤ all → (nat_le 1 rest && nat_le rest 16) ≡ true
still_few all rest few some less = grind (arith, nat_tests)

rest_fits : (column : List ℕ) (columns : List ColumnDef) (names : List (List ℕ)) → are_distinct is_same_column columns ≡ true → is_column columns column ≡ true → are_key_columns columns names ≡ true → 1 ≤ length (names_without column names)
    → are_key_columns (other_columns column columns) (names_without column names) ≡ true
unfolding are_key_columns
rest_fits column columns names distinct is fits some =
    let rest = names_without column names in
    let (front, there) = and_parts (nat_le 1 (length names) && nat_le (length names) 16 && are_distinct bytes_eq names) (list_all (is_column columns) names) fits in
    let (few, apart) = and_parts (nat_le 1 (length names) && nat_le (length names) 16) (are_distinct bytes_eq names) front in
    and_from (nat_le 1 (length rest) && nat_le (length rest) 16 && are_distinct bytes_eq rest) (list_all (is_column (other_columns column columns)) rest)
    (and_from (nat_le 1 (length rest) && nat_le (length rest) 16) (are_distinct bytes_eq rest)
    (still_few (length names) (length (names_without column names)) few some (filter_short (λ name. not (bytes_eq name column)) names))
    (distinct_filter bytes_eq (λ name. not (bytes_eq name column)) names apart))
    (names_stay column columns names distinct is there)

rest_never_null : (column : List ℕ) (columns : List ColumnDef) (index : IndexDef) (rest : List (List ℕ)) → names_without column index.columns ≡ rest → is_never_null columns index ≡ true → is_never_null (other_columns column columns) (record index { columns = rest }) ≡ true
unfolding is_never_null has_nullable
rest_never_null column columns index rest is never = elim (or_cases (is_secondary index) (not (list_any (is_nullable columns) index.columns)) never) [
  | inl secondary ↦ or_left (is_secondary index) (not (list_any (is_nullable (other_columns column columns)) rest)) secondary
  | inr none ↦ or_right (is_secondary index) (not (list_any (is_nullable (other_columns column columns)) rest)) (not_from_false (list_any (is_nullable (other_columns column columns)) rest)
      (none_stronger (is_nullable columns) (is_nullable (other_columns column columns)) (λ n null. nulls_of_others column n columns null) rest
      (ap (list_any (is_nullable columns)) (sym is) ∙ filter_none (λ name. not (bytes_eq name column)) (is_nullable columns) index.columns (not-true (list_any (is_nullable columns) index.columns) none))))
]

same_well_named : (index : IndexDef) (columns : List (List ℕ)) → is_well_named (record index { columns = columns }) ≡ is_well_named index
unfolding is_well_named
same_well_named index columns = refl

rest_formed : (column : List ℕ) (columns : List ColumnDef) (index : IndexDef) → are_distinct is_same_column columns ≡ true → is_column columns column ≡ true → is_index_formed columns index ≡ true → list_all (is_index_formed (other_columns column columns)) (index_without column index) ≡ true
rest_formed column columns index distinct is formed = on (names_without column index.columns) refl
  where
    parts : IsIndexFormed columns index
    parts = index_parts columns index formed

    on : (rest : List (List ℕ)) → names_without column index.columns ≡ rest → list_all (is_index_formed (other_columns column columns)) (index_or_none index rest) ≡ true
    on [] none = refl
    on (name ∷ names) some =
        let counted : length (names_without column index.columns) ≡ length (name ∷ names) = ap length some in
        and_from (is_index_formed (other_columns column columns) (record index { columns = name ∷ names })) true
        (index_from (other_columns column columns) (record index { columns = name ∷ names }) (record {
          fits = subst (λ (ns : List (List ℕ)). are_key_columns (other_columns column columns) ns ≡ true) some (rest_fits column columns index.columns distinct is parts.fits (omega arith));
          named = same_well_named index (name ∷ names) ∙ parts.named;
          never = rest_never_null column columns index (name ∷ names) some parts.never;
        })) refl

flat_all : {X Y : Type 0} (p : Y → Bool) (q : X → Bool) (f : X → List Y) → ((x : X) → q x ≡ true → list_all p (f x) ≡ true) → (xs : List X) → list_all q xs ≡ true → list_all p (flat_map f xs) ≡ true
flat_all p q f gives [] all = refl
flat_all p q f gives (x ∷ xs) all =
    let (here, later) = and_parts (q x) (list_all q xs) all in
    list_all-append p (f x) (flat_map f xs) ∙ and_from (list_all p (f x)) (list_all p (flat_map f xs)) (gives x here) (flat_all p q f gives xs later)

flat_any : {X Y : Type 0} (p : Y → Bool) (q : X → Bool) (f : X → List Y) → ((x : X) → q x ≡ true → list_any p (f x) ≡ true) → (xs : List X) → list_any q xs ≡ true → list_any p (flat_map f xs) ≡ true
flat_any p q f gives [] any = cc
flat_any p q f gives (x ∷ xs) any = list_any-append p (f x) (flat_map f xs) ∙ elim (or_cases (q x) (list_any q xs) any) [
  | inl here ↦ or_left (list_any p (f x)) (list_any p (flat_map f xs)) (gives x here)
  | inr later ↦ or_right (list_any p (f x)) (list_any p (flat_map f xs)) (flat_any p q f gives xs later)
]

flat_fewer : {X : Type 0} (p : X → Bool) (f : X → List X) → ((x : X) → count_by p (f x) ≤ one_if (p x)) → (xs : List X) → count_by p (flat_map f xs) ≤ count_by p xs
flat_fewer p f fewer [] = omega arith
flat_fewer p f fewer (x ∷ xs) =
    let both : count_by p (f x ++ flat_map f xs) ≡ count_by p (f x) + count_by p (flat_map f xs) = count_append p (f x) (flat_map f xs) in
    let whole : count_by p (x ∷ xs) ≡ one_if (p x) + count_by p xs = count_more p x xs in
    let here : count_by p (f x) ≤ one_if (p x) = fewer x in
    let rest : count_by p (flat_map f xs) ≤ count_by p xs = flat_fewer p f fewer xs in
    omega arith

-- a test that asks nothing of the columns
one_or_none : (p : IndexDef → Bool) (index : IndexDef) (names : List (List ℕ)) → ((ns : List (List ℕ)) → p (record index { columns = ns }) ≡ p index) → count_by p (index_or_none index names) ≤ one_if (p index)
one_or_none p index [] same_test = omega arith
one_or_none p index (name ∷ names) same_test =
    let more : count_by p (record index { columns = name ∷ names } ∷ []) ≡ one_if (p (record index { columns = name ∷ names })) + 0 = count_more p (record index { columns = name ∷ names }) [] in
    let e : one_if (p (record index { columns = name ∷ names })) ≡ one_if (p index) = ap one_if (same_test (name ∷ names)) in
    omega arith

pub without_indexes : (column : List ℕ) (columns : List ColumnDef) (indexes : List IndexDef) → are_distinct is_same_column columns ≡ true → is_column columns column ≡ true → HasIndexes columns indexes → HasIndexes (other_columns column columns) (flat_map (index_without column) indexes)
without_indexes column columns indexes distinct is good =
    let fewer : (p : IndexDef → Bool) → ((index : IndexDef) (ns : List (List ℕ)) → p (record index { columns = ns }) ≡ p index) → count_by p (flat_map (index_without column) indexes) ≤ count_by p indexes =
    λ p same_test. flat_fewer p (index_without column) (λ i. one_or_none p i (names_without column i.columns) (same_test i)) indexes in
    record {
      distinct = counts_distinct is_same_index (sorts_by (λ (i : IndexDef). i.name)) (flat_map (index_without column) indexes) (λ x.
          let most : count_by (is_same_index x) indexes ≤ 1 = distinct_counts is_same_index (sorts_by (λ (i : IndexDef). i.name)) indexes good.distinct x in
          let less : count_by (is_same_index x) (flat_map (index_without column) indexes) ≤ count_by (is_same_index x) indexes = fewer (is_same_index x) (λ i ns. refl) in
          omega arith);
      formed = flat_all (is_index_formed (other_columns column columns)) (is_index_formed columns) (index_without column) (λ i formed. rest_formed column columns i distinct is formed) indexes good.formed;
      single =
          let most : count_by is_primary indexes ≤ 1 = good.single in
          let less : count_by is_primary (flat_map (index_without column) indexes) ≤ count_by is_primary indexes = fewer is_primary (λ i ns. refl) in
          omega arith;
    }

-- ## Its foreign keys

still_begins : (column : List ℕ) (xs names : List (List ℕ)) → starts_with bytes_eq xs names ≡ true → is_among_names names column ≡ false → starts_with bytes_eq (names_without column xs) names ≡ true
still_begins column xs [] begins apart = refl
still_begins column [] (name ∷ names) begins apart = cc
still_begins column (x ∷ xs) (name ∷ names) begins apart =
    let (here, rest) = and_parts (bytes_eq name x) (starts_with bytes_eq xs names) begins in
    let (first, others) = or_parts (bytes_eq column name) (is_among_names names column) apart in
    on (bytes_eq x column) refl here first (still_begins column xs names rest others)
  where
    on : (b : Bool) → bytes_eq x column ≡ b → bytes_eq name x ≡ true → bytes_eq column name ≡ false → starts_with bytes_eq (names_without column xs) names ≡ true
        → starts_with bytes_eq (if not b then x ∷ names_without column xs else names_without column xs) (name ∷ names) ≡ true
    on true gone here first later = absurd (true≢false (sym (bytes_same column name (sym (bytes_are name x here ∙ bytes_are x column gone))) ∙ first))
    on false stays here first later = and_from (bytes_eq name x) (starts_with bytes_eq (names_without column xs) names) here later

index_still_begins : (column : List ℕ) (index : IndexDef) (name : List ℕ) (names : List (List ℕ)) → is_among_names (name ∷ names) column ≡ false → starts_with bytes_eq index.columns (name ∷ names) ≡ true
    → list_any (λ (i : IndexDef). starts_with bytes_eq i.columns (name ∷ names)) (index_without column index) ≡ true
index_still_begins column index name names apart begins = on (names_without column index.columns) (still_begins column index.columns (name ∷ names) begins apart)
  where
    on : (rest : List (List ℕ)) → starts_with bytes_eq rest (name ∷ names) ≡ true → list_any (λ (i : IndexDef). starts_with bytes_eq i.columns (name ∷ names)) (index_or_none index rest) ≡ true
    on [] begins = cc
    on (x ∷ xs) begins = or_left (starts_with bytes_eq (x ∷ xs) (name ∷ names)) false begins

-- an index that begins with names of which the column is none still begins with them
pub still_leads : (column : List ℕ) (indexes : List IndexDef) (names : List (List ℕ)) → 1 ≤ length names → is_among_names names column ≡ false → has_index_on indexes names ≡ true → has_index_on (flat_map (index_without column) indexes) names ≡ true
unfolding has_index_on
still_leads column indexes [] some apart has = absurd (omega arith)
still_leads column indexes (name ∷ names) some apart has =
    flat_any (λ (i : IndexDef). starts_with bytes_eq i.columns (name ∷ names)) (λ (i : IndexDef). starts_with bytes_eq i.columns (name ∷ names)) (index_without column) (λ i begins. index_still_begins column i name names apart begins) indexes has

all_stay : (column : List ℕ) (columns : List ColumnDef) (names : List (List ℕ)) → are_distinct is_same_column columns ≡ true → is_column columns column ≡ true → list_all (is_column columns) names ≡ true → is_among_names names column ≡ false → list_all (is_column (other_columns column columns)) names ≡ true
all_stay column columns [] distinct is all apart = refl
all_stay column columns (name ∷ names) distinct is all apart =
    let (here, later) = and_parts (is_column columns name) (list_all (is_column columns) names) all in
    let (first, others) = or_parts (bytes_eq column name) (is_among_names names column) apart in
    let unlike : bytes_eq name column ≡ false = false_from_ne_true (bytes_eq name column) (λ e. true≢false (sym (bytes_same column name (sym (bytes_are name column e))) ∙ first)) in
    and_from (is_column (other_columns column columns) name) (list_all (is_column (other_columns column columns)) names)
    (other_stays column name columns here (apart_from columns column name distinct is here unlike)) (all_stay column columns names distinct is later others)

some_names : (n : ℕ) → (nat_le 1 n && nat_le n 16) ≡ true → 1 ≤ n
some_names n few = grind (arith, nat_tests)

pub key_columns_some : (columns : List ColumnDef) (names : List (List ℕ)) → are_key_columns columns names ≡ true → 1 ≤ length names
unfolding are_key_columns
key_columns_some columns names fits =
    let (front, _) = and_parts (nat_le 1 (length names) && nat_le (length names) 16 && are_distinct bytes_eq names) (list_all (is_column columns) names) fits in
    some_names (length names) (and_parts (nat_le 1 (length names) && nat_le (length names) 16) (are_distinct bytes_eq names) front).0

pub key_columns_beside : (columns next : List ColumnDef) (names : List (List ℕ)) → are_key_columns columns names ≡ true → list_all (is_column next) names ≡ true → are_key_columns next names ≡ true
unfolding are_key_columns
key_columns_beside columns next names fits there =
    and_from (nat_le 1 (length names) && nat_le (length names) 16 && are_distinct bytes_eq names) (list_all (is_column next) names) (and_parts (nat_le 1 (length names) && nat_le (length names) 16 && are_distinct bytes_eq names) (list_all (is_column columns) names) fits).0 there

key_still_formed : (column : List ℕ) (columns : List ColumnDef) (indexes : List IndexDef) (key : ForeignKeyDef) → are_distinct is_same_column columns ≡ true → is_column columns column ≡ true → is_among_names key.columns column ≡ false
    → is_foreign_key_formed columns indexes key ≡ true → is_foreign_key_formed (other_columns column columns) (flat_map (index_without column) indexes) key ≡ true
key_still_formed column columns indexes key distinct is apart formed =
    let parts : IsKeyFormed columns indexes key = key_parts columns indexes key formed in
    key_from (other_columns column columns) (flat_map (index_without column) indexes) key (record {
      fits = key_columns_beside columns (other_columns column columns) key.columns parts.fits (all_stay column columns key.columns distinct is (columns_there columns key.columns parts.fits) apart);
      count = parts.count;
      has = still_leads column indexes key.columns (key_columns_some columns key.columns parts.fits) apart parts.has;
    })

keys_still_formed : (column : List ℕ) (columns : List ColumnDef) (indexes : List IndexDef) (keys : List ForeignKeyDef) → are_distinct is_same_column columns ≡ true → is_column columns column ≡ true
    → list_any (λ (key : ForeignKeyDef). is_among_names key.columns column) keys ≡ false → list_all (is_foreign_key_formed columns indexes) keys ≡ true → list_all (is_foreign_key_formed (other_columns column columns) (flat_map (index_without column) indexes)) keys ≡ true
keys_still_formed column columns indexes [] distinct is none all = refl
keys_still_formed column columns indexes (key ∷ keys) distinct is none all =
    let (here, later) = and_parts (is_foreign_key_formed columns indexes key) (list_all (is_foreign_key_formed columns indexes) keys) all in
    let (first, others) = or_parts (is_among_names key.columns column) (list_any (λ (k : ForeignKeyDef). is_among_names k.columns column) keys) none in
    and_from (is_foreign_key_formed (other_columns column columns) (flat_map (index_without column) indexes) key) (list_all (is_foreign_key_formed (other_columns column columns) (flat_map (index_without column) indexes)) keys)
    (key_still_formed column columns indexes key distinct is first here) (keys_still_formed column columns indexes keys distinct is others later)

-- ## DROP COLUMN

own_allows : (name : List ℕ) (found : Option ForeignKeyDef) → own_key_refused name found ≡ None → found ≡ None
own_allows name None is = refl
own_allows name (Some key) is = cc

-- what is known of a column that is dropped
pub record IsDropAllowed (column : List ℕ) (state : Altering) : Type 0 where
  pub more : (length state.parts.columns == 1) ≡ false
  pub own : list_any (λ (key : ForeignKeyDef). is_among_names key.columns column) state.parts.foreign_keys ≡ false

pub drop_is_allowed : (look : Look) (name column : List ℕ) (state : Altering) (x : Unit {0}) → run look (allowed_drop name column state) ≡ fine x → IsDropAllowed column state
unfolding allowed_drop
drop_is_allowed look name column state x is =
    let (_, more, after_more) = bind_fine look (refuse_if (length state.parts.columns == 1) cant_remove_all_fields) _ x is in
    let (_, own, after_own) = bind_fine look (refuse_some (refused_by_own name column state.parts.foreign_keys)) _ x after_more in
    record {
      more = not_refused look (length state.parts.columns == 1) cant_remove_all_fields tt more;
      own = find_none (λ (key : ForeignKeyDef). is_among_names key.columns column) state.parts.foreign_keys
          (own_allows name (find (λ (key : ForeignKeyDef). is_among_names key.columns column) state.parts.foreign_keys) (not_refused_some look (refused_by_own name column state.parts.foreign_keys) tt own));
    }

pub without_stands : (column name : List ℕ) (state : Altering) → Stands state.parts → IsSpelled state.parts.columns name column → IsDropAllowed column state → Stands (without_column column state.parts)
without_stands column name state good there allowed =
    let columns = state.parts.columns in
    let is : is_column state.parts.columns column ≡ true = spelled_is_column state.parts.columns name column there in
    record {
      some = some_others column columns there.column there.named good.columns good.some allowed.more;
      columns = others_stand column columns good.columns;
      indexes = without_indexes column columns state.parts.indexes good.columns.distinct is good.indexes;
      keys = record {
        formed = keys_still_formed column columns state.parts.indexes state.parts.foreign_keys good.columns.distinct is allowed.own good.keys.formed;
        distinct = good.keys.distinct;
        ordered = good.keys.ordered;
      };
    }

pub column_is_dropped : (look : Look) (name : List ℕ) (state next : Altering) → Stands state.parts → run look (drop_column name state) ≡ fine next → IsBehind state next
unfolding drop_column
column_is_dropped look name state next good is =
    let (column, found, after_column) = bind_fine look (the_name (cant_drop_field_or_key name) state.parts name) _ next is in
    let (x, allowed, last) = bind_fine look (allowed_drop name column state) _ next after_column in
    let there : IsSpelled state.parts.columns name column = name_is_spelled look (cant_drop_field_or_key name) state.parts name column found in
    let parts : Stands (without_column column state.parts) = without_stands column name state good there (drop_is_allowed look name column state x allowed) in
    subst (IsBehind state) {x = dropped column state} (fine_is last) (record {
      stands = arranged_stands state.parts (without_column column state.parts) parts;
      name = arranged_name state.parts (without_column column state.parts);
      children = λ formed. formed;
    })
