-- A table with one index more.
use Rattle.std.specs.Prelude.{◌≡◌, ℕ, ◌+◌, ◌≤◌, ◌==◌, Bool, true, false, cond, ◌&&◌, ◌||◌, not, nat_le, List, [], ◌∷◌, ◌++◌, map, length, if◌then◌else◌, refl}
use Rattle.std.specs.List.{list_any, list_all, count_by}
use Rattle.std.specs.Option.{is_none}
use Rattle.std.specs.Str.{bytes_eq}
use Rattle.std.proofs.Common.{sym, ◌∙◌, ap, subst, arith, inl, inr}
use Rattle.std.proofs.lemmas.Bool.{true≢false, and_parts, and_from, or_cases, or_parts, or_from, or_left, or_right, not-true, not_from_false, false_from_ne_true, cond_both, cond-false, cases_Bool}
use Rattle.std.proofs.lemmas.Bool.Decides.{nat_tests}
use Rattle.std.proofs.lemmas.List.{length-map}
use Rattle.dd_names.specs.Names.{same}
use Rattle.sql_types.specs.declared.words.ColumnWords.{ColumnWords}
use Rattle.sql_types.specs.declared.words.KeyWords.{KeyWords}
use Rattle.dd_definitions.specs.Columns.{is_same_column, is_typed, is_column, is_nullable, are_key_columns}
use Rattle.dd_definitions.specs.Distinct.{are_distinct}
use Rattle.dd_definitions.specs.ForeignKeys.{has_index_on}
use Rattle.dd_definitions.specs.Indexes.{is_primary, is_secondary, primary_name, is_same_index, is_integer, has_nullable, is_well_named, is_never_null, is_index_formed}
use Rattle.dd_definitions.specs.declared.columns.ColumnDef.{ColumnDef}
use Rattle.dd_definitions.specs.declared.indexes.IndexDef.{IndexDef}
use Rattle.dd_definitions.specs.declared.parts.TableParts.{TableParts}
use Rattle.dd_catalog.specs.Walks.{fine, run, refuse_if, over}
use Rattle.dd_catalog.specs.WalkLaws.{Look}
use Rattle.dd_catalog.specs.Asked.{fine_is, bind_fine, over_keeps}
use Rattle.rules_elements.specs.Keys.{has_index_named, key_of}
use Rattle.rules_refusals.specs.Refusals.{key_column_does_not_exist}
use Rattle.rules_refusals.specs.Refusals as refusals
use Rattle.rules_elements_laws.specs.Indexes.{IsIndexFit}
use Rattle.rules_elements_laws.specs.Taken.{is_auto_by_itself}
use Rattle.rules_elements_laws.proofs.IndexesFit.{indexes_are_fit}
use Rattle.rules_create.specs.Tables.{is_null_written, never_null, with_index, some_columns, one_key}
use Rattle.rules_create.proofs.Lists.{all_weaker, any_weaker, some_passes, all_push, any_in_front, distinct_push, any_map, all_map, same_any, same_all, distinct_map, each_in, count_push, count_none}
use Rattle.rules_create.proofs.Names.{bytes_are, bytes_same, not_refused}
use Rattle.rules_alter_laws.specs.Stands.{HasColumns, HasIndexes, Stands}
use Rattle.rules_alter_laws.proofs.Kept.{KeepNames, KeepNulls, names_themselves, key_columns_stay, index_from, index_parts, indexes_stay, Leads, keys_stay}

-- ## Columns that became NOT NULL

-- what holds of a column whatever it says of NULL
either_way : (names : List (List ℕ)) (column : ColumnDef) (P : ColumnDef → Type 0) → P (record column { nullable = false }) → P column → P (never_null names column)
either_way names column P narrowed as_it_is = cond_both (list_any (bytes_eq column.name) names) (record column { nullable = false }) column P (λ _. narrowed) (λ _. as_it_is)

keeps_name : (names : List (List ℕ)) (column : ColumnDef) → (never_null names column).name ≡ column.name
keeps_name names column = either_way names column (λ c. c.name ≡ column.name) refl refl

same_names : (names : List (List ℕ)) (a b : ColumnDef) → is_same_column (never_null names a) (never_null names b) ≡ is_same_column a b
same_names names a b = ap (λ n. same n (never_null names b).name) (keeps_name names a) ∙ ap (same a.name) (keeps_name names b)

keeps_type : (names : List (List ℕ)) (column : ColumnDef) → is_typed (never_null names column) ≡ is_typed column
unfolding is_typed
keeps_type names column = either_way names column (λ c. is_typed c ≡ is_typed column) refl refl

not_null_stays : (auto integer null none : Bool) → (not auto || (integer && (not null && none))) ≡ true → (not auto || (integer && (true && none))) ≡ true
not_null_stays false integer null none fits = refl
not_null_stays true true true none fits = cc
not_null_stays true true false none fits = fits
not_null_stays true false null none fits = cc

stays_auto : (names : List (List ℕ)) (column : ColumnDef) → is_auto_by_itself column ≡ true → is_auto_by_itself (never_null names column) ≡ true
stays_auto names column fits = either_way names column (λ c. is_auto_by_itself c ≡ true) (not_null_stays column.auto (is_integer column.kind) column.nullable (is_none column.default) fits) fits

abbrev nulls_gone : List (List ℕ) → List ColumnDef → List ColumnDef
nulls_gone names columns = map (never_null names) columns

nulls_gone_stand : (names : List (List ℕ)) (columns : List ColumnDef) → HasColumns columns → HasColumns (nulls_gone names columns)
nulls_gone_stand names columns good = record {
  distinct = distinct_map is_same_column (never_null names) (same_names names) columns ∙ good.distinct;
  typed = all_map is_typed (never_null names) columns ∙ same_all (λ c. is_typed (never_null names c)) is_typed (keeps_type names) columns ∙ good.typed;
  auto = all_map is_auto_by_itself (never_null names) columns ∙ all_weaker is_auto_by_itself (λ c. is_auto_by_itself (never_null names c)) (stays_auto names) columns good.auto;
}

nulls_gone_some : (names : List (List ℕ)) (columns : List ColumnDef) → 1 ≤ length columns → 1 ≤ length (nulls_gone names columns)
nulls_gone_some names columns some = subst (λ n. 1 ≤ n) (sym (length-map columns (never_null names))) some

nulls_gone_names : (names : List (List ℕ)) (columns : List ColumnDef) → KeepNames columns (nulls_gone names columns)
unfolding is_column
nulls_gone_names names columns = record {
  there = λ name is. any_map (λ (c : ColumnDef). bytes_eq c.name name) (never_null names) columns
      ∙ same_any (λ (c : ColumnDef). bytes_eq (never_null names c).name name) (λ (c : ColumnDef). bytes_eq c.name name) (λ c. ap (λ n. bytes_eq n name) (keeps_name names c)) columns ∙ is;
}

null_before : (names : List (List ℕ)) (name : List ℕ) (c : ColumnDef) → (bytes_eq (never_null names c).name name && (never_null names c).nullable) ≡ true → (bytes_eq c.name name && c.nullable) ≡ true
null_before names name c = either_way names c (λ d. (bytes_eq d.name name && d.nullable) ≡ true → (bytes_eq c.name name && c.nullable) ≡ true) (λ never. absurd (true≢false (sym (and_parts (bytes_eq c.name name) false never).1))) (λ here. here)

nulls_gone_nulls : (names : List (List ℕ)) (columns : List ColumnDef) → KeepNulls columns (nulls_gone names columns)
unfolding is_nullable
nulls_gone_nulls names columns = record {
  none = λ name there null. any_weaker (λ (c : ColumnDef). bytes_eq (never_null names c).name name && (never_null names c).nullable) (λ (c : ColumnDef). bytes_eq c.name name && c.nullable)
      (null_before names name) columns (sym (any_map (λ (c : ColumnDef). bytes_eq c.name name && c.nullable) (never_null names) columns) ∙ null);
}

-- a column that may still be NULL is none of the names
not_of_names : (names : List (List ℕ)) (columns : List ColumnDef) (name : List ℕ) → is_nullable (nulls_gone names columns) name ≡ true → list_any (bytes_eq name) names ≡ false
unfolding is_nullable
not_of_names names [] name is = cc
not_of_names names (c ∷ cs) name is = elim (or_cases (bytes_eq (never_null names c).name name && (never_null names c).nullable) (is_nullable (nulls_gone names cs) name) is) [
  | inl here ↦ on (list_any (bytes_eq c.name) names) refl here
  | inr later ↦ not_of_names names cs name later
]
  where
    on : (b : Bool) → list_any (bytes_eq c.name) names ≡ b
        → (bytes_eq (if b then record c { nullable = false } else c).name name && (if b then record c { nullable = false } else c).nullable) ≡ true → list_any (bytes_eq name) names ≡ false
    on true among here = absurd (true≢false (sym (and_parts (bytes_eq c.name name) false here).1))
    on false apart here = ap (λ (n : List ℕ). list_any (bytes_eq n) names) (sym (bytes_are c.name name (and_parts (bytes_eq c.name name) c.nullable here).0)) ∙ apart

none_null : (columns : List ColumnDef) (index : IndexDef) → has_nullable (nulls_gone index.columns columns) index ≡ false
unfolding has_nullable
none_null columns index = false_from_ne_true (list_any (is_nullable (nulls_gone index.columns columns)) index.columns) (λ any.
    let found = some_passes (λ name. list_any (bytes_eq name) index.columns) (is_nullable (nulls_gone index.columns columns)) index.columns (each_in bytes_eq (λ n. bytes_same n n refl) index.columns) any in
    true≢false (sym found.1 ∙ not_of_names index.columns columns found.0 found.2))

-- ## The name of the index

-- where none is primary, none is named so
no_primary_name : (indexes : List IndexDef) → list_all is_well_named indexes ≡ true → list_any is_primary indexes ≡ false → has_index_named indexes primary_name ≡ false
unfolding is_well_named
no_primary_name [] named none = refl
no_primary_name (i ∷ is) named none =
    let (here, rest) = and_parts (if is_primary i then bytes_eq i.name primary_name else not (same i.name primary_name)) (list_all is_well_named is) named in
    let (secondary, others) = or_parts (is_primary i) (list_any is_primary is) none in
    let apart : not (same i.name primary_name) ≡ true = sym (cond-false (is_primary i) (bytes_eq i.name primary_name) (not (same i.name primary_name)) secondary) ∙ here in
    or_from (same i.name primary_name) (has_index_named is primary_name) (not-true (same i.name primary_name) apart) (no_primary_name is rest others)

primary_is_named : (index : IndexDef) → is_well_named index ≡ true → is_primary index ≡ true → index.name ≡ primary_name
unfolding is_well_named
primary_is_named index named primary = bytes_are index.name primary_name (sym (ap (λ b. cond b (bytes_eq index.name primary_name) (not (same index.name primary_name))) primary) ∙ named)

name_is_new : (columns : List ColumnDef) (parts : TableParts) (words : KeyWords) (index : IndexDef) → list_all (is_index_formed columns) parts.indexes ≡ true → IsIndexFit parts words index → has_index_named parts.indexes index.name ≡ false
name_is_new columns parts words index formed fit = elim (cases_Bool (is_primary index)) [
  | inl primary ↦
      ap (has_index_named parts.indexes) (primary_is_named index fit.named primary)
      ∙ no_primary_name parts.indexes (all_weaker (is_index_formed columns) is_well_named (λ i is. (index_parts columns i is).named) parts.indexes formed) (fit.alone primary)
  | inr secondary ↦ fit.free secondary
]

-- ## The table with the index

pub record IsIndexAdded (parts : TableParts) (index : IndexDef) (next : TableParts) : Type 0 where
  pub stands : Stands next
  pub name : next.name ≡ parts.name
  pub foreign_keys : next.foreign_keys ≡ parts.foreign_keys
  pub names : KeepNames parts.columns next.columns
  pub leads : Leads parts.indexes next.indexes
  pub last : next.indexes ≡ parts.indexes ++ index ∷ []

leads_first : (indexes : List IndexDef) (index : IndexDef) → Leads indexes (indexes ++ index ∷ [])
unfolding has_index_on
leads_first indexes index = record { on = λ names has. any_in_front _ indexes (index ∷ []) has }

one_primary : (indexes : List IndexDef) (index : IndexDef) → count_by is_primary indexes ≤ 1 → (is_primary index ≡ true → list_any is_primary indexes ≡ false) → count_by is_primary (indexes ++ index ∷ []) ≤ 1
one_primary indexes index most alone = let count = count_push is_primary indexes index in on (is_primary index) alone count
  where
    on : (b : Bool) → (b ≡ true → list_any is_primary indexes ≡ false) → count_by is_primary (indexes ++ index ∷ []) ≡ count_by is_primary indexes + (if b then 1 else 0) → count_by is_primary (indexes ++ index ∷ []) ≤ 1
    on true alone count = let none_before : count_by is_primary indexes ≡ 0 = count_none is_primary indexes (alone refl) in omega arith
    on false alone count = omega arith

few_fit : (n : ℕ) → (n == 0) ≡ false → n ≤ 16 → (nat_le 1 n && nat_le n 16) ≡ true
few_fit n some few = grind (arith, nat_tests)

index_fits : (parts : TableParts) (words : KeyWords) (index : IndexDef) → (length words.columns == 0) ≡ false → IsIndexFit parts words index → are_key_columns parts.columns index.columns ≡ true
unfolding are_key_columns
index_fits parts words index some fit =
    let counted : (length index.columns == 0) ≡ false = ap (λ n. n == 0) fit.count ∙ some in
    and_from (nat_le 1 (length index.columns) && nat_le (length index.columns) 16 && are_distinct bytes_eq index.columns) (list_all (is_column parts.columns) index.columns)
    (and_from (nat_le 1 (length index.columns) && nat_le (length index.columns) 16) (are_distinct bytes_eq index.columns) (few_fit (length index.columns) counted fit.few) fit.distinct) fit.there

indexes_with : (parts : TableParts) (words : KeyWords) (index : IndexDef) (next : List ColumnDef) → HasIndexes parts.columns parts.indexes → IsIndexFit parts words index → are_key_columns parts.columns index.columns ≡ true → KeepNames parts.columns next → KeepNulls parts.columns next
    → is_never_null next index ≡ true → HasIndexes next (parts.indexes ++ index ∷ [])
indexes_with parts words index next good fit fits names nulls never =
    let stay : HasIndexes next parts.indexes = indexes_stay parts.columns next parts.indexes names nulls good in
    record {
      distinct = distinct_push is_same_index parts.indexes index good.distinct (name_is_new parts.columns parts words index good.formed fit);
      formed = all_push (is_index_formed next) parts.indexes index stay.formed (index_from next index (record { fits = key_columns_stay parts.columns next names index.columns fits; named = fit.named; never = never }));
      single = one_primary parts.indexes index good.single fit.alone;
    }

with_columns_stands : (parts : TableParts) (words : KeyWords) (index : IndexDef) (next : List ColumnDef) → Stands parts → IsIndexFit parts words index → are_key_columns parts.columns index.columns ≡ true → 1 ≤ length next → HasColumns next → KeepNames parts.columns next → KeepNulls parts.columns next
    → is_never_null next index ≡ true → IsIndexAdded parts index (record parts { indexes = parts.indexes ++ index ∷ []; columns = next })
with_columns_stands parts words index next good fit fits some columns names nulls never = record {
  stands = record {
    some = some;
    columns = columns;
    indexes = indexes_with parts words index next good.indexes fit fits names nulls never;
    keys = keys_stay parts.columns next parts.indexes (parts.indexes ++ index ∷ []) parts.foreign_keys names (leads_first parts.indexes index) good.keys;
  };
  name = refl;
  foreign_keys = refl;
  names = names;
  leads = leads_first parts.indexes index;
  last = refl;
}

with_index_stands : (parts : TableParts) (words : KeyWords) (index : IndexDef) → Stands parts → IsIndexFit parts words index → are_key_columns parts.columns index.columns ≡ true → IsIndexAdded parts index (with_index parts index)
unfolding with_index is_never_null
with_index_stands parts words index good fit fits = on (is_primary index) refl
  where
    on : (b : Bool) → is_primary index ≡ b → IsIndexAdded parts index (record parts { indexes = parts.indexes ++ index ∷ []; columns = if b then nulls_gone index.columns parts.columns else parts.columns })
    on true primary = with_columns_stands parts words index (nulls_gone index.columns parts.columns) good fit fits (nulls_gone_some index.columns parts.columns good.some) (nulls_gone_stand index.columns parts.columns good.columns) (nulls_gone_names index.columns parts.columns) (nulls_gone_nulls index.columns parts.columns)
        (or_right (is_secondary index) (not (has_nullable (nulls_gone index.columns parts.columns) index)) (not_from_false (has_nullable (nulls_gone index.columns parts.columns) index) (none_null parts.columns index)))
    on false secondary = with_columns_stands parts words index parts.columns good fit fits good.some good.columns (names_themselves parts.columns) (record { none = λ name there null. null })
        (or_left (is_secondary index) (not (has_nullable parts.columns index)) (not_from_false (is_primary index) secondary))

pub index_is_added : (look : Look) (parts : TableParts) (words : KeyWords) (index : IndexDef) → Stands parts → (length words.columns == 0) ≡ false → run look (key_of parts words) ≡ fine index → IsIndexAdded parts index (with_index parts index)
index_is_added look parts words index good some made =
    let fit : IsIndexFit parts words index = indexes_are_fit look parts words index made in
    with_index_stands parts words index good fit (index_fits parts words index some fit)

-- ## A key, and several

-- the table with some indexes more
pub record IsKeyed (parts next : TableParts) : Type 0 where
  pub stands : Stands next
  pub name : next.name ≡ parts.name
  pub foreign_keys : next.foreign_keys ≡ parts.foreign_keys
  pub names : KeepNames parts.columns next.columns
  pub leads : Leads parts.indexes next.indexes

pub key_is_added : (look : Look) (written : List ColumnWords) (parts : TableParts) (words : KeyWords) (next : TableParts) → Stands parts → run look (one_key written parts words) ≡ fine next → IsKeyed parts next
unfolding one_key
key_is_added look written parts words next good is =
    let (_, some, after_some) = bind_fine look (some_columns words.columns) _ next is in
    let (index, made, after_index) = bind_fine look (key_of parts words) _ next after_some in
    let (_, not_null, last) = bind_fine look (refuse_if (is_primary index && list_any (is_null_written written) index.columns) refusals.primary_cant_have_null) _ next after_index in
    let any = not_refused look (length words.columns == 0) (key_column_does_not_exist []) tt some in
    let added : IsIndexAdded parts index (with_index parts index) = index_is_added look parts words index good any made in
    subst (IsKeyed parts) {x = with_index parts index} (fine_is last) (record { stands = added.stands; name = added.name; foreign_keys = added.foreign_keys; names = added.names; leads = added.leads })

pub keys_are_added : (look : Look) (written : List ColumnWords) (start : TableParts) (words : List KeyWords) (next : TableParts) → Stands start → run look (over (one_key written) start words) ≡ fine next → IsKeyed start next
keys_are_added look written start words next good is =
    over_keeps (IsKeyed start) look (one_key written) (λ state key behind so_far made. key_more state key behind so_far made) start words next (record { stands = good; name = refl; foreign_keys = refl; names = names_themselves start.columns; leads = record { on = λ names has. has } }) is
  where
    key_more : (state : TableParts) (key : KeyWords) (behind : TableParts) → IsKeyed start state → run look (one_key written state key) ≡ fine behind → IsKeyed start behind
    key_more state key behind so_far made =
        let one : IsKeyed state behind = key_is_added look written state key behind so_far.stands made in
        record {
          stands = one.stands;
          name = one.name ∙ so_far.name;
          foreign_keys = one.foreign_keys ∙ so_far.foreign_keys;
          names = record { there = λ name there. one.names.there name (so_far.names.there name there) };
          leads = record { on = λ names has. one.leads.on names (so_far.leads.on names has) };
        }
