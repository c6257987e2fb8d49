-- What stays of indexes and foreign keys beside other columns and other indexes.
use Rattle.std.specs.Prelude.{◌≡◌, ℕ, ◌≤◌, ◌==◌, true, false, ◌&&◌, not, nat_le, List, [], ◌∷◌, length, refl}
use Rattle.std.specs.List.{list_any, list_all}
use Rattle.std.specs.Str.{bytes_eq}
use Rattle.std.proofs.Common.{sym, ◌∙◌, subst, inl, inr}
use Rattle.std.proofs.lemmas.Bool.{true≢false, and_parts, and_from, or_cases, or_parts, or_from, or_left, or_right, not-true, not_from_false, false_from_ne_true}
use Rattle.dd_names.specs.Names.{same, fold}
use Rattle.dd_definitions.specs.Columns.{is_column, is_nullable, are_key_columns}
use Rattle.dd_definitions.specs.Distinct.{are_distinct}
use Rattle.dd_definitions.specs.ForeignKeys.{has_index_on, is_foreign_key_formed}
use Rattle.dd_definitions.specs.Indexes.{is_secondary, is_primary, has_nullable, is_well_named, is_never_null, is_index_formed, is_same_index}
use Rattle.dd_definitions.specs.declared.columns.ColumnDef.{ColumnDef}
use Rattle.dd_definitions.specs.declared.foreign_keys.ForeignKeyDef.{ForeignKeyDef}
use Rattle.dd_definitions.specs.declared.indexes.IndexDef.{IndexDef}
use Rattle.rules_create.proofs.Lists.{all_weaker}
use Rattle.rules_create.proofs.Names.{bytes_are, bytes_same, same_turned}
use Rattle.rules_alter_laws.specs.Stands.{HasIndexes, HasKeys}
use Rattle.rules_alter_laws.proofs.Lists.{AreAlike, SortsItems, alike_all, alike_any, alike_distinct}

-- ## Names in any case sort what has them

pub sorts_by : {X : Type 0} (name : X → List ℕ) → SortsItems (λ (a b : X). same (name a) (name b))
sorts_by name = record {
  itself = λ x. bytes_same (fold (name x)) (fold (name x)) refl;
  turned = λ x y. same_turned (name x) (name y);
  through = λ x y z one other. bytes_same (fold (name y)) (fold (name z)) (sym (bytes_are (fold (name x)) (fold (name y)) one) ∙ bytes_are (fold (name x)) (fold (name z)) other);
}

-- ## Other columns

-- each name of a column stays one
pub record KeepNames (columns next : List ColumnDef) : Type 0 where
  pub there : (name : List ℕ) → is_column columns name ≡ true → is_column next name ≡ true

-- a column that may be NULL was there so
pub record KeepNulls (columns next : List ColumnDef) : Type 0 where
  pub none : (name : List ℕ) → is_column columns name ≡ true → is_nullable next name ≡ true → is_nullable columns name ≡ true

pub names_themselves : (columns : List ColumnDef) → KeepNames columns columns
names_themselves columns = record { there = λ name is. is }

pub columns_there : (columns : List ColumnDef) (names : List (List ℕ)) → are_key_columns columns names ≡ true → list_all (is_column columns) names ≡ true
unfolding are_key_columns
columns_there columns names fits = (and_parts (nat_le 1 (length names) && nat_le (length names) 16 && are_distinct bytes_eq names) (list_all (is_column columns) names) fits).1

pub key_columns_stay : (columns next : List ColumnDef) → KeepNames columns next → (names : List (List ℕ)) → are_key_columns columns names ≡ true → are_key_columns next names ≡ true
unfolding are_key_columns
key_columns_stay columns next keep names fits =
    let (front, there) = and_parts (nat_le 1 (length names) && nat_le (length names) 16 && are_distinct bytes_eq names) (list_all (is_column columns) names) fits in
    and_from (nat_le 1 (length names) && nat_le (length names) 16 && are_distinct bytes_eq names) (list_all (is_column next) names) front (all_weaker (is_column columns) (is_column next) keep.there names there)

-- ## Indexes

pub record IsIndexFormed (columns : List ColumnDef) (index : IndexDef) : Type 0 where
  pub fits : are_key_columns columns index.columns ≡ true
  pub named : is_well_named index ≡ true
  pub never : is_never_null columns index ≡ true

pub index_parts : (columns : List ColumnDef) (index : IndexDef) → is_index_formed columns index ≡ true → IsIndexFormed columns index
unfolding is_index_formed
index_parts columns index formed =
    let (both, never) = and_parts (are_key_columns columns index.columns && is_well_named index) (is_never_null columns index) formed in
    let (fits, named) = and_parts (are_key_columns columns index.columns) (is_well_named index) both in
    record { fits = fits; named = named; never = never }

pub index_from : (columns : List ColumnDef) (index : IndexDef) → IsIndexFormed columns index → is_index_formed columns index ≡ true
unfolding is_index_formed
index_from columns index parts =
    and_from (are_key_columns columns index.columns && is_well_named index) (is_never_null columns index) (and_from (are_key_columns columns index.columns) (is_well_named index) parts.fits parts.named) parts.never

pub none_null_stays : (columns next : List ColumnDef) → KeepNulls columns next → (names : List (List ℕ)) → list_all (is_column columns) names ≡ true → list_any (is_nullable columns) names ≡ false → list_any (is_nullable next) names ≡ false
none_null_stays columns next keep [] all none = refl
none_null_stays columns next keep (name ∷ names) all none =
    let (here, later) = and_parts (is_column columns name) (list_all (is_column columns) names) all in
    let (first, others) = or_parts (is_nullable columns name) (list_any (is_nullable columns) names) none in
    or_from (is_nullable next name) (list_any (is_nullable next) names) (false_from_ne_true (is_nullable next name) (λ null. true≢false (sym (keep.none name here null) ∙ first))) (none_null_stays columns next keep names later others)

pub never_null_stays : (columns next : List ColumnDef) → KeepNulls columns next → (index : IndexDef) → list_all (is_column columns) index.columns ≡ true → is_never_null columns index ≡ true → is_never_null next index ≡ true
unfolding is_never_null has_nullable
never_null_stays columns next keep index there never = elim (or_cases (is_secondary index) (not (list_any (is_nullable columns) index.columns)) never) [
  | inl secondary ↦ or_left (is_secondary index) (not (list_any (is_nullable next) index.columns)) secondary
  | inr none ↦ or_right (is_secondary index) (not (list_any (is_nullable next) index.columns))
      (not_from_false (list_any (is_nullable next) index.columns) (none_null_stays columns next keep index.columns there (not-true (list_any (is_nullable columns) index.columns) none)))
]

pub index_stays : (columns next : List ColumnDef) → KeepNames columns next → KeepNulls columns next → (index : IndexDef) → is_index_formed columns index ≡ true → is_index_formed next index ≡ true
index_stays columns next names nulls index formed =
    let parts : IsIndexFormed columns index = index_parts columns index formed in
    index_from next index (record {
      fits = key_columns_stay columns next names index.columns parts.fits;
      named = parts.named;
      never = never_null_stays columns next nulls index (columns_there columns index.columns parts.fits) parts.never;
    })

pub indexes_stay : (columns next : List ColumnDef) (indexes : List IndexDef) → KeepNames columns next → KeepNulls columns next → HasIndexes columns indexes → HasIndexes next indexes
indexes_stay columns next indexes names nulls good = record {
  distinct = good.distinct;
  formed = all_weaker (is_index_formed columns) (is_index_formed next) (index_stays columns next names nulls) indexes good.formed;
  single = good.single;
}

-- the same indexes in another order
pub indexes_alike : (columns : List ColumnDef) (indexes others : List IndexDef) → AreAlike indexes others → HasIndexes columns indexes → HasIndexes columns others
indexes_alike columns indexes others alike good = record {
  distinct = alike_distinct is_same_index (sorts_by (λ (i : IndexDef). i.name)) indexes others alike good.distinct;
  formed = alike_all (is_index_formed columns) indexes others alike good.formed;
  single = subst (λ n. n ≤ 1) (alike.counts is_primary) good.single;
}

-- ## Foreign keys

-- where an index begins with the names, one of the others does
pub record Leads (indexes others : List IndexDef) : Type 0 where
  pub on : (names : List (List ℕ)) → has_index_on indexes names ≡ true → has_index_on others names ≡ true

pub leads_itself : (indexes : List IndexDef) → Leads indexes indexes
leads_itself indexes = record { on = λ names has. has }

pub leads_through : {xs ys zs : List IndexDef} → Leads xs ys → Leads ys zs → Leads xs zs
leads_through one other = record { on = λ names has. other.on names (one.on names has) }

pub leads_alike : (indexes others : List IndexDef) → AreAlike indexes others → Leads indexes others
unfolding has_index_on
leads_alike indexes others alike = record { on = λ names has. alike_any _ indexes others alike has }

pub record IsKeyFormed (columns : List ColumnDef) (indexes : List IndexDef) (key : ForeignKeyDef) : Type 0 where
  pub fits : are_key_columns columns key.columns ≡ true
  pub count : (length key.columns == length key.parent_columns) ≡ true
  pub has : has_index_on indexes key.columns ≡ true

pub key_parts : (columns : List ColumnDef) (indexes : List IndexDef) (key : ForeignKeyDef) → is_foreign_key_formed columns indexes key ≡ true → IsKeyFormed columns indexes key
unfolding is_foreign_key_formed
key_parts columns indexes key formed =
    let (both, has) = and_parts (are_key_columns columns key.columns && (length key.columns == length key.parent_columns)) (has_index_on indexes key.columns) formed in
    let (fits, count) = and_parts (are_key_columns columns key.columns) (length key.columns == length key.parent_columns) both in
    record { fits = fits; count = count; has = has }

pub key_from : (columns : List ColumnDef) (indexes : List IndexDef) (key : ForeignKeyDef) → IsKeyFormed columns indexes key → is_foreign_key_formed columns indexes key ≡ true
unfolding is_foreign_key_formed
key_from columns indexes key parts =
    and_from (are_key_columns columns key.columns && (length key.columns == length key.parent_columns)) (has_index_on indexes key.columns) (and_from (are_key_columns columns key.columns) (length key.columns == length key.parent_columns) parts.fits parts.count) parts.has

pub key_stays : (columns next : List ColumnDef) (indexes others : List IndexDef) → KeepNames columns next → Leads indexes others → (key : ForeignKeyDef) → is_foreign_key_formed columns indexes key ≡ true → is_foreign_key_formed next others key ≡ true
key_stays columns next indexes others names leads key formed =
    let parts : IsKeyFormed columns indexes key = key_parts columns indexes key formed in
    key_from next others key (record { fits = key_columns_stay columns next names key.columns parts.fits; count = parts.count; has = leads.on key.columns parts.has })

pub keys_stay : (columns next : List ColumnDef) (indexes others : List IndexDef) (keys : List ForeignKeyDef) → KeepNames columns next → Leads indexes others → HasKeys columns indexes keys → HasKeys next others keys
keys_stay columns next indexes others keys names leads good = record {
  formed = all_weaker (is_foreign_key_formed columns indexes) (is_foreign_key_formed next others) (key_stays columns next indexes others names leads) keys good.formed;
  distinct = good.distinct;
  ordered = good.ordered;
}
