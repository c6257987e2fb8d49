-- A table with one index more.
use Rattle.std.specs.Prelude.{◌≡◌, ℕ, ◌+◌, ◌≤◌, Bool, true, false, ◌&&◌, not, nat_le, List, [], ◌∷◌, ◌++◌, map, length, if◌then◌else◌, refl}
use Rattle.std.specs.List.{list_any, list_all, count_by}
use Rattle.std.specs.Option.{is_none}
use Rattle.std.specs.Str.{bytes_eq}
use Rattle.std.proofs.Common.{sym, ◌∙◌, ap, subst, arith, inl, inr}
use Rattle.std.proofs.lemmas.Bool.{true≢false, and_parts, and_from, or_cases, or_left, or_right, not-true, not_from_false, false_from_ne_true, cond_both}
use Rattle.std.proofs.lemmas.List.{length-map}
use Rattle.dd_names.specs.Names.{same}
use Rattle.sql_types.specs.declared.words.KeyWords.{KeyWords}
use Rattle.dd_definitions.specs.Columns.{is_same_column, are_columns_named, is_typed, are_columns_formed, is_column, is_nullable, are_key_columns}
use Rattle.dd_definitions.specs.Distinct.{are_distinct}
use Rattle.dd_definitions.specs.Indexes.{is_primary, is_secondary, is_same_index, is_integer, has_nullable, is_well_named, is_never_null, is_index_formed}
use Rattle.dd_definitions.specs.declared.columns.ColumnDef.{ColumnDef}
use Rattle.dd_definitions.specs.declared.indexes.IndexDef.{IndexDef}
use Rattle.dd_definitions.specs.declared.parts.TableParts.{TableParts}
use Rattle.dd_catalog.specs.WalkLaws.{Look}
use Rattle.rules_create.specs.Tables.{never_null, with_index}
use Rattle.rules_create.proofs.MadeColumns.{is_auto_sound, AreSound}
use Rattle.rules_create.proofs.MadeKeys.{IsIndexMade}
use Rattle.rules_create.proofs.Lists.{all_weaker, any_weaker, none_stronger, some_passes, all_push, distinct_push, any_map, all_map, same_any, same_all, distinct_map, each_in, count_push, count_none}
use Rattle.rules_create.proofs.Names.{bytes_are, bytes_same}

-- ## Columns that became NOT NULL

-- the same columns, some of which may no longer be NULL
pub record AreNarrower (columns narrower : List ColumnDef) : Type 0 where
  pub column : (name : List ℕ) → is_column narrower name ≡ is_column columns name
  pub nullable : (name : List ℕ) → is_nullable narrower name ≡ true → is_nullable columns name ≡ true

-- what holds of a column whatever it says of NULL
either_way : (names : List (List ℕ)) (column : ColumnDef) (P : ColumnDef → Type 0) → P (record column { nullable = false }) → P column → P (never_null names column)
either_way names column P narrowed as_it_is = cond_both (list_any (bytes_eq column.name) names) (record column { nullable = false }) column P (λ _. narrowed) (λ _. as_it_is)

keeps_name : (names : List (List ℕ)) (column : ColumnDef) → (never_null names column).name ≡ column.name
keeps_name names column = either_way names column (λ c. c.name ≡ column.name) refl refl

same_names : (names : List (List ℕ)) (a b : ColumnDef) → is_same_column (never_null names a) (never_null names b) ≡ is_same_column a b
same_names names a b = ap (λ n. same n (never_null names b).name) (keeps_name names a) ∙ ap (same a.name) (keeps_name names b)

keeps_type : (names : List (List ℕ)) (column : ColumnDef) → is_typed (never_null names column) ≡ is_typed column
unfolding is_typed
keeps_type names column = either_way names column (λ c. is_typed c ≡ is_typed column) refl refl

stays_sound : (names : List (List ℕ)) (column : ColumnDef) → is_auto_sound column ≡ true → is_auto_sound (never_null names column) ≡ true
stays_sound names column sound = either_way names column (λ c. is_auto_sound c ≡ true) (elim (or_cases (not column.auto) (is_integer column.kind && not column.nullable && is_none column.default) sound) [
  | inl plain ↦ or_left (not column.auto) (is_integer column.kind && true && is_none column.default) plain
  | inr auto ↦
      let (both, none) = and_parts (is_integer column.kind && not column.nullable) (is_none column.default) auto in
      let integer = (and_parts (is_integer column.kind) (not column.nullable) both).0 in
      or_right (not column.auto) (is_integer column.kind && true && is_none column.default) (and_from (is_integer column.kind && true) (is_none column.default) (and_from (is_integer column.kind) true integer refl) none)
]) sound

abbrev nulls_gone : List (List ℕ) → List ColumnDef → List ColumnDef
nulls_gone names columns = map (never_null names) columns

narrower_columns : (names : List (List ℕ)) (columns : List ColumnDef) → AreNarrower columns (nulls_gone names columns)
unfolding is_column is_nullable
narrower_columns names columns = record {
  column = λ name. any_map (λ (c : ColumnDef). bytes_eq c.name name) (never_null names) columns
      ∙ same_any (λ (c : ColumnDef). bytes_eq (never_null names c).name name) (λ (c : ColumnDef). bytes_eq c.name name) (λ c. ap (λ n. bytes_eq n name) (keeps_name names c)) columns;
  nullable = λ name is. any_weaker (λ (c : ColumnDef). bytes_eq (never_null names c).name name && (never_null names c).nullable) (λ (c : ColumnDef). bytes_eq c.name name && c.nullable)
      (λ c. either_way names c (λ d. (bytes_eq d.name name && d.nullable) ≡ true → (bytes_eq c.name name && c.nullable) ≡ true) (λ never. absurd (true≢false (sym (and_parts (bytes_eq c.name name) false never).1))) (λ here. here))
      columns (sym (any_map (λ (c : ColumnDef). bytes_eq c.name name && c.nullable) (never_null names) columns) ∙ is);
}

columns_formed : (names : List (List ℕ)) (columns : List ColumnDef) → are_columns_formed (nulls_gone names columns) ≡ are_columns_formed columns
unfolding are_columns_formed are_columns_named
columns_formed names columns =
    let counted : (nat_le 1 (length (nulls_gone names columns)) && nat_le (length (nulls_gone names columns)) 1017) ≡ (nat_le 1 (length columns) && nat_le (length columns) 1017) = ap (λ n. nat_le 1 n && nat_le n 1017) (length-map columns (never_null names)) in
    let distinct : are_distinct is_same_column (nulls_gone names columns) ≡ are_distinct is_same_column columns = distinct_map is_same_column (never_null names) (same_names names) columns in
    let typed : list_all is_typed (nulls_gone names columns) ≡ list_all is_typed columns = all_map is_typed (never_null names) columns ∙ same_all (λ c. is_typed (never_null names c)) is_typed (keeps_type names) columns in
    cc

stay_sound : (names : List (List ℕ)) (columns : List ColumnDef) → AreSound columns → AreSound (nulls_gone names columns)
stay_sound names columns good = record {
  formed = columns_formed names columns ∙ good.formed;
  distinct = distinct_map is_same_column (never_null names) (same_names names) columns ∙ good.distinct;
  sound = all_map is_auto_sound (never_null names) columns ∙ all_weaker is_auto_sound (λ c. is_auto_sound (never_null names c)) (stays_sound names) columns good.sound;
}

-- a column that may still be NULL is none of the names
not_of_names : (names : List (List ℕ)) (columns : List ColumnDef) (name : List ℕ) → is_nullable (nulls_gone names columns) name ≡ true → list_any (bytes_eq name) names ≡ false
unfolding is_nullable
not_of_names names [] name is = cc
not_of_names names (c ∷ cs) name is = elim (or_cases (bytes_eq (never_null names c).name name && (never_null names c).nullable) (is_nullable (nulls_gone names cs) name) is) [
  | inl here ↦ on (list_any (bytes_eq c.name) names) refl here
  | inr later ↦ not_of_names names cs name later
]
  where
    on : (b : Bool) → list_any (bytes_eq c.name) names ≡ b
        → (bytes_eq (if b then record c { nullable = false } else c).name name && (if b then record c { nullable = false } else c).nullable) ≡ true → list_any (bytes_eq name) names ≡ false
    on true among here = absurd (true≢false (sym (and_parts (bytes_eq c.name name) false here).1))
    on false apart here = ap (λ (n : List ℕ). list_any (bytes_eq n) names) (sym (bytes_are c.name name (and_parts (bytes_eq c.name name) c.nullable here).0)) ∙ apart

none_null : (columns : List ColumnDef) (index : IndexDef) → has_nullable (nulls_gone index.columns columns) index ≡ false
unfolding has_nullable
none_null columns index = false_from_ne_true (list_any (is_nullable (nulls_gone index.columns columns)) index.columns) (λ any.
    let found = some_passes (λ name. list_any (bytes_eq name) index.columns) (is_nullable (nulls_gone index.columns columns)) index.columns (each_in bytes_eq (λ n. bytes_same n n refl) index.columns) any in
    true≢false (sym found.1 ∙ not_of_names index.columns columns found.0 found.2))

-- ## What stays of indexes

pub key_columns_stay : (columns narrower : List ColumnDef) → AreNarrower columns narrower → (names : List (List ℕ)) → are_key_columns narrower names ≡ are_key_columns columns names
unfolding are_key_columns
key_columns_stay columns narrower less names = ap (λ b. nat_le 1 (length names) && nat_le (length names) 16 && are_distinct bytes_eq names && b) (same_all (is_column narrower) (is_column columns) less.column names)

stays_never_null : (columns narrower : List ColumnDef) → AreNarrower columns narrower → (index : IndexDef) → is_never_null columns index ≡ true → is_never_null narrower index ≡ true
unfolding is_never_null has_nullable
stays_never_null columns narrower less index is = elim (or_cases (is_secondary index) (not (list_any (is_nullable columns) index.columns)) is) [
  | inl secondary ↦ or_left (is_secondary index) (not (list_any (is_nullable narrower) index.columns)) secondary
  | inr never ↦ or_right (is_secondary index) (not (list_any (is_nullable narrower) index.columns))
      (not_from_false (list_any (is_nullable narrower) index.columns) (none_stronger (is_nullable columns) (is_nullable narrower) less.nullable index.columns (not-true (list_any (is_nullable columns) index.columns) never)))
]

index_stays : (columns narrower : List ColumnDef) → AreNarrower columns narrower → (index : IndexDef) → is_index_formed columns index ≡ true → is_index_formed narrower index ≡ true
unfolding is_index_formed
index_stays columns narrower less index is =
    let (both, never) = and_parts (are_key_columns columns index.columns && is_well_named index) (is_never_null columns index) is in
    let (fits, named) = and_parts (are_key_columns columns index.columns) (is_well_named index) both in
    and_from (are_key_columns narrower index.columns && is_well_named index) (is_never_null narrower index)
    (and_from (are_key_columns narrower index.columns) (is_well_named index) (key_columns_stay columns narrower less index.columns ∙ fits) named) (stays_never_null columns narrower less index never)

-- ## The table with the index

pub record IsWith (parts : TableParts) (index : IndexDef) (next : TableParts) : Type 0 where
  pub name : next.name ≡ parts.name
  pub indexes : next.indexes ≡ parts.indexes ++ index ∷ []
  pub foreign_keys : next.foreign_keys ≡ parts.foreign_keys
  pub narrower : AreNarrower parts.columns next.columns
  pub sound : AreSound next.columns
  pub never_null : is_never_null next.columns index ≡ true

pub index_is_with : (parts : TableParts) (index : IndexDef) → AreSound parts.columns → IsWith parts index (with_index parts index)
unfolding with_index is_never_null
index_is_with parts index sound = on (is_primary index) refl
  where
    on : (b : Bool) → is_primary index ≡ b → IsWith parts index (record parts { indexes = parts.indexes ++ index ∷ []; columns = if b then nulls_gone index.columns parts.columns else parts.columns })
    on true primary = record {
      name = refl;
      indexes = refl;
      foreign_keys = refl;
      narrower = narrower_columns index.columns parts.columns;
      sound = stay_sound index.columns parts.columns sound;
      never_null = or_right (is_secondary index) (not (has_nullable (nulls_gone index.columns parts.columns) index)) (not_from_false (has_nullable (nulls_gone index.columns parts.columns) index) (none_null parts.columns index));
    }
    on false secondary = record {
      name = refl;
      indexes = refl;
      foreign_keys = refl;
      narrower = record { column = λ name. refl; nullable = λ name is. is };
      sound = sound;
      never_null = or_left (is_secondary index) (not (has_nullable parts.columns index)) (not_from_false (is_primary index) secondary);
    }

-- the columns and the indexes of a table that is made
pub record AreIndexed (parts : TableParts) : Type 0 where
  pub sound : AreSound parts.columns
  pub distinct : are_distinct is_same_index parts.indexes ≡ true
  pub formed : list_all (is_index_formed parts.columns) parts.indexes ≡ true
  pub single : count_by is_primary parts.indexes ≤ 1

one_primary : (indexes : List IndexDef) (index : IndexDef) → count_by is_primary indexes ≤ 1 → (is_primary index && list_any is_primary indexes) ≡ false → count_by is_primary (indexes ++ index ∷ []) ≤ 1
one_primary indexes index most single = let count = count_push is_primary indexes index in on (is_primary index) single count
  where
    on : (b : Bool) → (b && list_any is_primary indexes) ≡ false → count_by is_primary (indexes ++ index ∷ []) ≡ count_by is_primary indexes + (if b then 1 else 0) → count_by is_primary (indexes ++ index ∷ []) ≤ 1
    on true none count = let zero_before : count_by is_primary indexes ≡ 0 = count_none is_primary indexes none in omega arith
    on false any count = omega arith

pub index_keeps : (look : Look) (parts : TableParts) (key : KeyWords) (index : IndexDef) (next : TableParts) → AreIndexed parts → IsIndexMade look parts key index → IsWith parts index next → AreIndexed next
unfolding is_index_formed
index_keeps look parts key index next good made more =
    let fits = key_columns_stay parts.columns next.columns more.narrower index.columns ∙ made.columns in
    let formed = and_from (are_key_columns next.columns index.columns && is_well_named index) (is_never_null next.columns index) (and_from (are_key_columns next.columns index.columns) (is_well_named index) fits made.named) more.never_null in
    record {
      sound = more.sound;
      distinct = subst (λ (all : List IndexDef). are_distinct is_same_index all ≡ true) (sym more.indexes) (distinct_push is_same_index parts.indexes index good.distinct made.apart);
      formed = subst (λ (all : List IndexDef). list_all (is_index_formed next.columns) all ≡ true) (sym more.indexes)
          (all_push (is_index_formed next.columns) parts.indexes index (all_weaker (is_index_formed parts.columns) (is_index_formed next.columns) (index_stays parts.columns next.columns more.narrower) parts.indexes good.formed) formed);
      single = subst (λ (all : List IndexDef). count_by is_primary all ≤ 1) (sym more.indexes) (one_primary parts.indexes index good.single made.single);
    }
