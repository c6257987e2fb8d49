-- A table with one foreign key more.
use Rattle.std.specs.Prelude.{◌≡◌, ◌⊎◌, ℕ, ◌==◌, Bool, true, false, ◌&&◌, not, nat_le, nat_lt, List, [], ◌∷◌, ◌++◌, length, Option, Some, None, if◌then◌else◌, refl}
use Rattle.std.specs.List.{list_any, list_all, starts_with}
use Rattle.std.specs.Str.{bytes_eq}
use Rattle.std.proofs.Common.{sym, ◌∙◌, ap, subst, arith, inl, inr}
use Rattle.std.proofs.lemmas.Bool.{true≢false, and_parts, and_from, or_cases, not-false}
use Rattle.std.proofs.lemmas.Bool.Decides.{nat_tests}
use Rattle.std.proofs.lemmas.Cmp.{nat_list_eq_equiv, lists_equiv}
use Rattle.std.proofs.lemmas.List.{length-map, take_all, append-nil, append_assoc}
use Rattle.dd_names.specs.Names.{same}
use Rattle.sql_types.specs.declared.words.FkWords.{FkWords}
use Rattle.sql_types.specs.declared.words.KeyWords.{KeyWords}
use Rattle.dd_definitions.specs.Columns.{is_same_column, is_column, are_key_columns}
use Rattle.dd_definitions.specs.Distinct.{are_distinct}
use Rattle.dd_definitions.specs.ForeignKeys.{has_index_on, is_foreign_key_formed}
use Rattle.dd_definitions.specs.declared.columns.ColumnDef.{ColumnDef}
use Rattle.dd_definitions.specs.declared.foreign_keys.ForeignKeyDef.{ForeignKeyDef}
use Rattle.dd_definitions.specs.declared.indexes.IndexDef.{IndexDef}
use Rattle.dd_definitions.specs.declared.parts.TableParts.{TableParts}
use Rattle.dd_catalog.specs.Kinds.{column_named}
use Rattle.dd_catalog.specs.Walks.{done, ◌>>=◌, fine, run, refuse_if, over}
use Rattle.dd_catalog.specs.WalkLaws.{Look}
use Rattle.dd_catalog.specs.Asked.{fine_is, bind_fine}
use Rattle.rules_elements.specs.ForeignKeys.{spelled, has_constraint_named, foreign_key_of}
use Rattle.rules_elements.specs.Keys.{spelled_column, one_more, key_columns, allowed_name, given_name, key_name, key_of}
use Rattle.rules_refusals.specs.Refusals.{dup_fieldname, key_column_does_not_exist, multiple_pri_key, too_many_key_parts}
use Rattle.rules_refusals.specs.Refusals as refusals
use Rattle.rules_elements_laws.proofs.KeysFit.{foreign_keys_are_fit}
use Rattle.rules_elements_laws.proofs.Spelled.{AreSpelled, all_spelled}
use Rattle.rules_create.specs.Tables.{with_index, some_columns, constraint_name, key_for, with_key_index, name_in_text, put_in_order, key_named, one_foreign_key}
use Rattle.rules_create.proofs.Lists.{any_weaker, any_last, distinct_parts}
use Rattle.rules_create.proofs.Names.{bytes_are, same_where_equal, not_refused, done_unless}
use Rattle.rules_create.proofs.Order.{put_all, put_distinct, put_ordered}
use Rattle.dd_definitions.specs.Indexes.{is_primary, is_primary_class}
use Rattle.rules_alter_laws.specs.Stands.{HasKeys, Stands}
use Rattle.rules_alter_laws.proofs.AddedKeys.{IsIndexAdded, index_is_added}
use Rattle.rules_alter_laws.proofs.Kept.{KeepNames, names_themselves, key_columns_stay, Leads, leads_itself, key_from}

-- ## Names that are spelled so stay

-- the column that is found by the spelling of one is that one
pub spelled_itself : (columns : List ColumnDef) (name : List ℕ) (column : ColumnDef) → are_distinct is_same_column columns ≡ true → is_column columns name ≡ true → column_named columns name ≡ Some column → column.name ≡ name
unfolding is_column
spelled_itself [] name column distinct is found = cc
spelled_itself (c ∷ cs) name column distinct is found =
    let (apart, rest) = distinct_parts is_same_column c cs distinct in
    on (same c.name name) refl apart found (or_cases (bytes_eq c.name name) (list_any (λ (d : ColumnDef). bytes_eq d.name name) cs) is) (λ later. spelled_itself cs name column rest later)
  where
    on : (b : Bool) → same c.name name ≡ b → list_any (is_same_column c) cs ≡ false → (if b then Some c else column_named cs name) ≡ Some column
        → (bytes_eq c.name name ≡ true) ⊎ (list_any (λ (d : ColumnDef). bytes_eq d.name name) cs ≡ true)
        → (list_any (λ (d : ColumnDef). bytes_eq d.name name) cs ≡ true → column_named cs name ≡ Some column → column.name ≡ name) → column.name ≡ name
    on true alike apart found (inl here) rest = let one : c ≡ column = cc in ap (λ (d : ColumnDef). d.name) (sym one) ∙ bytes_are c.name name here
    on true alike apart found (inr later) rest =
        absurd (true≢false (sym (any_weaker (λ (d : ColumnDef). bytes_eq d.name name) (is_same_column c) (λ d e. ap (same c.name) (bytes_are d.name name e) ∙ alike) cs later) ∙ apart))
    on false other apart found (inl here) rest = absurd (true≢false (sym (same_where_equal c.name name (bytes_are c.name name here)) ∙ other))
    on false other apart found (inr later) rest = rest later found

one_stays : (look : Look) (columns : List ColumnDef) (before : List (List ℕ)) (name made : List ℕ) → are_distinct is_same_column columns ≡ true → is_column columns name ≡ true → run look (spelled_column before name (column_named columns name)) ≡ fine made → made ≡ name
one_stays look columns before name made distinct is found = on (column_named columns name) refl found
  where
    on : (c : Option ColumnDef) → column_named columns name ≡ c → run look (spelled_column before name c) ≡ fine made → made ≡ name
    on None none found = cc
    on (Some column) there found = sym (done_unless look (list_any (bytes_eq column.name) before) (dup_fieldname name) column.name made found).1 ∙ spelled_itself columns name column distinct is there

over_stays : (look : Look) (columns : List ColumnDef) (before names made : List (List ℕ)) → are_distinct is_same_column columns ≡ true → list_all (is_column columns) names ≡ true → run look (over (one_more columns) before names) ≡ fine made → before ++ names ≡ made
unfolding one_more
over_stays look columns before [] made distinct spelled is = append-nil before ∙ fine_is is
over_stays look columns before (name ∷ names) made distinct spelled is =
    let (here, later) = and_parts (is_column columns name) (list_all (is_column columns) names) spelled in
    let (next, one, rest) = bind_fine look (one_more columns before name) _ made is in
    let (first, found, last) = bind_fine look (spelled_column before name (column_named columns name)) _ next one in
    let pushed : before ++ name ∷ [] ≡ next = ap (λ (n : List ℕ). before ++ n ∷ []) (sym (one_stays look columns before name first distinct here found)) ∙ fine_is last in
    sym (append_assoc before (name ∷ []) names) ∙ ap (λ (b : List (List ℕ)). b ++ names) pushed ∙ over_stays look columns next names made distinct later rest

-- ## The index of a foreign key

begins_with_itself : (names : List (List ℕ)) → starts_with bytes_eq names names ≡ true
begins_with_itself names = rw (take_all (length names) names (omega arith)) ((lists_equiv nat_list_eq_equiv).refl names)

has_last : (indexes : List IndexDef) (index : IndexDef) → has_index_on (indexes ++ index ∷ []) index.columns ≡ true
unfolding has_index_on
has_last indexes index = any_last (λ (i : IndexDef). starts_with bytes_eq i.columns index.columns) indexes index (begins_with_itself index.columns)

-- the columns of an index are found by those that are written
key_spelled : (look : Look) (parts : TableParts) (words : KeyWords) (index : IndexDef) → run look (key_of parts words) ≡ fine index → run look (key_columns parts.columns words.columns) ≡ fine index.columns
unfolding key_of
key_spelled look parts words index is =
    let (_, one, after_one) = bind_fine look (refuse_if (is_primary_class words.class && list_any is_primary parts.indexes) multiple_pri_key) _ index is in
    let (_, allowed, after_allowed) = bind_fine look (allowed_name (is_primary_class words.class) (given_name words)) _ index after_one in
    let (_, few, after_few) = bind_fine look (refuse_if (nat_lt 16 (length words.columns)) too_many_key_parts) _ index after_allowed in
    let (columns, spelled, after_columns) = bind_fine look (key_columns parts.columns words.columns) _ index after_few in
    let (name, named, last) = bind_fine look (key_name parts (is_primary_class words.class) (given_name words) columns) _ index after_columns in
    subst (λ (i : IndexDef). run look (key_columns parts.columns words.columns) ≡ fine i.columns) (fine_is last) spelled

-- the table has an index that begins with the columns
record IsIndexed (parts : TableParts) (columns : List (List ℕ)) (indexed : TableParts) : Type 0 where
  stands : Stands indexed
  name : indexed.name ≡ parts.name
  foreign_keys : indexed.foreign_keys ≡ parts.foreign_keys
  names : KeepNames parts.columns indexed.columns
  leads : Leads parts.indexes indexed.indexes
  has : has_index_on indexed.indexes columns ≡ true

indexed_by_new : (look : Look) (parts : TableParts) (words : FkWords) (columns : List (List ℕ)) (index : IndexDef) → Stands parts → list_all (is_column parts.columns) columns ≡ true → (length columns == 0) ≡ false
    → run look (key_of parts (key_for words columns)) ≡ fine index → IsIndexed parts columns (with_index parts index)
indexed_by_new look parts words columns index good spelled some made =
    let added : IsIndexAdded parts index (with_index parts index) = index_is_added look parts (key_for words columns) index good some made in
    let stay : columns ≡ index.columns = over_stays look parts.columns [] columns index.columns good.columns.distinct spelled (key_spelled look parts (key_for words columns) index made) in
    let has : has_index_on (parts.indexes ++ index ∷ []) columns ≡ true = ap (has_index_on (parts.indexes ++ index ∷ [])) stay ∙ has_last parts.indexes index in
    record {
      stands = added.stands;
      name = added.name;
      foreign_keys = added.foreign_keys;
      names = added.names;
      leads = added.leads;
      has = ap (λ (all : List IndexDef). has_index_on all columns) added.last ∙ has;
    }

is_indexed : (look : Look) (parts : TableParts) (words : FkWords) (columns : List (List ℕ)) (indexed : TableParts) → Stands parts → list_all (is_column parts.columns) columns ≡ true → (length columns == 0) ≡ false
    → run look (with_key_index parts words columns) ≡ fine indexed → IsIndexed parts columns indexed
unfolding with_key_index
is_indexed look parts words columns indexed good spelled some is = on (has_index_on parts.indexes columns) refl is
  where
    on : (b : Bool) → has_index_on parts.indexes columns ≡ b → run look (if b then done parts else (key_of parts (key_for words columns) >>= λ index. done (with_index parts index))) ≡ fine indexed → IsIndexed parts columns indexed
    on true has is = subst (IsIndexed parts columns) (fine_is is) (record { stands = good; name = refl; foreign_keys = refl; names = names_themselves parts.columns; leads = leads_itself parts.indexes; has = has })
    on false none is =
        let (index, made, last) = bind_fine look (key_of parts (key_for words columns)) _ indexed is in
        subst (IsIndexed parts columns) {x = with_index parts index} (fine_is last) (indexed_by_new look parts words columns index good spelled some made)

-- ## The foreign key

-- the table has a foreign key more, which is made of what is asked beside the table with its index
pub record IsLinked (look : Look) (parts next : TableParts) : Type 0 where
  pub indexed : TableParts
  pub written : List (List ℕ)
  pub asked : ForeignKeyDef
  pub key : ForeignKeyDef
  pub made : run look (foreign_key_of indexed written asked) ≡ fine key
  pub before : Stands indexed
  pub same_name : indexed.name ≡ parts.name
  pub indexes : next.indexes ≡ indexed.indexes
  pub foreign_keys : next.foreign_keys ≡ put_in_order key parts.foreign_keys
  pub stands : Stands next
  pub name : next.name ≡ parts.name
  pub names : KeepNames parts.columns next.columns
  pub leads : Leads parts.indexes next.indexes

few_fit : (n : ℕ) → (n == 0) ≡ false → nat_lt 16 n ≡ false → (nat_le 1 n && nat_le n 16) ≡ true
few_fit n some few = grind (arith, nat_tests)

fitting : (parts : TableParts) (columns : List (List ℕ)) (written : ℕ) → AreSpelled parts.columns columns → length columns ≡ written → (written == 0) ≡ false → nat_lt 16 written ≡ false → are_key_columns parts.columns columns ≡ true
unfolding are_key_columns
fitting parts columns written are count some few =
    and_from (nat_le 1 (length columns) && nat_le (length columns) 16 && are_distinct bytes_eq columns) (list_all (is_column parts.columns) columns)
    (and_from (nat_le 1 (length columns) && nat_le (length columns) 16) (are_distinct bytes_eq columns) (few_fit (length columns) (ap (λ n. n == 0) count ∙ some) (ap (nat_lt 16) count ∙ few)) are.distinct) are.there

abbrev and_key : TableParts → ForeignKeyDef → TableParts
and_key indexed key = record indexed { foreign_keys = put_in_order key indexed.foreign_keys }

same_count : (n m k j : ℕ) → n ≡ m → (m == k) ≡ true → j ≡ k → (n == j) ≡ true
same_count n m k j first is other = ap (λ x. x == j) first ∙ ap (λ x. m == x) other ∙ is

one_linked : (look : Look) (parts indexed : TableParts) (columns written : List (List ℕ)) (asked key : ForeignKeyDef) → run look (foreign_key_of indexed written asked) ≡ fine key → IsIndexed parts columns indexed → are_key_columns parts.columns columns ≡ true → key.columns ≡ columns → (length columns == length key.parent_columns) ≡ true
    → has_constraint_named indexed.foreign_keys key.name ≡ false → IsLinked look parts (and_key indexed key)
one_linked look parts indexed columns written asked key made had fits same_columns counted new =
    let keys : HasKeys indexed.columns indexed.indexes indexed.foreign_keys = had.stands.keys in
    let formed : is_foreign_key_formed indexed.columns indexed.indexes key ≡ true = key_from indexed.columns indexed.indexes key (record {
      fits = ap (are_key_columns indexed.columns) same_columns ∙ key_columns_stay parts.columns indexed.columns had.names columns fits;
      count = ap (λ (names : List (List ℕ)). length names == length key.parent_columns) same_columns ∙ counted;
      has = ap (has_index_on indexed.indexes) same_columns ∙ had.has;
    }) in
    record {
      indexed = indexed;
      written = written;
      asked = asked;
      key = key;
      made = made;
      before = had.stands;
      same_name = had.name;
      indexes = refl;
      foreign_keys = ap (put_in_order key) had.foreign_keys;
      stands = record {
        some = had.stands.some;
        columns = had.stands.columns;
        indexes = had.stands.indexes;
        keys = record {
          formed = put_all (is_foreign_key_formed indexed.columns indexed.indexes) key indexed.foreign_keys formed keys.formed;
          distinct = put_distinct key indexed.foreign_keys new keys.distinct;
          ordered = put_ordered key indexed.foreign_keys keys.ordered;
        };
      };
      name = had.name;
      names = had.names;
      leads = had.leads;
    }

pub foreign_key_is_added : (look : Look) (parts : TableParts) (words : FkWords) (next : TableParts) → Stands parts → run look (one_foreign_key parts words) ≡ fine next → IsLinked look parts next
unfolding one_foreign_key
foreign_key_is_added look parts words next good is =
    let (_, as_many, after_count) = bind_fine look (refuse_if (not (length words.columns == length words.parent_columns)) (refusals.wrong_fk_def (name_in_text words.constraint))) _ next is in
    let (_, few, after_few) = bind_fine look (refuse_if (nat_lt 16 (length words.columns)) too_many_key_parts) _ next after_count in
    let (_, some, after_some) = bind_fine look (some_columns words.columns) _ next after_few in
    let (columns, found, after_columns) = bind_fine look (key_columns parts.columns words.columns) _ next after_some in
    let (name, _, after_name) = bind_fine look (constraint_name parts words.constraint) _ next after_columns in
    let (indexed, led, after_index) = bind_fine look (with_key_index parts words columns) _ next after_name in
    let (key, made, last) = bind_fine look (foreign_key_of indexed words.columns (key_named words parts.name name columns)) _ next after_index in
    let (are, counted) = all_spelled look parts.columns words.columns [] columns (record { distinct = refl; there = refl }) found in
    let count : length columns ≡ length words.columns = omega arith in
    let there : (length words.columns == 0) ≡ false = not_refused look (length words.columns == 0) (key_column_does_not_exist []) tt some in
    let within : nat_lt 16 (length words.columns) ≡ false = not_refused look (nat_lt 16 (length words.columns)) too_many_key_parts tt few in
    let equal : (length words.columns == length words.parent_columns) ≡ true =
    not-false (length words.columns == length words.parent_columns) (not_refused look (not (length words.columns == length words.parent_columns)) (refusals.wrong_fk_def (name_in_text words.constraint)) tt as_many) in
    let had : IsIndexed parts columns indexed = is_indexed look parts words columns indexed good are.there (ap (λ n. n == 0) count ∙ there) led in
    let (parent, fit) = foreign_keys_are_fit look indexed words.columns (key_named words parts.name name columns) key made in
    let parents : length key.parent_columns ≡ length words.parent_columns = ap (λ (k : ForeignKeyDef). length k.parent_columns) fit.kept ∙ length-map words.parent_columns (spelled parent.columns) in
    let numbers : (length columns == length key.parent_columns) ≡ true = same_count (length columns) (length words.columns) (length words.parent_columns) (length key.parent_columns) count equal parents in
    let same_columns : key.columns ≡ columns = ap (λ (k : ForeignKeyDef). k.columns) fit.kept in
    subst (IsLinked look parts) {x = and_key indexed key} {y = next} (fine_is {x = and_key indexed key} {y = next} last)
    (one_linked look parts indexed columns words.columns (key_named words parts.name name columns) key made had (fitting parts columns (length words.columns) are count there within) same_columns numbers fit.own)
