-- What a foreign key leaves of a table.
use Rattle.std.specs.Prelude.{◌≡◌, ℕ, ◌==◌, Bool, true, false, ◌&&◌, ◌||◌, not, nat_lt, List, [], ◌∷◌, ◌++◌, length, if◌then◌else◌, refl}
use Rattle.std.specs.List.{list_all, starts_with}
use Rattle.std.specs.Str.{bytes_eq}
use Rattle.std.proofs.Common.{sym, ◌∙◌, ap, subst, arith}
use Rattle.std.proofs.lemmas.Bool.{and_parts, and_from, or_parts, not-false}
use Rattle.std.proofs.lemmas.Cmp.{nat_list_eq_equiv, lists_equiv}
use Rattle.std.proofs.lemmas.List.{length-map, take_all}
use Rattle.dd_names.specs.declared.object_name.ObjName.{ObjName}
use Rattle.sql_types.specs.declared.words.FkWords.{FkWords}
use Rattle.dd_definitions.specs.Columns.{are_key_columns}
use Rattle.dd_definitions.specs.Distinct.{are_distinct}
use Rattle.dd_definitions.specs.ForeignKeys.{is_same_constraint, has_index_on, is_foreign_key_formed, are_in_order}
use Rattle.dd_definitions.specs.declared.indexes.IndexDef.{IndexDef}
use Rattle.dd_definitions.specs.declared.foreign_keys.ForeignKeyDef.{ForeignKeyDef}
use Rattle.dd_definitions.specs.declared.parts.TableParts.{TableParts}
use Rattle.dd_names.specs.Names.{fold}
use Rattle.dd_names.specs.declared.object_name.ObjectKey.TheVariants as keys
use Rattle.dd_catalog.specs.Kinds.{first_odd_pair}
use Rattle.dd_catalog.specs.Walks.{done, ◌>>=◌, fine, run, look_at, refuse_if, refuse_some, over}
use Rattle.dd_catalog.specs.WalkLaws.{Look}
use Rattle.dd_catalog.specs.Asked.{fine_is, bind_fine, over_keeps}
use Rattle.rules_elements.specs.ForeignKeys.{parent_of, has_index_from, odd_pair_refused, set_null_refused, spelled, is_owned_elsewhere, has_constraint_named, name_is_free, foreign_key_of}
use Rattle.rules_elements.specs.Keys.{key_columns, key_of}
use Rattle.rules_refusals.specs.Refusals.{key_column_does_not_exist, too_many_key_parts, fk_no_index_parent, fk_dup_name}
use Rattle.rules_refusals.specs.Refusals as refusals
use Rattle.rules_create.specs.Tables.{with_index, some_columns, constraint_name, key_for, with_key_index, name_in_text, put_in_order, key_named, one_foreign_key}
use Rattle.rules_create.proofs.KeyColumns.{AreSpelled, columns_spelled, columns_counted, columns_stay, key_columns_formed}
use Rattle.rules_create.proofs.Lists.{all_weaker, any_in_front, any_last}
use Rattle.rules_create.proofs.Names.{not_refused}
use Rattle.rules_create.proofs.OneKey.{AreFew, with_indexes, with_name, with_foreign_keys, few_before, IsAdded, index_added}
use Rattle.rules_create.proofs.Order.{put_all, put_distinct, put_ordered}
use Rattle.rules_create.proofs.WithIndex.{AreNarrower, key_columns_stay, AreIndexed}

-- ## The index of a foreign key

begins_with_itself : (names : List (List ℕ)) → starts_with bytes_eq names names ≡ true
begins_with_itself names = rw (take_all (length names) names (omega arith)) ((lists_equiv nat_list_eq_equiv).refl names)

-- the table has an index that begins with the columns, and loses none
record IsLed (parts : TableParts) (columns : List (List ℕ)) (indexed : TableParts) : Type 0 where
  good : AreIndexed indexed
  narrower : AreNarrower parts.columns indexed.columns
  has : has_index_on indexed.indexes columns ≡ true
  keeps : (names : List (List ℕ)) → has_index_on parts.indexes names ≡ true → has_index_on indexed.indexes names ≡ true

-- what stays in any case, and where there are few indexes then
record HasKeyIndex (parts : TableParts) (columns : List (List ℕ)) (indexed : TableParts) : Type 0 where
  name : indexed.name ≡ parts.name
  foreign_keys : indexed.foreign_keys ≡ parts.foreign_keys
  few : AreFew indexed → AreFew parts
  led : AreIndexed parts → AreFew indexed → IsLed parts columns indexed

has_last : (indexes : List IndexDef) (index : IndexDef) (columns : List (List ℕ)) → columns ≡ index.columns → has_index_on (indexes ++ index ∷ []) columns ≡ true
unfolding has_index_on
has_last indexes index columns same_columns = any_last (λ (i : IndexDef). starts_with bytes_eq i.columns columns) indexes index
    (subst (λ (names : List (List ℕ)). starts_with bytes_eq names columns ≡ true) same_columns (begins_with_itself columns))

keeps_first : (indexes : List IndexDef) (index : IndexDef) (names : List (List ℕ)) → has_index_on indexes names ≡ true → has_index_on (indexes ++ index ∷ []) names ≡ true
unfolding has_index_on
keeps_first indexes index names has = any_in_front (λ (i : IndexDef). starts_with bytes_eq i.columns names) indexes (index ∷ []) has

led_by_new : (look : Look) (parts : TableParts) (words : FkWords) (columns : List (List ℕ)) (index : IndexDef) → AreSpelled parts.columns columns → (length columns == 0) ≡ false
    → run look (key_of parts (key_for words columns)) ≡ fine index → AreIndexed parts → AreFew parts → IsLed parts columns (with_index parts index)
led_by_new look parts words columns index spelled some made good few =
    let added : IsAdded look parts (key_for words columns) index = index_added look parts (key_for words columns) index good few some made in
    let stay : columns ≡ index.columns = columns_stay look parts.columns columns index.columns good.sound.distinct spelled.spelled added.made.spelled in
    record {
      good = added.good;
      narrower = added.more.narrower;
      has = subst (λ (all : List IndexDef). has_index_on all columns ≡ true) (sym (with_indexes parts index)) (has_last parts.indexes index columns stay);
      keeps = λ names has. subst (λ (all : List IndexDef). has_index_on all names ≡ true) (sym (with_indexes parts index)) (keeps_first parts.indexes index names has);
    }

key_index : (look : Look) (parts : TableParts) (words : FkWords) (columns : List (List ℕ)) (indexed : TableParts) → AreSpelled parts.columns columns → (length columns == 0) ≡ false
    → run look (with_key_index parts words columns) ≡ fine indexed → HasKeyIndex parts columns indexed
unfolding with_key_index
key_index look parts words columns indexed spelled some is = on (has_index_on parts.indexes columns) refl is
  where
    on : (b : Bool) → has_index_on parts.indexes columns ≡ b → run look (if b then done parts else (key_of parts (key_for words columns) >>= λ index. done (with_index parts index))) ≡ fine indexed → HasKeyIndex parts columns indexed
    on true has is = subst (HasKeyIndex parts columns) (fine_is is) (record {
      name = refl;
      foreign_keys = refl;
      few = λ few. few;
      led = λ good few. record { good = good; narrower = record { column = λ name. refl; nullable = λ name null. null }; has = has; keeps = λ names there. there };
    })
    on false none is =
        let (index, made, last) = bind_fine look (key_of parts (key_for words columns)) _ indexed is in
        subst (HasKeyIndex parts columns) (fine_is last) (record {
          name = with_name parts index;
          foreign_keys = with_foreign_keys parts index;
          few = few_before parts index;
          led = λ good few. led_by_new look parts words columns index spelled some made good (few_before parts index few);
        })

-- ## The foreign key

record IsKeyMade (parts : TableParts) (key made : ForeignKeyDef) : Type 0 where
  name : made.name ≡ key.name
  columns : made.columns ≡ key.columns
  parents : length made.parent_columns ≡ length key.parent_columns
  apart : has_constraint_named parts.foreign_keys key.name ≡ false

name_apart : (look : Look) (parts : TableParts) (name : List ℕ) (x : Unit {0}) → run look (name_is_free parts name) ≡ fine x → has_constraint_named parts.foreign_keys name ≡ false
unfolding name_is_free
name_apart look parts name x is =
    let (owner, seen, last) = bind_fine look (look_at (keys.Constraint parts.name.schema (fold name))) _ x is in
    (or_parts (is_owned_elsewhere parts.name owner) (has_constraint_named parts.foreign_keys name) (not_refused look (is_owned_elsewhere parts.name owner || has_constraint_named parts.foreign_keys name) (fk_dup_name name) x last)).1

key_is_made : (look : Look) (parts : TableParts) (written : List (List ℕ)) (key made : ForeignKeyDef) → run look (foreign_key_of parts written key) ≡ fine made → IsKeyMade parts key made
unfolding foreign_key_of
key_is_made look parts written key made is =
    let (parent, _, after_parent) = bind_fine look (parent_of parts key.parent) _ made is in
    let (_, _, after_index) = bind_fine look (refuse_if (not (has_index_from parent.indexes key.parent_columns)) (fk_no_index_parent key.name key.parent.name)) _ made after_parent in
    let (_, _, after_kinds) = bind_fine look (refuse_some (odd_pair_refused written key.name (first_odd_pair parts.columns parent.columns key.columns key.parent_columns))) _ made after_index in
    let (_, _, after_null) = bind_fine look (refuse_some (set_null_refused written parts.columns key)) _ made after_kinds in
    let (free, apart, last) = bind_fine look (name_is_free parts key.name) _ made after_null in
    subst (IsKeyMade parts key) (fine_is last) (record { name = refl; columns = refl; parents = length-map key.parent_columns (spelled parent.columns); apart = name_apart look parts key.name free apart })

-- ## All foreign keys

pub record AreLinked (parts : TableParts) : Type 0 where
  pub formed : list_all (is_foreign_key_formed parts.columns parts.indexes) parts.foreign_keys ≡ true
  pub distinct : are_distinct is_same_constraint parts.foreign_keys ≡ true
  pub ordered : are_in_order parts.foreign_keys ≡ true

-- the table behind some of its foreign keys
pub record IsLinked (table : ObjName) (parts : TableParts) : Type 0 where
  pub name : parts.name ≡ table
  pub good : AreFew parts → AreIndexed parts
  pub linked : AreFew parts → AreLinked parts

key_stays : (parts indexed : TableParts) (columns : List (List ℕ)) → IsLed parts columns indexed → (key : ForeignKeyDef) → is_foreign_key_formed parts.columns parts.indexes key ≡ true → is_foreign_key_formed indexed.columns indexed.indexes key ≡ true
unfolding is_foreign_key_formed
key_stays parts indexed columns led key formed =
    let (both, has) = and_parts (are_key_columns parts.columns key.columns && (length key.columns == length key.parent_columns)) (has_index_on parts.indexes key.columns) formed in
    let (fits, as_many) = and_parts (are_key_columns parts.columns key.columns) (length key.columns == length key.parent_columns) both in
    and_from (are_key_columns indexed.columns key.columns && (length key.columns == length key.parent_columns)) (has_index_on indexed.indexes key.columns)
    (and_from (are_key_columns indexed.columns key.columns) (length key.columns == length key.parent_columns) (key_columns_stay parts.columns indexed.columns led.narrower key.columns ∙ fits) as_many) (led.keeps key.columns has)

new_key_formed : (parts indexed : TableParts) (columns : List (List ℕ)) (key : ForeignKeyDef) → IsLed parts columns indexed → are_key_columns parts.columns columns ≡ true → key.columns ≡ columns → (length columns == length key.parent_columns) ≡ true
    → is_foreign_key_formed indexed.columns indexed.indexes key ≡ true
unfolding is_foreign_key_formed
new_key_formed parts indexed columns key led fits same_columns as_many =
    subst (λ (names : List (List ℕ)). (are_key_columns indexed.columns names && (length names == length key.parent_columns) && has_index_on indexed.indexes names) ≡ true) (sym same_columns)
    (and_from (are_key_columns indexed.columns columns && (length columns == length key.parent_columns)) (has_index_on indexed.indexes columns)
    (and_from (are_key_columns indexed.columns columns) (length columns == length key.parent_columns) (key_columns_stay parts.columns indexed.columns led.narrower columns ∙ fits) as_many) led.has)

links_more : (parts indexed : TableParts) (columns : List (List ℕ)) (asked made : ForeignKeyDef) → HasKeyIndex parts columns indexed → IsKeyMade indexed asked made → are_key_columns parts.columns columns ≡ true → made.columns ≡ columns
    → (length columns == length made.parent_columns) ≡ true → AreIndexed parts → AreLinked parts → AreFew indexed → AreLinked (record indexed { foreign_keys = put_in_order made indexed.foreign_keys })
links_more parts indexed columns asked made had key fits same_columns as_many good before few =
    let led : IsLed parts columns indexed = had.led good few in
    let all : list_all (is_foreign_key_formed indexed.columns indexed.indexes) parts.foreign_keys ≡ true =
    all_weaker (is_foreign_key_formed parts.columns parts.indexes) (is_foreign_key_formed indexed.columns indexed.indexes) (key_stays parts indexed columns led) parts.foreign_keys before.formed in
    record {
      formed = put_all (is_foreign_key_formed indexed.columns indexed.indexes) made indexed.foreign_keys (new_key_formed parts indexed columns made led fits same_columns as_many) (ap (list_all (is_foreign_key_formed indexed.columns indexed.indexes)) had.foreign_keys ∙ all);
      distinct = put_distinct made indexed.foreign_keys (ap (λ (n : List ℕ). has_constraint_named indexed.foreign_keys n) key.name ∙ key.apart) (ap (are_distinct is_same_constraint) had.foreign_keys ∙ before.distinct);
      ordered = put_ordered made indexed.foreign_keys (ap are_in_order had.foreign_keys ∙ before.ordered);
    }

same_count : (n m k : ℕ) → n ≡ m → (m == k) ≡ true → (j : ℕ) → j ≡ k → (n == j) ≡ true
same_count n m k first is j other = ap (λ x. x == j) first ∙ ap (λ x. m == x) other ∙ is

-- the table with a foreign key more
abbrev and_key : TableParts → ForeignKeyDef → TableParts
and_key indexed key = record indexed { foreign_keys = put_in_order key indexed.foreign_keys }

one_linked : (table : ObjName) (parts indexed : TableParts) (columns : List (List ℕ)) (asked key : ForeignKeyDef) → IsLinked table parts → HasKeyIndex parts columns indexed → IsKeyMade indexed asked key → are_key_columns parts.columns columns ≡ true
    → key.columns ≡ columns → (length columns == length key.parent_columns) ≡ true → IsLinked table (and_key indexed key)
one_linked table parts indexed columns asked key so_far had made fits same_columns as_many = record {
  name = had.name ∙ so_far.name;
  good = λ few. let led : IsLed parts columns indexed = had.led (so_far.good (had.few few)) few in record { sound = led.good.sound; distinct = led.good.distinct; formed = led.good.formed; single = led.good.single };
  linked = λ few. links_more parts indexed columns asked key had made fits same_columns as_many (so_far.good (had.few few)) (so_far.linked (had.few few)) few;
}

foreign_key_keeps : (look : Look) (table : ObjName) (parts : TableParts) (words : FkWords) (next : TableParts) → IsLinked table parts → run look (one_foreign_key parts words) ≡ fine next → IsLinked table next
unfolding one_foreign_key
foreign_key_keeps look table parts words next so_far is =
    let (_, as_many, after_count) = bind_fine look (refuse_if (not (length words.columns == length words.parent_columns)) (refusals.wrong_fk_def (name_in_text words.constraint))) _ next is in
    let (_, few, after_few) = bind_fine look (refuse_if (nat_lt 16 (length words.columns)) too_many_key_parts) _ next after_count in
    let (_, some, after_some) = bind_fine look (some_columns words.columns) _ next after_few in
    let (columns, found, after_columns) = bind_fine look (key_columns parts.columns words.columns) _ next after_some in
    let (name, _, after_name) = bind_fine look (constraint_name parts words.constraint) _ next after_columns in
    let (indexed, led, after_index) = bind_fine look (with_key_index parts words columns) _ next after_name in
    let (key, made, last) = bind_fine look (foreign_key_of indexed words.columns (key_named words parts.name name columns)) _ next after_index in
    let counted : length columns ≡ length words.columns = columns_counted look parts.columns words.columns columns found in
    let there : (length words.columns == 0) ≡ false = not_refused look (length words.columns == 0) (key_column_does_not_exist []) tt some in
    let within : nat_lt 16 (length words.columns) ≡ false = not_refused look (nat_lt 16 (length words.columns)) too_many_key_parts tt few in
    let equal : (length words.columns == length words.parent_columns) ≡ true =
    not-false (length words.columns == length words.parent_columns) (not_refused look (not (length words.columns == length words.parent_columns)) (refusals.wrong_fk_def (name_in_text words.constraint)) tt as_many) in
    let had : HasKeyIndex parts columns indexed = key_index look parts words columns indexed (columns_spelled look parts.columns words.columns columns found) (ap (λ n. n == 0) counted ∙ there) led in
    let new : IsKeyMade indexed (key_named words parts.name name columns) key = key_is_made look indexed words.columns (key_named words parts.name name columns) key made in
    let fits : are_key_columns parts.columns columns ≡ true = key_columns_formed look parts.columns words.columns columns there within found in
    let numbers : (length columns == length key.parent_columns) ≡ true = same_count (length columns) (length words.columns) (length words.parent_columns) counted equal (length key.parent_columns) new.parents in
    let same : and_key indexed key ≡ next = fine_is {x = and_key indexed key} {y = next} last in
    subst (IsLinked table) {x = and_key indexed key} {y = next} same (one_linked table parts indexed columns (key_named words parts.name name columns) key so_far had new fits new.columns numbers)

pub foreign_keys_keep : (look : Look) (table : ObjName) (start : TableParts) (words : List FkWords) (parts : TableParts) → IsLinked table start → run look (over one_foreign_key start words) ≡ fine parts → IsLinked table parts
foreign_keys_keep look table start words parts good is = over_keeps (IsLinked table) look one_foreign_key (foreign_key_keeps look table) start words parts good is
