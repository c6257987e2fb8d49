-- What CREATE TABLE makes is well formed, and has the name that is written.
use Rattle.std.specs.Prelude.{◌≡◌, ℕ, ◌≤◌, ◌==◌, Bool, true, false, ◌&&◌, not, nat_le, nat_lt, List, [], ◌∷◌, length, if◌then◌else◌, refl}
use Rattle.std.specs.List.{list_all, count_by, flat_map}
use Rattle.std.specs.Option.{is_none}
use Rattle.std.proofs.Common.{ap, subst, arith, inl, inr}
use Rattle.std.proofs.lemmas.Bool.{and_parts, and_from, or_cases, or_left, or_right, not-false}
use Rattle.std.proofs.lemmas.Bool.Decides.{nat_tests}
use Rattle.dd_names.specs.declared.object_name.ObjName.{ObjName}
use Rattle.dd_names.specs.declared.object_name.ObjectKey.TheVariants as keys
use Rattle.dd_errors.specs.Errors.{ErrorValue}
use Rattle.sql_types.specs.declared.words.ObjRef.{ObjRef}
use Rattle.sql_ast.specs.declared.session.SessionState.{SessionState}
use Rattle.sql_ast.specs.declared.element.Element.{Element}
use Rattle.dd_definitions.specs.Columns.{are_key_columns, are_columns_formed}
use Rattle.dd_definitions.specs.Distinct.{are_distinct}
use Rattle.dd_definitions.specs.ForeignKeys.{is_same_constraint, has_index_on, is_foreign_key_formed, are_in_order, are_foreign_keys_formed}
use Rattle.dd_definitions.specs.Indexes.{is_secondary, is_same_index, is_primary_first, is_integer, is_index_formed, are_few_indexes, are_ranked_from, are_indexes_formed, begins_with_name, leads_index, is_auto_formed, are_few_autos, are_autos_formed}
use Rattle.dd_definitions.specs.WellFormed.{is_well_formed}
use Rattle.dd_definitions.specs.declared.columns.ColumnDef.{ColumnDef}
use Rattle.dd_definitions.specs.declared.indexes.IndexDef.{IndexDef}
use Rattle.dd_definitions.specs.declared.foreign_keys.ForeignKeyDef.{ForeignKeyDef}
use Rattle.dd_definitions.specs.declared.parts.TableParts.{TableParts}
use Rattle.dd_catalog.specs.Walks.{done, ◌>>=◌, fine, run, look_at, refuse_if, over}
use Rattle.dd_catalog.specs.WalkLaws.{Look}
use Rattle.dd_catalog.specs.Asked.{fine_is, bind_fine}
use Rattle.rules_outcome.specs.Choices.{Choice}
use Rattle.rules_refusals.specs.Refusals as refusals
use Rattle.rules_named.specs.Named.{is_nothing, one_named, unless}
use Rattle.rules_create.specs.Leaves.{LeavesFormed}
use Rattle.rules_create.specs.Tables.{column_in, foreign_key_in, all_keys, all_columns, one_key, one_foreign_key, by_class, is_auto_led, are_autos_led, within_limits, of_columns, table_of, table_made, create_table}
use Rattle.rules_create.proofs.ByClass.{by_class_all, by_class_any, by_class_distinct, by_class_count, by_class_ranked, by_class_primary}
use Rattle.rules_create.proofs.MadeColumns.{is_auto_sound, AreSound, columns_sound}
use Rattle.rules_create.proofs.ForeignKeys.{AreLinked, IsLinked, foreign_keys_keep}
use Rattle.rules_create.proofs.Lists.{all_weaker}
use Rattle.rules_create.proofs.Names.{not_refused}
use Rattle.rules_create.proofs.OneKey.{AreFew, IsKeyed, keys_keep}
use Rattle.rules_create.proofs.WithIndex.{AreIndexed}

-- ## Within the limits

at_most : (most n : ℕ) → nat_lt most n ≡ false → n ≤ most
at_most most n is = grind (arith, nat_tests)

no_more : (most n : ℕ) → n ≤ most → nat_le n most ≡ true
no_more most n is = grind (arith, nat_tests)

record IsWithin (parts : TableParts) : Type 0 where
  few : AreFew parts
  led : are_autos_led parts ≡ true
  keys : length parts.foreign_keys ≤ 1024

is_within : (look : Look) (parts : TableParts) (x : Unit {0}) → run look (within_limits parts) ≡ fine x → IsWithin parts
unfolding within_limits
is_within look parts x is =
    let (few, indexes, after_indexes) = bind_fine look (refuse_if (nat_lt 64 (count_by is_secondary parts.indexes)) refusals.too_many_keys) _ x is in
    let (led, autos, last) = bind_fine look (refuse_if (not (are_autos_led parts)) refusals.wrong_auto_key) _ x after_indexes in
    record {
      few = at_most 64 (count_by is_secondary parts.indexes) (not_refused look (nat_lt 64 (count_by is_secondary parts.indexes)) refusals.too_many_keys few indexes);
      led = not-false (are_autos_led parts) (not_refused look (not (are_autos_led parts)) refusals.wrong_auto_key led autos);
      keys = at_most 1024 (length parts.foreign_keys) (not_refused look (nat_lt 1024 (length parts.foreign_keys)) (refusals.beyond_limit "1024") x last);
    }

-- ## Each part

indexes_formed : (parts : TableParts) → AreFew parts → AreIndexed parts → are_indexes_formed parts.columns (by_class parts.columns parts.indexes) ≡ true
unfolding are_indexes_formed are_few_indexes
indexes_formed parts few good =
    let ordered : List IndexDef = by_class parts.columns parts.indexes in
    let fewer : count_by is_secondary (by_class parts.columns parts.indexes) ≤ count_by is_secondary parts.indexes = by_class_count is_secondary parts.columns parts.indexes in
    let first = and_from (is_primary_first ordered) (are_distinct is_same_index ordered) (by_class_primary parts.columns parts.indexes good.single) (by_class_distinct parts.columns parts.indexes good.distinct) in
    let each = and_from (is_primary_first ordered && are_distinct is_same_index ordered) (list_all (is_index_formed parts.columns) ordered) first (by_class_all (is_index_formed parts.columns) parts.columns parts.indexes good.formed) in
    let counted = and_from (is_primary_first ordered && are_distinct is_same_index ordered && list_all (is_index_formed parts.columns) ordered) (nat_le (count_by is_secondary ordered) 64) each (no_more 64 (count_by is_secondary (by_class parts.columns parts.indexes)) (omega arith)) in
    and_from (is_primary_first ordered && are_distinct is_same_index ordered && list_all (is_index_formed parts.columns) ordered && nat_le (count_by is_secondary ordered) 64) (are_ranked_from parts.columns 0 ordered) counted (by_class_ranked parts.columns parts.indexes)

leads_by_class : (columns : List ColumnDef) (indexes : List IndexDef) (name : List ℕ) → leads_index indexes name ≡ true → leads_index (by_class columns indexes) name ≡ true
unfolding leads_index
leads_by_class columns indexes name leads = by_class_any (λ (i : IndexDef). begins_with_name name i.columns) columns indexes leads

auto_formed : (columns : List ColumnDef) (indexes : List IndexDef) (column : ColumnDef) → (is_auto_sound column && is_auto_led indexes column) ≡ true → is_auto_formed (by_class columns indexes) column ≡ true
unfolding is_auto_formed
auto_formed columns indexes column is =
    let (sound, led) = and_parts (is_auto_sound column) (is_auto_led indexes column) is in
    let leads : Bool = leads_index (by_class columns indexes) column.name in
    let kept : Bool = is_integer column.kind && not column.nullable && is_none column.default in
    elim (or_cases (not column.auto) (is_integer column.kind && not column.nullable && is_none column.default) sound) [
      | inl plain ↦ or_left (not column.auto) (kept && leads) plain
      | inr fits ↦ elim (or_cases (not column.auto) (leads_index indexes column.name) led) [
        | inl plain ↦ or_left (not column.auto) (kept && leads) plain
        | inr first ↦ or_right (not column.auto) (kept && leads) (and_from kept leads fits (leads_by_class columns indexes column.name first))
      ]
    ]

both_pass : {X : Type 0} (p q : X → Bool) (xs : List X) → list_all p xs ≡ true → list_all q xs ≡ true → list_all (λ x. p x && q x) xs ≡ true
both_pass p q [] one other = refl
both_pass p q (x ∷ xs) one other =
    let (first, rest) = and_parts (p x) (list_all p xs) one in
    let (second, others) = and_parts (q x) (list_all q xs) other in
    and_from (p x && q x) (list_all (λ y. p y && q y) xs) (and_from (p x) (q x) first second) (both_pass p q xs rest others)

autos_formed : (parts : TableParts) → AreSound parts.columns → are_autos_led parts ≡ true → are_autos_formed parts.columns (by_class parts.columns parts.indexes) ≡ true
unfolding are_autos_formed are_autos_led
autos_formed parts sound led =
    let (few, first) = and_parts (are_few_autos parts.columns) (list_all (is_auto_led parts.indexes) parts.columns) led in
    and_from (are_few_autos parts.columns) (list_all (is_auto_formed (by_class parts.columns parts.indexes)) parts.columns) few
    (all_weaker (λ c. is_auto_sound c && is_auto_led parts.indexes c) (is_auto_formed (by_class parts.columns parts.indexes)) (auto_formed parts.columns parts.indexes) parts.columns
    (both_pass is_auto_sound (is_auto_led parts.indexes) parts.columns sound.sound first))

has_by_class : (columns : List ColumnDef) (indexes : List IndexDef) (names : List (List ℕ)) → has_index_on indexes names ≡ true → has_index_on (by_class columns indexes) names ≡ true
unfolding has_index_on
has_by_class columns indexes names has = by_class_any _ columns indexes has

key_formed : (columns : List ColumnDef) (indexes : List IndexDef) (key : ForeignKeyDef) → is_foreign_key_formed columns indexes key ≡ true → is_foreign_key_formed columns (by_class columns indexes) key ≡ true
unfolding is_foreign_key_formed
key_formed columns indexes key formed =
    let (fits, has) = and_parts (are_key_columns columns key.columns && (length key.columns == length key.parent_columns)) (has_index_on indexes key.columns) formed in
    and_from (are_key_columns columns key.columns && (length key.columns == length key.parent_columns)) (has_index_on (by_class columns indexes) key.columns) fits (has_by_class columns indexes key.columns has)

foreign_keys_formed : (parts : TableParts) → length parts.foreign_keys ≤ 1024 → AreLinked parts → are_foreign_keys_formed parts.columns (by_class parts.columns parts.indexes) parts.foreign_keys ≡ true
unfolding are_foreign_keys_formed
foreign_keys_formed parts few linked =
    let keys : List ForeignKeyDef = parts.foreign_keys in
    let formed : ForeignKeyDef → Bool = is_foreign_key_formed parts.columns (by_class parts.columns parts.indexes) in
    let all = all_weaker (is_foreign_key_formed parts.columns parts.indexes) (is_foreign_key_formed parts.columns (by_class parts.columns parts.indexes)) (key_formed parts.columns parts.indexes) parts.foreign_keys linked.formed in
    let counted = and_from (nat_le (length keys) 1024) (list_all formed keys) (no_more 1024 (length parts.foreign_keys) few) all in
    let distinct = and_from (nat_le (length keys) 1024 && list_all formed keys) (are_distinct is_same_constraint keys) counted linked.distinct in
    and_from (nat_le (length keys) 1024 && list_all formed keys && are_distinct is_same_constraint keys) (are_in_order keys) distinct linked.ordered

-- ## The whole table

record IsTable (table : ObjName) (parts : TableParts) : Type 0 where
  name : parts.name ≡ table
  formed : is_well_formed parts ≡ true

whole_formed : (parts : TableParts) → IsWithin parts → AreIndexed parts → AreLinked parts → is_well_formed (record parts { indexes = by_class parts.columns parts.indexes }) ≡ true
unfolding is_well_formed
whole_formed parts within good linked =
    let ordered : List IndexDef = by_class parts.columns parts.indexes in
    let indexes = and_from (are_columns_formed parts.columns) (are_indexes_formed parts.columns ordered) good.sound.formed (indexes_formed parts within.few good) in
    let autos = and_from (are_columns_formed parts.columns && are_indexes_formed parts.columns ordered) (are_autos_formed parts.columns ordered) indexes (autos_formed parts good.sound within.led) in
    and_from (are_columns_formed parts.columns && are_indexes_formed parts.columns ordered && are_autos_formed parts.columns ordered) (are_foreign_keys_formed parts.columns ordered parts.foreign_keys) autos (foreign_keys_formed parts within.keys linked)

start_keyed : (table : ObjName) (columns : List ColumnDef) → AreSound columns → IsKeyed table (of_columns table columns)
start_keyed table columns sound = record { name = refl; none = refl; good = λ few. record { sound = sound; distinct = refl; formed = refl; single = omega arith } }

start_linked : (table : ObjName) (keyed : TableParts) → IsKeyed table keyed → IsLinked table keyed
start_linked table keyed good = record {
  name = good.name;
  good = good.good;
  linked = λ few. record {
    formed = ap (list_all (is_foreign_key_formed keyed.columns keyed.indexes)) good.none;
    distinct = ap (are_distinct is_same_constraint) good.none;
    ordered = ap are_in_order good.none;
  };
}

table_is_made : (look : Look) (table : ObjName) (elements : List Element) (parts : TableParts) → run look (table_of table elements) ≡ fine parts → IsTable table parts
unfolding table_of
table_is_made look table elements parts is =
    let (columns, columns_made, after_columns) = bind_fine look (all_columns (flat_map column_in elements)) _ parts is in
    let (keyed, keys_made, after_keys) = bind_fine look (over (one_key (flat_map column_in elements)) (of_columns table columns) (all_keys elements)) _ parts after_columns in
    let (linked, links_made, after_links) = bind_fine look (over one_foreign_key keyed (flat_map foreign_key_in elements)) _ parts after_keys in
    let (limits, limited, last) = bind_fine look (within_limits linked) _ parts after_links in
    let start : IsKeyed table (of_columns table columns) = start_keyed table columns (columns_sound look (flat_map column_in elements) columns columns_made) in
    let with_keys : IsKeyed table keyed = keys_keep look table (flat_map column_in elements) (of_columns table columns) (all_keys elements) keyed start keys_made in
    let whole : IsLinked table linked = foreign_keys_keep look table keyed (flat_map foreign_key_in elements) linked (start_linked table keyed with_keys) links_made in
    let within : IsWithin linked = is_within look linked limits limited in
    subst (IsTable table) (fine_is last) (record { name = whole.name; formed = whole_formed linked within (whole.good within.few) (whole.linked within.few) })

pub table_is_formed : (look : Look) (table : ObjName) (elements : List Element) (parts : TableParts) → run look (table_of table elements) ≡ fine parts → is_well_formed parts ≡ true
table_is_formed look table elements parts is = (table_is_made look table elements parts is).formed

pub table_has_name : (look : Look) (table : ObjName) (elements : List Element) (parts : TableParts) → run look (table_of table elements) ≡ fine parts → parts.name ≡ table
table_has_name look table elements parts is = (table_is_made look table elements parts is).name

-- ## The statement

unless_same : (look : Look) (skipped : Bool) (error : ErrorValue) (choice : Choice) → run look (unless skipped error) ≡ fine choice → LeavesFormed choice
unless_same look true error choice is = subst LeavesFormed (fine_is is) tt
unless_same look false error choice is = cc

made_left : (look : Look) (session : SessionState) (table : ObjName) (elements : List Element) (choice : Choice) → run look (table_of table elements >>= λ parts. done (table_made session table parts)) ≡ fine choice → LeavesFormed choice
made_left look session table elements choice is =
    let (parts, made, last) = bind_fine look (table_of table elements) _ choice is in
    let good : IsTable table parts = table_is_made look table elements parts made in
    subst LeavesFormed {x = table_made session table parts} (fine_is last) (record { formed = good.formed; named = good.name }, tt)

pub create_leaves_formed : (look : Look) (session : SessionState) (if_not_exists : Bool) (ref : ObjRef) (elements : List Element) (choice : Choice) → run look (create_table session if_not_exists ref elements) ≡ fine choice → LeavesFormed choice
unfolding create_table
create_leaves_formed look session if_not_exists ref elements choice is =
    let (table, named, after_name) = bind_fine look (one_named session.current ref) _ choice is in
    let (seen, there, after_look) = bind_fine look (look_at (keys.Object table)) _ choice after_name in
    on table (is_nothing seen) after_look
  where
    on : (table : ObjName) (b : Bool) → run look (if b then (table_of table elements >>= λ parts. done (table_made session table parts)) else unless if_not_exists (refusals.table_exists table.name)) ≡ fine choice → LeavesFormed choice
    on table true is = made_left look session table elements choice is
    on table false is = unless_same look if_not_exists (refusals.table_exists table.name) choice is
