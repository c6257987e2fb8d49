-- A well-formed table stands, and one that stands within the limits is well formed.
use Rattle.std.specs.Prelude.{◌≡◌, ℕ, ◌≤◌, ◌+◌, Bool, true, false, ◌&&◌, ◌||◌, not, nat_le, nat_lt, List, [], ◌∷◌, length, refl}
use Rattle.std.specs.List.{list_any, list_all, count_by}
use Rattle.std.specs.Option.{is_none}
use Rattle.std.proofs.Common.{arith}
use Rattle.std.proofs.lemmas.Bool.{and_parts, and_from, or_from, not-true, not-false}
use Rattle.std.proofs.lemmas.Bool.Decides.{nat_tests}
use Rattle.dd_definitions.specs.Columns.{is_same_column, is_typed, are_columns_named, are_columns_formed}
use Rattle.dd_definitions.specs.Distinct.{are_distinct}
use Rattle.dd_definitions.specs.ForeignKeys.{is_same_constraint, is_foreign_key_formed, are_in_order, are_foreign_keys_formed}
use Rattle.dd_definitions.specs.Indexes.{is_primary, is_secondary, is_same_index, is_primary_first, is_integer, is_index_formed, are_few_indexes, are_ranked_from, are_indexes_formed, leads_index, is_auto_formed, are_few_autos, are_autos_formed}
use Rattle.dd_definitions.specs.WellFormed.{is_well_formed}
use Rattle.dd_definitions.specs.declared.columns.ColumnDef.{ColumnDef}
use Rattle.dd_definitions.specs.declared.foreign_keys.ForeignKeyDef.{ForeignKeyDef}
use Rattle.dd_definitions.specs.declared.indexes.IndexDef.{IndexDef}
use Rattle.dd_definitions.specs.declared.parts.TableParts.{TableParts}
use Rattle.dd_catalog.specs.Walks.{fine, run, refuse_if}
use Rattle.dd_catalog.specs.WalkLaws.{Look}
use Rattle.dd_catalog.specs.Asked.{bind_fine}
use Rattle.rules_refusals.specs.Refusals.{beyond_limit, too_many_fields, too_many_keys, wrong_auto_key}
use Rattle.rules_elements_laws.specs.Taken.{is_auto_by_itself}
use Rattle.rules_create.specs.Tables.{are_autos_led, is_auto_led}
use Rattle.rules_create.proofs.Lists.{all_weaker, one_if, count_more, count_none}
use Rattle.rules_create.proofs.Names.{not_refused}
use Rattle.rules_alter.specs.ForeignKeys.{all_keys_fit}
use Rattle.rules_alter.specs.Statements.{within_limits}
use Rattle.rules_alter.specs.declared.states.Altering.{Altering}
use Rattle.rules_alter_laws.specs.Stands.{HasColumns, HasIndexes, HasKeys, StandsInOrder}
use Rattle.rules_alter_laws.proofs.Lists.{one_at_most}
use Rattle.rules_alter_laws.proofs.Ranks.{primary_first}
use Rattle.rules_alter_laws.proofs.Redefined.{both_pass}

-- ## What is well formed stands

some_from : (n : ℕ) → nat_le 1 n ≡ true → 1 ≤ n
some_from n is = grind (arith, nat_tests)

record AreColumnsFormed (columns : List ColumnDef) : Type 0 where
  some : 1 ≤ length columns
  distinct : are_distinct is_same_column columns ≡ true
  typed : list_all is_typed columns ≡ true

columns_formed : (columns : List ColumnDef) → are_columns_formed columns ≡ true → AreColumnsFormed columns
unfolding are_columns_formed are_columns_named
columns_formed columns formed =
    let (named, typed) = and_parts (nat_le 1 (length columns) && nat_le (length columns) 1017 && are_distinct is_same_column columns) (list_all is_typed columns) formed in
    let (few, distinct) = and_parts (nat_le 1 (length columns) && nat_le (length columns) 1017) (are_distinct is_same_column columns) named in
    record { some = some_from (length columns) (and_parts (nat_le 1 (length columns)) (nat_le (length columns) 1017) few).0; distinct = distinct; typed = typed }

all_fail : {X : Type 0} (p : X → Bool) (xs : List X) → list_all (λ x. not (p x)) xs ≡ true → list_any p xs ≡ false
all_fail p [] all = refl
all_fail p (x ∷ xs) all =
    let (here, rest) = and_parts (not (p x)) (list_all (λ y. not (p y)) xs) all in
    or_from (p x) (list_any p xs) (not-true (p x) here) (all_fail p xs rest)

single_from : (indexes : List IndexDef) → is_primary_first indexes ≡ true → count_by is_primary indexes ≤ 1
unfolding is_primary_first
single_from [] first = omega arith
single_from (i ∷ is) first =
    let more : count_by is_primary (i ∷ is) ≡ one_if (is_primary i) + count_by is_primary is = count_more is_primary i is in
    let rest : count_by is_primary is ≡ 0 = count_none is_primary is (all_fail is_primary is first) in
    let most : one_if (is_primary i) ≤ 1 = one_at_most (is_primary i) in
    omega arith

record AreIndexesFormed (columns : List ColumnDef) (indexes : List IndexDef) : Type 0 where
  good : HasIndexes columns indexes
  ranked : are_ranked_from columns 0 indexes ≡ true

indexes_formed : (columns : List ColumnDef) (indexes : List IndexDef) → are_indexes_formed columns indexes ≡ true → AreIndexesFormed columns indexes
unfolding are_indexes_formed
indexes_formed columns indexes formed =
    let (front, ranked) = and_parts (is_primary_first indexes && are_distinct is_same_index indexes && list_all (is_index_formed columns) indexes && are_few_indexes indexes) (are_ranked_from columns 0 indexes) formed in
    let (more, few) = and_parts (is_primary_first indexes && are_distinct is_same_index indexes && list_all (is_index_formed columns) indexes) (are_few_indexes indexes) front in
    let (both, each) = and_parts (is_primary_first indexes && are_distinct is_same_index indexes) (list_all (is_index_formed columns) indexes) more in
    let (first, distinct) = and_parts (is_primary_first indexes) (are_distinct is_same_index indexes) both in
    record { good = record { distinct = distinct; formed = each; single = single_from indexes first }; ranked = ranked }

auto_alone : (auto integer null none leads : Bool) → (not auto || (integer && not null && none && leads)) ≡ true → (not auto || (integer && (not null && none))) ≡ true
auto_alone false integer null none leads fits = refl
auto_alone true true true none leads fits = cc
auto_alone true true false true leads fits = refl
auto_alone true true false false leads fits = cc
auto_alone true false null none leads fits = cc

autos_alone : (columns : List ColumnDef) (indexes : List IndexDef) → are_autos_formed columns indexes ≡ true → list_all is_auto_by_itself columns ≡ true
unfolding are_autos_formed is_auto_formed
autos_alone columns indexes formed =
    all_weaker (λ (c : ColumnDef). not c.auto || (is_integer c.kind && not c.nullable && is_none c.default && leads_index indexes c.name)) is_auto_by_itself
    (λ c fits. auto_alone c.auto (is_integer c.kind) c.nullable (is_none c.default) (leads_index indexes c.name) fits) columns
    (and_parts (are_few_autos columns) (list_all (λ (c : ColumnDef). not c.auto || (is_integer c.kind && not c.nullable && is_none c.default && leads_index indexes c.name)) columns) formed).1

keys_formed : (columns : List ColumnDef) (indexes : List IndexDef) (keys : List ForeignKeyDef) → are_foreign_keys_formed columns indexes keys ≡ true → HasKeys columns indexes keys
unfolding are_foreign_keys_formed
keys_formed columns indexes keys formed =
    let (front, ordered) = and_parts (nat_le (length keys) 1024 && list_all (is_foreign_key_formed columns indexes) keys && are_distinct is_same_constraint keys) (are_in_order keys) formed in
    let (more, distinct) = and_parts (nat_le (length keys) 1024 && list_all (is_foreign_key_formed columns indexes) keys) (are_distinct is_same_constraint keys) front in
    record { formed = (and_parts (nat_le (length keys) 1024) (list_all (is_foreign_key_formed columns indexes) keys) more).1; distinct = distinct; ordered = ordered }

pub formed_stands : (parts : TableParts) → is_well_formed parts ≡ true → StandsInOrder parts
unfolding is_well_formed
formed_stands parts formed =
    let (front, keys) = and_parts (are_columns_formed parts.columns && are_indexes_formed parts.columns parts.indexes && are_autos_formed parts.columns parts.indexes) (are_foreign_keys_formed parts.columns parts.indexes parts.foreign_keys) formed in
    let (both, autos) = and_parts (are_columns_formed parts.columns && are_indexes_formed parts.columns parts.indexes) (are_autos_formed parts.columns parts.indexes) front in
    let (own, others) = and_parts (are_columns_formed parts.columns) (are_indexes_formed parts.columns parts.indexes) both in
    let columns : AreColumnsFormed parts.columns = columns_formed parts.columns own in
    let indexes : AreIndexesFormed parts.columns parts.indexes = indexes_formed parts.columns parts.indexes others in
    record {
      stands = record {
        some = columns.some;
        columns = record { distinct = columns.distinct; typed = columns.typed; auto = autos_alone parts.columns parts.indexes autos };
        indexes = indexes.good;
        keys = keys_formed parts.columns parts.indexes parts.foreign_keys keys;
      };
      ranked = indexes.ranked;
    }

-- ## What stands within the limits is well formed

record IsWithin (parts : TableParts) : Type 0 where
  columns : nat_le (length parts.columns) 1017 ≡ true
  indexes : nat_le (count_by is_secondary parts.indexes) 64 ≡ true
  led : are_autos_led parts ≡ true
  keys : nat_le (length parts.foreign_keys) 1024 ≡ true

no_more : (most n : ℕ) → nat_lt most n ≡ false → nat_le n most ≡ true
no_more most n is = grind (arith, nat_tests)

is_within : (look : Look) (state : Altering) (x : Unit {0}) → run look (within_limits state) ≡ fine x → IsWithin state.parts
unfolding within_limits
is_within look state x is =
    let (_, columns, after_columns) = bind_fine look (refuse_if (nat_lt 1017 (length state.parts.columns)) too_many_fields) _ x is in
    let (_, indexes, after_indexes) = bind_fine look (refuse_if (nat_lt 64 (count_by is_secondary state.parts.indexes)) too_many_keys) _ x after_columns in
    let (_, led, after_led) = bind_fine look (refuse_if (not (are_autos_led state.parts)) wrong_auto_key) _ x after_indexes in
    let (_, fit, last) = bind_fine look (all_keys_fit state) _ x after_led in
    record {
      columns = no_more 1017 (length state.parts.columns) (not_refused look (nat_lt 1017 (length state.parts.columns)) too_many_fields tt columns);
      indexes = no_more 64 (count_by is_secondary state.parts.indexes) (not_refused look (nat_lt 64 (count_by is_secondary state.parts.indexes)) too_many_keys tt indexes);
      led = not-false (are_autos_led state.parts) (not_refused look (not (are_autos_led state.parts)) wrong_auto_key tt led);
      keys = no_more 1024 (length state.parts.foreign_keys) (not_refused look (nat_lt 1024 (length state.parts.foreign_keys)) (beyond_limit "1024") x last);
    }

some_to : (n : ℕ) → 1 ≤ n → nat_le 1 n ≡ true
some_to n is = grind (arith, nat_tests)

columns_within : (columns : List ColumnDef) → 1 ≤ length columns → nat_le (length columns) 1017 ≡ true → HasColumns columns → are_columns_formed columns ≡ true
unfolding are_columns_formed are_columns_named
columns_within columns some few good =
    and_from (nat_le 1 (length columns) && nat_le (length columns) 1017 && are_distinct is_same_column columns) (list_all is_typed columns)
    (and_from (nat_le 1 (length columns) && nat_le (length columns) 1017) (are_distinct is_same_column columns) (and_from (nat_le 1 (length columns)) (nat_le (length columns) 1017) (some_to (length columns) some) few) good.distinct) good.typed

indexes_within : (columns : List ColumnDef) (indexes : List IndexDef) → nat_le (count_by is_secondary indexes) 64 ≡ true → HasIndexes columns indexes → are_ranked_from columns 0 indexes ≡ true → are_indexes_formed columns indexes ≡ true
unfolding are_indexes_formed are_few_indexes
indexes_within columns indexes few good ranked =
    let first = and_from (is_primary_first indexes) (are_distinct is_same_index indexes) (primary_first columns indexes ranked good.single) good.distinct in
    let each = and_from (is_primary_first indexes && are_distinct is_same_index indexes) (list_all (is_index_formed columns) indexes) first good.formed in
    let counted = and_from (is_primary_first indexes && are_distinct is_same_index indexes && list_all (is_index_formed columns) indexes) (nat_le (count_by is_secondary indexes) 64) each few in
    and_from (is_primary_first indexes && are_distinct is_same_index indexes && list_all (is_index_formed columns) indexes && nat_le (count_by is_secondary indexes) 64) (are_ranked_from columns 0 indexes) counted ranked

auto_led : (auto integer null none leads : Bool) → ((not auto || (integer && (not null && none))) && (not auto || leads)) ≡ true → (not auto || (integer && not null && none && leads)) ≡ true
auto_led false integer null none leads both = refl
auto_led true true true none leads both = cc
auto_led true true false true leads both = both
auto_led true true false false leads both = cc
auto_led true false null none leads both = cc

autos_within : (parts : TableParts) → list_all is_auto_by_itself parts.columns ≡ true → are_autos_led parts ≡ true → are_autos_formed parts.columns parts.indexes ≡ true
unfolding are_autos_formed is_auto_formed are_autos_led
autos_within parts alone led =
    let (few, first) = and_parts (are_few_autos parts.columns) (list_all (is_auto_led parts.indexes) parts.columns) led in
    and_from (are_few_autos parts.columns) (list_all (λ (c : ColumnDef). not c.auto || (is_integer c.kind && not c.nullable && is_none c.default && leads_index parts.indexes c.name)) parts.columns) few
    (all_weaker (λ c. is_auto_by_itself c && is_auto_led parts.indexes c) (λ (c : ColumnDef). not c.auto || (is_integer c.kind && not c.nullable && is_none c.default && leads_index parts.indexes c.name))
    (λ c both. auto_led c.auto (is_integer c.kind) c.nullable (is_none c.default) (leads_index parts.indexes c.name) both) parts.columns
    (both_pass is_auto_by_itself (is_auto_led parts.indexes) parts.columns alone first))

keys_within : (columns : List ColumnDef) (indexes : List IndexDef) (keys : List ForeignKeyDef) → nat_le (length keys) 1024 ≡ true → HasKeys columns indexes keys → are_foreign_keys_formed columns indexes keys ≡ true
unfolding are_foreign_keys_formed
keys_within columns indexes keys few good =
    and_from (nat_le (length keys) 1024 && list_all (is_foreign_key_formed columns indexes) keys && are_distinct is_same_constraint keys) (are_in_order keys)
    (and_from (nat_le (length keys) 1024 && list_all (is_foreign_key_formed columns indexes) keys) (are_distinct is_same_constraint keys) (and_from (nat_le (length keys) 1024) (list_all (is_foreign_key_formed columns indexes) keys) few good.formed) good.distinct) good.ordered

whole_formed : (parts : TableParts) → IsWithin parts → StandsInOrder parts → is_well_formed parts ≡ true
unfolding is_well_formed
whole_formed parts within good =
    let columns = are_columns_formed parts.columns in
    let indexes = are_indexes_formed parts.columns parts.indexes in
    let autos = are_autos_formed parts.columns parts.indexes in
    and_from (columns && indexes && autos) (are_foreign_keys_formed parts.columns parts.indexes parts.foreign_keys)
    (and_from (columns && indexes) autos
    (and_from columns indexes (columns_within parts.columns good.stands.some within.columns good.stands.columns) (indexes_within parts.columns parts.indexes within.indexes good.stands.indexes good.ranked))
    (autos_within parts good.stands.columns.auto within.led))
    (keys_within parts.columns parts.indexes parts.foreign_keys within.keys good.stands.keys)

pub limits_form : (look : Look) (state : Altering) (x : Unit {0}) → StandsInOrder state.parts → run look (within_limits state) ≡ fine x → is_well_formed state.parts ≡ true
limits_form look state x good is = whole_formed state.parts (is_within look state x is) good
