-- A table one of whose columns has another name.
use Rattle.std.specs.Prelude.{◌≡◌, ℕ, ◌≤◌, ◌==◌, Bool, true, false, ◌&&◌, ◌||◌, not, nat_le, List, [], ◌∷◌, map, length, if◌then◌else◌, refl}
use Rattle.std.specs.List.{list_all, starts_with, AllByRecursion}
use Rattle.std.specs.Str.{bytes_eq}
use Rattle.std.proofs.Common.{sym, ◌∙◌, ap, subst, inl, inr}
use Rattle.std.proofs.lemmas.Bool.{true≢false, and_parts, and_from, false_from_ne_true, cases_Bool, cond_both, cond-true}
use Rattle.std.proofs.lemmas.List.{length-map}
use Rattle.dd_names.specs.Names.{same}
use Rattle.dd_names.specs.declared.object_name.ObjName.{ObjName}
use Rattle.dd_definitions.specs.Columns.{is_same_column, is_typed, is_column, is_nullable, are_key_columns, are_columns_formed}
use Rattle.dd_definitions.specs.Distinct.{are_distinct}
use Rattle.dd_definitions.specs.ForeignKeys.{is_same_constraint, has_index_on, is_foreign_key_formed, are_in_order, are_foreign_keys_formed}
use Rattle.dd_definitions.specs.Indexes.{is_primary, is_secondary, is_same_index, is_well_named, is_never_null, has_nullable, is_index_formed, are_indexes_formed, are_autos_formed, are_ranked_from}
use Rattle.dd_definitions.specs.WellFormed.{is_well_formed}
use Rattle.dd_definitions.specs.declared.columns.ColumnDef.{ColumnDef}
use Rattle.dd_definitions.specs.declared.foreign_keys.ForeignKeyDef.{ForeignKeyDef}
use Rattle.dd_definitions.specs.declared.indexes.IndexDef.{IndexDef}
use Rattle.dd_definitions.specs.declared.parts.TableParts.{TableParts}
use Rattle.dd_catalog.specs.Catalog.{is_same_object}
use Rattle.rules_elements_laws.specs.Taken.{is_auto_by_itself}
use Rattle.rules_create.specs.Leaves.{IsTableAt}
use Rattle.rules_create.specs.Tables.{has_column}
use Rattle.rules_create.proofs.Lists.{all_weaker, any_weaker, any_map, all_map, same_all, distinct_map, each_in}
use Rattle.rules_create.proofs.Names.{bytes_are, bytes_same, same_turned, same_where_equal}
use Rattle.rules_alter.specs.Altering.{all_renamed, child_renamed, column_renamed, is_child_touched, other_columns, own_key_renamed, renamed_column, renamed_index, renamed_name, with_column_renamed, with_keys_renamed, with_parent_renamed}
use Rattle.rules_alter.specs.declared.states.Altering.{Altering}
use Rattle.rules_alter.specs.declared.states.Child.{Child}
use Rattle.rules_alter_laws.specs.Stands.{HasColumns, HasIndexes, HasKeys, StandsInOrder}
use Rattle.rules_alter_laws.proofs.Dropped.{apart_from, other_stays}
use Rattle.rules_alter_laws.proofs.Kept.{columns_there, index_from, IsIndexFormed, index_parts, key_from, IsKeyFormed, key_parts}
use Rattle.rules_alter_laws.proofs.Mapped.{same_any_where, count_map, distinct_where, ordered_map, names_distinct}
use Rattle.rules_alter_laws.proofs.Ordered.{IsBehind}
use Rattle.rules_alter_laws.proofs.Ranks.{same_rank, ranked_map}

-- ## Names

-- the name that is new is like that of no other column
pub record IsRenaming (columns : List ColumnDef) (from to : List ℕ) : Type 0 where
  pub distinct : are_distinct is_same_column columns ≡ true
  pub there : is_column columns from ≡ true
  pub new : (name : List ℕ) → is_column columns name ≡ true → bytes_eq name from ≡ false → same name to ≡ false

pub is_renaming : (columns : List ColumnDef) (from to : List ℕ) → are_distinct is_same_column columns ≡ true → is_column columns from ≡ true → has_column (other_columns from columns) to ≡ false → IsRenaming columns from to
unfolding is_column
is_renaming columns from to distinct there none = record {
  distinct = distinct;
  there = there;
  new = λ name is other. false_from_ne_true (same name to) (λ alike.
      let stays = other_stays from name columns is (apart_from columns from name distinct there is other) in
      true≢false (sym (any_weaker (λ (c : ColumnDef). bytes_eq c.name name) (λ (c : ColumnDef). same c.name to) (λ c here. ap (λ n. same n to) (bytes_are c.name name here) ∙ alike) (other_columns from columns) stays) ∙ none));
}

renamed_first : (from to name : List ℕ) → name ≡ from → renamed_name from to name ≡ to
renamed_first from to name is = cond-true (bytes_eq name from) to name (bytes_same name from is)

-- two columns whose names aren't alike have names that aren't alike
names_apart : (columns : List ColumnDef) (from to : List ℕ) → IsRenaming columns from to → (a b : List ℕ) → is_column columns a ≡ true → is_column columns b ≡ true → same a b ≡ false → same (renamed_name from to a) (renamed_name from to b) ≡ false
names_apart columns from to new a b one other apart = on (bytes_eq a from) refl (bytes_eq b from) refl
  where
    on : (x : Bool) → bytes_eq a from ≡ x → (y : Bool) → bytes_eq b from ≡ y → same (if x then to else a) (if y then to else b) ≡ false
    on true first true second = absurd (true≢false (sym (same_where_equal a b (bytes_are a from first ∙ sym (bytes_are b from second))) ∙ apart))
    on true first false second = same_turned to b ∙ new.new b other second
    on false first true second = new.new a one first
    on false first false second = apart

bytes_apart : (columns : List ColumnDef) (from to : List ℕ) → IsRenaming columns from to → (a b : List ℕ) → is_column columns a ≡ true → is_column columns b ≡ true → bytes_eq a b ≡ false → bytes_eq (renamed_name from to a) (renamed_name from to b) ≡ false
bytes_apart columns from to new a b one other apart =
    false_from_ne_true (bytes_eq (renamed_name from to a) (renamed_name from to b)) (λ is.
    let alike : same (renamed_name from to a) (renamed_name from to b) ≡ true = same_where_equal (renamed_name from to a) (renamed_name from to b) (bytes_are (renamed_name from to a) (renamed_name from to b) is) in
    true≢false (sym alike ∙ names_apart columns from to new a b one other (apart_from columns b a new.distinct other one apart)))

-- the new names are the same where the old ones are
pub same_bytes : (columns : List ColumnDef) (from to : List ℕ) → IsRenaming columns from to → (a b : List ℕ) → is_column columns a ≡ true → is_column columns b ≡ true → bytes_eq (renamed_name from to a) (renamed_name from to b) ≡ bytes_eq a b
same_bytes columns from to new a b one other = elim (cases_Bool (bytes_eq a b)) [
  | inl is ↦ bytes_same (renamed_name from to a) (renamed_name from to b) (ap (renamed_name from to) (bytes_are a b is)) ∙ sym is
  | inr apart ↦ bytes_apart columns from to new a b one other apart ∙ sym apart
]

-- ## Columns

-- each column is one of the table's
abbrev is_own : List ColumnDef → ColumnDef → Bool
is_own columns column = is_column columns column.name

each_own : (columns : List ColumnDef) → list_all (is_own columns) columns ≡ true
unfolding is_column
each_own columns = each_in (λ (a b : ColumnDef). bytes_eq b.name a.name) (λ a. bytes_same a.name a.name refl) columns

same_type : (from to : List ℕ) (column : ColumnDef) → is_typed (renamed_column from to column) ≡ is_typed column
unfolding is_typed
same_type from to column = refl

columns_renamed_stand : (columns : List ColumnDef) (from to : List ℕ) → IsRenaming columns from to → HasColumns columns → HasColumns (map (renamed_column from to) columns)
columns_renamed_stand columns from to new good = record {
  distinct = distinct_where is_same_column (is_own columns) (renamed_column from to) (λ a b one other apart. names_apart columns from to new a.name b.name one other apart) columns (each_own columns) good.distinct;
  typed = all_map is_typed (renamed_column from to) columns ∙ same_all (λ c. is_typed (renamed_column from to c)) is_typed (same_type from to) columns ∙ good.typed;
  auto = all_map is_auto_by_itself (renamed_column from to) columns ∙ good.auto;
}

pub renamed_is_column : (columns : List ColumnDef) (from to name : List ℕ) → is_column columns name ≡ true → is_column (map (renamed_column from to) columns) (renamed_name from to name) ≡ true
unfolding is_column
renamed_is_column columns from to name is =
    any_map (λ (c : ColumnDef). bytes_eq c.name (renamed_name from to name)) (renamed_column from to) columns
    ∙ any_weaker (λ (c : ColumnDef). bytes_eq c.name name) (λ (c : ColumnDef). bytes_eq (renamed_name from to c.name) (renamed_name from to name))
    (λ c here. bytes_same (renamed_name from to c.name) (renamed_name from to name) (ap (renamed_name from to) (bytes_are c.name name here))) columns is

renamed_is_nullable : (columns : List ColumnDef) (from to : List ℕ) → IsRenaming columns from to → (name : List ℕ) → is_column columns name ≡ true → is_nullable (map (renamed_column from to) columns) (renamed_name from to name) ≡ is_nullable columns name
unfolding is_nullable
renamed_is_nullable columns from to new name is =
    any_map (λ (c : ColumnDef). bytes_eq c.name (renamed_name from to name) && c.nullable) (renamed_column from to) columns
    ∙ same_any_where (λ (c : ColumnDef). bytes_eq (renamed_name from to c.name) (renamed_name from to name) && c.nullable) (λ (c : ColumnDef). bytes_eq c.name name && c.nullable) (is_own columns)
    (λ c own. ap (λ b. b && c.nullable) (same_bytes columns from to new c.name name own is)) columns (each_own columns)

all_renamed_there : (columns : List ColumnDef) (from to : List ℕ) (names : List (List ℕ)) → list_all (is_column columns) names ≡ true → list_all (is_column (map (renamed_column from to) columns)) (map (renamed_name from to) names) ≡ true
all_renamed_there columns from to names there =
    all_map (is_column (map (renamed_column from to) columns)) (renamed_name from to) names
    ∙ all_weaker (is_column columns) (λ n. is_column (map (renamed_column from to) columns) (renamed_name from to n)) (λ n is. renamed_is_column columns from to n is) names there

key_columns_renamed : (columns : List ColumnDef) (from to : List ℕ) → IsRenaming columns from to → (names : List (List ℕ)) → are_key_columns columns names ≡ true → are_key_columns (map (renamed_column from to) columns) (map (renamed_name from to) names) ≡ true
unfolding are_key_columns
key_columns_renamed columns from to new names fits =
    let next = map (renamed_column from to) columns in
    let others = map (renamed_name from to) names in
    let (front, there) = and_parts (nat_le 1 (length names) && nat_le (length names) 16 && are_distinct bytes_eq names) (list_all (is_column columns) names) fits in
    let (few, distinct) = and_parts (nat_le 1 (length names) && nat_le (length names) 16) (are_distinct bytes_eq names) front in
    and_from (nat_le 1 (length others) && nat_le (length others) 16 && are_distinct bytes_eq others) (list_all (is_column next) others)
    (and_from (nat_le 1 (length others) && nat_le (length others) 16) (are_distinct bytes_eq others)
    (ap (λ n. nat_le 1 n && nat_le n 16) (length-map names (renamed_name from to)) ∙ few)
    (distinct_where bytes_eq (is_column columns) (renamed_name from to) (λ a b one other apart. bytes_apart columns from to new a b one other apart) names there distinct))
    (all_renamed_there columns from to names there)

-- ## Indexes

renamed_has_nullable : (columns : List ColumnDef) (from to : List ℕ) → IsRenaming columns from to → (index : IndexDef) → list_all (is_column columns) index.columns ≡ true → has_nullable (map (renamed_column from to) columns) (renamed_index from to index) ≡ has_nullable columns index
unfolding has_nullable
renamed_has_nullable columns from to new index there =
    any_map (is_nullable (map (renamed_column from to) columns)) (renamed_name from to) index.columns
    ∙ same_any_where (λ n. is_nullable (map (renamed_column from to) columns) (renamed_name from to n)) (is_nullable columns) (is_column columns) (λ n is. renamed_is_nullable columns from to new n is) index.columns there

renamed_never_null : (columns : List ColumnDef) (from to : List ℕ) → IsRenaming columns from to → (index : IndexDef) → list_all (is_column columns) index.columns ≡ true → is_never_null columns index ≡ true → is_never_null (map (renamed_column from to) columns) (renamed_index from to index) ≡ true
unfolding is_never_null
renamed_never_null columns from to new index there never = ap (λ b. is_secondary index || not b) (renamed_has_nullable columns from to new index there) ∙ never

renamed_well_named : (from to : List ℕ) (index : IndexDef) → is_well_named (renamed_index from to index) ≡ is_well_named index
unfolding is_well_named
renamed_well_named from to index = refl

index_renamed_formed : (columns : List ColumnDef) (from to : List ℕ) → IsRenaming columns from to → (index : IndexDef) → is_index_formed columns index ≡ true → is_index_formed (map (renamed_column from to) columns) (renamed_index from to index) ≡ true
index_renamed_formed columns from to new index formed =
    let parts : IsIndexFormed columns index = index_parts columns index formed in
    index_from (map (renamed_column from to) columns) (renamed_index from to index) (record {
      fits = key_columns_renamed columns from to new index.columns parts.fits;
      named = renamed_well_named from to index ∙ parts.named;
      never = renamed_never_null columns from to new index (columns_there columns index.columns parts.fits) parts.never;
    })

indexes_renamed_stand : (columns : List ColumnDef) (from to : List ℕ) → IsRenaming columns from to → (indexes : List IndexDef) → HasIndexes columns indexes → HasIndexes (map (renamed_column from to) columns) (map (renamed_index from to) indexes)
indexes_renamed_stand columns from to new indexes good = record {
  distinct = distinct_map is_same_index (renamed_index from to) (λ a b. refl) indexes ∙ good.distinct;
  formed = all_map (is_index_formed (map (renamed_column from to) columns)) (renamed_index from to) indexes
      ∙ all_weaker (is_index_formed columns) (λ i. is_index_formed (map (renamed_column from to) columns) (renamed_index from to i)) (λ i formed. index_renamed_formed columns from to new i formed) indexes good.formed;
  single = subst (λ n. n ≤ 1) (sym (count_map is_primary (renamed_index from to) indexes)) good.single;
}

indexes_renamed_ranked : (columns : List ColumnDef) (from to : List ℕ) → IsRenaming columns from to → (indexes : List IndexDef) → list_all (is_index_formed columns) indexes ≡ true → are_ranked_from columns 0 indexes ≡ true
    → are_ranked_from (map (renamed_column from to) columns) 0 (map (renamed_index from to) indexes) ≡ true
indexes_renamed_ranked columns from to new indexes formed ranked = ranked_map columns (map (renamed_column from to) columns) (renamed_index from to) (is_index_formed columns)
    (λ i is. same_rank columns (map (renamed_column from to) columns) i (renamed_index from to i) refl (renamed_has_nullable columns from to new i (columns_there columns i.columns (index_parts columns i is).fits))) 0 indexes formed ranked

-- ## Foreign keys

begins_renamed : (from to : List ℕ) (xs names : List (List ℕ)) → starts_with bytes_eq xs names ≡ true → starts_with bytes_eq (map (renamed_name from to) xs) (map (renamed_name from to) names) ≡ true
begins_renamed from to xs [] begins = refl
begins_renamed from to [] (name ∷ names) begins = cc
begins_renamed from to (x ∷ xs) (name ∷ names) begins =
    let (here, rest) = and_parts (bytes_eq name x) (starts_with bytes_eq xs names) begins in
    and_from (bytes_eq (renamed_name from to name) (renamed_name from to x)) (starts_with bytes_eq (map (renamed_name from to) xs) (map (renamed_name from to) names))
    (bytes_same (renamed_name from to name) (renamed_name from to x) (ap (renamed_name from to) (bytes_are name x here))) (begins_renamed from to xs names rest)

pub leads_renamed : (from to : List ℕ) (indexes : List IndexDef) (names : List (List ℕ)) → has_index_on indexes names ≡ true → has_index_on (map (renamed_index from to) indexes) (map (renamed_name from to) names) ≡ true
unfolding has_index_on
leads_renamed from to indexes names has =
    any_map (λ (i : IndexDef). starts_with bytes_eq i.columns (map (renamed_name from to) names)) (renamed_index from to) indexes
    ∙ any_weaker (λ (i : IndexDef). starts_with bytes_eq i.columns names) (λ (i : IndexDef). starts_with bytes_eq (map (renamed_name from to) i.columns) (map (renamed_name from to) names))
    (λ i begins. begins_renamed from to i.columns names begins) indexes has

-- what holds of a foreign key whatever it refers to
parent_either_way : (table : ObjName) (from to : List ℕ) (key : ForeignKeyDef) (P : ForeignKeyDef → Type 0) → P (record key { parent_columns = map (renamed_name from to) key.parent_columns }) → P key → P (with_parent_renamed table from to key)
parent_either_way table from to key P renamed as_it_is = cond_both (is_same_object key.parent table) (record key { parent_columns = map (renamed_name from to) key.parent_columns }) key P (λ _. renamed) (λ _. as_it_is)

pub parent_keeps_name : (table : ObjName) (from to : List ℕ) (key : ForeignKeyDef) → (with_parent_renamed table from to key).name ≡ key.name
parent_keeps_name table from to key = parent_either_way table from to key (λ k. k.name ≡ key.name) refl refl

parent_keeps_formed : (columns : List ColumnDef) (indexes : List IndexDef) (table : ObjName) (from to : List ℕ) (key : ForeignKeyDef) → is_foreign_key_formed columns indexes (with_parent_renamed table from to key) ≡ is_foreign_key_formed columns indexes key
unfolding is_foreign_key_formed
parent_keeps_formed columns indexes table from to key = parent_either_way table from to key (λ k. is_foreign_key_formed columns indexes k ≡ is_foreign_key_formed columns indexes key)
    (ap (λ n. are_key_columns columns key.columns && (length key.columns == n) && has_index_on indexes key.columns) (length-map key.parent_columns (renamed_name from to))) refl

own_keeps_name : (table : ObjName) (from to : List ℕ) (key : ForeignKeyDef) → (own_key_renamed table from to key).name ≡ key.name
own_keeps_name table from to key = parent_keeps_name table from to (record key { columns = map (renamed_name from to) key.columns })

own_key_formed : (columns : List ColumnDef) (from to : List ℕ) → IsRenaming columns from to → (indexes : List IndexDef) (table : ObjName) (key : ForeignKeyDef) → is_foreign_key_formed columns indexes key ≡ true
    → is_foreign_key_formed (map (renamed_column from to) columns) (map (renamed_index from to) indexes) (own_key_renamed table from to key) ≡ true
own_key_formed columns from to new indexes table key formed =
    let parts : IsKeyFormed columns indexes key = key_parts columns indexes key formed in
    parent_keeps_formed (map (renamed_column from to) columns) (map (renamed_index from to) indexes) table from to (record key { columns = map (renamed_name from to) key.columns })
    ∙ key_from (map (renamed_column from to) columns) (map (renamed_index from to) indexes) (record key { columns = map (renamed_name from to) key.columns }) (record {
      fits = key_columns_renamed columns from to new key.columns parts.fits;
      count = ap (λ n. n == length key.parent_columns) (length-map key.columns (renamed_name from to)) ∙ parts.count;
      has = leads_renamed from to indexes key.columns parts.has;
    })

keys_renamed_stand : (columns : List ColumnDef) (from to : List ℕ) → IsRenaming columns from to → (indexes : List IndexDef) (table : ObjName) (keys : List ForeignKeyDef) → HasKeys columns indexes keys
    → HasKeys (map (renamed_column from to) columns) (map (renamed_index from to) indexes) (map (own_key_renamed table from to) keys)
keys_renamed_stand columns from to new indexes table keys good = record {
  formed = all_map (is_foreign_key_formed (map (renamed_column from to) columns) (map (renamed_index from to) indexes)) (own_key_renamed table from to) keys
      ∙ all_weaker (is_foreign_key_formed columns indexes) (λ k. is_foreign_key_formed (map (renamed_column from to) columns) (map (renamed_index from to) indexes) (own_key_renamed table from to k)) (λ k formed. own_key_formed columns from to new indexes table k formed) keys good.formed;
  distinct = names_distinct (own_key_renamed table from to) (own_keeps_name table from to) keys ∙ good.distinct;
  ordered = ordered_map (own_key_renamed table from to) (own_keeps_name table from to) keys ∙ good.ordered;
}

-- ## The table

renamed_stands : (from to : List ℕ) (parts : TableParts) → IsRenaming parts.columns from to → StandsInOrder parts → StandsInOrder (with_column_renamed from to parts)
renamed_stands from to parts new good = record {
  stands = record {
    some = subst (λ n. 1 ≤ n) (sym (length-map parts.columns (renamed_column from to))) good.stands.some;
    columns = columns_renamed_stand parts.columns from to new good.stands.columns;
    indexes = indexes_renamed_stand parts.columns from to new parts.indexes good.stands.indexes;
    keys = keys_renamed_stand parts.columns from to new parts.indexes parts.name parts.foreign_keys good.stands.keys;
  };
  ranked = indexes_renamed_ranked parts.columns from to new parts.indexes good.stands.indexes.formed good.ranked;
}

-- ## Its children

child_keys_formed : (columns : List ColumnDef) (indexes : List IndexDef) (table : ObjName) (from to : List ℕ) (keys : List ForeignKeyDef) → are_foreign_keys_formed columns indexes (map (with_parent_renamed table from to) keys) ≡ are_foreign_keys_formed columns indexes keys
unfolding are_foreign_keys_formed
child_keys_formed columns indexes table from to keys =
    let counted : nat_le (length (map (with_parent_renamed table from to) keys)) 1024 ≡ nat_le (length keys) 1024 = ap (λ n. nat_le n 1024) (length-map keys (with_parent_renamed table from to)) in
    let formed : list_all (is_foreign_key_formed columns indexes) (map (with_parent_renamed table from to) keys) ≡ list_all (is_foreign_key_formed columns indexes) keys =
    all_map (is_foreign_key_formed columns indexes) (with_parent_renamed table from to) keys ∙ same_all (λ k. is_foreign_key_formed columns indexes (with_parent_renamed table from to k)) (is_foreign_key_formed columns indexes) (parent_keeps_formed columns indexes table from to) keys in
    let distinct : are_distinct is_same_constraint (map (with_parent_renamed table from to) keys) ≡ are_distinct is_same_constraint keys = names_distinct (with_parent_renamed table from to) (parent_keeps_name table from to) keys in
    let ordered : are_in_order (map (with_parent_renamed table from to) keys) ≡ are_in_order keys = ordered_map (with_parent_renamed table from to) (parent_keeps_name table from to) keys in
    cc

child_keys_renamed : (table : ObjName) (from to : List ℕ) (parts : TableParts) → is_well_formed (with_keys_renamed table from to parts) ≡ is_well_formed parts
unfolding is_well_formed
child_keys_renamed table from to parts =
    ap (λ b. are_columns_formed parts.columns && are_indexes_formed parts.columns parts.indexes && are_autos_formed parts.columns parts.indexes && b) (child_keys_formed parts.columns parts.indexes table from to parts.foreign_keys)

child_still_formed : (table : ObjName) (from to : List ℕ) (child : Child) → IsTableAt child.name child.parts → IsTableAt (child_renamed table from to child).name (child_renamed table from to child).parts
child_still_formed table from to child at = cond_both (is_child_touched table from child) (record child { parts = with_keys_renamed table from to child.parts; is_changed = true }) child
    (λ (c : Child). IsTableAt c.name c.parts) (λ _. record { formed = child_keys_renamed table from to child.parts ∙ at.formed; named = at.named }) (λ _. at)

children_still_formed : (table : ObjName) (from to : List ℕ) (children : List Child) → AllByRecursion (λ (c : Child). IsTableAt c.name c.parts) children → AllByRecursion (λ (c : Child). IsTableAt c.name c.parts) (map (child_renamed table from to) children)
children_still_formed table from to [] all = tt
children_still_formed table from to (child ∷ children) all = (child_still_formed table from to child all.0, children_still_formed table from to children all.1)

-- ## The column by its new name

all_behind : (from to : List ℕ) (state : Altering) → IsRenaming state.parts.columns from to → StandsInOrder state.parts → IsBehind state (all_renamed from to state)
all_behind from to state new good = record {
  stands = renamed_stands from to state.parts new good;
  name = refl;
  children = λ formed. children_still_formed state.parts.name from to state.children formed;
}

pub renamed_behind : (from to : List ℕ) (state : Altering) → IsRenaming state.parts.columns from to → StandsInOrder state.parts → IsBehind state (column_renamed from to state)
unfolding column_renamed
renamed_behind from to state new good = cond_both (bytes_eq from to) state (all_renamed from to state) (IsBehind state) (λ _. record { stands = good; name = refl; children = λ formed. formed }) (λ _. all_behind from to state new good)
