-- A table with one index or one foreign key less, or an index by another name.
use Rattle.std.specs.Prelude.{◌≡◌, ℕ, ◌≤◌, Bool, true, false, ◌&&◌, ◌||◌, not, List, [], ◌∷◌, map, filter, if◌then◌else◌, refl}
use Rattle.std.specs.List.{list_any, list_all, count_by, starts_with}
use Rattle.std.specs.Str.{bytes_eq}
use Rattle.std.proofs.Common.{sym, ◌∙◌, ap, subst, arith}
use Rattle.std.proofs.lemmas.Bool.{true≢false, and_parts, and_from, or_parts, not_from_false, not-true, not-false, false_from_ne_true, cond_both, cond-true, cond-false}
use Rattle.dd_names.specs.Names.{same, fold}
use Rattle.dd_definitions.specs.ForeignKeys.{has_index_on, is_foreign_key_formed, is_same_constraint}
use Rattle.dd_definitions.specs.Indexes.{is_primary, primary_name, is_same_index, is_well_named, is_never_null, has_nullable, is_index_formed, rank}
use Rattle.dd_definitions.specs.declared.columns.ColumnDef.{ColumnDef}
use Rattle.dd_definitions.specs.declared.foreign_keys.ForeignKeyDef.{ForeignKeyDef}
use Rattle.dd_definitions.specs.declared.indexes.IndexDef.{IndexDef}
use Rattle.dd_definitions.specs.declared.parts.TableParts.{TableParts}
use Rattle.dd_catalog.specs.Walks.{fine, run, refuse_if}
use Rattle.dd_catalog.specs.WalkLaws.{Look}
use Rattle.dd_catalog.specs.Asked.{fine_is, bind_fine}
use Rattle.rules_refusals.specs.Refusals.{cant_drop_field_or_key, drop_index_fk, dup_keyname, wrong_name_for_index}
use Rattle.rules_elements.specs.ForeignKeys.{has_constraint_named}
use Rattle.rules_elements.specs.Keys.{has_index_named}
use Rattle.rules_create.proofs.Lists.{all_weaker, any_map, all_map, same_any, filter_all, distinct_filter}
use Rattle.rules_create.proofs.Names.{bytes_are, bytes_same, same_turned, not_refused}
use Rattle.rules_alter.specs.Altering.{any_referring, with_parts}
use Rattle.rules_alter.specs.ForeignKeys.{other_keys, drop_foreign_key}
use Rattle.rules_alter.specs.Keys.{drop_index, is_index_lacking, lacks_index, lacks_parent_index, not_primary, other_indexes, rename_index, the_index, with_name}
use Rattle.rules_alter.specs.declared.states.Altering.{Altering}
use Rattle.rules_alter_laws.specs.Stands.{StandsInOrder}
use Rattle.rules_alter_laws.proofs.Kept.{index_from, IsIndexFormed, index_parts, key_from, IsKeyFormed, key_parts}
use Rattle.rules_alter_laws.proofs.Lists.{fewer_counted}
use Rattle.rules_alter_laws.proofs.Mapped.{count_map, distinct_where, ordered_filter}
use Rattle.rules_alter_laws.proofs.Ordered.{IsBehind, parts_are_behind}
use Rattle.rules_alter_laws.proofs.Ranks.{ranked_filter, ranked_map, same_rank}

-- ## DROP INDEX

-- each foreign key has an index among these
keys_have : (columns : List ColumnDef) (indexes others : List IndexDef) (keys : List ForeignKeyDef) → list_any (lacks_index others) keys ≡ false → list_all (is_foreign_key_formed columns indexes) keys ≡ true → list_all (is_foreign_key_formed columns others) keys ≡ true
keys_have columns indexes others [] none all = refl
keys_have columns indexes others (key ∷ keys) none all =
    let (here, later) = and_parts (is_foreign_key_formed columns indexes key) (list_all (is_foreign_key_formed columns indexes) keys) all in
    let (first, rest) = or_parts (lacks_index others key) (list_any (lacks_index others) keys) none in
    let parts : IsKeyFormed columns indexes key = key_parts columns indexes key here in
    and_from (is_foreign_key_formed columns others key) (list_all (is_foreign_key_formed columns others) keys)
    (key_from columns others key (record { fits = parts.fits; count = parts.count; has = not-false (has_index_on others key.columns) first })) (keys_have columns indexes others keys rest later)

abbrev is_other : List ℕ → IndexDef → Bool
is_other name index = not (same index.name name)

without_index : (name : List ℕ) (parts : TableParts) → StandsInOrder parts → list_any (lacks_index (other_indexes name parts.indexes)) parts.foreign_keys ≡ false → StandsInOrder (record parts { indexes = other_indexes name parts.indexes })
without_index name parts good none = record {
  stands = record {
    some = good.stands.some;
    columns = good.stands.columns;
    indexes = record {
      distinct = distinct_filter is_same_index (is_other name) parts.indexes good.stands.indexes.distinct;
      formed = filter_all (is_other name) (is_index_formed parts.columns) parts.indexes good.stands.indexes.formed;
      single =
          let less : count_by is_primary (filter (is_other name) parts.indexes) ≤ count_by is_primary parts.indexes = fewer_counted is_primary (is_other name) parts.indexes in
          let most : count_by is_primary parts.indexes ≤ 1 = good.stands.indexes.single in
          omega arith;
    };
    keys = record {
      formed = keys_have parts.columns parts.indexes (other_indexes name parts.indexes) parts.foreign_keys none good.stands.keys.formed;
      distinct = good.stands.keys.distinct;
      ordered = good.stands.keys.ordered;
    };
  };
  ranked = ranked_filter parts.columns (is_other name) 0 parts.indexes good.ranked;
}

own_has : (state : Altering) (indexes : List IndexDef) → is_index_lacking state indexes ≡ false → list_any (lacks_index indexes) state.parts.foreign_keys ≡ false
unfolding is_index_lacking
own_has state indexes none = (or_parts (list_any (lacks_index indexes) state.parts.foreign_keys) (any_referring (λ (parts : TableParts). list_any (lacks_parent_index state.parts.name indexes) parts.foreign_keys) state) none).0

pub index_is_dropped : (look : Look) (name : List ℕ) (state next : Altering) → StandsInOrder state.parts → run look (drop_index name state) ≡ fine next → IsBehind state next
unfolding drop_index
index_is_dropped look name state next good is =
    let (_, there, after_index) = bind_fine look (the_index state.parts name) _ next is in
    let (_, lacks, last) = bind_fine look (refuse_if (is_index_lacking state (other_indexes name state.parts.indexes)) (drop_index_fk name)) _ next after_index in
    let none = not_refused look (is_index_lacking state (other_indexes name state.parts.indexes)) (drop_index_fk name) tt lacks in
    subst (IsBehind state) {x = with_parts state (record state.parts { indexes = other_indexes name state.parts.indexes })} (fine_is last)
    (parts_are_behind state (record state.parts { indexes = other_indexes name state.parts.indexes }) (without_index name state.parts good (own_has state (other_indexes name state.parts.indexes) none)) refl)

-- ## RENAME INDEX

-- the new name is like that of no other index, and neither name is that of the primary key
record IsNewName (indexes : List IndexDef) (from to : List ℕ) : Type 0 where
  new : list_all (λ (i : IndexDef). same i.name from || not (same i.name to)) indexes ≡ true
  from_other : same from primary_name ≡ false
  to_other : same to primary_name ≡ false

none_has : (indexes : List IndexDef) (from to : List ℕ) → has_index_named (other_indexes from indexes) to ≡ false → list_all (λ (i : IndexDef). same i.name from || not (same i.name to)) indexes ≡ true
none_has [] from to none = refl
none_has (i ∷ is) from to none = on (same i.name from) none (λ later. none_has is from to later)
  where
    on : (b : Bool) → has_index_named (if not b then i ∷ other_indexes from is else other_indexes from is) to ≡ false → (has_index_named (other_indexes from is) to ≡ false → list_all (λ (j : IndexDef). same j.name from || not (same j.name to)) is ≡ true)
        → ((b || not (same i.name to)) && list_all (λ (j : IndexDef). same j.name from || not (same j.name to)) is) ≡ true
    on true none rest = rest none
    on false none rest =
        let (here, later) = or_parts (same i.name to) (has_index_named (other_indexes from is) to) none in
        and_from (not (same i.name to)) (list_all (λ (j : IndexDef). same j.name from || not (same j.name to)) is) (not_from_false (same i.name to) here) (rest later)

other_is_new : (from to : List ℕ) (i : IndexDef) → (same i.name from || not (same i.name to)) ≡ true → same i.name from ≡ false → same i.name to ≡ false
other_is_new from to i may other = not-true (same i.name to) (sym (ap (λ b. b || not (same i.name to)) other) ∙ may)

alike_through : (a b c : List ℕ) → same a c ≡ true → same b c ≡ true → same a b ≡ true
alike_through a b c one other = bytes_same (fold a) (fold b) (bytes_are (fold a) (fold c) one ∙ sym (bytes_are (fold b) (fold c) other))

names_apart : (from to : List ℕ) (a b : IndexDef) → (same a.name from || not (same a.name to)) ≡ true → (same b.name from || not (same b.name to)) ≡ true → is_same_index a b ≡ false → is_same_index (with_name from to a) (with_name from to b) ≡ false
names_apart from to a b may other apart = on (same a.name from) refl (same b.name from) refl
  where
    on : (x : Bool) → same a.name from ≡ x → (y : Bool) → same b.name from ≡ y → is_same_index (if x then record a { name = to } else a) (if y then record b { name = to } else b) ≡ false
    on true first true second = absurd (true≢false (sym (alike_through a.name b.name from first second) ∙ apart))
    on true first false second = same_turned to b.name ∙ other_is_new from to b other second
    on false first true second = other_is_new from to a may first
    on false first false second = apart

-- what holds of an index whatever it is named
either_way : (from to : List ℕ) (index : IndexDef) (P : IndexDef → Type 0) → (same index.name from ≡ true → P (record index { name = to })) → P index → P (with_name from to index)
either_way from to index P named as_it_is = cond_both (same index.name from) (record index { name = to }) index P named (λ _. as_it_is)

named_well : (to : List ℕ) (index : IndexDef) → is_primary index ≡ false → same to primary_name ≡ false → is_well_named (record index { name = to }) ≡ true
unfolding is_well_named
named_well to index secondary other = cond-false (is_primary index) (bytes_eq to primary_name) (not (same to primary_name)) secondary ∙ not_from_false (same to primary_name) other

is_not_primary : (from : List ℕ) (index : IndexDef) → is_well_named index ≡ true → same index.name from ≡ true → same from primary_name ≡ false → is_primary index ≡ false
unfolding is_well_named
is_not_primary from index named alike other = false_from_ne_true (is_primary index) (λ primary.
    let name : index.name ≡ primary_name = bytes_are index.name primary_name (sym (cond-true (is_primary index) (bytes_eq index.name primary_name) (not (same index.name primary_name)) primary) ∙ named) in
    true≢false (sym (same_turned from index.name ∙ alike) ∙ ap (same from) name ∙ other))

same_never : (columns : List ColumnDef) (index : IndexDef) (to : List ℕ) → is_never_null columns (record index { name = to }) ≡ is_never_null columns index
unfolding is_never_null has_nullable
same_never columns index to = refl

same_nulls : (columns : List ColumnDef) (index : IndexDef) (to : List ℕ) → has_nullable columns (record index { name = to }) ≡ has_nullable columns index
unfolding has_nullable
same_nulls columns index to = refl

named_formed : (columns : List ColumnDef) (from to : List ℕ) (index : IndexDef) → same from primary_name ≡ false → same to primary_name ≡ false → is_index_formed columns index ≡ true → is_index_formed columns (with_name from to index) ≡ true
named_formed columns from to index other_from other_to formed =
    let parts : IsIndexFormed columns index = index_parts columns index formed in
    either_way from to index (λ i. is_index_formed columns i ≡ true)
    (λ alike. index_from columns (record index { name = to }) (record { fits = parts.fits; named = named_well to index (is_not_primary from index parts.named alike other_from) other_to; never = same_never columns index to ∙ parts.never })) formed

named_class : (from to : List ℕ) (index : IndexDef) → is_primary (with_name from to index) ≡ is_primary index
named_class from to index = either_way from to index (λ i. is_primary i ≡ is_primary index) (λ _. refl) refl

named_rank : (columns : List ColumnDef) (from to : List ℕ) (index : IndexDef) → rank columns (with_name from to index) ≡ rank columns index
named_rank columns from to index = either_way from to index (λ i. rank columns i ≡ rank columns index) (λ _. same_rank columns columns index (record index { name = to }) refl (same_nulls columns index to)) refl

pub named_leads : (from to : List ℕ) (indexes : List IndexDef) (names : List (List ℕ)) → has_index_on (map (with_name from to) indexes) names ≡ has_index_on indexes names
unfolding has_index_on
named_leads from to indexes names =
    any_map (λ (i : IndexDef). starts_with bytes_eq i.columns names) (with_name from to) indexes
    ∙ same_any (λ (i : IndexDef). starts_with bytes_eq (with_name from to i).columns names) (λ (i : IndexDef). starts_with bytes_eq i.columns names)
    (λ i. either_way from to i (λ j. starts_with bytes_eq j.columns names ≡ starts_with bytes_eq i.columns names) (λ _. refl) refl) indexes

index_named : (from to : List ℕ) (parts : TableParts) → StandsInOrder parts → IsNewName parts.indexes from to → StandsInOrder (record parts { indexes = map (with_name from to) parts.indexes })
index_named from to parts good new = record {
  stands = record {
    some = good.stands.some;
    columns = good.stands.columns;
    indexes = record {
      distinct = distinct_where is_same_index (λ (i : IndexDef). same i.name from || not (same i.name to)) (with_name from to) (names_apart from to) parts.indexes new.new good.stands.indexes.distinct;
      formed = all_map (is_index_formed parts.columns) (with_name from to) parts.indexes
          ∙ all_weaker (is_index_formed parts.columns) (λ i. is_index_formed parts.columns (with_name from to i)) (λ i formed. named_formed parts.columns from to i new.from_other new.to_other formed) parts.indexes good.stands.indexes.formed;
      single = subst (λ n. n ≤ 1) (sym (count_map is_primary (with_name from to) parts.indexes ∙ ap (λ (p : IndexDef → Bool). count_by p parts.indexes) (λ i index. named_class from to index i))) good.stands.indexes.single;
    };
    keys = record {
      formed = all_weaker (is_foreign_key_formed parts.columns parts.indexes) (is_foreign_key_formed parts.columns (map (with_name from to) parts.indexes)) (λ k formed. key_named k formed) parts.foreign_keys good.stands.keys.formed;
      distinct = good.stands.keys.distinct;
      ordered = good.stands.keys.ordered;
    };
  };
  ranked = ranked_map parts.columns parts.columns (with_name from to) (λ i. true) (λ i is. named_rank parts.columns from to i) 0 parts.indexes (all_true parts.indexes) good.ranked;
}
  where
    key_named : (key : ForeignKeyDef) → is_foreign_key_formed parts.columns parts.indexes key ≡ true → is_foreign_key_formed parts.columns (map (with_name from to) parts.indexes) key ≡ true
    key_named key formed =
        let one : IsKeyFormed parts.columns parts.indexes key = key_parts parts.columns parts.indexes key formed in
        key_from parts.columns (map (with_name from to) parts.indexes) key (record { fits = one.fits; count = one.count; has = named_leads from to parts.indexes key.columns ∙ one.has })

    all_true : (indexes : List IndexDef) → list_all (λ (i : IndexDef). true) indexes ≡ true
    all_true [] = refl
    all_true (i ∷ is) = all_true is

pub index_is_renamed : (look : Look) (from to : List ℕ) (state next : Altering) → StandsInOrder state.parts → run look (rename_index from to state) ≡ fine next → IsBehind state next
unfolding rename_index
index_is_renamed look from to state next good is =
    let (_, there, after_index) = bind_fine look (the_index state.parts from) _ next is in
    let (_, from_other, after_from) = bind_fine look (not_primary from) _ next after_index in
    let (_, to_other, after_to) = bind_fine look (not_primary to) _ next after_from in
    let (_, new, last) = bind_fine look (refuse_if (has_index_named (other_indexes from state.parts.indexes) to) (dup_keyname to)) _ next after_to in
    let named : IsNewName state.parts.indexes from to = record {
      new = none_has state.parts.indexes from to (not_refused look (has_index_named (other_indexes from state.parts.indexes) to) (dup_keyname to) tt new);
      from_other = not_refused look (same from primary_name) (wrong_name_for_index from) tt from_other;
      to_other = not_refused look (same to primary_name) (wrong_name_for_index to) tt to_other;
    } in
    subst (IsBehind state) {x = with_parts state (record state.parts { indexes = map (with_name from to) state.parts.indexes })} (fine_is last)
    (parts_are_behind state (record state.parts { indexes = map (with_name from to) state.parts.indexes }) (index_named from to state.parts good named) refl)

-- ## DROP FOREIGN KEY

abbrev is_other_key : List ℕ → ForeignKeyDef → Bool
is_other_key name key = not (same key.name name)

without_key : (name : List ℕ) (parts : TableParts) → StandsInOrder parts → StandsInOrder (record parts { foreign_keys = other_keys name parts.foreign_keys })
without_key name parts good = record {
  stands = record {
    some = good.stands.some;
    columns = good.stands.columns;
    indexes = good.stands.indexes;
    keys = record {
      formed = filter_all (is_other_key name) (is_foreign_key_formed parts.columns parts.indexes) parts.foreign_keys good.stands.keys.formed;
      distinct = distinct_filter is_same_constraint (is_other_key name) parts.foreign_keys good.stands.keys.distinct;
      ordered = ordered_filter (is_other_key name) parts.foreign_keys good.stands.keys.ordered;
    };
  };
  ranked = good.ranked;
}

pub foreign_key_is_dropped : (look : Look) (name : List ℕ) (state next : Altering) → StandsInOrder state.parts → run look (drop_foreign_key name state) ≡ fine next → IsBehind state next
unfolding drop_foreign_key
foreign_key_is_dropped look name state next good is =
    let (_, there, last) = bind_fine look (refuse_if (not (has_constraint_named state.parts.foreign_keys name)) (cant_drop_field_or_key name)) _ next is in
    subst (IsBehind state) {x = with_parts state (record state.parts { foreign_keys = other_keys name state.parts.foreign_keys })} (fine_is last)
    (parts_are_behind state (record state.parts { foreign_keys = other_keys name state.parts.foreign_keys }) (without_key name state.parts good) refl)
