-- The foreign keys of a table that CREATE TABLE makes fit their parents, and their names are free.
use Rattle.std.specs.Prelude.{◌≡◌, ◌⊎◌, ℕ, ◌==◌, Bool, true, false, cond, ◌&&◌, not, nat_lt, List, [], ◌∷◌, map, length, Option, Some, None, if◌then◌else◌, refl}
use Rattle.std.specs.List.{list_any, list_all, starts_with, flat_map}
use Rattle.std.specs.FinMap as finite_map
use Rattle.std.specs.Str.{bytes_eq}
use Rattle.std.proofs.Common.{sym, ◌∙◌, ap, subst, inl, inr}
use Rattle.std.proofs.lemmas.Bool.{true≢false, and_parts, and_from, false_from_ne_true}
use Rattle.std.proofs.lemmas.List.Folds.{list_all-append}
use Rattle.dd_names.specs.Names.{fold}
use Rattle.dd_names.specs.declared.object_name.ObjName.{ObjName}
use Rattle.dd_names.specs.declared.object_name.ObjectKey.TheVariants as keys
use Rattle.sql_types.specs.declared.words.ColumnWords.{ColumnWords}
use Rattle.sql_types.specs.declared.words.KeyWords.{KeyWords}
use Rattle.sql_types.specs.declared.words.FkWords.{FkWords}
use Rattle.sql_ast.specs.declared.element.Element.{Element}
use Rattle.dd_definitions.specs.Columns.{is_same_column, is_column}
use Rattle.dd_definitions.specs.Distinct.{are_distinct}
use Rattle.dd_definitions.specs.ForeignKeys.{has_index_on}
use Rattle.dd_definitions.specs.Indexes.{is_primary_class, is_primary}
use Rattle.dd_definitions.specs.Named.{has_names}
use Rattle.dd_definitions.specs.WellFormed.{is_well_formed}
use Rattle.dd_definitions.specs.declared.columns.ColumnDef.{ColumnDef}
use Rattle.dd_definitions.specs.declared.indexes.IndexDef.{IndexDef}
use Rattle.dd_definitions.specs.declared.foreign_keys.ForeignKeyDef.{ForeignKeyDef}
use Rattle.dd_definitions.specs.declared.parts.TableParts.{TableParts}
use Rattle.dd_catalog.specs.Sights.{Sight, TableThere, OwnerThere}
use Rattle.dd_catalog.specs.Catalog.{Catalog, Placed, Table, View, object_cmp, is_same_object, has_constraint, owner_among, object_seen, all_of}
use Rattle.dd_catalog.specs.Valid.{IsValid, are_columns_paired}
use Rattle.dd_catalog.specs.Walks.{done, ◌>>=◌, fine, run, refuse_if, over}
use Rattle.dd_catalog.specs.WalkLaws.{Look}
use Rattle.dd_catalog.specs.Asked.{fine_is, bind_fine, over_keeps}
use Rattle.dd_catalog.proofs.ObjectNames.{same_object, object_itself}
use Rattle.rules_elements.specs.ForeignKeys.{foreign_key_of}
use Rattle.rules_elements.specs.Keys.{key_columns, allowed_name, given_name, key_name, key_of}
use Rattle.rules_refusals.specs.Refusals.{multiple_pri_key, too_many_key_parts}
use Rattle.rules_elements_laws.specs.Parents.{IsSpelledWell, IsKeyFit}
use Rattle.rules_elements_laws.proofs.KeysFit.{foreign_keys_are_fit}
use Rattle.rules_elements_laws.proofs.Spelled.{some_is}
use Rattle.rules_elements_laws.proofs.WellSpelled.{well_spelled}
use Rattle.rules_refusals.specs.Refusals as refusals
use Rattle.rules_named.specs.Named.{is_nothing}
use Rattle.rules_create.specs.Tables.{column_in, foreign_key_in, all_keys, all_columns, is_null_written, never_null, with_index, some_columns, one_key, constraint_name, key_for, with_key_index, name_in_text, put_in_order, key_named, one_foreign_key, by_class, within_limits, of_columns, table_of}
use Rattle.rules_create.proofs.Formed.{table_is_formed, table_has_name}
use Rattle.rules_create.proofs.Lists.{all_weaker, any_in_front}
use Rattle.rules_create.proofs.Order.{put_all}
use Rattle.rules_valid.proofs.ByClass.{before_by_class, some_by_class}
use Rattle.rules_valid.proofs.Created.{is_free, are_paired, fits_other, is_fit, IsNewTable}
use Rattle.rules_valid.proofs.Objects.{not_found}

-- ## Keys make no foreign key

record IsKeyed (table : ObjName) (parts : TableParts) : Type 0 where
  name : parts.name ≡ table
  none : parts.foreign_keys ≡ []

one_keyed : (look : Look) (table : ObjName) (written : List ColumnWords) (parts : TableParts) (words : KeyWords) (next : TableParts) → IsKeyed table parts → run look (one_key written parts words) ≡ fine next → IsKeyed table next
unfolding one_key with_index
one_keyed look table written parts words next so_far is =
    let (_, some, after_some) = bind_fine look (some_columns words.columns) _ next is in
    let (index, made, after_index) = bind_fine look (key_of parts words) _ next after_some in
    let (_, not_null, last) = bind_fine look (refuse_if (is_primary index && list_any (is_null_written written) index.columns) refusals.primary_cant_have_null) _ next after_index in
    subst (IsKeyed table) (fine_is last) (record { name = so_far.name; none = so_far.none })

-- ## The index of a foreign key

class_is : (look : Look) (parts : TableParts) (key : KeyWords) (index : IndexDef) → run look (key_of parts key) ≡ fine index → index.class ≡ key.class
unfolding key_of
class_is look parts key index is =
    let (_, single, after_single) = bind_fine look (refuse_if (is_primary_class key.class && list_any is_primary parts.indexes) multiple_pri_key) _ index is in
    let (_, allowed, after_allowed) = bind_fine look (allowed_name (is_primary_class key.class) (given_name key)) _ index after_single in
    let (_, few, after_few) = bind_fine look (refuse_if (nat_lt 16 (length key.columns)) too_many_key_parts) _ index after_allowed in
    let (columns, found, after_columns) = bind_fine look (key_columns parts.columns key.columns) _ index after_few in
    let (name, named, last) = bind_fine look (key_name parts (is_primary_class key.class) (given_name key) columns) _ index after_columns in
    ap (λ (i : IndexDef). i.class) (sym (fine_is last))

-- the table with indexes more
record IsLarger (parts indexed : TableParts) : Type 0 where
  name : indexed.name ≡ parts.name
  columns : indexed.columns ≡ parts.columns
  foreign_keys : indexed.foreign_keys ≡ parts.foreign_keys
  keeps : (names : List (List ℕ)) → has_index_on parts.indexes names ≡ true → has_index_on indexed.indexes names ≡ true
  before : (p : IndexDef → Bool) → list_all p indexed.indexes ≡ true → list_all p parts.indexes ≡ true

index_larger : (look : Look) (parts : TableParts) (key : KeyWords) (index : IndexDef) → is_primary_class key.class ≡ false → run look (key_of parts key) ≡ fine index → IsLarger parts (with_index parts index)
unfolding with_index has_index_on
index_larger look parts key index plain made =
    let secondary : is_primary index ≡ false = ap is_primary_class (class_is look parts key index made) ∙ plain in
    record {
      name = refl;
      columns = ap (λ b. cond b (map (never_null index.columns) parts.columns) parts.columns) secondary;
      foreign_keys = refl;
      keeps = λ names has. any_in_front (λ (i : IndexDef). starts_with bytes_eq i.columns names) parts.indexes (index ∷ []) has;
      before = λ p all. (and_parts (list_all p parts.indexes) (list_all p (index ∷ [])) (sym (list_all-append p parts.indexes (index ∷ [])) ∙ all)).0;
    }

key_index : (look : Look) (parts : TableParts) (words : FkWords) (columns : List (List ℕ)) (indexed : TableParts) → run look (with_key_index parts words columns) ≡ fine indexed → IsLarger parts indexed
unfolding with_key_index
key_index look parts words columns indexed is = on (has_index_on parts.indexes columns) is
  where
    on : (b : Bool) → run look (if b then done parts else (key_of parts (key_for words columns) >>= λ index. done (with_index parts index))) ≡ fine indexed → IsLarger parts indexed
    on true is = subst (IsLarger parts) (fine_is is) (record { name = refl; columns = refl; foreign_keys = refl; keeps = λ names has. has; before = λ p all. all })
    on false is =
        let (index, made, last) = bind_fine look (key_of parts (key_for words columns)) _ indexed is in
        subst (IsLarger parts) (fine_is last) (index_larger look parts (key_for words columns) index refl made)

well_before : (parts indexed : TableParts) → IsLarger parts indexed → IsSpelledWell indexed → IsSpelledWell parts
well_before parts indexed larger well = record {
  distinct = subst (λ (columns : List ColumnDef). are_distinct is_same_column columns ≡ true) larger.columns well.distinct;
  there = larger.before (λ (index : IndexDef). list_all (is_column parts.columns) index.columns)
      (subst (λ (columns : List ColumnDef). list_all (λ (index : IndexDef). list_all (is_column columns) index.columns) indexed.indexes ≡ true) larger.columns well.there);
}

-- more indexes leave each foreign key fit
more_fit : (cat : Catalog) (table : ObjName) (columns : List ColumnDef) (indexes more : List IndexDef) → ((names : List (List ℕ)) → has_index_on indexes names ≡ true → has_index_on more names ≡ true)
    → (key : ForeignKeyDef) → is_fit cat table columns indexes key ≡ true → is_fit cat table columns more key ≡ true
more_fit cat table columns indexes more keeps key fit = on (is_same_object key.parent table) fit
  where
    on : (b : Bool) → cond b (has_index_on indexes key.parent_columns && are_paired columns columns key) (fits_other columns key (finite_map.get cat.objects key.parent)) ≡ true
        → cond b (has_index_on more key.parent_columns && are_paired columns columns key) (fits_other columns key (finite_map.get cat.objects key.parent)) ≡ true
    on true is =
        let (has, paired) = and_parts (has_index_on indexes key.parent_columns) (are_paired columns columns key) is in
        and_from (has_index_on more key.parent_columns) (are_paired columns columns key) (keeps key.parent_columns has) paired
    on false is = is

still_fit : (cat : Catalog) (table : ObjName) (parts indexed : TableParts) → IsLarger parts indexed → (key : ForeignKeyDef) → is_fit cat table parts.columns parts.indexes key ≡ true → is_fit cat table indexed.columns indexed.indexes key ≡ true
still_fit cat table parts indexed larger key fit =
    subst (λ (columns : List ColumnDef). is_fit cat table columns indexed.indexes key ≡ true) (sym larger.columns) (more_fit cat table parts.columns parts.indexes indexed.indexes larger.keeps key fit)

-- ## The parent of a new foreign key

pub table_seen_is : (found : Option Placed) (space : ℕ) (parts : TableParts) → object_seen found ≡ TableThere space parts → found ≡ Some (Table space parts)
table_seen_is None space parts is = cc
table_seen_is (Some (Table n p)) space parts is = let number : n ≡ space = cc in let same : p ≡ parts = cc in cc
table_seen_is (Some (View p)) space parts is = cc

paired_so : (parts parent : TableParts) (key : ForeignKeyDef) → are_columns_paired parts parent key ≡ true → are_paired parts.columns parent.columns key ≡ true
unfolding are_columns_paired
paired_so parts parent key is = is

self_fit : (cat : Catalog) (table : ObjName) (parts : TableParts) (key : ForeignKeyDef) → is_same_object key.parent table ≡ true → has_index_on parts.indexes key.parent_columns ≡ true → are_columns_paired parts parts key ≡ true
    → is_fit cat table parts.columns parts.indexes key ≡ true
self_fit cat table parts key same has paired =
    ap (λ b. cond b (has_index_on parts.indexes key.parent_columns && are_paired parts.columns parts.columns key) (fits_other parts.columns key (finite_map.get cat.objects key.parent))) same
    ∙ and_from (has_index_on parts.indexes key.parent_columns) (are_paired parts.columns parts.columns key) has (paired_so parts parts key paired)

other_fit : (cat : Catalog) (table : ObjName) (parts : TableParts) (key : ForeignKeyDef) (space : ℕ) (parent : TableParts) → finite_map.get cat.objects table ≡ None → finite_map.get cat.objects key.parent ≡ Some (Table space parent)
    → has_index_on parent.indexes key.parent_columns ≡ true → are_columns_paired parts parent key ≡ true → is_fit cat table parts.columns parts.indexes key ≡ true
other_fit cat table parts key space parent absent there has paired =
    ap (λ b. cond b (has_index_on parts.indexes key.parent_columns && are_paired parts.columns parts.columns key) (fits_other parts.columns key (finite_map.get cat.objects key.parent))) apart
    ∙ ap (fits_other parts.columns key) there
    ∙ and_from (has_index_on parent.indexes key.parent_columns) (are_paired parts.columns parent.columns key) has (paired_so parts parent key paired)
  where
    none : key.parent ≡ table → ⊥
    none same = let wrong : None ≡ Some (Table space parent) = sym absent ∙ ap (finite_map.get cat.objects) (sym same) ∙ there in cc

    apart : is_same_object key.parent table ≡ false
    apart = false_from_ne_true (is_same_object key.parent table) (λ same. none (same_object key.parent table same))

new_fit : (cat : Catalog) (table : ObjName) (parts : TableParts) (words key : ForeignKeyDef) (parent : TableParts) → IsValid cat → finite_map.get cat.objects table ≡ None → parts.name ≡ table → IsSpelledWell parts
    → IsKeyFit (all_of cat) parts words key parent → is_fit cat table parts.columns parts.indexes key ≡ true
new_fit cat table parts words key parent valid absent named well fit = on fit.parent_is.stands
  where
    asked : words.parent ≡ key.parent
    asked = sym (ap (λ (k : ForeignKeyDef). k.parent) fit.kept)

    on : ((is_same_object words.parent parts.name ≡ true) × (parent ≡ parts)) ⊎ ((space : ℕ) × (all_of cat (keys.Object words.parent) ≡ Some (TableThere space parent))) → is_fit cat table parts.columns parts.indexes key ≡ true
    on (inl itself) =
        let same : is_same_object key.parent table ≡ true = ap (λ (o : ObjName). is_same_object o table) (sym asked) ∙ ap (is_same_object words.parent) (sym named) ∙ itself.0 in
        self_fit cat table parts key same
        (subst (λ (p : TableParts). has_index_on p.indexes key.parent_columns ≡ true) itself.1 (fit.indexed (subst IsSpelledWell (sym itself.1) well)))
        (subst (λ (p : TableParts). are_columns_paired parts p key ≡ true) itself.1 fit.paired)
    on (inr known) =
        let there : finite_map.get cat.objects words.parent ≡ Some (Table known.0 parent) = table_seen_is (finite_map.get cat.objects words.parent) known.0 parent (some_is known.1) in
        let formed : is_well_formed parent ≡ true = valid.formed words.parent (Table known.0 parent) (record { is = there }) in
        other_fit cat table parts key known.0 parent absent (ap (finite_map.get cat.objects) (sym asked) ∙ there) (fit.indexed (well_spelled parent formed)) fit.paired

-- ## The name of a new foreign key

-- an owner that could only be the absent table is none
no_owner : (schema folded : List ℕ) (table : ObjName) (es : List (ObjName × Placed)) → finite_map.find object_cmp table es ≡ None
    → ((owner : ObjName) → owner_among schema folded es ≡ OwnerThere owner → is_same_object owner table ≡ true) → is_nothing (owner_among schema folded es) ≡ true
no_owner schema folded table [] absent others = refl
no_owner schema folded table (e ∷ es) absent others =
    let (apart, rest) = not_found table e es absent in
    on (bytes_eq e.0.schema schema && has_constraint folded e.1) apart others (no_owner schema folded table es rest)
  where
    on : (b : Bool) → is_same_object table e.0 ≡ false → ((owner : ObjName) → cond b (OwnerThere e.0) (owner_among schema folded es) ≡ OwnerThere owner → is_same_object owner table ≡ true)
        → (((owner : ObjName) → owner_among schema folded es ≡ OwnerThere owner → is_same_object owner table ≡ true) → is_nothing (owner_among schema folded es) ≡ true)
        → is_nothing (cond b (OwnerThere e.0) (owner_among schema folded es)) ≡ true
    on true apart others rest =
        let same : e.0 ≡ table = same_object e.0 table (others e.0 refl) in
        absurd (true≢false (sym (object_itself table) ∙ ap (is_same_object table) (sym same) ∙ apart))
    on false apart others rest = rest others

new_free : (cat : Catalog) (table : ObjName) (parts : TableParts) (words key : ForeignKeyDef) (parent : TableParts) → finite_map.get cat.objects table ≡ None → parts.name ≡ table → IsKeyFit (all_of cat) parts words key parent → is_free cat table key ≡ true
new_free cat table parts words key parent absent named fit =
    no_owner table.schema (fold key.name) table (finite_map.entries cat.objects) (sym (finite_map.get-entries cat.objects table) ∙ absent) owners
  where
    owners : (owner : ObjName) → owner_among table.schema (fold key.name) (finite_map.entries cat.objects) ≡ OwnerThere owner → is_same_object owner table ≡ true
    owners owner seen =
        let own : owner_among parts.name.schema (fold key.name) (finite_map.entries cat.objects) ≡ OwnerThere owner =
        ap (λ (o : ObjName). owner_among o.schema (fold key.name) (finite_map.entries cat.objects)) named ∙ seen in
        ap (is_same_object owner) (sym named) ∙ fit.others owner (ap (λ (s : Sight). Some s) own)

-- ## All foreign keys

record IsFitSoFar (cat : Catalog) (table : ObjName) (parts : TableParts) : Type 0 where
  name : parts.name ≡ table
  free : list_all (is_free cat table) parts.foreign_keys ≡ true
  fit : IsSpelledWell parts → list_all (is_fit cat table parts.columns parts.indexes) parts.foreign_keys ≡ true

abbrev and_key : TableParts → ForeignKeyDef → TableParts
and_key indexed key = record indexed { foreign_keys = put_in_order key indexed.foreign_keys }

with_key_fit : (cat : Catalog) (table : ObjName) (parts indexed : TableParts) (words key : ForeignKeyDef) (parent : TableParts) → IsValid cat → finite_map.get cat.objects table ≡ None → IsFitSoFar cat table parts → IsLarger parts indexed
    → IsKeyFit (all_of cat) indexed words key parent → IsFitSoFar cat table (and_key indexed key)
with_key_fit cat table parts indexed words key parent valid absent so_far larger made =
    let named : indexed.name ≡ table = larger.name ∙ so_far.name in
    record {
      name = named;
      free = put_all (is_free cat table) key indexed.foreign_keys (new_free cat table indexed words key parent absent named made) (ap (list_all (is_free cat table)) larger.foreign_keys ∙ so_far.free);
      fit = λ spelled.
          let well : IsSpelledWell indexed = record { distinct = spelled.distinct; there = spelled.there } in
          put_all (is_fit cat table indexed.columns indexed.indexes) key indexed.foreign_keys (new_fit cat table indexed words key parent valid absent named well made)
          (ap (list_all (is_fit cat table indexed.columns indexed.indexes)) larger.foreign_keys
          ∙ all_weaker (is_fit cat table parts.columns parts.indexes) (is_fit cat table indexed.columns indexed.indexes) (still_fit cat table parts indexed larger) parts.foreign_keys (so_far.fit (well_before parts indexed larger well)));
    }

one_fits : (cat : Catalog) (table : ObjName) → IsValid cat → finite_map.get cat.objects table ≡ None → (parts : TableParts) (words : FkWords) (next : TableParts) → IsFitSoFar cat table parts → run (all_of cat) (one_foreign_key parts words) ≡ fine next → IsFitSoFar cat table next
unfolding one_foreign_key
one_fits cat table valid absent parts words next so_far is =
    let (_, as_many, after_count) = bind_fine (all_of cat) (refuse_if (not (length words.columns == length words.parent_columns)) (refusals.wrong_fk_def (name_in_text words.constraint))) _ next is in
    let (_, few, after_few) = bind_fine (all_of cat) (refuse_if (nat_lt 16 (length words.columns)) too_many_key_parts) _ next after_count in
    let (_, some, after_some) = bind_fine (all_of cat) (some_columns words.columns) _ next after_few in
    let (columns, found, after_columns) = bind_fine (all_of cat) (key_columns parts.columns words.columns) _ next after_some in
    let (name, named, after_name) = bind_fine (all_of cat) (constraint_name parts words.constraint) _ next after_columns in
    let (indexed, made, after_index) = bind_fine (all_of cat) (with_key_index parts words columns) _ next after_name in
    let (key, fits, last) = bind_fine (all_of cat) (foreign_key_of indexed words.columns (key_named words parts.name name columns)) _ next after_index in
    let (parent, fit) = foreign_keys_are_fit (all_of cat) indexed words.columns (key_named words parts.name name columns) key fits in
    subst (IsFitSoFar cat table) (fine_is last)
    (with_key_fit cat table parts indexed (key_named words parts.name name columns) key parent valid absent so_far (key_index (all_of cat) parts words columns indexed made) fit)

-- ## The whole table

sorted_fits : (cat : Catalog) (table : ObjName) (linked : TableParts) → IsFitSoFar cat table linked → IsSpelledWell (record linked { indexes = by_class linked.columns linked.indexes })
    → list_all (is_fit cat table linked.columns (by_class linked.columns linked.indexes)) linked.foreign_keys ≡ true
unfolding has_index_on
sorted_fits cat table linked so_far well =
    let before : IsSpelledWell linked = record { distinct = well.distinct; there = before_by_class (λ (index : IndexDef). list_all (is_column linked.columns) index.columns) linked.columns linked.indexes well.there } in
    all_weaker (is_fit cat table linked.columns linked.indexes) (is_fit cat table linked.columns (by_class linked.columns linked.indexes))
    (more_fit cat table linked.columns linked.indexes (by_class linked.columns linked.indexes) (λ names has. some_by_class (λ (i : IndexDef). starts_with bytes_eq i.columns names) linked.columns linked.indexes has))
    linked.foreign_keys (so_far.fit before)

record IsTableFit (cat : Catalog) (table : ObjName) (parts : TableParts) : Type 0 where
  free : list_all (is_free cat table) parts.foreign_keys ≡ true
  fit : IsSpelledWell parts → list_all (is_fit cat table parts.columns parts.indexes) parts.foreign_keys ≡ true

table_fits : (cat : Catalog) (table : ObjName) (elements : List Element) (parts : TableParts) → IsValid cat → finite_map.get cat.objects table ≡ None → run (all_of cat) (table_of table elements) ≡ fine parts → IsTableFit cat table parts
unfolding table_of
table_fits cat table elements parts valid absent is =
    let (columns, columns_made, after_columns) = bind_fine (all_of cat) (all_columns (flat_map column_in elements)) _ parts is in
    let (keyed, keys_made, after_keys) = bind_fine (all_of cat) (over (one_key (flat_map column_in elements)) (of_columns table columns) (all_keys elements)) _ parts after_columns in
    let (linked, links_made, after_links) = bind_fine (all_of cat) (over one_foreign_key keyed (flat_map foreign_key_in elements)) _ parts after_keys in
    let (_, limited, last) = bind_fine (all_of cat) (within_limits linked) _ parts after_links in
    let plain : IsKeyed table keyed = over_keeps (IsKeyed table) (all_of cat) (one_key (flat_map column_in elements)) (one_keyed (all_of cat) table (flat_map column_in elements)) (of_columns table columns) (all_keys elements) keyed (record { name = refl; none = refl }) keys_made in
    let start : IsFitSoFar cat table keyed = record { name = plain.name; free = ap (list_all (is_free cat table)) plain.none; fit = λ _. ap (list_all (is_fit cat table keyed.columns keyed.indexes)) plain.none } in
    let whole : IsFitSoFar cat table linked = over_keeps (IsFitSoFar cat table) (all_of cat) one_foreign_key (one_fits cat table valid absent) keyed (flat_map foreign_key_in elements) linked start links_made in
    subst (IsTableFit cat table) (fine_is last) (record { free = whole.free; fit = sorted_fits cat table linked whole })

pub table_is_new : (cat : Catalog) (table : ObjName) (elements : List Element) (parts : TableParts) → IsValid cat → finite_map.contains_key cat.schemas table.schema ≡ true → finite_map.get cat.objects table ≡ None
    → run (all_of cat) (table_of table elements) ≡ fine parts → has_names parts ≡ true → IsNewTable cat table parts
table_is_new cat table elements parts valid schema absent is names =
    let formed : is_well_formed parts ≡ true = table_is_formed (all_of cat) table elements parts is in
    let fits : IsTableFit cat table parts = table_fits cat table elements parts valid absent is in
    record {
      schema = schema;
      absent = absent;
      named = table_has_name (all_of cat) table elements parts is;
      names = names;
      formed = formed;
      free = fits.free;
      fit = fits.fit (well_spelled parts formed);
    }
