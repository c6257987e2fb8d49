-- The names in a table that CREATE TABLE makes are names, where what it is made of says names.
use Rattle.std.specs.Prelude.{◌≡◌, ◌⊎◌, ℕ, ◌+◌, ◌==◌, Bool, true, false, cond, ◌&&◌, not, nat_lt, List, [], ◌∷◌, ◌++◌, map, filter, length, Option, Some, None, if◌then◌else◌, refl}
use Rattle.std.specs.List.{list_any, list_all, find, flat_map}
use Rattle.std.specs.FinMap as finite_map
use Rattle.std.specs.Str.{bytes_eq}
use Rattle.std.specs.Fmt.{decimal}
use Rattle.std.proofs.Common.{sym, ◌∙◌, ap, subst, inl, inr}
use Rattle.std.proofs.lemmas.Bool.{and_parts, and_from, cond_both}
use Rattle.std.proofs.lemmas.List.Folds.{list_all-append}
use Rattle.dd_names.specs.Names.{same, is_name, name_fault}
use Rattle.dd_names.specs.declared.name.NameFault.{NameFault}
use Rattle.dd_names.specs.declared.object_name.ObjName.{ObjName}
use Rattle.dd_names.specs.declared.object_name.ObjectKey.TheVariants as keys
use Rattle.dd_names.proofs.Reading.{name_from_none}
use Rattle.sql_types.specs.declared.choices.IndexClass.{IndexClass}
use Rattle.sql_types.specs.declared.choices.IndexClass.TheVariants as classes
use Rattle.sql_types.specs.declared.words.ColumnWords.{ColumnWords}
use Rattle.sql_types.specs.declared.words.FkWords.{FkWords}
use Rattle.sql_types.specs.declared.words.KeyWords.{KeyWords}
use Rattle.sql_types.specs.declared.words.ObjRef.{ObjRef}
use Rattle.sql_ast.specs.Names.{is_named, is_key_named, is_element_named}
use Rattle.sql_ast.specs.Names as says
use Rattle.sql_ast.specs.declared.element.Element.{Element}
use Rattle.sql_ast.specs.declared.element.Element.TheVariants.{Column, Key, ForeignKey}
use Rattle.dd_definitions.specs.ForeignKeys.{has_index_on}
use Rattle.dd_definitions.specs.Indexes.{is_integer, is_primary, is_primary_class}
use Rattle.dd_definitions.specs.Named.{is_object_named, is_column_named, is_index_named, is_foreign_key_named, has_names}
use Rattle.dd_definitions.specs.declared.columns.ColumnDef.{ColumnDef}
use Rattle.dd_definitions.specs.declared.foreign_keys.ForeignKeyDef.{ForeignKeyDef}
use Rattle.dd_definitions.specs.declared.indexes.IndexDef.{IndexDef}
use Rattle.dd_definitions.specs.declared.parts.TableParts.{TableParts}
use Rattle.dd_catalog.specs.Catalog.{Catalog, Table, is_same_object, object_seen, all_of}
use Rattle.dd_catalog.specs.Kinds.{column_named}
use Rattle.dd_catalog.specs.Sights.{Sight, TableThere}
use Rattle.dd_catalog.specs.Valid.{IsValid}
use Rattle.dd_catalog.specs.Walks.{Walk, done, ◌>>=◌, fine, run, refuse_if, over}
use Rattle.dd_catalog.specs.WalkLaws.{Look}
use Rattle.dd_catalog.specs.Asked.{fine_is, bind_fine, over_keeps}
use Rattle.dd_catalog.proofs.ObjectNames.{is_name_from}
use Rattle.rules_refusals.specs.Refusals.{dup_fieldname, dup_keyname, multiple_pri_key, too_many_key_parts, wrong_field_spec}
use Rattle.rules_refusals.specs.Refusals as refusals
use Rattle.rules_elements.specs.Columns.{column_type, kept_default, column_of}
use Rattle.rules_elements.specs.ForeignKeys.{spelled, name_of_column, foreign_key_of}
use Rattle.rules_elements.specs.Keys.{spelled_column, one_more, key_columns, has_index_named, free_name, base_name, name_unless, made_name, constraint_taken, first_given, allowed_name, given_name, key_name, key_of}
use Rattle.rules_elements_laws.specs.Parents.{IsKeyFit}
use Rattle.rules_elements_laws.proofs.KeysFit.{foreign_keys_are_fit}
use Rattle.rules_create.specs.Tables.{column_in, key_in, foreign_key_in, own_key, own_keys, all_keys, has_column, one_column, all_columns, is_null_written, never_null, with_index, some_columns, one_key, constraint_front, greatest_number, constraint_name, key_for, with_key_index, name_in_text, schema_or, parent_named, key_named, one_foreign_key, is_ranked, by_class, within_limits, of_columns, table_of}
use Rattle.rules_create.proofs.Lists.{all_weaker, all_push, filter_all, all_map, same_all}
use Rattle.rules_create.proofs.Names.{done_unless}
use Rattle.rules_create.proofs.Order.{put_all}
use Rattle.rules_valid.proofs.Fits.{table_seen_is}
use Rattle.rules_valid.proofs.Resolved.{first_named}

-- ## Lists

-- what each turn keeps at an item that passes holds of the last state, where all items pass
pub over_passing : {E S A : Type 0} (P : S → Type 0) (q : A → Bool) (look : Look) (check : S → A → Walk E S) → ((state : S) (x : A) (next : S) → q x ≡ true → P state → run look (check state x) ≡ fine next → P next)
    → (state : S) (xs : List A) (end : S) → list_all q xs ≡ true → P state → run look (over check state xs) ≡ fine end → P end
over_passing P q look check step state [] end all holds is = subst P (fine_is is) holds
over_passing P q look check step state (x ∷ xs) end all holds is =
    let (next, one, rest) = bind_fine look (check state x) _ end is in
    let (here, later) = and_parts (q x) (list_all q xs) all in
    over_passing P q look check step next xs end later (step state x next here holds one) rest

found_passes : {X : Type 0} (p q : X → Bool) (xs : List X) (x : X) → list_all q xs ≡ true → find p xs ≡ Some x → q x ≡ true
found_passes p q [] x all is = cc
found_passes {X = X} p q (y ∷ ys) x all is =
    let (here, later) = and_parts (q y) (list_all q ys) all in
    on (p y) here is (found_passes p q ys x later)
  where
    on : (b : Bool) → q y ≡ true → cond b (Some y) (find p ys) ≡ Some x → (find p ys ≡ Some x → q x ≡ true) → q x ≡ true
    on true here is rest = let found : y ≡ x = cc in ap q (sym found) ∙ here
    on false here is rest = rest is

pub flat_all : {X Y : Type 0} (p : Y → Bool) (q : X → Bool) (f : X → List Y) → ((x : X) → q x ≡ true → list_all p (f x) ≡ true) → (xs : List X) → list_all q xs ≡ true → list_all p (flat_map f xs) ≡ true
flat_all p q f gives [] all = refl
flat_all p q f gives (x ∷ xs) all =
    let (here, later) = and_parts (q x) (list_all q xs) all in
    list_all-append p (f x) (flat_map f xs) ∙ and_from (list_all p (f x)) (list_all p (flat_map f xs)) (gives x here) (flat_all p q f gives xs later)

-- ## Names that are found, and names that are made

made_is_name : (look : Look) (made name : List ℕ) → run look (made_name made) ≡ fine name → is_name name ≡ true
made_is_name look made name is = on (name_fault made true) refl is
  where
    on : (fault : Option NameFault) → name_fault made true ≡ fault → run look (name_unless made fault) ≡ fine name → is_name name ≡ true
    on None none is = ap is_name (sym (fine_is is)) ∙ is_name_from made (name_from_none made true none)
    on (Some fault) none is = cc

spelled_named : (look : Look) (columns : List ColumnDef) (before : List (List ℕ)) (name spelled : List ℕ) → list_all is_column_named columns ≡ true → run look (spelled_column before name (column_named columns name)) ≡ fine spelled → is_name spelled ≡ true
spelled_named look columns before name spelled named is = on (column_named columns name) refl is
  where
    on : (found : Option ColumnDef) → column_named columns name ≡ found → run look (spelled_column before name found) ≡ fine spelled → is_name spelled ≡ true
    on None there is = cc
    on (Some column) there is =
        let (_, made) = done_unless look (list_any (bytes_eq column.name) before) (dup_fieldname name) column.name spelled is in
        ap is_name (sym made) ∙ found_passes (λ (c : ColumnDef). same c.name name) is_column_named columns column named there

one_more_named : (look : Look) (columns : List ColumnDef) → list_all is_column_named columns ≡ true → (before : List (List ℕ)) (name : List ℕ) (next : List (List ℕ)) → list_all is_name before ≡ true → run look (one_more columns before name) ≡ fine next → list_all is_name next ≡ true
unfolding one_more
one_more_named look columns named before name next so_far is =
    let (spelled, found, last) = bind_fine look (spelled_column before name (column_named columns name)) _ next is in
    subst (λ (names : List (List ℕ)). list_all is_name names ≡ true) (fine_is last) (all_push is_name before spelled so_far (spelled_named look columns before name spelled named found))

columns_named : (look : Look) (columns : List ColumnDef) (names found : List (List ℕ)) → list_all is_column_named columns ≡ true → run look (key_columns columns names) ≡ fine found → list_all is_name found ≡ true
columns_named look columns names found named is = over_keeps (λ (ns : List (List ℕ)). list_all is_name ns ≡ true) look (one_more columns) (one_more_named look columns named) [] names found refl is

-- ## Keys

key_name_named : (look : Look) (parts : TableParts) (primary : Bool) (given : Option (List ℕ)) (columns : List (List ℕ)) (name : List ℕ) → is_named given ≡ true → run look (key_name parts primary given columns) ≡ fine name → is_name name ≡ true
unfolding key_name
key_name_named look parts true given columns name named is = ap is_name (sym (fine_is is))
key_name_named look parts false (Some given) columns name named is =
    let (_, made) = done_unless look (has_index_named parts.indexes given) (dup_keyname given) given name is in
    ap is_name (sym made) ∙ named
key_name_named look parts false None columns name named is = made_is_name look (free_name parts.indexes (base_name parts.name.name columns)) name is

index_named : (look : Look) (parts : TableParts) (key : KeyWords) (index : IndexDef) → list_all is_column_named parts.columns ≡ true → is_named (given_name key) ≡ true → run look (key_of parts key) ≡ fine index → is_index_named index ≡ true
unfolding key_of
index_named look parts key index named given is =
    let (_, single, after_single) = bind_fine look (refuse_if (is_primary_class key.class && list_any is_primary parts.indexes) multiple_pri_key) _ index is in
    let (_, allowed, after_allowed) = bind_fine look (allowed_name (is_primary_class key.class) (given_name key)) _ index after_single in
    let (_, few, after_few) = bind_fine look (refuse_if (nat_lt 16 (length key.columns)) too_many_key_parts) _ index after_allowed in
    let (columns, found, after_columns) = bind_fine look (key_columns parts.columns key.columns) _ index after_few in
    let (name, made, last) = bind_fine look (key_name parts (is_primary_class key.class) (given_name key) columns) _ index after_columns in
    ap is_index_named (sym (fine_is last))
    ∙ and_from (is_name name) (list_all is_name columns) (key_name_named look parts (is_primary_class key.class) (given_name key) columns name given made) (columns_named look parts.columns key.columns columns named found)

-- the table has this name, and the names in it so far are names
pub record AreNamed (table : ObjName) (parts : TableParts) : Type 0 where
  pub name : parts.name ≡ table
  pub columns : list_all is_column_named parts.columns ≡ true
  pub indexes : list_all is_index_named parts.indexes ≡ true
  pub foreign_keys : list_all is_foreign_key_named parts.foreign_keys ≡ true

pub names_are : (table : ObjName) (parts : TableParts) → is_object_named table ≡ true → AreNamed table parts → has_names parts ≡ true
unfolding has_names
names_are table parts own so_far =
    and_from (is_object_named parts.name && list_all is_column_named parts.columns && list_all is_index_named parts.indexes) (list_all is_foreign_key_named parts.foreign_keys)
    (and_from (is_object_named parts.name && list_all is_column_named parts.columns) (list_all is_index_named parts.indexes)
    (and_from (is_object_named parts.name) (list_all is_column_named parts.columns) (ap is_object_named so_far.name ∙ own) so_far.columns) so_far.indexes) so_far.foreign_keys

pub named_of : (parts : TableParts) → has_names parts ≡ true → (is_object_named parts.name ≡ true) × AreNamed parts.name parts
unfolding has_names
named_of parts named =
    let (front, keys_are) = and_parts (is_object_named parts.name && list_all is_column_named parts.columns && list_all is_index_named parts.indexes) (list_all is_foreign_key_named parts.foreign_keys) named in
    let (more, indexes) = and_parts (is_object_named parts.name && list_all is_column_named parts.columns) (list_all is_index_named parts.indexes) front in
    let (own, columns) = and_parts (is_object_named parts.name) (list_all is_column_named parts.columns) more in
    (own, record { name = refl; columns = columns; indexes = indexes; foreign_keys = keys_are })

never_null_named : (names : List (List ℕ)) (column : ColumnDef) → is_column_named (never_null names column) ≡ is_column_named column
never_null_named names column = cond_both (list_any (bytes_eq column.name) names) (record column { nullable = false }) column (λ (c : ColumnDef). is_column_named c ≡ is_column_named column) (λ _. refl) (λ _. refl)

still_named : (primary : Bool) (names : List (List ℕ)) (columns : List ColumnDef) → list_all is_column_named columns ≡ true → list_all is_column_named (cond primary (map (never_null names) columns) columns) ≡ true
still_named true names columns named = all_map is_column_named (never_null names) columns ∙ same_all (λ (c : ColumnDef). is_column_named (never_null names c)) is_column_named (never_null_named names) columns ∙ named
still_named false names columns named = named

with_index_named : (table : ObjName) (parts : TableParts) (index : IndexDef) → AreNamed table parts → is_index_named index ≡ true → AreNamed table (with_index parts index)
unfolding with_index
with_index_named table parts index so_far named = record {
  name = so_far.name;
  columns = still_named (is_primary index) index.columns parts.columns so_far.columns;
  indexes = all_push is_index_named parts.indexes index so_far.indexes named;
  foreign_keys = so_far.foreign_keys;
}

taken_named : (class : IndexClass) (constraint : Option (List ℕ)) → is_named constraint ≡ true → is_named (constraint_taken class constraint) ≡ true
taken_named classes.Primary constraint named = refl
taken_named classes.Unique constraint named = named
taken_named classes.Plain constraint named = refl

given_named : (key : KeyWords) → is_key_named key ≡ true → is_named (given_name key) ≡ true
given_named key named =
    let (front, _) = and_parts (is_named key.constraint && is_named key.name) (list_all is_name key.columns) named in
    let (constraint, name) = and_parts (is_named key.constraint) (is_named key.name) front in
    first_named key.name (constraint_taken key.class key.constraint) name (taken_named key.class key.constraint constraint)

pub key_keeps : (look : Look) (table : ObjName) (written : List ColumnWords) (parts : TableParts) (words : KeyWords) (next : TableParts) → is_key_named words ≡ true → AreNamed table parts → run look (one_key written parts words) ≡ fine next → AreNamed table next
unfolding one_key
key_keeps look table written parts words next named so_far is =
    let (_, some, after_some) = bind_fine look (some_columns words.columns) _ next is in
    let (index, made, after_index) = bind_fine look (key_of parts words) _ next after_some in
    let (_, not_null, last) = bind_fine look (refuse_if (is_primary index && list_any (is_null_written written) index.columns) refusals.primary_cant_have_null) _ next after_index in
    subst (AreNamed table) (fine_is last) (with_index_named table parts index so_far (index_named look parts words index so_far.columns (given_named words named) made))

-- ## Foreign keys

key_index_keeps : (look : Look) (table : ObjName) (parts : TableParts) (words : FkWords) (columns : List (List ℕ)) (indexed : TableParts) → is_named words.constraint ≡ true → is_named words.name ≡ true → AreNamed table parts
    → run look (with_key_index parts words columns) ≡ fine indexed → AreNamed table indexed
unfolding with_key_index
key_index_keeps look table parts words columns indexed constraint name so_far is = on (has_index_on parts.indexes columns) is
  where
    given : is_named (given_name (key_for words columns)) ≡ true
    given = first_named (first_given words.constraint words.name) None (first_named words.constraint words.name constraint name) refl

    on : (b : Bool) → run look (if b then done parts else (key_of parts (key_for words columns) >>= λ index. done (with_index parts index))) ≡ fine indexed → AreNamed table indexed
    on true is = subst (AreNamed table) (fine_is is) so_far
    on false is =
        let (index, made, last) = bind_fine look (key_of parts (key_for words columns)) _ indexed is in
        subst (AreNamed table) (fine_is last) (with_index_named table parts index so_far (index_named look parts (key_for words columns) index so_far.columns given made))

constraint_named : (look : Look) (parts : TableParts) (given : Option (List ℕ)) (name : List ℕ) → is_named given ≡ true → run look (constraint_name parts given) ≡ fine name → is_name name ≡ true
unfolding constraint_name
constraint_named look parts (Some given) name named is = ap is_name (sym (fine_is is)) ∙ named
constraint_named look parts None name named is = made_is_name look (constraint_front parts.name.name ++ decimal (greatest_number (constraint_front parts.name.name) parts.foreign_keys + 1)) name is

-- a column as the parent spells it, or else as it is written
spelled_is_name : (columns : List ColumnDef) (name : List ℕ) → list_all is_column_named columns ≡ true → is_name name ≡ true → is_name (spelled columns name) ≡ true
spelled_is_name columns name named written = on (column_named columns name) refl
  where
    on : (found : Option ColumnDef) → column_named columns name ≡ found → is_name (name_of_column name found) ≡ true
    on None there = written
    on (Some column) there = found_passes (λ (c : ColumnDef). same c.name name) is_column_named columns column named there

all_spelled : (columns : List ColumnDef) (names : List (List ℕ)) → list_all is_column_named columns ≡ true → list_all is_name names ≡ true → list_all is_name (map (spelled columns) names) ≡ true
all_spelled columns names named written = all_map is_name (spelled columns) names ∙ all_weaker is_name (λ n. is_name (spelled columns n)) (λ n is. spelled_is_name columns n named is) names written

seen_table : (seen other : Sight) → Some seen ≡ Some other → seen ≡ other
seen_table seen other is = cc

parent_columns_named : (cat : Catalog) (table : ObjName) (parts : TableParts) (words key : ForeignKeyDef) (parent : TableParts) → IsValid cat → AreNamed table parts → IsKeyFit (all_of cat) parts words key parent → list_all is_column_named parent.columns ≡ true
parent_columns_named cat table parts words key parent valid so_far fit = on fit.parent_is.stands
  where
    on : ((is_same_object words.parent parts.name ≡ true) × (parent ≡ parts)) ⊎ ((space : ℕ) × (all_of cat (keys.Object words.parent) ≡ Some (TableThere space parent))) → list_all is_column_named parent.columns ≡ true
    on (inl itself) = subst (λ (p : TableParts). list_all is_column_named p.columns ≡ true) (sym itself.1) so_far.columns
    on (inr other) =
        let seen : object_seen (finite_map.get cat.objects words.parent) ≡ TableThere other.0 parent = seen_table (object_seen (finite_map.get cat.objects words.parent)) (TableThere other.0 parent) other.1 in
        let there : finite_map.get cat.objects words.parent ≡ Some (Table other.0 parent) = table_seen_is (finite_map.get cat.objects words.parent) other.0 parent seen in
        (named_of parent (valid.named words.parent (Table other.0 parent) (record { is = there }))).1.columns

schema_named : (own : List ℕ) (said : Option (List ℕ)) → is_name own ≡ true → is_named said ≡ true → is_name (schema_or own said) ≡ true
schema_named own None here there = here
schema_named own (Some schema) here there = there

parent_is_named : (table : ObjName) (ref : ObjRef) → is_object_named table ≡ true → says.is_object_named ref ≡ true → is_object_named (parent_named table ref) ≡ true
parent_is_named table ref here there =
    let (own, _) = and_parts (is_name table.schema) (is_name table.name) here in
    let (schema, name) = and_parts (is_named ref.schema) (is_name ref.name) there in
    and_from (is_name (schema_or table.schema ref.schema)) (is_name ref.name) (schema_named table.schema ref.schema own schema) name

-- what a foreign key says are names
record AreSaid (words : FkWords) : Type 0 where
  constraint : is_named words.constraint ≡ true
  name : is_named words.name ≡ true
  parent : says.is_object_named words.parent ≡ true
  parent_columns : list_all is_name words.parent_columns ≡ true

are_said : (words : FkWords) → says.is_foreign_key_named words ≡ true → AreSaid words
are_said words named =
    let (front, columns) = and_parts (is_named words.constraint && is_named words.name && list_all is_name words.columns && says.is_object_named words.parent) (list_all is_name words.parent_columns) named in
    let (more, parent) = and_parts (is_named words.constraint && is_named words.name && list_all is_name words.columns) (says.is_object_named words.parent) front in
    let (both, _) = and_parts (is_named words.constraint && is_named words.name) (list_all is_name words.columns) more in
    let (constraint, name) = and_parts (is_named words.constraint) (is_named words.name) both in
    record { constraint = constraint; name = name; parent = parent; parent_columns = columns }

-- what a foreign key has are names
pub record AreKeyNames (key : ForeignKeyDef) : Type 0 where
  pub name : is_name key.name ≡ true
  pub columns : list_all is_name key.columns ≡ true
  pub parent : is_object_named key.parent ≡ true
  pub parent_columns : list_all is_name key.parent_columns ≡ true

pub key_names : (key : ForeignKeyDef) → is_foreign_key_named key ≡ true → AreKeyNames key
key_names key named =
    let (front, parent_columns) = and_parts (is_name key.name && list_all is_name key.columns && is_object_named key.parent) (list_all is_name key.parent_columns) named in
    let (more, parent) = and_parts (is_name key.name && list_all is_name key.columns) (is_object_named key.parent) front in
    let (name, columns) = and_parts (is_name key.name) (list_all is_name key.columns) more in
    record { name = name; columns = columns; parent = parent; parent_columns = parent_columns }

pub foreign_key_named : (key : ForeignKeyDef) → is_name key.name ≡ true → list_all is_name key.columns ≡ true → is_object_named key.parent ≡ true → list_all is_name key.parent_columns ≡ true → is_foreign_key_named key ≡ true
foreign_key_named key name columns parent parent_columns =
    and_from (is_name key.name && list_all is_name key.columns && is_object_named key.parent) (list_all is_name key.parent_columns)
    (and_from (is_name key.name && list_all is_name key.columns) (is_object_named key.parent) (and_from (is_name key.name) (list_all is_name key.columns) name columns) parent) parent_columns

pub foreign_key_keeps : (cat : Catalog) (table : ObjName) → IsValid cat → is_object_named table ≡ true → (parts : TableParts) (words : FkWords) (next : TableParts) → says.is_foreign_key_named words ≡ true → AreNamed table parts
    → run (all_of cat) (one_foreign_key parts words) ≡ fine next → AreNamed table next
unfolding one_foreign_key
foreign_key_keeps cat table valid own parts words next named so_far is =
    let said : AreSaid words = are_said words named in
    let (_, as_many, after_count) = bind_fine (all_of cat) (refuse_if (not (length words.columns == length words.parent_columns)) (refusals.wrong_fk_def (name_in_text words.constraint))) _ next is in
    let (_, few, after_few) = bind_fine (all_of cat) (refuse_if (nat_lt 16 (length words.columns)) too_many_key_parts) _ next after_count in
    let (_, some, after_some) = bind_fine (all_of cat) (some_columns words.columns) _ next after_few in
    let (columns, found, after_columns) = bind_fine (all_of cat) (key_columns parts.columns words.columns) _ next after_some in
    let (name, name_made, after_name) = bind_fine (all_of cat) (constraint_name parts words.constraint) _ next after_columns in
    let (indexed, made, after_index) = bind_fine (all_of cat) (with_key_index parts words columns) _ next after_name in
    let (key, fits, last) = bind_fine (all_of cat) (foreign_key_of indexed words.columns (key_named words parts.name name columns)) _ next after_index in
    let (parent, fit) = foreign_keys_are_fit (all_of cat) indexed words.columns (key_named words parts.name name columns) key fits in
    let then_named : AreNamed table indexed = key_index_keeps (all_of cat) table parts words columns indexed said.constraint said.name so_far made in
    let parent_named_is : is_object_named (parent_named parts.name words.parent) ≡ true = parent_is_named parts.name words.parent (ap is_object_named so_far.name ∙ own) said.parent in
    let key_is : is_foreign_key_named key ≡ true = ap is_foreign_key_named fit.kept
    ∙ foreign_key_named (record (key_named words parts.name name columns) { parent_columns = map (spelled parent.columns) words.parent_columns }) (constraint_named (all_of cat) parts words.constraint name said.constraint name_made)
    (columns_named (all_of cat) parts.columns words.columns columns so_far.columns found) parent_named_is
    (all_spelled parent.columns words.parent_columns (parent_columns_named cat table indexed (key_named words parts.name name columns) key parent valid then_named fit) said.parent_columns) in
    subst (AreNamed table) (fine_is last) (record {
      name = then_named.name;
      columns = then_named.columns;
      indexes = then_named.indexes;
      foreign_keys = put_all is_foreign_key_named key indexed.foreign_keys key_is then_named.foreign_keys;
    })

-- ## Columns

pub column_has_name : (look : Look) (words : ColumnWords) (column : ColumnDef) → run look (column_of words) ≡ fine column → column.name ≡ words.name
unfolding column_of
column_has_name look words column is =
    let (kind, typed, after_type) = bind_fine look (column_type words.name words.kind) _ column is in
    let (_, whole, after_auto) = bind_fine look (refuse_if (words.auto && not (is_integer kind)) (wrong_field_spec words.name)) _ column after_type in
    let (default, kept, last) = bind_fine look (kept_default words kind words.default) _ column after_auto in
    ap (λ (c : ColumnDef). c.name) (sym (fine_is last))

one_column_named : (look : Look) (before : List ColumnDef) (words : ColumnWords) (next : List ColumnDef) → says.is_column_named words ≡ true → list_all is_column_named before ≡ true → run look (one_column before words) ≡ fine next → list_all is_column_named next ≡ true
unfolding one_column
one_column_named look before words next named so_far is =
    let (_, once, after_name) = bind_fine look (refuse_if (has_column before words.name) (dup_fieldname words.name)) _ next is in
    let (column, made, last) = bind_fine look (column_of words) _ next after_name in
    subst (λ (columns : List ColumnDef). list_all is_column_named columns ≡ true) (fine_is last) (all_push is_column_named before column so_far (ap is_name (column_has_name look words column made) ∙ named))

all_columns_named : (look : Look) (words : List ColumnWords) (columns : List ColumnDef) → list_all says.is_column_named words ≡ true → run look (all_columns words) ≡ fine columns → list_all is_column_named columns ≡ true
unfolding all_columns
all_columns_named look words columns named is =
    let (made, each_made, after_each) = bind_fine look (over one_column [] words) _ columns is in
    let (_, some, after_some) = bind_fine look (refuse_if (length made == 0) refusals.table_must_have_columns) _ columns after_each in
    let (_, few, last) = bind_fine look (refuse_if (nat_lt 1017 (length made)) refusals.too_many_fields) _ columns after_some in
    subst (λ (cs : List ColumnDef). list_all is_column_named cs ≡ true) (fine_is last)
    (over_passing (λ (cs : List ColumnDef). list_all is_column_named cs ≡ true) says.is_column_named look one_column (one_column_named look) [] words made named refl each_made)

-- ## Elements

column_said : (element : Element) → is_element_named element ≡ true → list_all says.is_column_named (column_in element) ≡ true
column_said (Column words) named = and_from (says.is_column_named words) true named refl
column_said (Key words) named = refl
column_said (ForeignKey words) named = refl

key_said : (element : Element) → is_element_named element ≡ true → list_all is_key_named (key_in element) ≡ true
key_said (Column words) named = refl
key_said (Key words) named = and_from (is_key_named words) true named refl
key_said (ForeignKey words) named = refl

foreign_key_said : (element : Element) → is_element_named element ≡ true → list_all says.is_foreign_key_named (foreign_key_in element) ≡ true
foreign_key_said (Column words) named = refl
foreign_key_said (Key words) named = refl
foreign_key_said (ForeignKey words) named = and_from (says.is_foreign_key_named words) true named refl

own_key_named : (class : IndexClass) (column : List ℕ) → is_name column ≡ true → is_key_named (own_key class column) ≡ true
own_key_named class column named = and_from (is_name column) true named refl

own_if : (b : Bool) (class : IndexClass) (column : List ℕ) → is_name column ≡ true → list_all is_key_named (if b then own_key class column ∷ [] else []) ≡ true
own_if true class column named = and_from (is_key_named (own_key class column)) true (own_key_named class column named) refl
own_if false class column named = refl

pub own_keys_named : (words : ColumnWords) → says.is_column_named words ≡ true → list_all is_key_named (own_keys words) ≡ true
own_keys_named words named =
    list_all-append is_key_named (if words.primary then own_key classes.Primary words.name ∷ [] else []) (if words.unique then own_key classes.Unique words.name ∷ [] else [])
    ∙ and_from (list_all is_key_named (if words.primary then own_key classes.Primary words.name ∷ [] else [])) (list_all is_key_named (if words.unique then own_key classes.Unique words.name ∷ [] else []))
    (own_if words.primary classes.Primary words.name named) (own_if words.unique classes.Unique words.name named)

all_keys_named : (elements : List Element) → list_all is_element_named elements ≡ true → list_all is_key_named (all_keys elements) ≡ true
all_keys_named elements named =
    list_all-append is_key_named (flat_map own_keys (flat_map column_in elements)) (flat_map key_in elements)
    ∙ and_from (list_all is_key_named (flat_map own_keys (flat_map column_in elements))) (list_all is_key_named (flat_map key_in elements))
    (flat_all is_key_named says.is_column_named own_keys own_keys_named (flat_map column_in elements) (flat_all says.is_column_named is_element_named column_in column_said elements named))
    (flat_all is_key_named is_element_named key_in key_said elements named)

-- ## The whole table

all_by_class : (p : IndexDef → Bool) (columns : List ColumnDef) (indexes : List IndexDef) → list_all p indexes ≡ true → list_all p (by_class columns indexes) ≡ true
unfolding by_class
all_by_class p columns indexes all =
    let ranked = λ (n : ℕ). filter (is_ranked columns n) indexes in
    list_all-append p (ranked 0 ++ ranked 1 ++ ranked 2) (ranked 3)
    ∙ and_from (list_all p (ranked 0 ++ ranked 1 ++ ranked 2)) (list_all p (ranked 3))
    (list_all-append p (ranked 0 ++ ranked 1) (ranked 2)
    ∙ and_from (list_all p (ranked 0 ++ ranked 1)) (list_all p (ranked 2))
    (list_all-append p (ranked 0) (ranked 1)
    ∙ and_from (list_all p (ranked 0)) (list_all p (ranked 1)) (filter_all (is_ranked columns 0) p indexes all) (filter_all (is_ranked columns 1) p indexes all))
    (filter_all (is_ranked columns 2) p indexes all))
    (filter_all (is_ranked columns 3) p indexes all)

pub table_has_names : (cat : Catalog) (table : ObjName) (elements : List Element) (parts : TableParts) → IsValid cat → is_object_named table ≡ true → list_all is_element_named elements ≡ true
    → run (all_of cat) (table_of table elements) ≡ fine parts → has_names parts ≡ true
unfolding table_of
table_has_names cat table elements parts valid own named is =
    let (columns, columns_made, after_columns) = bind_fine (all_of cat) (all_columns (flat_map column_in elements)) _ parts is in
    let (keyed, keys_made, after_keys) = bind_fine (all_of cat) (over (one_key (flat_map column_in elements)) (of_columns table columns) (all_keys elements)) _ parts after_columns in
    let (linked, links_made, after_links) = bind_fine (all_of cat) (over one_foreign_key keyed (flat_map foreign_key_in elements)) _ parts after_keys in
    let (_, limited, last) = bind_fine (all_of cat) (within_limits linked) _ parts after_links in
    let said : list_all says.is_column_named (flat_map column_in elements) ≡ true = flat_all says.is_column_named is_element_named column_in column_said elements named in
    let first : AreNamed table (of_columns table columns) = record { name = refl; columns = all_columns_named (all_of cat) (flat_map column_in elements) columns said columns_made; indexes = refl; foreign_keys = refl } in
    let second : AreNamed table keyed = over_passing (AreNamed table) is_key_named (all_of cat) (one_key (flat_map column_in elements)) (key_keeps (all_of cat) table (flat_map column_in elements)) (of_columns table columns) (all_keys elements) keyed
    (all_keys_named elements named) first keys_made in
    let third : AreNamed table linked = over_passing (AreNamed table) says.is_foreign_key_named (all_of cat) one_foreign_key (foreign_key_keeps cat table valid own) keyed (flat_map foreign_key_in elements) linked
    (flat_all says.is_foreign_key_named is_element_named foreign_key_in foreign_key_said elements named) second links_made in
    subst (λ (p : TableParts). has_names p ≡ true) (fine_is last) (names_are table (record linked { indexes = by_class linked.columns linked.indexes }) own (record {
      name = third.name;
      columns = third.columns;
      indexes = all_by_class is_index_named linked.columns linked.indexes third.indexes;
      foreign_keys = third.foreign_keys;
    }))
