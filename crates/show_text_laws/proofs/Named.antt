-- A table that fits together and whose names are names has what its text asks for.
use Rattle.std.proofs.Common.{◌≡◌, ℕ, Bool, true, false, ◌&&◌, List, [], ◌∷◌, length, nat_le, refl, subst}
use Rattle.std.specs.Prelude.{◌==◌}
use Rattle.std.specs.List.{list_all}
use Rattle.std.specs.Str.{bytes_eq}
use Rattle.std.proofs.lemmas.Bool.{eqb-true}
use Rattle.dd_names.specs.Names.{is_name}
use Rattle.sql_grammar.proofs.Bits.{and_true}
use Rattle.dd_definitions.specs.Columns.{is_same_column, are_columns_named, is_short_type, is_typed, are_columns_formed, is_column, are_key_columns}
use Rattle.dd_definitions.specs.Defaults.{is_fitting_default}
use Rattle.dd_definitions.specs.Distinct.{are_distinct}
use Rattle.dd_definitions.specs.Indexes.{is_same_index, is_primary_first, is_well_named, is_never_null, is_index_formed, are_few_indexes, are_ranked_from, are_indexes_formed, are_autos_formed}
use Rattle.dd_definitions.specs.ForeignKeys.{is_same_constraint, has_index_on, is_foreign_key_formed, are_in_order, are_foreign_keys_formed}
use Rattle.dd_definitions.specs.Named.{is_object_named, is_column_named, is_index_named, is_foreign_key_named, has_names}
use Rattle.dd_definitions.specs.WellFormed.{is_well_formed}
use Rattle.dd_definitions.specs.declared.columns.ColumnDef.{ColumnDef}
use Rattle.dd_definitions.specs.declared.indexes.IndexDef.{IndexDef}
use Rattle.dd_definitions.specs.declared.foreign_keys.ForeignKeyDef.{ForeignKeyDef}
use Rattle.dd_definitions.specs.declared.parts.TableParts.{TableParts}
use Rattle.sql_text.specs.Parts.{are_names, is_object, if_some}
use Rattle.show_text_laws.specs.Said.{schema_unless, parent_said}
use Rattle.show_text_laws.proofs.SaidTable.{is_column_shown, is_index_shown, is_foreign_key_shown, IsShown, HasColumns}

both : (b c : Bool) → b ≡ true → c ≡ true → (b && c) ≡ true
both b c e f = rw (e, f) refl

all_of_two : {A : Type 0} (p q r : A → Bool) → ((x : A) → p x ≡ true → q x ≡ true → r x ≡ true) → (xs : List A) → list_all p xs ≡ true → list_all q xs ≡ true → list_all r xs ≡ true
all_of_two p q r each [] h k = refl
all_of_two p q r each (x ∷ xs) h k =
    let m = and_true (p x) (list_all p xs) h in
    let n = and_true (q x) (list_all q xs) k in
    both (r x) (list_all r xs) (each x m.0 n.0) (all_of_two p q r each xs m.1 n.1)

-- ---- lists of names

some_names : (ns : List (List ℕ)) → nat_le 1 (length ns) ≡ true → list_all is_name ns ≡ true → are_names ns ≡ true
some_names [] h k = absurd cc
some_names (n ∷ ns) h k = k

key_some : (columns : List ColumnDef) (ns : List (List ℕ)) → are_key_columns columns ns ≡ true → nat_le 1 (length ns) ≡ true
unfolding are_key_columns
key_some columns ns h =
    let a = and_true (nat_le 1 (length ns) && nat_le (length ns) 16 && are_distinct bytes_eq ns) (list_all (is_column columns) ns) h in
    let b = and_true (nat_le 1 (length ns) && nat_le (length ns) 16) (are_distinct bytes_eq ns) a.0 in
    (and_true (nat_le 1 (length ns)) (nat_le (length ns) 16) b.0).0

-- ---- each part

short_type : (c : ColumnDef) → is_typed c ≡ true → is_short_type c.kind ≡ true
unfolding is_typed
short_type c h = (and_true (is_short_type c.kind) (is_fitting_default c.kind c.default) h).0

column_shown : (c : ColumnDef) → is_column_named c ≡ true → is_typed c ≡ true → is_column_shown c ≡ true
column_shown c h k = both (is_name c.name) (is_short_type c.kind) h (short_type c k)

index_some : (columns : List ColumnDef) (i : IndexDef) → is_index_formed columns i ≡ true → nat_le 1 (length i.columns) ≡ true
unfolding is_index_formed
index_some columns i h =
    let a = and_true (are_key_columns columns i.columns && is_well_named i) (is_never_null columns i) h in
    key_some columns i.columns (and_true (are_key_columns columns i.columns) (is_well_named i) a.0).0

index_shown : (columns : List ColumnDef) (i : IndexDef) → is_index_named i ≡ true → is_index_formed columns i ≡ true → is_index_shown i ≡ true
index_shown columns i h k =
    let m = and_true (is_name i.name) (list_all is_name i.columns) h in
    both (is_name i.name) (are_names i.columns) m.0 (some_names i.columns (index_some columns i k) m.1)

parent_shown : (own : Bool) (s n : List ℕ) → is_name s ≡ true → is_name n ≡ true → (if_some is_name (schema_unless own s) && is_name n) ≡ true
parent_shown true s n h k = k
parent_shown false s n h k = both (is_name s) (is_name n) h k

foreign_key_some : (columns : List ColumnDef) (indexes : List IndexDef) (key : ForeignKeyDef) → is_foreign_key_formed columns indexes key ≡ true
    → (nat_le 1 (length key.columns) ≡ true) × (nat_le 1 (length key.parent_columns) ≡ true)
unfolding is_foreign_key_formed
foreign_key_some columns indexes key h =
    let a = and_true (are_key_columns columns key.columns && (length key.columns == length key.parent_columns)) (has_index_on indexes key.columns) h in
    let b = and_true (are_key_columns columns key.columns) (length key.columns == length key.parent_columns) a.0 in
    let some = key_some columns key.columns b.0 in
    (some, subst (λ n. nat_le 1 n ≡ true) (eqb-true (length key.columns) (length key.parent_columns) b.1) some)

foreign_key_shown : (schema : List ℕ) (columns : List ColumnDef) (indexes : List IndexDef) (key : ForeignKeyDef) → is_foreign_key_named key ≡ true → is_foreign_key_formed columns indexes key ≡ true
    → is_foreign_key_shown schema key ≡ true
foreign_key_shown schema columns indexes key h k =
    let a = and_true (is_name key.name && list_all is_name key.columns && is_object_named key.parent) (list_all is_name key.parent_columns) h in
    let b = and_true (is_name key.name && list_all is_name key.columns) (is_object_named key.parent) a.0 in
    let c = and_true (is_name key.parent.schema) (is_name key.parent.name) b.1 in
    let d = and_true (is_name key.name) (list_all is_name key.columns) b.0 in
    let some = foreign_key_some columns indexes key k in
    let own = some_names key.columns some.0 d.1 in
    let there = some_names key.parent_columns some.1 a.1 in
    let parent = parent_shown (bytes_eq key.parent.schema schema) key.parent.schema key.parent.name c.0 c.1 in
    both (is_name key.name && are_names key.columns && is_object (parent_said schema key.parent)) (are_names key.parent_columns)
    (both (is_name key.name && are_names key.columns) (is_object (parent_said schema key.parent)) (both (is_name key.name) (are_names key.columns) d.0 own) parent) there

-- ---- the parts of a table that fits together

pub record IsFormed (parts : TableParts) : Type 0 where
  pub columns : are_columns_formed parts.columns ≡ true
  pub indexes : are_indexes_formed parts.columns parts.indexes ≡ true
  pub autos : are_autos_formed parts.columns parts.indexes ≡ true
  pub foreign_keys : are_foreign_keys_formed parts.columns parts.indexes parts.foreign_keys ≡ true

pub formed_parts : (parts : TableParts) → is_well_formed parts ≡ true → IsFormed parts
unfolding is_well_formed
formed_parts parts h =
    let a = and_true (are_columns_formed parts.columns && are_indexes_formed parts.columns parts.indexes && are_autos_formed parts.columns parts.indexes) (are_foreign_keys_formed parts.columns parts.indexes parts.foreign_keys) h in
    let b = and_true (are_columns_formed parts.columns && are_indexes_formed parts.columns parts.indexes) (are_autos_formed parts.columns parts.indexes) a.0 in
    let c = and_true (are_columns_formed parts.columns) (are_indexes_formed parts.columns parts.indexes) b.0 in
    record { columns = c.0; indexes = c.1; autos = b.1; foreign_keys = a.1 }

columns_typed : (cs : List ColumnDef) → are_columns_formed cs ≡ true → (are_columns_named cs ≡ true) × (list_all is_typed cs ≡ true)
unfolding are_columns_formed
columns_typed cs h = let k = and_true (are_columns_named cs) (list_all is_typed cs) h in (k.0, k.1)

some_columns : (cs : List ColumnDef) → are_columns_named cs ≡ true → nat_le 1 (length cs) ≡ true
unfolding are_columns_named
some_columns cs h =
    let a = and_true (nat_le 1 (length cs) && nat_le (length cs) 1017) (are_distinct is_same_column cs) h in
    (and_true (nat_le 1 (length cs)) (nat_le (length cs) 1017) a.0).0

each_index : (cs : List ColumnDef) (is : List IndexDef) → are_indexes_formed cs is ≡ true → list_all (is_index_formed cs) is ≡ true
unfolding are_indexes_formed
each_index cs is h =
    let a = and_true (is_primary_first is && are_distinct is_same_index is && list_all (is_index_formed cs) is && are_few_indexes is) (are_ranked_from cs 0 is) h in
    let b = and_true (is_primary_first is && are_distinct is_same_index is && list_all (is_index_formed cs) is) (are_few_indexes is) a.0 in
    (and_true (is_primary_first is && are_distinct is_same_index is) (list_all (is_index_formed cs) is) b.0).1

each_foreign_key : (cs : List ColumnDef) (is : List IndexDef) (ks : List ForeignKeyDef) → are_foreign_keys_formed cs is ks ≡ true → list_all (is_foreign_key_formed cs is) ks ≡ true
unfolding are_foreign_keys_formed
each_foreign_key cs is ks h =
    let a = and_true (nat_le (length ks) 1024 && list_all (is_foreign_key_formed cs is) ks && are_distinct is_same_constraint ks) (are_in_order ks) h in
    let b = and_true (nat_le (length ks) 1024 && list_all (is_foreign_key_formed cs is) ks) (are_distinct is_same_constraint ks) a.0 in
    (and_true (nat_le (length ks) 1024) (list_all (is_foreign_key_formed cs is) ks) b.0).1

record AreNamed (parts : TableParts) : Type 0 where
  name : is_name parts.name.name ≡ true
  columns : list_all is_column_named parts.columns ≡ true
  indexes : list_all is_index_named parts.indexes ≡ true
  foreign_keys : list_all is_foreign_key_named parts.foreign_keys ≡ true

names_there : (parts : TableParts) → has_names parts ≡ true → AreNamed parts
unfolding has_names
names_there parts h =
    let a = and_true (is_object_named parts.name && list_all is_column_named parts.columns && list_all is_index_named parts.indexes) (list_all is_foreign_key_named parts.foreign_keys) h in
    let b = and_true (is_object_named parts.name && list_all is_column_named parts.columns) (list_all is_index_named parts.indexes) a.0 in
    let c = and_true (is_object_named parts.name) (list_all is_column_named parts.columns) b.0 in
    record { name = (and_true (is_name parts.name.schema) (is_name parts.name.name) c.0).1; columns = c.1; indexes = b.1; foreign_keys = a.1 }

pub is_shown : (parts : TableParts) → has_names parts ≡ true → is_well_formed parts ≡ true → IsShown parts
is_shown parts named formed =
    let f = formed_parts parts formed in
    let n = names_there parts named in
    record {
      name = n.name;
      columns = all_of_two is_column_named is_typed is_column_shown column_shown parts.columns n.columns (columns_typed parts.columns f.columns).1;
      indexes = all_of_two is_index_named (is_index_formed parts.columns) is_index_shown (index_shown parts.columns) parts.indexes n.indexes (each_index parts.columns parts.indexes f.indexes);
      foreign_keys = all_of_two is_foreign_key_named (is_foreign_key_formed parts.columns parts.indexes) (is_foreign_key_shown parts.name.schema) (foreign_key_shown parts.name.schema parts.columns parts.indexes) parts.foreign_keys n.foreign_keys
          (each_foreign_key parts.columns parts.indexes parts.foreign_keys f.foreign_keys);
    }

has_some : (cs : List ColumnDef) → nat_le 1 (length cs) ≡ true → HasColumns cs
has_some [] h = absurd cc
has_some (c ∷ cs) h = tt

pub has_columns : (parts : TableParts) → is_well_formed parts ≡ true → HasColumns parts.columns
has_columns parts h = has_some parts.columns (some_columns parts.columns (columns_typed parts.columns (formed_parts parts h).columns).0)
