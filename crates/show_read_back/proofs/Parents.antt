-- A parent that fits a foreign key, as it is looked at again.
use Rattle.std.specs.Prelude.{◌≡◌, ◌⊎◌, ℕ, Bool, true, false, cond, ◌||◌, not, List, [], ◌∷◌, map, Option, Some, None, if◌then◌else◌, refl}
use Rattle.std.specs.List.{list_all, starts_with}
use Rattle.std.specs.Option.{is_none}
use Rattle.std.specs.Str.{bytes_eq}
use Rattle.std.proofs.Common.{sym, ◌∙◌, ap, inl, inr}
use Rattle.std.proofs.lemmas.Bool.{and_parts, and_from}
use Rattle.dd_names.specs.Names.{same, fold}
use Rattle.dd_names.specs.declared.object_name.ObjName.{ObjName}
use Rattle.dd_names.specs.declared.object_name.ObjectKey.TheVariants as keys
use Rattle.dd_definitions.specs.Columns.{is_same_column, is_column}
use Rattle.dd_definitions.specs.Distinct.{are_distinct}
use Rattle.dd_definitions.specs.ForeignKeys.{has_index_on}
use Rattle.dd_definitions.specs.declared.columns.ColumnDef.{ColumnDef}
use Rattle.dd_definitions.specs.declared.indexes.IndexDef.{IndexDef}
use Rattle.dd_definitions.specs.declared.foreign_keys.ForeignKeyDef.{ForeignKeyDef}
use Rattle.dd_definitions.specs.declared.parts.TableParts.{TableParts}
use Rattle.dd_catalog.specs.Kinds.{first_odd_pair, sets_null, first_not_null}
use Rattle.dd_catalog.specs.Sights.{Sight, TableThere}
use Rattle.dd_catalog.specs.Catalog.{is_same_object}
use Rattle.dd_catalog.specs.Valid.{are_columns_paired}
use Rattle.dd_catalog.specs.Walks.{done, ◌>>=◌, fine, run, look_at}
use Rattle.dd_catalog.specs.WalkLaws.{Look, run_fine}
use Rattle.rules_elements.specs.ForeignKeys.{table_seen, parent_of, begin_with, has_index_from, odd_pair_refused, not_null_refused, set_null_refused, name_of_column, spelled, is_owned_elsewhere}
use Rattle.rules_elements_laws.specs.Parents.{IsSpelledWell}
use Rattle.rules_create.proofs.Lists.{any_weaker, some_passes}
use Rattle.rules_create.proofs.Names.{bytes_are, same_where_equal}
use Rattle.show_read_back.proofs.NamesAgain.{find_column}
use Rattle.show_read_back.proofs.Steps.{run_seen}

-- the table itself, whatever foreign keys it has so far, or a table that is seen there
abbrev pub StandsAt : Look → TableParts → ObjName → TableParts → Type 0
StandsAt look parts name parent =
    ((is_same_object name parts.name ≡ true) × (parent.columns ≡ parts.columns) × (parent.indexes ≡ parts.indexes))
    ⊎ ((is_same_object name parts.name ≡ false) × ((space : ℕ) × (look (keys.Object name) ≡ Some (TableThere space parent))))

-- what a foreign key has in a valid catalog
pub record StandsIn (look : Look) (parts : TableParts) (key : ForeignKeyDef) : Type 0 where
  pub parent : TableParts
  pub stands : StandsAt look parts key.parent parent
  pub well : IsSpelledWell parent
  pub indexed : has_index_on parent.indexes key.parent_columns ≡ true
  pub paired : are_columns_paired parts parent key ≡ true
  pub owner : Sight
  pub looked : look (keys.Constraint parts.name.schema (fold key.name)) ≡ Some owner
  pub free : is_owned_elsewhere parts.name owner ≡ false

-- the table with these foreign keys so far
abbrev pub so_far : TableParts → List ForeignKeyDef → TableParts
so_far parts keys = record parts { foreign_keys = keys }

-- ## The parent

-- the same columns and indexes
pub record IsLike (parent there : TableParts) : Type 0 where
  pub columns : there.columns ≡ parent.columns
  pub indexes : there.indexes ≡ parent.indexes

pub record IsSeen (look : Look) (parts : TableParts) (name : ObjName) (parent : TableParts) : Type 0 where
  pub there : TableParts
  pub seen : run look (parent_of parts name) ≡ fine there
  pub alike : IsLike parent there

pub parent_again : (look : Look) (parts : TableParts) (before : List ForeignKeyDef) (name : ObjName) (parent : TableParts) → StandsAt look parts name parent → IsSeen look (so_far parts before) name parent
unfolding parent_of
parent_again look parts before name parent (inl itself) = record {
  there = so_far parts before;
  seen = ap (λ (b : Bool). run look (if b then done (so_far parts before) else (look_at (keys.Object name) >>= table_seen name.name))) itself.0;
  alike = record { columns = sym itself.1; indexes = sym itself.2 };
}
parent_again look parts before name parent (inr other) = record {
  there = parent;
  seen = ap (λ (b : Bool). run look (if b then done (so_far parts before) else (look_at (keys.Object name) >>= table_seen name.name))) other.0
      ∙ run_fine look (look_at (keys.Object name)) (table_seen name.name) (TableThere other.1.0 parent) (run_seen look (keys.Object name) (TableThere other.1.0 parent) other.1.1);
  alike = record { columns = refl; indexes = refl };
}

-- ## Its indexes

starts_begin : (xs names : List (List ℕ)) → starts_with bytes_eq xs names ≡ true → begin_with xs names ≡ true
starts_begin xs [] is = refl
starts_begin [] (name ∷ names) is = absurd cc
starts_begin (x ∷ xs) (name ∷ names) is =
    let (here, rest) = and_parts (bytes_eq name x) (starts_with bytes_eq xs names) is in
    and_from (same x name) (begin_with xs names) (same_where_equal x name (sym (bytes_are name x here))) (starts_begin xs names rest)

pub index_from : (indexes : List IndexDef) (names : List (List ℕ)) → has_index_on indexes names ≡ true → has_index_from indexes names ≡ true
unfolding has_index_on
index_from indexes names is =
    any_weaker (λ (i : IndexDef). starts_with bytes_eq i.columns names) (λ (i : IndexDef). begin_with i.columns names) (λ i starts. starts_begin i.columns names starts) indexes is

starts_all : (p : List ℕ → Bool) (xs names : List (List ℕ)) → starts_with bytes_eq xs names ≡ true → list_all p xs ≡ true → list_all p names ≡ true
starts_all p xs [] is all = refl
starts_all p [] (name ∷ names) is all = absurd cc
starts_all p (x ∷ xs) (name ∷ names) is all =
    let (here, rest) = and_parts (bytes_eq name x) (starts_with bytes_eq xs names) is in
    let (first, others) = and_parts (p x) (list_all p xs) all in
    and_from (p name) (list_all p names) (ap p (bytes_are name x here) ∙ first) (starts_all p xs names rest others)

-- an index begins with columns of the table alone
columns_there : (parent : TableParts) (names : List (List ℕ)) → IsSpelledWell parent → has_index_on parent.indexes names ≡ true → list_all (is_column parent.columns) names ≡ true
unfolding has_index_on
columns_there parent names well indexed =
    let (i, all, starts) = some_passes (λ (i : IndexDef). list_all (is_column parent.columns) i.columns) (λ (i : IndexDef). starts_with bytes_eq i.columns names) parent.indexes well.there indexed in
    starts_all (is_column parent.columns) i.columns names starts all

one_spelled : (columns : List ColumnDef) (name : List ℕ) → are_distinct is_same_column columns ≡ true → is_column columns name ≡ true → spelled columns name ≡ name
unfolding is_column
one_spelled columns name distinct is =
    let found = find_column columns name distinct is in
    ap (name_of_column name) found.found ∙ found.named

all_spelled : (columns : List ColumnDef) (names : List (List ℕ)) → are_distinct is_same_column columns ≡ true → list_all (is_column columns) names ≡ true → map (spelled columns) names ≡ names
all_spelled columns [] distinct is = refl
all_spelled columns (name ∷ names) distinct is =
    let (here, later) = and_parts (is_column columns name) (list_all (is_column columns) names) is in
    let one : spelled columns name ≡ name = one_spelled columns name distinct here in
    let others : map (spelled columns) names ≡ names = all_spelled columns names distinct later in
    λ i. one i ∷ others i

pub spelled_again : (parent : TableParts) (names : List (List ℕ)) → IsSpelledWell parent → has_index_on parent.indexes names ≡ true → map (spelled parent.columns) names ≡ names
spelled_again parent names well indexed = all_spelled parent.columns names well.distinct (columns_there parent names well indexed)

-- ## Its columns

nothing : {A : Type 0} (o : Option A) → is_none o ≡ true → o ≡ None
nothing None is = refl
nothing (Some x) is = absurd cc

pub record ArePaired (parts parent : TableParts) (written : List (List ℕ)) (key : ForeignKeyDef) : Type 0 where
  pub even : odd_pair_refused written key.name (first_odd_pair parts.columns parent.columns key.columns key.parent_columns) ≡ None
  pub null : set_null_refused written parts.columns key ≡ None

null_free : (written : List (List ℕ)) (constraint : List ℕ) (nulls : Bool) (first : Option (List ℕ)) → (not nulls || is_none first) ≡ true → cond nulls (not_null_refused written constraint first) None ≡ None
null_free written constraint false first is = refl
null_free written constraint true None is = refl
null_free written constraint true (Some column) is = absurd cc

pub paired_again : (parts parent : TableParts) (written : List (List ℕ)) (key : ForeignKeyDef) → are_columns_paired parts parent key ≡ true → ArePaired parts parent written key
unfolding are_columns_paired
paired_again parts parent written key is =
    let (even, null) = and_parts (is_none (first_odd_pair parts.columns parent.columns key.columns key.parent_columns)) (not (sets_null key) || is_none (first_not_null parts.columns key.columns)) is in
    record {
      even = ap (odd_pair_refused written key.name) (nothing (first_odd_pair parts.columns parent.columns key.columns key.parent_columns) even);
      null = null_free written key.name (sets_null key) (first_not_null parts.columns key.columns) null;
    }
