-- A table with one column more.
use Rattle.std.specs.Prelude.{◌≡◌, ℕ, ◌≤◌, Bool, true, false, ◌&&◌, List, [], ◌∷◌, length, Option, refl}
use Rattle.std.specs.List.{list_any, list_all}
use Rattle.std.specs.Str.{bytes_eq}
use Rattle.std.proofs.Common.{sym, ◌∙◌, ap, subst, arith, inl, inr}
use Rattle.std.proofs.lemmas.Bool.{true≢false, and_parts, and_from, or_cases, or_right}
use Rattle.dd_names.specs.Names.{same}
use Rattle.sql_types.specs.declared.words.ColumnWords.{ColumnWords}
use Rattle.sql_ast.specs.declared.action.Place.{Place}
use Rattle.dd_definitions.specs.Columns.{is_same_column, is_typed, is_column, is_nullable}
use Rattle.dd_definitions.specs.declared.columns.ColumnDef.{ColumnDef}
use Rattle.dd_catalog.specs.Walks.{fine, run, refuse_if}
use Rattle.dd_catalog.specs.WalkLaws.{Look}
use Rattle.dd_catalog.specs.Asked.{fine_is, bind_fine}
use Rattle.rules_refusals.specs.Refusals.{dup_fieldname}
use Rattle.rules_elements.specs.Columns.{column_of}
use Rattle.rules_elements_laws.specs.Taken.{is_auto_by_itself, IsFit}
use Rattle.rules_elements_laws.proofs.ColumnsFit.{columns_are_fit}
use Rattle.rules_create.specs.Tables.{has_column}
use Rattle.rules_create.proofs.FoldedNames.{column_has_name}
use Rattle.rules_create.proofs.Lists.{any_weaker, none_stronger, distinct_more}
use Rattle.rules_create.proofs.Names.{bytes_are, same_where_equal, same_turned, not_refused}
use Rattle.rules_alter.specs.Columns.{allowed_place, place_or, put_at, is_null_in, with_null, column_added}
use Rattle.rules_alter.specs.declared.states.Altering.{Altering}
use Rattle.rules_alter_laws.specs.Stands.{HasColumns, Stands}
use Rattle.rules_alter_laws.proofs.Kept.{sorts_by, KeepNames, KeepNulls, indexes_stay, leads_itself, keys_stay}
use Rattle.rules_alter_laws.proofs.Lists.{AreAlike, alike_turned, alike_all, alike_any, alike_distinct, put_alike}

pub some_there : {X : Type 0} (p : X → Bool) (xs : List X) → list_any p xs ≡ true → 1 ≤ length xs
some_there p [] any = cc
some_there p (x ∷ xs) any = omega arith

-- a column is there in any case where one is spelled so
pub has_spelled : (columns : List ColumnDef) (name : List ℕ) → is_column columns name ≡ true → has_column columns name ≡ true
unfolding is_column
has_spelled columns name is = any_weaker (λ (c : ColumnDef). bytes_eq c.name name) (λ (c : ColumnDef). same c.name name) (λ c here. same_where_equal c.name name (bytes_are c.name name here)) columns is

-- the columns are those and a new one
pub record IsWithColumn (columns : List ColumnDef) (column : ColumnDef) (next : List ColumnDef) : Type 0 where
  pub alike : AreAlike (column ∷ columns) next
  pub new : has_column columns column.name ≡ false

pub with_column_stands : (columns : List ColumnDef) (column : ColumnDef) (next : List ColumnDef) → IsWithColumn columns column next → IsFit column → HasColumns columns → HasColumns next
with_column_stands columns column next more fit good =
    let apart : list_any (is_same_column column) columns ≡ false = none_stronger (λ (c : ColumnDef). same c.name column.name) (is_same_column column) (λ c is. same_turned c.name column.name ∙ is) columns more.new in
    record {
      distinct = alike_distinct is_same_column (sorts_by (λ (c : ColumnDef). c.name)) (column ∷ columns) next more.alike (distinct_more is_same_column column columns apart good.distinct);
      typed = alike_all is_typed (column ∷ columns) next more.alike (and_from (is_typed column) (list_all is_typed columns) fit.typed good.typed);
      auto = alike_all is_auto_by_itself (column ∷ columns) next more.alike (and_from (is_auto_by_itself column) (list_all is_auto_by_itself columns) fit.auto good.auto);
    }

pub with_column_some : (columns : List ColumnDef) (column : ColumnDef) (next : List ColumnDef) → IsWithColumn columns column next → 1 ≤ length next
with_column_some columns column next more = some_there (λ (c : ColumnDef). true) next (alike_any (λ (c : ColumnDef). true) (column ∷ columns) next more.alike refl)

pub with_column_names : (columns : List ColumnDef) (column : ColumnDef) (next : List ColumnDef) → IsWithColumn columns column next → KeepNames columns next
unfolding is_column
with_column_names columns column next more = record {
  there = λ name is. alike_any (λ (c : ColumnDef). bytes_eq c.name name) (column ∷ columns) next more.alike (or_right (bytes_eq column.name name) (list_any (λ (c : ColumnDef). bytes_eq c.name name) columns) is);
}

new_is_other : (columns : List ColumnDef) (column : ColumnDef) (name : List ℕ) → has_column columns column.name ≡ false → is_column columns name ≡ true → bytes_eq column.name name ≡ true → ⊥
new_is_other columns column name new is spelled =
    true≢false (sym (has_spelled columns name is) ∙ ap (has_column columns) (sym (bytes_are column.name name spelled)) ∙ new)

pub with_column_nulls : (columns : List ColumnDef) (column : ColumnDef) (next : List ColumnDef) → IsWithColumn columns column next → KeepNulls columns next
unfolding is_nullable
with_column_nulls columns column next more = record {
  none = λ name is null.
      elim (or_cases (bytes_eq column.name name && column.nullable) (list_any (λ (c : ColumnDef). bytes_eq c.name name && c.nullable) columns)
      (alike_any (λ (c : ColumnDef). bytes_eq c.name name && c.nullable) next (column ∷ columns) (alike_turned more.alike) null)) [
        | inl here ↦ absurd (new_is_other columns column name more.new is (and_parts (bytes_eq column.name name) column.nullable here).0)
        | inr later ↦ later
      ];
}

-- ## ADD COLUMN

pub record IsColumnAdded (state next : Altering) : Type 0 where
  pub stands : Stands next.parts
  pub name : next.parts.name ≡ state.parts.name
  pub indexes : next.parts.indexes ≡ state.parts.indexes
  pub foreign_keys : next.parts.foreign_keys ≡ state.parts.foreign_keys
  pub children : next.children ≡ state.children

abbrev with_column : Option Place → Altering → ColumnWords → ColumnDef → Altering
with_column place state words column = record state {
  parts = record state.parts { columns = put_at place (length state.parts.columns) column state.parts.columns };
  nulls = with_null (is_null_in words) words.name state.nulls;
}

put_is_with : (place : Option Place) (n : ℕ) (column : ColumnDef) (columns : List ColumnDef) → has_column columns column.name ≡ false → IsWithColumn columns column (put_at place n column columns)
put_is_with place n column columns new = record { alike = put_alike columns (place_or place n columns) column; new = new }

with_column_is : (place : Option Place) (state : Altering) (words : ColumnWords) (column : ColumnDef) → Stands state.parts → has_column state.parts.columns column.name ≡ false → IsFit column → IsColumnAdded state (with_column place state words column)
with_column_is place state words column good new fit =
    let columns = state.parts.columns in
    let more : IsWithColumn state.parts.columns column (put_at place (length state.parts.columns) column state.parts.columns) = put_is_with place (length state.parts.columns) column state.parts.columns new in
    let next = put_at place (length state.parts.columns) column state.parts.columns in
    record {
      stands = record {
        some = with_column_some columns column next more;
        columns = with_column_stands columns column next more fit good.columns;
        indexes = indexes_stay columns next state.parts.indexes (with_column_names columns column next more) (with_column_nulls columns column next more) good.indexes;
        keys = keys_stay columns next state.parts.indexes state.parts.indexes state.parts.foreign_keys (with_column_names columns column next more) (leads_itself state.parts.indexes) good.keys;
      };
      name = refl;
      indexes = refl;
      foreign_keys = refl;
      children = refl;
    }

pub column_is_added : (look : Look) (place : Option Place) (state : Altering) (words : ColumnWords) (next : Altering) → Stands state.parts → run look (column_added place state words) ≡ fine next → IsColumnAdded state next
unfolding column_added
column_is_added look place state words next good is =
    let (_, absent, after_name) = bind_fine look (refuse_if (has_column state.parts.columns words.name) (dup_fieldname words.name)) _ next is in
    let (column, made, after_column) = bind_fine look (column_of words) _ next after_name in
    let (_, placed, last) = bind_fine look (allowed_place state.parts state.parts.columns place) _ next after_column in
    let named : column.name ≡ words.name = column_has_name look words column made in
    let new : has_column state.parts.columns column.name ≡ false = ap (has_column state.parts.columns) named ∙ not_refused look (has_column state.parts.columns words.name) (dup_fieldname words.name) tt absent in
    subst (IsColumnAdded state) {x = with_column place state words column} (fine_is last) (with_column_is place state words column good new (columns_are_fit look words column made))
