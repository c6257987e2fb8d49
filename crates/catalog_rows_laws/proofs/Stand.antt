-- Rows that stand for a catalog: for none at first, behind each change, and where they are as written.
use Rattle.std.proofs.Common.{◌≡◌, ℕ, Bool, true, false, List, Option, Some, None, refl, sym, ap, subst, ◌∙◌, arith}
use Rattle.std.specs.declared.cmp.Ordering.{Ordering}
use Rattle.std.specs.Option.{option_map, is_some}
use Rattle.std.specs.FinMap as finite_map
use Rattle.dd_names.specs.Names.{name_cmp}
use Rattle.row_batch.specs.Order.{key_cmp}
use Rattle.dd_names.specs.declared.object_name.ObjName.{ObjName}
use Rattle.dd_names.specs.declared.object_name.ObjectKey.{ObjectKey}
use Rattle.dd_catalog.specs.Catalog.{Catalog, Placed, Table, object_cmp, empty_catalog, sight_of}
use Rattle.dd_catalog.specs.Valid.{IsValid, Has as StandsIn}
use Rattle.row_batch.specs.declared.operation.Operation.{Operation}
use Rattle.row_batch.specs.Rows.{Rows, no_rows}
use Rattle.catalog_rows.specs.Owners.{Owner, SchemaIs, ObjectIs}
use Rattle.catalog_rows.specs.Lists.{rows_of_all}
use Rattle.catalog_rows.specs.Stands.{Standing, Numbered, placed_in, Has, IsOf, IsApart, is_others, counter_key, Counts, IsBelow, StandsWith, Stands}
use Rattle.catalog_rows.specs.Changes.{IsOne, put_behind, no_put, Exchanges, next_after, MakesOf}
use Rattle.catalog_rows_laws.specs.Laws.{AreHad, ListsOwners, no_numbered}
use Rattle.catalog_rows_laws.specs.Beside.{is_record, ExchangesBeside}
use Rattle.catalog_rows_laws.specs.Changing.{ComeNumbered, LeadsTo}
use Rattle.catalog_rows_laws.proofs.Alone.{none_some}
use Rattle.catalog_rows_laws.proofs.Erased.{stands_follow}
use Rattle.catalog_rows_laws.proofs.Numbers.{stays_below, stays_apart}
use Rattle.catalog_rows_laws.proofs.Exact.{are_where_written, written_where_are, same_again, same_beside}
use Rattle.catalog_rows_laws.proofs.Determined.{with_ids, determined}

-- ## One catalog

pub same_sight : (rows : Rows) (cat other : Catalog) (key : ObjectKey) → Stands rows cat → Stands rows other → sight_of cat key ≡ sight_of other key
same_sight rows cat other key s t = ap (λ (c : Catalog). sight_of c key) (determined rows s.0 t.0 s.1 t.1 cat other s.2 t.2).2

-- ## Changes

pub change_stands : (operations : List Operation) (rows after : Rows) (n next : Numbered) (before : ℕ) (cat now : Catalog) (gone come : List Owner) (counter : Option ℕ)
    → StandsWith rows n before cat → LeadsTo n next now gone come → ComeNumbered before (next_after counter before) gone come → ExchangesBeside operations gone come counter → MakesOf operations rows after
    → StandsWith after next (next_after counter before) now
change_stands operations rows after n next before cat now gone come counter stands l c means makes =
    stands_follow operations rows after n next before cat now gone come counter stands l.follows l.of l.valid (stays_apart n next before (next_after counter before) now gone come l stands.apart stands.below c)
    (stays_below n next before (next_after counter before) now gone come l stands.below c) means makes

-- ## As written

pub stands_written : (rows : Rows) (n : Numbered) (next : ℕ) (cat : Catalog) (owners : List Owner) → StandsWith rows n next cat → ListsOwners n owners
    → (q : List ℕ) → is_others q ≡ false → finite_map.get rows q ≡ put_behind (rows_of_all owners) no_put q
stands_written rows n next cat owners s l = written_where_are rows n cat owners (with_ids rows n next cat s) l s.are

pub written_stands : (rows : Rows) (n : Numbered) (next : ℕ) (cat : Catalog) (owners : List Owner) → IsOf n cat → IsValid cat → IsApart n → IsBelow n next → ListsOwners n owners
    → Counts next (finite_map.get rows counter_key) → ((q : List ℕ) → is_others q ≡ false → finite_map.get rows q ≡ put_behind (rows_of_all owners) no_put q) → StandsWith rows n next cat
written_stands rows n next cat owners of valid apart below l counts same = record {
  numbered = of;
  valid = valid;
  apart = apart;
  are = are_where_written rows n cat owners (record { of = of; valid = valid; apart = apart }) l same;
  counter = counts;
  below = below;
}

pub again_same : (operations : List Operation) (rows after : Rows) (n : Numbered) (next : ℕ) (cat : Catalog) (gone owners : List Owner) → StandsWith rows n next cat → AreHad n owners
    → ((owner : Owner) → IsOne owner gone → IsOne owner owners) → Exchanges operations gone owners None → MakesOf operations rows after → after ≡ rows
again_same operations rows after n next cat gone owners s had among means makes =
    same_again operations rows after n cat gone owners (with_ids rows n next cat s) s.are had among means makes

pub again_beside : (operations : List Operation) (rows after : Rows) (n : Numbered) (next : ℕ) (cat : Catalog) (gone owners : List Owner) → StandsWith rows n next cat → AreHad n owners
    → ((owner : Owner) → IsOne owner gone → IsOne owner owners) → ExchangesBeside operations gone owners None → MakesOf operations rows after → (q : List ℕ) → is_record q ≡ false → finite_map.get after q ≡ finite_map.get rows q
again_beside operations rows after n next cat gone owners s had among means makes =
    same_beside operations rows after n cat gone owners (with_ids rows n next cat s) s.are had among means makes

-- ## Nothing

no_got : {K X : Type 0} (R : K → K → Ordering) (q : K) (x : X) → finite_map.get (finite_map.empty {X = X} {R = R}) q ≡ Some x → ⊥
no_got R q x e = none_some x (sym (finite_map.get-empty R q) ∙ e)

no_schema : (name : List ℕ) → finite_map.contains_key empty_catalog.schemas name ≡ true → ⊥
no_schema name e = let same : ◌≡◌ {A = Bool} false true = sym (ap is_some (finite_map.get-empty {X = Unit {0}} name_cmp name)) ∙ e in cc

pub no_object : (name : ObjName) (placed : Placed) → StandsIn empty_catalog name placed → ⊥
no_object name placed has = no_got object_cmp name placed has.is

pub empty_valid : IsValid empty_catalog
empty_valid = record {
  own_schemas = λ name there. absurd (no_schema name there);
  schemas_named = λ name there. absurd (no_schema name there);
  named = λ name placed has. absurd (no_object name placed has);
  schemas_there = λ name placed has. absurd (no_object name placed has);
  names_carried = λ name placed has. absurd (no_object name placed has);
  formed = λ name placed has. absurd (no_object name placed has);
  spaces_in_range = λ name space parts has. absurd (no_object name (Table space parts) has);
  spaces_distinct = λ a b space parts others has had. absurd (no_object a (Table space parts) has);
  constraints_distinct = λ a b placed other folded has had own one two. absurd (no_object a placed has);
  parents_fit = λ name space parts has. absurd (no_object name (Table space parts) has);
}

pub no_owner : (owner : Owner) → Has no_numbered owner → ⊥
no_owner (SchemaIs name id) has = no_got name_cmp name id has
no_owner (ObjectIs name schema id placed) has = no_got object_cmp name (record { id = id; placed = placed }) has.1

no_standing : (name : ObjName) (st : Standing) → finite_map.get no_numbered.objects name ≡ Some st → ⊥
no_standing name st e = no_got object_cmp name st e

pub nothing_stands : StandsWith no_rows no_numbered 1 empty_catalog
nothing_stands = record {
  numbered = record {
    schemas = λ name. ap is_some (finite_map.get-empty {X = Unit {0}} name_cmp name) ∙ sym (ap is_some (finite_map.get-empty {X = ℕ} name_cmp name));
    objects = λ name. finite_map.get-empty {X = Placed} object_cmp name ∙ sym (ap (option_map placed_in) (finite_map.get-empty {X = Standing} object_cmp name));
  };
  valid = empty_valid;
  apart = record {
    schemas = λ a b id e f. absurd (no_got name_cmp a id e);
    objects = λ a b one other e f same. absurd (no_standing a one e);
    fits = λ owner has. absurd (no_owner owner has);
  };
  are = record { all = λ owner key value has row. absurd (no_owner owner has); only = λ key value own got. absurd (no_got key_cmp key value got) };
  counter = subst (Counts 1) (sym (finite_map.get-empty {X = List ℕ} key_cmp counter_key)) refl;
  below = record {
    some = omega arith;
    fits = omega arith;
    schemas = λ name id e. absurd (no_got name_cmp name id e);
    objects = λ name st e. absurd (no_standing name st e);
    spaces = λ name st e. absurd (no_standing name st e);
  };
}
