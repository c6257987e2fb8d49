-- Each foreign key that the rules take is fit.
use Rattle.std.proofs.Common.{◌≡◌, ℕ, Bool, true, false, ◌||◌, not, cond, inl, inr, List, Option, Some, None, map, refl, sym, ◌∙◌, ap, subst}
use Rattle.std.specs.Option.{is_none}
use Rattle.dd_names.specs.Names.{fold}
use Rattle.dd_names.specs.declared.object_name.ObjName.{ObjName}
use Rattle.dd_names.specs.declared.object_name.ObjectKey.TheVariants as keys
use Rattle.dd_errors.specs.Errors.{ErrorValue}
use Rattle.dd_definitions.specs.declared.foreign_keys.ForeignKeyDef.{ForeignKeyDef}
use Rattle.dd_definitions.specs.declared.parts.TableParts.{TableParts}
use Rattle.dd_catalog.specs.Asked.{bind_fine, fine_is}
use Rattle.dd_catalog.specs.Catalog.{is_same_object}
use Rattle.dd_catalog.specs.Kinds.{first_odd_pair, sets_null, first_not_null}
use Rattle.dd_catalog.specs.Sights.{Sight, Nothing, SchemaThere, TableThere, ViewThere, NamesThere, ChildrenThere, OwnerThere}
use Rattle.dd_catalog.specs.Valid.{are_columns_paired}
use Rattle.dd_catalog.specs.Walks.{fine, run, done, ◌>>=◌, told, look_at, refuse_if, refuse_some}
use Rattle.dd_catalog.specs.WalkLaws.{Look}
use Rattle.rules_elements.specs.ForeignKeys.{table_seen, parent_of, has_index_from, odd_pair_refused, not_null_refused, set_null_refused, spelled, is_owned_elsewhere, has_constraint_named, name_is_free, foreign_key_of}
use Rattle.rules_refusals.specs.Refusals.{fk_no_index_parent, fk_dup_name}
use Rattle.rules_elements_laws.specs.Parents.{IsParent, IsKeyFit}
use Rattle.rules_elements_laws.proofs.ColumnsFit.{allowed}
use Rattle.rules_elements_laws.proofs.Numbers.{together}
use Rattle.rules_elements_laws.proofs.ParentSpelling.{pairs_stay, index_stays}
use Rattle.rules_elements_laws.proofs.Spelled.{neither}

-- ## The parent

seen_is : (look : Look) (name : List ℕ) (seen : Sight) (parent : TableParts) → run look (table_seen name seen) ≡ fine parent → (space : ℕ) × (seen ≡ TableThere space parent)
seen_is look name Nothing parent is = cc
seen_is look name SchemaThere parent is = cc
seen_is look name (TableThere space parts) parent is = (space, ap (TableThere space) (fine_is is))
seen_is look name (ViewThere parts) parent is = cc
seen_is look name (NamesThere names) parent is = cc
seen_is look name (ChildrenThere tables) parent is = cc
seen_is look name (OwnerThere table) parent is = cc

looked_is : (look : Look) (parts : TableParts) (name : ObjName) (parent : TableParts) (known : Option Sight) → look (keys.Object name) ≡ known
    → told {E = ErrorValue} {A = TableParts} known (keys.Object name) (λ seen. run look (table_seen name.name seen)) ≡ fine parent → IsParent look parts name parent
looked_is look parts name parent None here is = cc
looked_is look parts name parent (Some seen) here is =
    let (space, there) = seen_is look name.name seen parent is in
    let some : Sight → Option Sight = λ s. Some s in
    record { stands = inr (space, here ∙ ap some there) }

parent_found : (look : Look) (parts : TableParts) (name : ObjName) (parent : TableParts) → run look (parent_of parts name) ≡ fine parent → IsParent look parts name parent
unfolding parent_of
parent_found look parts name parent is =
    elim (is_same_object name parts.name) as (λ v. is_same_object name parts.name ≡ v → run look (cond v (done parts) (look_at (keys.Object name) >>= table_seen name.name)) ≡ fine parent → IsParent look parts name parent) [
      | true ↦ λ here e. record { stands = inl (here, sym (fine_is e)) }
      | false ↦ λ here e. looked_is look parts name parent (look (keys.Object name)) refl e
    ] refl is

-- ## Columns

passed : (look : Look) (refusal : Option ErrorValue) → run look (refuse_some refusal) ≡ fine tt → refusal ≡ None
passed look None is = refl
passed look (Some e) is = cc

no_odd_pair : (written : List (List ℕ)) (name : List ℕ) (pair : Option (List ℕ × List ℕ)) → odd_pair_refused written name pair ≡ None → pair ≡ None
no_odd_pair written name None is = refl
no_odd_pair written name (Some pair) is = cc

no_not_null : (written : List (List ℕ)) (name : List ℕ) (column : Option (List ℕ)) → not_null_refused written name column ≡ None → is_none column ≡ true
no_not_null written name None is = refl
no_not_null written name (Some column) is = cc

null_allowed : (nulls : Bool) (written : List (List ℕ)) (name : List ℕ) (column : Option (List ℕ)) → ◌≡◌ {A = Option ErrorValue} (cond nulls (not_null_refused written name column) None) None → (not nulls || is_none column) ≡ true
null_allowed true written name column is = no_not_null written name column is
null_allowed false written name column is = refl

-- ## The name

record IsNameFree (look : Look) (parts : TableParts) (name : List ℕ) : Type 0 where
  own : has_constraint_named parts.foreign_keys name ≡ false
  others : (owner : ObjName) → look (keys.Constraint parts.name.schema (fold name)) ≡ Some (OwnerThere owner) → is_same_object owner parts.name ≡ true

not_false : (b : Bool) → not b ≡ false → b ≡ true
not_false true is = refl
not_false false is = cc

owner_is : (look : Look) (parts : TableParts) (name : List ℕ) (known : Option Sight) → look (keys.Constraint parts.name.schema (fold name)) ≡ known
    → told {E = ErrorValue} {A = Unit {0}} known (keys.Constraint parts.name.schema (fold name)) (λ seen. run look (refuse_if (is_owned_elsewhere parts.name seen || has_constraint_named parts.foreign_keys name) (fk_dup_name name))) ≡ fine tt
    → IsNameFree look parts name
owner_is look parts name None here is = cc
owner_is look parts name (Some seen) here is =
    let tests = neither (is_owned_elsewhere parts.name seen) (has_constraint_named parts.foreign_keys name) (allowed look (is_owned_elsewhere parts.name seen || has_constraint_named parts.foreign_keys name) (fk_dup_name name) is) in
    record {
      own = tests.1;
      others = λ owner there.
          let same_sight : seen ≡ OwnerThere owner = cc in
          not_false (is_same_object owner parts.name) (sym (ap (is_owned_elsewhere parts.name) same_sight) ∙ tests.0);
    }

free_found : (look : Look) (parts : TableParts) (name : List ℕ) → run look (name_is_free parts name) ≡ fine tt → IsNameFree look parts name
unfolding name_is_free
free_found look parts name is = owner_is look parts name (look (keys.Constraint parts.name.schema (fold name))) refl is

-- ## The foreign key

abbrev kept_key : TableParts → ForeignKeyDef → ForeignKeyDef
kept_key parent words = record words { parent_columns = map (spelled parent.columns) words.parent_columns }

indexed_is : (test : Bool) → not test ≡ false → test ≡ true
indexed_is true is = refl
indexed_is false is = cc

key_fits : (look : Look) (parts parent : TableParts) (written : List (List ℕ)) (words : ForeignKeyDef) → IsParent look parts words.parent parent → has_index_from parent.indexes words.parent_columns ≡ true
    → first_odd_pair parts.columns parent.columns words.columns words.parent_columns ≡ None → set_null_refused written parts.columns words ≡ None → IsNameFree look parts words.name → IsKeyFit look parts words (kept_key parent words) parent
unfolding are_columns_paired
key_fits look parts parent written words stands indexed even null free = record {
  parent_is = stands;
  kept = refl;
  paired = together (is_none (first_odd_pair parts.columns parent.columns words.columns (map (spelled parent.columns) words.parent_columns)))
      (not (sets_null words) || is_none (first_not_null parts.columns words.columns))
      (ap is_none (pairs_stay parts.columns parent.columns words.columns words.parent_columns even))
      (null_allowed (sets_null words) written words.name (first_not_null parts.columns words.columns) null);
  indexed = λ well. index_stays parent words.parent_columns well indexed;
  own = free.own;
  others = free.others;
}

pub foreign_keys_are_fit : (look : Look) (parts : TableParts) (written : List (List ℕ)) (words key : ForeignKeyDef) → run look (foreign_key_of parts written words) ≡ fine key → (parent : TableParts) × IsKeyFit look parts words key parent
unfolding foreign_key_of
foreign_keys_are_fit look parts written words key is =
    let (parent, found, behind_parent) = bind_fine look (parent_of parts words.parent) _ key is in
    let odd = first_odd_pair parts.columns parent.columns words.columns words.parent_columns in
    let (_, indexed, behind_index) = bind_fine look (refuse_if (not (has_index_from parent.indexes words.parent_columns)) (fk_no_index_parent words.name words.parent.name)) _ key behind_parent in
    let (_, even, behind_pairs) = bind_fine look (refuse_some (odd_pair_refused written words.name odd)) _ key behind_index in
    let (_, null, behind_null) = bind_fine look (refuse_some (set_null_refused written parts.columns words)) _ key behind_pairs in
    let (_, free, end) = bind_fine look (name_is_free parts words.name) _ key behind_null in (
      parent,
      subst (λ k. IsKeyFit look parts words k parent) (fine_is end) (key_fits look parts parent written words
          (parent_found look parts words.parent parent found)
          (indexed_is (has_index_from parent.indexes words.parent_columns) (allowed look (not (has_index_from parent.indexes words.parent_columns)) (fk_no_index_parent words.name words.parent.name) indexed))
          (no_odd_pair written words.name odd (passed look (odd_pair_refused written words.name odd) even))
          (passed look (set_null_refused written parts.columns words) null)
          (free_found look parts words.name free)),
    )
