-- Each foreign key of a table of a valid catalog stands there without the table.
use Rattle.std.specs.Prelude.{◌≡◌, ℕ, Bool, true, false, List, ◌∷◌, ◌++◌, Option, Some, None, refl}
use Rattle.std.specs.List.{list_any, list_all}
use Rattle.std.specs.FinMap as finite_map
use Rattle.std.specs.Str.{bytes_eq}
use Rattle.std.proofs.Common.{sym, ◌∙◌, ap, subst, inl, inr}
use Rattle.std.proofs.lemmas.Bool.{and_parts, or_left}
use Rattle.dd_names.specs.Names.{fold}
use Rattle.dd_names.specs.declared.object_name.ObjName.{ObjName}
use Rattle.dd_names.specs.declared.object_name.ObjectKey.TheVariants as keys
use Rattle.dd_definitions.specs.ForeignKeys.{has_index_on}
use Rattle.dd_definitions.specs.declared.foreign_keys.ForeignKeyDef.{ForeignKeyDef}
use Rattle.dd_definitions.specs.declared.parts.TableParts.{TableParts}
use Rattle.dd_catalog.specs.Sights.{Sight, Nothing, TableThere}
use Rattle.dd_catalog.specs.Catalog.{Catalog, Placed, Table, View, is_same_object, has_constraint, object_seen, sight_of}
use Rattle.dd_catalog.specs.Valid.{Has, IsValid, are_columns_paired, is_parent_fit}
use Rattle.dd_catalog.specs.WalkLaws.{Look}
use Rattle.rules_elements.specs.ForeignKeys.{is_owned_elsewhere}
use Rattle.rules_elements_laws.proofs.WellSpelled.{well_spelled}
use Rattle.rules_create.proofs.Lists.{any_behind}
use Rattle.rules_create.proofs.Names.{bytes_same}
use Rattle.show_read_back.specs.Without.{IsWithout}
use Rattle.show_read_back.proofs.ForeignKeysAgain.{EachStands}
use Rattle.show_read_back.proofs.Lists.{all_at}
use Rattle.show_read_back.proofs.Owners.{same_object, not_owned_elsewhere}
use Rattle.show_read_back.proofs.Parents.{StandsAt}

-- ## The parent

-- a fit parent in the catalog
record IsFitParent (cat : Catalog) (parts : TableParts) (key : ForeignKeyDef) : Type 0 where
  space : ℕ
  parent : TableParts
  has : Has cat key.parent (Table space parent)
  indexed : has_index_on parent.indexes key.parent_columns ≡ true
  paired : are_columns_paired parts parent key ≡ true

fit_parent : (cat : Catalog) (parts : TableParts) (key : ForeignKeyDef) (found : Option Placed) → finite_map.get cat.objects key.parent ≡ found → is_parent_fit parts key found ≡ true → IsFitParent cat parts key
fit_parent cat parts key None there is = absurd cc
fit_parent cat parts key (Some (View parent)) there is = absurd cc
fit_parent cat parts key (Some (Table space parent)) there is =
    let (indexed, paired) = and_parts (has_index_on parent.indexes key.parent_columns) (are_columns_paired parts parent key) is in
    record { space = space; parent = parent; has = record { is = there }; indexed = indexed; paired = paired }

same_table : (a b : ℕ) (parts others : TableParts) → ◌≡◌ {A = Option Placed} (Some (Table a parts)) (Some (Table b others)) → parts ≡ others
same_table a b parts others is = cc

parent_stands : (cat : Catalog) (space : ℕ) (parts : TableParts) (look : Look) (key : ForeignKeyDef) → Has cat parts.name (Table space parts) → IsWithout cat parts.name look
    → (fit : IsFitParent cat parts key) → StandsAt look parts key.parent fit.parent
parent_stands cat space parts look key has without fit = on (is_same_object key.parent parts.name) refl
  where
    on : (b : Bool) → is_same_object key.parent parts.name ≡ b → StandsAt look parts key.parent fit.parent
    on true same =
        let here : finite_map.get cat.objects key.parent ≡ Some (Table space parts) = ap (finite_map.get cat.objects) (same_object key.parent parts.name same) ∙ has.is in
        let itself : fit.parent ≡ parts = same_table fit.space space fit.parent parts (sym fit.has.is ∙ here) in
        inl (same, ap (λ (p : TableParts). p.columns) itself, ap (λ (p : TableParts). p.indexes) itself)
    on false other =
        let seen : sight_of cat (keys.Object key.parent) ≡ TableThere fit.space fit.parent = ap object_seen fit.has.is in
        inr (other, (fit.space, without.objects key.parent other ∙ ap (λ (s : Sight). Some s) seen))

-- ## The constraint

own_constraint : (space : ℕ) (parts : TableParts) (before : List ForeignKeyDef) (key : ForeignKeyDef) (after : List ForeignKeyDef) → before ++ key ∷ after ≡ parts.foreign_keys → has_constraint (fold key.name) (Table space parts) ≡ true
own_constraint space parts before key after all =
    subst (λ (ks : List ForeignKeyDef). list_any (λ (k : ForeignKeyDef). bytes_eq (fold k.name) (fold key.name)) ks ≡ true) all
    (any_behind (λ (k : ForeignKeyDef). bytes_eq (fold k.name) (fold key.name)) before (key ∷ after)
    (or_left (bytes_eq (fold key.name) (fold key.name)) (list_any (λ (k : ForeignKeyDef). bytes_eq (fold k.name) (fold key.name)) after) (bytes_same (fold key.name) (fold key.name) refl)))

-- what is seen at the constraint is no other table
record IsOwn (look : Look) (table : ObjName) (schema folded : List ℕ) : Type 0 where
  owner : Sight
  looked : look (keys.Constraint schema folded) ≡ Some owner
  free : is_owned_elsewhere table owner ≡ false

constraint_stands : (cat : Catalog) (space : ℕ) (parts : TableParts) (look : Look) (folded : List ℕ) → IsValid cat → Has cat parts.name (Table space parts) → IsWithout cat parts.name look
    → has_constraint folded (Table space parts) ≡ true → IsOwn look parts.name parts.name.schema folded
constraint_stands cat space parts look folded valid has without own = elim (without.constraints parts.name.schema folded) [
  | inl kept ↦ record {
    owner = sight_of cat (keys.Constraint parts.name.schema folded);
    looked = kept;
    free = not_owned_elsewhere cat parts.name parts.name.schema folded
        (λ owner placed there same other. valid.constraints_distinct owner parts.name placed (Table space parts) folded there has same other own);
  }
  | inr gone ↦ record { owner = Nothing; looked = gone.0; free = refl }
]

-- ## Each foreign key

pub each_stands : (cat : Catalog) (space : ℕ) (parts : TableParts) (look : Look) → IsValid cat → Has cat parts.name (Table space parts) → IsWithout cat parts.name look → EachStands look parts
each_stands cat space parts look valid has without before key after all =
    let fits : is_parent_fit parts key (finite_map.get cat.objects key.parent) ≡ true =
    all_at (λ (k : ForeignKeyDef). is_parent_fit parts k (finite_map.get cat.objects k.parent)) before key after
    (subst (λ (ks : List ForeignKeyDef). list_all (λ (k : ForeignKeyDef). is_parent_fit parts k (finite_map.get cat.objects k.parent)) ks ≡ true) (sym all) (valid.parents_fit parts.name space parts has)) in
    let fit = fit_parent cat parts key (finite_map.get cat.objects key.parent) refl fits in
    let own = constraint_stands cat space parts look (fold key.name) valid has without (own_constraint space parts before key after all) in
    record {
      parent = fit.parent;
      stands = parent_stands cat space parts look key has without fit;
      well = well_spelled fit.parent (valid.formed key.parent (Table fit.space fit.parent) fit.has);
      indexed = fit.indexed;
      paired = fit.paired;
      owner = own.owner;
      looked = own.looked;
      free = own.free;
    }
