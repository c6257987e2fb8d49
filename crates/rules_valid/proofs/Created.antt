-- A catalog with one table more.
use Rattle.std.specs.Prelude.{◌≡◌, ◌⊎◌, ℕ, ◌≤◌, Bool, true, false, cond, ◌&&◌, ◌||◌, not, List, [], ◌∷◌, Option, Some, None, if◌then◌else◌, refl}
use Rattle.std.specs.List.{list_any, list_all}
use Rattle.std.specs.FinMap as finite_map
use Rattle.std.specs.Option.{is_none}
use Rattle.std.specs.Str.{bytes_eq}
use Rattle.std.proofs.Common.{sym, ◌∙◌, ap, subst, inl, inr}
use Rattle.std.proofs.lemmas.Bool.{true≢false, and_from, false_from_ne_true, cond_both}
use Rattle.dd_names.specs.Names.{fold}
use Rattle.dd_names.specs.declared.object_name.ObjName.{ObjName}
use Rattle.dd_definitions.specs.ForeignKeys.{has_index_on}
use Rattle.dd_definitions.specs.Named.{has_names}
use Rattle.dd_definitions.specs.WellFormed.{is_well_formed}
use Rattle.dd_definitions.specs.declared.columns.ColumnDef.{ColumnDef}
use Rattle.dd_definitions.specs.declared.indexes.IndexDef.{IndexDef}
use Rattle.dd_definitions.specs.declared.foreign_keys.ForeignKeyDef.{ForeignKeyDef}
use Rattle.dd_definitions.specs.declared.parts.TableParts.{TableParts}
use Rattle.dd_catalog.specs.Kinds.{first_odd_pair, sets_null, first_not_null}
use Rattle.dd_catalog.specs.Sights.{Sight, OwnerThere}
use Rattle.dd_catalog.specs.Catalog.{Catalog, Placed, Table, View, is_same_object, has_constraint, owner_among}
use Rattle.rules_outcome.specs.Choices.{IsNewSpace}
use Rattle.dd_catalog.specs.Valid.{Has, IsValid, own_name, is_placed_named, is_placed_formed, are_columns_paired, is_parent_fit, are_parents_fit}
use Rattle.dd_catalog.proofs.ObjectNames.{same_object, get_inserted}
use Rattle.rules_named.specs.Named.{is_nothing}
use Rattle.rules_create.proofs.Lists.{all_weaker, some_passes}
use Rattle.rules_create.proofs.Names.{bytes_are, bytes_same}
use Rattle.rules_valid.proofs.Gone.{parents_stay}
use Rattle.rules_valid.proofs.Objects.{IsIn, entry_in}

-- ## What the new table has

-- no table of the schema has a constraint of the name
abbrev pub is_free : Catalog → ObjName → ForeignKeyDef → Bool
is_free cat table key = is_nothing (owner_among table.schema (fold key.name) (finite_map.entries cat.objects))

abbrev pub are_paired : List ColumnDef → List ColumnDef → ForeignKeyDef → Bool
are_paired columns others key =
    is_none (first_odd_pair columns others key.columns key.parent_columns) && (not (sets_null key) || is_none (first_not_null columns key.columns))

abbrev pub fits_other : List ColumnDef → ForeignKeyDef → Option Placed → Bool
fits_other columns key (Some (Table space parent)) = has_index_on parent.indexes key.parent_columns && are_paired columns parent.columns key
fits_other columns key (Some (View parent)) = false
fits_other columns key None = false

-- the parent is the table itself, or one of the catalog, and fits
abbrev pub is_fit : Catalog → ObjName → List ColumnDef → List IndexDef → ForeignKeyDef → Bool
is_fit cat table columns indexes key =
    if is_same_object key.parent table then has_index_on indexes key.parent_columns && are_paired columns columns key else fits_other columns key (finite_map.get cat.objects key.parent)

pub record IsNewTable (cat : Catalog) (table : ObjName) (parts : TableParts) : Type 0 where
  pub schema : finite_map.contains_key cat.schemas table.schema ≡ true
  pub absent : finite_map.get cat.objects table ≡ None
  pub named : parts.name ≡ table
  pub names : has_names parts ≡ true
  pub formed : is_well_formed parts ≡ true
  pub free : list_all (is_free cat table) parts.foreign_keys ≡ true
  pub fit : list_all (is_fit cat table parts.columns parts.indexes) parts.foreign_keys ≡ true

-- ## Parents

fits_so : (parts : TableParts) (key : ForeignKeyDef) (found : Option Placed) → fits_other parts.columns key found ≡ true → is_parent_fit parts key found ≡ true
unfolding are_columns_paired
fits_so parts key (Some (Table space parent)) is = is
fits_so parts key (Some (View parent)) is = is
fits_so parts key None is = is

abbrev pub with_table : Catalog → ℕ → ObjName → TableParts → Catalog
with_table cat space table parts = record cat { objects = finite_map.insert cat.objects table (Table space parts) }

parent_fits : (cat : Catalog) (space : ℕ) (table : ObjName) (parts : TableParts) (key : ForeignKeyDef) → is_fit cat table parts.columns parts.indexes key ≡ true → is_parent_fit parts key (finite_map.get (with_table cat space table parts).objects key.parent) ≡ true
parent_fits cat space table parts key is = ap (is_parent_fit parts key) (get_inserted cat.objects table (Table space parts) key.parent) ∙ on (is_same_object key.parent table) is
  where
    on : (b : Bool) → cond b (has_index_on parts.indexes key.parent_columns && are_paired parts.columns parts.columns key) (fits_other parts.columns key (finite_map.get cat.objects key.parent)) ≡ true
        → is_parent_fit parts key (cond b (Some (Table space parts)) (finite_map.get cat.objects key.parent)) ≡ true
    on true fit = fits_so parts key (Some (Table space parts)) fit
    on false fit = fits_so parts key (finite_map.get cat.objects key.parent) fit

new_parents_fit : (cat : Catalog) (space : ℕ) (table : ObjName) (parts : TableParts) → IsNewTable cat table parts → are_parents_fit (with_table cat space table parts) parts ≡ true
new_parents_fit cat space table parts new =
    all_weaker (is_fit cat table parts.columns parts.indexes) (λ (key : ForeignKeyDef). is_parent_fit parts key (finite_map.get (with_table cat space table parts).objects key.parent))
    (parent_fits cat space table parts) parts.foreign_keys new.fit

-- what the catalog has isn't under a name that is absent
is_other : (cat : Catalog) (table q : ObjName) (placed : Placed) → finite_map.get cat.objects table ≡ None → Has cat q placed → is_same_object q table ≡ false
is_other cat table q placed absent has = false_from_ne_true (is_same_object q table) (λ same. none (same_object q table same))
  where
    none : q ≡ table → ⊥
    none same = let wrong : None ≡ Some placed = sym absent ∙ ap (finite_map.get cat.objects) (sym same) ∙ has.is in cc

old_parents_fit : (cat : Catalog) (space : ℕ) (table : ObjName) (parts others : TableParts) → finite_map.get cat.objects table ≡ None → are_parents_fit cat others ≡ true → are_parents_fit (with_table cat space table parts) others ≡ true
old_parents_fit cat space table parts others absent fit = parents_stay cat (with_table cat space table parts) others others.foreign_keys stay fit
  where
    stay : (parent : ObjName) (s : ℕ) (its : TableParts) → list_any (λ (key : ForeignKeyDef). is_same_object key.parent parent) others.foreign_keys ≡ true → Has cat parent (Table s its)
        → finite_map.get (with_table cat space table parts).objects parent ≡ finite_map.get cat.objects parent
    stay parent s its refers there = get_inserted cat.objects table (Table space parts) parent
        ∙ ap (λ b. cond b (Some (Table space parts)) (finite_map.get cat.objects parent)) (is_other cat table parent (Table s its) absent there)

-- ## Constraints

owner_seen : (schema folded : List ℕ) (q : ObjName) (p : Placed) (es : List (ObjName × Placed)) → IsIn (q, p) es → (bytes_eq q.schema schema && has_constraint folded p) ≡ true → is_nothing (owner_among schema folded es) ≡ false
owner_seen schema folded q p [] there is = absurd there
owner_seen schema folded q p (e ∷ es) (inl here) is =
    subst (λ (x : ObjName × Placed). is_nothing (owner_among schema folded (x ∷ es)) ≡ false) (sym here)
    (subst (λ b. is_nothing (cond b (OwnerThere q) (owner_among schema folded es)) ≡ false) (sym is) refl)
owner_seen schema folded q p (e ∷ es) (inr later) is =
    let rest : is_nothing (owner_among schema folded es) ≡ false = owner_seen schema folded q p es later is in
    cond_both (bytes_eq e.0.schema schema && has_constraint folded e.1) (OwnerThere e.0) (owner_among schema folded es) (λ (s : Sight). is_nothing s ≡ false) (λ _. refl) (λ _. rest)

-- no other table of the schema has a constraint of the new table
none_shared : (cat : Catalog) (space : ℕ) (table : ObjName) (parts : TableParts) → IsNewTable cat table parts → (folded : List ℕ) → has_constraint folded (Table space parts) ≡ true
    → (q : ObjName) (p : Placed) → Has cat q p → q.schema ≡ table.schema → has_constraint folded p ≡ true → ⊥
none_shared cat space table parts new folded own q p has same other =
    let (key, free, named) = some_passes (is_free cat table) (λ (key : ForeignKeyDef). bytes_eq (fold key.name) folded) parts.foreign_keys new.free own in
    let none : is_nothing (owner_among table.schema folded (finite_map.entries cat.objects)) ≡ true =
    subst (λ f. is_nothing (owner_among table.schema f (finite_map.entries cat.objects)) ≡ true) (bytes_are (fold key.name) folded named) free in
    let seen : is_nothing (owner_among table.schema folded (finite_map.entries cat.objects)) ≡ false =
    owner_seen table.schema folded q p (finite_map.entries cat.objects) (entry_in cat q p has) (and_from (bytes_eq q.schema table.schema) (has_constraint folded p) (bytes_same q.schema table.schema same) other) in
    true≢false (sym none ∙ seen)

-- ## The catalog

-- the new table, or what was there
abbrev pub IsNewOrOld : Catalog → ℕ → ObjName → TableParts → ObjName → Placed → Type 0
IsNewOrOld cat space table parts q placed = ((q ≡ table) × (placed ≡ Table space parts)) ⊎ Has cat q placed

pub new_or_old : (cat : Catalog) (space : ℕ) (table : ObjName) (parts : TableParts) (q : ObjName) (placed : Placed) → Has (with_table cat space table parts) q placed → IsNewOrOld cat space table parts q placed
new_or_old cat space table parts q placed has = on (is_same_object q table) refl (sym (get_inserted cat.objects table (Table space parts) q) ∙ has.is)
  where
    on : (b : Bool) → is_same_object q table ≡ b → cond b (Some (Table space parts)) (finite_map.get cat.objects q) ≡ Some placed → IsNewOrOld cat space table parts q placed
    on true same found = let made : placed ≡ Table space parts = cc in inl (same_object q table same, made)
    on false apart found = inr (record { is = found })

pub same_space : (a b : ℕ) (parts others : TableParts) → Table a parts ≡ Table b others → a ≡ b
same_space a b parts others is = cc

pub same_parts : (a b : ℕ) (parts others : TableParts) → Table a parts ≡ Table b others → parts ≡ others
same_parts a b parts others is = cc

module _ (cat : Catalog) (space : ℕ) (table : ObjName) (parts : TableParts) (valid : IsValid cat) (fresh : IsNewSpace cat space) (new : IsNewTable cat table parts) where
  schema_is : (q : ObjName) (placed : Placed) → IsNewOrOld cat space table parts q placed → finite_map.contains_key cat.schemas q.schema ≡ true
  schema_is q placed (inl made) = ap (λ (o : ObjName). finite_map.contains_key cat.schemas o.schema) made.0 ∙ new.schema
  schema_is q placed (inr before) = valid.schemas_there q placed before

  name_is : (q : ObjName) (placed : Placed) → IsNewOrOld cat space table parts q placed → own_name placed ≡ q
  name_is q placed (inl made) = ap own_name made.1 ∙ new.named ∙ sym made.0
  name_is q placed (inr before) = valid.names_carried q placed before

  names_are : (q : ObjName) (placed : Placed) → IsNewOrOld cat space table parts q placed → is_placed_named placed ≡ true
  names_are q placed (inl made) = ap is_placed_named made.1 ∙ new.names
  names_are q placed (inr before) = valid.named q placed before

  form_is : (q : ObjName) (placed : Placed) → IsNewOrOld cat space table parts q placed → is_placed_formed placed ≡ true
  form_is q placed (inl made) = ap is_placed_formed made.1 ∙ new.formed
  form_is q placed (inr before) = valid.formed q placed before

  range_is : (q : ObjName) (s : ℕ) (its : TableParts) → IsNewOrOld cat space table parts q (Table s its) → (1 ≤ s) × (s ≤ 4294967294)
  range_is q s its (inl made) = subst (λ n. (1 ≤ n) × (n ≤ 4294967294)) (sym (same_space s space its parts made.1)) (fresh.least, fresh.greatest)
  range_is q s its (inr before) = valid.spaces_in_range q s its before

  space_taken : (q : ObjName) (s : ℕ) (its others : TableParts) → Table s its ≡ Table space parts → Has cat q (Table s others) → ⊥
  space_taken q s its others made before = fresh.new q others (subst (λ n. Has cat q (Table n others)) (same_space s space its parts made) before)

  spaces_apart : (a b : ObjName) (s : ℕ) (its others : TableParts) → IsNewOrOld cat space table parts a (Table s its) → IsNewOrOld cat space table parts b (Table s others) → a ≡ b
  spaces_apart a b s its others (inl made) (inl other) = made.0 ∙ sym other.0
  spaces_apart a b s its others (inl made) (inr other) = absurd (space_taken b s its others made.1 other)
  spaces_apart a b s its others (inr before) (inl other) = absurd (space_taken a s others its other.1 before)
  spaces_apart a b s its others (inr before) (inr other) = valid.spaces_distinct a b s its others before other

  shared : (a b : ObjName) (placed other : Placed) (folded : List ℕ) → (a ≡ table) × (placed ≡ Table space parts) → Has cat b other → a.schema ≡ b.schema → has_constraint folded placed ≡ true → has_constraint folded other ≡ true → ⊥
  shared a b placed other folded made before same one two =
      none_shared cat space table parts new folded (ap (has_constraint folded) (sym made.1) ∙ one) b other before (sym same ∙ ap (λ (o : ObjName). o.schema) made.0) two

  constraints_apart : (a b : ObjName) (placed other : Placed) (folded : List ℕ) → IsNewOrOld cat space table parts a placed → IsNewOrOld cat space table parts b other → a.schema ≡ b.schema
      → has_constraint folded placed ≡ true → has_constraint folded other ≡ true → a ≡ b
  constraints_apart a b placed other folded (inl made) (inl others) same one two = made.0 ∙ sym others.0
  constraints_apart a b placed other folded (inl made) (inr before) same one two = absurd (shared a b placed other folded made before same one two)
  constraints_apart a b placed other folded (inr before) (inl made) same one two = absurd (shared b a other placed folded made before (sym same) two one)
  constraints_apart a b placed other folded (inr before) (inr others) same one two = valid.constraints_distinct a b placed other folded before others same one two

  parents_are : (q : ObjName) (s : ℕ) (its : TableParts) → IsNewOrOld cat space table parts q (Table s its) → are_parents_fit (with_table cat space table parts) its ≡ true
  parents_are q s its (inl made) = subst (λ (p : TableParts). are_parents_fit (with_table cat space table parts) p ≡ true) (sym (same_parts s space its parts made.1)) (new_parents_fit cat space table parts new)
  parents_are q s its (inr before) = old_parents_fit cat space table parts its new.absent (valid.parents_fit q s its before)

  split : (q : ObjName) (placed : Placed) → Has (with_table cat space table parts) q placed → IsNewOrOld cat space table parts q placed
  split = new_or_old cat space table parts

  pub with_table_valid : IsValid (with_table cat space table parts)
  with_table_valid = record {
    own_schemas = λ name there. valid.own_schemas name there;
    schemas_named = λ name there. valid.schemas_named name there;
    named = λ name placed has. names_are name placed (split name placed has);
    schemas_there = λ name placed has. schema_is name placed (split name placed has);
    names_carried = λ name placed has. name_is name placed (split name placed has);
    formed = λ name placed has. form_is name placed (split name placed has);
    spaces_in_range = λ name s its has. range_is name s its (split name (Table s its) has);
    spaces_distinct = λ a b s its others has other. spaces_apart a b s its others (split a (Table s its) has) (split b (Table s others) other);
    constraints_distinct = λ a b placed other folded has there same one two. constraints_apart a b placed other folded (split a placed has) (split b other there) same one two;
    parents_fit = λ name s its has. parents_are name s its (split name (Table s its) has);
  }
