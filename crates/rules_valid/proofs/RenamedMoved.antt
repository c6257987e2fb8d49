-- What a renaming makes of what stands at the other names.
use Rattle.std.specs.Prelude.{◌≡◌, ℕ, Bool, true, false, List, [], ◌∷◌, map, Option, Some, None, if◌then◌else◌, refl}
use Rattle.std.specs.List.{list_any, list_all}
use Rattle.std.specs.Option.{option_map}
use Rattle.std.specs.Str.{bytes_eq}
use Rattle.std.proofs.Common.{sym, ◌∙◌, ap}
use Rattle.std.proofs.lemmas.Bool.{true≢false, or_parts, false_from_ne_true, cond_both}
use Rattle.dd_names.specs.Names.{fold}
use Rattle.dd_names.specs.declared.object_name.ObjName.{ObjName}
use Rattle.dd_definitions.specs.Named.{is_object_named, is_foreign_key_named}
use Rattle.dd_definitions.specs.declared.foreign_keys.ForeignKeyDef.{ForeignKeyDef}
use Rattle.dd_definitions.specs.declared.parts.TableParts.{TableParts}
use Rattle.dd_definitions.specs.declared.view_parts.ViewParts.{ViewParts}
use Rattle.dd_catalog.specs.Catalog.{Placed, Table, View, is_same_object, refers_to, has_constraint}
use Rattle.dd_catalog.specs.Valid.{own_name, is_placed_named, is_placed_formed, are_columns_paired, is_parent_fit}
use Rattle.dd_catalog.proofs.ObjectNames.{same_object}
use Rattle.rules_create.proofs.Lists.{any_map, all_map, all_weaker, same_any, some_passes}
use Rattle.rules_rename.specs.Renames.{with_parent, with_parents}
use Rattle.rules_rename_laws.proofs.ForeignKeys.{keeps_name, child_is_formed}
use Rattle.rules_valid.proofs.MadeNamed.{named_of, names_are, AreKeyNames, key_names, foreign_key_named}

-- foreign keys refer to the new name
abbrev pub moved : ObjName → ObjName → Placed → Placed
moved from to (Table space parts) = Table space (with_parents from to parts)
moved from to (View parts) = View parts

pub moved_name : (from to : ObjName) (placed : Placed) → own_name (moved from to placed) ≡ own_name placed
moved_name from to (Table space parts) = refl
moved_name from to (View parts) = refl

pub key_moved : (from to : ObjName) (key : ForeignKeyDef) → is_object_named to ≡ true → is_foreign_key_named key ≡ true → is_foreign_key_named (with_parent from to key) ≡ true
key_moved from to key to_named named =
    let are : AreKeyNames key = key_names key named in
    cond_both (is_same_object key.parent from) (record key { parent = to }) key (λ (k : ForeignKeyDef). is_foreign_key_named k ≡ true)
    (λ _. foreign_key_named (record key { parent = to }) are.name are.columns to_named are.parent_columns) (λ _. named)

pub moved_named : (from to : ObjName) (placed : Placed) → is_object_named to ≡ true → is_placed_named placed ≡ true → is_placed_named (moved from to placed) ≡ true
moved_named from to (Table space parts) to_named named =
    let (own, are) = named_of parts named in
    names_are parts.name (with_parents from to parts) own (record {
      name = refl;
      columns = are.columns;
      indexes = are.indexes;
      foreign_keys = all_map is_foreign_key_named (with_parent from to) parts.foreign_keys
          ∙ all_weaker is_foreign_key_named (λ (key : ForeignKeyDef). is_foreign_key_named (with_parent from to key)) (λ key is. key_moved from to key to_named is) parts.foreign_keys are.foreign_keys;
    })
moved_named from to (View parts) to_named named = named

pub moved_formed : (from to : ObjName) (placed : Placed) → is_placed_formed placed ≡ true → is_placed_formed (moved from to placed) ≡ true
moved_formed from to (Table space parts) formed = child_is_formed from to parts formed
moved_formed from to (View parts) formed = formed

pub moved_constraints : (from to : ObjName) (folded : List ℕ) (placed : Placed) → has_constraint folded (moved from to placed) ≡ has_constraint folded placed
moved_constraints from to folded (Table space parts) =
    any_map (λ (key : ForeignKeyDef). bytes_eq (fold key.name) folded) (with_parent from to) parts.foreign_keys
    ∙ same_any (λ (key : ForeignKeyDef). bytes_eq (fold (with_parent from to key).name) folded) (λ (key : ForeignKeyDef). bytes_eq (fold key.name) folded) (λ key. ap (λ n. bytes_eq (fold n) folded) (keeps_name from to key)) parts.foreign_keys
moved_constraints from to folded (View parts) = refl

key_stays : (from to : ObjName) (key : ForeignKeyDef) → is_same_object key.parent from ≡ false → with_parent from to key ≡ key
key_stays from to key other = ap (λ (b : Bool). if b then record key { parent = to } else key) other

keys_stay : (from to : ObjName) (keys : List ForeignKeyDef) → list_any (λ (key : ForeignKeyDef). is_same_object key.parent from) keys ≡ false → map (with_parent from to) keys ≡ keys
keys_stay from to [] none = refl
keys_stay from to (key ∷ keys) none =
    let (here, rest) = or_parts (is_same_object key.parent from) (list_any (λ (k : ForeignKeyDef). is_same_object k.parent from) keys) none in
    let one : with_parent from to key ≡ key = key_stays from to key here in
    let others : map (with_parent from to) keys ≡ keys = keys_stay from to keys rest in
    λ i. one i ∷ others i

-- what doesn't refer to the table stays
pub moved_stays : (from to : ObjName) (placed : Placed) → refers_to from placed ≡ false → moved from to placed ≡ placed
moved_stays from to (Table space parts) none = ap (λ (keys : List ForeignKeyDef). Table space (record parts { foreign_keys = keys })) (keys_stay from to parts.foreign_keys none)
moved_stays from to (View parts) none = refl

-- it is as fit a parent as it was
pub moved_fit : (from to : ObjName) (parts : TableParts) (key : ForeignKeyDef) (there : Option Placed) → is_parent_fit parts key (option_map (moved from to) there) ≡ is_parent_fit parts key there
unfolding are_columns_paired
moved_fit from to parts key None = refl
moved_fit from to parts key (Some (Table space parent)) = refl
moved_fit from to parts key (Some (View parent)) = refl

-- no foreign key has a view as its parent
pub no_view_is_parent : (from : ObjName) (view : ViewParts) (at : ObjName → Option Placed) (placed : Placed) → at from ≡ Some (View view)
    → ((space : ℕ) (parts : TableParts) → placed ≡ Table space parts → list_all (λ (key : ForeignKeyDef). is_parent_fit parts key (at key.parent)) parts.foreign_keys ≡ true) → refers_to from placed ≡ false
no_view_is_parent from view at (View parts) there fit = refl
no_view_is_parent from view at (Table space parts) there fit = false_from_ne_true (list_any (λ (key : ForeignKeyDef). is_same_object key.parent from) parts.foreign_keys) (λ any.
    let (key, fits, refers) = some_passes (λ (key : ForeignKeyDef). is_parent_fit parts key (at key.parent)) (λ (key : ForeignKeyDef). is_same_object key.parent from) parts.foreign_keys (fit space parts refl) any in
    let parent : at key.parent ≡ Some (View view) = ap at (same_object key.parent from refers) ∙ there in
    let never : is_parent_fit parts key (at key.parent) ≡ false = ap (is_parent_fit parts key) parent in
    true≢false (sym fits ∙ never))
