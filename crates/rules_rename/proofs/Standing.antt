-- The changed tables that stand at a key are those of the definitions.
use Rattle.std.specs.Prelude.{◌≡◌, ℕ, Bool, true, false, ◌&&◌, not, List, [], ◌∷◌, ◌++◌, if◌then◌else◌, refl}
use Rattle.std.specs.Str.{bytes_eq}
use Rattle.std.specs.List.{list_any}
use Rattle.std.proofs.Common.{sym, ◌∙◌, ap}
use Rattle.dd_names.specs.Names.{fold}
use Rattle.dd_names.specs.declared.object_name.ObjName.{ObjName}
use Rattle.dd_names.specs.declared.object_name.ObjectKey.TheVariants as keys
use Rattle.dd_definitions.specs.declared.foreign_keys.ForeignKeyDef.{ForeignKeyDef}
use Rattle.dd_catalog.specs.declared.object.Object.{Object}
use Rattle.dd_catalog.specs.declared.object.Object.TheVariants as objects
use Rattle.dd_catalog.specs.Catalog.{Placed, is_same_object, children_among, owner_among}
use Rattle.dd_catalog.specs.Sights.{Sight, OwnerThere}
use Rattle.rules_rename.specs.Overlays.{placed_of}
use Rattle.rules_rename.specs.Left.{after_left, keys_left}
use Rattle.rules_rename.specs.Puts.{Put, placed}
use Rattle.rules_rename.specs.Indexed.{standing, first_owner}

never : {A : Type 0} (b : Bool) (x y : A) → (if b && false then x else y) ≡ y
never true x y = refl
never false x y = refl

abbrev child_test : ObjName → ObjName → Object → Bool
child_test parent name object = list_any (λ (key : ForeignKeyDef). is_same_object key.parent parent) (keys_left object) && not (is_same_object name parent)

one_child : (parent name : ObjName) (object : Object) (rest : List (ObjName × Placed)) → children_among parent (placed_of (name, after_left object) ++ rest) ≡ (if child_test parent name object then name ∷ children_among parent rest else children_among parent rest)
one_child parent name (objects.Table id schema space parts) rest = refl
one_child parent name (objects.View id schema parts) rest = refl
one_child parent name (objects.Schema id) rest = refl
one_child parent name objects.Absent rest = refl
one_child parent name (objects.Schemas names) rest = refl
one_child parent name (objects.Objects names) rest = refl
one_child parent name (objects.Children tables) rest = refl
one_child parent name (objects.Constraint table) rest = refl

pub children_are : (parent : ObjName) (puts : List Put) → standing (keys.Children parent) puts ≡ children_among parent (placed puts)
children_are parent [] = refl
children_are parent (p ∷ puts) =
    ap (λ (rest : List ObjName). if child_test parent p.0 p.1 then p.0 ∷ rest else rest) (children_are parent puts) ∙ sym (one_child parent p.0 p.1 (placed puts))

abbrev owner_test : List ℕ → List ℕ → ObjName → Object → Bool
owner_test schema folded name object = bytes_eq name.schema schema && list_any (λ (key : ForeignKeyDef). bytes_eq (fold key.name) folded) (keys_left object)

one_owner : (schema folded : List ℕ) (name : ObjName) (object : Object) (rest : List (ObjName × Placed))
    → owner_among schema folded (placed_of (name, after_left object) ++ rest) ≡ (if owner_test schema folded name object then OwnerThere name else owner_among schema folded rest)
one_owner schema folded name (objects.Table id own space parts) rest = refl
one_owner schema folded name (objects.View id own parts) rest = refl
one_owner schema folded name (objects.Schema id) rest = sym (never (bytes_eq name.schema schema) (OwnerThere name) (owner_among schema folded rest))
one_owner schema folded name objects.Absent rest = sym (never (bytes_eq name.schema schema) (OwnerThere name) (owner_among schema folded rest))
one_owner schema folded name (objects.Schemas names) rest = sym (never (bytes_eq name.schema schema) (OwnerThere name) (owner_among schema folded rest))
one_owner schema folded name (objects.Objects names) rest = sym (never (bytes_eq name.schema schema) (OwnerThere name) (owner_among schema folded rest))
one_owner schema folded name (objects.Children tables) rest = sym (never (bytes_eq name.schema schema) (OwnerThere name) (owner_among schema folded rest))
one_owner schema folded name (objects.Constraint table) rest = sym (never (bytes_eq name.schema schema) (OwnerThere name) (owner_among schema folded rest))

pub owner_is : (schema folded : List ℕ) (puts : List Put) → first_owner (standing (keys.Constraint schema folded) puts) ≡ owner_among schema folded (placed puts)
owner_is schema folded [] = refl
owner_is schema folded (p ∷ puts) = on (owner_test schema folded p.0 p.1) (owner_is schema folded puts) ∙ sym (one_owner schema folded p.0 p.1 (placed puts))
  where
    on : (b : Bool) → first_owner (standing (keys.Constraint schema folded) puts) ≡ owner_among schema folded (placed puts)
        → first_owner (if b then p.0 ∷ standing (keys.Constraint schema folded) puts else standing (keys.Constraint schema folded) puts) ≡ (if b then OwnerThere p.0 else owner_among schema folded (placed puts))
    on true rest = refl
    on false rest = rest
