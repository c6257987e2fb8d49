-- What is seen at a key of children or of a constraint is that of the tables that stand there.
use Rattle.std.proofs.Common.{◌≡◌, ℕ, Bool, true, false, ◌&&◌, List, [], ◌∷◌, refl, ap}
use Rattle.std.specs.Prelude.{not, if◌then◌else◌}
use Rattle.std.specs.Str.{bytes_eq}
use Rattle.dd_names.specs.declared.object_name.ObjName.{ObjName}
use Rattle.dd_names.specs.declared.object_name.ObjectKey.{ObjectKey}
use Rattle.dd_names.specs.declared.object_name.ObjectKey.TheVariants as keys
use Rattle.dd_catalog.specs.Catalog.{Placed, is_same_object, refers_to, has_constraint, children_among, owner_among}
use Rattle.dd_catalog.specs.Sights.{Sight, ChildrenThere, OwnerThere}
use Rattle.dd_index.specs.Keys.{standing}
use Rattle.plain_catalog.specs.Listed.{first_seen, listing_seen, listed_at}

children_are : (parent : ObjName) (objects : List (ObjName × Placed)) → standing (keys.Children parent) objects ≡ children_among parent objects
children_are parent [] = refl
children_are parent (o ∷ objects) = ap (λ rest. if refers_to parent o.1 && not (is_same_object o.0 parent) then o.0 ∷ rest else rest) (children_are parent objects)

owner_is : (schema folded : List ℕ) (objects : List (ObjName × Placed)) → first_seen (standing (keys.Constraint schema folded) objects) ≡ owner_among schema folded objects
owner_is schema folded [] = refl
owner_is schema folded (o ∷ objects) = on (bytes_eq o.0.schema schema && has_constraint folded o.1) (owner_is schema folded objects)
  where
    on : (b : Bool) → first_seen (standing (keys.Constraint schema folded) objects) ≡ owner_among schema folded objects
        → first_seen (if b then o.0 ∷ standing (keys.Constraint schema folded) objects else standing (keys.Constraint schema folded) objects) ≡ (if b then OwnerThere o.0 else owner_among schema folded objects)
    on true rest = refl
    on false rest = rest

pub listing_is : (key : ObjectKey) (objects : List (ObjName × Placed)) → listing_seen key (standing key objects) ≡ listed_at key objects
listing_is (keys.Children parent) objects = ap ChildrenThere (children_are parent objects)
listing_is (keys.Constraint schema folded) objects = owner_is schema folded objects
listing_is keys.Schemas objects = refl
listing_is (keys.Schema name) objects = refl
listing_is (keys.Objects name) objects = refl
listing_is (keys.Object name) objects = refl
