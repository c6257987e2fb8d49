-- What is left by the names that rise.
use Rattle.std.specs.Prelude.{◌≡◌, Bool, true, false, cond, ◌&&◌, T, List, [], ◌∷◌, map, Option, Some, IsTrue, refl}
use Rattle.std.specs.declared.cmp.Ordering.{Ordering}
use Rattle.std.specs.declared.cmp.Ordering.TheVariants.{Less}
use Rattle.std.specs.List.{AllByRecursion}
use Rattle.std.specs.List.Sorted.{IsStrictlySortedBy}
use Rattle.std.specs.Map.{keys_of, lookup}
use Rattle.std.specs.BTreeMap.{is_at}
use Rattle.std.specs.Ordering.{is_lt, eq_by_cmp}
use Rattle.std.specs.Option.{option_map}
use Rattle.std.specs.FinMap as finite_map
use Rattle.std.specs.FinMap.Entries.{below_all}
use Rattle.std.proofs.Common.{sym, ◌∙◌, ap, subst}
use Rattle.std.proofs.lemmas.Map.Keys.{sorted_head, sorted_tail}
use Rattle.dd_names.specs.declared.object_name.ObjName.{ObjName}
use Rattle.dd_catalog.specs.declared.object.Object.{Object}
use Rattle.dd_catalog.specs.Catalog.{object_cmp}
use Rattle.rules_rename.specs.Left.{after_left}
use Rattle.rules_rename.specs.Puts.{Put, entry_of, are_in_order, after_at}

both : (a b : Bool) → a ≡ true → b ≡ true → (a && b) ≡ true
both true b p q = q
both false b p q = absurd cc

below : (k : ObjName) (puts : List Put) → AllByRecursion (λ y. object_cmp k y ≡ Less) (keys_of puts) → below_all object_cmp k (map entry_of puts) ≡ true
below k [] h = refl
below k (p ∷ puts) h = both (is_lt (object_cmp k p.0)) (below_all object_cmp k (map entry_of puts)) (ap is_lt h.0) (below k puts h.1)

-- names that rise are in order
pub risen : (puts : List Put) → IsStrictlySortedBy object_cmp (keys_of puts) → IsTrue (are_in_order puts)
risen [] h = refl
risen (p ∷ puts) h =
    both (below_all object_cmp p.0 (map entry_of puts)) (are_in_order puts) (below p.0 puts (sorted_head object_cmp p.0 (keys_of puts) h)) (risen puts (sorted_tail object_cmp p.0 (keys_of puts) h))

below_same : (k : ObjName) (puts : List Put) → below_all object_cmp k (map entry_of puts) ≡ below_all object_cmp k puts
below_same k [] = refl
below_same k (p ∷ puts) = ap (λ b. is_lt (object_cmp k p.0) && b) (below_same k puts)

pub order_same : (puts : List Put) → are_in_order puts ≡ finite_map.is_sorted object_cmp puts
order_same [] = refl
order_same (p ∷ puts) = ap (λ b. b && are_in_order puts) (below_same p.0 puts) ∙ ap (λ b. below_all object_cmp p.0 puts && b) (order_same puts)

-- what a search of the map finds
pub found : (puts : List Put) (name : ObjName) → option_map after_left (lookup (is_at (object_cmp name)) puts) ≡ after_at puts name
found [] name = refl
found (p ∷ puts) name = on (eq_by_cmp object_cmp name p.0) (found puts name)
  where
    on : (b : Bool) → option_map after_left (lookup (is_at (object_cmp name)) puts) ≡ after_at puts name
        → option_map after_left (cond b (Some p.1) (lookup (is_at (object_cmp name)) puts)) ≡ cond b (Some (after_left p.1)) (after_at puts name)
    on true rest = refl
    on false rest = rest

pub found_in : (puts : List Put) (name : ObjName) → finite_map.find object_cmp name puts ≡ lookup (is_at (object_cmp name)) puts
found_in [] name = refl
found_in (p ∷ puts) name = ap (λ rest. cond (eq_by_cmp object_cmp name p.0) (Some p.1) rest) (found_in puts name)
