-- Objects in the order of their names, as the map of them.
use Rattle.std.proofs.Common.{◌≡◌, cond, List, Some, None, refl, ◌∙◌, ap}
use Rattle.std.specs.Prelude.{[], length}
use Rattle.std.specs.declared.cmp.Ordering.{Ordering}
use Rattle.std.specs.declared.cmp.Ordering.TheVariants.{Less, Equal, Greater}
use Rattle.std.specs.Cmp.{IsTotalOrder}
use Rattle.std.specs.Ordering.{ordering_then}
use Rattle.std.specs.List.Sorted.{IsStrictlySortedBy}
use Rattle.std.specs.Map.{keys_of, lookup}
use Rattle.std.specs.BTreeMap.{is_at}
use Rattle.std.specs.FinMap as finite_map
use Rattle.std.proofs.lemmas.Cmp.{nat_list_cmp_total, on_total, then_total}
use Rattle.dd_names.specs.Names.{name_cmp}
use Rattle.dd_names.specs.declared.object_name.ObjName.{ObjName}
use Rattle.dd_catalog.specs.Catalog.{Placed, object_cmp}
use Rattle.plain_catalog.specs.Objects.{map_of, are_in_order}
use Rattle.plain_catalog.proofs.InOrder.{to_T, from_T, risen}
use Rattle.plain_catalog.proofs.InOrder as in_order

pub object_total : IsTotalOrder object_cmp
object_total = then_total (on_total (λ (o : ObjName). o.schema) nat_list_cmp_total) (on_total (λ (o : ObjName). o.name) nat_list_cmp_total)

pub name_alone : finite_map.IsAntisymmetric name_cmp
name_alone = finite_map.slice_cmp-IsAntisymmetric finite_map.nat_cmp-IsAntisymmetric

pub then_parts : (r s : Ordering) → ordering_then r s ≡ Equal → (r ≡ Equal) × (s ≡ Equal)
then_parts Less s e = absurd cc
then_parts Equal s e = (refl, e)
then_parts Greater s e = absurd cc

-- names that tie are one
pub object_alone : finite_map.IsAntisymmetric object_cmp
object_alone a b e =
    let parts : (name_cmp a.schema b.schema ≡ Equal) × (name_cmp a.name b.name ≡ Equal) = then_parts (name_cmp a.schema b.schema) (name_cmp a.name b.name) e in
    let schema : a.schema ≡ b.schema = name_alone a.schema b.schema parts.0 in
    let name : a.name ≡ b.name = name_alone a.name b.name parts.1 in
    λ i. record { schema = schema i; name = name i }

pub rises : (es : List (ObjName × Placed)) → IsStrictlySortedBy object_cmp (keys_of es) → are_in_order es
rises es h = from_T (finite_map.is_sorted object_cmp es) (risen object_cmp es h)

pub entries_of : (es : List (ObjName × Placed)) → are_in_order es → finite_map.entries (map_of es) ≡ es
entries_of es sorted = finite_map.entries-from_sorted object_cmp es (to_T (finite_map.is_sorted object_cmp es) sorted)

pub map_of_none : map_of [] ≡ finite_map.empty
map_of_none = finite_map.empty_of_len (map_of []) (finite_map.len-entries (map_of []) ∙ ap length (entries_of [] refl))

pub got_at : (es : List (ObjName × Placed)) (q : ObjName) → are_in_order es → finite_map.get (map_of es) q ≡ lookup (is_at (object_cmp q)) es
got_at es q sorted = in_order.got object_cmp es q sorted

pub with_object : (es new : List (ObjName × Placed)) (k : ObjName) (v : Placed) → are_in_order es → are_in_order new
    → ((q : ObjName) → lookup (is_at (object_cmp q)) new ≡ cond (is_at (object_cmp k) q) (Some v) (lookup (is_at (object_cmp q)) es))
    → map_of new ≡ finite_map.insert (map_of es) k v
with_object es new k v sorted now_sorted is = in_order.inserted object_cmp object_total object_alone es new k v sorted now_sorted is

pub without_object : (es new : List (ObjName × Placed)) (k : ObjName) → are_in_order es → are_in_order new
    → ((q : ObjName) → lookup (is_at (object_cmp q)) new ≡ cond (is_at (object_cmp k) q) None (lookup (is_at (object_cmp q)) es))
    → map_of new ≡ finite_map.remove (map_of es) k
without_object es new k sorted now_sorted is = in_order.removed object_cmp object_total object_alone es new k sorted now_sorted is
