-- The changes that are kept are those of an overlay.
use Rattle.std.specs.Prelude.{◌≡◌, Bool, true, false, T, List, [], ◌∷◌, map, IsTrue, refl}
use Rattle.std.specs.FinMap as finite_map
use Rattle.std.specs.Cmp.{IsTotalOrder}
use Rattle.std.specs.Ordering.{match_ordering}
use Rattle.std.specs.declared.cmp.Ordering.{Ordering}
use Rattle.std.specs.declared.cmp.Ordering.TheVariants.{Less, Equal, Greater}
use Rattle.std.proofs.Common.{sym, ◌∙◌, ap, subst}
use Rattle.std.proofs.lemmas.Cmp.{nat_list_cmp_total, on_total, then_total}
use Rattle.dd_names.specs.declared.object_name.ObjName.{ObjName}
use Rattle.dd_catalog.specs.Catalog.{object_cmp}
use Rattle.rules_rename.specs.Overlays.{Overlay, put_change, with_changes}
use Rattle.rules_rename.specs.Left.{after_left}
use Rattle.rules_rename.specs.Puts.{Put, entry_of, are_in_order, overlay_of, after_at, put_in, put_all}

pub object_total : IsTotalOrder object_cmp
object_total = then_total (on_total (λ (o : ObjName). o.schema) nat_list_cmp_total) (on_total (λ (o : ObjName). o.name) nat_list_cmp_total)

pub entries_in : (put : Put) (puts : List Put) → map entry_of (put_in put puts) ≡ finite_map.put object_cmp put.0 (after_left put.1) (map entry_of puts)
entries_in put [] = refl
entries_in put (p ∷ puts) = on (object_cmp put.0 p.0) (entries_in put puts)
  where
    on : (r : Ordering) → map entry_of (put_in put puts) ≡ finite_map.put object_cmp put.0 (after_left put.1) (map entry_of puts)
        → map entry_of (match_ordering r (put ∷ p ∷ puts) ((p.0, put.1) ∷ puts) (p ∷ put_in put puts))
        ≡ finite_map.Entries.by_order r (entry_of put ∷ entry_of p ∷ map entry_of puts) ((p.0, after_left put.1) ∷ map entry_of puts) (entry_of p ∷ finite_map.put object_cmp put.0 (after_left put.1) (map entry_of puts))
    on Less rest = refl
    on Equal rest = refl
    on Greater rest = ap (λ es. entry_of p ∷ es) rest

pub rises : (b : Bool) → IsTrue b → T b
rises b is = subst T (sym is) tt

pub is_risen : (b : Bool) → T b → IsTrue b
is_risen true t = refl
is_risen false t = absurd t

pub in_order_in : (put : Put) (puts : List Put) → IsTrue (are_in_order puts) → IsTrue (are_in_order (put_in put puts))
in_order_in put puts ordered =
    subst (λ es. IsTrue (finite_map.is_sorted object_cmp es)) (sym (entries_in put puts))
    (is_risen (finite_map.is_sorted object_cmp (finite_map.put object_cmp put.0 (after_left put.1) (map entry_of puts))) (finite_map.Entries.is_sorted-put object_cmp object_total put.0 (after_left put.1) (map entry_of puts) (rises (are_in_order puts) ordered)))

pub entries_are : (puts : List Put) → IsTrue (are_in_order puts) → finite_map.entries (overlay_of puts) ≡ map entry_of puts
unfolding overlay_of
entries_are puts ordered = finite_map.entries-from_sorted object_cmp (map entry_of puts) (rises (are_in_order puts) ordered)

pub overlay_in : (put : Put) (puts : List Put) → IsTrue (are_in_order puts) → overlay_of (put_in put puts) ≡ put_change (overlay_of puts) (entry_of put)
overlay_in put puts ordered =
    finite_map.same_entries_map (overlay_of (put_in put puts)) (put_change (overlay_of puts) (entry_of put))
    (entries_are (put_in put puts) (in_order_in put puts ordered) ∙ entries_in put puts ∙ ap (finite_map.put object_cmp put.0 (after_left put.1)) (sym (entries_are puts ordered))
    ∙ sym (finite_map.entries-insert object_total (overlay_of puts) put.0 (after_left put.1)))

pub got_at : (puts : List Put) (name : ObjName) → IsTrue (are_in_order puts) → finite_map.get (overlay_of puts) name ≡ after_at puts name
got_at puts name ordered = finite_map.get-entries (overlay_of puts) name ∙ ap (finite_map.find object_cmp name) (entries_are puts ordered)

pub in_order_all : (more puts : List Put) → IsTrue (are_in_order puts) → IsTrue (are_in_order (put_all more puts))
in_order_all [] puts ordered = ordered
in_order_all (put ∷ more) puts ordered = in_order_all more (put_in put puts) (in_order_in put puts ordered)

pub overlay_all : (more puts : List Put) → IsTrue (are_in_order puts) → overlay_of (put_all more puts) ≡ with_changes (overlay_of puts) (map entry_of more)
overlay_all [] puts ordered = refl
overlay_all (put ∷ more) puts ordered = overlay_all more (put_in put puts) (in_order_in put puts ordered) ∙ ap (λ o. with_changes o (map entry_of more)) (overlay_in put puts ordered)
