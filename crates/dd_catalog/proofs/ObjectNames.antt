-- Names of objects in their order, and what a map of objects has under them.
use Rattle.std.specs.Prelude.{◌≡◌, ℕ, ◌<◌, ◌≤◌, true, cond, ◌&&◌, nat_lt, nat_le, List, length, Some, None, refl}
use Rattle.std.specs.List.{list_all}
use Rattle.std.specs.FinMap as finite_map
use Rattle.std.specs.Cmp.{IsTotalOrder, tied_then}
use Rattle.std.specs.Ordering.{eq_by_cmp, is_eq}
use Rattle.std.specs.Str.{bytes_eq}
use Rattle.std.specs.declared.cmp.Ordering.{Ordering}
use Rattle.std.specs.declared.cmp.Ordering.TheVariants.{Less, Equal, Greater}
use Rattle.std.proofs.Common.{sym, ◌∙◌, ap, arith}
use Rattle.std.proofs.lemmas.Bool.{and_parts, and_from}
use Rattle.std.proofs.lemmas.Bool.Decides.{nat_tests}
use Rattle.std.proofs.lemmas.Cmp.{nat_list_cmp_total, on_total, then_total}
use Rattle.std.proofs.lemmas.Map.Text.{is_eq-slice_cmp}
use Rattle.std.proofs.lemmas.Slice.Eq.{bytes_eq-Decides}
use Rattle.dd_names.specs.Names.{is_name_byte, IsName, is_name, name_cmp}
use Rattle.dd_names.specs.declared.object_name.ObjName.{ObjName}
use Rattle.dd_catalog.specs.Catalog.{Placed, object_cmp, is_same_object}

-- ## Names

some_so : (bytes : List ℕ) → nat_lt 0 (length bytes) ≡ true → 0 < length bytes
some_so bytes is = grind (arith, nat_tests)

short_so : (bytes : List ℕ) → nat_le (length bytes) 64 ≡ true → length bytes ≤ 64
short_so bytes is = grind (arith, nat_tests)

pub name_is : (bytes : List ℕ) → is_name bytes ≡ true → IsName bytes
name_is bytes is =
    let (sized, each) = and_parts (nat_lt 0 (length bytes) && nat_le (length bytes) 64) (list_all is_name_byte bytes) is in
    let (some, short) = and_parts (nat_lt 0 (length bytes)) (nat_le (length bytes) 64) sized in
    record { some = some_so bytes some; short = short_so bytes short; each = each }

some_then : (bytes : List ℕ) → 0 < length bytes → nat_lt 0 (length bytes) ≡ true
some_then bytes is = grind (arith, nat_tests)

short_then : (bytes : List ℕ) → length bytes ≤ 64 → nat_le (length bytes) 64 ≡ true
short_then bytes is = grind (arith, nat_tests)

pub is_name_from : (bytes : List ℕ) → IsName bytes → is_name bytes ≡ true
is_name_from bytes name =
    and_from (nat_lt 0 (length bytes) && nat_le (length bytes) 64) (list_all is_name_byte bytes)
    (and_from (nat_lt 0 (length bytes)) (nat_le (length bytes) 64) (some_then bytes name.some) (short_then bytes name.short)) name.each

-- ## Orders

pub object_total : IsTotalOrder object_cmp
object_total = then_total (on_total (λ (o : ObjName). o.schema) nat_list_cmp_total) (on_total (λ (o : ObjName). o.name) nat_list_cmp_total)

pub name_alone : finite_map.IsAntisymmetric name_cmp
name_alone = finite_map.slice_cmp-IsAntisymmetric finite_map.nat_cmp-IsAntisymmetric

pub equal : (r : Ordering) → is_eq r ≡ true → r ≡ Equal
equal Less is = cc
equal Equal is = refl
equal Greater is = cc

-- two names tie where their bytes are the same
pub tied_is_same : (a b : ObjName) → eq_by_cmp object_cmp a b ≡ is_same_object a b
tied_is_same a b =
    sym (tied_then (name_cmp a.schema b.schema) (name_cmp a.name b.name))
    ∙ ap (λ v. v && is_eq (name_cmp a.name b.name)) (is_eq-slice_cmp a.schema b.schema)
    ∙ ap (λ v. bytes_eq a.schema b.schema && v) (is_eq-slice_cmp a.name b.name)

pub same_object : (a b : ObjName) → is_same_object a b ≡ true → a ≡ b
same_object a b is =
    let (schemas, names) = and_parts (bytes_eq a.schema b.schema) (bytes_eq a.name b.name) is in
    let schema : a.schema ≡ b.schema = (bytes_eq-Decides a.schema b.schema).0 schemas in
    let name : a.name ≡ b.name = (bytes_eq-Decides a.name b.name).0 names in
    λ i. record { schema = schema i; name = name i }

pub object_itself : (a : ObjName) → is_same_object a a ≡ true
object_itself a = and_from (bytes_eq a.schema a.schema) (bytes_eq a.name a.name) ((bytes_eq-Decides a.schema a.schema).1 refl) ((bytes_eq-Decides a.name a.name).1 refl)

-- names that tie are one
pub object_alone : finite_map.IsAntisymmetric object_cmp
object_alone a b e = same_object a b (sym (tied_is_same a b) ∙ ap is_eq e)

-- ## Maps of objects

pub get_inserted : (m : finite_map.FinMap object_cmp Placed) (k : ObjName) (p : Placed) (q : ObjName) → finite_map.get (finite_map.insert m k p) q ≡ cond (is_same_object q k) (Some p) (finite_map.get m q)
get_inserted m k p q = finite_map.get-insert object_total m k p q ∙ ap (λ b. cond b (Some p) (finite_map.get m q)) (tied_is_same q k)

pub get_without : (m : finite_map.FinMap object_cmp Placed) (k q : ObjName) → finite_map.get (finite_map.remove m k) q ≡ cond (is_same_object q k) None (finite_map.get m q)
get_without m k q = finite_map.get-remove object_total m k q ∙ ap (λ b. cond b None (finite_map.get m q)) (tied_is_same q k)
