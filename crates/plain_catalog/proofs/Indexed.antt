-- The tables that stand at keys, beside the objects.
use Rattle.std.proofs.Common.{◌≡◌, ◌≢◌, Bool, true, false, cond, List, [], ◌∷◌, Option, Some, None, refl, sym, ◌∙◌, ap, subst}
use Rattle.std.specs.Prelude.{IsTrue, filter}
use Rattle.std.specs.declared.cmp.Ordering.{Ordering}
use Rattle.std.specs.declared.cmp.Ordering.TheVariants.{Less, Equal, Greater}
use Rattle.std.specs.Ordering.{is_eq}
use Rattle.std.specs.Cmp.{tied_itself}
use Rattle.std.specs.List.{list_any}
use Rattle.std.specs.List.Sorted.{IsStrictlySortedBy}
use Rattle.std.specs.Map.{lookup}
use Rattle.std.specs.BTreeMap as tree
use Rattle.std.specs.BTreeMap.{is_at}
use Rattle.std.specs.BTreeSet as sorted
use Rattle.std.specs.FinMap as finite_map
use Rattle.std.proofs.lemmas.Bool.{true≢false}
use Rattle.dd_names.specs.declared.object_name.ObjName.{ObjName}
use Rattle.dd_names.specs.declared.object_name.ObjectKey.{ObjectKey}
use Rattle.dd_catalog.specs.Catalog.{Placed, object_cmp, foreign_keys_of}
use Rattle.dd_index.specs.Keys.{key_cmp, passes, placed_stands, standing, stands}
use Rattle.dd_index.specs.Index.{has, has_name, KeepsAll, KeepsBut}
use Rattle.dd_index.specs.declared.tables_at.TablesAt.{TablesAt}
use Rattle.dd_index.proofs.Found.{found_names}
use Rattle.plain_catalog.specs.Indexed.{IsIndexed, IsReady, KeepsWithout}
use Rattle.plain_catalog.specs.Objects.{map_of, are_in_order}
use Rattle.plain_catalog.specs.declared.object_map.Shift.{Shift}
use Rattle.plain_catalog.proofs.ByName.{object_total, object_alone, entries_of}
use Rattle.plain_catalog.proofs.InOrder.{to_T, found}

abbrev Stands : ObjectKey → ObjName → Option Placed → Type 0
Stands key name placed = passes (placed_stands key) name placed ≡ true

pub none_indexed : (tables : TablesAt) (objects : tree.BTreeMap ObjName Placed) → objects.entries ≡ [] → IsIndexed tables objects
none_indexed tables objects none = record { all = λ key name is. absurd (true≢false (sym is ∙ ap (λ es. passes (placed_stands key) name (lookup (is_at (object_cmp name)) es)) none)) }

-- more tables, and the same objects
pub kept_indexed : (old new : TablesAt) (objects after : tree.BTreeMap ObjName Placed) → after.entries ≡ objects.entries → KeepsAll old new → IsIndexed old objects → IsIndexed new after
kept_indexed old new objects after same kept indexed =
    record { all = λ key name is. kept.keeps key name (indexed.all key name (sym (ap (λ es. passes (placed_stands key) name (lookup (is_at (object_cmp name)) es)) same) ∙ is)) }

other : (name q : ObjName) (r : Ordering) → object_cmp name q ≡ r → is_eq r ≡ false → q ≢ name
other name q r order untied same = true≢false (sym (ap is_eq (tied_itself object_total name)) ∙ ap (λ n. is_eq (object_cmp name n)) (sym same) ∙ ap is_eq order ∙ untied)

-- one more object, or another at its name
pub put_indexed : (before during after : TablesAt) (old new : tree.BTreeMap ObjName Placed) (shift : Shift) (name : ObjName) (object : Placed) → IsIndexed before old → KeepsAll before during → IsReady during shift name (foreign_keys_of object)
    → KeepsBut during after shift.name shift.after → ((q : ObjName) → tree.get object_cmp new q ≡ cond (is_at (object_cmp name) q) (Some object) (tree.get object_cmp old q)) → IsIndexed after new
put_indexed before during after old new shift name object indexed kept ready left puts =
    record { all = λ key q is. on key q (object_cmp name q) refl is }
  where
    seen : (q : ObjName) (r : Ordering) → object_cmp name q ≡ r → tree.get object_cmp new q ≡ cond (is_eq r) (Some object) (tree.get object_cmp old q)
    seen q r order = puts q ∙ ap (λ (o : Ordering). cond (is_eq o) (Some object) (tree.get object_cmp old q)) order

    elsewhere : (key : ObjectKey) (q : ObjName) → q ≢ name → Stands key q (tree.get object_cmp old q) → has after key q ≡ true
    elsewhere key q apart is = left.keeps key q (λ same. absurd (apart (same ∙ ready.named))) (kept.keeps key q (indexed.all key q is))

    on : (key : ObjectKey) (q : ObjName) (r : Ordering) → object_cmp name q ≡ r → Stands key q (tree.get object_cmp new q) → has after key q ≡ true
    on key q Less order is = elsewhere key q (other name q Less order refl) (sym (ap (passes (placed_stands key) q) (seen q Less order)) ∙ is)
    on key q Greater order is = elsewhere key q (other name q Greater order refl) (sym (ap (passes (placed_stands key) q) (seen q Greater order)) ∙ is)
    on key q Equal order is =
        let same : name ≡ q = object_alone name q order in
        let here : stands key name (foreign_keys_of object) ≡ true = ap (λ n. stands key n (foreign_keys_of object)) same ∙ sym (ap (passes (placed_stands key) q) (seen q Equal order)) ∙ is in
        let among : sorted.contains key_cmp shift.after key ≡ true = ready.keys.all key here in
        left.keeps key q (λ _. among) (subst (λ n. has during key n ≡ true) same (ready.entered.all key among))

-- one object less
pub gone_indexed : (before after : TablesAt) (old new : tree.BTreeMap ObjName Placed) (name : ObjName) → IsIndexed before old → KeepsWithout before after name
    → ((q : ObjName) → tree.get object_cmp new q ≡ cond (is_at (object_cmp name) q) None (tree.get object_cmp old q)) → IsIndexed after new
gone_indexed before after old new name indexed kept gone =
    record { all = λ key q is. on key q (object_cmp name q) refl is }
  where
    seen : (q : ObjName) (r : Ordering) → object_cmp name q ≡ r → tree.get object_cmp new q ≡ cond (is_eq r) None (tree.get object_cmp old q)
    seen q r order = gone q ∙ ap (λ (o : Ordering). cond (is_eq o) None (tree.get object_cmp old q)) order

    on : (key : ObjectKey) (q : ObjName) (r : Ordering) → object_cmp name q ≡ r → Stands key q (tree.get object_cmp new q) → has after key q ≡ true
    on key q Less order is = kept.keeps key q (other name q Less order refl) (indexed.all key q (sym (ap (passes (placed_stands key) q) (seen q Less order)) ∙ is))
    on key q Greater order is = kept.keeps key q (other name q Greater order refl) (indexed.all key q (sym (ap (passes (placed_stands key) q) (seen q Greater order)) ∙ is))
    on key q Equal order is = absurd (true≢false (sym is ∙ ap (passes (placed_stands key) q) (seen q Equal order)))

-- ## What stands at a key

abbrev stands_in : tree.BTreeMap ObjName Placed → ObjectKey → ObjName → Bool
stands_in objects key name = passes (placed_stands key) name (tree.get object_cmp objects name)

same_test : (objects : tree.BTreeMap ObjName Placed) (key : ObjectKey) (q : ObjName) → passes (placed_stands key) q (finite_map.find object_cmp q objects.entries) ≡ stands_in objects key q
same_test objects key q = ap (passes (placed_stands key) q) (found object_cmp q objects.entries)

-- the candidates that stand there are all that do
pub stand_there : (tables : TablesAt) (objects : tree.BTreeMap ObjName Placed) (key : ObjectKey) (names : List ObjName) → are_in_order objects.entries → IsIndexed tables objects → IsStrictlySortedBy object_cmp names
    → ((q : ObjName) → has tables key q ≡ true → list_any (is_at (object_cmp q)) names ≡ true) → filter (stands_in objects key) names ≡ standing key (finite_map.entries (map_of objects.entries))
stand_there tables objects key names sorted indexed rising candidates =
    ap (λ (test : ObjName → Bool). filter test names) (λ i q. sym (same_test objects key q) i)
    ∙ sym (found_names (placed_stands key) objects.entries names (to_T (finite_map.is_sorted object_cmp objects.entries) sorted) rising (λ q is. candidates q (indexed.all key q (sym (same_test objects key q) ∙ is))))
    ∙ ap (standing key) (sym (entries_of objects.entries sorted))

pub candidates_in : (tables : TablesAt) (key : ObjectKey) (names : sorted.BTreeSet ObjName) → Some names ≡ tree.get key_cmp tables.tables key → (q : ObjName) → has tables key q ≡ true → list_any (is_at (object_cmp q)) names.keys ≡ true
candidates_in tables key names found q is = ap (has_name q) found ∙ is

pub no_candidates : (tables : TablesAt) (key : ObjectKey) → None ≡ tree.get key_cmp tables.tables key → (q : ObjName) → has tables key q ≡ true → list_any (is_at (object_cmp q)) [] ≡ true
no_candidates tables key none q is = ap (has_name q) none ∙ is
