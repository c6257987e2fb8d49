-- The tables that stand at keys, beside what is left.
use Rattle.std.specs.Prelude.{◌≡◌, ◌≢◌, Bool, true, false, cond, T, List, [], ◌∷◌, filter, Option, Some, None, IsTrue, refl}
use Rattle.std.specs.declared.cmp.Ordering.{Ordering}
use Rattle.std.specs.declared.cmp.Ordering.TheVariants.{Less, Equal, Greater}
use Rattle.std.specs.Ordering.{is_eq}
use Rattle.std.specs.Cmp.{tied_itself}
use Rattle.std.specs.List.{list_any}
use Rattle.std.specs.List.Sorted.{IsStrictlySortedBy}
use Rattle.std.specs.Map.{lookup}
use Rattle.std.specs.BTreeMap as tree
use Rattle.std.specs.BTreeMap.{is_at}
use Rattle.std.specs.BTreeSet as sorted
use Rattle.std.specs.FinMap as finite_map
use Rattle.std.proofs.Common.{sym, ◌∙◌, ap, subst}
use Rattle.std.proofs.lemmas.Bool.{true≢false}
use Rattle.dd_names.specs.declared.object_name.ObjName.{ObjName}
use Rattle.dd_names.specs.declared.object_name.ObjectKey.{ObjectKey}
use Rattle.dd_catalog.specs.declared.object.Object.{Object}
use Rattle.dd_catalog.specs.Catalog.{object_cmp}
use Rattle.dd_catalog.proofs.ObjectNames.{object_alone, object_total}
use Rattle.dd_index.specs.Keys.{key_cmp, passes, stands}
use Rattle.dd_index.specs.Index.{has, has_name, KeepsAll, KeepsBut}
use Rattle.dd_index.specs.declared.tables_at.TablesAt.{TablesAt}
use Rattle.dd_index.proofs.Found.{found_names, names_rise}
use Rattle.rules_rename.specs.Left.{keys_left}
use Rattle.rules_rename.specs.Puts.{Put, are_in_order}
use Rattle.rules_rename.specs.Indexed.{left_stands, standing, IsIndexed, IsReady}
use Rattle.rules_rename.specs.declared.overlay.Shift.{Shift}
use Rattle.rules_rename.proofs.InOrder.{order_same, found_in}
use Rattle.rules_rename.proofs.Puts.{rises}

abbrev Stands : ObjectKey → ObjName → Option Object → Type 0
Stands key name left = passes (left_stands key) name left ≡ true

pub none_indexed : (tables : TablesAt) (left : tree.BTreeMap ObjName Object) → left.entries ≡ [] → IsIndexed tables left
none_indexed tables left none = record { all = λ key name is. absurd (true≢false (sym is ∙ ap (λ es. passes (left_stands key) name (lookup (is_at (object_cmp name)) es)) none)) }

-- more tables, and the same is left
pub kept_indexed : (old new : TablesAt) (left after : tree.BTreeMap ObjName Object) → after.entries ≡ left.entries → KeepsAll old new → IsIndexed old left → IsIndexed new after
kept_indexed old new left after same kept indexed =
    record { all = λ key name is. kept.keeps key name (indexed.all key name (sym (ap (λ es. passes (left_stands key) name (lookup (is_at (object_cmp name)) es)) same) ∙ is)) }

other : (name q : ObjName) (r : Ordering) → object_cmp name q ≡ r → is_eq r ≡ false → q ≢ name
other name q r order untied same = true≢false (sym (ap is_eq (tied_itself object_total name)) ∙ ap (λ n. is_eq (object_cmp name n)) (sym same) ∙ ap is_eq order ∙ untied)

-- one more name, or another object at it
pub put_indexed : (before during after : TablesAt) (old new : tree.BTreeMap ObjName Object) (shift : Shift) (name : ObjName) (object : Object) → IsIndexed before old → KeepsAll before during → IsReady during shift name (keys_left object)
    → KeepsBut during after shift.name shift.after → ((q : ObjName) → tree.get object_cmp new q ≡ cond (is_at (object_cmp name) q) (Some object) (tree.get object_cmp old q)) → IsIndexed after new
put_indexed before during after old new shift name object indexed kept ready left puts =
    record { all = λ key q is. on key q (object_cmp name q) refl is }
  where
    seen : (q : ObjName) (r : Ordering) → object_cmp name q ≡ r → tree.get object_cmp new q ≡ cond (is_eq r) (Some object) (tree.get object_cmp old q)
    seen q r order = puts q ∙ ap (λ (o : Ordering). cond (is_eq o) (Some object) (tree.get object_cmp old q)) order

    elsewhere : (key : ObjectKey) (q : ObjName) → q ≢ name → Stands key q (tree.get object_cmp old q) → has after key q ≡ true
    elsewhere key q apart is = left.keeps key q (λ same. absurd (apart (same ∙ ready.named))) (kept.keeps key q (indexed.all key q is))

    on : (key : ObjectKey) (q : ObjName) (r : Ordering) → object_cmp name q ≡ r → Stands key q (tree.get object_cmp new q) → has after key q ≡ true
    on key q Less order is = elsewhere key q (other name q Less order refl) (sym (ap (passes (left_stands key) q) (seen q Less order)) ∙ is)
    on key q Greater order is = elsewhere key q (other name q Greater order refl) (sym (ap (passes (left_stands key) q) (seen q Greater order)) ∙ is)
    on key q Equal order is =
        let same : name ≡ q = object_alone name q order in
        let here : stands key name (keys_left object) ≡ true = ap (λ n. stands key n (keys_left object)) same ∙ sym (ap (passes (left_stands key) q) (seen q Equal order)) ∙ is in
        let among : sorted.contains key_cmp shift.after key ≡ true = ready.keys.all key here in
        left.keeps key q (λ _. among) (subst (λ n. has during key n ≡ true) same (ready.entered.all key among))

-- ## What stands at a key

abbrev stands_in : tree.BTreeMap ObjName Object → ObjectKey → ObjName → Bool
stands_in left key name = passes (left_stands key) name (tree.get object_cmp left name)

same_test : (left : tree.BTreeMap ObjName Object) (key : ObjectKey) (q : ObjName) → passes (left_stands key) q (finite_map.find object_cmp q left.entries) ≡ stands_in left key q
same_test left key q = ap (passes (left_stands key) q) (found_in left.entries q)

sorted_T : (puts : List Put) → IsTrue (are_in_order puts) → T (finite_map.is_sorted object_cmp puts)
sorted_T puts ordered = rises (finite_map.is_sorted object_cmp puts) (sym (order_same puts) ∙ ordered)

-- the candidates that stand there are all that do
pub stand_there : (tables : TablesAt) (left : tree.BTreeMap ObjName Object) (key : ObjectKey) (names : List ObjName) → IsTrue (are_in_order left.entries) → IsIndexed tables left → IsStrictlySortedBy object_cmp names
    → ((q : ObjName) → has tables key q ≡ true → list_any (is_at (object_cmp q)) names ≡ true) → filter (stands_in left key) names ≡ standing key left.entries
stand_there tables left key names ordered indexed rising candidates =
    ap (λ (test : ObjName → Bool). filter test names) (λ i q. sym (same_test left key q) i)
    ∙ sym (found_names (left_stands key) left.entries names (sorted_T left.entries ordered) rising (λ q is. candidates q (indexed.all key q (sym (same_test left key q) ∙ is))))

pub candidates_in : (tables : TablesAt) (key : ObjectKey) (names : sorted.BTreeSet ObjName) → Some names ≡ tree.get key_cmp tables.tables key → (q : ObjName) → has tables key q ≡ true → list_any (is_at (object_cmp q)) names.keys ≡ true
candidates_in tables key names found q is = ap (has_name q) found ∙ is

pub no_candidates : (tables : TablesAt) (key : ObjectKey) → None ≡ tree.get key_cmp tables.tables key → (q : ObjName) → has tables key q ≡ true → list_any (is_at (object_cmp q)) [] ≡ true
no_candidates tables key none q is = ap (has_name q) none ∙ is

-- they rise
pub standing_rise : (key : ObjectKey) (puts : List Put) → IsTrue (are_in_order puts) → IsStrictlySortedBy object_cmp (standing key puts)
standing_rise key puts ordered = names_rise (left_stands key) puts (sorted_T puts ordered)
