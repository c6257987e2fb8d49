-- Behind changes that leave formed objects, formed objects are seen.
use Rattle.std.specs.Prelude.{◌≡◌, ℕ, Bool, true, false, List, [], ◌∷◌, Option, Some, None, if◌then◌else◌, refl}
use Rattle.std.specs.FinMap as finite_map
use Rattle.std.specs.List.{AllByRecursion}
use Rattle.std.specs.Option.{option_map}
use Rattle.std.specs.Cmp.{IsTotalOrder}
use Rattle.std.specs.Ordering.{eq_by_cmp, is_eq}
use Rattle.std.specs.declared.cmp.Ordering.{Ordering}
use Rattle.std.specs.declared.cmp.Ordering.TheVariants.{Less, Equal, Greater}
use Rattle.std.proofs.Common.{sym, ◌∙◌, ap, subst}
use Rattle.std.proofs.lemmas.Cmp.{nat_list_cmp_total, on_total, then_total}
use Rattle.std.proofs.lemmas.List.{nil_from_length}
use Rattle.std.proofs.lemmas.Map.Lookups.{exact_bytes, exact_pairs}
use Rattle.dd_names.specs.Names.{name_cmp}
use Rattle.dd_names.specs.declared.object_name.ObjName.{ObjName}
use Rattle.dd_names.specs.declared.object_name.ObjectKey.TheVariants as keys
use Rattle.dd_definitions.specs.declared.parts.TableParts.{TableParts}
use Rattle.dd_definitions.specs.declared.view_parts.ViewParts.{ViewParts}
use Rattle.dd_catalog.specs.Catalog.{object_cmp}
use Rattle.dd_catalog.specs.Sights.{Sight, TableThere, ViewThere}
use Rattle.dd_catalog.specs.WalkLaws.{Look}
use Rattle.rules_outcome.specs.Choices.{After, Gone, NewSchema, FreshTable, KeptTable, NewView, KeptView}
use Rattle.rules_create.specs.Leaves.{IsTableAt, IsViewAt, SeesFormed, IsFormedAt}
use Rattle.rules_rename.specs.Overlays.{Overlay, after_seen, object_behind, seen_behind, put_change, with_changes}
use Rattle.rules_rename.specs.Behind.{look_behind}

-- ## Names of objects in their order

pub object_total : IsTotalOrder object_cmp
object_total = then_total (on_total (λ (o : ObjName). o.schema) nat_list_cmp_total) (on_total (λ (o : ObjName). o.name) nat_list_cmp_total)

pub same_object : (a b : ObjName) → object_cmp a b ≡ Equal → a ≡ b
same_object a b tied = ap (λ (p : List ℕ × List ℕ). record { schema = p.0; name = p.1 }) (exact_pairs name_cmp name_cmp exact_bytes exact_bytes (a.schema, a.name) (b.schema, b.name) tied)

pub equal : (r : Ordering) → is_eq r ≡ true → r ≡ Equal
equal Less is = cc
equal Equal is = refl
equal Greater is = cc

-- ## Changes that leave formed objects

abbrev AreFormed : List (ObjName × After) → Type 0
AreFormed changes = AllByRecursion (λ (c : ObjName × After). IsFormedAt c.0 c.1) changes

pub record IsFormedOver (overlay : Overlay) : Type 0 where
  pub all : AllByRecursion (λ (c : ObjName × After). IsFormedAt c.0 c.1) (finite_map.entries overlay)

abbrev no_changes : Overlay
no_changes = finite_map.empty

pub none_over : IsFormedOver finite_map.empty
none_over =
    let none : finite_map.entries no_changes ≡ [] = nil_from_length (finite_map.entries no_changes) (sym (finite_map.len-entries no_changes) ∙ finite_map.len-empty object_cmp After) in
    record { all = subst AreFormed (sym none) tt }

put_formed : (object : ObjName) (after : After) (entries : List (ObjName × After)) → IsFormedAt object after → AreFormed entries → AreFormed (finite_map.put object_cmp object after entries)
put_formed object after [] here all = (here, tt)
put_formed object after (e ∷ es) here all = on (object_cmp object e.0) refl (put_formed object after es here all.1)
  where
    on : (r : Ordering) → object_cmp object e.0 ≡ r → AreFormed (finite_map.put object_cmp object after es) → AreFormed (finite_map.Entries.by_order r ((object, after) ∷ e ∷ es) ((e.0, after) ∷ es) (e ∷ finite_map.put object_cmp object after es))
    on Less tied rest = (here, all)
    on Equal tied rest = (subst (λ o. IsFormedAt o after) (same_object object e.0 tied) here, all.1)
    on Greater tied rest = (all.0, rest)

pub more_formed : (overlay : Overlay) (changes : List (ObjName × After)) → IsFormedOver overlay → AllByRecursion (λ (c : ObjName × After). IsFormedAt c.0 c.1) changes → IsFormedOver (with_changes overlay changes)
more_formed overlay [] formed all = formed
more_formed overlay (c ∷ changes) formed all =
    more_formed (put_change overlay c) changes (record { all = subst AreFormed (sym (finite_map.entries-insert object_total overlay c.0 c.1)) (put_formed c.0 c.1 (finite_map.entries overlay) all.0 formed.all) }) all.1

found_formed : (name : ObjName) (after : After) (entries : List (ObjName × After)) → finite_map.find object_cmp name entries ≡ Some after → AreFormed entries → IsFormedAt name after
found_formed name after [] found all = cc
found_formed name after (e ∷ es) found all = on (eq_by_cmp object_cmp name e.0) refl found (λ later. found_formed name after es later all.1)
  where
    on : (b : Bool) → eq_by_cmp object_cmp name e.0 ≡ b → (if b then Some e.1 else finite_map.find object_cmp name es) ≡ Some after → (finite_map.find object_cmp name es ≡ Some after → IsFormedAt name after) → IsFormedAt name after
    on true tied here rest = let same_after : e.1 ≡ after = cc in
        subst (λ o. IsFormedAt o after) (sym (same_object name e.0 (equal (object_cmp name e.0) tied))) (subst (IsFormedAt e.0) same_after all.0)
    on false apart later rest = rest later

got_formed : (overlay : Overlay) (name : ObjName) (after : After) → IsFormedOver overlay → finite_map.get overlay name ≡ Some after → IsFormedAt name after
got_formed overlay name after formed found = found_formed name after (finite_map.entries overlay) (sym (finite_map.get-entries overlay name) ∙ found) formed.all

-- ## What is seen behind them

table_after : (name : ObjName) (after : After) (space : ℕ) (parts : TableParts) → IsFormedAt name after → after_seen after ≡ TableThere space parts → IsTableAt name parts
table_after name Gone space parts formed is = cc
table_after name NewSchema space parts formed is = cc
table_after name (FreshTable p) space parts formed is = let same_parts : p ≡ parts = cc in subst (IsTableAt name) same_parts formed
table_after name (KeptTable n p) space parts formed is = let same_parts : p ≡ parts = cc in subst (IsTableAt name) same_parts formed
table_after name (NewView p) space parts formed is = cc
table_after name (KeptView p) space parts formed is = cc

view_after : (name : ObjName) (after : After) (parts : ViewParts) → IsFormedAt name after → after_seen after ≡ ViewThere parts → IsViewAt name parts
view_after name Gone parts formed is = cc
view_after name NewSchema parts formed is = cc
view_after name (FreshTable p) parts formed is = cc
view_after name (KeptTable n p) parts formed is = cc
view_after name (NewView p) parts formed is = let same_parts : p ≡ parts = cc in subst (IsViewAt name) same_parts formed
view_after name (KeptView p) parts formed is = let same_parts : p ≡ parts = cc in subst (IsViewAt name) same_parts formed

-- an object behind the changes: what the change leaves, or what is known
object_seen : (overlay : Overlay) (look : Look) (name : ObjName) (seen : Sight) (P : Type 0) → look_behind overlay look (keys.Object name) ≡ Some seen
    → ((after : After) → finite_map.get overlay name ≡ Some after → after_seen after ≡ seen → P) → (look (keys.Object name) ≡ Some seen → P) → P
unfolding seen_behind
object_seen overlay look name seen P is changed stays = on (look (keys.Object name)) refl (finite_map.get overlay name) refl is
  where
    on : (known : Option Sight) → look (keys.Object name) ≡ known → (after : Option After) → finite_map.get overlay name ≡ after → option_map (object_behind after) known ≡ Some seen → P
    on None known after got is = cc
    on (Some s) known None got is = stays (known ∙ is)
    on (Some s) known (Some after) got is = let same_seen : after_seen after ≡ seen = cc in changed after got same_seen

pub behind_sees_formed : (overlay : Overlay) (look : Look) → IsFormedOver overlay → SeesFormed look → SeesFormed (look_behind overlay look)
behind_sees_formed overlay look formed sees = record {
  tables = λ name space parts known. object_seen overlay look name (TableThere space parts) (IsTableAt name parts) known
      (λ after got seen. table_after name after space parts (got_formed overlay name after formed got) seen) (sees.tables name space parts);
  views = λ name parts known. object_seen overlay look name (ViewThere parts) (IsViewAt name parts) known
      (λ after got seen. view_after name after parts (got_formed overlay name after formed got) seen) (sees.views name parts);
}
