-- Names as a list, and the same as a set.
use Rattle.std.specs.Prelude.{◌≡◌, Bool, true, false, cond, ◌||◌, List, [], ◌∷◌, ◌++◌, if◌then◌else◌, refl}
use Rattle.std.specs.BTreeMap.{is_at}
use Rattle.std.specs.BTreeSet.{BTreeSet, contains}
use Rattle.std.specs.List.{list_any}
use Rattle.std.specs.Ordering.{eq_by_cmp}
use Rattle.std.specs.Cmp.{eq_by_cmp_equiv}
use Rattle.std.proofs.Common.{sym, ◌∙◌, ap}
use Rattle.std.proofs.lemmas.List.Folds.{list_any-append}
use Rattle.dd_names.specs.declared.object_name.ObjName.{ObjName}
use Rattle.dd_catalog.specs.Catalog.{object_cmp, is_same_object}
use Rattle.dd_catalog.proofs.ObjectNames.{object_total, tied_is_same}
use Rattle.rules_schema.specs.Drops.{is_among}
use Rattle.rules_rename.specs.Pairs.{AreSame}
use Rattle.rules_rename.specs.Renames.{with_child}
use Rattle.rules_rename.specs.declared.child_names.ChildNames.{ChildNames}

pub none_same : (names : ChildNames) → names.names ≡ [] → names.known.keys ≡ [] → AreSame names
none_same names none empty = record { all = λ q. ap (λ (ks : List ObjName). list_any (is_at (object_cmp q)) ks) empty ∙ sym (ap (λ (ns : List ObjName). is_among ns q) none) }

-- one that is there
pub with_known : (names : ChildNames) (name : ObjName) → AreSame names → contains object_cmp names.known name ≡ true → names.names ≡ with_child names.names name
with_known names name same has = sym (ap (λ b. if b then names.names else names.names ++ name ∷ []) (sym (same.all name) ∙ has))

-- one that isn't there
pub with_other : (names : ChildNames) (name : ObjName) → AreSame names → contains object_cmp names.known name ≡ false → names.names ++ name ∷ [] ≡ with_child names.names name
with_other names name same has = sym (ap (λ b. if b then names.names else names.names ++ name ∷ []) (sym (same.all name) ∙ has))

either : (a b : Bool) → (a || (b || false)) ≡ cond b true a
either true true = refl
either true false = refl
either false true = refl
either false false = refl

pub more_same : (old new : ChildNames) (name : ObjName) → AreSame old → new.names ≡ old.names ++ name ∷ []
    → ((q : ObjName) → contains object_cmp new.known q ≡ cond (is_at (object_cmp name) q) true (contains object_cmp old.known q)) → AreSame new
more_same old new name same names known = record {
  all = λ q. known q ∙ ap (λ b. cond b true (contains object_cmp old.known q)) (tied q) ∙ ap (λ b. cond (is_same_object q name) true b) (same.all q)
      ∙ sym (ap (λ (ns : List ObjName). is_among ns q) names ∙ list_any-append (is_same_object q) old.names (name ∷ []) ∙ either (is_among old.names q) (is_same_object q name));
}
  where
    tied : (q : ObjName) → is_at (object_cmp name) q ≡ is_same_object q name
    tied q = (eq_by_cmp_equiv object_total).symm name q ∙ tied_is_same q name
