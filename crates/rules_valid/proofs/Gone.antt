-- A catalog without objects none of which is the parent of one that stays.
use Rattle.std.specs.Prelude.{◌≡◌, ℕ, Bool, true, false, cond, ◌||◌, List, [], ◌∷◌, Option, Some, None, refl}
use Rattle.std.specs.List.{list_any, list_all}
use Rattle.std.specs.FinMap as finite_map
use Rattle.std.proofs.Common.{sym, ◌∙◌, ap}
use Rattle.std.proofs.lemmas.Bool.{true≢false, and_parts, and_from, or_left, or_right, false_from_ne_true}
use Rattle.dd_names.specs.declared.object_name.ObjName.{ObjName}
use Rattle.dd_definitions.specs.declared.foreign_keys.ForeignKeyDef.{ForeignKeyDef}
use Rattle.dd_definitions.specs.declared.parts.TableParts.{TableParts}
use Rattle.dd_catalog.specs.Catalog.{Catalog, Placed, Table, View, object_cmp, is_same_object, refers_to}
use Rattle.dd_catalog.specs.Valid.{Has, IsValid, is_parent_fit}
use Rattle.dd_catalog.proofs.ObjectNames.{object_itself, get_without}
use Rattle.rules_schema.specs.Drops.{is_among}

-- ## Parents that stay as they are

fit_is_table : (parts : TableParts) (key : ForeignKeyDef) (found : Option Placed) → is_parent_fit parts key found ≡ true → (space : ℕ) × (parent : TableParts) × (found ≡ Some (Table space parent))
fit_is_table parts key None is = cc
fit_is_table parts key (Some (Table space parent)) is = (space, parent, refl)
fit_is_table parts key (Some (View parent)) is = cc

abbrev fits_in : Catalog → TableParts → ForeignKeyDef → Bool
fits_in cat parts key = is_parent_fit parts key (finite_map.get cat.objects key.parent)

-- where the parents are what they were, they fit as they did
pub parents_stay : (cat next : Catalog) (parts : TableParts) (keys : List ForeignKeyDef)
    → ((parent : ObjName) (space : ℕ) (others : TableParts) → list_any (λ (key : ForeignKeyDef). is_same_object key.parent parent) keys ≡ true → Has cat parent (Table space others) → finite_map.get next.objects parent ≡ finite_map.get cat.objects parent)
    → list_all (λ (key : ForeignKeyDef). is_parent_fit parts key (finite_map.get cat.objects key.parent)) keys ≡ true
    → list_all (λ (key : ForeignKeyDef). is_parent_fit parts key (finite_map.get next.objects key.parent)) keys ≡ true
parents_stay cat next parts [] stay fit = refl
parents_stay cat next parts (key ∷ keys) stay fit =
    let (here, rest) = and_parts (fits_in cat parts key) (list_all (fits_in cat parts) keys) fit in
    let (space, others, there) = fit_is_table parts key (finite_map.get cat.objects key.parent) here in
    let same : finite_map.get next.objects key.parent ≡ finite_map.get cat.objects key.parent =
    stay key.parent space others (or_left (is_same_object key.parent key.parent) (list_any (λ (k : ForeignKeyDef). is_same_object k.parent key.parent) keys) (object_itself key.parent)) (record { is = there }) in
    and_from (fits_in next parts key) (list_all (fits_in next parts) keys) (ap (is_parent_fit parts key) same ∙ here)
    (parents_stay cat next parts keys (λ parent s o any has. stay parent s o (or_right (is_same_object key.parent parent) (list_any (λ (k : ForeignKeyDef). is_same_object k.parent parent) keys) any) has) rest)

-- ## Objects that go

-- The next catalog has the objects that don't go, with their schemas, and no schema more. A table goes with the objects that
-- refer to it.
pub record IsWithout (cat : Catalog) (goes : ObjName → Bool) (next : Catalog) : Type 0 where
  pub objects : (q : ObjName) → finite_map.get next.objects q ≡ cond (goes q) None (finite_map.get cat.objects q)
  pub closed : (parent : ObjName) (space : ℕ) (parts : TableParts) (child : ObjName) (placed : Placed) → goes parent ≡ true → Has cat parent (Table space parts) → Has cat child placed → refers_to parent placed ≡ true → goes child ≡ true
  pub schemas : (name : List ℕ) → finite_map.contains_key next.schemas name ≡ true → finite_map.contains_key cat.schemas name ≡ true
  pub kept : (name : ObjName) (placed : Placed) → Has cat name placed → goes name ≡ false → finite_map.contains_key next.schemas name.schema ≡ true

was_there : (cat : Catalog) (goes : ObjName → Bool) (next : Catalog) → IsWithout cat goes next → (q : ObjName) (placed : Placed) → Has next q placed → (goes q ≡ false) × Has cat q placed
was_there cat goes next without q placed has = on (goes q) refl (sym (without.objects q) ∙ has.is)
  where
    on : (b : Bool) → goes q ≡ b → cond b None (finite_map.get cat.objects q) ≡ Some placed → (goes q ≡ false) × Has cat q placed
    on true is found = cc
    on false is found = (is, record { is = found })

pub without_valid : (cat : Catalog) (goes : ObjName → Bool) (next : Catalog) → IsValid cat → IsWithout cat goes next → IsValid next
without_valid cat goes next valid without = record {
  own_schemas = λ name there. valid.own_schemas name (without.schemas name there);
  schemas_named = λ name there. valid.schemas_named name (without.schemas name there);
  named = λ name placed has. valid.named name placed (was name placed has).1;
  schemas_there = λ name placed has. let (stays, before) = was name placed has in without.kept name placed before stays;
  names_carried = λ name placed has. valid.names_carried name placed (was name placed has).1;
  formed = λ name placed has. valid.formed name placed (was name placed has).1;
  spaces_in_range = λ name space parts has. valid.spaces_in_range name space parts (was name (Table space parts) has).1;
  spaces_distinct = λ a b space parts others has other. valid.spaces_distinct a b space parts others (was a (Table space parts) has).1 (was b (Table space others) other).1;
  constraints_distinct = λ a b placed other folded has there same one two. valid.constraints_distinct a b placed other folded (was a placed has).1 (was b other there).1 same one two;
  parents_fit = λ name space parts has. let (stays, before) = was name (Table space parts) has in
      parents_stay cat next parts parts.foreign_keys (parent_is name space parts stays before) (valid.parents_fit name space parts before);
}
  where
    was : (q : ObjName) (placed : Placed) → Has next q placed → (goes q ≡ false) × Has cat q placed
    was = was_there cat goes next without

    parent_is : (name : ObjName) (space : ℕ) (parts : TableParts) → goes name ≡ false → Has cat name (Table space parts) → (parent : ObjName) (s : ℕ) (others : TableParts) → list_any (λ (key : ForeignKeyDef). is_same_object key.parent parent) parts.foreign_keys ≡ true
        → Has cat parent (Table s others) → finite_map.get next.objects parent ≡ finite_map.get cat.objects parent
    parent_is name space parts stays before parent s others refers there =
        let kept : goes parent ≡ false = false_from_ne_true (goes parent) (λ going. true≢false (sym (without.closed parent s others name (Table space parts) going there before refers) ∙ stays)) in
        without.objects parent ∙ ap (λ b. cond b None (finite_map.get cat.objects parent)) kept

-- ## A list of objects that are removed

abbrev pub removed : List ObjName → finite_map.FinMap object_cmp Placed → finite_map.FinMap object_cmp Placed
removed [] objects = objects
removed (name ∷ names) objects = removed names (finite_map.remove objects name)

either : (a b : Bool) (found : Option Placed) → cond b None (cond a None found) ≡ cond (a || b) None found
either true true found = refl
either true false found = refl
either false b found = refl

-- what stands behind the removals stood before, and isn't in the list
pub get_removed : (names : List ObjName) (objects : finite_map.FinMap object_cmp Placed) (q : ObjName) → finite_map.get (removed names objects) q ≡ cond (is_among names q) None (finite_map.get objects q)
get_removed [] objects q = refl
get_removed (name ∷ names) objects q =
    get_removed names (finite_map.remove objects name) q ∙ ap (λ found. cond (is_among names q) None found) (get_without objects name q) ∙ either (is_same_object q name) (is_among names q) (finite_map.get objects q)
