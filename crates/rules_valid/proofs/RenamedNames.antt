-- Names of objects that are the same, and names put in order.
use Rattle.std.specs.Prelude.{◌≡◌, ◌⊎◌, Bool, true, false, List, [], ◌∷◌, refl}
use Rattle.std.specs.Ordering.{eq_by_cmp, is_eq, is_le}
use Rattle.std.specs.Str.{bytes_eq}
use Rattle.std.proofs.Common.{sym, ◌∙◌, ap, subst, inl, inr}
use Rattle.std.proofs.lemmas.Bool.{true≢false, and_from, false_from_ne_true, cond_both}
use Rattle.std.proofs.lemmas.Cmp.{tied_itself}
use Rattle.dd_names.specs.declared.object_name.ObjName.{ObjName}
use Rattle.dd_catalog.specs.Catalog.{object_cmp, is_same_object}
use Rattle.dd_catalog.proofs.ObjectNames.{object_total, object_alone, equal, same_object}
use Rattle.rules_create.proofs.Names.{bytes_same}
use Rattle.rules_rename.specs.Overlays.{put_name, put_names}
use Rattle.rules_valid.proofs.RenamedLists.{IsIn}

pub is_same : (a b : ObjName) → a ≡ b → is_same_object a b ≡ true
is_same a b e = and_from (bytes_eq a.schema b.schema) (bytes_eq a.name b.name) (bytes_same a.schema b.schema (ap (λ (o : ObjName). o.schema) e)) (bytes_same a.name b.name (ap (λ (o : ObjName). o.name) e))

pub same_or_not : (a b : ObjName) → (a ≡ b) ⊎ (a ≡ b → ⊥)
same_or_not a b = on (is_same_object a b) refl
  where
    on : (t : Bool) → is_same_object a b ≡ t → (a ≡ b) ⊎ (a ≡ b → ⊥)
    on true is = inl (same_object a b is)
    on false is = inr (λ e. true≢false (sym (is_same a b e) ∙ is))

pub not_same : (a b : ObjName) → (a ≡ b → ⊥) → is_same_object a b ≡ false
not_same a b apart = false_from_ne_true (is_same_object a b) (λ is. apart (same_object a b is))

pub ties : (a b : ObjName) → a ≡ b → eq_by_cmp object_cmp a b ≡ true
ties a b e = subst (λ (o : ObjName). eq_by_cmp object_cmp a o ≡ true) e (ap is_eq (tied_itself object_total a))

pub tied_is : (a b : ObjName) → eq_by_cmp object_cmp a b ≡ true → a ≡ b
tied_is a b is = object_alone a b (equal (object_cmp a b) is)

pub not_tied : (a b : ObjName) → (a ≡ b → ⊥) → eq_by_cmp object_cmp a b ≡ false
not_tied a b apart = false_from_ne_true (eq_by_cmp object_cmp a b) (λ is. apart (tied_is a b is))

-- ## Names put in order

pub in_put : (x object : ObjName) (objects : List ObjName) → IsIn x (object ∷ objects) → IsIn x (put_name object objects)
in_put x object [] is = is
in_put x object (next ∷ objects) is = cond_both (is_le (object_cmp next object)) (next ∷ put_name object objects) (object ∷ next ∷ objects) (λ zs. IsIn x zs)
    (λ _. elim is [
      | inl here ↦ inr (in_put x object objects (inl here))
      | inr others ↦ elim others [ inl first ↦ inl first | inr later ↦ inr (in_put x object objects (inr later)) ]
    ])
    (λ _. is)

pub put_in : (x object : ObjName) (objects : List ObjName) → IsIn x (put_name object objects) → IsIn x (object ∷ objects)
put_in x object [] is = is
put_in x object (next ∷ objects) is = cond_both (is_le (object_cmp next object)) (next ∷ put_name object objects) (object ∷ next ∷ objects) (λ zs. IsIn x zs → IsIn x (object ∷ next ∷ objects))
    (λ _ held. elim held [
      | inl first ↦ inr (inl first)
      | inr later ↦ elim (put_in x object objects later) [ inl here ↦ inl here | inr there ↦ inr (inr there) ]
    ])
    (λ _ held. held) is

pub in_puts_first : (x : ObjName) (first second : List ObjName) → IsIn x first → IsIn x (put_names first second)
in_puts_first x [] second is = absurd is
in_puts_first x (object ∷ more) second (inl here) = in_put x object (put_names more second) (inl here)
in_puts_first x (object ∷ more) second (inr later) = in_put x object (put_names more second) (inr (in_puts_first x more second later))

pub in_puts_second : (x : ObjName) (first second : List ObjName) → IsIn x second → IsIn x (put_names first second)
in_puts_second x [] second is = is
in_puts_second x (object ∷ more) second is = in_put x object (put_names more second) (inr (in_puts_second x more second is))

pub puts_in : (x : ObjName) (first second : List ObjName) → IsIn x (put_names first second) → IsIn x first ⊎ IsIn x second
puts_in x [] second is = inr is
puts_in x (object ∷ more) second is = elim (put_in x object (put_names more second) is) [
  | inl here ↦ inl (inl here)
  | inr later ↦ elim (puts_in x more second later) [ inl there ↦ inl (inr there) | inr there ↦ inr there ]
]
