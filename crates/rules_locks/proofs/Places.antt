-- Keys of catalogs that are the same.
use Rattle.std.specs.Prelude.{◌≡◌, ℕ, true, List, refl}
use Rattle.std.specs.Str.{bytes_eq}
use Rattle.std.proofs.Common.{ap}
use Rattle.std.proofs.lemmas.Bool.{and_parts, and_from}
use Rattle.std.proofs.lemmas.Slice.Eq.{bytes_eq-Decides}
use Rattle.dd_names.specs.declared.object_name.ObjectKey.{ObjectKey}
use Rattle.dd_names.specs.declared.object_name.ObjectKey.TheVariants.{Schemas, Schema, Objects, Object, Children, Constraint}
use Rattle.dd_catalog.proofs.ObjectNames.{same_object, object_itself}
use Rattle.rules_locks.specs.Told.{is_same_place}

pub bytes_are : (a b : List ℕ) → bytes_eq a b ≡ true → a ≡ b
bytes_are a b is = (bytes_eq-Decides a b).0 is

pub bytes_itself : (a : List ℕ) → bytes_eq a a ≡ true
bytes_itself a = (bytes_eq-Decides a a).1 refl

pub place_itself : (key : ObjectKey) → is_same_place key key ≡ true
place_itself Schemas = refl
place_itself (Schema name) = bytes_itself name
place_itself (Objects schema) = bytes_itself schema
place_itself (Object object) = object_itself object
place_itself (Children parent) = object_itself parent
place_itself (Constraint schema folded) = and_from (bytes_eq schema schema) (bytes_eq folded folded) (bytes_itself schema) (bytes_itself folded)

pub same_place : (one other : ObjectKey) → is_same_place one other ≡ true → one ≡ other
same_place Schemas Schemas is = refl
same_place (Schema a) (Schema b) is = ap (λ (n : List ℕ). Schema n) (bytes_are a b is)
same_place (Objects a) (Objects b) is = ap (λ (n : List ℕ). Objects n) (bytes_are a b is)
same_place (Object a) (Object b) is = ap (λ o. Object o) (same_object a b is)
same_place (Children a) (Children b) is = ap (λ o. Children o) (same_object a b is)
same_place (Constraint a n) (Constraint b m) is =
    let (schemas, names) = and_parts (bytes_eq a b) (bytes_eq n m) is in
    let schema : a ≡ b = bytes_are a b schemas in
    let name : n ≡ m = bytes_are n m names in
    λ i. Constraint (schema i) (name i)
same_place _ _ is = cc
