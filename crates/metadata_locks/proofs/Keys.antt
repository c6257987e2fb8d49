-- Keys and numbers that tie are one.
use Rattle.std.proofs.Common.{◌≡◌, refl, ap}
use Rattle.std.specs.declared.cmp.Ordering.{Ordering}
use Rattle.std.specs.declared.cmp.Ordering.TheVariants.{Less, Equal, Greater}
use Rattle.std.specs.Ordering.{ordering_then}
use Rattle.std.specs.FinMap as finite_map
use Rattle.dd_names.specs.Names.{name_cmp}
use Rattle.metadata_locks.specs.declared.request.LockKey.TheVariants.{All, Schema, Object, Constraint}
use Rattle.metadata_locks.specs.Held.{key_cmp}

name_alone : finite_map.IsAntisymmetric name_cmp
name_alone = finite_map.slice_cmp-IsAntisymmetric finite_map.nat_cmp-IsAntisymmetric

then_parts : (r s : Ordering) → ordering_then r s ≡ Equal → (r ≡ Equal) × (s ≡ Equal)
then_parts Less s e = absurd cc
then_parts Equal s e = (refl, e)
then_parts Greater s e = absurd cc

pub key_alone : finite_map.IsAntisymmetric key_cmp
key_alone All All e = refl
key_alone (Schema a) (Schema b) e = ap Schema (name_alone a b e)
key_alone (Object a) (Object b) e =
    let parts : (name_cmp a.schema b.schema ≡ Equal) × (name_cmp a.name b.name ≡ Equal) = then_parts (name_cmp a.schema b.schema) (name_cmp a.name b.name) e in
    let schema : a.schema ≡ b.schema = name_alone a.schema b.schema parts.0 in
    let name : a.name ≡ b.name = name_alone a.name b.name parts.1 in
    λ i. Object (record { schema = schema i; name = name i })
key_alone (Constraint a f) (Constraint b g) e =
    let parts : (name_cmp a b ≡ Equal) × (name_cmp f g ≡ Equal) = then_parts (name_cmp a b) (name_cmp f g) e in
    let schema : a ≡ b = name_alone a b parts.0 in
    let folded : f ≡ g = name_alone f g parts.1 in
    λ i. Constraint (schema i) (folded i)
key_alone a b e = absurd cc
