-- Keys that tie are one.
use Rattle.std.proofs.Common.{◌≡◌, ◌≢◌, false, refl, sym, ap}
use Rattle.std.specs.declared.cmp.Ordering.{Ordering}
use Rattle.std.specs.declared.cmp.Ordering.TheVariants.{Less, Equal, Greater}
use Rattle.std.specs.Ordering.{ordering_then, is_eq}
use Rattle.std.specs.BTreeMap.{is_at}
use Rattle.std.specs.FinMap as finite_map
use Rattle.dd_names.specs.Names.{name_cmp}
use Rattle.dd_names.specs.declared.object_name.ObjectKey.TheVariants.{Schemas, Schema, Objects, Object, Children, Constraint}
use Rattle.dd_catalog.proofs.ObjectNames.{name_alone, object_alone}
use Rattle.dd_index.specs.Keys.{key_cmp}

then_parts : (r s : Ordering) → ordering_then r s ≡ Equal → (r ≡ Equal) × (s ≡ Equal)
then_parts Less s e = absurd cc
then_parts Equal s e = (refl, e)
then_parts Greater s e = absurd cc

pub key_alone : finite_map.IsAntisymmetric key_cmp
key_alone Schemas Schemas e = refl
key_alone (Schema a) (Schema b) e = ap Schema (name_alone a b e)
key_alone (Objects a) (Objects b) e = ap Objects (name_alone a b e)
key_alone (Object a) (Object b) e = ap Object (object_alone a b e)
key_alone (Children a) (Children b) e = ap Children (object_alone a b e)
key_alone (Constraint a f) (Constraint b g) e =
    let parts : (name_cmp a b ≡ Equal) × (name_cmp f g ≡ Equal) = then_parts (name_cmp a b) (name_cmp f g) e in
    let schema : a ≡ b = name_alone a b parts.0 in
    let folded : f ≡ g = name_alone f g parts.1 in
    λ i. Constraint (schema i) (folded i)
key_alone a b e = absurd cc

-- others don't tie
pub apart : {K : Type 0} (R : K → K → Ordering) → finite_map.IsAntisymmetric R → (key other : K) → other ≢ key → is_at (R key) other ≡ false
apart {K} R alone key other other_key = on (R key other) refl
  where
    on : (r : Ordering) → R key other ≡ r → is_at (R key) other ≡ false
    on Less is = ap (λ (o : Ordering). is_eq o) is
    on Equal is = absurd (other_key (sym (alone key other is)))
    on Greater is = ap (λ (o : Ordering). is_eq o) is
