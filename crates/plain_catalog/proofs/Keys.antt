-- What is known, key by key.
use Rattle.std.proofs.Common.{◌≡◌, ◌≢◌, false, cond, Option, Some, None, refl, sym, ◌∙◌, ap}
use Rattle.std.specs.declared.cmp.Ordering.{Ordering}
use Rattle.std.specs.declared.cmp.Ordering.TheVariants.{Less, Equal, Greater}
use Rattle.std.specs.Ordering.{is_eq}
use Rattle.std.specs.Option.{option_map}
use Rattle.std.specs.BTreeMap.{is_at}
use Rattle.std.specs.FinMap as finite_map
use Rattle.dd_names.specs.Names.{name_cmp}
use Rattle.dd_names.specs.declared.object_name.ObjectKey.{ObjectKey}
use Rattle.dd_names.specs.declared.object_name.ObjectKey.TheVariants.{Schemas, Schema, Objects, Object, Children, Constraint}
use Rattle.dd_catalog.specs.declared.object.Object.{Object as Found}
use Rattle.dd_catalog.specs.Sights.{Sight, sight}
use Rattle.dd_catalog.specs.Follow.{sights}
use Rattle.dd_catalog.specs.WalkLaws.{Extends, IsOf}
use Rattle.plain_catalog.specs.Known.{key_cmp}
use Rattle.plain_catalog.proofs.ByName.{name_alone, object_alone, then_parts}

pub key_alone : finite_map.IsAntisymmetric key_cmp
key_alone Schemas Schemas e = refl
key_alone (Schema a) (Schema b) e = ap Schema (name_alone a b e)
key_alone (Objects a) (Objects b) e = ap Objects (name_alone a b e)
key_alone (Object a) (Object b) e = ap Object (object_alone a b e)
key_alone (Children a) (Children b) e = ap Children (object_alone a b e)
key_alone (Constraint a f) (Constraint b g) e =
    let parts : (name_cmp a b ≡ Equal) × (name_cmp f g ≡ Equal) = then_parts (name_cmp a b) (name_cmp f g) e in
    let schema : a ≡ b = name_alone a b parts.0 in
    let folded : f ≡ g = name_alone f g parts.1 in
    λ i. Constraint (schema i) (folded i)
key_alone a b e = absurd cc

apart_by : (key other : ObjectKey) (r : Ordering) → key_cmp key other ≡ r → other ≢ key → is_eq r ≡ false
apart_by key other Less is apart = refl
apart_by key other Equal is apart = absurd (apart (sym (key_alone key other is)))
apart_by key other Greater is apart = refl

pub apart : (key other : ObjectKey) → other ≢ key → is_at (key_cmp key) other ≡ false
apart key other other_key = apart_by key other (key_cmp key other) refl other_key

-- the new knows what the old knew, but for the object at this key
pub record Adds (old new : ObjectKey → Option Found) (key : ObjectKey) (object : Found) : Type 0 where
  pub at : (q : ObjectKey) → new q ≡ cond (is_at (key_cmp key) q) (Some object) (old q)

-- what is seen at a key then
seen_by : (old new : ObjectKey → Option Found) (key : ObjectKey) (object : Found) (q : ObjectKey) (r : Ordering) → Adds old new key object → key_cmp key q ≡ r
    → new q ≡ cond (is_eq r) (Some object) (old q)
seen_by old new key object q r adds is = adds.at q ∙ ap (λ o. cond (is_eq o) (Some object) (old q)) is

not_seen : (seen : Sight) → None ≢ Some seen
not_seen seen e = cc

pub more_known : (old new : ObjectKey → Option Found) (key : ObjectKey) (object : Found) → Adds old new key object → old key ≡ None → Extends (sights old) (sights new)
more_known old new key object adds none =
    record { keeps = λ q seen is. on q seen (key_cmp key q) refl is }
  where
    on : (q : ObjectKey) (seen : Sight) (r : Ordering) → key_cmp key q ≡ r → sights old q ≡ Some seen → sights new q ≡ Some seen
    on q seen Less order is = ap (option_map sight) (seen_by old new key object q Less adds order) ∙ is
    on q seen Equal order is = absurd (not_seen seen (sym (ap (option_map sight) (ap old (sym (key_alone key q order)) ∙ none)) ∙ is))
    on q seen Greater order is = ap (option_map sight) (seen_by old new key object q Greater adds order) ∙ is

pub still_stands : (old new : ObjectKey → Option Found) (key : ObjectKey) (object : Found) (full : ObjectKey → Sight) → Adds old new key object → sight object ≡ full key → IsOf full (sights old) → IsOf full (sights new)
still_stands old new key object full adds here stands =
    record { stands = λ q seen is. on q seen (key_cmp key q) refl is }
  where
    on : (q : ObjectKey) (seen : Sight) (r : Ordering) → key_cmp key q ≡ r → sights new q ≡ Some seen → full q ≡ seen
    on q seen Less order is = stands.stands q seen (ap (option_map sight) (sym (seen_by old new key object q Less adds order)) ∙ is)
    on q seen Equal order is =
        let shown : Some (sight object) ≡ Some seen = ap (option_map sight) (sym (seen_by old new key object q Equal adds order)) ∙ is in
        let same : sight object ≡ seen = cc in
        ap full (sym (key_alone key q order)) ∙ sym here ∙ same
    on q seen Greater order is = stands.stands q seen (ap (option_map sight) (sym (seen_by old new key object q Greater adds order)) ∙ is)
