-- Claims whose keys are added, one after another.
use Rattle.std.specs.Prelude.{◌≡◌, ℕ, ◌+◌, ◌<◌, List, [], ◌∷◌, ◌++◌, length, take, refl}
use Rattle.std.specs.List.{flat_map}
use Rattle.std.proofs.Common.{sym, ◌∙◌, ap, get_or, subst}
use Rattle.std.proofs.lemmas.List.{take_more}
use Rattle.std.proofs.lemmas.List.Concat.{flat_map-append}
use Rattle.dd_names.specs.declared.object_name.ObjName.{ObjName}
use Rattle.dd_names.specs.declared.object_name.ObjectKey.{ObjectKey}
use Rattle.dd_catalog.specs.Catalog.{object_cmp}
use Rattle.dd_index.specs.Keys.{key_cmp}
use Rattle.rules_locks.specs.Claims.{Claim}
use Rattle.rules_footprint.specs.Coded.{claim_of, claims_of}
use Rattle.rules_footprint.specs.declared.claims.Claim as code
use Rattle.rules_evictions.specs.declared.evicting.Evictions.{Evictions}
use Rattle.rules_evictions.specs.Evicted.{Adds, changed_keys, changed_objects, with_each}
use Rattle.rules_evictions.proofs.Sets.{each_append}

both_added : (old mid new : Evictions) (one more : List Claim) → Adds old mid one → Adds mid new more → Adds old new (one ++ more)
both_added old mid new one more first then = record {
  keys =
      then.keys ∙ ap (λ (l : List ObjectKey). with_each key_cmp l (flat_map changed_keys more)) first.keys
      ∙ sym (each_append key_cmp old.keys.keys (flat_map changed_keys one) (flat_map changed_keys more)) ∙ ap (with_each key_cmp old.keys.keys) (sym (flat_map-append changed_keys one more));
  objects =
      then.objects ∙ ap (λ (l : List ObjName). with_each object_cmp l (flat_map changed_objects more)) first.objects
      ∙ sym (each_append object_cmp old.objects.keys (flat_map changed_objects one) (flat_map changed_objects more)) ∙ ap (with_each object_cmp old.objects.keys) (sym (flat_map-append changed_objects one more));
}

claims_last : (before : List code.Claim) (claim : code.Claim) → claims_of (before ++ claim ∷ []) ≡ claims_of before ++ claim_of claim ∷ []
claims_last [] claim = refl
claims_last (c ∷ before) claim = ap (λ l. claim_of c ∷ l) (claims_last before claim)

pub one_added : (old mid new : Evictions) (claims : List code.Claim) (k : ℕ) (claim : code.Claim) → k < length claims → claim ≡ get_or claims k claim → Adds old mid (claims_of (take k claims)) → Adds mid new (claim_of claim ∷ []) → Adds old new (claims_of (take (k + 1) claims))
one_added old mid new claims k claim lt is so_far one =
    subst (Adds old new) (sym (ap claims_of (take_more claims k claim lt ∙ ap (λ c. take k claims ++ c ∷ []) (sym is)) ∙ claims_last (take k claims) claim))
    (both_added old mid new (claims_of (take k claims)) (claim_of claim ∷ []) so_far one)
