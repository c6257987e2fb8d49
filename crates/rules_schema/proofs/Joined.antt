-- One more name behind those that are joined.
use Rattle.std.proofs.Common.{◌≡◌, List, [], ◌∷◌, ◌++◌, refl, ap, ◌∙◌, append_assoc}
use Rattle.dd_names.specs.declared.object_name.ObjName.{ObjName}
use Rattle.rules_schema.specs.Drops.{full_name, joined}

pub joined_more : (first : ObjName) (objects : List ObjName) (object : ObjName) → joined (first ∷ (objects ++ object ∷ [])) ≡ joined (first ∷ objects) ++ 44 ∷ full_name object
joined_more first [] object = refl
joined_more first (next ∷ objects) object = ap (λ names. full_name first ++ 44 ∷ names) (joined_more next objects object) ∙ simp append_assoc
