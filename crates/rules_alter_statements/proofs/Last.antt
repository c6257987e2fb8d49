-- The last of several names.
use Rattle.std.specs.Prelude.{◌≡◌, List, [], ◌∷◌, ◌++◌, MatchOption, Option, Some, None, refl}
use Rattle.std.specs.Option.{option_to_list}
use Rattle.std.proofs.Common.{◌∙◌, ap, sym}
use Rattle.dd_names.specs.declared.object_name.ObjName.{ObjName}
use Rattle.rules_alter.specs.Statements.{last_of}

last_pushed : (names : List ObjName) (name : ObjName) → last_of (names ++ name ∷ []) ≡ Some name
last_pushed [] name = refl
last_pushed (one ∷ []) name = refl
last_pushed (one ∷ next ∷ names) name = last_pushed (next ∷ names) name

pub last_is : (names rest : List ObjName) (last : Option ObjName) → names ≡ rest ++ option_to_list last → (last ≡ None → rest ≡ []) → last ≡ last_of names
last_is names rest None is none = sym (ap last_of (is ∙ ap (λ (r : List ObjName). r ++ []) (none refl)))
last_is names rest (Some name) is none = sym (ap last_of is ∙ last_pushed rest name)

-- what holds where there is none
pub where_none : {P : Type 0} (Q : ObjName → Type 0) (last : Option ObjName) → MatchOption last P Q → last ≡ None → P
where_none Q None holds is = holds
where_none Q (Some name) holds is = absurd cc
