-- Children that aren't changed.
use Rattle.std.specs.Prelude.{◌≡◌, ℕ, ◌+◌, ◌<◌, Bool, true, false, not, List, [], ◌∷◌, ◌++◌, length, drop, filter, if◌then◌else◌}
use Rattle.std.proofs.Common.{sym, ◌∙◌, ap, get_or, append_assoc}
use Rattle.dd_names.specs.declared.object_name.ObjName.{ObjName}
use Rattle.rules_rename.specs.Puts.{Put, is_changed}
use Rattle.rules_rename.proofs.Places.{from_item}

pub kept_step : (puts : List Put) (before : List ObjName) (at : ℕ) (child : ObjName) (found total : List ObjName) → at < length before → child ≡ get_or before at child → found ++ filter (λ c. not (is_changed puts c)) (drop at before) ≡ total
    → (found ++ (if is_changed puts child then [] else child ∷ [])) ++ filter (λ c. not (is_changed puts c)) (drop (at + 1) before) ≡ total
kept_step puts before at child found total lt is so_far =
    on (is_changed puts child) (sym (ap (λ l. found ++ filter (λ c. not (is_changed puts c)) l) (from_item before at child lt is)) ∙ so_far)
  where
    on : (b : Bool) → found ++ (if not b then child ∷ filter (λ c. not (is_changed puts c)) (drop (at + 1) before) else filter (λ c. not (is_changed puts c)) (drop (at + 1) before)) ≡ total
        → (found ++ (if b then [] else child ∷ [])) ++ filter (λ c. not (is_changed puts c)) (drop (at + 1) before) ≡ total
    on true all = append_assoc found [] (filter (λ c. not (is_changed puts c)) (drop (at + 1) before)) ∙ all
    on false all = append_assoc found (child ∷ []) (filter (λ c. not (is_changed puts c)) (drop (at + 1) before)) ∙ all
