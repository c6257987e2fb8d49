-- The loop that looks for the first fault.
use Rattle.std.proofs.Common.{◌≡◌, ℕ, zero, suc, ◌+◌, ◌<◌, ◌≤◌, Bool, true, false, ◌||◌, List, [], ◌∷◌, ◌++◌, map, length, drop, Option, Some, None, refl, sym, ap, ◌∙◌, arith}
use Rattle.std.specs.List.{list_any}
use Rattle.script_cut.specs.declared.item.Item.{Item}
use Rattle.script_cut.specs.declared.fault.ScriptFault.{ScriptFault}
use Rattle.script_cut.specs.Faults.{or_else, item_fault, names_behind, count_behind, fault_from}

pub any_of_texts : {X Y : Type 0} (f : X → Y) (p : Y → Bool) (xs : List X) → list_any (λ x. p (f x)) xs ≡ list_any p (map f xs)
any_of_texts f p [] = refl
any_of_texts f p (x ∷ xs) = ap (λ (b : Bool). p (f x) || b) (any_of_texts f p xs)
