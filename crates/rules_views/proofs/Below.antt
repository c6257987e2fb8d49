-- A view under which one view less may stand.
use Rattle.std.proofs.Common.{◌≡◌, ℕ, suc, List, [], ◌∷◌, ◌++◌, ap}
use Rattle.dd_names.specs.declared.object_name.ObjName.{ObjName}
use Rattle.dd_definitions.specs.declared.view_parts.ViewParts.{ViewParts}
use Rattle.rules_views.specs.Columns.{Finds, view_whole, through_sources, source_seen}

pub whole_below : (left under : ℕ) → left ≡ suc under → (asked : ObjName) (way : List ObjName) (finds : Finds) (name : ObjName) (parts : ViewParts)
    → view_whole left asked way finds name parts ≡ through_sources (source_seen under asked (way ++ name ∷ [])) asked finds name parts
whole_below left under e asked way finds name parts = ap (λ k. view_whole k asked way finds name parts) e
