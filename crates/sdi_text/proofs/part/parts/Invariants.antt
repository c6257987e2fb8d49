use Rattle.std.proofs.Common.{◌≡◌, List, map, length}
use Rattle.std.specs.List.{AllByRecursion}
use Rattle.serde_json.specs.View.{view}
use Rattle.sdi_text.proofs.Parts.{Left}
use Rattle.sdi_text.proofs.part.parts.Given as goal

abbrev pub invariant-values : goal.invariant-values
invariant-values g l =
    (parts : List g.row.P.Denot) → AllByRecursion g.P.Part.IsHeld parts → map view l.fn.values ≡ map g.P.Part.value_of parts
    → Left g.P.Part.IsHeld g.P.Part.value_of view parts l.list l.rest

abbrev pub decreases-values : goal.decreases-values
decreases-values g l = length l.rest
