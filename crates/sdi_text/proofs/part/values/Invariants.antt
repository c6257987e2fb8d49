use Rattle.std.proofs.Common.{◌≡◌, take, map}
use Rattle.serde_json.specs.View.{view}
use Rattle.sdi_text.proofs.part.values.Given as goal

abbrev pub invariant-parts : goal.invariant-parts
invariant-parts g l = map view l.values.items ≡ map g.P.Part.value_of (take l.part-index l.parts)
