use Rattle.std.proofs.Common.{◌∙◌, ap, map}
use Rattle.serde_json.specs.Find.{as_array}
use Rattle.serde_json.specs.View.{view, items_view, items_of}
use Rattle.sdi_text.specs.Values.{array_of}
use Rattle.sdi_text.proofs.Items.{some_same, items_same}
use Rattle.sdi_text.proofs.found.parts_at.Goals as goal

pub returns-in-Some-as_array : goal.returns-in-Some-as_array
returns-in-Some-as_array g c = λ parts held is.
    let value_of = g.P.Part.value_of in
    let array = some_same (view c.in-Some.found.now) (array_of value_of parts) (c.in-Some.ensures ∙ is) in
    let items = some_same (items_view c.in-Some-as_array.values.now.items) (items_of (map value_of parts)) (c.in-Some-as_array.ensures ∙ ap as_array array) in
    c.parts.ensures parts held (ap (map view) c.as_slice.ensures.value ∙ items_same _ _ items)
