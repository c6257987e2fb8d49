use Rattle.std.proofs.Common.{subst, rules}
use Rattle.serde_json.specs.View.{view}
use Rattle.sdi_text.proofs.Parts.{Left, taken, over, is_empty}
use Rattle.sdi_text.proofs.part.parts.Goals as goal

pub returns-in_err-add : goal.returns-in_err-add
returns-in_err-add g c = λ all held is.
    let left = subst (λ l. Left g.P.Part.IsHeld g.P.Part.value_of view all c.values.list l) c.in-Some.ensures.cases.0 (c.values.invariant all held is) in
    let t = taken g.P.Part.IsHeld g.P.Part.value_of view all c.values.list c.in-Some.value.now c.in-Some.others.now left in
    let memory = c.in_err-add.ensures t.part t.held t.is in
    search rules

pub values-preserved : goal.values-preserved
values-preserved g c = λ all held is.
    let left = subst (λ l. Left g.P.Part.IsHeld g.P.Part.value_of view all c.values.list l) c.in-Some.ensures.cases.0 (c.values.invariant all held is) in
    let t = taken g.P.Part.IsHeld g.P.Part.value_of view all c.values.list c.in-Some.value.now c.in-Some.others.now left in
    t.next c.add.new.list (c.in_ok-add.ensures t.part t.held t.is)

pub returns : goal.returns
returns g c = λ all held is.
    over g.P.Part.IsHeld g.P.Part.value_of view all c.values.list
    (subst (λ l. Left g.P.Part.IsHeld g.P.Part.value_of view all c.values.list l) (is_empty c.values.rest.now c.in_default.ensures.cases) (c.values.invariant all held is))
