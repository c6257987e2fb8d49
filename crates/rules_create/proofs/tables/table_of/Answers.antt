use Rattle.std.proofs.lemmas.Result.{err_from_is_err_and}
use Rattle.dd_catalog.specs.Follow.{sights}
use Rattle.rules_create.proofs.Filled.{made_stop, fill_stop, fill_fine}
use Rattle.rules_create.proofs.tables.table_of.Goals as goal

pub returns-in_err-draft : goal.returns-in_err-draft
returns-in_err-draft g c =
    let look = sights (g.L.Lookup.known c.args.look.now) in
    let p = err_from_is_err_and c.from_residual.result c.from_residual.ensures.1 in
    rw (p.1, p.2) (made_stop c.in_err-draft.field-0.0 look c.args.table.now c.args.elements.now (c.in_err-draft.ensures.parts look))

pub returns-in_err-fill : goal.returns-in_err-fill
returns-in_err-fill g c =
    let look = sights (g.L.Lookup.known c.args.look.now) in
    let p = err_from_is_err_and c.from_residual-in_err-fill.result c.from_residual-in_err-fill.ensures.1 in
    rw (p.1, p.2) (fill_stop c.in_err-fill.field-0.0 look c.args.table.now c.args.elements.now c.in_ok-draft.draft.parts (c.in_ok-draft.ensures.parts look) c.in_err-fill.ensures)

pub returns : goal.returns
returns g c =
    let look = sights (g.L.Lookup.known c.args.look.now) in
    fill_fine look c.args.table.now c.args.elements.now c.in_ok-draft.draft.parts c.fill.new.draft.parts (c.in_ok-draft.ensures.parts look) c.in_ok-fill.ensures
