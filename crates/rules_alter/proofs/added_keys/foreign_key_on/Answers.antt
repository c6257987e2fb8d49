use Rattle.std.proofs.Common.{◌∙◌}
use Rattle.std.proofs.lemmas.Result.{err_from_is_err_and}
use Rattle.dd_catalog.specs.Follow.{sights}
use Rattle.rules_create.proofs.Parts.{name_stop, name_settled, rest_stop}
use Rattle.rules_alter.proofs.added_keys.foreign_key_on.Goals as goal

pub returns-in_err-key : goal.returns-in_err-key
returns-in_err-key g c =
    let look = sights (g.L.Lookup.known c.args.look.now) in
    let p = err_from_is_err_and c.from_residual.result c.from_residual.ensures.1 in
    rw (p.1, p.2) (name_stop c.in_err-key.field-0.0 look c.args.parts.now c.args.words.now c.args.columns (c.in_err-key.ensures look))

pub returns-in_err-with_foreign_key : goal.returns-in_err-with_foreign_key
returns-in_err-with_foreign_key g c =
    let look = sights (g.L.Lookup.known c.args.look.now) in
    let p = err_from_is_err_and c.from_residual-in_err-with_foreign_key.result c.from_residual-in_err-with_foreign_key.ensures.1 in
    rw (p.1, p.2) (rest_stop c.in_err-with_foreign_key.field-0.0 _ _ (name_settled look c.args.parts.now c.args.words.now c.args.columns c.in_ok-key.key (c.in_ok-key.ensures look)) c.in_err-with_foreign_key.ensures)

pub returns : goal.returns
returns g c =
    let look = sights (g.L.Lookup.known c.args.look.now) in
    name_settled look c.args.parts.now c.args.words.now c.args.columns c.in_ok-key.key (c.in_ok-key.ensures look) ∙ c.in_ok-with_foreign_key.ensures
