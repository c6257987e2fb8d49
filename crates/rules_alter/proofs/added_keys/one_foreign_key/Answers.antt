use Rattle.std.proofs.Common.{sym, ◌∙◌, subst}
use Rattle.std.proofs.lemmas.Result.{err_from_is_err_and}
use Rattle.dd_catalog.specs.Follow.{sights, Stops}
use Rattle.rules_create.proofs.Parts.{allowed_stop, same_columns, columns_stop, columns_settled, rest_stop}
use Rattle.rules_alter.proofs.added_keys.one_foreign_key.Goals as goal

pub returns-in_err-allow_columns : goal.returns-in_err-allow_columns
returns-in_err-allow_columns g c =
    let look = sights (g.L.Lookup.known c.args.look.now) in
    let p = err_from_is_err_and c.from_residual.result c.from_residual.ensures.1 in
    rw (p.1, p.2) (allowed_stop c.in_err-allow_columns.field-0.0 look c.args.parts.now c.args.words.now (c.in_err-allow_columns.ensures look))

pub returns-in_err-columns : goal.returns-in_err-columns
returns-in_err-columns g c =
    let look = sights (g.L.Lookup.known c.args.look.now) in
    let same = same_columns look c.args.parts.now c.args.words.now c.as_slice.result.now c.as_slice-2.result.now c.as_slice.ensures c.as_slice-2.ensures in
    let p = err_from_is_err_and c.from_residual-in_err-columns.result c.from_residual-in_err-columns.ensures.1 in
    rw (p.1, p.2) (columns_stop c.in_err-columns.field-0.0 look c.args.parts.now c.args.words.now (c.in_ok-allow_columns.ensures look) (subst (Stops c.in_err-columns.field-0.0) same (c.in_err-columns.ensures look)))

pub returns-in_err-foreign_key_on : goal.returns-in_err-foreign_key_on
returns-in_err-foreign_key_on g c =
    let look = sights (g.L.Lookup.known c.args.look.now) in
    let same = same_columns look c.args.parts.now c.args.words.now c.as_slice.result.now c.as_slice-2.result.now c.as_slice.ensures c.as_slice-2.ensures in
    let p = err_from_is_err_and c.from_residual-in_err-foreign_key_on.result c.from_residual-in_err-foreign_key_on.ensures.1 in
    rw (p.1, p.2) (rest_stop c.in_err-foreign_key_on.field-0.0 _ _ (columns_settled look c.args.parts.now c.args.words.now c.in_ok-columns.columns (c.in_ok-allow_columns.ensures look) (sym same ∙ c.in_ok-columns.ensures look)) c.in_err-foreign_key_on.ensures)

pub returns : goal.returns
returns g c =
    let look = sights (g.L.Lookup.known c.args.look.now) in
    let same = same_columns look c.args.parts.now c.args.words.now c.as_slice.result.now c.as_slice-2.result.now c.as_slice.ensures c.as_slice-2.ensures in
    columns_settled look c.args.parts.now c.args.words.now c.in_ok-columns.columns (c.in_ok-allow_columns.ensures look) (sym same ∙ c.in_ok-columns.ensures look) ∙ c.in_ok-foreign_key_on.ensures
