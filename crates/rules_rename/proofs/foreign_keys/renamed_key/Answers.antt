use Rattle.std.proofs.Common.{sym, ◌∙◌, ap, subst}
use Rattle.std.proofs.lemmas.Result.{err_from_is_err_and}
use Rattle.dd_definitions.specs.declared.foreign_keys.ForeignKeyDef.{ForeignKeyDef}
use Rattle.dd_catalog.specs.Follow.{Stops}
use Rattle.rules_rename.specs.Renames.{with_parent, renamed_key}
use Rattle.rules_rename.proofs.Keys.{fits_is, name_then_parent}
use Rattle.rules_rename.proofs.foreign_keys.renamed_key.Goals as goal

pub returns-in_err-name-clause-fits : goal.returns-in_err-name-clause-fits
returns-in_err-name-clause-fits c look =
    let p = err_from_is_err_and c.from_residual.result c.from_residual.ensures.1 in
    rw (p.1, p.2) (subst (Stops c.in_err-name.field-0.0) (sym (fits_is c.args.from.now c.args.to.now c.args.key.now look)) (c.in_err-name.ensures.fits look))

pub returns-clause-fits : goal.returns-clause-fits
returns-clause-fits c look = fits_is c.args.from.now c.args.to.now c.args.key.now look ∙ c.in_ok-name.ensures.fits look

pub returns-clause-key : goal.returns-clause-key
unfolding renamed_key
returns-clause-key c =
    ap (λ (k : ForeignKeyDef). record k { name = c.in_ok-name.name }) c.in_ok-found.ensures ∙ name_then_parent c.args.from.now c.args.to.now c.args.key.now c.in_ok-name.name
    ∙ ap (λ n. with_parent c.args.from.now c.args.to.now (record c.args.key.now { name = n })) c.in_ok-name.ensures.name
