use Rattle.std.proofs.lemmas.Result.{err_from_is_err_and}
use Rattle.rules_rename.proofs.Whole.{from_unresolved, to_unresolved, pair_named}
use Rattle.rules_rename.proofs.statement.named_pair.Goals as goal

pub returns-in_err-from : goal.returns-in_err-from
returns-in_err-from c look =
    let p = err_from_is_err_and c.from_residual.result c.from_residual.ensures.1 in
    rw (p.1, p.2) (from_unresolved look c.args.current.now c.args.pair.now c.in_err-from.field-0.0 (c.in_err-from.ensures look))

pub returns-in_err-to : goal.returns-in_err-to
returns-in_err-to c look =
    let p = err_from_is_err_and c.from_residual-in_err-to.result c.from_residual-in_err-to.ensures.1 in
    rw (p.1, p.2) (to_unresolved look c.args.current.now c.args.pair.now c.in_ok-from.from c.in_err-to.field-0.0 (c.in_ok-from.ensures look) (c.in_err-to.ensures look))

pub returns : goal.returns
returns c look = pair_named look c.args.current.now c.args.pair.now c.in_ok-from.from c.in_ok-to.to (c.in_ok-from.ensures look) (c.in_ok-to.ensures look)
