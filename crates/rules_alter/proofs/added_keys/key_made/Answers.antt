use Rattle.std.proofs.lemmas.Result.{err_from_is_err_and}
use Rattle.rules_create.proofs.Parts.{unnamed_stop, named_fine}
use Rattle.rules_alter.proofs.added_keys.key_made.Goals as goal

pub returns-in_err-name : goal.returns-in_err-name
returns-in_err-name c look =
    let p = err_from_is_err_and c.from_residual.result c.from_residual.ensures.1 in
    rw (p.1, p.2) (unnamed_stop c.in_err-name.field-0.0 look c.args.parts.now c.args.words.now c.args.columns (c.in_err-name.ensures look))

pub returns : goal.returns
returns c look = named_fine look c.args.parts.now c.args.words.now c.args.columns c.in_ok-name.name c.in_ok-key_named.field-0 (c.in_ok-name.ensures look) c.in_ok-key_named.ensures
