use Rattle.std.proofs.Common.{Some, sym, ap, ◌∙◌}
use Rattle.row_store.proofs.Pieces.{if_err}
use Rattle.row_store.proofs.Rest.{last_at, some_there}
use Rattle.row_store.proofs.scanning.key_of_last.Goals as goal

pub returns-in_ok-of-in-Some-clause-key : goal.returns-in_ok-of-in-Some-clause-key
returns-in_ok-of-in-Some-clause-key c =
    ap Some (c.in_ok-of-in-Some.ensures ∙ c.as_slice.ensures) ∙ sym (last_at c.args.rows.now (Some c.in-Some.row.now) c.in-Some.ensures.value)

pub returns-in_err-of-in-Some-clause-wanted : goal.returns-in_err-of-in-Some-clause-wanted
returns-in_err-of-in-Some-clause-wanted c = if_err _ _ (some_there c.args.rows.now c.in-Some.row.now c.in-Some.ensures.value)
