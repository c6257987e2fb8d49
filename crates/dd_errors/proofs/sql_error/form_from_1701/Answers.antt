use Rattle.std.proofs.Common.{arith}
use Rattle.dd_errors.proofs.Rows.{among_from_1701}
use Rattle.dd_errors.proofs.sql_error.form_from_1701.Goals as goal

pub returns : goal.returns
returns c = grind (arith, among_from_1701 c.args.number, c.form_among.ensures)
