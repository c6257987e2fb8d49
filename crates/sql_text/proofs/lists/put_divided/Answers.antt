use Rattle.std.proofs.Common.{subst}
use Rattle.sql_pieces.specs.Pieces.{Adds}
use Rattle.sql_text.specs.Parts.{divided}
use Rattle.sql_text.proofs.Added.{divided_added}
use Rattle.sql_text.proofs.lists.put_divided.Goals as goal

pub returns-in_ok-put_behind_commas : goal.returns-in_ok-put_behind_commas
returns-in_ok-put_behind_commas g c =
    subst (λ xs. Adds c.args.out.now c.put_behind_commas.new.out (divided g.T.Spelled.pieces xs)) c.as_slice.ensures
    (divided_added g.T.Spelled.pieces c.as_slice.result.now c.first-item.result c.args.out.now c.put.new.out c.put_behind_commas.new.out c.in-len1-up.len_at_least c.first-item.is c.in_ok-put.ensures c.in_ok-put_behind_commas.ensures)
