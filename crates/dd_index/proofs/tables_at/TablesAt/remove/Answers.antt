use Rattle.dd_index.proofs.tables_at.TablesAt.remove.Goals as goal

pub returns : goal.returns
returns c = record { keeps = λ key table other is. c.remove_empty.ensures.keeps key table (c.take_out.ensures.keeps key table other is) }
