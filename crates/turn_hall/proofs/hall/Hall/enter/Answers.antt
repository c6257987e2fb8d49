use Rattle.std.proofs.Common.{rules, ◌∙◌, ap, sym, ◌∷◌}
use Rattle.std.specs.Prelude.{Some}
use Rattle.atomic_table.specs.Table.{rest}
use Rattle.turn_hall.proofs.hall.Hall.enter.Goals as goal

pub exchange-requires : goal.exchange-requires
exchange-requires g c = let got = c.wait_turn.ensures.taken in let has = ap (λ m. m.1) got.1 in (search rules, (Some got.0, has ∙ (λ i. (0, Some got.0) ∷ sym (ap rest has) i)))
