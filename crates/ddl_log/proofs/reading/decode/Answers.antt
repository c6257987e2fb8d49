use Rattle.std.proofs.Common.{sym, arith}
use Rattle.ddl_log.proofs.Bodies.{found, only, refused, made}
use Rattle.ddl_log.proofs.reading.decode.Goals as goal

pub returns-in_default-clause-malformed : goal.returns-in_default-clause-malformed
returns-in_default-clause-malformed c = λ is_malformed item is id_is same. refused c.args.id c.args.bytes.now item (sym c.in_default.ensures) is id_is same

pub returns-in-Ok-clause-found : goal.returns-in-Ok-clause-found
returns-in-Ok-clause-found c =
    found c.args.id c.args.bytes.now c.whole.result (omega (arith, c.ranges.id)) (λ i. omega (arith, c.type_inv.bytes i))
    (made _ _ _ _ _ _ _ _ c.in-Some.ensures c.in-Ok.ensures.0 c.in-Ok.ensures.1 c.whole.ensures)

pub returns-in-Ok-clause-only : goal.returns-in-Ok-clause-only
returns-in-Ok-clause-only c = λ item is id_is same.
    only c.args.id c.args.bytes.now c.whole.result item (made _ _ _ _ _ _ _ _ c.in-Some.ensures c.in-Ok.ensures.0 c.in-Ok.ensures.1 c.whole.ensures) is id_is same
