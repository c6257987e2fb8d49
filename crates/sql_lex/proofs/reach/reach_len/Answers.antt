use Rattle.std.proofs.Common.{arith, ◌∙◌, ap}
use Rattle.sql_lex.specs.Ends.{reach, step}
use Rattle.sql_lex.proofs.Reaches.{goes_is}
use Rattle.sql_lex.proofs.reach.reach_len.Goals as goal

pub steps-preserved : goal.steps-preserved
steps-preserved c =
    let g = goes_is c.args.until c.steps.at c.in-Goes.n c.args.bytes.now (reach c.args.until c.args.bytes.now 0) (c.in-Goes.ensures ∙ ap (step c.args.until) c.from_place.ensures) c.steps-test.true c.steps.invariant.so_far in
    record { so_far = g.2; place = g.1 }
