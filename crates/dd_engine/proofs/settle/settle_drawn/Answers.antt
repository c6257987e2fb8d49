use Rattle.std.proofs.Common.{refl}
use Rattle.dd_catalog.specs.Walks.{fine}
use Rattle.rules_outcome.specs.Decided.{choice_of}
use Rattle.dd_engine.proofs.settle.settle_drawn.Goals as goal

pub returns-in-Err : goal.returns-in-Err
returns-in-Err c = c.unchanged.ensures (fine (choice_of c.args.edits)) tt tt refl refl
