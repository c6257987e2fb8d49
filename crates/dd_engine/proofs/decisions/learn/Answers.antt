use Rattle.dd_catalog.specs.Catalog.{sight_of}
use Rattle.dd_engine.proofs.decisions.learn.Goals as goal

pub returns-clause-here : goal.returns-clause-here
returns-clause-here c = c.add_standing.ensures.here (sight_of c.args.catalog.now) c.at-object.ensures

pub returns-clause-known : goal.returns-clause-known
returns-clause-known c = c.add_standing.ensures.known (sight_of c.args.catalog.now) c.at-object.ensures
