use Rattle.dd_catalog.specs.WalkLaws as laws
use Rattle.dd_catalog.proofs.laws.walk_laws.Goals as goal

pub returns-clause-binding : goal.returns-clause-binding
returns-clause-binding g c = laws.run_bind

pub returns-clause-need : goal.returns-clause-need
returns-clause-need g c = laws.needed_unknown

pub returns-clause-more : goal.returns-clause-more
returns-clause-more g c = laws.run_more

pub returns-clause-agreeing : goal.returns-clause-agreeing
returns-clause-agreeing g c = laws.run_agrees

pub returns-clause-ending : goal.returns-clause-ending
returns-clause-ending g c = laws.fewer_left
