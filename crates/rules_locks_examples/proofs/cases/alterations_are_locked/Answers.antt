use Rattle.rules_locks_examples.proofs.Alters.{absent, keyed, moved, of_child, of_parent, referring}
use Rattle.rules_locks_examples.proofs.cases.alterations_are_locked.Goals as goal

pub returns-clause-of_parent : goal.returns-clause-of_parent
returns-clause-of_parent c = of_parent

pub returns-clause-of_child : goal.returns-clause-of_child
returns-clause-of_child c = of_child

pub returns-clause-referring : goal.returns-clause-referring
returns-clause-referring c = referring

pub returns-clause-moved : goal.returns-clause-moved
returns-clause-moved c = moved

pub returns-clause-absent : goal.returns-clause-absent
returns-clause-absent c = absent

pub returns-clause-keyed : goal.returns-clause-keyed
returns-clause-keyed c = keyed
