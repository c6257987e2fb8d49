use Rattle.rules_alter_keys_laws.proofs.Whole.{all_follow}
use Rattle.rules_alter_keys_laws.proofs.laws.actions_keep_foreign_keys.Goals as goal

pub returns-clause-led : goal.returns-clause-led
returns-clause-led c = λ look start acts state sees good formed is. (all_follow look start acts state sees good formed is).follows.led

pub returns-clause-grounded : goal.returns-clause-grounded
returns-clause-grounded c = λ look start acts state sees good formed is. (all_follow look start acts state sees good formed is).follows.grounded

pub returns-clause-children : goal.returns-clause-children
returns-clause-children c = λ look start acts state sees good formed is. (all_follow look start acts state sees good formed is).follows.children

pub returns-clause-paired : goal.returns-clause-paired
returns-clause-paired c = λ look start acts state sees good formed is. (all_follow look start acts state sees good formed is).paired
