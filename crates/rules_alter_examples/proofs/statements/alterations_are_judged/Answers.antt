use Rattle.rules_alter_examples.proofs.Judged.{columns_refused_computed, definitions_computed, foreign_keys_refused_computed, keys_refused_computed, columns_rebuilt_computed, keys_rebuilt_computed, whole_rebuilt_computed, tables_refused_computed}
use Rattle.rules_alter_examples.proofs.statements.alterations_are_judged.Goals as goal

pub returns-clause-tables_refused : goal.returns-clause-tables_refused
returns-clause-tables_refused c = tables_refused_computed

pub returns-clause-columns_refused : goal.returns-clause-columns_refused
returns-clause-columns_refused c = columns_refused_computed

pub returns-clause-keys_refused : goal.returns-clause-keys_refused
returns-clause-keys_refused c = keys_refused_computed

pub returns-clause-foreign_keys_refused : goal.returns-clause-foreign_keys_refused
returns-clause-foreign_keys_refused c = foreign_keys_refused_computed

pub returns-clause-whole_rebuilt : goal.returns-clause-whole_rebuilt
returns-clause-whole_rebuilt c = whole_rebuilt_computed

pub returns-clause-columns_rebuilt : goal.returns-clause-columns_rebuilt
returns-clause-columns_rebuilt c = columns_rebuilt_computed

pub returns-clause-keys_rebuilt : goal.returns-clause-keys_rebuilt
returns-clause-keys_rebuilt c = keys_rebuilt_computed

pub returns-clause-definitions : goal.returns-clause-definitions
returns-clause-definitions c = definitions_computed
