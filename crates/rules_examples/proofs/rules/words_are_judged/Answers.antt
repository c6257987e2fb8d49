use Rattle.rules_examples.proofs.JudgedWords.{kept_defaults_computed, refused_defaults_computed, columns_computed, keys_computed, refused_keys_computed, foreign_keys_computed, refused_foreign_keys_computed, unknown_parents_computed, unknown_owners_computed}
use Rattle.rules_examples.proofs.rules.words_are_judged.Goals as goal

pub returns-clause-kept_defaults : goal.returns-clause-kept_defaults
returns-clause-kept_defaults c = kept_defaults_computed

pub returns-clause-refused_defaults : goal.returns-clause-refused_defaults
returns-clause-refused_defaults c = refused_defaults_computed

pub returns-clause-columns : goal.returns-clause-columns
returns-clause-columns c = columns_computed

pub returns-clause-keys : goal.returns-clause-keys
returns-clause-keys c = keys_computed

pub returns-clause-refused_keys : goal.returns-clause-refused_keys
returns-clause-refused_keys c = refused_keys_computed

pub returns-clause-foreign_keys : goal.returns-clause-foreign_keys
returns-clause-foreign_keys c = foreign_keys_computed

pub returns-clause-refused_foreign_keys : goal.returns-clause-refused_foreign_keys
returns-clause-refused_foreign_keys c = refused_foreign_keys_computed

pub returns-clause-unknown_parents : goal.returns-clause-unknown_parents
returns-clause-unknown_parents c = unknown_parents_computed

pub returns-clause-unknown_owners : goal.returns-clause-unknown_owners
returns-clause-unknown_owners c = unknown_owners_computed
