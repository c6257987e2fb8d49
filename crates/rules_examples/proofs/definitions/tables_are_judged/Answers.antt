use Rattle.rules_examples.proofs.JudgedTables.{good_columns_judged, bad_columns_judged, bad_defaults_judged, good_indexes_judged, bad_indexes_judged, bad_autos_judged, good_keys_judged, bad_keys_judged}
use Rattle.rules_examples.proofs.definitions.tables_are_judged.Goals as goal

pub returns-clause-good_columns : goal.returns-clause-good_columns
returns-clause-good_columns c = good_columns_judged

pub returns-clause-bad_columns : goal.returns-clause-bad_columns
returns-clause-bad_columns c = bad_columns_judged

pub returns-clause-bad_defaults : goal.returns-clause-bad_defaults
returns-clause-bad_defaults c = bad_defaults_judged

pub returns-clause-good_indexes : goal.returns-clause-good_indexes
returns-clause-good_indexes c = good_indexes_judged

pub returns-clause-bad_indexes : goal.returns-clause-bad_indexes
returns-clause-bad_indexes c = bad_indexes_judged

pub returns-clause-bad_autos : goal.returns-clause-bad_autos
returns-clause-bad_autos c = bad_autos_judged

pub returns-clause-good_keys : goal.returns-clause-good_keys
returns-clause-good_keys c = good_keys_judged

pub returns-clause-bad_keys : goal.returns-clause-bad_keys
returns-clause-bad_keys c = bad_keys_judged
