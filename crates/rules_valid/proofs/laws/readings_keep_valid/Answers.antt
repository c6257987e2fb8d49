use Rattle.rules_valid.proofs.Readings.{use_keeps, set_keeps, databases_keep, tables_keep}
use Rattle.rules_valid.proofs.laws.readings_keep_valid.Goals as goal

pub returns-clause-used : goal.returns-clause-used
returns-clause-used c = use_keeps

pub returns-clause-set : goal.returns-clause-set
returns-clause-set c = set_keeps

pub returns-clause-databases : goal.returns-clause-databases
returns-clause-databases c = databases_keep

pub returns-clause-tables : goal.returns-clause-tables
returns-clause-tables c = tables_keep
