-- The names of a statement, as its function has them.
use Rattle.rules_alter.specs.Statements as statements
use Rattle.rules_alter_statements.specs.declared.names.Names.{Names}

abbrev pub named : Names → statements.Names
named names = record { table = names.table; targets = names.targets }
