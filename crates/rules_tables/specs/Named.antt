-- The names of a statement, as its function has them.
use Rattle.rules_tables.specs.declared.likes.Names.{Names}
use Rattle.rules_tables.specs.Likes.{Two, two}

abbrev pub named : Names → Two
named names = two names.table.name names.source
