use Rattle.std.proofs.Common.{take}
use Rattle.dd_index.specs.Keys.{HasKeys}
use Rattle.dd_index.proofs.keys.keys_of.Given as goal

abbrev pub invariant-foreign_keys : goal.invariant-foreign_keys
invariant-foreign_keys l = HasKeys l.keys l.table (take l.foreign_key-index l.foreign_keys)
