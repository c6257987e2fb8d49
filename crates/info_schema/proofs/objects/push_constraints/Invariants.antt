use Rattle.std.proofs.Common.{◌≡◌, ◌++◌, map, take}
use Rattle.info_schema.specs.Tables.{constraint_row}
use Rattle.info_schema.proofs.objects.push_constraints.Given as goal

abbrev pub invariant-keys : goal.invariant-keys
invariant-keys l = l.rows ≡ l.fn.rows ++ map (constraint_row l.name) (take l.key-index l.keys)
