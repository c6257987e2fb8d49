use Rattle.std.proofs.Common.{◌≡◌, ◌++◌, take}
use Rattle.std.specs.List.{flat_map}
use Rattle.dd_definitions.specs.declared.foreign_keys.ForeignKeyDef.{ForeignKeyDef}
use Rattle.info_schema.specs.Tables.{rows_from, usage_row}
use Rattle.info_schema.proofs.objects.push_usages.Given as goal

abbrev pub invariant-keys : goal.invariant-keys
invariant-keys l = l.rows ≡ l.fn.rows ++ flat_map (λ (key : ForeignKeyDef). rows_from (usage_row l.name key) 0 key.columns) (take l.key-index l.keys)
