-- When the parts of a table fit together.
use Rattle.std.specs.Prelude.{Bool, ◌&&◌}
use Rattle.dd_definitions.specs.declared.parts.TableParts.{TableParts}
use Rattle.dd_definitions.specs.Columns.{are_columns_formed}
use Rattle.dd_definitions.specs.Indexes.{are_indexes_formed, are_autos_formed}
use Rattle.dd_definitions.specs.ForeignKeys.{are_foreign_keys_formed}

unfoldable pub is_well_formed : TableParts → Bool
is_well_formed parts =
    are_columns_formed parts.columns && are_indexes_formed parts.columns parts.indexes && are_autos_formed parts.columns parts.indexes
    && are_foreign_keys_formed parts.columns parts.indexes parts.foreign_keys
