-- What each list of elements makes, computed.
use Rattle.std.specs.Prelude.{refl}
use Rattle.std.specs.Fmt.{digits}
use Rattle.dd_definitions.specs.Columns.{is_nullable}
use Rattle.dd_definitions.specs.ForeignKeys.{has_index_on}
use Rattle.dd_definitions.specs.Indexes.{has_nullable, rank, leads_index, are_few_autos}
use Rattle.rules_elements.specs.Columns.{column_type, kept_default, column_of}
use Rattle.rules_elements.specs.ForeignKeys.{parent_of, name_is_free, foreign_key_of}
use Rattle.rules_elements.specs.Keys.{one_more, key_name, key_of}
use Rattle.rules_create.specs.Tables.{one_column, all_columns, with_index, one_key, constraint_name, with_key_index, one_foreign_key, by_class, are_autos_led, within_limits, table_of}
use Rattle.rules_examples.specs.Creates.{created, refused_tables, told_as_written, not_told}
use Rattle.rules_examples.specs.ForeignKeys.{family}
use Rattle.rules_examples.specs.Words.{AllCome, NoneTells}

pub created_computed : AllCome family created
unfolding digits is_nullable has_index_on has_nullable rank leads_index are_few_autos column_type kept_default column_of parent_of name_is_free foreign_key_of one_more key_name key_of one_column all_columns with_index one_key constraint_name with_key_index one_foreign_key by_class are_autos_led within_limits table_of
created_computed = refl

pub refused_tables_computed : AllCome family refused_tables
unfolding digits is_nullable has_index_on has_nullable rank leads_index are_few_autos column_type kept_default column_of parent_of name_is_free foreign_key_of one_more key_name key_of one_column all_columns with_index one_key constraint_name with_key_index one_foreign_key by_class are_autos_led within_limits table_of
refused_tables_computed = refl

pub told_as_written_computed : AllCome family told_as_written
unfolding digits is_nullable has_index_on has_nullable rank leads_index are_few_autos column_type kept_default column_of parent_of name_is_free foreign_key_of one_more key_name key_of one_column all_columns with_index one_key constraint_name with_key_index one_foreign_key by_class are_autos_led within_limits table_of
told_as_written_computed = refl

pub not_told_computed : NoneTells family not_told
unfolding digits is_nullable has_index_on has_nullable rank leads_index are_few_autos column_type kept_default column_of parent_of name_is_free foreign_key_of one_more key_name key_of one_column all_columns with_index one_key constraint_name with_key_index one_foreign_key by_class are_autos_led within_limits table_of
not_told_computed = refl
