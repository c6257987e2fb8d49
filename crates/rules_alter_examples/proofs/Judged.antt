-- Each of the statements, computed.
use Rattle.std.specs.Prelude.{refl}
use Rattle.dd_definitions.specs.Columns.{is_nullable}
use Rattle.dd_definitions.specs.Indexes.{are_few_autos, has_nullable, leads_index, rank}
use Rattle.dd_definitions.specs.ForeignKeys.{has_index_on}
use Rattle.rules_elements.specs.Columns.{column_of, column_type, kept_default}
use Rattle.rules_elements.specs.Defaults.{decimal_text, is_in_range, kept_by, kept_number, kept_text}
use Rattle.rules_elements.specs.ForeignKeys.{foreign_key_of, name_is_free, parent_of}
use Rattle.rules_elements.specs.Keys.{key_name, key_of, one_more}
use Rattle.rules_named.specs.Named.{resolved, schema_there}
use Rattle.rules_create.specs.Tables.{are_autos_led, by_class, constraint_name, one_foreign_key, one_key, with_index, with_key_index}
use Rattle.rules_rename.specs.Renames as renames
use Rattle.rules_alter.specs.Actions.{one_action}
use Rattle.rules_alter.specs.Altering.{column_renamed}
use Rattle.rules_alter.specs.Arranged.{arranged}
use Rattle.rules_alter.specs.Columns.{add_column, add_columns, change_column, allowed_change, allowed_drop, changed, column_added, column_keys_added, default_of, drop_column, drop_default, never_nulled, redefined, remade, rename_column, set_default}
use Rattle.rules_alter.specs.ForeignKeys.{add_foreign_key, all_keys_fit, drop_foreign_key, own_key_fits, pairs_fit}
use Rattle.rules_alter.specs.Keys.{add_key, drop_index, is_index_lacking, rename_index}
use Rattle.rules_alter.specs.Rebuilds.{asks_rebuild}
use Rattle.rules_alter.specs.Statements.{all_acted, all_resolved, alter_table, altered, changes_moved, children_of, names_of, one_child, within_limits}
use Rattle.rules_alter_examples.specs.Catalogs.{AllCome}
use Rattle.rules_alter_examples.specs.Definitions.{definitions}
use Rattle.rules_alter_examples.specs.Rebuilds.{AllTake, columns_rebuilt, keys_rebuilt, whole_rebuilt}
use Rattle.rules_alter_examples.specs.Refusals.{columns_refused, foreign_keys_refused, keys_refused, tables_refused}

pub tables_refused_computed : AllCome tables_refused
unfolding resolved schema_there all_resolved names_of one_child children_of altered all_acted alter_table one_action within_limits all_keys_fit own_key_fits pairs_fit asks_rebuild changes_moved are_autos_led are_few_autos leads_index parent_of renames.name_is_free renames.renamed_keys renames.renamed_key renames.renamed_constraint renames.fits_in_name renames.one_free add_column add_columns change_column column_added drop_column drop_default column_keys_added allowed_drop allowed_change changed never_nulled remade redefined default_of is_index_lacking rename_column set_default column_renamed arranged by_class rank has_nullable is_nullable column_of column_type kept_default kept_by kept_number kept_text is_in_range decimal_text one_key key_of one_more key_name with_index add_key drop_index rename_index has_index_on add_foreign_key drop_foreign_key one_foreign_key constraint_name with_key_index foreign_key_of name_is_free
tables_refused_computed = refl

pub columns_refused_computed : AllCome columns_refused
unfolding resolved schema_there all_resolved names_of one_child children_of altered all_acted alter_table one_action within_limits all_keys_fit own_key_fits pairs_fit asks_rebuild changes_moved are_autos_led are_few_autos leads_index parent_of renames.name_is_free renames.renamed_keys renames.renamed_key renames.renamed_constraint renames.fits_in_name renames.one_free add_column add_columns change_column column_added drop_column drop_default column_keys_added allowed_drop allowed_change changed never_nulled remade redefined default_of is_index_lacking rename_column set_default column_renamed arranged by_class rank has_nullable is_nullable column_of column_type kept_default kept_by kept_number kept_text is_in_range decimal_text one_key key_of one_more key_name with_index add_key drop_index rename_index has_index_on add_foreign_key drop_foreign_key one_foreign_key constraint_name with_key_index foreign_key_of name_is_free
columns_refused_computed = refl

pub keys_refused_computed : AllCome keys_refused
unfolding resolved schema_there all_resolved names_of one_child children_of altered all_acted alter_table one_action within_limits all_keys_fit own_key_fits pairs_fit asks_rebuild changes_moved are_autos_led are_few_autos leads_index parent_of renames.name_is_free renames.renamed_keys renames.renamed_key renames.renamed_constraint renames.fits_in_name renames.one_free add_column add_columns change_column column_added drop_column drop_default column_keys_added allowed_drop allowed_change changed never_nulled remade redefined default_of is_index_lacking rename_column set_default column_renamed arranged by_class rank has_nullable is_nullable column_of column_type kept_default kept_by kept_number kept_text is_in_range decimal_text one_key key_of one_more key_name with_index add_key drop_index rename_index has_index_on add_foreign_key drop_foreign_key one_foreign_key constraint_name with_key_index foreign_key_of name_is_free
keys_refused_computed = refl

pub foreign_keys_refused_computed : AllCome foreign_keys_refused
unfolding resolved schema_there all_resolved names_of one_child children_of altered all_acted alter_table one_action within_limits all_keys_fit own_key_fits pairs_fit asks_rebuild changes_moved are_autos_led are_few_autos leads_index parent_of renames.name_is_free renames.renamed_keys renames.renamed_key renames.renamed_constraint renames.fits_in_name renames.one_free add_column add_columns change_column column_added drop_column drop_default column_keys_added allowed_drop allowed_change changed never_nulled remade redefined default_of is_index_lacking rename_column set_default column_renamed arranged by_class rank has_nullable is_nullable column_of column_type kept_default kept_by kept_number kept_text is_in_range decimal_text one_key key_of one_more key_name with_index add_key drop_index rename_index has_index_on add_foreign_key drop_foreign_key one_foreign_key constraint_name with_key_index foreign_key_of name_is_free
foreign_keys_refused_computed = refl

pub whole_rebuilt_computed : AllTake whole_rebuilt
unfolding resolved schema_there all_resolved names_of one_child children_of altered all_acted alter_table one_action within_limits all_keys_fit own_key_fits pairs_fit asks_rebuild changes_moved are_autos_led are_few_autos leads_index parent_of renames.name_is_free renames.renamed_keys renames.renamed_key renames.renamed_constraint renames.fits_in_name renames.one_free add_column add_columns change_column column_added drop_column drop_default column_keys_added allowed_drop allowed_change changed never_nulled remade redefined default_of is_index_lacking rename_column set_default column_renamed arranged by_class rank has_nullable is_nullable column_of column_type kept_default kept_by kept_number kept_text is_in_range decimal_text one_key key_of one_more key_name with_index add_key drop_index rename_index has_index_on add_foreign_key drop_foreign_key one_foreign_key constraint_name with_key_index foreign_key_of name_is_free
whole_rebuilt_computed = refl

pub columns_rebuilt_computed : AllTake columns_rebuilt
unfolding resolved schema_there all_resolved names_of one_child children_of altered all_acted alter_table one_action within_limits all_keys_fit own_key_fits pairs_fit asks_rebuild changes_moved are_autos_led are_few_autos leads_index parent_of renames.name_is_free renames.renamed_keys renames.renamed_key renames.renamed_constraint renames.fits_in_name renames.one_free add_column add_columns change_column column_added drop_column drop_default column_keys_added allowed_drop allowed_change changed never_nulled remade redefined default_of is_index_lacking rename_column set_default column_renamed arranged by_class rank has_nullable is_nullable column_of column_type kept_default kept_by kept_number kept_text is_in_range decimal_text one_key key_of one_more key_name with_index add_key drop_index rename_index has_index_on add_foreign_key drop_foreign_key one_foreign_key constraint_name with_key_index foreign_key_of name_is_free
columns_rebuilt_computed = refl

pub keys_rebuilt_computed : AllTake keys_rebuilt
unfolding resolved schema_there all_resolved names_of one_child children_of altered all_acted alter_table one_action within_limits all_keys_fit own_key_fits pairs_fit asks_rebuild changes_moved are_autos_led are_few_autos leads_index parent_of renames.name_is_free renames.renamed_keys renames.renamed_key renames.renamed_constraint renames.fits_in_name renames.one_free add_column add_columns change_column column_added drop_column drop_default column_keys_added allowed_drop allowed_change changed never_nulled remade redefined default_of is_index_lacking rename_column set_default column_renamed arranged by_class rank has_nullable is_nullable column_of column_type kept_default kept_by kept_number kept_text is_in_range decimal_text one_key key_of one_more key_name with_index add_key drop_index rename_index has_index_on add_foreign_key drop_foreign_key one_foreign_key constraint_name with_key_index foreign_key_of name_is_free
keys_rebuilt_computed = refl

pub definitions_computed : AllCome definitions
unfolding resolved schema_there all_resolved names_of one_child children_of altered all_acted alter_table one_action within_limits all_keys_fit own_key_fits pairs_fit asks_rebuild changes_moved are_autos_led are_few_autos leads_index parent_of renames.name_is_free renames.renamed_keys renames.renamed_key renames.renamed_constraint renames.fits_in_name renames.one_free add_column add_columns change_column column_added drop_column drop_default column_keys_added allowed_drop allowed_change changed never_nulled remade redefined default_of is_index_lacking rename_column set_default column_renamed arranged by_class rank has_nullable is_nullable column_of column_type kept_default kept_by kept_number kept_text is_in_range decimal_text one_key key_of one_more key_name with_index add_key drop_index rename_index has_index_on add_foreign_key drop_foreign_key one_foreign_key constraint_name with_key_index foreign_key_of name_is_free
definitions_computed = refl
