-- The locks of alterations, and lists of locks, computed.
use Rattle.std.specs.Prelude.{refl}
use Rattle.std.specs.Fmt.{digits}
use Rattle.dd_definitions.specs.Columns.{is_nullable}
use Rattle.dd_definitions.specs.ForeignKeys.{has_index_on}
use Rattle.dd_definitions.specs.Indexes.{are_few_autos, has_nullable, leads_index, rank}
use Rattle.rules_elements.specs.Columns.{column_of, column_type, kept_default}
use Rattle.rules_elements.specs.Defaults.{decimal_text, is_in_range, kept_by, kept_number, kept_text}
use Rattle.rules_elements.specs.ForeignKeys.{foreign_key_of, name_is_free as constraint_is_free, parent_of}
use Rattle.rules_elements.specs.Keys.{key_name, key_of, one_more}
use Rattle.rules_named.specs.Named.{all_named, one_named, resolved, schema_there}
use Rattle.rules_schema.specs.Drops.{drop_table, is_there, no_child_stays, refuse_for}
use Rattle.rules_schema.specs.Listings.{show_tables}
use Rattle.rules_create.specs.Tables.{all_columns, are_autos_led, by_class, constraint_name, create_table, one_column, one_foreign_key, one_key, table_of, with_index, with_key_index}
use Rattle.rules_create.specs.Tables as creates
use Rattle.rules_rename.specs.Renames.{fits_in_name, name_is_free, one_free, renamed_constraint, renamed_key, renamed_keys}
use Rattle.rules_alter.specs.Actions.{one_action}
use Rattle.rules_alter.specs.Altering.{column_renamed}
use Rattle.rules_alter.specs.Arranged.{arranged}
use Rattle.rules_alter.specs.Columns.{add_column, add_columns, allowed_change, allowed_drop, change_column, changed, column_added, column_keys_added, default_of, drop_column, drop_default, never_nulled, redefined, remade, rename_column, set_default}
use Rattle.rules_alter.specs.ForeignKeys.{add_foreign_key, all_keys_fit, drop_foreign_key, own_key_fits, pairs_fit}
use Rattle.rules_alter.specs.Keys.{add_key, drop_index, is_index_lacking, rename_index}
use Rattle.rules_alter.specs.Rebuilds.{asks_rebuild}
use Rattle.rules_alter.specs.Statements.{all_acted, all_resolved, alter_table, altered, changes_moved, children_of, names_of, one_child, within_limits}
use Rattle.rules_locks.specs.Claims.{with_claim}
use Rattle.rules_locks.specs.Holdings.{holding}
use Rattle.rules_locks.specs.Locks.{locks}
use Rattle.rules_locks_examples.specs.Alters as alters
use Rattle.rules_locks_examples.specs.Asked.{AllAre}
use Rattle.rules_locks_examples.specs.Parts as parts

pub of_parent : AllAre alters.of_parent
unfolding with_claim holding locks digits resolved schema_there all_resolved names_of one_child children_of altered all_acted alter_table one_action within_limits all_keys_fit own_key_fits pairs_fit asks_rebuild changes_moved are_autos_led are_few_autos leads_index parent_of name_is_free renamed_keys renamed_key renamed_constraint fits_in_name one_free add_column add_columns change_column column_added drop_column drop_default column_keys_added allowed_drop allowed_change changed never_nulled remade redefined default_of is_index_lacking rename_column set_default column_renamed arranged by_class rank has_nullable is_nullable column_of column_type kept_default kept_by kept_number kept_text is_in_range decimal_text one_key key_of one_more key_name with_index add_key drop_index rename_index has_index_on add_foreign_key drop_foreign_key one_foreign_key constraint_name with_key_index foreign_key_of constraint_is_free
of_parent = refl

pub of_child : AllAre alters.of_child
unfolding with_claim holding locks digits resolved schema_there all_resolved names_of one_child children_of altered all_acted alter_table one_action within_limits all_keys_fit own_key_fits pairs_fit asks_rebuild changes_moved are_autos_led are_few_autos leads_index parent_of name_is_free renamed_keys renamed_key renamed_constraint fits_in_name one_free add_column add_columns change_column column_added drop_column drop_default column_keys_added allowed_drop allowed_change changed never_nulled remade redefined default_of is_index_lacking rename_column set_default column_renamed arranged by_class rank has_nullable is_nullable column_of column_type kept_default kept_by kept_number kept_text is_in_range decimal_text one_key key_of one_more key_name with_index add_key drop_index rename_index has_index_on add_foreign_key drop_foreign_key one_foreign_key constraint_name with_key_index foreign_key_of constraint_is_free
of_child = refl

pub referring : AllAre alters.referring
unfolding with_claim holding locks digits resolved schema_there all_resolved names_of one_child children_of altered all_acted alter_table one_action within_limits all_keys_fit own_key_fits pairs_fit asks_rebuild changes_moved are_autos_led are_few_autos leads_index parent_of name_is_free renamed_keys renamed_key renamed_constraint fits_in_name one_free add_column add_columns change_column column_added drop_column drop_default column_keys_added allowed_drop allowed_change changed never_nulled remade redefined default_of is_index_lacking rename_column set_default column_renamed arranged by_class rank has_nullable is_nullable column_of column_type kept_default kept_by kept_number kept_text is_in_range decimal_text one_key key_of one_more key_name with_index add_key drop_index rename_index has_index_on add_foreign_key drop_foreign_key one_foreign_key constraint_name with_key_index foreign_key_of constraint_is_free
referring = refl

pub moved : AllAre alters.moved
unfolding with_claim holding locks digits resolved schema_there all_resolved names_of one_child children_of altered all_acted alter_table one_action within_limits all_keys_fit own_key_fits pairs_fit asks_rebuild changes_moved are_autos_led are_few_autos leads_index parent_of name_is_free renamed_keys renamed_key renamed_constraint fits_in_name one_free add_column add_columns change_column column_added drop_column drop_default column_keys_added allowed_drop allowed_change changed never_nulled remade redefined default_of is_index_lacking rename_column set_default column_renamed arranged by_class rank has_nullable is_nullable column_of column_type kept_default kept_by kept_number kept_text is_in_range decimal_text one_key key_of one_more key_name with_index add_key drop_index rename_index has_index_on add_foreign_key drop_foreign_key one_foreign_key constraint_name with_key_index foreign_key_of constraint_is_free
moved = refl

pub absent : AllAre alters.absent
unfolding with_claim holding locks digits resolved schema_there all_resolved names_of one_child children_of altered all_acted alter_table one_action within_limits all_keys_fit own_key_fits pairs_fit asks_rebuild changes_moved are_autos_led are_few_autos leads_index parent_of name_is_free renamed_keys renamed_key renamed_constraint fits_in_name one_free add_column add_columns change_column column_added drop_column drop_default column_keys_added allowed_drop allowed_change changed never_nulled remade redefined default_of is_index_lacking rename_column set_default column_renamed arranged by_class rank has_nullable is_nullable column_of column_type kept_default kept_by kept_number kept_text is_in_range decimal_text one_key key_of one_more key_name with_index add_key drop_index rename_index has_index_on add_foreign_key drop_foreign_key one_foreign_key constraint_name with_key_index foreign_key_of constraint_is_free
absent = refl

pub keyed : AllAre alters.keyed
unfolding with_claim holding locks digits resolved schema_there all_resolved names_of one_child children_of altered all_acted alter_table one_action within_limits all_keys_fit own_key_fits pairs_fit asks_rebuild changes_moved are_autos_led are_few_autos leads_index parent_of name_is_free renamed_keys renamed_key renamed_constraint fits_in_name one_free add_column add_columns change_column column_added drop_column drop_default column_keys_added allowed_drop allowed_change changed never_nulled remade redefined default_of is_index_lacking rename_column set_default column_renamed arranged by_class rank has_nullable is_nullable column_of column_type kept_default kept_by kept_number kept_text is_in_range decimal_text one_key key_of one_more key_name with_index add_key drop_index rename_index has_index_on add_foreign_key drop_foreign_key one_foreign_key constraint_name with_key_index foreign_key_of constraint_is_free
keyed = refl

pub partly_known : AllAre parts.partly_known
unfolding with_claim holding locks digits one_named all_named refuse_for no_child_stays is_there drop_table resolved schema_there all_resolved names_of one_child children_of altered all_acted alter_table one_action within_limits all_keys_fit own_key_fits pairs_fit asks_rebuild changes_moved are_autos_led are_few_autos leads_index parent_of name_is_free renamed_keys renamed_key renamed_constraint fits_in_name one_free add_column add_columns change_column column_added drop_column drop_default column_keys_added allowed_drop allowed_change changed never_nulled remade redefined default_of is_index_lacking rename_column set_default column_renamed arranged by_class rank has_nullable is_nullable column_of column_type kept_default kept_by kept_number kept_text is_in_range decimal_text one_key key_of one_more key_name with_index add_key drop_index rename_index has_index_on add_foreign_key drop_foreign_key one_foreign_key constraint_name with_key_index foreign_key_of constraint_is_free
partly_known = refl

pub viewed : AllAre parts.viewed
unfolding with_claim holding locks
viewed = refl

pub judged : parts.AllAreJudged parts.judged
unfolding holding digits one_named all_named refuse_for no_child_stays is_there drop_table show_tables one_column all_columns creates.within_limits table_of create_table resolved schema_there all_resolved names_of one_child children_of altered all_acted alter_table one_action within_limits all_keys_fit own_key_fits pairs_fit asks_rebuild changes_moved are_autos_led are_few_autos leads_index parent_of name_is_free renamed_keys renamed_key renamed_constraint fits_in_name one_free add_column add_columns change_column column_added drop_column drop_default column_keys_added allowed_drop allowed_change changed never_nulled remade redefined default_of is_index_lacking rename_column set_default column_renamed arranged by_class rank has_nullable is_nullable column_of column_type kept_default kept_by kept_number kept_text is_in_range decimal_text one_key key_of one_more key_name with_index add_key drop_index rename_index has_index_on add_foreign_key drop_foreign_key one_foreign_key constraint_name with_key_index foreign_key_of constraint_is_free
judged = refl
