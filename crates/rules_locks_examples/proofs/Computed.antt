-- The locks of each statement, computed.
use Rattle.std.specs.Prelude.{refl}
use Rattle.std.specs.Fmt.{digits}
use Rattle.dd_names.specs.Reserved.{is_system_schema}
use Rattle.dd_definitions.specs.Columns.{is_nullable}
use Rattle.dd_definitions.specs.ForeignKeys.{has_index_on}
use Rattle.dd_definitions.specs.Indexes.{has_nullable, rank, leads_index, are_few_autos}
use Rattle.rules_elements.specs.Columns.{column_type, kept_default, column_of}
use Rattle.rules_elements.specs.ForeignKeys.{parent_of, name_is_free as constraint_is_free, foreign_key_of}
use Rattle.rules_elements.specs.Keys.{one_more, key_name, key_of}
use Rattle.rules_named.specs.Named.{resolved, schema_there, one_named, all_named}
use Rattle.rules_schema.specs.Drops.{refuse_for, no_child_stays, is_there, drop_table}
use Rattle.rules_schema.specs.Listings.{show_databases, show_tables}
use Rattle.rules_schema.specs.Schemas.{is_schema_present, create_database, may_go, schema_gone, drop_database}
use Rattle.rules_schema.specs.Sessions.{use_schema, set_tries}
use Rattle.rules_create.specs.Tables.{one_column, all_columns, with_index, one_key, constraint_name, with_key_index, one_foreign_key, by_class, are_autos_led, within_limits, table_of, create_table}
use Rattle.rules_tables.specs.Likes.{both_resolved, both_schemas_there, both_named, like_named, create_like}
use Rattle.rules_tables.specs.Truncates.{child_refused, no_child, truncate}
use Rattle.rules_rename.specs.Renames.{renamed_constraint, renamed_key, fits_in_name, one_free, renamed_keys, renamed_child, name_is_free, renamed_table, renamed_view, renamed_object, schemas_there}
use Rattle.rules_show.specs.Shows.{show_create_database, show_create_table, show_create_view}
use Rattle.rules_locks.specs.Claims.{with_claim}
use Rattle.rules_locks.specs.Holdings.{holding}
use Rattle.rules_locks.specs.Locks.{locks}
use Rattle.rules_locks_examples.specs.Asked.{AllAre}
use Rattle.rules_locks_examples.specs.Schemas as schemas
use Rattle.rules_locks_examples.specs.Tables as tables

pub schemas_made : AllAre schemas.made
unfolding with_claim holding locks is_system_schema is_schema_present create_database
schemas_made = refl

pub schemas_gone : AllAre schemas.gone
unfolding with_claim holding locks may_go schema_gone drop_database refuse_for no_child_stays
schemas_gone = refl

pub listed : AllAre schemas.listed
unfolding with_claim holding locks resolved schema_there one_named use_schema set_tries show_databases show_tables show_create_database show_create_table show_create_view
listed = refl

pub tables_made : AllAre tables.made
unfolding with_claim holding locks digits is_nullable has_index_on has_nullable rank leads_index are_few_autos column_type kept_default column_of parent_of constraint_is_free foreign_key_of one_more key_name key_of resolved schema_there one_named one_column all_columns with_index one_key constraint_name with_key_index one_foreign_key by_class are_autos_led within_limits table_of create_table
tables_made = refl

pub copied : AllAre tables.copied
unfolding with_claim holding locks resolved schema_there both_resolved both_schemas_there both_named like_named create_like
copied = refl

pub tables_gone : AllAre tables.gone
unfolding with_claim holding locks resolved schema_there one_named all_named refuse_for no_child_stays is_there drop_table
tables_gone = refl

pub renewed : AllAre tables.renewed
unfolding with_claim holding locks resolved schema_there one_named child_refused no_child truncate
renewed = refl

pub moved : AllAre tables.moved
unfolding with_claim holding locks resolved schema_there renamed_constraint renamed_key fits_in_name one_free renamed_keys renamed_child name_is_free renamed_table renamed_view renamed_object schemas_there
moved = refl
