-- Each of the statements, computed.
use Rattle.std.specs.Prelude.{refl}
use Rattle.dd_names.specs.Reserved.{is_system_schema}
use Rattle.rules_named.specs.Named.{resolved, schema_there, one_named, all_named}
use Rattle.rules_schema.specs.Drops.{refuse_for, no_child_stays, is_there, drop_table}
use Rattle.rules_schema.specs.Schemas.{is_schema_present, create_database, may_go, schema_gone, drop_database}
use Rattle.rules_tables.specs.Likes.{both_named, both_resolved, both_schemas_there, create_like, like_named}
use Rattle.rules_tables.specs.Truncates.{child_refused, no_child, truncate}
use Rattle.rules_rename.specs.Renames.{renamed_constraint, renamed_key, fits_in_name, one_free, renamed_keys, renamed_child, name_is_free, renamed_table, renamed_view, renamed_object}
use Rattle.rules_show.specs.Listings.{text_listed, database_listed, table_listed, view_listed}
use Rattle.rules_show.specs.Shows.{show_create_database, show_create_table, show_create_view}
use Rattle.rules_outcome_examples.specs.Catalogs.{AllCome, known}
use Rattle.rules_outcome_examples.specs.Drops.{dropped_tables, dropped_schemas}
use Rattle.rules_outcome_examples.specs.Renamings.{renamed, not_renamed}
use Rattle.rules_outcome_examples.specs.Shows.{shown}
use Rattle.rules_outcome_examples.specs.Tables.{emptied, liked}

pub dropped_tables_computed : AllCome known dropped_tables
unfolding resolved schema_there all_named refuse_for no_child_stays is_there drop_table
dropped_tables_computed = refl

pub dropped_schemas_computed : AllCome known dropped_schemas
unfolding is_system_schema refuse_for no_child_stays is_schema_present create_database may_go schema_gone drop_database
dropped_schemas_computed = refl

pub renamed_computed : AllCome known renamed
unfolding renamed_constraint renamed_key fits_in_name one_free renamed_keys renamed_child name_is_free renamed_table renamed_view renamed_object
renamed_computed = refl

pub not_renamed_computed : AllCome known not_renamed
unfolding renamed_constraint renamed_key fits_in_name one_free renamed_keys renamed_child name_is_free renamed_table renamed_view renamed_object
not_renamed_computed = refl

pub shown_computed : AllCome known shown
unfolding resolved schema_there one_named text_listed database_listed table_listed view_listed show_create_database show_create_table show_create_view
shown_computed = refl

pub liked_computed : AllCome known liked
unfolding resolved schema_there both_named both_resolved both_schemas_there like_named create_like
liked_computed = refl

pub emptied_computed : AllCome known emptied
unfolding resolved schema_there one_named child_refused no_child truncate
emptied_computed = refl
