-- SHOW and TABLE list something where they aren't refused. So they change no catalog and no session, and make no tablespace.
use Rattle.std.specs.Prelude.{◌≡◌, ℕ, List, [], Option, Some, None, true}
use Rattle.dd_names.specs.declared.object_name.ObjName.{ObjName}
use Rattle.dd_errors.specs.Errors.{ErrorValue}
use Rattle.sql_types.specs.declared.words.ObjRef.{ObjRef}
use Rattle.sql_ast.specs.Names.{session_is_named}
use Rattle.sql_ast.specs.declared.session.SessionState.{SessionState}
use Rattle.sql_ast.specs.declared.show.ShowStatement.{ShowStatement}
use Rattle.sql_ast.specs.declared.show.ShowStatement.TheVariants as shows
use Rattle.sql_ast.specs.declared.show.ShownCreation.{ShownCreation}
use Rattle.sql_ast.specs.declared.show.ShownCreation.TheVariants as creations
use Rattle.dd_catalog.specs.Catalog.{Catalog, all_of}
use Rattle.dd_catalog.specs.Valid.{IsValid}
use Rattle.dd_catalog.specs.Sights.{Sight, TableThere, ViewThere}
use Rattle.dd_catalog.specs.Walks.{Walk, done, refuse, ask, over}
use Rattle.rules_outcome.specs.Choices.{Choice, Same, Changes, Lists, catalog_behind, session_behind}
use Rattle.rules_elements.specs.Keys.{first_given}
use Rattle.rules_schema.specs.Listings.{show_databases, chosen_schema, show_tables, names_seen}
use Rattle.rules_named.specs.Named.{schema_there, one_named}
use Rattle.rules_valid.specs.Keeps.{KeepsValid, KeepsNamed, MakesOneSpace}
use Rattle.rules_valid.proofs.Spaces.{Ends, ends_after, ends_so, KeepsNone, makes_one}
use Rattle.rules_show.specs.Shows.{show_create_database, object_shown, view_shown, show_create_table, show_create_view}
use Rattle.info_schema.specs.declared.tables.InfoTable.{InfoTable}
use Rattle.info_schema.specs.declared.tables.InfoTable.TheVariants as tables
use Rattle.info_schema.specs.Tables.{table_named}
use Rattle.info_schema.specs.Listings.{with_schema, objects_listing, schemata_listing, listing, listing_of, information}
use Rattle.rules_views.specs.Columns.{source_seen}
use Rattle.rules_views.specs.Shows.{view_columns, columns_shown, show_columns}
use Rattle.rules_decide.specs.Outcome.{creation_outcome, show_outcome}

abbrev pub OnlyLists : Choice → Type 0
OnlyLists Same = ⊥
OnlyLists (Changes changes session) = ⊥
OnlyLists (Lists listing) = Unit {0}

-- ## What follows of it

valid_behind : (cat : Catalog) (space : ℕ) (choice : Choice) → OnlyLists choice → IsValid cat → IsValid (catalog_behind space choice cat)
valid_behind cat space Same lists valid = elim lists [ ]
valid_behind cat space (Changes changes session) lists valid = elim lists [ ]
valid_behind cat space (Lists listing) lists valid = valid

pub listings_keep : {check : Walk ErrorValue Choice} → Ends OnlyLists check → KeepsValid check
listings_keep {check = check} ends = record { keeps = λ cat space choice valid number found. valid_behind cat space choice (ends_so OnlyLists (all_of cat) check choice ends found) valid }

named_behind : (session : SessionState) (choice : Choice) → OnlyLists choice → session_is_named session ≡ true → session_is_named (session_behind choice session) ≡ true
named_behind session Same lists named = elim lists [ ]
named_behind session (Changes changes next) lists named = elim lists [ ]
named_behind session (Lists listing) lists named = named

pub listings_leave : {session : SessionState} {check : Walk ErrorValue Choice} → Ends OnlyLists check → KeepsNamed session check
listings_leave {session = session} {check = check} ends = record { named = λ look choice named found. named_behind session choice (ends_so OnlyLists look check choice ends found) named }

keeps_none : (choice : Choice) → OnlyLists choice → KeepsNone choice
keeps_none Same lists = elim lists [ ]
keeps_none (Changes changes session) lists = elim lists [ ]
keeps_none (Lists listing) lists = tt

ends_keep_none : (check : Walk ErrorValue Choice) → Ends OnlyLists check → Ends KeepsNone check
ends_keep_none (done choice) ends = keeps_none choice ends
ends_keep_none (refuse error) ends = tt
ends_keep_none (ask key go) ends = λ seen. ends_keep_none (go seen) (ends seen)

pub listings_make : {check : Walk ErrorValue Choice} → Ends OnlyLists check → MakesOneSpace check
listings_make {check = check} ends = makes_one check (ends_keep_none check ends)

-- ## SHOW DATABASES and SHOW TABLES

databases_list : Ends OnlyLists show_databases
unfolding show_databases
databases_list = λ seen. tt

tables_list : (session : SessionState) (named : Option (List ℕ)) → Ends OnlyLists (show_tables session named)
unfolding show_tables
tables_list session named = ends_after OnlyLists (chosen_schema (first_given named session.current)) _ (λ schema. ends_after OnlyLists (schema_there schema) _ (λ _ seen. tt))

-- ## SHOW CREATE

object_lists : (object : ObjName) (seen : Sight) → Ends OnlyLists (object_shown object seen)
object_lists object (TableThere number parts) = tt
object_lists object (ViewThere parts) = tt
object_lists object _ = tt

view_lists : (object : ObjName) (seen : Sight) → Ends OnlyLists (view_shown object seen)
view_lists object (TableThere number parts) = tt
view_lists object (ViewThere parts) = tt
view_lists object _ = tt

database_lists : (name : List ℕ) → Ends OnlyLists (show_create_database name)
unfolding show_create_database
database_lists name = ends_after OnlyLists (schema_there name) _ (λ _. tt)

created_table_lists : (session : SessionState) (object : ObjRef) → Ends OnlyLists (show_create_table session object)
unfolding show_create_table
created_table_lists session object = ends_after OnlyLists (one_named session.current object) _ object_lists

created_view_lists : (session : SessionState) (object : ObjRef) → Ends OnlyLists (show_create_view session object)
unfolding show_create_view
created_view_lists session object = ends_after OnlyLists (one_named session.current object) _ view_lists

creation_lists : (session : SessionState) (shown : ShownCreation) → Ends OnlyLists (creation_outcome session shown)
creation_lists session (creations.Database name) = database_lists name
creation_lists session (creations.Table object) = created_table_lists session object
creation_lists session (creations.View object) = created_view_lists session object

-- ## SHOW COLUMNS and TABLE

seen_columns_list : (object : ObjName) (seen : Sight) → Ends OnlyLists (columns_shown object seen)
unfolding view_columns
seen_columns_list object (TableThere space parts) = tt
seen_columns_list object (ViewThere parts) = ends_after OnlyLists (source_seen 32 object [] [] object (ViewThere parts)) _ (λ _. tt)
seen_columns_list object _ = tt

columns_list : (session : SessionState) (object : ObjRef) → Ends OnlyLists (show_columns session object)
unfolding show_columns
columns_list session object = ends_after OnlyLists (one_named session.current object) _ seen_columns_list

objects_list : (table : InfoTable) → Ends OnlyLists (objects_listing table)
unfolding objects_listing
objects_list table = λ seen. ends_after OnlyLists (over (with_schema table) [] (names_seen seen)) _ (λ _. tt)

table_lists : (table : InfoTable) → Ends OnlyLists (listing table)
unfolding schemata_listing
table_lists tables.Schemata = λ seen. tt
table_lists tables.Tables = objects_list tables.Tables
table_lists tables.Columns = objects_list tables.Columns
table_lists tables.Statistics = objects_list tables.Statistics
table_lists tables.KeyColumnUsage = objects_list tables.KeyColumnUsage
table_lists tables.ReferentialConstraints = objects_list tables.ReferentialConstraints
table_lists tables.Views = objects_list tables.Views

named_table_lists : (name : List ℕ) (table : Option InfoTable) → Ends OnlyLists (listing_of name table)
named_table_lists name None = tt
named_table_lists name (Some table) = table_lists table

information_lists : (name : List ℕ) → Ends OnlyLists (information name)
unfolding information
information_lists name = named_table_lists name (table_named name)

-- ## All of them

pub show_lists : (session : SessionState) (statement : ShowStatement) → Ends OnlyLists (show_outcome session statement)
show_lists session shows.Databases = databases_list
show_lists session (shows.Tables schema) = tables_list session schema
show_lists session (shows.Columns object) = columns_list session object
show_lists session (shows.Creation shown) = creation_lists session shown
show_lists session (shows.Information table) = information_lists table
