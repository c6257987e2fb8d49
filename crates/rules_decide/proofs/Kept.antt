-- Each statement keeps a valid catalog valid, and makes one tablespace at most.
use Rattle.std.specs.Prelude.{◌≡◌, Bool, true, false, ◌&&◌, List, Option, Some, refl}
use Rattle.std.specs.List.{list_all}
use Rattle.std.specs.FinMap as finite_map
use Rattle.std.proofs.Common.{subst, inl}
use Rattle.dd_errors.specs.Errors.{ErrorValue}
use Rattle.sql_ast.specs.Names.{is_object_named, is_pair_named, schema_says_names, body_says_names, table_says_names, says_names, session_is_named}
use Rattle.sql_ast.specs.declared.session.SessionState.{SessionState}
use Rattle.sql_ast.specs.declared.table.RenamePair.{RenamePair}
use Rattle.sql_ast.specs.declared.statement.Statement.{Statement}
use Rattle.sql_ast.specs.declared.statement.Statement.TheVariants as is
use Rattle.sql_ast.specs.declared.schema.SchemaStatement.{SchemaStatement}
use Rattle.sql_ast.specs.declared.schema.SchemaStatement.TheVariants as schemas
use Rattle.sql_ast.specs.declared.session.SessionStatement.{SessionStatement}
use Rattle.sql_ast.specs.declared.session.SessionStatement.TheVariants as sessions
use Rattle.sql_ast.specs.declared.table.TableBody.{TableBody}
use Rattle.sql_ast.specs.declared.table.TableBody.TheVariants as bodies
use Rattle.sql_ast.specs.declared.table.TableStatement.{TableStatement}
use Rattle.sql_ast.specs.declared.table.TableStatement.TheVariants as tables
use Rattle.dd_catalog.specs.Walks.{Walk, refuse}
use Rattle.rules_outcome.specs.Choices.{Choice}
use Rattle.rules_rename.specs.Renames.{rename}
use Rattle.rules_valid.specs.Keeps.{KeepsValid, MakesOneSpace}
use Rattle.rules_valid.proofs.Readings.{use_keeps, set_keeps}
use Rattle.rules_valid.proofs.Schemas.{create_keeps}
use Rattle.rules_valid.proofs.Drops.{drop_database_keeps, drop_table_keeps}
use Rattle.rules_valid.proofs.Emptied.{truncate_keeps, truncate_makes}
use Rattle.rules_valid.proofs.Likes.{create_like_keeps, create_like_makes}
use Rattle.rules_valid.proofs.Tables.{create_table_keeps}
use Rattle.sql_types.specs.declared.words.ObjRef.{ObjRef}
use Rattle.rules_decide.proofs.Listings.{listings_keep, listings_make, show_lists}
use Rattle.rules_valid.proofs.Spaces.{create_database_makes, drop_database_makes, use_makes, set_makes, drop_table_makes, create_table_makes}
use Rattle.rules_valid.proofs.RenamedSound.{HoldsSpace}
use Rattle.rules_valid.proofs.RenamedAll.{rename_keeps, rename_keeps_spaces}
use Rattle.rules_decide.specs.Outcome.{schema_outcome, body_outcome, table_outcome, session_outcome, outcome}

some_is : {A : Type 0} {x y : A} → ◌≡◌ {A = Option A} (Some x) (Some y) → x ≡ y
some_is e = cc

-- the check of the statement, which keeps a valid catalog valid, is this one
same_check : {one other : Walk ErrorValue Choice} → KeepsValid one → ◌≡◌ {A = Option (Walk ErrorValue Choice)} (Some one) (Some other) → KeepsValid other
same_check kept e = subst KeepsValid (some_is e) kept

-- tests that both hold
both_hold : (a b : Bool) → (a && b) ≡ true → (a ≡ true) × (b ≡ true)
both_hold true b e = (refl, e)
both_hold false b e = cc

renames_keep : (session : SessionState) (pairs : List RenamePair) → session_is_named session ≡ true → list_all is_pair_named pairs ≡ true → KeepsValid (rename session pairs)
renames_keep session pairs current said = record { keeps = λ cat space choice valid number found. rename_keeps cat space session pairs choice current said valid found }

refusals_keep : (error : ErrorValue) → KeepsValid (refuse error)
refusals_keep error = record { keeps = λ cat space choice valid number found. cc }

schema_kept : (session : SessionState) (statement : SchemaStatement) → schema_says_names statement ≡ true → KeepsValid (schema_outcome session statement)
schema_kept session (schemas.Create if_not_exists name) said = create_keeps session if_not_exists name said
schema_kept session (schemas.Drop if_exists name) said = drop_database_keeps session if_exists name

body_kept : (session : SessionState) (if_not_exists : Bool) (table : ObjRef) (body : TableBody) → session_is_named session ≡ true → is_object_named table ≡ true → body_says_names body ≡ true → KeepsValid (body_outcome session if_not_exists table body)
body_kept session if_not_exists table (bodies.Like source) current named said = create_like_keeps session if_not_exists table source current named
body_kept session if_not_exists table (bodies.Elements elements) current named said = create_table_keeps session if_not_exists table elements current named said

table_kept : (session : SessionState) (statement : TableStatement) (check : Walk ErrorValue Choice) → session_is_named session ≡ true → table_says_names statement ≡ true → table_outcome session statement ≡ Some check → KeepsValid check
table_kept session (tables.Create words) check current said e =
    let both = both_hold (is_object_named words.table) (body_says_names words.body) said in
    same_check (body_kept session words.if_not_exists words.table words.body current both.0 both.1) e
table_kept session (tables.Drop if_exists dropped) check current said e = same_check (drop_table_keeps session if_exists dropped) e
table_kept session (tables.Rename pairs) check current said e = same_check (renames_keep session pairs current said) e
table_kept session (tables.Truncate table) check current said e = same_check (truncate_keeps session table) e
table_kept session _ check current said e = cc

session_kept : (session : SessionState) (statement : SessionStatement) → KeepsValid (session_outcome session statement)
session_kept session (sessions.Use name) = use_keeps session name
session_kept session (sessions.SetTries value) = set_keeps session value

pub outcome_kept : (session : SessionState) (statement : Statement) (check : Walk ErrorValue Choice) → says_names statement ≡ true → session_is_named session ≡ true → outcome session statement ≡ Some check → KeepsValid check
outcome_kept session (is.Schema statement) check said current e = same_check (schema_kept session statement said) e
outcome_kept session (is.Table statement) check said current e = table_kept session statement check current said e
outcome_kept session (is.View statement) check said current e = cc
outcome_kept session (is.Show statement) check said current e = same_check (listings_keep (show_lists session statement)) e
outcome_kept session (is.Session statement) check said current e = same_check (session_kept session statement) e
outcome_kept session (is.Bad error) check said current e = same_check (refusals_keep error) e

-- ## Tablespaces

-- the check of the statement, which makes one tablespace at most, is this one
same_maker : {one other : Walk ErrorValue Choice} → MakesOneSpace one → ◌≡◌ {A = Option (Walk ErrorValue Choice)} (Some one) (Some other) → MakesOneSpace other
same_maker makes e = subst MakesOneSpace (some_is e) makes

renames_make : (session : SessionState) (pairs : List RenamePair) → MakesOneSpace (rename session pairs)
renames_make session pairs = record {
  made = λ cat space choice valid found name held parts has.
      let kept : HoldsSpace (finite_map.get cat.objects) held = (rename_keeps_spaces cat space session pairs choice valid found).held name held parts has.is in
      inl (record { name = kept.name; parts = kept.parts; has = record { is = kept.there } });
}

refusals_make : (error : ErrorValue) → MakesOneSpace (refuse error)
refusals_make error = record { made = λ cat space choice valid found name held parts has. cc }

schema_makes_one : (session : SessionState) (statement : SchemaStatement) → MakesOneSpace (schema_outcome session statement)
schema_makes_one session (schemas.Create if_not_exists name) = create_database_makes session if_not_exists name
schema_makes_one session (schemas.Drop if_exists name) = drop_database_makes session if_exists name

body_makes_one : (session : SessionState) (if_not_exists : Bool) (table : ObjRef) (body : TableBody) → MakesOneSpace (body_outcome session if_not_exists table body)
body_makes_one session if_not_exists table (bodies.Like source) = create_like_makes session if_not_exists table source
body_makes_one session if_not_exists table (bodies.Elements elements) = create_table_makes session if_not_exists table elements

table_makes_one : (session : SessionState) (statement : TableStatement) (check : Walk ErrorValue Choice) → table_outcome session statement ≡ Some check → MakesOneSpace check
table_makes_one session (tables.Create words) check e = same_maker (body_makes_one session words.if_not_exists words.table words.body) e
table_makes_one session (tables.Drop if_exists dropped) check e = same_maker (drop_table_makes session if_exists dropped) e
table_makes_one session (tables.Rename pairs) check e = same_maker (renames_make session pairs) e
table_makes_one session (tables.Truncate table) check e = same_maker (truncate_makes session table) e
table_makes_one session _ check e = cc

session_makes_one : (session : SessionState) (statement : SessionStatement) → MakesOneSpace (session_outcome session statement)
session_makes_one session (sessions.Use name) = use_makes session name
session_makes_one session (sessions.SetTries value) = set_makes session value

pub outcome_makes : (session : SessionState) (statement : Statement) (check : Walk ErrorValue Choice) → outcome session statement ≡ Some check → MakesOneSpace check
outcome_makes session (is.Schema statement) check e = same_maker (schema_makes_one session statement) e
outcome_makes session (is.Table statement) check e = table_makes_one session statement check e
outcome_makes session (is.View statement) check e = cc
outcome_makes session (is.Show statement) check e = same_maker (listings_make (show_lists session statement)) e
outcome_makes session (is.Session statement) check e = same_maker (session_makes_one session statement) e
outcome_makes session (is.Bad error) check e = same_maker (refusals_make error) e
