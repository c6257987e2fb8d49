-- Statements on schemas, and those that list.
use Rattle.std.specs.Prelude.{true, false, List, [], ◌∷◌, None, codes}
use Rattle.sql_ast.specs.declared.schema.SchemaStatement.TheVariants as schemas
use Rattle.sql_ast.specs.declared.session.SessionStatement.TheVariants as sessions
use Rattle.sql_ast.specs.declared.show.ShowStatement.TheVariants as shows
use Rattle.sql_ast.specs.declared.show.ShownCreation.TheVariants as creations
use Rattle.sql_ast.specs.declared.statement.Statement.TheVariants.{Schema, Show, Session, Bad}
use Rattle.dd_catalog.specs.Walks.{refuse}
use Rattle.rules_schema.specs.Schemas.{create_database, drop_database}
use Rattle.rules_schema.specs.Sessions.{use_schema, set_tries}
use Rattle.rules_schema.specs.Listings.{show_databases, show_tables}
use Rattle.rules_show.specs.Shows.{show_create_database, show_create_table, show_create_view}
use Rattle.rules_locks_examples.specs.Family.{session, named, of_e}
use Rattle.rules_locks_examples.specs.Asked.{asked, ix, s, x, all, schema, d, e, Case}

abbrev pub made : List Case
made =
    -- CREATE DATABASE n
    (asked (Schema (schemas.Create false (codes "n"))) (create_database session false (codes "n")), ix all ∷ x (schema "n") ∷ [])
    -- the same of one that is there, 1007
    ∷ (asked (Schema (schemas.Create false (codes "d"))) (create_database session false (codes "d")), ix all ∷ x (schema "d") ∷ [])
    ∷ []

abbrev pub gone : List Case
gone =
    -- DROP DATABASE e
    (asked (Schema (schemas.Drop false (codes "e"))) (drop_database session false (codes "e")), ix all ∷ x (schema "e") ∷ [])
    -- DROP DATABASE d, which the child outside keeps from going
    ∷ (asked (Schema (schemas.Drop false (codes "d"))) (drop_database session false (codes "d")), ix all ∷ x (schema "d") ∷ ix (schema "e") ∷ s (e "q") ∷ [])
    -- DROP DATABASE n, which isn't there
    ∷ (asked (Schema (schemas.Drop true (codes "n"))) (drop_database session true (codes "n")), ix all ∷ x (schema "n") ∷ [])
    ∷ []

abbrev pub listed : List Case
listed =
    -- USE e
    (asked (Session (sessions.Use (codes "e"))) (use_schema session (codes "e")), ix (schema "e") ∷ [])
    -- SHOW CREATE DATABASE e
    ∷ (asked (Show (shows.Creation (creations.Database (codes "e")))) (show_create_database (codes "e")), ix (schema "e") ∷ [])
    -- SHOW TABLES
    ∷ (asked (Show (shows.Tables None)) (show_tables session None), s (schema "d") ∷ [])
    -- SHOW DATABASES
    ∷ (asked (Show shows.Databases) show_databases, s all ∷ [])
    -- SHOW CREATE TABLE p
    ∷ (asked (Show (shows.Creation (creations.Table (named "p")))) (show_create_table session (named "p")), ix (schema "d") ∷ s (d "p") ∷ [])
    -- SHOW CREATE VIEW v
    ∷ (asked (Show (shows.Creation (creations.View (named "v")))) (show_create_view session (named "v")), ix (schema "d") ∷ s (d "v") ∷ [])
    -- SHOW CREATE TABLE e.t, which isn't there
    ∷ (asked (Show (shows.Creation (creations.Table (of_e "t")))) (show_create_table session (of_e "t")), ix (schema "e") ∷ s (e "t") ∷ [])
    -- SET
    ∷ (asked (Session (sessions.SetTries 3)) (set_tries session 3), [])
    -- a text outside the grammar
    ∷ (asked (Bad (record { number = 1064; args = [] })) (refuse (record { number = 1064; args = [] })), [])
    ∷ []
