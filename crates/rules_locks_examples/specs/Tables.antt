-- Statements on tables.
use Rattle.std.specs.Prelude.{Bool, true, false, List, [], ◌∷◌, Some, None, codes}
use Rattle.dd_names.specs.declared.object_name.ObjName.{ObjName}
use Rattle.dd_errors.specs.Errors.{ErrorValue}
use Rattle.sql_types.specs.declared.words.ObjRef.{ObjRef}
use Rattle.sql_ast.specs.declared.element.Element.{Element}
use Rattle.sql_ast.specs.declared.statement.Statement.TheVariants.{Table}
use Rattle.sql_ast.specs.declared.table.TableBody.TheVariants.{Like, Elements}
use Rattle.sql_ast.specs.declared.table.TableStatement.TheVariants as tables
use Rattle.dd_catalog.specs.Walks.{Walk, done, ◌>>=◌}
use Rattle.metadata_locks.specs.declared.request.Request.{Request}
use Rattle.rules_outcome.specs.Choices.{Choice, Changes}
use Rattle.rules_schema.specs.Drops.{drop_table}
use Rattle.rules_create.specs.Tables.{create_table}
use Rattle.rules_tables.specs.Likes.{create_like}
use Rattle.rules_tables.specs.Truncates.{truncate}
use Rattle.rules_rename.specs.Overlays.{changes_in}
use Rattle.rules_rename.specs.Renames.{Renamed, renamed_object, schemas_there}
use Rattle.rules_locks_examples.specs.Family.{session, named, of_e, in_d, in_e, a_column, a_key_column, refers_to}
use Rattle.rules_locks_examples.specs.Asked.{asked, ix, s, x, all, schema, d, e, constraint, Case}

-- ## CREATE TABLE

abbrev pub created : Bool → ObjRef → List Element → List Request
created if_not_exists table elements =
    asked (Table (tables.Create (record { if_not_exists = if_not_exists; table = table; body = Elements elements }))) (create_table session if_not_exists table elements)

abbrev pub made : List Case
made =
    -- CREATE TABLE t
    (created false (named "t") (a_column ∷ []), ix all ∷ ix (schema "d") ∷ x (d "t") ∷ [])
    -- with a foreign key `f` on p: S on the parent, X on the name
    ∷ (created false (named "t") (a_column ∷ refers_to (named "p") (Some (codes "f")) ∷ []), ix all ∷ ix (schema "d") ∷ s (d "p") ∷ x (d "t") ∷ x (constraint "d" "f") ∷ [])
    -- without a name it gets one
    ∷ (created false (named "t") (a_column ∷ refers_to (named "p") None ∷ []), ix all ∷ ix (schema "d") ∷ s (d "p") ∷ x (d "t") ∷ x (constraint "d" "t_ibfk_1") ∷ [])
    -- a foreign key on the table itself
    ∷ (created false (named "t") (a_key_column ∷ refers_to (named "t") (Some (codes "F")) ∷ []), ix all ∷ ix (schema "d") ∷ x (d "t") ∷ x (constraint "d" "f") ∷ [])
    -- one on a table that isn't there, 1824
    ∷ (created false (named "t") (a_column ∷ refers_to (of_e "t") (Some (codes "f")) ∷ []), ix all ∷ ix (schema "d") ∷ ix (schema "e") ∷ x (d "t") ∷ s (e "t") ∷ x (constraint "d" "f") ∷ [])
    -- the name is that of a constraint of c, 1826: S on c besides
    ∷ (
      created false (named "t") (a_column ∷ refers_to (named "p") (Some (codes "c_ibfk_1")) ∷ []),
      ix all ∷ ix (schema "d") ∷ s (d "c") ∷ s (d "p") ∷ x (d "t") ∷ x (constraint "d" "c_ibfk_1") ∷ [],
    )
    -- CREATE TABLE IF NOT EXISTS of one that is there has the locks of its text
    ∷ (created true (named "o") (a_column ∷ refers_to (named "p") (Some (codes "f")) ∷ []), ix all ∷ ix (schema "d") ∷ x (d "o") ∷ s (d "p") ∷ x (constraint "d" "f") ∷ [])
    ∷ []

abbrev liked : ObjRef → ObjRef → List Request
liked table source = asked (Table (tables.Create (record { if_not_exists = false; table = table; body = Like source }))) (create_like session false table source)

abbrev pub copied : List Case
copied =
    -- CREATE TABLE t LIKE c
    (liked (named "t") (named "c"), ix all ∷ ix (schema "d") ∷ s (d "c") ∷ x (d "t") ∷ [])
    -- CREATE TABLE t LIKE e.q
    ∷ (liked (named "t") (of_e "q"), ix all ∷ ix (schema "d") ∷ ix (schema "e") ∷ x (d "t") ∷ s (e "q") ∷ [])
    -- CREATE TABLE t LIKE t
    ∷ (liked (named "t") (named "t"), ix all ∷ ix (schema "d") ∷ x (d "t") ∷ [])
    ∷ []

-- ## DROP TABLE and TRUNCATE TABLE

abbrev pub dropped : Bool → List ObjRef → List Request
dropped if_exists names = asked (Table (tables.Drop if_exists names)) (drop_table session if_exists names)

abbrev pub emptied : ObjRef → List Request
emptied table = asked (Table (tables.Truncate table)) (truncate session table)

abbrev pub gone : List Case
gone =
    -- DROP TABLE c
    (dropped false (named "c" ∷ []), ix all ∷ ix (schema "d") ∷ x (d "c") ∷ [])
    -- DROP TABLE p, c, which e.q keeps from going
    ∷ (dropped false (named "p" ∷ named "c" ∷ []), ix all ∷ ix (schema "d") ∷ ix (schema "e") ∷ x (d "c") ∷ x (d "p") ∷ s (e "q") ∷ [])
    -- DROP TABLE p, c, e.q
    ∷ (dropped false (named "p" ∷ named "c" ∷ of_e "q" ∷ []), ix all ∷ ix (schema "d") ∷ ix (schema "e") ∷ x (d "c") ∷ x (d "p") ∷ x (e "q") ∷ [])
    -- DROP TABLE p, x, where x isn't there
    ∷ (dropped false (named "p" ∷ named "x" ∷ []), ix all ∷ ix (schema "d") ∷ x (d "p") ∷ x (d "x") ∷ [])
    -- DROP TABLE o, which refers to itself
    ∷ (dropped false (named "o" ∷ []), ix all ∷ ix (schema "d") ∷ x (d "o") ∷ [])
    ∷ []

abbrev pub renewed : List Case
renewed =
    -- TRUNCATE TABLE c
    (emptied (named "c"), ix all ∷ ix (schema "d") ∷ x (d "c") ∷ [])
    -- TRUNCATE TABLE p, which its children keep as it is
    ∷ (emptied (named "p"), ix all ∷ ix (schema "d") ∷ ix (schema "e") ∷ s (d "c") ∷ x (d "p") ∷ s (e "q") ∷ [])
    ∷ []

-- ## RENAME TABLE, of one pair

abbrev all_renamed : Renamed → Walk ErrorValue Choice
all_renamed renamed = done (Changes (changes_in renamed.changes) session)

abbrev pair_renamed : ObjName → ObjName → Walk ErrorValue Choice
pair_renamed from to = schemas_there (from, to) >>= λ _. renamed_object from to >>= all_renamed

abbrev pub renamed : ObjRef → ObjRef → ObjName → ObjName → List Request
renamed from to from_object to_object = asked (Table (tables.Rename (record { from = from; to = to } ∷ []))) (pair_renamed from_object to_object)

abbrev pub moved : List Case
moved =
    -- RENAME TABLE c TO t: S on the parent, X on the constraint's new name
    (renamed (named "c") (named "t") (in_d "c") (in_d "t"), ix all ∷ ix (schema "d") ∷ x (d "c") ∷ s (d "p") ∷ x (d "t") ∷ x (constraint "d" "t_ibfk_1") ∷ [])
    -- RENAME TABLE e.q TO q, whose constraint keeps its name: that is new in the schema
    ∷ (renamed (of_e "q") (named "q") (in_e "q") (in_d "q"), ix all ∷ ix (schema "d") ∷ ix (schema "e") ∷ s (d "p") ∷ x (d "q") ∷ x (e "q") ∷ x (constraint "d" "k") ∷ [])
    -- RENAME TABLE p TO e.t, whose children follow: X on them
    ∷ (renamed (named "p") (of_e "t") (in_d "p") (in_e "t"), ix all ∷ ix (schema "d") ∷ ix (schema "e") ∷ x (d "c") ∷ x (d "p") ∷ x (e "q") ∷ x (e "t") ∷ [])
    -- RENAME TABLE o TO t, which refers to itself
    ∷ (renamed (named "o") (named "t") (in_d "o") (in_d "t"), ix all ∷ ix (schema "d") ∷ x (d "o") ∷ x (d "t") ∷ x (constraint "d" "t_ibfk_1") ∷ [])
    -- RENAME TABLE v TO t, a view
    ∷ (renamed (named "v") (named "t") (in_d "v") (in_d "t"), ix all ∷ ix (schema "d") ∷ x (d "t") ∷ x (d "v") ∷ [])
    -- RENAME TABLE x TO t, where x isn't there
    ∷ (renamed (named "x") (named "t") (in_d "x") (in_d "t"), ix all ∷ ix (schema "d") ∷ x (d "t") ∷ x (d "x") ∷ [])
    ∷ []
