-- Locks as far as they are known, those of the texts of views, and lists of locks that aren't enough.
use Rattle.std.specs.Prelude.{◌≡◌, Bool, true, false, List, [], ◌∷◌, map, Some, None, codes, if◌then◌else◌}
use Rattle.std.specs.List.{list_all, list_any}
use Rattle.dd_names.specs.declared.object_name.ObjectKey.{ObjectKey}
use Rattle.dd_names.specs.declared.object_name.ObjectKey.TheVariants as keys
use Rattle.dd_errors.specs.Errors.{ErrorValue}
use Rattle.sql_types.specs.declared.choices.IntSize.TheVariants.{Normal}
use Rattle.sql_types.specs.declared.words.ColumnWords.{ColumnWords}
use Rattle.sql_types.specs.declared.words.ObjRef.{ObjRef}
use Rattle.sql_types.specs.declared.words.TypeWords.TheVariants as words
use Rattle.sql_ast.specs.declared.action.AlterAction.{AlterAction}
use Rattle.sql_ast.specs.declared.action.AlterAction.TheVariants as actions
use Rattle.sql_ast.specs.declared.show.ShowStatement.TheVariants as shows
use Rattle.sql_ast.specs.declared.statement.Statement.{Statement}
use Rattle.sql_ast.specs.declared.statement.Statement.TheVariants.{Show, Table, View}
use Rattle.sql_ast.specs.declared.table.TableBody.TheVariants.{Elements}
use Rattle.sql_ast.specs.declared.table.TableStatement.TheVariants as tables
use Rattle.sql_ast.specs.declared.view.ViewStatement.TheVariants as views
use Rattle.sql_ast.specs.declared.view.Item.TheVariants.{All}
use Rattle.sql_ast.specs.declared.view.SelectSource.{SelectSource}
use Rattle.dd_catalog.specs.Walks.{Walk, done}
use Rattle.dd_catalog.specs.WalkLaws.{Look}
use Rattle.metadata_locks.specs.declared.request.Request.{Request}
use Rattle.rules_outcome.specs.Choices.{Choice, Same}
use Rattle.rules_schema.specs.Drops.{drop_table}
use Rattle.rules_schema.specs.Listings.{show_tables}
use Rattle.rules_create.specs.Tables.{create_table}
use Rattle.rules_alter.specs.Statements.{alter_table}
use Rattle.rules_locks.specs.Claims.{is_covered}
use Rattle.rules_locks.specs.Holdings.{holding}
use Rattle.rules_locks.specs.Locks.{all_claims, locks}
use Rattle.rules_locks.specs.Steps.{steps, rest}
use Rattle.rules_locks.specs.Told.{is_same_place}
use Rattle.rules_intents.specs.Intents.{intent}
use Rattle.rules_locks_examples.specs.Family.{session, known, named, of_e, in_d, a_column, refers_to}
use Rattle.rules_locks_examples.specs.Asked.{ix, s, x, all, schema, d, e, constraint, Case}

-- ## Before all is known

-- what a client knows that was told these keys
abbrev only : List ObjectKey → Look
only told key = if list_any (is_same_place key) told then known key else None

abbrev asked_over : List ObjectKey → Statement → Walk ErrorValue Choice → List Request
asked_over told statement check = locks (intent session statement) (steps (only told) check) (rest (only told) check)

abbrev dropped_over : List ObjectKey → List Request
dropped_over told = asked_over told (Table (tables.Drop false (named "p" ∷ []))) (drop_table session false (named "p" ∷ []))

abbrev altered_over : List ObjectKey → ObjRef → AlterAction → List Request
altered_over told table action = asked_over told (Table (tables.Alter table (action ∷ []))) (alter_table session table (action ∷ []))

abbrev a_rename : AlterAction
a_rename = actions.RenameColumn (codes "a") (codes "b")

abbrev b_column : ColumnWords
b_column = record { name = codes "b"; kind = words.Int Normal false; nullable = None; default = None; auto = false; unique = false; primary = false }

abbrev pub partly_known : List Case
partly_known =
    -- DROP TABLE p, of which nothing is known yet: what its text says
    (dropped_over [], ix all ∷ ix (schema "d") ∷ x (d "p") ∷ [])
    -- p is there: its children aren't known, and are read under X on it
    ∷ (dropped_over (keys.Schema (codes "d") ∷ keys.Object (in_d "p") ∷ []), ix all ∷ ix (schema "d") ∷ x (d "p") ∷ [])
    -- they are known: S on them
    ∷ (dropped_over (keys.Schema (codes "d") ∷ keys.Object (in_d "p") ∷ keys.Children (in_d "p") ∷ []), ix all ∷ ix (schema "d") ∷ ix (schema "e") ∷ s (d "c") ∷ x (d "p") ∷ s (e "q") ∷ [])
    -- ALTER TABLE p RENAME COLUMN a TO b, whose children aren't known
    ∷ (altered_over (keys.Schema (codes "d") ∷ keys.Object (in_d "p") ∷ []) (named "p") a_rename, ix all ∷ ix (schema "d") ∷ x (d "p") ∷ [])
    -- they are known: X on them, before they are read
    ∷ (
      altered_over (keys.Schema (codes "d") ∷ keys.Object (in_d "p") ∷ keys.Children (in_d "p") ∷ []) (named "p") a_rename,
      ix all ∷ ix (schema "d") ∷ ix (schema "e") ∷ x (d "c") ∷ x (d "p") ∷ x (e "q") ∷ [],
    )
    -- ALTER TABLE c ADD COLUMN b: S on its parent, before it is read
    ∷ (
      altered_over (keys.Schema (codes "d") ∷ keys.Object (in_d "c") ∷ keys.Children (in_d "c") ∷ []) (named "c") (actions.AddColumn b_column None),
      ix all ∷ ix (schema "d") ∷ x (d "c") ∷ s (d "p") ∷ [],
    )
    ∷ []

-- ## The texts of views

-- what the text alone asks for
abbrev asked_by_text : Statement → List Request
asked_by_text statement = locks (intent session statement) [] (done Same)

abbrev source : ObjRef → SelectSource
source object = record { object = object; alias = None }

abbrev pub viewed : List Case
viewed =
    -- CREATE VIEW t AS SELECT * FROM p, e.q
    (
      asked_by_text (View (views.Create (named "t") None (record { items = All ∷ []; sources = source (named "p") ∷ source (of_e "q") ∷ [] }))),
      ix all ∷ ix (schema "d") ∷ ix (schema "e") ∷ s (d "p") ∷ x (d "t") ∷ s (e "q") ∷ [],
    )
    -- DROP VIEW v, e.t
    ∷ (asked_by_text (View (views.Drop false (named "v" ∷ of_e "t" ∷ []))), ix all ∷ ix (schema "d") ∷ ix (schema "e") ∷ x (d "v") ∷ x (e "t") ∷ [])
    -- SHOW COLUMNS FROM v
    ∷ (asked_by_text (Show (shows.Columns (named "v"))), ix (schema "d") ∷ s (d "v") ∷ [])
    -- TABLE INFORMATION_SCHEMA.TABLES
    ∷ (asked_by_text (Show (shows.Information (codes "TABLES"))), s all ∷ [])
    ∷ []

-- ## Lists that aren't enough

abbrev is_enough : List Request → Statement → Walk ErrorValue Choice → Bool
is_enough requests statement check = list_all (is_covered (holding requests)) (all_claims (intent session statement) (steps known check) (rest known check))

abbrev enough_for_child : List Request → Bool
enough_for_child requests =
    is_enough requests (Table (tables.Create (record { if_not_exists = false; table = named "t"; body = Elements (a_column ∷ refers_to (named "p") (Some (codes "f")) ∷ []) })))
    (create_table session false (named "t") (a_column ∷ refers_to (named "p") (Some (codes "f")) ∷ []))

abbrev enough_for_drop : List Request → Bool
enough_for_drop requests = is_enough requests (Table (tables.Drop false (named "c" ∷ []))) (drop_table session false (named "c" ∷ []))

abbrev enough_for_rename : List Request → Bool
enough_for_rename requests = is_enough requests (Table (tables.Alter (named "p") (a_rename ∷ []))) (alter_table session (named "p") (a_rename ∷ []))

abbrev enough_for_names : List Request → Bool
enough_for_names requests = is_enough requests (Show (shows.Tables None)) (show_tables session None)

abbrev pub Judged : Type 0
Judged = Bool × Bool

abbrev pub AllAreJudged : List Judged → Type 0
AllAreJudged cases = map (λ (c : Judged). c.0) cases ≡ map (λ (c : Judged). c.1) cases

abbrev pub judged : List Judged
judged =
    -- CREATE TABLE t with a foreign key `f` on p
    (enough_for_child (ix all ∷ ix (schema "d") ∷ s (d "p") ∷ x (d "t") ∷ x (constraint "d" "f") ∷ []), true)
    -- without a lock on the parent
    ∷ (enough_for_child (ix all ∷ ix (schema "d") ∷ x (d "t") ∷ x (constraint "d" "f") ∷ []), false)
    -- without one on the constraint's name
    ∷ (enough_for_child (ix all ∷ ix (schema "d") ∷ s (d "p") ∷ x (d "t") ∷ []), false)
    -- DROP TABLE c
    ∷ (enough_for_drop (ix all ∷ ix (schema "d") ∷ x (d "c") ∷ []), true)
    -- with S on the table
    ∷ (enough_for_drop (ix all ∷ ix (schema "d") ∷ s (d "c") ∷ []), false)
    -- with a lock on the table and none on its schema
    ∷ (enough_for_drop (ix all ∷ x (d "c") ∷ []), false)
    -- ALTER TABLE p RENAME COLUMN a TO b
    ∷ (enough_for_rename (ix all ∷ ix (schema "d") ∷ ix (schema "e") ∷ x (d "c") ∷ x (d "p") ∷ x (e "q") ∷ []), true)
    -- with S on its children
    ∷ (enough_for_rename (ix all ∷ ix (schema "d") ∷ ix (schema "e") ∷ s (d "c") ∷ x (d "p") ∷ s (e "q") ∷ []), false)
    -- SHOW TABLES
    ∷ (enough_for_names (s (schema "d") ∷ []), true)
    -- with IX on the schema
    ∷ (enough_for_names (ix (schema "d") ∷ []), false)
    ∷ []
