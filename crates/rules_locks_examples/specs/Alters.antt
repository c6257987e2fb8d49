-- ALTER TABLE, CREATE INDEX and DROP INDEX.
use Rattle.std.specs.Prelude.{ℕ, false, List, [], ◌∷◌, Option, Some, None, codes}
use Prim.Native.String.{String}
use Rattle.sql_types.specs.declared.choices.IndexClass.TheVariants.{Plain}
use Rattle.sql_types.specs.declared.choices.IntSize.TheVariants.{Normal}
use Rattle.sql_types.specs.declared.words.ColumnWords.{ColumnWords}
use Rattle.sql_types.specs.declared.words.KeyWords.{KeyWords}
use Rattle.sql_types.specs.declared.words.ObjRef.{ObjRef}
use Rattle.sql_types.specs.declared.words.TypeWords.TheVariants as words
use Rattle.sql_ast.specs.declared.action.AlterAction.{AlterAction}
use Rattle.sql_ast.specs.declared.action.AlterAction.TheVariants as actions
use Rattle.sql_ast.specs.declared.statement.Statement.TheVariants.{Table}
use Rattle.sql_ast.specs.declared.table.IndexStatement.TheVariants as indexes
use Rattle.sql_ast.specs.declared.table.TableStatement.TheVariants as tables
use Rattle.metadata_locks.specs.declared.request.Request.{Request}
use Rattle.rules_alter.specs.Statements.{alter_table, create_index, drop_index}
use Rattle.rules_locks_examples.specs.Family.{session, named, of_e, words_on}
use Rattle.rules_locks_examples.specs.Asked.{asked, ix, s, x, all, schema, d, e, n, constraint, Case}

abbrev altered : ObjRef → List AlterAction → List Request
altered table acts = asked (Table (tables.Alter table acts)) (alter_table session table acts)

abbrev one : ObjRef → AlterAction → List Request
one table action = altered table (action ∷ [])

abbrev column : String → ColumnWords
column name = record { name = codes name; kind = words.Int Normal false; nullable = None; default = None; auto = false; unique = false; primary = false }

abbrev key : String → String → KeyWords
key name column_name = record { class = Plain; constraint = None; name = Some (codes name); columns = codes column_name ∷ [] }

-- a foreign key on the column `a`
abbrev refers : ObjRef → Option (List ℕ) → AlterAction
refers parent constraint_name = actions.AddForeignKey (words_on parent constraint_name)

-- ## In place

-- a table with children: X on each of them
abbrev pub of_parent : List Case
of_parent =
    -- ALTER TABLE p ADD COLUMN b
    (one (named "p") (actions.AddColumn (column "b") None), ix all ∷ ix (schema "d") ∷ ix (schema "e") ∷ x (d "c") ∷ x (d "p") ∷ x (e "q") ∷ [])
    -- RENAME COLUMN a TO b, which its children follow
    ∷ (one (named "p") (actions.RenameColumn (codes "a") (codes "b")), ix all ∷ ix (schema "d") ∷ ix (schema "e") ∷ x (d "c") ∷ x (d "p") ∷ x (e "q") ∷ [])
    -- DROP PRIMARY KEY, which its children need, 1553
    ∷ (one (named "p") actions.DropPrimaryKey, ix all ∷ ix (schema "d") ∷ ix (schema "e") ∷ x (d "c") ∷ x (d "p") ∷ x (e "q") ∷ [])
    -- DROP COLUMN a, which its children refer to, 1829
    ∷ (one (named "p") (actions.DropColumn (codes "a")), ix all ∷ ix (schema "d") ∷ ix (schema "e") ∷ x (d "c") ∷ x (d "p") ∷ x (e "q") ∷ [])
    -- ALTER TABLE o ADD COLUMN b, a table that refers to itself
    ∷ (one (named "o") (actions.AddColumn (column "b") None), ix all ∷ ix (schema "d") ∷ x (d "o") ∷ [])
    ∷ []

-- a table with a parent: S on it, where the check comes to the foreign keys of the whole table
abbrev pub of_child : List Case
of_child =
    -- ALTER TABLE c ADD COLUMN b
    (one (named "c") (actions.AddColumn (column "b") None), ix all ∷ ix (schema "d") ∷ x (d "c") ∷ s (d "p") ∷ [])
    -- ADD KEY k (a)
    ∷ (one (named "c") (actions.AddKey (key "k" "a")), ix all ∷ ix (schema "d") ∷ x (d "c") ∷ s (d "p") ∷ [])
    -- ENGINE
    ∷ (one (named "c") actions.Engine, ix all ∷ ix (schema "d") ∷ x (d "c") ∷ s (d "p") ∷ [])
    -- e.q, whose parent is in another schema
    ∷ (one (of_e "q") (actions.AddColumn (column "b") None), ix all ∷ ix (schema "d") ∷ ix (schema "e") ∷ s (d "p") ∷ x (e "q") ∷ [])
    -- DROP FOREIGN KEY c_ibfk_1: behind it there is no parent
    ∷ (one (named "c") (actions.DropForeignKey (codes "c_ibfk_1")), ix all ∷ ix (schema "d") ∷ x (d "c") ∷ [])
    -- DROP COLUMN z, which isn't there, 1091: refused before the foreign keys
    ∷ (one (named "c") (actions.DropColumn (codes "z")), ix all ∷ ix (schema "d") ∷ x (d "c") ∷ [])
    ∷ []

-- a foreign key that is added: S on its parent and X on its name from the start
abbrev pub referring : List Case
referring =
    -- ALTER TABLE c ADD CONSTRAINT f FOREIGN KEY (a) REFERENCES o (a)
    (one (named "c") (refers (named "o") (Some (codes "f"))), ix all ∷ ix (schema "d") ∷ x (d "c") ∷ s (d "o") ∷ s (d "p") ∷ x (constraint "d" "f") ∷ [])
    -- without a name it gets one
    ∷ (one (named "c") (refers (named "o") None), ix all ∷ ix (schema "d") ∷ x (d "c") ∷ s (d "o") ∷ s (d "p") ∷ x (constraint "d" "c_ibfk_2") ∷ [])
    -- REFERENCES e.q (a)
    ∷ (one (named "c") (refers (of_e "q") (Some (codes "f"))), ix all ∷ ix (schema "d") ∷ ix (schema "e") ∷ x (d "c") ∷ s (d "p") ∷ s (e "q") ∷ x (constraint "d" "f") ∷ [])
    -- REFERENCES e.t (a), which isn't there, 1824
    ∷ (one (named "c") (refers (of_e "t") (Some (codes "f"))), ix all ∷ ix (schema "d") ∷ ix (schema "e") ∷ x (d "c") ∷ s (e "t") ∷ x (constraint "d" "f") ∷ [])
    -- ALTER TABLE o with the name of a constraint of c, 1826: S on c besides
    ∷ (one (named "o") (refers (named "p") (Some (codes "c_ibfk_1"))), ix all ∷ ix (schema "d") ∷ s (d "c") ∷ x (d "o") ∷ s (d "p") ∷ x (constraint "d" "c_ibfk_1") ∷ [])
    -- ALTER TABLE o REFERENCES o (a), itself
    ∷ (one (named "o") (refers (named "o") (Some (codes "f"))), ix all ∷ ix (schema "d") ∷ x (d "o") ∷ x (constraint "d" "f") ∷ [])
    ∷ []

-- ## Under a new name

abbrev pub moved : List Case
moved =
    -- ALTER TABLE c RENAME TO t: S on the parent, X on the constraint's new name
    (one (named "c") (actions.RenameTable (named "t")), ix all ∷ ix (schema "d") ∷ x (d "c") ∷ s (d "p") ∷ x (d "t") ∷ x (constraint "d" "t_ibfk_1") ∷ [])
    -- RENAME TO x, RENAME TO t: the last counts, and each name is locked
    ∷ (
      altered (named "c") (actions.RenameTable (named "x") ∷ actions.RenameTable (named "t") ∷ []),
      ix all ∷ ix (schema "d") ∷ x (d "c") ∷ s (d "p") ∷ x (d "t") ∷ x (d "x") ∷ x (constraint "d" "t_ibfk_1") ∷ [],
    )
    -- ALTER TABLE p RENAME TO e.t, whose children follow: X on them
    ∷ (one (named "p") (actions.RenameTable (of_e "t")), ix all ∷ ix (schema "d") ∷ ix (schema "e") ∷ x (d "c") ∷ x (d "p") ∷ x (e "q") ∷ x (e "t") ∷ [])
    -- ALTER TABLE c RENAME TO o, which is there, 1050
    ∷ (one (named "c") (actions.RenameTable (named "o")), ix all ∷ ix (schema "d") ∷ x (d "c") ∷ x (d "o") ∷ s (d "p") ∷ [])
    -- ALTER TABLE p RENAME TO n.t, where n isn't there, 1049: its children aren't looked at
    ∷ (one (named "p") (actions.RenameTable (record { schema = Some (codes "n"); name = codes "t" })), ix all ∷ ix (schema "d") ∷ ix (schema "n") ∷ x (d "p") ∷ x (n "t") ∷ [])
    ∷ []

-- ## No table

abbrev pub absent : List Case
absent =
    -- ALTER TABLE t ADD COLUMN b, which isn't there, 1146
    (one (named "t") (actions.AddColumn (column "b") None), ix all ∷ ix (schema "d") ∷ x (d "t") ∷ [])
    -- ALTER TABLE t with a foreign key on p has the locks of its text
    ∷ (one (named "t") (refers (named "p") (Some (codes "f"))), ix all ∷ ix (schema "d") ∷ s (d "p") ∷ x (d "t") ∷ x (constraint "d" "f") ∷ [])
    -- ALTER TABLE v, a view, 1347
    ∷ (one (named "v") (actions.AddColumn (column "b") None), ix all ∷ ix (schema "d") ∷ x (d "v") ∷ [])
    ∷ []

-- ## Indexes

abbrev indexed : String → ObjRef → List Request
indexed name table = asked (Table (tables.Index (indexes.Create false (codes name) table (codes "a" ∷ [])))) (create_index session false (codes name) table (codes "a" ∷ []))

abbrev unindexed : String → ObjRef → List Request
unindexed name table = asked (Table (tables.Index (indexes.Drop (codes name) table))) (drop_index session (codes name) table)

abbrev pub keyed : List Case
keyed =
    -- CREATE INDEX k ON p (a)
    (indexed "k" (named "p"), ix all ∷ ix (schema "d") ∷ ix (schema "e") ∷ x (d "c") ∷ x (d "p") ∷ x (e "q") ∷ [])
    -- CREATE INDEX k ON c (a)
    ∷ (indexed "k" (named "c"), ix all ∷ ix (schema "d") ∷ x (d "c") ∷ s (d "p") ∷ [])
    -- CREATE INDEX k ON t (a), which isn't there
    ∷ (indexed "k" (named "t"), ix all ∷ ix (schema "d") ∷ x (d "t") ∷ [])
    -- DROP INDEX PRIMARY ON p, which its children need
    ∷ (unindexed "PRIMARY" (named "p"), ix all ∷ ix (schema "d") ∷ ix (schema "e") ∷ x (d "c") ∷ x (d "p") ∷ x (e "q") ∷ [])
    -- DROP INDEX k ON c, which isn't there, 1091
    ∷ (unindexed "k" (named "c"), ix all ∷ ix (schema "d") ∷ x (d "c") ∷ [])
    ∷ []
