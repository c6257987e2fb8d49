-- CREATE TABLE: what the elements make of the table `t`, beside the parent `p` and constraints of other tables.
use Rattle.std.specs.Prelude.{ℕ, Bool, true, false, List, [], ◌∷◌, ◌++◌, Option, Some, None, codes, map}
use Prim.Native.String.{String}
use Rattle.dd_errors.specs.Errors.{ErrorValue}
use Rattle.sql_types.specs.declared.choices.FkRule.{FkRule}
use Rattle.sql_types.specs.declared.choices.FkRule.TheVariants.{NoAction, SetNull}
use Rattle.sql_types.specs.declared.choices.IndexClass.TheVariants.{Plain}
use Rattle.sql_ast.specs.declared.element.Element.{Element}
use Rattle.sql_ast.specs.declared.element.Element.TheVariants.{Column, Key, ForeignKey}
use Rattle.dd_definitions.specs.declared.foreign_keys.ForeignKeyDef.{ForeignKeyDef}
use Rattle.dd_definitions.specs.declared.indexes.IndexDef.{IndexDef}
use Rattle.dd_definitions.specs.declared.parts.TableParts.{TableParts}
use Rattle.dd_catalog.specs.Walks.{Walk, Found, fine}
use Rattle.rules_create.specs.Tables.{table_of}
use Rattle.rules_examples.specs.ForeignKeys.{foreign_key}
use Rattle.rules_examples.specs.Parts.{names}
use Rattle.rules_examples.specs.Words.{error, object, int_words, int, column, index, key_words, table, a, b}

abbrev pub Case : Type 0
Case = Walk ErrorValue TableParts × Found ErrorValue TableParts

abbrev pub creates : List Element → Walk ErrorValue TableParts
creates elements = table_of (object "t") elements

-- a column of INT, and whether it is AUTO_INCREMENT
abbrev pub int_column : String → Bool → Element
int_column name auto = Column (record { name = codes name; kind = int_words; nullable = None; default = None; auto = auto; unique = false; primary = false })

abbrev pub key : List ℕ → List (List ℕ) → Element
key name columns = Key (key_words Plain None (Some name) columns)

-- a foreign key to `p` by its constraint, its columns, the parent's columns and the rule of ON DELETE
abbrev pub refers_by : Option (List ℕ) → List (List ℕ) → List (List ℕ) → FkRule → Element
refers_by constraint columns parent_columns on_delete = ForeignKey (record {
  constraint = constraint;
  name = None;
  columns = columns;
  parent = record { schema = None; name = codes "p" };
  parent_columns = parent_columns;
  on_delete = on_delete;
  on_update = NoAction;
})

-- a foreign key on `a`, with this constraint
abbrev pub refers : Option (List ℕ) → Element
refers constraint = refers_by constraint (a ∷ []) (codes "Id" ∷ []) NoAction

-- the table with the column `a`, one index on it, and such foreign keys
abbrev pub referring : String → List ForeignKeyDef → TableParts
referring name keys = table "t" (column "a" int true ∷ []) (index name Plain (a ∷ []) ∷ []) keys

abbrev pub kept : String → ForeignKeyDef
kept name = foreign_key name (a ∷ []) "p" (codes "Id" ∷ []) NoAction

-- an index for a foreign key, where none is there; numbers, each one more than the greatest behind the front; the order of the
-- folded names
abbrev pub created : List Case
created =
    (creates (int_column "a" false ∷ refers None ∷ refers None ∷ []), fine (referring "a" (kept "t_ibfk_1" ∷ kept "t_ibfk_2" ∷ [])))
    ∷ (creates (int_column "a" false ∷ refers None ∷ key (codes "k") (a ∷ []) ∷ []), fine (referring "k" (kept "t_ibfk_1" ∷ [])))
    ∷ (creates (int_column "a" false ∷ refers (Some (codes "t_ibfk_3")) ∷ refers (Some (codes "xt_ibfk_9")) ∷ refers None ∷ []), fine (referring "t_ibfk_3" (kept "t_ibfk_3" ∷ kept "t_ibfk_4" ∷ kept "xt_ibfk_9" ∷ [])))
    ∷ (creates (int_column "a" false ∷ refers (Some (codes "t7")) ∷ refers None ∷ []), fine (referring "t7" (kept "t7" ∷ kept "t_ibfk_1" ∷ [])))
    ∷ (creates (int_column "a" false ∷ refers (Some (codes "B")) ∷ refers (Some (codes "c")) ∷ refers (Some (codes "a")) ∷ []), fine (referring "B" (kept "a" ∷ kept "B" ∷ kept "c" ∷ [])))
    ∷ []

-- so many keys on `b`
abbrev pub many_keys : ℕ → List Element
many_keys n = map (λ name. key name (b ∷ [])) (names n)

-- an AUTO_INCREMENT column without an index of its own, columns of one name, and which fault is told first
abbrev pub refused_tables : List Case
refused_tables =
    (creates [], error 1113 [])
    ∷ (creates (int_column "a" false ∷ int_column "A" false ∷ []), error 1060 (codes "A" ∷ []))
    ∷ (creates (int_column "a" true ∷ int_column "b" false ∷ key (codes "k") (b ∷ []) ∷ []), error 1075 [])
    ∷ (creates (int_column "a" true ∷ int_column "b" false ∷ many_keys 65), error 1069 [])
    ∷ []

-- ## The spelling of columns

-- a column of INT that is NOT NULL
abbrev pub never_null : String → Element
never_null name = Column (record { name = codes name; kind = int_words; nullable = Some false; default = None; auto = false; unique = false; primary = false })

-- INT beside VARCHAR, of a table that has `b` and `Col`
abbrev pub odd_kinds : Walk ErrorValue TableParts
odd_kinds = creates (int_column "b" false ∷ int_column "Col" false ∷ refers_by None (codes "B" ∷ codes "cOL" ∷ []) (codes "iD" ∷ codes "cODE" ∷ []) NoAction ∷ [])

abbrev pub set_null : Walk ErrorValue TableParts
set_null = creates (never_null "Col" ∷ refers_by None (codes "cOL" ∷ []) (codes "iD" ∷ []) SetNull ∷ [])

-- a refusal names columns as the statement writes them in the foreign key
abbrev pub told_as_written : List Case
told_as_written =
    (odd_kinds, error 3780 (codes "cOL" ∷ codes "cODE" ∷ codes "t_ibfk_1" ∷ []))
    ∷ (set_null, error 1830 (codes "cOL" ∷ codes "t_ibfk_1" ∷ []))
    ∷ []

-- and not as the table spells them
abbrev pub not_told : List (Walk ErrorValue TableParts × List ℕ)
not_told = (odd_kinds, codes "Col") ∷ (set_null, codes "Col") ∷ []
