-- A small catalog: in the schema `d` the tables `p`, its child `c`, `s`, which refers to itself, `t`, and the view `v`; in the schema
-- `e` nothing. And the words of which actions are made.
use Rattle.std.specs.Prelude.{◌≡◌, ℕ, true, false, List, [], ◌∷◌, Option, Some, None, map, codes, if◌then◌else◌}
use Prim.Native.String.{String}
use Rattle.std.specs.Str.{bytes_eq}
use Rattle.dd_names.specs.declared.object_name.ObjName.{ObjName}
use Rattle.dd_names.specs.declared.object_name.ObjectKey.TheVariants as keys
use Rattle.dd_errors.specs.Errors.{ErrorValue}
use Rattle.sql_types.specs.declared.choices.IntSize.TheVariants.{Normal, Big}
use Rattle.sql_types.specs.declared.choices.ColumnType.{ColumnType}
use Rattle.sql_types.specs.declared.choices.ColumnType.TheVariants as types
use Rattle.sql_types.specs.declared.choices.FkRule.TheVariants.{NoAction}
use Rattle.sql_types.specs.declared.choices.IndexClass.{IndexClass}
use Rattle.sql_types.specs.declared.choices.IndexClass.TheVariants.{Primary, Unique, Plain}
use Rattle.sql_types.specs.declared.words.ObjRef.{ObjRef}
use Rattle.sql_types.specs.declared.words.ColumnWords.{ColumnWords}
use Rattle.sql_types.specs.declared.words.FkWords.{FkWords}
use Rattle.sql_types.specs.declared.words.KeyWords.{KeyWords}
use Rattle.sql_types.specs.declared.words.TypeWords.{TypeWords}
use Rattle.sql_types.specs.declared.words.TypeWords.TheVariants as words
use Rattle.sql_ast.specs.declared.action.AlterAction.{AlterAction}
use Rattle.sql_ast.specs.declared.session.SessionState.{SessionState}
use Rattle.dd_definitions.specs.declared.columns.ColumnDef.{ColumnDef}
use Rattle.dd_definitions.specs.declared.foreign_keys.ForeignKeyDef.{ForeignKeyDef}
use Rattle.dd_definitions.specs.declared.indexes.IndexDef.{IndexDef}
use Rattle.dd_definitions.specs.declared.parts.TableParts.{TableParts}
use Rattle.dd_definitions.specs.declared.view_parts.ViewParts.{ViewParts}
use Rattle.dd_catalog.specs.Catalog.{is_same_object}
use Rattle.dd_catalog.specs.Sights.{Sight, Nothing, SchemaThere, TableThere, ViewThere, ChildrenThere, OwnerThere}
use Rattle.dd_catalog.specs.Walks.{Walk, Found, refused, run}
use Rattle.dd_catalog.specs.WalkLaws.{Look}
use Rattle.rules_outcome.specs.Choices.{Choice}
use Rattle.rules_alter.specs.Statements.{alter_table}

-- ## Names

abbrev pub in_d : String → ObjName
in_d name = record { schema = codes "d"; name = codes name }

abbrev pub named : String → ObjRef
named name = record { schema = None; name = codes name }

abbrev pub session : SessionState
session = record { number = 1; current = Some (codes "d"); tries = 50 }

abbrev pub error : {A : Type 0} → ℕ → List (List ℕ) → Found ErrorValue A
error number args = refused (record { number = number; args = args })

-- ## Definitions

abbrev pub int : ColumnType
int = types.Int Normal false

abbrev pub nullable : String → ColumnType → ColumnDef
nullable name kind = record { name = codes name; kind = kind; nullable = true; default = None; auto = false }

abbrev pub not_null : String → ColumnType → ColumnDef
not_null name kind = record { name = codes name; kind = kind; nullable = false; default = None; auto = false }

abbrev pub index : IndexClass → String → String → IndexDef
index class name column = record { name = codes name; class = class; columns = codes column ∷ [] }

abbrev pub key : String → String → ObjName → String → ForeignKeyDef
key name column parent parent_column =
    record { name = codes name; columns = codes column ∷ []; parent = parent; parent_columns = codes parent_column ∷ []; on_delete = NoAction; on_update = NoAction }

abbrev pub table : String → List ColumnDef → List IndexDef → List ForeignKeyDef → TableParts
table name columns indexes foreign_keys = record { name = in_d name; columns = columns; indexes = indexes; foreign_keys = foreign_keys }

abbrev pub table_p : TableParts
table_p = table "p" (not_null "id" int ∷ nullable "a" int ∷ []) (index Primary "PRIMARY" "id" ∷ index Plain "a" "a" ∷ []) []

abbrev pub table_c : TableParts
table_c = table "c" (nullable "p" int ∷ []) (index Plain "p" "p" ∷ []) (key "c_ibfk_1" "p" (in_d "p") "id" ∷ [])

abbrev pub table_s : TableParts
table_s = table "s" (not_null "id" int ∷ nullable "up" int ∷ nullable "n" int ∷ []) (index Primary "PRIMARY" "id" ∷ index Plain "up" "up" ∷ []) (key "s_ibfk_1" "up" (in_d "s") "id" ∷ [])

-- of its two unique indexes the one whose column may be NULL stands behind the other
abbrev pub table_t : TableParts
table_t = table "t" (not_null "a" int ∷ nullable "b" int ∷ not_null "n" (types.VarChar 5) ∷ [])
    (index Primary "PRIMARY" "a" ∷ index Unique "un" "n" ∷ index Unique "ub" "b" ∷ index Plain "kn" "n" ∷ []) []

abbrev pub view_v : ViewParts
view_v = record { name = in_d "v"; sources = []; outputs = [] }

-- ## The catalog

abbrev at_object : ObjName → Sight
at_object name =
    if is_same_object name (in_d "p") then TableThere 1 table_p
    else if is_same_object name (in_d "c") then TableThere 2 table_c
    else if is_same_object name (in_d "s") then TableThere 3 table_s
    else if is_same_object name (in_d "t") then TableThere 4 table_t
    else if is_same_object name (in_d "v") then ViewThere view_v
    else Nothing

abbrev at_constraint : List ℕ → Sight
at_constraint folded =
    if bytes_eq folded (codes "c_ibfk_1") then OwnerThere (in_d "c") else if bytes_eq folded (codes "s_ibfk_1") then OwnerThere (in_d "s") else Nothing

abbrev at_schema : List ℕ → Sight
at_schema name = if bytes_eq name (codes "d") then SchemaThere else if bytes_eq name (codes "e") then SchemaThere else Nothing

abbrev pub known : Look
known (keys.Schema name) = Some (at_schema name)
known (keys.Object name) = Some (at_object name)
known (keys.Children name) = Some (ChildrenThere (if is_same_object name (in_d "p") then in_d "c" ∷ [] else []))
known (keys.Constraint schema folded) = Some (at_constraint folded)
known (keys.Objects schema) = None
known keys.Schemas = None

-- ## Words

abbrev pub column : String → TypeWords → ColumnWords
column name kind = record { name = codes name; kind = kind; nullable = None; default = None; auto = false; unique = false; primary = false }

abbrev pub int_words : TypeWords
int_words = words.Int Normal false

abbrev pub bigint_words : TypeWords
bigint_words = words.Int Big false

abbrev pub null_column : String → TypeWords → ColumnWords
null_column name kind = record (column name kind) { nullable = Some true }

abbrev pub not_null_column : String → TypeWords → ColumnWords
not_null_column name kind = record (column name kind) { nullable = Some false }

abbrev pub key_words : IndexClass → Option (List ℕ) → List (List ℕ) → KeyWords
key_words class name columns = record { class = class; constraint = None; name = name; columns = columns }

abbrev pub reference : Option (List ℕ) → String → String → String → FkWords
reference constraint column_name parent parent_column = record {
  constraint = constraint;
  name = None;
  columns = codes column_name ∷ [];
  parent = named parent;
  parent_columns = codes parent_column ∷ [];
  on_delete = NoAction;
  on_update = NoAction;
}

-- ALTER TABLE with these actions
abbrev pub alter : String → List AlterAction → Walk ErrorValue Choice
alter name acts = alter_table session (named name) acts

abbrev pub Case : Type 0
Case = Walk ErrorValue Choice × Found ErrorValue Choice

-- each statement comes to what stands beside it
abbrev pub AllCome : List Case → Type 0
AllCome cases = map (λ (c : Case). run known c.0) cases ≡ map (λ (c : Case). c.1) cases
