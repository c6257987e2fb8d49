-- Values, written shortly.
use Rattle.std.specs.Prelude.{ℕ, Bool, List, Option, Some, None, codes}
use Prim.Native.String.{String}
use Rattle.sql_types.specs.declared.choices.IndexClass.{IndexClass}
use Rattle.sql_types.specs.declared.choices.FkRule.{FkRule}
use Rattle.sql_types.specs.declared.literal.Literal.{Literal}
use Rattle.sql_types.specs.declared.words.TypeWords.{TypeWords}
use Rattle.sql_types.specs.declared.words.ObjRef.{ObjRef}
use Rattle.sql_types.specs.declared.words.ColumnWords.{ColumnWords}
use Rattle.sql_types.specs.declared.words.KeyWords.{KeyWords}
use Rattle.sql_types.specs.declared.words.FkWords.{FkWords}
use Rattle.sql_ast.specs.declared.table.RenamePair.{RenamePair}
use Rattle.sql_ast.specs.declared.view.Item.{Item}
use Rattle.sql_ast.specs.declared.view.Item.TheVariants.{Column}
use Rattle.sql_ast.specs.declared.view.SelectSource.{SelectSource}
use Rattle.sql_ast.specs.declared.view.Select.{Select}

-- an object without schema
abbrev pub own : String → ObjRef
own name = record { schema = None; name = codes name }

abbrev pub of_schema : String → String → ObjRef
of_schema schema name = record { schema = Some (codes schema); name = codes name }

-- its name and type; whether NULL or NOT NULL is said; its default; whether it is auto, unique and primary
abbrev pub column : String → TypeWords → Option Bool → Option Literal → Bool → Bool → Bool → ColumnWords
column name kind nullable default auto unique primary =
    record { name = codes name; kind = kind; nullable = nullable; default = default; auto = auto; unique = unique; primary = primary }

-- its class, constraint, name and columns
abbrev pub a_key : IndexClass → Option (List ℕ) → Option (List ℕ) → List (List ℕ) → KeyWords
a_key class constraint name columns = record { class = class; constraint = constraint; name = name; columns = columns }

-- its constraint, name, columns, parent and parent columns; what is done on DELETE and on UPDATE
abbrev pub a_foreign_key : Option (List ℕ) → Option (List ℕ) → List (List ℕ) → ObjRef → List (List ℕ) → FkRule → FkRule → FkWords
a_foreign_key constraint name columns parent parent_columns on_delete on_update = record {
  constraint = constraint;
  name = name;
  columns = columns;
  parent = parent;
  parent_columns = parent_columns;
  on_delete = on_delete;
  on_update = on_update;
}

abbrev pub pair : ObjRef → ObjRef → RenamePair
pair from to = record { from = from; to = to }

-- its alias, column and output
abbrev pub item_of : Option (List ℕ) → String → Option (List ℕ) → Item
item_of alias name output = Column alias (codes name) output

abbrev pub source : ObjRef → Option (List ℕ) → SelectSource
source object alias = record { object = object; alias = alias }

abbrev pub query : List Item → List SelectSource → Select
query items sources = record { items = items; sources = sources }
