-- A small catalog. In the schema `d` the table `p`, its child `c`, the table `o` that refers to itself, and the view `v`; in the
-- schema `e` another child of `p`, the table `q`.
use Rattle.std.specs.Prelude.{ℕ, true, false, List, [], ◌∷◌, Option, Some, None, codes}
use Prim.Native.String.{String}
use Rattle.dd_names.specs.declared.object_name.ObjName.{ObjName}
use Rattle.dd_names.specs.declared.object_name.ObjectKey.TheVariants as keys
use Rattle.sql_types.specs.declared.choices.IntSize.TheVariants.{Normal}
use Rattle.sql_types.specs.declared.choices.ColumnType.TheVariants as types
use Rattle.sql_types.specs.declared.choices.IndexClass.TheVariants as classes
use Rattle.sql_types.specs.declared.choices.FkRule.TheVariants.{NoAction}
use Rattle.sql_types.specs.declared.words.FkWords.{FkWords}
use Rattle.sql_types.specs.declared.words.ObjRef.{ObjRef}
use Rattle.sql_types.specs.declared.words.TypeWords.TheVariants as words
use Rattle.dd_definitions.specs.declared.columns.ColumnDef.{ColumnDef}
use Rattle.dd_definitions.specs.declared.foreign_keys.ForeignKeyDef.{ForeignKeyDef}
use Rattle.dd_definitions.specs.declared.indexes.IndexDef.{IndexDef}
use Rattle.dd_definitions.specs.declared.parts.TableParts.{TableParts}
use Rattle.dd_definitions.specs.declared.view_parts.ViewParts.{ViewParts}
use Rattle.sql_ast.specs.declared.element.Element.{Element}
use Rattle.sql_ast.specs.declared.element.Element.TheVariants.{Column, ForeignKey}
use Rattle.sql_ast.specs.declared.session.SessionState.{SessionState}
use Rattle.dd_catalog.specs.Sights.{Nothing, SchemaThere, TableThere, ViewThere, NamesThere, ChildrenThere, OwnerThere}
use Rattle.dd_catalog.specs.WalkLaws.{Look}
use Rattle.rules_locks.specs.Steps.{Step, step}
use Rattle.rules_locks.specs.Told.{seen_at}

abbrev pub in_d : String → ObjName
in_d name = record { schema = codes "d"; name = codes name }

abbrev pub in_e : String → ObjName
in_e name = record { schema = codes "e"; name = codes name }

-- a name without a schema, and one with `e`
abbrev pub named : String → ObjRef
named name = record { schema = None; name = codes name }

abbrev pub of_e : String → ObjRef
of_e name = record { schema = Some (codes "e"); name = codes name }

-- sessions whose current schema is `d`, and none
abbrev pub session : SessionState
session = record { number = 0; current = Some (codes "d"); tries = 10 }

abbrev pub homeless : SessionState
homeless = record { number = 0; current = None; tries = 10 }

-- ## Definitions

abbrev column : ColumnDef
column = record { name = codes "a"; kind = types.Int Normal false; nullable = false; default = None; auto = false }

abbrev primary : IndexDef
primary = record { name = codes "PRIMARY"; class = classes.Primary; columns = codes "a" ∷ [] }

abbrev pub key_on : ObjName → String → ForeignKeyDef
key_on parent name = record {
  name = codes name;
  columns = codes "a" ∷ [];
  parent = parent;
  parent_columns = codes "a" ∷ [];
  on_delete = NoAction;
  on_update = NoAction;
}

abbrev pub table : ObjName → List ForeignKeyDef → TableParts
table name foreign_keys = record { name = name; columns = column ∷ []; indexes = primary ∷ []; foreign_keys = foreign_keys }

abbrev view : ObjName → ViewParts
view name = record { name = name; sources = []; outputs = [] }

-- ## What stands at the keys

abbrev family : List Step
family =
    step keys.Schemas (NamesThere (codes "d" ∷ codes "e" ∷ []))
    ∷ step (keys.Schema (codes "d")) SchemaThere
    ∷ step (keys.Schema (codes "e")) SchemaThere
    ∷ step (keys.Schema (codes "n")) Nothing
    ∷ step (keys.Objects (codes "d")) (NamesThere (codes "c" ∷ codes "o" ∷ codes "p" ∷ codes "v" ∷ []))
    ∷ step (keys.Objects (codes "e")) (NamesThere (codes "q" ∷ []))
    ∷ step (keys.Object (in_d "p")) (TableThere 3 (table (in_d "p") []))
    ∷ step (keys.Object (in_d "c")) (TableThere 5 (table (in_d "c") (key_on (in_d "p") "c_ibfk_1" ∷ [])))
    ∷ step (keys.Object (in_d "o")) (TableThere 7 (table (in_d "o") (key_on (in_d "o") "o_ibfk_1" ∷ [])))
    ∷ step (keys.Object (in_d "v")) (ViewThere (view (in_d "v")))
    ∷ step (keys.Object (in_e "q")) (TableThere 9 (table (in_e "q") (key_on (in_d "p") "k" ∷ [])))
    ∷ step (keys.Object (in_d "t")) Nothing
    ∷ step (keys.Object (in_d "q")) Nothing
    ∷ step (keys.Object (in_d "x")) Nothing
    ∷ step (keys.Object (in_e "t")) Nothing
    ∷ step (keys.Children (in_d "p")) (ChildrenThere (in_d "c" ∷ in_e "q" ∷ []))
    ∷ step (keys.Children (in_d "c")) (ChildrenThere [])
    ∷ step (keys.Children (in_d "o")) (ChildrenThere [])
    ∷ step (keys.Children (in_e "q")) (ChildrenThere [])
    ∷ step (keys.Constraint (codes "d") (codes "c_ibfk_1")) (OwnerThere (in_d "c"))
    ∷ step (keys.Constraint (codes "d") (codes "c_ibfk_2")) Nothing
    ∷ step (keys.Constraint (codes "d") (codes "f")) Nothing
    ∷ step (keys.Constraint (codes "d") (codes "k")) Nothing
    ∷ step (keys.Constraint (codes "d") (codes "t_ibfk_1")) Nothing
    ∷ step (keys.Constraint (codes "e") (codes "t_ibfk_1")) Nothing
    ∷ []

abbrev pub known : Look
known key = seen_at family key

-- ## Elements of tables

abbrev pub a_column : Element
a_column = Column (record { name = codes "a"; kind = words.Int Normal false; nullable = None; default = None; auto = false; unique = false; primary = false })

abbrev pub a_key_column : Element
a_key_column = Column (record { name = codes "a"; kind = words.Int Normal false; nullable = None; default = None; auto = false; unique = false; primary = true })

-- a foreign key on the column
abbrev pub words_on : ObjRef → Option (List ℕ) → FkWords
words_on parent constraint = record {
  constraint = constraint;
  name = None;
  columns = codes "a" ∷ [];
  parent = parent;
  parent_columns = codes "a" ∷ [];
  on_delete = NoAction;
  on_update = NoAction;
}

abbrev pub refers_to : ObjRef → Option (List ℕ) → Element
refers_to parent constraint = ForeignKey (words_on parent constraint)
