-- A small catalog: in the schema `d` the tables `p`, `t`, `o` and the view `v`, and in the schema `e` the table `c`.
use Rattle.std.specs.Prelude.{◌≡◌, ℕ, false, List, [], ◌∷◌, Some, None, map, codes, if◌then◌else◌}
use Prim.Native.String.{String}
use Rattle.std.specs.Str.{bytes_eq}
use Rattle.dd_names.specs.declared.object_name.ObjName.{ObjName}
use Rattle.dd_names.specs.declared.object_name.ObjectKey.TheVariants as keys
use Rattle.dd_errors.specs.Errors.{ErrorValue}
use Rattle.sql_types.specs.declared.choices.IntSize.TheVariants.{Normal}
use Rattle.sql_types.specs.declared.choices.ColumnType.TheVariants as types
use Rattle.sql_types.specs.declared.choices.FkRule.TheVariants.{NoAction}
use Rattle.sql_types.specs.declared.words.ObjRef.{ObjRef}
use Rattle.dd_definitions.specs.declared.columns.ColumnDef.{ColumnDef}
use Rattle.dd_definitions.specs.declared.foreign_keys.ForeignKeyDef.{ForeignKeyDef}
use Rattle.dd_definitions.specs.declared.parts.TableParts.{TableParts}
use Rattle.dd_definitions.specs.declared.view_parts.ViewParts.{ViewParts}
use Rattle.sql_ast.specs.declared.session.SessionState.{SessionState}
use Rattle.dd_catalog.specs.Catalog.{is_same_object}
use Rattle.dd_catalog.specs.Sights.{Sight, Nothing, SchemaThere, TableThere, ViewThere, NamesThere, ChildrenThere, OwnerThere}
use Rattle.dd_catalog.specs.Walks.{Walk, Found, refused, run}
use Rattle.dd_catalog.specs.WalkLaws.{Look}

-- each check comes to what stands beside it
abbrev pub AllCome : {A : Type 0} → Look → List (Walk ErrorValue A × Found ErrorValue A) → Type 0
AllCome look cases = map (λ c. run look c.0) cases ≡ map (λ c. c.1) cases

abbrev pub error : {A : Type 0} → ℕ → List (List ℕ) → Found ErrorValue A
error number args = refused (record { number = number; args = args })

-- an object of the schema `d`, and one of `e`
abbrev pub in_d : String → ObjName
in_d name = record { schema = codes "d"; name = codes name }

abbrev pub in_e : String → ObjName
in_e name = record { schema = codes "e"; name = codes name }

-- a name that is written without a schema
abbrev pub named : String → ObjRef
named name = record { schema = None; name = codes name }

-- a session whose current schema is `d`
abbrev pub session : SessionState
session = record { number = 1; current = Some (codes "d"); tries = 50 }

abbrev pub column : ColumnDef
column = record { name = codes "a"; kind = types.Int Normal false; nullable = false; default = None; auto = false }

-- a foreign key on the column
abbrev pub key : String → ObjName → ForeignKeyDef
key name parent = record { name = codes name; columns = codes "a" ∷ []; parent = parent; parent_columns = codes "a" ∷ []; on_delete = NoAction; on_update = NoAction }

abbrev pub table : ObjName → List ForeignKeyDef → TableParts
table name keys = record { name = name; columns = column ∷ []; indexes = []; foreign_keys = keys }

abbrev pub view : ObjName → ViewParts
view name = record { name = name; sources = []; outputs = [] }

-- `t` of `d` and `c` of `e` refer to `p`, and `o` to itself
abbrev at_object : ObjName → Sight
at_object name =
    if is_same_object name (in_d "p") then TableThere 1 (table (in_d "p") [])
    else if is_same_object name (in_d "t") then TableThere 2 (table (in_d "t") (key "t_ibfk_1" (in_d "p") ∷ []))
    else if is_same_object name (in_d "o") then TableThere 3 (table (in_d "o") (key "o_ibfk_1" (in_d "o") ∷ []))
    else if is_same_object name (in_e "c") then TableThere 4 (table (in_e "c") (key "c_ibfk_1" (in_d "p") ∷ []))
    else if is_same_object name (in_d "v") then ViewThere (view (in_d "v"))
    else Nothing

abbrev at_schema : List ℕ → Sight
at_schema name = if bytes_eq name (codes "d") then SchemaThere else if bytes_eq name (codes "e") then SchemaThere else Nothing

abbrev objects_of : List ℕ → List (List ℕ)
objects_of name = if bytes_eq name (codes "d") then codes "o" ∷ codes "p" ∷ codes "t" ∷ codes "v" ∷ [] else if bytes_eq name (codes "e") then codes "c" ∷ [] else []

-- beside the constraints of these tables, `x_ibfk_1` of another one
abbrev at_constraint : List ℕ → Sight
at_constraint name = if bytes_eq name (codes "x_ibfk_1") then OwnerThere (in_d "other") else Nothing

abbrev pub known : Look
known (keys.Schema name) = Some (at_schema name)
known (keys.Object name) = Some (at_object name)
known (keys.Objects schema) = Some (NamesThere (objects_of schema))
known (keys.Children name) = Some (ChildrenThere (if is_same_object name (in_d "p") then in_d "t" ∷ in_e "c" ∷ [] else []))
known (keys.Constraint schema folded) = Some (at_constraint folded)
known keys.Schemas = None
