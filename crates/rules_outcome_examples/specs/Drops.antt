-- Tables and schemas that are dropped, and a schema that is made.
use Rattle.std.specs.Prelude.{true, false, List, [], ◌∷◌, Some, None, codes}
use Prim.Native.String.{String}
use Rattle.dd_names.specs.declared.object_name.ObjectKey.TheVariants as keys
use Rattle.dd_errors.specs.Errors.{ErrorValue}
use Rattle.sql_ast.specs.declared.session.SessionState.{SessionState}
use Rattle.sql_types.specs.declared.words.ObjRef.{ObjRef}
use Rattle.dd_catalog.specs.Walks.{Walk, Found, fine}
use Rattle.rules_outcome.specs.Choices.{Gone, NewSchema, change, Choice, Same, Changes}
use Rattle.rules_schema.specs.Drops.{gone, drop_table}
use Rattle.rules_schema.specs.Schemas.{create_database, drop_database}
use Rattle.rules_outcome_examples.specs.Catalogs.{error, in_d, in_e, named, session}

abbrev pub Case : Type 0
Case = Walk ErrorValue Choice × Found ErrorValue Choice

abbrev pub of_e : String → ObjRef
of_e name = record { schema = Some (codes "e"); name = codes name }

-- a view is no table; a name that isn't there is told before a child that stays; a child goes with its parent
abbrev pub dropped_tables : List Case
dropped_tables =
    (drop_table session false (named "v" ∷ []), error 1051 (codes "d.v" ∷ []))
    ∷ (drop_table session false (named "p" ∷ named "x" ∷ []), error 1051 (codes "d.x" ∷ []))
    ∷ (drop_table session false (named "t" ∷ named "x" ∷ named "y" ∷ []), error 1051 (codes "d.x,d.y" ∷ []))
    ∷ (drop_table session false (named "x" ∷ named "x" ∷ []), error 1066 (codes "x" ∷ []))
    ∷ (drop_table session true (named "t" ∷ named "x" ∷ []), fine (Changes (gone (in_d "t") ∷ []) session))
    ∷ (drop_table session true (named "x" ∷ []), fine Same)
    ∷ (drop_table session true (named "p" ∷ named "t" ∷ []), error 3730 (codes "p" ∷ codes "c_ibfk_1" ∷ codes "c" ∷ []))
    ∷ (drop_table session false (named "p" ∷ of_e "c" ∷ named "t" ∷ []), fine (Changes (gone (in_d "p") ∷ gone (in_e "c") ∷ gone (in_d "t") ∷ []) session))
    ∷ []

abbrev in_schema_e : SessionState
in_schema_e = record session { current = Some (codes "e") }

abbrev pub in_none : SessionState
in_none = record session { current = None }

-- a child outside the schema stays; the current schema is none where it goes; a schema of the server is there
abbrev pub dropped_schemas : List Case
dropped_schemas =
    (drop_database session false (codes "d"), error 3730 (codes "p" ∷ codes "c_ibfk_1" ∷ codes "c" ∷ []))
    ∷ (drop_database in_schema_e false (codes "e"), fine (Changes (gone (in_e "c") ∷ change (keys.Schema (codes "e")) Gone ∷ []) in_none))
    ∷ (drop_database session false (codes "e"), fine (Changes (gone (in_e "c") ∷ change (keys.Schema (codes "e")) Gone ∷ []) session))
    ∷ (drop_database session false (codes "x"), error 1008 (codes "x" ∷ []))
    ∷ (create_database session false (codes "mysql"), error 1007 (codes "mysql" ∷ []))
    ∷ (create_database session false (codes "x"), fine (Changes (change (keys.Schema (codes "x")) NewSchema ∷ []) session))
    ∷ []
