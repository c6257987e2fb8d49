-- Tables that are made like others, and tables that are emptied.
use Rattle.std.specs.Prelude.{true, false, List, [], ◌∷◌, Some, codes}
use Rattle.dd_names.specs.declared.object_name.ObjName.{ObjName}
use Rattle.dd_names.specs.declared.object_name.ObjectKey.TheVariants as keys
use Rattle.rules_outcome.specs.Choices.{FreshTable, Choice, Same, Changes, change}
use Rattle.dd_catalog.specs.Walks.{fine}
use Rattle.rules_tables.specs.Likes.{create_like}
use Rattle.rules_tables.specs.Truncates.{truncate}
use Rattle.rules_outcome_examples.specs.Catalogs.{error, in_d, in_e, key, named, session, table}
use Rattle.rules_outcome_examples.specs.Drops.{Case, in_none, of_e}
use Rattle.dd_definitions.specs.declared.foreign_keys.ForeignKeyDef.{ForeignKeyDef}

abbrev fresh : ObjName → List ForeignKeyDef → Choice
fresh name keys_of = Changes (change (keys.Object name) (FreshTable (table name keys_of)) ∷ []) session

-- the foreign key of `t` isn't copied; of two names each is resolved before a schema is looked for; the source is looked at before
-- the name that is made
abbrev pub liked : List Case
liked =
    (create_like session false (named "x") (named "p"), fine (fresh (in_d "x") []))
    ∷ (create_like session false (named "x") (named "t"), fine (fresh (in_d "x") []))
    ∷ (create_like session false (of_e "x") (named "t"), fine (fresh (in_e "x") []))
    ∷ (create_like session false (named "t") (named "t"), error 1050 (codes "t" ∷ []))
    ∷ (create_like session true (named "v") (named "t"), fine Same)
    ∷ (create_like session true (named "t") (named "x"), error 1146 (codes "d" ∷ codes "x" ∷ []))
    ∷ (create_like session true (named "t") (named "v"), error 1347 (codes "d" ∷ codes "v" ∷ codes "BASE TABLE" ∷ []))
    ∷ (create_like in_none false (record { schema = Some (codes "f"); name = codes "x" }) (named "t"), error 1046 [])
    ∷ (create_like session false (record { schema = Some (codes "f"); name = codes "x" }) (record { schema = Some (codes "g"); name = codes "t" }), error 1049 (codes "f" ∷ []))
    ∷ (create_like session false (named "x") (record { schema = Some (codes "g"); name = codes "t" }), error 1049 (codes "g" ∷ []))
    ∷ []

-- a table with children stays as it is, but one that only refers to itself doesn't; a child may be emptied
abbrev pub emptied : List Case
emptied =
    (truncate session (named "t"), fine (fresh (in_d "t") (key "t_ibfk_1" (in_d "p") ∷ [])))
    ∷ (truncate session (named "o"), fine (fresh (in_d "o") (key "o_ibfk_1" (in_d "o") ∷ [])))
    ∷ (truncate session (of_e "c"), fine (fresh (in_e "c") (key "c_ibfk_1" (in_d "p") ∷ [])))
    ∷ (truncate session (named "p"), error 1701 (codes "d" ∷ codes "t" ∷ codes "t_ibfk_1" ∷ []))
    ∷ (truncate session (named "v"), error 1146 (codes "d" ∷ codes "v" ∷ []))
    ∷ (truncate session (named "x"), error 1146 (codes "d" ∷ codes "x" ∷ []))
    ∷ (truncate in_none (named "t"), error 1046 [])
    ∷ []
