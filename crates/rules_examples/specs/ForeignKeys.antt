-- Foreign keys, beside a parent, a view, and constraints of other tables.
use Rattle.std.specs.Prelude.{ℕ, true, false, List, [], ◌∷◌, Option, Some, None, codes, if◌then◌else◌}
use Prim.Native.String.{String}
use Rattle.std.specs.Str.{bytes_eq}
use Rattle.dd_names.specs.declared.object_name.ObjectKey.TheVariants as keys
use Rattle.dd_errors.specs.Errors.{ErrorValue}
use Rattle.sql_types.specs.declared.choices.IntSize.TheVariants.{Tiny}
use Rattle.sql_types.specs.declared.choices.ColumnType.TheVariants as types
use Rattle.sql_types.specs.declared.choices.FkRule.{FkRule}
use Rattle.sql_types.specs.declared.choices.FkRule.TheVariants.{NoAction, Cascade, SetNull}
use Rattle.sql_types.specs.declared.choices.IndexClass.TheVariants.{Primary, Plain}
use Rattle.dd_definitions.specs.declared.foreign_keys.ForeignKeyDef.{ForeignKeyDef}
use Rattle.dd_definitions.specs.declared.parts.TableParts.{TableParts}
use Rattle.dd_catalog.specs.Sights.{Sight, Nothing, TableThere, ViewThere, OwnerThere}
use Rattle.dd_catalog.specs.Walks.{Walk, Found, fine, needs}
use Rattle.dd_catalog.specs.WalkLaws.{Look}
use Rattle.rules_elements.specs.ForeignKeys.{foreign_key_of}
use Rattle.rules_examples.specs.Words.{error, object, int, column, index, table, a, b, c}

abbrev pub Case : Type 0
Case = Walk ErrorValue ForeignKeyDef × Found ErrorValue ForeignKeyDef

-- a foreign key by its constraint, its columns, its parent, the parent's columns and the rule of ON DELETE
abbrev pub foreign_key : String → List (List ℕ) → String → List (List ℕ) → FkRule → ForeignKeyDef
foreign_key name columns parent parent_columns on_delete =
    record { name = codes name; columns = columns; parent = object parent; parent_columns = parent_columns; on_delete = on_delete; on_update = NoAction }

-- the parent has an index on Id and Code, and one on Short
abbrev pub parent : TableParts
parent = table "p" (column "Id" int false ∷ column "Code" (types.VarChar 9) true ∷ column "Short" (types.Int Tiny false) true ∷ column "Free" int true ∷ [])
    (index "PRIMARY" Primary (codes "Id" ∷ codes "Code" ∷ []) ∷ index "s" Plain (codes "Short" ∷ []) ∷ []) []

-- a column that is NOT NULL, one of characters, one of BOOL, and a foreign key of its own
abbrev pub child : TableParts
child = table "t" (column "a" int false ∷ column "b" (types.Char 3) true ∷ column "c" types.Bool true ∷ column "d" int true ∷ [])
    (index "k" Plain (a ∷ b ∷ []) ∷ []) (foreign_key "Mine" (a ∷ []) "p" (codes "Id" ∷ []) NoAction ∷ [])

abbrev pub at_object : List ℕ → Option Sight
at_object name =
    if bytes_eq name (codes "p") then Some (TableThere 7 parent)
    else if bytes_eq name (codes "v") then Some (ViewThere (record { name = object "v"; sources = []; outputs = [] }))
    else Some Nothing

-- the table `p`, and the view `v`
abbrev pub parents_alone : Look
parents_alone (keys.Object name) = at_object name.name
parents_alone key = None

-- beside them the constraint `theirs` of another table, and `ours` of the child
abbrev pub family : Look
family (keys.Object name) = at_object name.name
family (keys.Constraint schema folded) =
    if bytes_eq folded (codes "theirs") then Some (OwnerThere (object "q")) else if bytes_eq folded (codes "ours") then Some (OwnerThere (object "t")) else Some Nothing
family key = None

abbrev pub keeps : ForeignKeyDef → List (List ℕ) → Case
keeps key spelled = (foreign_key_of child key.columns key, fine (record key { parent_columns = spelled }))

abbrev pub foreign_keys : List Case
foreign_keys =
    keeps (foreign_key "f" (a ∷ []) "p" (codes "ID" ∷ []) NoAction) (codes "Id" ∷ [])
    ∷ keeps (foreign_key "f" (a ∷ b ∷ []) "p" (codes "id" ∷ codes "code" ∷ []) Cascade) (codes "Id" ∷ codes "Code" ∷ [])
    ∷ keeps (foreign_key "f" (c ∷ []) "p" (codes "short" ∷ []) SetNull) (codes "Short" ∷ [])
    ∷ keeps (foreign_key "f" (codes "d" ∷ []) "t" (codes "A" ∷ []) SetNull) (a ∷ [])
    ∷ keeps (foreign_key "ours" (a ∷ []) "p" (codes "Id" ∷ []) NoAction) (codes "Id" ∷ [])
    ∷ []

abbrev pub refuses : ForeignKeyDef → ℕ → List (List ℕ) → Case
refuses key number args = (foreign_key_of child key.columns key, error number args)

abbrev pub refused_foreign_keys : List Case
refused_foreign_keys =
    refuses (foreign_key "f" (a ∷ []) "q" (codes "Id" ∷ []) NoAction) 1824 (codes "q" ∷ [])
    ∷ refuses (foreign_key "f" (a ∷ []) "v" (codes "x" ∷ []) NoAction) 1824 (codes "v" ∷ [])
    ∷ refuses (foreign_key "f" (a ∷ []) "p" (codes "x" ∷ []) NoAction) 1822 (codes "f" ∷ codes "p" ∷ [])
    ∷ refuses (foreign_key "f" (a ∷ []) "p" (codes "Free" ∷ []) NoAction) 1822 (codes "f" ∷ codes "p" ∷ [])
    ∷ refuses (foreign_key "f" (b ∷ []) "p" (codes "Code" ∷ []) NoAction) 1822 (codes "f" ∷ codes "p" ∷ [])
    ∷ refuses (foreign_key "f" (b ∷ []) "t" (b ∷ []) NoAction) 1822 (codes "f" ∷ codes "t" ∷ [])
    ∷ refuses (foreign_key "f" (b ∷ a ∷ []) "p" (codes "id" ∷ codes "code" ∷ []) SetNull) 3780 (b ∷ codes "id" ∷ codes "f" ∷ [])
    ∷ refuses (foreign_key "f" (a ∷ a ∷ []) "p" (codes "id" ∷ codes "code" ∷ []) SetNull) 3780 (a ∷ codes "code" ∷ codes "f" ∷ [])
    ∷ refuses (foreign_key "f" (c ∷ []) "p" (codes "Id" ∷ []) NoAction) 3780 (c ∷ codes "Id" ∷ codes "f" ∷ [])
    ∷ refuses (foreign_key "theirs" (a ∷ []) "p" (codes "Id" ∷ []) SetNull) 1830 (a ∷ codes "theirs" ∷ [])
    ∷ refuses (foreign_key "Theirs" (a ∷ []) "p" (codes "Id" ∷ []) NoAction) 1826 (codes "Theirs" ∷ [])
    ∷ refuses (foreign_key "mine" (a ∷ []) "p" (codes "Id" ∷ []) NoAction) 1826 (codes "mine" ∷ [])
    ∷ []

-- nothing is known: the parent is looked at first, unless it is the table itself
abbrev pub unknown_parents : List Case
unknown_parents =
    (foreign_key_of child (a ∷ []) (foreign_key "F" (a ∷ []) "p" (codes "Id" ∷ []) NoAction), needs (keys.Object (object "p")))
    ∷ (foreign_key_of child (codes "d" ∷ []) (foreign_key "F" (codes "d" ∷ []) "t" (a ∷ []) NoAction), needs (keys.Constraint (codes "d") (codes "f")))
    ∷ []

-- with its parent alone a foreign key still needs the constraint of its name
abbrev pub unknown_owners : List Case
unknown_owners = (foreign_key_of child (a ∷ []) (foreign_key "F" (a ∷ []) "p" (codes "Id" ∷ []) NoAction), needs (keys.Constraint (codes "d") (codes "f"))) ∷ []
