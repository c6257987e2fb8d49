-- RENAME TABLE.
use Rattle.std.specs.Prelude.{ℕ, Bool, ◌||◌, not, nat_lt, List, [], ◌∷◌, ◌++◌, map, length, Option, Some, None, if◌then◌else◌}
use Rattle.std.specs.FinMap as finite_map
use Rattle.std.specs.Str.{bytes_eq}
use Rattle.dd_names.specs.Names.{fold}
use Rattle.dd_names.specs.declared.object_name.ObjName.{ObjName}
use Rattle.dd_names.specs.declared.object_name.ObjectKey.TheVariants as keys
use Rattle.dd_errors.specs.Errors.{ErrorValue}
use Rattle.dd_definitions.specs.declared.foreign_keys.ForeignKeyDef.{ForeignKeyDef}
use Rattle.dd_definitions.specs.declared.parts.TableParts.{TableParts}
use Rattle.dd_definitions.specs.declared.view_parts.ViewParts.{ViewParts}
use Rattle.sql_ast.specs.declared.session.SessionState.{SessionState}
use Rattle.sql_ast.specs.declared.table.RenamePair.{RenamePair}
use Rattle.dd_catalog.specs.Sights.{Sight, Nothing, TableThere, ViewThere}
use Rattle.dd_catalog.specs.Walks.{Walk, done, refuse, ◌>>=◌, look_at, refuse_if, each, every, over}
use Rattle.dd_catalog.specs.Catalog.{is_same_object}
use Rattle.rules_refusals.specs.Refusals.{too_long_ident, fk_dup_name}
use Rattle.rules_elements.specs.ForeignKeys.{is_owned_elsewhere, has_constraint_named}
use Rattle.rules_outcome.specs.Choices.{After, Gone, KeptTable, KeptView, Choice, Changes}
use Rattle.rules_refusals.specs.Refusals.{no_such_table, forbid_schema_change, table_exists, beyond_limit}
use Rattle.rules_named.specs.Named.{is_nothing, resolved, own_schema_there}
use Rattle.rules_schema.specs.Drops.{children_seen, is_among}
use Rattle.rules_create.specs.Tables.{behind, constraint_front, put_in_order}
use Rattle.rules_rename.specs.Overlays.{Overlay, behind_changes, with_changes, changes_in}

-- ## Foreign keys behind a renaming

abbrev pub with_front : List ℕ → List ℕ → Option (List ℕ) → List ℕ
with_front to name None = name
with_front to name (Some rest) = constraint_front to ++ rest

-- a name that begins with `<old>_ibfk_`, byte by byte, begins with `<new>_ibfk_`
unfoldable pub renamed_constraint : List ℕ → List ℕ → List ℕ → List ℕ
renamed_constraint from to name = with_front to name (behind (constraint_front from) name)

abbrev pub with_parent : ObjName → ObjName → ForeignKeyDef → ForeignKeyDef
with_parent from to key = if is_same_object key.parent from then record key { parent = to } else key

-- an own foreign key, which may refer to the table itself
unfoldable pub renamed_key : ObjName → ObjName → ForeignKeyDef → ForeignKeyDef
renamed_key from to key = with_parent from to (record key { name = renamed_constraint from.name to.name key.name })

-- a constraint's name of more than 64 characters: 1059
unfoldable pub fits_in_name : ForeignKeyDef → Walk ErrorValue (Unit {0})
fits_in_name key = refuse_if (nat_lt 64 (length key.name)) (too_long_ident key.name)

-- a name that another table of the new schema has, or an own constraint before it: 1826
unfoldable pub one_free : ObjName → ObjName → List ForeignKeyDef → ForeignKeyDef → Walk ErrorValue (List ForeignKeyDef)
one_free from to before key = do
  owner ← look_at (keys.Constraint to.schema (fold key.name))
  _ ← refuse_if (is_owned_elsewhere from owner || has_constraint_named before key.name) (fk_dup_name key.name)
  done (before ++ key ∷ [])

abbrev pub in_order : List ForeignKeyDef → List ForeignKeyDef
in_order [] = []
in_order (key ∷ keys) = put_in_order key (in_order keys)

-- the table's constraints by their new names, in the order of these
unfoldable pub renamed_keys : ObjName → ObjName → List ForeignKeyDef → Walk ErrorValue (List ForeignKeyDef)
renamed_keys from to keys = do
  _ ← every fits_in_name (map (renamed_key from to) keys)
  free ← over (one_free from to) [] (map (renamed_key from to) keys)
  done (in_order free)

-- ## One pair

abbrev pub with_parents : ObjName → ObjName → TableParts → TableParts
with_parents from to parts = record parts { foreign_keys = map (with_parent from to) parts.foreign_keys }

-- a child refers to the table by its new name; what is no table stays
abbrev pub child_after : ObjName → ObjName → Sight → After
child_after from to (TableThere space parts) = KeptTable space (with_parents from to parts)
child_after from to (ViewThere parts) = KeptView parts
child_after from to seen = Gone

unfoldable pub renamed_child : ObjName → ObjName → ObjName → Walk ErrorValue (ObjName × After)
renamed_child from to child = do
  seen ← look_at (keys.Object child)
  done (child, child_after from to seen)

-- the new name is free
unfoldable pub name_is_free : ObjName → Walk ErrorValue (Unit {0})
name_is_free to = do
  seen ← look_at (keys.Object to)
  refuse_if (not (is_nothing seen)) (table_exists to.name)

-- what a pair changes, and the children of its table
pub record Renamed : Type 0 where
  pub changes : List (ObjName × After)
  pub children : List ObjName

unfoldable pub renamed_table : ObjName → ObjName → ℕ → TableParts → Walk ErrorValue Renamed
renamed_table from to space parts = do
  _ ← name_is_free to
  foreign_keys ← renamed_keys from to parts.foreign_keys
  seen ← look_at (keys.Children from)
  children ← each (renamed_child from to) (children_seen seen)
  done (record {
    changes = (from, Gone) ∷ (to, KeptTable space (record parts { name = to; foreign_keys = foreign_keys })) ∷ children;
    children = children_seen seen;
  })

-- a view to another schema: 1450
unfoldable pub renamed_view : ObjName → ObjName → ViewParts → Walk ErrorValue Renamed
renamed_view from to parts = do
  _ ← refuse_if (not (bytes_eq from.schema to.schema)) (forbid_schema_change from.schema to.schema)
  _ ← name_is_free to
  done (record { changes = (from, Gone) ∷ (to, KeptView (record parts { name = to })) ∷ []; children = [] })

abbrev pub renamed_seen : ObjName → ObjName → Sight → Walk ErrorValue Renamed
renamed_seen from to (TableThere space parts) = renamed_table from to space parts
renamed_seen from to (ViewThere parts) = renamed_view from to parts
renamed_seen from to seen = refuse (no_such_table from)

-- Source absent: 1146; a view to another schema: 1450; target present: 1050; its constraints: 1059, 1826. The object has the new
-- name, its constraints and its children follow.
unfoldable pub renamed_object : ObjName → ObjName → Walk ErrorValue Renamed
renamed_object from to = do
  seen ← look_at (keys.Object from)
  renamed_seen from to seen

-- ## All pairs

-- what the pairs so far change, and the different children of their tables
pub record Renaming : Type 0 where
  pub overlay : Overlay
  pub children : List ObjName

abbrev pub with_child : List ObjName → ObjName → List ObjName
with_child children child = if is_among children child then children else children ++ child ∷ []

abbrev pub with_all : List ObjName → List ObjName → List ObjName
with_all children [] = children
with_all children (child ∷ more) = with_all (with_child children child) more

-- a pair sees what those before it have left
unfoldable pub one_pair : Renaming → ObjName × ObjName → Walk ErrorValue Renaming
one_pair before pair = do
  renamed ← behind_changes before.overlay (renamed_object pair.0 pair.1)
  done (record { overlay = with_changes before.overlay renamed.changes; children = with_all before.children renamed.children })

unfoldable pub named_pair : Option (List ℕ) → RenamePair → Walk ErrorValue (ObjName × ObjName)
named_pair current pair = do
  from ← resolved current pair.from
  to ← resolved current pair.to
  done (from, to)

unfoldable pub schemas_there : ObjName × ObjName → Walk ErrorValue (Unit {0})
schemas_there pair = do
  _ ← own_schema_there pair.0
  own_schema_there pair.1

-- RENAME TABLE. More than 4,096 pairs: 9001. Pair by pair as above. At last, more than 4,096 different children of renamed
-- tables: 9001.
unfoldable pub rename : SessionState → List RenamePair → Walk ErrorValue Choice
rename session pairs = do
  named ← each (named_pair session.current) pairs
  _ ← every schemas_there named
  _ ← refuse_if (nat_lt 4096 (length named)) (beyond_limit "4096")
  renaming ← over one_pair (record { overlay = finite_map.empty; children = [] }) named
  _ ← refuse_if (nat_lt 4096 (length renaming.children)) (beyond_limit "4096")
  done (Changes (changes_in (finite_map.entries renaming.overlay)) session)
