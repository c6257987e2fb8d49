-- DROP TABLE, and what it shares with DROP DATABASE: no table goes while a child of it stays.
use Rattle.std.specs.Prelude.{ℕ, Bool, true, false, not, nat_lt, List, [], ◌∷◌, ◌++◌, map, filter, length, Option, Some, None, if◌then◌else◌}
use Rattle.std.specs.List.{list_any, find}
use Rattle.dd_names.specs.declared.object_name.ObjName.{ObjName}
use Rattle.dd_names.specs.declared.object_name.ObjectKey.TheVariants as keys
use Rattle.dd_errors.specs.Errors.{ErrorValue}
use Rattle.sql_types.specs.declared.words.ObjRef.{ObjRef}
use Rattle.dd_definitions.specs.declared.foreign_keys.ForeignKeyDef.{ForeignKeyDef}
use Rattle.sql_ast.specs.declared.session.SessionState.{SessionState}
use Rattle.dd_catalog.specs.Sights.{Sight, TableThere, ChildrenThere}
use Rattle.dd_catalog.specs.Walks.{Walk, done, refuse, ◌>>=◌, look_at, refuse_if, refuse_some, every, picked}
use Rattle.dd_catalog.specs.Catalog.{is_same_object}
use Rattle.rules_outcome.specs.Choices.{Gone, Change, change, Choice, Same, Changes}
use Rattle.rules_refusals.specs.Refusals.{beyond_limit, nonuniq_table, bad_table, fk_cannot_drop_parent}
use Rattle.rules_named.specs.Named.{all_named}

abbrev pub is_table : Sight → Bool
is_table (TableThere space parts) = true
is_table seen = false

abbrev pub children_seen : Sight → List ObjName
children_seen (ChildrenThere children) = children
children_seen seen = []

-- ## Children that stay

abbrev pub name_of_key : Option ForeignKeyDef → List ℕ
name_of_key None = []
name_of_key (Some key) = key.name

-- the first constraint of the child that refers to the table
abbrev pub constraint_on : ObjName → Sight → List ℕ
constraint_on table (TableThere space parts) = name_of_key (find (λ (key : ForeignKeyDef). is_same_object key.parent table) parts.foreign_keys)
constraint_on table seen = []

unfoldable pub refuse_for : ObjName → Option ObjName → Walk ErrorValue (Unit {0})
refuse_for table None = done tt
refuse_for table (Some child) = do
  seen ← look_at (keys.Object child)
  refuse (fk_cannot_drop_parent table.name (constraint_on table seen) child.name)

-- the table's least child that doesn't go is 3730
unfoldable pub no_child_stays : (ObjName → Bool) → ObjName → Walk ErrorValue (Unit {0})
no_child_stays goes table = do
  seen ← look_at (keys.Children table)
  refuse_for table (find (λ child. not (goes child)) (children_seen seen))

abbrev pub gone : ObjName → Change
gone object = change (keys.Object object) Gone

-- ## DROP TABLE

abbrev pub is_among : List ObjName → ObjName → Bool
is_among objects object = list_any (is_same_object object) objects

-- the first name that stood before
abbrev pub first_twice : List ObjName → List ObjName → Option ObjName
first_twice before [] = None
first_twice before (object ∷ objects) = if is_among before object then Some object else first_twice (before ++ object ∷ []) objects

abbrev pub twice_refused : Option ObjName → Option ErrorValue
twice_refused None = None
twice_refused (Some object) = Some (nonuniq_table object.name)

unfoldable pub is_there : ObjName → Walk ErrorValue Bool
is_there object = do
  seen ← look_at (keys.Object object)
  done (is_table seen)

-- `schema.name`
abbrev pub full_name : ObjName → List ℕ
full_name object = object.schema ++ 46 ∷ object.name

-- the names with a comma between each two
abbrev pub joined : List ObjName → List ℕ
joined [] = []
joined (object ∷ []) = full_name object
joined (object ∷ next ∷ objects) = full_name object ++ 44 ∷ joined (next ∷ objects)

abbrev pub is_left_out : List ObjName → ObjName → Bool
is_left_out objects object = not (is_among objects object)

abbrev pub unknown_refused : List ObjName → Option ErrorValue
unknown_refused [] = None
unknown_refused (object ∷ objects) = Some (bad_table (joined (object ∷ objects)))

-- without a table that is there, nothing changes
abbrev pub tables_gone : SessionState → List ObjName → Choice
tables_gone session [] = Same
tables_gone session (table ∷ tables) = Changes (map gone (table ∷ tables)) session

-- DROP TABLE. More than 65,536 names: 9001. A name twice: 1066. Names of no tables are skipped with IF EXISTS, else 1051 with all
-- of them. The first table in the list with a child that isn't dropped: 3730 with the least. The tables go.
unfoldable pub drop_table : SessionState → Bool → List ObjRef → Walk ErrorValue Choice
drop_table session if_exists refs = do
  objects ← all_named session.current refs
  _ ← refuse_if (nat_lt 65536 (length objects)) (beyond_limit "65536")
  _ ← refuse_some (twice_refused (first_twice [] objects))
  tables ← picked is_there objects
  _ ← refuse_some (if if_exists then None else unknown_refused (filter (is_left_out tables) objects))
  _ ← every (no_child_stays (is_among tables)) tables
  done (tables_gone session tables)
