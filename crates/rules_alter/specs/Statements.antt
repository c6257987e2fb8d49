-- ALTER TABLE, CREATE INDEX and DROP INDEX.
use Rattle.std.specs.Prelude.{ℕ, Bool, false, not, nat_lt, List, [], ◌∷◌, ◌++◌, map, filter, length, Option, Some, None, if◌then◌else◌, codes}
use Rattle.std.specs.List.{count_by, flat_map}
use Rattle.dd_names.specs.declared.object_name.ObjName.{ObjName}
use Rattle.dd_names.specs.declared.object_name.ObjectKey.TheVariants as keys
use Rattle.dd_errors.specs.Errors.{ErrorValue}
use Rattle.sql_types.specs.declared.choices.IndexClass.{IndexClass}
use Rattle.sql_types.specs.declared.choices.IndexClass.TheVariants as classes
use Rattle.sql_types.specs.declared.words.ObjRef.{ObjRef}
use Rattle.sql_types.specs.declared.words.KeyWords.{KeyWords}
use Rattle.sql_ast.specs.declared.action.AlterAction.{AlterAction}
use Rattle.sql_ast.specs.declared.action.AlterAction.TheVariants as actions
use Rattle.sql_ast.specs.declared.session.SessionState.{SessionState}
use Rattle.dd_definitions.specs.Indexes.{is_secondary}
use Rattle.dd_definitions.specs.declared.parts.TableParts.{TableParts}
use Rattle.dd_catalog.specs.Sights.{Sight, TableThere, ViewThere}
use Rattle.dd_catalog.specs.Walks.{Walk, done, refuse, ◌>>=◌, look_at, refuse_if, each, every, over}
use Rattle.rules_outcome.specs.Choices.{After, Gone, FreshTable, KeptTable, Change, change, Choice, Changes}
use Rattle.rules_refusals.specs.Refusals.{beyond_limit, no_such_table, too_many_fields, too_many_keys, wrong_auto_key, wrong_object}
use Rattle.rules_named.specs.Named.{own_schema_there, resolved}
use Rattle.rules_schema.specs.Drops.{children_seen}
use Rattle.rules_create.specs.Tables.{are_autos_led}
use Rattle.rules_rename.specs.Renames.{name_is_free, renamed_keys, with_parents}
use Rattle.rules_alter.specs.declared.states.Altering.{Altering}
use Rattle.rules_alter.specs.declared.states.Child.{Child}
use Rattle.rules_alter.specs.Actions.{one_action}
use Rattle.rules_alter.specs.ForeignKeys.{all_keys_fit}

-- ## The names

-- the table, and the new names that the actions give it
pub record Names : Type 0 where
  pub table : ObjName
  pub targets : List ObjName

abbrev pub target_in : AlterAction → List ObjRef
target_in (actions.RenameTable to) = to ∷ []
target_in other = []

-- first 1046 of each, in the order of the text
unfoldable pub all_resolved : SessionState → ObjRef → List AlterAction → Walk ErrorValue Names
all_resolved session ref acts = do
  table ← resolved session.current ref
  targets ← each (resolved session.current) (flat_map target_in acts)
  done (record { table = table; targets = targets })

-- and then 1049
unfoldable pub names_of : SessionState → ObjRef → List AlterAction → Walk ErrorValue Names
names_of session ref acts = do
  names ← all_resolved session ref acts
  _ ← own_schema_there names.table
  _ ← every own_schema_there names.targets
  done names

-- of several new names the last
abbrev pub last_of : List ObjName → Option ObjName
last_of [] = None
last_of (name ∷ []) = Some name
last_of (name ∷ next ∷ names) = last_of (next ∷ names)

-- ## The table and its children

pub record Found : Type 0 where
  pub space : ℕ
  pub parts : TableParts

-- absent: 1146; a view: 1347
abbrev pub table_seen : ObjName → Sight → Walk ErrorValue Found
table_seen table (TableThere space parts) = done (record { space = space; parts = parts })
table_seen table (ViewThere parts) = refuse (wrong_object table (codes "BASE TABLE"))
table_seen table seen = refuse (no_such_table table)

abbrev pub child_of : ObjName → ℕ → TableParts → Child
child_of name space parts = record { name = name; space = space; parts = parts; is_changed = false }

abbrev pub child_seen : ObjName → Sight → List Child
child_seen name (TableThere space parts) = child_of name space parts ∷ []
child_seen name seen = []

-- one child more, as it stands there
unfoldable pub one_child : List Child → ObjName → Walk ErrorValue (List Child)
one_child before name = do
  seen ← look_at (keys.Object name)
  done (before ++ child_seen name seen)

-- more than 4,096: 9001
unfoldable pub children_of : ObjName → Walk ErrorValue (List Child)
children_of table = do
  seen ← look_at (keys.Children table)
  _ ← refuse_if (nat_lt 4096 (length (children_seen seen))) (beyond_limit "4096")
  over one_child [] (children_seen seen)

-- ## Behind all actions

-- More than 1017 columns: 1117. More than 64 secondary indexes: 1069. An auto column that isn't the only one or leads no index:
-- 1075. Each own foreign key and then each child's: 3780, 1830. More than 1,024 foreign keys: 9001.
unfoldable pub within_limits : Altering → Walk ErrorValue (Unit {0})
within_limits state = do
  _ ← refuse_if (nat_lt 1017 (length state.parts.columns)) too_many_fields
  _ ← refuse_if (nat_lt 64 (count_by is_secondary state.parts.indexes)) too_many_keys
  _ ← refuse_if (not (are_autos_led state.parts)) wrong_auto_key
  _ ← all_keys_fit state
  refuse_if (nat_lt 1024 (length state.parts.foreign_keys)) (beyond_limit "1024")

-- ## What changes

abbrev pub table_behind : ℕ → Bool → TableParts → After
table_behind space is_rebuilt parts = if is_rebuilt then FreshTable parts else KeptTable space parts

abbrev pub child_change : Child → Change
child_change child = change (keys.Object child.name) (KeptTable child.space child.parts)

abbrev pub is_child_changed : Child → Bool
is_child_changed child = child.is_changed

-- the table, and the children that an action has changed
abbrev pub changes_in_place : ℕ → Altering → List Change
changes_in_place space state =
    change (keys.Object state.parts.name) (table_behind space state.is_rebuilt state.parts) ∷ map child_change (filter is_child_changed state.children)

abbrev pub child_moved : ObjName → ObjName → Child → Change
child_moved from to child = change (keys.Object child.name) (KeptTable child.space (with_parents from to child.parts))

-- the table under its new name, and all its children
unfoldable pub changes_moved : ℕ → Altering → ObjName → Walk ErrorValue (List Change)
changes_moved space state to = do
  _ ← name_is_free to
  foreign_keys ← renamed_keys state.parts.name to state.parts.foreign_keys
  done (change (keys.Object state.parts.name) Gone
      ∷ change (keys.Object to) (table_behind space state.is_rebuilt (record state.parts { name = to; foreign_keys = foreign_keys }))
      ∷ map (child_moved state.parts.name to) state.children)

-- the last new name as one pair of RENAME TABLE: 1050; the constraints 1059, 1826
abbrev pub changes_of : ℕ → Altering → Option ObjName → Walk ErrorValue (List Change)
changes_of space state None = done (changes_in_place space state)
changes_of space state (Some to) = changes_moved space state to

abbrev pub start_of : TableParts → List Child → Altering
start_of parts children = record { parts = parts; children = children; nulls = []; is_rebuilt = false }

-- ## The statements

-- the actions from left to right, and then what holds of the whole table
unfoldable pub all_acted : Altering → List AlterAction → Walk ErrorValue Altering
all_acted start acts = do
  state ← over one_action start acts
  _ ← within_limits state
  done state

-- what the actions make of the table that stands there
unfoldable pub altered : SessionState → List AlterAction → Option ObjName → Found → List Child → Walk ErrorValue Choice
altered session acts target found children = do
  state ← all_acted (start_of found.parts children) acts
  changes ← changes_of found.space state target
  done (Changes changes session)

-- ALTER TABLE. Absent: 1146; a view: 1347. More than 4,096 children: 9001. Then the actions, from left to right.
unfoldable pub alter_table : SessionState → ObjRef → List AlterAction → Walk ErrorValue Choice
alter_table session ref acts = do
  names ← names_of session ref acts
  seen ← look_at (keys.Object names.table)
  found ← table_seen names.table seen
  children ← children_of names.table
  altered session acts (last_of names.targets) found children

abbrev pub index_class : Bool → IndexClass
index_class is_unique = if is_unique then classes.Unique else classes.Plain

abbrev pub index_words : Bool → List ℕ → List (List ℕ) → KeyWords
index_words is_unique name columns = record { class = index_class is_unique; constraint = None; name = Some name; columns = columns }

-- CREATE INDEX is ADD KEY
abbrev pub create_index : SessionState → Bool → List ℕ → ObjRef → List (List ℕ) → Walk ErrorValue Choice
create_index session is_unique name ref columns = alter_table session ref (actions.AddKey (index_words is_unique name columns) ∷ [])

-- DROP INDEX is the action of that name
abbrev pub drop_index : SessionState → List ℕ → ObjRef → Walk ErrorValue Choice
drop_index session name ref = alter_table session ref (actions.DropIndex name ∷ [])
