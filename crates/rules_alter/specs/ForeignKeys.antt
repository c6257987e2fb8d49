-- The actions on foreign keys, and the foreign keys of the whole table.
use Rattle.std.specs.Prelude.{ℕ, not, List, [], filter, if◌then◌else◌}
use Rattle.dd_names.specs.Names.{same}
use Rattle.dd_errors.specs.Errors.{ErrorValue}
use Rattle.sql_types.specs.declared.words.FkWords.{FkWords}
use Rattle.dd_definitions.specs.declared.foreign_keys.ForeignKeyDef.{ForeignKeyDef}
use Rattle.dd_definitions.specs.declared.parts.TableParts.{TableParts}
use Rattle.dd_catalog.specs.Catalog.{is_same_object}
use Rattle.dd_catalog.specs.Kinds.{first_odd_pair}
use Rattle.dd_catalog.specs.Walks.{Walk, done, ◌>>=◌, refuse_if, refuse_some, every}
use Rattle.rules_refusals.specs.Refusals.{cant_drop_field_or_key}
use Rattle.rules_elements.specs.ForeignKeys.{has_constraint_named, odd_pair_refused, parent_of, set_null_refused}
use Rattle.rules_create.specs.Tables.{one_foreign_key}
use Rattle.rules_alter.specs.Altering.{with_parts}
use Rattle.rules_alter.specs.declared.states.Altering.{Altering}
use Rattle.rules_alter.specs.declared.states.Child.{Child}
use Rattle.rules_alter.specs.Arranged.{arranged}

-- ## ADD FOREIGN KEY

-- as in CREATE TABLE; the index that it may make stands behind those of its class
unfoldable pub add_foreign_key : FkWords → Altering → Walk ErrorValue Altering
add_foreign_key words state = do
  parts ← one_foreign_key state.parts words
  done (with_parts state (arranged state.parts parts))

-- ## DROP FOREIGN KEY

abbrev pub other_keys : List ℕ → List ForeignKeyDef → List ForeignKeyDef
other_keys name keys = filter (λ (key : ForeignKeyDef). not (same key.name name)) keys

-- unknown: 1091
unfoldable pub drop_foreign_key : List ℕ → Altering → Walk ErrorValue Altering
drop_foreign_key name state = do
  _ ← refuse_if (not (has_constraint_named state.parts.foreign_keys name)) (cant_drop_field_or_key name)
  done (with_parts state (record state.parts { foreign_keys = other_keys name state.parts.foreign_keys }))

-- ## Behind all actions

-- column by column, kinds that differ: 3780; SET NULL and a column that is NOT NULL: 1830
unfoldable pub pairs_fit : TableParts → TableParts → ForeignKeyDef → Walk ErrorValue (Unit {0})
pairs_fit child parent key = do
  _ ← refuse_some (odd_pair_refused [] key.name (first_odd_pair child.columns parent.columns key.columns key.parent_columns))
  refuse_some (set_null_refused [] child.columns key)

unfoldable pub own_key_fits : TableParts → ForeignKeyDef → Walk ErrorValue (Unit {0})
own_key_fits parts key = do
  parent ← parent_of parts key.parent
  pairs_fit parts parent key

-- of a foreign key that refers to the table
abbrev pub pairs_on_fit : TableParts → TableParts → ForeignKeyDef → Walk ErrorValue (Unit {0})
pairs_on_fit child parts key = if is_same_object key.parent parts.name then pairs_fit child parts key else done tt

abbrev pub child_fits : TableParts → Child → Walk ErrorValue (Unit {0})
child_fits parts child = every (pairs_on_fit child.parts parts) child.parts.foreign_keys

-- each foreign key of the table, and then each child's
unfoldable pub all_keys_fit : Altering → Walk ErrorValue (Unit {0})
all_keys_fit state = do
  _ ← every (own_key_fits state.parts) state.parts.foreign_keys
  every (child_fits state.parts) state.children
