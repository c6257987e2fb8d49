-- A table with its keys so far beside the names of its indexes, and foreign keys in order.
use Rattle.std.specs.Prelude.{◌≡◌, ℕ, ◌^◌, ◌<◌, List, [], map}
use Rattle.std.specs.Map.{values_of}
use Rattle.dd_names.specs.Names.{fold}
use Rattle.dd_errors.specs.Errors.{ErrorValue}
use Rattle.dd_definitions.specs.declared.foreign_keys.ForeignKeyDef.{ForeignKeyDef}
use Rattle.dd_definitions.specs.declared.parts.TableParts.{TableParts}
use Rattle.dd_catalog.specs.Walks.{Walk, done, ◌>>=◌, refuse_if}
use Rattle.rules_refusals.specs.Refusals.{fk_dup_name}
use Rattle.rules_elements.specs.ForeignKeys.{has_constraint_named}
use Rattle.rules_elements.specs.Taken.{AreNamesOf}
use Rattle.rules_create.specs.declared.drafts.Draft.{Draft}
use Rattle.rules_create.specs.declared.ordered_keys.OrderedKeys.{OrderedKeys}
use Rattle.rules_create.specs.Tables.{constraint_front, greatest_number, put_in_order}

-- the names are those of the table's indexes, and no foreign key stands in it
pub record IsDraft (draft : Draft) : Type 0 where
  pub names : AreNamesOf draft.names draft.parts.indexes
  pub none : draft.parts.foreign_keys ≡ []

-- the foreign keys in order
abbrev pub keys_in : OrderedKeys → List ForeignKeyDef
keys_in keys = values_of keys.by_name.entries

abbrev pub by_folded_name : ForeignKeyDef → List ℕ × ForeignKeyDef
by_folded_name key = (fold key.name, key)

-- each stands at its folded name, and the number is the greatest of their names for this table
pub record AreOrdered (keys : OrderedKeys) (table : List ℕ) : Type 0 where
  pub by_name : keys.by_name.entries ≡ map by_folded_name (keys_in keys)
  pub front : keys.front ≡ constraint_front table
  pub greatest : keys.greatest ≡ greatest_number (constraint_front table) (keys_in keys)
  pub small : keys.greatest < 10 ^ 38

-- the table with these foreign keys
abbrev pub with_keys : TableParts → List ForeignKeyDef → TableParts
with_keys parts keys = record parts { foreign_keys = keys }

-- one key more; a name that is there: 1826
abbrev pub added_key : List ForeignKeyDef → ForeignKeyDef → Walk ErrorValue (List ForeignKeyDef)
added_key keys key = do
  _ ← refuse_if (has_constraint_named keys key.name) (fk_dup_name key.name)
  done (put_in_order key keys)

-- a draft with foreign keys beside it
pub record IsLinkedDraft (draft : Draft) (keys : OrderedKeys) : Type 0 where
  pub stands : IsDraft draft
  pub ordered : AreOrdered keys draft.parts.name.name

-- the table with what stands beside it
abbrev pub whole : Draft → OrderedKeys → TableParts
whole draft keys = with_keys draft.parts (keys_in keys)
