-- The foreign keys of a table.
use Rattle.std.specs.Prelude.{ℕ, ◌==◌, Bool, true, false, ◌&&◌, nat_le, List, [], ◌∷◌, length}
use Rattle.std.specs.List.{list_all, list_any, starts_with}
use Rattle.std.specs.Ordering.{is_le}
use Rattle.std.specs.Str.{bytes_eq}
use Rattle.dd_names.specs.Names.{same, fold, name_cmp}
use Rattle.dd_definitions.specs.declared.columns.ColumnDef.{ColumnDef}
use Rattle.dd_definitions.specs.declared.indexes.IndexDef.{IndexDef}
use Rattle.dd_definitions.specs.declared.foreign_keys.ForeignKeyDef.{ForeignKeyDef}
use Rattle.dd_definitions.specs.Columns.{are_key_columns}
use Rattle.dd_definitions.specs.Distinct.{are_distinct}

-- the names of the two differ in case at most
abbrev pub is_same_constraint : ForeignKeyDef → ForeignKeyDef → Bool
is_same_constraint a b = same a.name b.name

-- some index begins with these columns in order
unfoldable pub has_index_on : List IndexDef → List (List ℕ) → Bool
has_index_on indexes names = list_any (λ (index : IndexDef). starts_with bytes_eq index.columns names) indexes

-- 1 to 16 distinct columns, as many parent columns, and an index of the table that begins with its columns in order
unfoldable pub is_foreign_key_formed : List ColumnDef → List IndexDef → ForeignKeyDef → Bool
is_foreign_key_formed columns indexes key =
    are_key_columns columns key.columns && (length key.columns == length key.parent_columns) && has_index_on indexes key.columns

-- in front of the next, if there is one, by the byte order of the folded names
unfoldable pub is_before_next : ForeignKeyDef → List ForeignKeyDef → Bool
is_before_next key [] = true
is_before_next key (next ∷ keys) = is_le (name_cmp (fold key.name) (fold next.name))

-- each stands in front of the next
abbrev pub are_in_order : List ForeignKeyDef → Bool
are_in_order [] = true
are_in_order (key ∷ keys) = is_before_next key keys && are_in_order keys

-- the foreign keys of a table, at most 1,024, each by itself and beside the others
unfoldable pub are_foreign_keys_formed : List ColumnDef → List IndexDef → List ForeignKeyDef → Bool
are_foreign_keys_formed columns indexes keys =
    nat_le (length keys) 1024 && list_all (is_foreign_key_formed columns indexes) keys && are_distinct is_same_constraint keys && are_in_order keys
