-- A key as a statement writes it, beside what the table has so far. Its faults are looked for in this order: a second primary
-- key, 1068; another index that would be named `PRIMARY`, 1280; more than 16 columns, 1070; column by column, one that isn't in
-- the table, 1072, or stands twice, 1060; a name that is there, 1061, or one that was made and is too long, 1059.
use Rattle.std.specs.Prelude.{ℕ, zero, suc, ◌+◌, ◌==◌, Bool, true, false, ◌&&◌, ◌||◌, not, nat_lt, List, [], ◌∷◌, ◌++◌, Option, Some, None, length, if◌then◌else◌}
use Rattle.std.specs.List.{list_any}
use Rattle.std.specs.Fmt.{decimal}
use Rattle.std.specs.Str.{bytes_eq}
use Rattle.dd_names.specs.Names.{same, name_fault}
use Rattle.dd_names.specs.declared.name.NameFault.{NameFault}
use Rattle.dd_errors.specs.Errors.{ErrorValue}
use Rattle.sql_types.specs.declared.choices.IndexClass.{IndexClass}
use Rattle.sql_types.specs.declared.choices.IndexClass.TheVariants as classes
use Rattle.sql_types.specs.declared.words.KeyWords.{KeyWords}
use Rattle.dd_definitions.specs.Indexes.{is_primary, is_primary_class, primary_name}
use Rattle.dd_definitions.specs.declared.columns.ColumnDef.{ColumnDef}
use Rattle.dd_definitions.specs.declared.indexes.IndexDef.{IndexDef}
use Rattle.dd_definitions.specs.declared.parts.TableParts.{TableParts}
use Rattle.dd_catalog.specs.Kinds.{column_named}
use Rattle.dd_catalog.specs.Walks.{Walk, done, refuse, ◌>>=◌, refuse_if, over}
use Rattle.rules_refusals.specs.Refusals.{multiple_pri_key, wrong_name_for_index, too_many_key_parts, key_column_does_not_exist, dup_fieldname, dup_keyname, too_long_ident}

-- ## Columns

-- the column as the table spells it
abbrev pub spelled_column : List (List ℕ) → List ℕ → Option ColumnDef → Walk ErrorValue (List ℕ)
spelled_column before name None = refuse (key_column_does_not_exist name)
spelled_column before name (Some column) = if list_any (bytes_eq column.name) before then refuse (dup_fieldname name) else done column.name

-- one column more, behind those before it
unfoldable pub one_more : List ColumnDef → List (List ℕ) → List ℕ → Walk ErrorValue (List (List ℕ))
one_more columns before name = do
  spelled ← spelled_column before name (column_named columns name)
  done (before ++ spelled ∷ [])

abbrev pub key_columns : List ColumnDef → List (List ℕ) → Walk ErrorValue (List (List ℕ))
key_columns columns names = over (one_more columns) [] names

-- ## Names

-- an index has the name, in any case
abbrev pub has_index_named : List IndexDef → List ℕ → Bool
has_index_named indexes name = list_any (λ (index : IndexDef). same index.name name) indexes

abbrev pub is_taken : List IndexDef → List ℕ → Bool
is_taken indexes name = has_index_named indexes name || same name primary_name

-- the name by itself at number 1, then with `_2`, `_3` and so on
abbrev pub numbered : List ℕ → ℕ → List ℕ
numbered base number = if number == 1 then base else base ++ 95 ∷ decimal number

-- the first that isn't taken, from a number on, and after so many tries the next
abbrev pub free_from : List IndexDef → List ℕ → ℕ → ℕ → List ℕ
free_from indexes base number zero = numbered base number
free_from indexes base number (suc tries) = if is_taken indexes (numbered base number) then free_from indexes base (number + 1) tries else numbered base number

-- the first that isn't taken: with `PRIMARY` one name more is taken than there are indexes, so among one more still some is free
abbrev pub free_name : List IndexDef → List ℕ → List ℕ
free_name indexes base = free_from indexes base 1 (length indexes + 1)

-- an index without any name has that of its first column; the grammar knows no key without columns, which would have the table's
abbrev pub base_name : List ℕ → List (List ℕ) → List ℕ
base_name table [] = table
base_name table (column ∷ columns) = column

abbrev pub name_unless : List ℕ → Option NameFault → Walk ErrorValue (List ℕ)
name_unless name None = done name
name_unless name (Some fault) = refuse (too_long_ident name)

-- a made name is one unless it has more than 64 characters
abbrev pub made_name : List ℕ → Walk ErrorValue (List ℕ)
made_name name = name_unless name (name_fault name true)

-- UNIQUE without a name of its own takes that of its constraint
abbrev pub constraint_taken : IndexClass → Option (List ℕ) → Option (List ℕ)
constraint_taken classes.Primary constraint = None
constraint_taken classes.Unique constraint = constraint
constraint_taken classes.Plain constraint = None

abbrev pub first_given : Option (List ℕ) → Option (List ℕ) → Option (List ℕ)
first_given (Some name) other = Some name
first_given None other = other

abbrev pub given_name : KeyWords → Option (List ℕ)
given_name key = first_given key.name (constraint_taken key.class key.constraint)

-- no other index than the primary key is named `PRIMARY`
abbrev pub allowed_name : Bool → Option (List ℕ) → Walk ErrorValue (Unit {0})
allowed_name primary None = done tt
allowed_name primary (Some name) = refuse_if (not primary && same name primary_name) (wrong_name_for_index name)

-- the name that is given, which no other index has in any case
abbrev pub unused_name : List IndexDef → List ℕ → Walk ErrorValue (List ℕ)
unused_name indexes name = if has_index_named indexes name then refuse (dup_keyname name) else done name

-- the name that the key gets: `PRIMARY`, the one that is given, or a free one
unfoldable pub key_name : TableParts → Bool → Option (List ℕ) → List (List ℕ) → Walk ErrorValue (List ℕ)
key_name parts true given columns = done primary_name
key_name parts false (Some name) columns = unused_name parts.indexes name
key_name parts false None columns = made_name (free_name parts.indexes (base_name parts.name.name columns))

-- ## The key

-- the key isn't refused for its class, its name by itself, or the number of its columns
abbrev pub allowed_key : TableParts → KeyWords → Walk ErrorValue (Unit {0})
allowed_key parts key = do
  _ ← refuse_if (is_primary_class key.class && list_any is_primary parts.indexes) multiple_pri_key
  _ ← allowed_name (is_primary_class key.class) (given_name key)
  refuse_if (nat_lt 16 (length key.columns)) too_many_key_parts

-- the index with its columns as the table spells them, and with its name
abbrev pub index_of : TableParts → KeyWords → Walk ErrorValue IndexDef
index_of parts key = do
  columns ← key_columns parts.columns key.columns
  name ← key_name parts (is_primary_class key.class) (given_name key) columns
  done (record { name = name; class = key.class; columns = columns })

unfoldable pub key_of : TableParts → KeyWords → Walk ErrorValue IndexDef
key_of parts key = do
  _ ← refuse_if (is_primary_class key.class && list_any is_primary parts.indexes) multiple_pri_key
  _ ← allowed_name (is_primary_class key.class) (given_name key)
  _ ← refuse_if (nat_lt 16 (length key.columns)) too_many_key_parts
  columns ← key_columns parts.columns key.columns
  name ← key_name parts (is_primary_class key.class) (given_name key) columns
  done (record { name = name; class = key.class; columns = columns })
