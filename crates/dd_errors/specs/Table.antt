-- The table of errors, in four parts by their numbers: number, SQLSTATE and text, in which each `%` is the place of an argument.
-- Numbers, states and texts are chosen after MySQL's (MySQL 8.0 Error Message Reference, chapter 2).
use Rattle.std.specs.Prelude.{ℕ, List, [], ◌∷◌, codes}
use Prim.Native.String.{String}

-- a state, and a text with a `%` in the place of each argument
pub record ErrorForm : Type 0 where
  pub state : List ℕ
  pub template : List ℕ

abbrev pub error_form : List ℕ → List ℕ → ErrorForm
error_form state template = record { state = state; template = template }

abbrev pub Row : Type 0
Row = ℕ × ErrorForm

abbrev pub row : ℕ → String → String → Row
row number state template = (number, error_form (codes state) (codes template))

-- the rows from 1007 to 1063
abbrev pub from_1007 : List Row
from_1007 =
    row 1007 "HY000" "Can't create database '%'; database exists"
    ∷ row 1008 "HY000" "Can't drop database '%'; database doesn't exist"
    ∷ row 1046 "3D000" "No database selected"
    ∷ row 1049 "42000" "Unknown database '%'"
    ∷ row 1050 "42S01" "Table '%' already exists"
    ∷ row 1051 "42S02" "Unknown table '%'"
    ∷ row 1052 "23000" "Column '%' in field list is ambiguous"
    ∷ row 1054 "42S22" "Unknown column '%' in '%'"
    ∷ row 1059 "42000" "Identifier name '%' is too long"
    ∷ row 1060 "42S21" "Duplicate column name '%'"
    ∷ row 1061 "42000" "Duplicate key name '%'"
    ∷ row 1063 "42000" "Incorrect column specifier for column '%'"
    ∷ []

-- the rows from 1064 to 1109
abbrev pub from_1064 : List Row
from_1064 =
    row 1064 "42000" "You have an error in your SQL syntax at byte %"
    ∷ row 1066 "42000" "Not unique table/alias: '%'"
    ∷ row 1067 "42000" "Invalid default value for '%'"
    ∷ row 1068 "42000" "Multiple primary key defined"
    ∷ row 1069 "42000" "Too many keys specified; max 64 keys allowed"
    ∷ row 1070 "42000" "Too many key parts specified; max 16 parts allowed"
    ∷ row 1072 "42000" "Key column '%' doesn't exist in table"
    ∷ row 1074 "42000" "Column length too big for column '%' (max = %); use BLOB or TEXT instead"
    ∷ row 1075 "42000" "Incorrect table definition; there can be only one auto column and it must be defined as a key"
    ∷ row 1090 "42000" "You can't delete all columns with ALTER TABLE; use DROP TABLE instead"
    ∷ row 1091 "42000" "Can't DROP '%'; check that column/key exists"
    ∷ row 1109 "42S02" "Unknown table '%' in information_schema"
    ∷ []

-- the rows from 1113 to 1553
abbrev pub from_1113 : List Row
from_1113 =
    row 1113 "42000" "A table must have at least 1 column"
    ∷ row 1117 "HY000" "Too many columns"
    ∷ row 1146 "42S02" "Table '%.%' doesn't exist"
    ∷ row 1171 "42000" "All parts of a PRIMARY KEY must be NOT NULL; if you need NULL in a key, use UNIQUE instead"
    ∷ row 1205 "HY000" "Lock wait timeout exceeded; try restarting transaction"
    ∷ row 1239 "42000" "Incorrect foreign key definition for '%': Key reference and table reference don't match"
    ∷ row 1280 "42000" "Incorrect index name '%'"
    ∷ row 1347 "HY000" "'%.%' is not %"
    ∷ row 1353 "HY000" "In definition of view, derived table or common table expression, SELECT list and column names list have different column counts"
    ∷ row 1356 "HY000" "View '%.%' references invalid table(s) or column(s) or function(s) or definer/invoker of view lack rights to use them"
    ∷ row 1450 "HY000" "Changing schema from '%' to '%' is not allowed."
    ∷ row 1553 "HY000" "Cannot drop index '%': needed in a foreign key constraint"
    ∷ []

-- the rows from 1701 to 9003
abbrev pub from_1701 : List Row
from_1701 =
    row 1701 "42000" "Cannot truncate a table referenced in a foreign key constraint (`%`.`%`, CONSTRAINT `%`)"
    ∷ row 1822 "HY000" "Failed to add the foreign key constraint. Missing index for constraint '%' in the referenced table '%'"
    ∷ row 1824 "HY000" "Failed to open the referenced table '%'"
    ∷ row 1826 "HY000" "Duplicate foreign key constraint name '%'"
    ∷ row 1828 "HY000" "Cannot drop column '%': needed in a foreign key constraint '%'"
    ∷ row 1829 "HY000" "Cannot drop column '%': needed in a foreign key constraint '%' of table '%'"
    ∷ row 1830 "HY000" "Column '%' cannot be NOT NULL: needed in a foreign key constraint '%' SET NULL"
    ∷ row 3730 "HY000" "Cannot drop table '%' referenced by a foreign key constraint '%' on table '%'."
    ∷ row 3780 "HY000" "Referencing column '%' and referenced column '%' in foreign key constraint '%' are incompatible."
    ∷ row 9001 "HY000" "Limit of % exceeded"
    ∷ row 9002 "HY000" "No identifier is left"
    ∷ row 9003 "HY000" "View nesting is too deep"
    ∷ []
