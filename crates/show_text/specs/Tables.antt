-- The text of SHOW CREATE TABLE, and that of SHOW CREATE DATABASE.
use Rattle.std.specs.Prelude.{ℕ, List, [], ◌∷◌, ◌++◌, codes, flat_map}
use Rattle.dd_definitions.specs.declared.columns.ColumnDef.{ColumnDef}
use Rattle.dd_definitions.specs.declared.indexes.IndexDef.{IndexDef}
use Rattle.dd_definitions.specs.declared.foreign_keys.ForeignKeyDef.{ForeignKeyDef}
use Rattle.dd_definitions.specs.declared.parts.TableParts.{TableParts}
use Rattle.sql_pieces.specs.Pieces.{quoted_name}
use Rattle.show_text.specs.Columns.{column_text}
use Rattle.show_text.specs.Keys.{index_text, foreign_key_text}

-- the front of a line that another stands before
abbrev pub next_line : List ℕ
next_line = 44 ∷ 10 ∷ 32 ∷ 32 ∷ []

abbrev pub column_line : ColumnDef → List ℕ
column_line column = next_line ++ column_text column

abbrev pub index_line : IndexDef → List ℕ
index_line index = next_line ++ index_text index

abbrev pub foreign_key_line : List ℕ → ForeignKeyDef → List ℕ
foreign_key_line schema key = next_line ++ foreign_key_text schema key

abbrev pub column_lines : List ColumnDef → List ℕ
column_lines [] = []
column_lines (column ∷ columns) = codes "  " ++ column_text column ++ flat_map column_line columns

-- each line but the last ends in a comma
abbrev pub lines_text : TableParts → List ℕ
lines_text parts = column_lines parts.columns ++ flat_map index_line parts.indexes ++ flat_map (foreign_key_line parts.name.schema) parts.foreign_keys

-- the name, the lines and the options
abbrev pub named_table_text : TableParts → List ℕ
named_table_text parts = quoted_name parts.name.name ++ 32 ∷ 40 ∷ 10 ∷ lines_text parts ++ 10 ∷ codes ") ENGINE=InnoDB DEFAULT CHARSET=utf8mb4 COLLATE=utf8mb4_0900_ai_ci"

abbrev pub table_text : TableParts → List ℕ
table_text parts = codes "CREATE TABLE " ++ named_table_text parts

-- the text of SHOW CREATE DATABASE
abbrev pub database_text : List ℕ → List ℕ
database_text name = codes "CREATE DATABASE " ++ quoted_name name ++ codes " /*!40100 DEFAULT CHARACTER SET utf8mb4 COLLATE utf8mb4_0900_ai_ci */ /*!80016 DEFAULT ENCRYPTION='N' */"
