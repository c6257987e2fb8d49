-- What the text of SHOW CREATE TABLE is to its reader.
use Rattle.std.specs.Prelude.{◌≡◌, true}
use Rattle.dd_definitions.specs.Named.{has_names}
use Rattle.dd_definitions.specs.WellFormed.{is_well_formed}
use Rattle.dd_definitions.specs.declared.parts.TableParts.{TableParts}
use Rattle.sql_pieces.specs.Pieces.{written}
use Rattle.show_text.specs.Tables.{table_text}
use Rattle.sql_ast.specs.Reads.{Reads}
use Rattle.show_text_laws.specs.Pieces.{table_pieces}
use Rattle.show_text_laws.specs.Said.{statement_said}

-- the text is written from these pieces
abbrev pub EachTextIsWritten : Type 0
EachTextIsWritten = (parts : TableParts) → table_text parts ≡ written (table_pieces parts)

-- the text of a table that fits together and whose names are names reads as the statement with its columns, indexes and
-- foreign keys
abbrev pub EachTextReads : Type 0
EachTextReads = (parts : TableParts) → has_names parts ≡ true → is_well_formed parts ≡ true → Reads (table_text parts) (statement_said parts)
