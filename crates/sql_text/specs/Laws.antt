-- What a statement is to the reader of its canonical text.
use Rattle.std.specs.Prelude.{◌≡◌, true}
use Rattle.sql_ast.specs.declared.statement.Statement.{Statement}
use Rattle.sql_ast.specs.Reads.{Reads}
use Rattle.sql_text.specs.Canonical.{canonical_text, is_spellable}

-- the canonical text reads as the statement
abbrev pub EachReadsBack : Type 0
EachReadsBack = (s : Statement) → is_spellable s ≡ true → Reads (canonical_text s) s
