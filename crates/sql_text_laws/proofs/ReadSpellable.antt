-- What a text reads as has a text.
use Rattle.std.proofs.Common.{◌≡◌, ℕ, true, false, List, [], ap, ◌∙◌}
use Rattle.std.specs.Str.{IsUtf8}
use Rattle.sql_grammar.specs.Judging as judging
use Rattle.sql_grammar.specs.Judging.{Verdict, good, syntax_at, too_long}
use Rattle.sql_lex.specs.Texts.{lexemes, reading_of}
use Rattle.sql_ast.specs.declared.statement.Statement.{Statement}
use Rattle.sql_ast.specs.Grammar.{statement}
use Rattle.sql_ast.specs.Reads.{Reads, statement_read}
use Rattle.sql_ast_laws.proofs.FineTokens.{text_fine}
use Rattle.sql_text.specs.Canonical.{is_spellable}
use Rattle.sql_text_laws.specs.Laws.{is_bad}
use Rattle.sql_text_laws.proofs.YieldedActions.{statement_by}

by_verdict : (text : List ℕ) → IsUtf8 text → (verdict : Verdict Statement) (s : Statement) → judging.Reads statement (lexemes text) verdict → s ≡ statement_read (reading_of text verdict) → is_bad s ≡ false → is_spellable s ≡ true
by_verdict text u (good v) s r e h = ap is_spellable e ∙ statement_by.each (lexemes text) [] v (text_fine text u r.short) r.says
by_verdict text u (syntax_at rest) s r e h = absurd (let k = ap is_bad e in cc)
by_verdict text u (too_long l rest) s r e h = absurd (let k = ap is_bad e in cc)

pub read_spellable : (text : List ℕ) (s : Statement) → IsUtf8 text → Reads text s → is_bad s ≡ false → is_spellable s ≡ true
read_spellable text s u r h = by_verdict text u r.1.0 s r.1.1 (r.2 ∙ ap statement_read r.1.2) h
