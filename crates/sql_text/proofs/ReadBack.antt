-- The canonical text of a statement reads as the statement.
use Rattle.std.proofs.Common.{◌≡◌, true, List, [], refl, sym, subst}
use Rattle.std.proofs.lemmas.List.{append-nil}
use Rattle.sql_grammar.specs.Lexemes.{Lexeme}
use Rattle.sql_grammar.specs.Grammar.{Says}
use Rattle.sql_grammar.specs.Judging.{IsSentence, good}
use Rattle.sql_lex.specs.Texts.{sentence}
use Rattle.sql_ast.specs.declared.statement.Statement.{Statement}
use Rattle.sql_ast.specs.Grammar.{statement}
use Rattle.sql_ast.specs.Reads.{Reads}
use Rattle.sql_pieces.specs.Pieces.{tokens}
use Rattle.sql_pieces.proofs.Spaced.{spaced_read}
use Rattle.sql_text.specs.Canonical.{canonical, canonical_text, is_spellable}
use Rattle.sql_text.proofs.SpelledStatements.{statement_spelled}

pub read_back : (s : Statement) → is_spellable s ≡ true → Reads (canonical_text s) s
read_back s h =
    let p = statement_spelled s h in
    let t = spaced_read (canonical s) p.alone in
    let said : Says statement (tokens (canonical s)) [] s = subst (λ (ls : List Lexeme). Says statement ls [] s) (append-nil (tokens (canonical s))) (p.says [] refl) in
    let whole : IsSentence statement (tokens (canonical s)) s = record { says = said; short = t.short } in
    (sentence s, (good s, subst (λ (ls : List Lexeme). IsSentence statement ls s) (sym t.same) whole, refl), refl)
