-- The text of SHOW CREATE TABLE reads as the statement that it says.
use Rattle.std.proofs.Common.{◌≡◌, true, List, [], refl, sym, subst}
use Rattle.std.proofs.lemmas.List.{append-nil}
use Rattle.sql_grammar.specs.Lexemes.{Lexeme}
use Rattle.sql_grammar.specs.Grammar.{Says}
use Rattle.sql_grammar.specs.Judging.{IsSentence, good}
use Rattle.sql_lex.specs.Texts.{sentence}
use Rattle.dd_definitions.specs.Named.{has_names}
use Rattle.dd_definitions.specs.WellFormed.{is_well_formed}
use Rattle.dd_definitions.specs.declared.parts.TableParts.{TableParts}
use Rattle.sql_ast.specs.Grammar.{statement}
use Rattle.sql_ast.specs.Reads.{Reads}
use Rattle.sql_pieces.specs.Pieces.{tokens, written}
use Rattle.sql_pieces.proofs.Spaced.{apart_read}
use Rattle.show_text.specs.Tables.{table_text}
use Rattle.show_text_laws.specs.Pieces.{table_pieces}
use Rattle.show_text_laws.specs.Said.{statement_said}
use Rattle.show_text_laws.proofs.TextWritten.{text_written}
use Rattle.show_text_laws.proofs.Touching.{touching_apart}
use Rattle.show_text_laws.proofs.TouchingTable.{table_touches}
use Rattle.show_text_laws.proofs.SaidTable.{table_spelled}
use Rattle.show_text_laws.proofs.Named.{is_shown, has_columns}

pieces_read : (parts : TableParts) → has_names parts ≡ true → is_well_formed parts ≡ true → Reads (written (table_pieces parts)) (statement_said parts)
pieces_read parts named formed =
    let p = table_spelled parts (is_shown parts named formed) (has_columns parts formed) in
    let t = apart_read (table_pieces parts) (touching_apart (table_pieces parts) p.alone (table_touches parts)) in
    let said : Says statement (tokens (table_pieces parts)) [] (statement_said parts) =
    subst (λ (ls : List Lexeme). Says statement ls [] (statement_said parts)) (append-nil (tokens (table_pieces parts))) (p.says []) in
    let whole : IsSentence statement (tokens (table_pieces parts)) (statement_said parts) = record { says = said; short = t.short } in
    (sentence (statement_said parts), (good (statement_said parts), subst (λ (ls : List Lexeme). IsSentence statement ls (statement_said parts)) (sym t.same) whole, refl), refl)

pub text_read : (parts : TableParts) → has_names parts ≡ true → is_well_formed parts ≡ true → Reads (table_text parts) (statement_said parts)
text_read parts named formed = subst (λ text. Reads text (statement_said parts)) (sym (text_written parts)) (pieces_read parts named formed)
