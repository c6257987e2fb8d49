use Rattle.std.proofs.Common.{refl, sym, ap, ◌∙◌}
use Rattle.sql_grammar.specs.Judging.{verdict_of}
use Rattle.sql_lex.specs.Texts.{lexemes, reading_of}
use Rattle.sql_lex.proofs.text_laws.reading_laws.Goals as goal

pub returns-clause-reads : goal.returns-clause-reads
returns-clause-reads g c = λ text. (verdict_of g.L.Language.grammar (lexemes text), c.laws.ensures.reads (lexemes text), refl)

pub returns-clause-once : goal.returns-clause-once
returns-clause-once g c = λ text a b p q. p.2 ∙ ap (reading_of text) (c.laws.ensures.once (lexemes text) p.0 q.0 p.1 q.1) ∙ sym q.2
