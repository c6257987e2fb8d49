use Rattle.sql_grammar.proofs.Reader.{sound, complete}
use Rattle.sql_grammar.proofs.Found.{each_reads}
use Rattle.sql_grammar.proofs.Once.{once}
use Rattle.sql_grammar.proofs.language.laws.Goals as goal

pub returns-clause-sound : goal.returns-clause-sound
returns-clause-sound g c = λ before after v e. sound g.L.Language.grammar before v after e

pub returns-clause-complete : goal.returns-clause-complete
returns-clause-complete g c = λ before after v s short quiet. complete g.L.Language.grammar c.requires.decided before after v s short quiet

pub returns-clause-reads : goal.returns-clause-reads
returns-clause-reads g c = each_reads g.L.Language.grammar c.requires.decided c.requires.shown

pub returns-clause-once : goal.returns-clause-once
returns-clause-once g c = once g.L.Language.grammar c.requires.decided
