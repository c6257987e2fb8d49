use Rattle.std.proofs.Common.{List, ℕ, sym, subst}
use Rattle.sql_ast.specs.Reads.{Reads}
use Rattle.sql_text.proofs.text.text_of.Goals as goal

pub returns-clause-reads : goal.returns-clause-reads
returns-clause-reads c = subst (λ (t : List ℕ). Reads t c.args.statement.now) (sym c.in_ok-text.ensures) (c.canonical_laws.ensures c.args.statement.now c.requires.spellable)
