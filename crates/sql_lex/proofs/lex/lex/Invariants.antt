use Rattle.std.proofs.Common.{◌≡◌, ◌-◌, ◌≤◌, length, drop}
use Rattle.sql_lex.specs.Pieces.{cut}
use Rattle.sql_lex.specs.Lexing.{lexed, tokens_of}
use Rattle.sql_lex.proofs.Places.{with_tokens}
use Rattle.sql_lex.proofs.lex.lex.Given as goal

abbrev pub invariant-pieces : goal.invariant-pieces
invariant-pieces l = record { so_far : with_tokens l.tokens.items (lexed l.at (cut (drop l.at l.text) 0 l.inside)) ≡ tokens_of l.text; place : l.at ≤ length l.text }

abbrev pub decreases-pieces : goal.decreases-pieces
decreases-pieces l = length l.text - l.at
