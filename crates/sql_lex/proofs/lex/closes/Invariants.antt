use Rattle.std.proofs.Common.{◌≡◌, ◌-◌, ◌≤◌, length, drop}
use Rattle.sql_lex.specs.Lexing.{has_closing}
use Rattle.sql_lex.specs.Pieces.{cut}
use Rattle.sql_lex.proofs.lex.closes.Given as goal

abbrev pub invariant-pieces : goal.invariant-pieces
invariant-pieces l = record { so_far : has_closing (cut (drop l.at l.text) 0 l.inside) ≡ has_closing (cut (drop l.start l.text) 0 l.entered); place : l.at ≤ length l.text }

abbrev pub decreases-pieces : goal.decreases-pieces
decreases-pieces l = length l.text - l.at
