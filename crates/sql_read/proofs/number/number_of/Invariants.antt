use Rattle.std.proofs.Common.{◌≡◌, ◌-◌, ◌^◌, ◌≤◌, min, drop}
use Rattle.sql_grammar.specs.Lexemes.{value_from}
use Rattle.sql_read.proofs.number.number_of.Given as goal

abbrev pub invariant-digits : goal.invariant-digits
invariant-digits l = record { so_far : min (value_from l.number (drop l.digit-index l.digits)) (2 ^ 128 - 1) ≡ min (value_from 0 l.digits) (2 ^ 128 - 1); small : l.number ≤ 2 ^ 128 - 1 }
