use Rattle.std.proofs.Common.{◌≡◌, ◌-◌, ◌≤◌, ◌++◌, length, drop}
use Rattle.sql_lex.specs.Strings.{meant}
use Rattle.sql_lex.proofs.string_part.meaning_behind.Given as goal

abbrev pub invariant-parts : goal.invariant-parts
invariant-parts l = record { so_far : l.value.items ++ meant l.quote (drop l.at l.bytes) 0 ≡ meant l.quote l.bytes 0; place : l.at ≤ length l.bytes }

abbrev pub decreases-parts : goal.decreases-parts
decreases-parts l = length l.bytes - l.at
