use Rattle.std.proofs.Common.{◌≡◌, ◌-◌, ◌≤◌, length, drop}
use Rattle.std.specs.Prelude.{bytes_eq}
use Rattle.sql_lex.specs.Strings.{meant}
use Rattle.sql_lex.proofs.string_part.means_behind.Given as goal

abbrev pub invariant-parts : goal.invariant-parts
invariant-parts l = record { so_far : bytes_eq (meant l.quote (drop l.at l.bytes) 0) l.rest ≡ bytes_eq (meant l.quote l.bytes 0) l.wanted; place : l.at ≤ length l.bytes }

abbrev pub decreases-parts : goal.decreases-parts
decreases-parts l = length l.bytes - l.at
