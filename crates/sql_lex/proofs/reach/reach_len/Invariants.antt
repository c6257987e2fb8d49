use Rattle.std.proofs.Common.{◌≡◌, ◌-◌, ◌≤◌, length, drop}
use Rattle.sql_lex.specs.Ends.{longer, reach}
use Rattle.sql_lex.proofs.reach.reach_len.Given as goal

abbrev pub invariant-steps : goal.invariant-steps
invariant-steps l = record { so_far : longer l.at (reach l.until (drop l.at l.bytes) 0) ≡ reach l.until l.bytes 0; place : l.at ≤ length l.bytes }

abbrev pub decreases-steps : goal.decreases-steps
decreases-steps l = length l.bytes - l.at
