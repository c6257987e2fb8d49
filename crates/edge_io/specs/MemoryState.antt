-- What contracts see of a source and a sink in memory.
use Rattle.std.specs.Prelude.{ℕ, List}

-- the bytes left, the numbers of the calls that fail, the number of calls so far and that of the faults
pub record SourceState : Type 0 where
  pub left : List ℕ
  pub fail : List ℕ
  pub calls : ℕ
  pub faults : ℕ

-- the bytes written, the numbers of the calls that fail, the number of calls so far, that of the faults, and how often
-- there was no memory
pub record SinkState : Type 0 where
  pub written : List ℕ
  pub fail : List ℕ
  pub calls : ℕ
  pub faults : ℕ
  pub lacked : ℕ
