-- How much of a text a call writes.
use Rattle.std.specs.Prelude.{ℕ, ◌≤◌, List, Option, Result, OnOk, OnErr, IsErrOf}
use Rattle.std.specs.Io.KnownBytes.{Appends}
use Rattle.edge_io.specs.Causes.{Rose}
use Rattle.edge_io.specs.Content.{AppendsPrefix}
use Rattle.dd_run.specs.declared.print.PrintFault.{PrintFault}
use Rattle.dd_run.specs.declared.print.PrintFault.TheVariants.{WriteFault}

-- The text is written whole, or the first of it where the sink has failed or there was no memory. A sink's count of
-- faults goes from `before` to `after`.
pub record Writes (held now : Option (List ℕ)) (before after : ℕ) (text : List ℕ) (result : Result (Unit {0}) PrintFault) : Type 0 where
  pub whole : OnOk result (Appends held now text)
  pub front : OnErr result (AppendsPrefix held now text)
  pub later : before ≤ after
  pub cause : IsErrOf result WriteFault → Rose before after
