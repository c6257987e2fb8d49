-- What a gate that was read says of the bytes.
use Rattle.std.specs.Prelude.{ℕ, List}
use Rattle.row_journal.specs.declared.gate.Gate.{Gate}
use Rattle.row_journal.specs.declared.gate.Gate.TheVariants.{Closed, Open, Missing}
use Rattle.row_journal.specs.Opening.{IsFaulty, IsClosed, IsOpen}

abbrev pub IsAsRead : Gate → List ℕ → Type 0
IsAsRead Closed bytes = IsClosed bytes
IsAsRead (Open content more) bytes = IsOpen content.now more.now bytes
IsAsRead Missing bytes = IsFaulty bytes
