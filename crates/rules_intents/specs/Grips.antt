-- How a statement claims children, as the code has it.
use Rattle.rules_locks.specs.Locks.{Reads, Writes}
use Rattle.rules_locks.specs.Locks as locks
use Rattle.rules_intents.specs.declared.grips.Grip.{Grip}
use Rattle.rules_intents.specs.declared.grips.Grip.TheVariants as code

abbrev pub grip : Grip → locks.Grip
grip code.Reads = Reads
grip code.Writes = Writes
