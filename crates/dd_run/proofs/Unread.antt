-- A run that has no sessions.
use Rattle.std.proofs.Common.{◌≡◌, ℕ, List, [], arith, refl, subst, sym, Option, None, Some}
use Rattle.std.specs.Io.KnownBytes.{Keeps}
use Rattle.edge_io.proofs.Told.{appends_nothing}
use Rattle.dd_engine.specs.declared.history.Entry.{Entry}
use Rattle.dd_run.specs.declared.status.Status.{Status}
use Rattle.dd_run.specs.declared.status.Status.TheVariants.{Ok, Usage, BadScript, Memory, ReadFault, WriteFault, NotBuilt}
use Rattle.dd_run.specs.Ending.{IsUnread}
use Rattle.dd_run.specs.Headline.{Headline}
use Rattle.dd_run.proofs.Sessions.{no_history}

keeps : (o : Option (List ℕ)) → Keeps o o
keeps None = tt
keeps (Some bytes) = refl

nothing : (status : Status) (input held : Option (List ℕ)) (before now : ℕ) → IsUnread status input before now → Headline status input [] held held
nothing Ok input held before now never = absurd never
nothing WriteFault input held before now never = absurd never
nothing Usage input held before now never = absurd never
nothing Memory input held before now unread = record { sessions = []; read = tt; legal = no_history; answers = tt; output = (0, omega arith, appends_nothing held) }
nothing ReadFault input held before now unread = record { sessions = []; read = refl; legal = no_history; answers = refl; output = keeps held }
nothing (BadScript fault) input held before now unread = record { sessions = []; read = (refl, unread); legal = no_history; answers = refl; output = keeps held }
nothing (NotBuilt session number) input held before now unread = record { sessions = []; read = (refl, unread); legal = no_history; answers = refl; output = keeps held }

pub unread : (status : Status) (history : List Entry) (input held : Option (List ℕ)) (before now : ℕ) → history ≡ [] → IsUnread status input before now → Headline status input history held held
unread status history input held before now none is = subst (λ h. Headline status input h held held) (sym none) (nothing status input held before now is)
