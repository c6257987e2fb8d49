-- The words of a command line.
use Rattle.std.specs.Prelude.{ℕ, List, [], ◌∷◌, Option, None, Some, if◌then◌else◌, codes}
use Rattle.std.specs.Str.{bytes_eq}
use Rattle.dd_run.specs.declared.command.Command.{Command}
use Rattle.dd_run.specs.declared.command.Command.TheVariants.{Run}

-- what the words of a command line ask for: exactly the word `run`
abbrev pub command_of : List (List ℕ) → Option Command
command_of [] = None
command_of (word ∷ []) = if bytes_eq word (codes "run") then Some Run else None
command_of (a ∷ b ∷ words) = None
