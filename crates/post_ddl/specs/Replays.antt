-- What the operation of a record does, and what it is given.
use Rattle.std.specs.Prelude.{◌≡◌, ℕ, List, Option, Some}
use Rattle.disk_trait.specs.Change.{Directory}
use Rattle.disk_trait.specs.Story.{Story}
use Rattle.data_dir.specs.Files.{IsAgreed}
use Rattle.ddl_log.specs.declared.records.Kind.{Kind}
use Rattle.ddl_log.specs.declared.records.Kind.TheVariants.{DeleteSpace, RenameSpace, WriteSdi}
use Rattle.ddl_log.specs.declared.records.LogRecord.{LogRecord}
use Rattle.ddl_log.specs.Effect.{effect_of}

-- the directory has the record's effect on the one before
abbrev pub Does : LogRecord → Directory → Directory → Directory → Type 0
Does item wanted old new = new ≡ effect_of item wanted old

abbrev pub IsGiven : Kind → List ℕ → List ℕ → Directory → Type 0
IsGiven DeleteSpace path bytes wanted = Unit {0}
IsGiven RenameSpace path bytes wanted = Unit {0}
IsGiven WriteSdi path bytes wanted = wanted path ≡ Some bytes

-- what is to be written anew is given the wanted bytes
abbrev pub HasBytes : LogRecord → List ℕ → Directory → Type 0
HasBytes item bytes wanted = IsGiven item.kind item.old_path bytes wanted

abbrev pub IsSteadyAt : Kind → List ℕ → Option Story → Type 0
IsSteadyAt DeleteSpace path s = Unit {0}
IsSteadyAt RenameSpace path s = Unit {0}
IsSteadyAt WriteSdi path s = IsAgreed path s

-- each crash leaves what is to be written anew there exactly where the disk reads it as there
abbrev pub IsSteady : LogRecord → Option Story → Type 0
IsSteady item s = IsSteadyAt item.kind item.old_path s
