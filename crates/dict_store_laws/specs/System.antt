-- The system files, and the other files of a directory.
use Rattle.std.specs.Prelude.{◌≡◌, ℕ, Bool, false, ◌||◌, List, None, if◌then◌else◌, codes}
use Rattle.std.specs.Str.{bytes_eq}
use Rattle.disk_trait.specs.Change.{Directory}
use Rattle.ddl_log.specs.declared.records.LogRecord.{LogRecord}
use Rattle.ddl_log.specs.Effect.{effect, Differs}

-- the path of the file with the rows: `#dd/dict`
abbrev pub system_path : List ℕ
system_path = codes "#dd/dict"

-- and of the file that is to take its place: `#dd/dict.new`
abbrev pub next_system_path : List ℕ
next_system_path = codes "#dd/dict.new"

unfoldable pub is_system : List ℕ → Bool
is_system path = bytes_eq path system_path || bytes_eq path next_system_path

-- the directory without the system files
abbrev pub stripped : Directory → Directory
stripped directory path = if is_system path then None else directory path

-- a record names no system file
pub record IsOrdinary (item : LogRecord) : Type 0 where
  pub old_path : is_system item.old_path ≡ false
  pub new_path : is_system item.new_path ≡ false

-- the operations of the records lead from the directory's files, but for the system files, to just the wanted ones
abbrev pub IsRight : List LogRecord → Directory → Directory → Type 0
IsRight items wanted directory = effect items wanted (stripped directory) ≡ wanted

-- a directory with no path but perhaps that of the next system file
abbrev pub IsNew : Directory → Type 0
IsNew directory = (path : List ℕ) → Differs next_system_path path → directory path ≡ None
