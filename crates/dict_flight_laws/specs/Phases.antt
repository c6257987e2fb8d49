-- How far each session is with what its statement does on the disk.
use Rattle.std.specs.Prelude.{ℕ, zero, suc, List, [], ◌∷◌, ◌++◌, Option, Some, None}
use Rattle.std.specs.List.{flat_map}
use Rattle.disk_trait.specs.Change.{Directory}
use Rattle.ddl_log.specs.declared.records.LogRecord.{LogRecord}
use Rattle.dict_store_laws.specs.Kept.{File, Work}

-- a file that is made before the commit, at the old path of the record that deletes it
pub record Creation : Type 0 where
  pub item : LogRecord
  pub bytes : List ℕ

-- What a statement does: the file that it makes, if any, the records that its commit puts, the bytes that their files are written
-- anew with, and what it makes of the wanted files.
pub record Plan : Type 0 where
  pub creates : Option Creation
  pub records : List LogRecord
  pub texts : List ℕ → List ℕ
  pub change : Directory → Directory

pub data Phase : Type 0 where
  Idle : Phase
  -- it has a plan, and no record
  Planned : Plan → Phase
  -- the record of the creation is there, and perhaps a part of the file
  Prepared : Creation → Plan → Phase
  -- and the file
  Performed : Creation → Plan → Phase
  -- these records are left to do, behind a commit or as a creation is rolled back
  Left : (List ℕ → List ℕ) → List LogRecord → Phase
  -- the operation of the first is done
  Replayed : (List ℕ → List ℕ) → LogRecord → List LogRecord → Phase

abbrev pub items_of : Option Creation → List LogRecord
items_of None = []
items_of (Some c) = c.item ∷ []

abbrev pub made_by : Creation → File
made_by c = (c.item.old_path, c.bytes)

abbrev pub file_of : Option Creation → Option File
file_of None = None
file_of (Some c) = Some (made_by c)

-- the records of a plan, with that of its creation
abbrev pub records_of : Plan → List LogRecord
records_of plan = items_of plan.creates ++ plan.records

-- the records of the session that are there
abbrev pub owned : Phase → List LogRecord
owned Idle = []
owned (Planned plan) = []
owned (Prepared c plan) = c.item ∷ []
owned (Performed c plan) = c.item ∷ []
owned (Left texts items) = items
owned (Replayed texts item items) = item ∷ items

-- and those that are there or will be
abbrev pub claims : Phase → List LogRecord
claims Idle = []
claims (Planned plan) = records_of plan
claims (Prepared c plan) = c.item ∷ plan.records
claims (Performed c plan) = c.item ∷ plan.records
claims (Left texts items) = items
claims (Replayed texts item items) = item ∷ items

abbrev pub finished : Phase → List LogRecord
finished Idle = []
finished (Planned plan) = []
finished (Prepared c plan) = []
finished (Performed c plan) = []
finished (Left texts items) = []
finished (Replayed texts item items) = item ∷ []

abbrev pub made : Phase → List File
made Idle = []
made (Planned plan) = []
made (Prepared c plan) = []
made (Performed c plan) = made_by c ∷ []
made (Left texts items) = []
made (Replayed texts item items) = []

-- the log, in the order of the sessions
abbrev pub log : List Phase → List LogRecord
log phases = flat_map owned phases

abbrev pub all_claims : List Phase → List LogRecord
all_claims phases = flat_map claims phases

-- what all sessions have under way
abbrev pub work_of : Directory → List Phase → Work
work_of wanted phases = record { items = log phases; wanted = wanted; finished = flat_map finished phases; made = flat_map made phases }

-- n sessions without a statement
abbrev pub idles : ℕ → List Phase
idles zero = []
idles (suc n) = Idle ∷ idles n
