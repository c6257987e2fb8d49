-- What a record is, and its bytes.
use Rattle.std.specs.Prelude.{◌≡◌, ℕ, ◌<◌, ◌/◌, ◌^◌, true, List, [], ◌∷◌, ◌++◌, length}
use Rattle.std.specs.Int.{w32, to_be_bytes}
use Rattle.std.specs.Str.{is_utf8}
use Rattle.row_batch.specs.Batches.{key_bytes}
use Rattle.ddl_log.specs.declared.records.Kind.{Kind}
use Rattle.ddl_log.specs.declared.records.Kind.TheVariants.{DeleteSpace, RenameSpace, WriteSdi}
use Rattle.ddl_log.specs.declared.records.LogRecord.{LogRecord}

abbrev pub kind_byte : Kind → ℕ
kind_byte DeleteSpace = 2
kind_byte RenameSpace = 3
kind_byte WriteSdi = 100

abbrev pub head_bytes : ℕ → Kind → ℕ → List ℕ
head_bytes thread kind space = to_be_bytes w32 thread ++ (kind_byte kind ∷ to_be_bytes w32 space)

-- a thread, a kind, a tablespace, and two paths behind their lengths
unfoldable pub record_bytes : LogRecord → List ℕ
record_bytes item = head_bytes item.thread item.kind item.space ++ (key_bytes item.old_path ++ key_bytes item.new_path)

-- a text with room in its field
pub record IsPath (path : List ℕ) : Type 0 where
  pub short : length path < 2 ^ 16
  pub text : is_utf8 path ≡ true

-- only a record of a renaming has a new path
abbrev pub IsNewPathOf : Kind → List ℕ → Type 0
IsNewPathOf DeleteSpace path = path ≡ []
IsNewPathOf RenameSpace path = Unit {0}
IsNewPathOf WriteSdi path = path ≡ []

-- the thread's number is the upper half of the id
pub record IsRecord (item : LogRecord) : Type 0 where
  pub id : item.id < 2 ^ 64
  pub thread : item.id / 2 ^ 32 ≡ item.thread
  pub space : item.space < 2 ^ 32
  pub old_path : IsPath item.old_path
  pub new_path : IsPath item.new_path
  pub by_kind : IsNewPathOf item.kind item.new_path
