-- Reading a record from left to right; None where the bytes are those of no record with that id.
use Rattle.std.specs.Prelude.{ℕ, ◌/◌, ◌^◌, Bool, true, List, [], ◌∷◌, length, Option, Some, None, ◌==◌, ◌&&◌, if◌then◌else◌}
use Rattle.std.specs.Int.{w16, w32}
use Rattle.std.specs.Str.{is_utf8}
use Rattle.row_batch.specs.Reading.{◌>>=◌, number_at, string_at}
use Rattle.ddl_log.specs.declared.reading.Head.{Head}
use Rattle.ddl_log.specs.declared.records.Kind.{Kind}
use Rattle.ddl_log.specs.declared.records.Kind.TheVariants.{DeleteSpace, RenameSpace, WriteSdi}
use Rattle.ddl_log.specs.declared.records.LogRecord.{LogRecord}

abbrev pub kind_of : ℕ → Option Kind
kind_of n = if n == 2 then Some DeleteSpace else if n == 3 then Some RenameSpace else if n == 100 then Some WriteSdi else None

unfoldable pub kind_at : List ℕ → Option (Kind × List ℕ)
kind_at [] = None
kind_at (n ∷ rest) = do
  kind ← kind_of n
  Some (kind, rest)

unfoldable pub head_at : List ℕ → Option (Head × List ℕ)
head_at bytes = do
  thread ← number_at w32 bytes
  kind ← kind_at thread.1
  space ← number_at w32 kind.1
  Some (record { thread = thread.0; kind = kind.0; space = space.0 }, space.1)

unfoldable pub path_at : List ℕ → Option (List ℕ × List ℕ)
path_at bytes = do
  path ← string_at w16 bytes
  if is_utf8 path.0 then Some path else None

-- only a record of a renaming has a new path
abbrev pub may_have : Kind → List ℕ → Bool
may_have DeleteSpace path = length path == 0
may_have RenameSpace path = true
may_have WriteSdi path = length path == 0

-- all of the bytes
unfoldable pub record_at : ℕ → List ℕ → Option LogRecord
record_at id bytes = do
  head ← head_at bytes
  old ← path_at head.1
  new ← path_at old.1
  if (length new.1 == 0) && (id / 2 ^ 32 == head.0.thread) && may_have head.0.kind new.0
      then Some (record { id = id; thread = head.0.thread; kind = head.0.kind; space = head.0.space; old_path = old.0; new_path = new.0 })
      else None
