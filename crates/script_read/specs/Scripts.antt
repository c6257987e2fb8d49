-- The sessions of an input, or its first fault.
use Rattle.std.specs.Prelude.{◌≡◌, ℕ, ◌≤◌, Bool, true, nat_lt, not, List, [], ◌∷◌, length, slice_range, Option, Some, None, Result, Ok, Err, if◌then◌else◌}
use Rattle.std.specs.List.{AllByRecursion}
use Rattle.std.specs.Str.{is_utf8}
use Rattle.std.specs.Str.Lossy.{utf8_valid_len}
use Rattle.sql_ast.specs.declared.statement.Statement as words
use Rattle.sql_ast.specs.Names.{says_names}
use Rattle.sql_ast.specs.Reads.{plainly_read}
use Rattle.script_cut.specs.declared.item.Item.{Item}
use Rattle.script_cut.specs.declared.item.Item.TheVariants.{SessionLine, Statement}
use Rattle.script_cut.specs.declared.fault.ScriptFault.{ScriptFault}
use Rattle.script_cut.specs.declared.fault.ScriptFault.TheVariants.{NotUtf8, Limit}
use Rattle.script_cut.specs.Items.{items_of}
use Rattle.script_cut.specs.Faults.{fault_of}
use Rattle.script_read.specs.declared.script.Script.{Script}

-- the statements up to the next session line, each read by the grammar
abbrev pub statements_in : List ℕ → List Item → List words.Statement
statements_in text [] = []
statements_in text (SessionLine line from to ∷ items) = []
statements_in text (Statement from to ∷ items) = plainly_read (slice_range text from to) ∷ statements_in text items
statements_in text (item ∷ items) = statements_in text items

abbrev pub script_of : List ℕ → ℕ → ℕ → List Item → Script
script_of text from to items = record { name = slice_range text from to; statements = statements_in text items }

-- a session for each session line, with the statements behind it
abbrev pub sessions_in : List ℕ → List Item → List Script
sessions_in text [] = []
sessions_in text (SessionLine line from to ∷ items) = script_of text from to items ∷ sessions_in text items
sessions_in text (item ∷ items) = sessions_in text items

-- the sessions, unless there is a fault
abbrev pub unless_fault : Option ScriptFault → List Script → Result (List Script) ScriptFault
unless_fault None sessions = Ok sessions
unless_fault (Some fault) sessions = Err fault

-- what an input that is text has
unfoldable pub scripts_in : List ℕ → Result (List Script) ScriptFault
scripts_in text = unless_fault (fault_of text (items_of text)) (sessions_in text (items_of text))

-- The sessions of an input of 67,108,864 bytes at most, which is UTF-8; or the first fault.
unfoldable pub scripts : List ℕ → Result (List Script) ScriptFault
scripts bytes =
    if nat_lt 67108864 (length bytes) then Err (Limit 67108864)
    else if not (is_utf8 bytes) then Err (NotUtf8 (utf8_valid_len bytes))
    else scripts_in bytes

-- a session has 100,000 statements at most
abbrev pub IsFew : Script → Type 0
IsFew script = length script.statements ≤ 100000

-- each statement of a session says names
abbrev pub SaysNames : Script → Type 0
SaysNames script = AllByRecursion (λ (s : words.Statement). says_names s ≡ true) script.statements
