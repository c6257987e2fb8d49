-- The first fault of an input.
use Rattle.std.specs.Prelude.{ℕ, ◌+◌, ◌-◌, ◌==◌, Bool, ◌||◌, nat_le, nat_lt, List, [], ◌∷◌, ◌++◌, length, slice_range, Option, Some, None, if◌then◌else◌}
use Rattle.std.specs.List.{list_any}
use Rattle.std.specs.Str.{bytes_eq}
use Rattle.script_cut.specs.declared.item.Item.{Item}
use Rattle.script_cut.specs.declared.item.Item.TheVariants.{SessionLine, BadLine, Statement, CutStatement, CutComment}
use Rattle.script_cut.specs.declared.fault.ScriptFault.{ScriptFault}
use Rattle.script_cut.specs.declared.fault.ScriptFault.TheVariants.{NoSession, BadName, Repeated, Unended, Limit}

-- some name is this one, byte for byte
abbrev pub is_among : List ℕ → List (List ℕ) → Bool
is_among name names = list_any (bytes_eq name) names

-- A session line, behind sessions of these names: no name comes twice, and there are at most 32 sessions.
unfoldable pub line_fault : List (List ℕ) → ℕ → List ℕ → Option ScriptFault
line_fault names line name =
    if is_among name names then Some (Repeated line) else if nat_le 32 (length names) then Some (Limit line) else None

-- A statement of so many bytes, behind so many sessions and as many statements of the last of them: it stands in a session, is one of
-- 100,000 at most, and has 1,048,576 bytes at most.
unfoldable pub statement_fault : ℕ → ℕ → ℕ → ℕ → Option ScriptFault
statement_fault sessions count from bytes =
    if sessions == 0 then Some (NoSession from)
    else if nat_le 100000 count || nat_lt 1048576 bytes then Some (Limit from)
    else None

abbrev pub or_else : Option ScriptFault → Option ScriptFault → Option ScriptFault
or_else None later = later
or_else (Some fault) later = Some fault

-- the fault of an item, behind sessions of these names, of which the last has so many statements
unfoldable pub item_fault : List ℕ → List (List ℕ) → ℕ → Item → Option ScriptFault
item_fault text names count (SessionLine line from to) = line_fault names line (slice_range text from to)
item_fault text names count (BadLine line) = Some (BadName line)
item_fault text names count (Statement from to) = statement_fault (length names) count from (to - from)
item_fault text names count (CutStatement from) = or_else (statement_fault (length names) count from (length text - from)) (Some (Unended from))
item_fault text names count (CutComment at) = Some (Unended at)

abbrev pub names_behind : List ℕ → List (List ℕ) → Item → List (List ℕ)
names_behind text names (SessionLine line from to) = names ++ slice_range text from to ∷ []
names_behind text names _ = names

-- a session line begins the count again
abbrev pub count_behind : ℕ → Item → ℕ
count_behind count (SessionLine line from to) = 0
count_behind count _ = count + 1

-- the first fault of the items behind these sessions
abbrev pub fault_from : List ℕ → List (List ℕ) → ℕ → List Item → Option ScriptFault
fault_from text names count [] = None
fault_from text names count (item ∷ items) =
    or_else (item_fault text names count item) (fault_from text (names_behind text names item) (count_behind count item) items)

-- the first fault of an input that has these items
abbrev pub fault_of : List ℕ → List Item → Option ScriptFault
fault_of text items = fault_from text [] 0 items
