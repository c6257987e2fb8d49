-- What is printed for a history.
use Rattle.std.specs.Prelude.{ℕ, ◌+◌, ◌==◌, List, [], ◌∷◌, ◌++◌, map, if◌then◌else◌, codes}
use Rattle.std.specs.List.{flat_map}
use Rattle.std.specs.Fmt.{decimal}
use Rattle.dd_errors.specs.Errors.{ErrorValue, error_state, error_text}
use Rattle.sql_types.specs.declared.listing.Cell.{Cell}
use Rattle.sql_types.specs.declared.listing.Cell.TheVariants.{Null, Value}
use Rattle.sql_types.specs.declared.listing.Listing.{Listing}
use Rattle.dd_engine.specs.declared.history.Answer.{Answer}
use Rattle.dd_engine.specs.declared.history.Answer.TheVariants.{Done, Rows, Error, Memory, NoSpaceId}
use Rattle.dd_engine.specs.declared.history.Entry.{Entry}
use Rattle.dd_engine.specs.History.{part}
use Rattle.script_read.specs.declared.script.Script.{Script}

-- in a value a line feed, a tab, a backslash and a zero byte are written \n, \t, \\ and \0
abbrev pub escaped : ℕ → List ℕ
escaped c =
    if c == 10 then 92 ∷ 110 ∷ []
    else if c == 9 then 92 ∷ 116 ∷ []
    else if c == 92 then 92 ∷ 92 ∷ []
    else if c == 0 then 92 ∷ 48 ∷ []
    else c ∷ []

abbrev pub cell_text : Cell → List ℕ
cell_text Null = codes "NULL"
cell_text (Value text) = flat_map escaped text

abbrev pub behind_tab : List ℕ → List ℕ
behind_tab text = 9 ∷ text

-- a line of texts with a tab between each two
abbrev pub line_of : List (List ℕ) → List ℕ
line_of [] = 10 ∷ []
line_of (first ∷ rest) = first ++ flat_map behind_tab rest ++ 10 ∷ []

abbrev pub row_text : List Cell → List ℕ
row_text cells = line_of (map cell_text cells)

-- the header as it is, and then the rows
abbrev pub listing_text : Listing → List ℕ
listing_text listing = line_of listing.header ++ flat_map row_text listing.rows

abbrev pub error_line : ErrorValue → List ℕ
error_line error = codes "ERROR " ++ decimal error.number ++ codes " (" ++ error_state error ++ codes "): " ++ error_text error ++ 10 ∷ []

-- there is no number for a schema or a table
abbrev pub no_number_left : ErrorValue
no_number_left = record { number = 9002; args = [] }

abbrev pub answer_text : Answer → List ℕ
answer_text Done = codes "OK" ++ 10 ∷ []
answer_text (Rows listing) = listing_text listing
answer_text (Error error) = error_line error
answer_text Memory = codes "NO MEMORY" ++ 10 ∷ []
answer_text (NoSpaceId next) = error_line no_number_left

abbrev pub entry_text : Entry → List ℕ
entry_text entry = answer_text entry.answer

abbrev pub session_line : List ℕ → List ℕ
session_line name = codes "-- session " ++ name ++ 10 ∷ []

-- the answers of a session
abbrev pub answers_text : List Entry → ℕ → List ℕ
answers_text history s = flat_map entry_text (part history s)

abbrev pub session_text : List ℕ → ℕ → List Entry → List ℕ
session_text name s history = session_line name ++ answers_text history s

abbrev pub printed_from : ℕ → List (List ℕ) → List Entry → List ℕ
printed_from s [] history = []
printed_from s (name ∷ names) history = session_text name s history ++ printed_from (s + 1) names history

-- for each session in order its line, then its answers in order
abbrev pub printed_names : List (List ℕ) → List Entry → List ℕ
printed_names names history = printed_from 0 names history

abbrev pub printed : List Script → List Entry → List ℕ
printed scripts history = printed_names (map (λ (script : Script). script.name) scripts) history
