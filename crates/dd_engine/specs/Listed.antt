-- How much of listings a history keeps. The sizes are about the bytes that they take in memory.
use Rattle.std.specs.Prelude.{ℕ, ◌+◌, List, length}
use Rattle.std.specs.List.{sum_by}
use Rattle.sql_types.specs.declared.listing.Cell.{Cell}
use Rattle.sql_types.specs.declared.listing.Cell.TheVariants.{Null, Value}
use Rattle.sql_types.specs.declared.listing.Listing.{Listing}
use Rattle.dd_engine.specs.declared.history.Answer.{Answer}
use Rattle.dd_engine.specs.declared.history.Answer.TheVariants.{Done, Rows, Error, Memory, NoSpaceId}
use Rattle.dd_engine.specs.declared.history.Entry.{Entry}

abbrev pub cell_size : Cell → ℕ
cell_size Null = 96
cell_size (Value text) = 96 + length text

abbrev pub row_size : List Cell → ℕ
row_size cells = 128 + sum_by cell_size cells

-- a header has few titles, each as long as a name at most
abbrev pub listing_size : Listing → ℕ
listing_size listing = 512 + sum_by row_size listing.rows

abbrev pub answer_size : Answer → ℕ
answer_size Done = 0
answer_size (Rows listing) = listing_size listing
answer_size (Error error) = 0
answer_size Memory = 0
answer_size (NoSpaceId next) = 0

abbrev pub entry_size : Entry → ℕ
entry_size e = answer_size e.answer

-- the size of all listings of a history
abbrev pub listed_size : List Entry → ℕ
listed_size history = sum_by entry_size history
