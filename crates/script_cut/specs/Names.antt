-- The names of sessions.
use Rattle.std.specs.Prelude.{ℕ, Bool, false, ◌&&◌, not, List, is_none, codes}
use Rattle.dd_names.specs.Names.{name_fault, same}
use Rattle.dd_names.specs.Reserved.{is_reserved}

-- a name that needs no quotes
unfoldable pub is_plain_name : List ℕ → Bool
is_plain_name word = is_none (name_fault word false) && not (is_reserved word)

-- the word that begins a session line, in any case
abbrev pub is_session : List ℕ → Bool
is_session word = same word (codes "session")
