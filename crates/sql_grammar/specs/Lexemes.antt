-- What a token is to a grammar, and what a rule may ask of one token.
use Rattle.std.specs.Prelude.{◌≡◌, ℕ, ◌+◌, ◌-◌, ◌*◌, Bool, true, false, List, [], ◌∷◌, length, nat_lt, nat_le, ◌==◌, ◌&&◌, ◌||◌, not, bytes_eq}
use Rattle.dd_names.specs.Names.{same}
use Rattle.dd_names.specs.Reserved.{is_reserved}

-- A token by its kind and its content: a quoted name without its quotes, a string as it is meant. broken stands last,
-- for a place at which the text has no token; no rule takes it.
pub data Lexeme : Type 0 where
  word : List ℕ → Lexeme
  number : List ℕ → Lexeme
  quoted : List ℕ → Lexeme
  string : List ℕ → Lexeme
  sign : ℕ → Lexeme
  broken : Lexeme

abbrev pub content : Lexeme → List ℕ
content (word w) = w
content (number w) = w
content (quoted w) = w
content (string w) = w
content (sign c) = c ∷ []
content broken = []

-- what a rule asks of one token: a word of the grammar, a sign, a name, digits, an integer's width, a string, a certain string
pub data Terminal : Type 0 where
  keyword : List ℕ → Terminal
  mark : ℕ → Terminal
  name : Terminal
  amount : Terminal
  width : Terminal
  text : Terminal
  exactly : List ℕ → Terminal

-- a word of the grammar, in any case; none has more than 64 characters
abbrev pub is_word : List ℕ → Lexeme → Bool
is_word k (word w) = nat_le (length w) 64 && same w k
is_word k _ = false

abbrev pub is_mark : ℕ → Lexeme → Bool
is_mark m (sign c) = c == m
is_mark m _ = false

-- a quoted name, or a word that isn't reserved
abbrev pub is_name : Lexeme → Bool
is_name (word w) = not (is_reserved w)
is_name (quoted w) = true
is_name _ = false

abbrev pub is_number : Lexeme → Bool
is_number (number w) = true
is_number _ = false

-- the number that decimal digits write, behind those that write n
abbrev pub value_from : ℕ → List ℕ → ℕ
value_from n [] = n
value_from n (d ∷ ds) = value_from (10 * n + (d - 48)) ds

-- an integer's width is 255 at most
abbrev pub is_width : Lexeme → Bool
is_width (number w) = nat_le (value_from 0 w) 255
is_width _ = false

abbrev pub is_string : Lexeme → Bool
is_string (string w) = true
is_string _ = false

abbrev pub is_string_of : List ℕ → Lexeme → Bool
is_string_of s (string w) = bytes_eq w s
is_string_of s _ = false

-- whether a token is what a rule asks for. A name may have any length here.
unfoldable pub takes : Terminal → Lexeme → Bool
takes (keyword k) l = is_word k l
takes (mark m) l = is_mark m l
takes name l = is_name l
takes amount l = is_number l
takes width l = is_width l
takes text l = is_string l
takes (exactly s) l = is_string_of s l

-- a name of more than 64 characters
unfoldable pub is_long : Lexeme → Bool
is_long l = is_name l && nat_lt 64 (length (content l))

-- no name is too long
abbrev pub Short : List Lexeme → Type 0
Short [] = Unit {0}
Short (l ∷ ls) = (is_long l ≡ false) × Short ls

-- whether one of these takes the token
abbrev pub takes_some : List Terminal → Lexeme → Bool
takes_some [] l = false
takes_some (t ∷ ts) l = takes t l || takes_some ts l

-- whether one of these takes the next token
abbrev pub begins : List Terminal → List Lexeme → Bool
begins ts [] = false
begins ts (l ∷ ls) = takes_some ts l
