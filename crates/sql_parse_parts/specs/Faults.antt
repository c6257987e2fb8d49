-- Where reading stopped, as it is told of a text.
use Rattle.std.specs.Prelude.{◌≡◌, ℕ, Bool, true, List, [], ◌∷◌, length, Option, Some, None, Result, Ok, Err, ◌⊎◌, if◌then◌else◌}
use Rattle.sql_grammar.specs.Lexemes.{Lexeme, content, is_long}
use Rattle.sql_grammar.specs.Reading.{Stop}
use Rattle.sql_lex.specs.Texts.{place_of}
use Rattle.sql_parse_parts.specs.declared.parse_fault.ParseFault.{ParseFault}
use Rattle.sql_parse_parts.specs.declared.parse_fault.ParseFault.TheVariants.{Syntax, TooLong, Memory}

abbrev pub first_content : List Lexeme → List ℕ
first_content [] = []
first_content (l ∷ ls) = content l

-- the fault of a text, where reading stopped before these tokens: the first is a name that is too long, or else the byte
-- at which they begin
abbrev pub fault_at : List ℕ → List Lexeme → Bool → ParseFault
fault_at text rest long = if long then TooLong (first_content rest) else Syntax (place_of text (length rest))

-- the first of these is a name that is too long
abbrev pub IsLongFirst : List Lexeme → Type 0
IsLongFirst [] = ⊥
IsLongFirst (l ∷ ls) = is_long l ≡ true

-- a stop for the length of a name is at such a name, as that of every rule is; None is want of memory
abbrev pub IsStopOfRule : Option Stop → Type 0
IsStopOfRule None = Unit {0}
IsStopOfRule (Some s) = s.long ≡ true → IsLongFirst s.rest

-- the fault tells where reading stopped, or there was no memory
abbrev pub Tells : ParseFault → List ℕ → Option Stop → Type 0
Tells fault text None = fault ≡ Memory
Tells fault text (Some s) = (fault ≡ Memory) ⊎ (fault ≡ fault_at text s.rest s.long)

-- a front of the tokens reads as the value, whatever follows it; or the fault tells where reading stops
abbrev pub IsFront : {A : Type 0} → List ℕ → Result A ParseFault → Result (A × List Lexeme) Stop → Type 0
IsFront text (Ok v) r = (after : List Lexeme) × (r ≡ Ok (v, after))
IsFront text (Err fault) r = (fault ≡ Memory) ⊎ ((s : Stop) × (r ≡ Err s) × (fault ≡ fault_at text s.rest s.long))
