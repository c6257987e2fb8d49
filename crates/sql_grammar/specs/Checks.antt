-- The two tests that a grammar has to pass, both computed: that one token decides each choice, and that each rule has an example.
use Rattle.std.specs.Prelude.{◌≡◌, Bool, true, false, cond, not, ◌&&◌, List, [], ◌∷◌, ◌++◌, bytes_eq, ◌==◌}
use Rattle.dd_names.specs.Names.{same}
use Rattle.dd_names.specs.Reserved.{is_reserved}
use Rattle.sql_grammar.specs.Lexemes.{Lexeme, word, number, quoted, string, sign, Terminal, keyword, mark, name, amount, width, text, exactly, takes, takes_some}
use Rattle.sql_grammar.specs.Grammar.{Grammar, one, nothing, seq, means, alt, many, if_next}
use Rattle.sql_grammar.specs.Reading.{null, first}

-- ---- one token decides each choice

-- no token is taken by both
abbrev pub apart : Terminal → Terminal → Bool
apart (keyword k) (keyword j) = not (same k j)
apart (keyword k) name = is_reserved k
apart name (keyword k) = is_reserved k
apart name name = false
apart (mark m) (mark n) = not (m == n)
apart amount amount = false
apart amount width = false
apart width amount = false
apart width width = false
apart text text = false
apart text (exactly s) = false
apart (exactly s) text = false
apart (exactly s) (exactly r) = not (bytes_eq s r)
apart _ _ = true

abbrev pub apart_from : Terminal → List Terminal → Bool
apart_from s [] = true
apart_from s (t ∷ ts) = apart s t && apart_from s ts

abbrev pub all_apart : List Terminal → List Terminal → Bool
all_apart [] ts = true
all_apart (s ∷ ss) ts = apart_from s ts && all_apart ss ts

-- what may not follow the rule, since reading would go on with it
abbrev pub extends_by : {A : Type 0} → Grammar A → List Terminal
extends_by (one t) = []
extends_by (nothing x) = []
extends_by (seq g h) = extends_by h ++ cond (null h) (extends_by g) []
extends_by (means f g) = extends_by g
extends_by (alt g h) = extends_by g ++ (extends_by h ++ cond (null h) (first g) [])
extends_by (many g) = extends_by g ++ first g
extends_by (if_next t) = []

-- one token is enough to choose, at each choice of the rule
abbrev pub one_token_decides : {A : Type 0} → Grammar A → Bool
one_token_decides (one t) = true
one_token_decides (nothing x) = true
one_token_decides (seq g h) = one_token_decides g && (one_token_decides h && all_apart (extends_by g) (first h))
one_token_decides (means f g) = one_token_decides g
one_token_decides (alt g h) = one_token_decides g && (one_token_decides h && (not (null g) && all_apart (first g) (first h)))
one_token_decides (many g) = one_token_decides g && (not (null g) && all_apart (extends_by g) (first g))
one_token_decides (if_next t) = true

-- ---- each rule has an example

-- a token that the terminal takes
abbrev pub example_of : Terminal → Lexeme
example_of (keyword k) = word k
example_of (mark m) = sign m
example_of name = quoted (97 ∷ [])
example_of amount = number (49 ∷ [])
example_of width = number (49 ∷ [])
example_of text = string []
example_of (exactly s) = string s

-- tokens that the rule takes
abbrev pub example : {A : Type 0} → Grammar A → List Lexeme
example (one t) = example_of t ∷ []
example (nothing x) = []
example (seq g h) = example g ++ example h
example (means f g) = example g
example (alt g h) = example h
example (many g) = []
example (if_next t) = []

-- what may not follow the rule by the grammar itself
abbrev pub excludes : {A : Type 0} → Grammar A → List Terminal
excludes (one t) = []
excludes (nothing x) = []
excludes (seq g h) = excludes h ++ cond (null h) (excludes g) []
excludes (means f g) = excludes g
excludes (alt g h) = excludes g ++ excludes h
excludes (many g) = excludes g
excludes (if_next t) = t ∷ []

-- the first of the tokens is none of these; where there are no tokens, they may be left out
abbrev pub none_first : List Terminal → List Lexeme → Bool → Bool
none_first ts [] n = n
none_first ts (l ∷ ls) n = not (takes_some ts l)

-- each rule takes its example, and may do so where it stands
abbrev pub has_examples : {A : Type 0} → Grammar A → Bool
has_examples (one t) = takes t (example_of t)
has_examples (nothing x) = true
has_examples (seq g h) = has_examples g && (has_examples h && none_first (excludes g) (example h) (null h))
has_examples (means f g) = has_examples g
has_examples (alt g h) = has_examples g && has_examples h
has_examples (many g) = has_examples g
has_examples (if_next t) = true

-- both
pub record IsPlain {A : Type 0} (g : Grammar A) : Type 0 where
  pub decided : one_token_decides g ≡ true
  pub shown : has_examples g ≡ true
