-- The laws of a grammar, each as one sentence.
use Rattle.std.specs.Prelude.{◌≡◌, false, List, Ok}
use Rattle.sql_grammar.specs.Lexemes.{Lexeme, begins, Short}
use Rattle.sql_grammar.specs.Grammar.{Grammar, Says}
use Rattle.sql_grammar.specs.Reading.{read}
use Rattle.sql_grammar.specs.Checks.{extends_by}
use Rattle.sql_grammar.specs.Judging.{Verdict, Reads, verdict_of}

-- what is read is said by the grammar
abbrev pub IsSound : {A : Type 0} → Grammar A → Type 0
IsSound {A} g = (before after : List Lexeme) (v : A) → read g before ≡ Ok (v, after) → Says g before after v

-- what the grammar says is read, where no token follows with which reading would go on
abbrev pub IsComplete : {A : Type 0} → Grammar A → Type 0
IsComplete {A} g =
    (before after : List Lexeme) (v : A) → Says g before after v → Short before → begins (extends_by g) after ≡ false → read g before ≡ Ok (v, after)

-- each list of tokens reads as the plain reader finds it
abbrev pub EachReads : {A : Type 0} → Grammar A → Type 0
EachReads g = (ls : List Lexeme) → Reads g ls (verdict_of g ls)

-- no list of tokens reads in two ways
abbrev pub EachReadsOnce : {A : Type 0} → Grammar A → Type 0
EachReadsOnce {A} g = (ls : List Lexeme) (a b : Verdict A) → Reads g ls a → Reads g ls b → a ≡ b
