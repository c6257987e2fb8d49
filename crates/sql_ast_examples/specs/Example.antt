-- A text beside what it reads as.
use Rattle.std.specs.Prelude.{◌≡◌, ℕ, List, map, codes}
use Prim.Native.String.{String}
use Rattle.sql_lex.specs.Texts.{Reading, sentence, syntax_error, name_too_long}
use Rattle.sql_ast.specs.declared.statement.Statement.{Statement}
use Rattle.sql_ast.specs.Reads.{plain_reading}

pub record Example : Type 0 where
  pub text : String
  pub reading : Reading Statement

infix 4 ◌means◌
abbrev pub ◌means◌ : String → Statement → Example
text means s = record { text = text; reading = sentence s }

-- its first faulty token, or its end, is at that byte
infix 4 ◌is_faulty_at◌
abbrev pub ◌is_faulty_at◌ : String → ℕ → Example
text is_faulty_at at = record { text = text; reading = syntax_error at }

infix 4 ◌has_long_name◌
abbrev pub ◌has_long_name◌ : String → String → Example
text has_long_name name = record { text = text; reading = name_too_long (codes name) }

-- each text reads as it says
abbrev pub AllRead : List Example → Type 0
AllRead examples = map (λ e. plain_reading (codes e.text)) examples ≡ map (λ e. e.reading) examples
