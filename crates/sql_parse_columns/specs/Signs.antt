-- The sign before a number.
use Rattle.std.specs.Prelude.{ℕ, List, [], ◌∷◌}
use Rattle.sql_parse_columns.specs.declared.value.Sign.{Sign}
use Rattle.sql_parse_columns.specs.declared.value.Sign.TheVariants.{Plus, Minus, Unwritten}

-- as it is written
abbrev pub sign_text : Sign → List ℕ
sign_text Plus = 43 ∷ []
sign_text Minus = 45 ∷ []
sign_text Unwritten = []
