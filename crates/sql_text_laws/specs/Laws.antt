-- Which statements texts read as.
use Rattle.std.specs.Prelude.{◌≡◌, ℕ, Bool, true, false, List}
use Rattle.std.specs.Str.{IsUtf8}
use Rattle.sql_ast.specs.declared.statement.Statement.{Statement}
use Rattle.sql_ast.specs.declared.statement.Statement.TheVariants as is
use Rattle.sql_ast.specs.Reads.{Reads}
use Rattle.sql_text.specs.Canonical.{is_spellable}

-- a text outside the grammar
abbrev pub is_bad : Statement → Bool
is_bad (is.Bad error) = true
is_bad _ = false

-- what some text reads as has a canonical text, unless the text is outside the grammar
abbrev pub EachReadIsSpellable : Type 0
EachReadIsSpellable = (text : List ℕ) (s : Statement) → IsUtf8 text → Reads text s → is_bad s ≡ false → is_spellable s ≡ true
