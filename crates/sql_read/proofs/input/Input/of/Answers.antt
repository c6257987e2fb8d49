use Rattle.std.proofs.Common.{◌≡◌, ℕ, [], ◌∷◌, Option, Some, None, sym, refl}
use Rattle.std.specs.Bool.{if◌then◌else◌}
use Rattle.std.specs.Option.{is_some}
use Rattle.sql_grammar.specs.Lexemes.{broken}
use Rattle.sql_lex.specs.Texts.{lexemes, broken_if}
use Rattle.sql_read.specs.Seen.{seen}
use Rattle.sql_read.proofs.Made.{tokens_are_of_text}
use Rattle.sql_read.proofs.input.Input.of.Goals as goal

pub invariant_of-result : goal.invariant_of-result
invariant_of-result c = record { of_text = rw (c.as_bytes.ensures.value, c.as_slice.ensures) (tokens_are_of_text c.args.text.now (c.args.lexed.now.tokens, c.args.lexed.now.bad) c.utf8.text c.requires) }

broken_is : (o : Option ℕ) → (if is_some o then broken ∷ [] else []) ≡ broken_if o
broken_is None = refl
broken_is (Some at) = refl

pub returns : goal.returns
unfolding seen lexemes
returns c = rw (c.as_bytes.ensures.value, c.as_slice.ensures, sym c.requires, c.is_some.ensures, broken_is c.args.lexed.now.bad) refl
