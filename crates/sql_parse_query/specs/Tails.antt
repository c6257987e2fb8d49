-- What follows the first name of an item, as the parser has it and as the grammar has it.
use Rattle.std.specs.Prelude.{ℕ, List, Option}
use Rattle.sql_grammar.specs.Grammar.{Grammar, means}
use Rattle.sql_grammar.specs.Rules.{sign_of, gives}
use Rattle.sql_ast.specs.GrammarParts.{◌∣◌, ◌&◌, a_name}
use Rattle.sql_ast.specs.GrammarViews as grammar
use Rattle.sql_parse_query.specs.declared.items.Tail.{Tail}
use Rattle.sql_parse_query.specs.declared.items.Tail.TheVariants.{AllOf, ColumnOf, NoMore}

abbrev pub tail_seen : Tail → grammar.Tail
tail_seen AllOf = grammar.all_of
tail_seen (ColumnOf column output) = grammar.column_of column output
tail_seen (NoMore output) = grammar.no_more output

-- name [[AS] name]
abbrev pub column_tail : Grammar grammar.Tail
column_tail = means (λ p. grammar.column_of p.0 p.1) (a_name & grammar.another_name)

-- * | name [[AS] name]
abbrev pub tail_behind_dot : Grammar grammar.Tail
tail_behind_dot = gives grammar.all_of (sign_of 42) ∣ column_tail
