-- In these rules one token decides whether to go on.
use Rattle.std.specs.Prelude.{◌≡◌, refl, true}
use Rattle.dd_names.specs.Reserved.{is_reserved}
use Rattle.sql_grammar.specs.Lexemes.{takes}
use Rattle.sql_grammar.specs.Rules.{listed}
use Rattle.sql_grammar.specs.Checks.{one_token_decides}
use Rattle.sql_ast.specs.GrammarParts.{object}
use Rattle.sql_ast.specs.GrammarViews.{another_name, tail, item, source}

pub items_decided : one_token_decides (listed item) ≡ true
unfolding is_reserved takes item tail another_name
items_decided = refl

pub sources_decided : one_token_decides (listed source) ≡ true
unfolding is_reserved takes source object another_name
sources_decided = refl
