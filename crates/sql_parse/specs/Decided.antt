-- In these rules one token decides whether to go on.
use Rattle.std.specs.Prelude.{◌≡◌, refl, true}
use Rattle.dd_names.specs.Reserved.{is_reserved}
use Rattle.sql_grammar.specs.Lexemes.{takes}
use Rattle.sql_grammar.specs.Rules.{listed}
use Rattle.sql_grammar.specs.Checks.{one_token_decides}
use Rattle.sql_ast.specs.GrammarParts.{object}
use Rattle.sql_parse.specs.Subrules.{pair}

pub objects_decided : one_token_decides (listed object) ≡ true
unfolding is_reserved takes object
objects_decided = refl

pub pairs_decided : one_token_decides (listed pair) ≡ true
unfolding is_reserved takes object
pairs_decided = refl
