-- In these rules one token decides whether to go on.
use Rattle.std.specs.Prelude.{◌≡◌, refl, true}
use Rattle.dd_names.specs.Reserved.{is_reserved}
use Rattle.sql_grammar.specs.Lexemes.{takes}
use Rattle.sql_grammar.specs.Grammar.{many}
use Rattle.sql_grammar.specs.Rules.{sign_of, ◌⊳◌, ◌⊲◌, listed}
use Rattle.sql_grammar.specs.Checks.{one_token_decides}
use Rattle.sql_ast.specs.GrammarParts.{the, maybe, a_name, equals, charset, charset_option, engine_option, db_option, table_option}

pub columns_decided : one_token_decides (listed (a_name ⊲ maybe (the "ASC"))) ≡ true
unfolding is_reserved takes
columns_decided = refl

pub db_options_decided : one_token_decides (many db_option) ≡ true
unfolding is_reserved takes db_option charset_option charset equals
db_options_decided = refl

pub table_options_decided : one_token_decides (many (maybe (sign_of 44) ⊳ table_option)) ≡ true
unfolding is_reserved takes table_option engine_option charset_option charset equals
table_options_decided = refl
