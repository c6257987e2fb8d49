-- In these rules one token decides each choice.
use Rattle.std.specs.Prelude.{◌≡◌, refl, true}
use Rattle.dd_names.specs.Reserved.{is_reserved}
use Rattle.sql_grammar.specs.Lexemes.{takes}
use Rattle.sql_grammar.specs.Grammar.{many}
use Rattle.sql_grammar.specs.Rules.{listed}
use Rattle.sql_grammar.specs.Checks.{one_token_decides, has_examples}
use Rattle.sql_ast.specs.GrammarParts.{object, names, cols, index_or_key, charset}
use Rattle.sql_ast.specs.GrammarColumns.{literal, int_size, unsigned, a_type, attribute, named_column}
use Rattle.sql_ast.specs.GrammarKeys.{what_is_done, rule, primary_key, unique_key, plain_key, foreign_key, constraint_key, key, element}

pub attributes_decided : one_token_decides (many attribute) ≡ true
unfolding is_reserved takes literal attribute charset
attributes_decided = refl

pub rules_decided : one_token_decides (many rule) ≡ true
unfolding is_reserved takes rule what_is_done
rules_decided = refl

pub columns_decided : one_token_decides (listed named_column) ≡ true
unfolding is_reserved takes literal int_size unsigned a_type attribute charset named_column
columns_decided = refl

pub elements_decided : one_token_decides (listed element) ≡ true
unfolding is_reserved takes literal int_size unsigned a_type attribute charset named_column object names cols index_or_key what_is_done rule primary_key unique_key plain_key foreign_key constraint_key key element
elements_decided = refl

pub element_decided : one_token_decides element ≡ true
unfolding is_reserved takes literal int_size unsigned a_type attribute charset named_column object names cols index_or_key what_is_done rule primary_key unique_key plain_key foreign_key constraint_key key element
element_decided = refl

-- and each rule has an example
pub element_shown : has_examples element ≡ true
unfolding is_reserved takes literal int_size unsigned a_type attribute charset named_column object names cols index_or_key what_is_done rule primary_key unique_key plain_key foreign_key constraint_key key element
element_shown = refl
