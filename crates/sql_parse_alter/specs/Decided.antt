-- In these rules one token decides each choice.
use Rattle.std.specs.Prelude.{◌≡◌, refl, true}
use Rattle.dd_names.specs.Reserved.{is_reserved}
use Rattle.sql_grammar.specs.Lexemes.{takes}
use Rattle.sql_grammar.specs.Rules.{listed}
use Rattle.sql_grammar.specs.Checks.{one_token_decides, has_examples}
use Rattle.sql_ast.specs.GrammarParts.{object, names, cols, index_or_key, charset, equals, engine_option}
use Rattle.sql_ast.specs.GrammarColumns.{literal, int_size, unsigned, a_type, attribute, named_column}
use Rattle.sql_ast.specs.GrammarKeys.{what_is_done, rule, primary_key, unique_key, plain_key, foreign_key, constraint_key, key}
use Rattle.sql_ast.specs.GrammarActions.{place, maybe_column, added_columns, add_action, drop_action, modify_action, change_action, name_to_name, rename_action, alter_action, action}

pub actions_decided : one_token_decides (listed action) ≡ true
unfolding is_reserved takes literal int_size unsigned a_type attribute charset named_column object names cols index_or_key what_is_done rule primary_key unique_key plain_key foreign_key constraint_key key equals engine_option place maybe_column added_columns add_action drop_action modify_action change_action name_to_name rename_action alter_action action
actions_decided = refl

-- and each rule has an example
pub actions_shown : has_examples (listed action) ≡ true
unfolding is_reserved takes literal int_size unsigned a_type attribute charset named_column object names cols index_or_key what_is_done rule primary_key unique_key plain_key foreign_key constraint_key key equals engine_option place maybe_column added_columns add_action drop_action modify_action change_action name_to_name rename_action alter_action action
actions_shown = refl
