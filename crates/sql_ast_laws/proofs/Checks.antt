-- The two computed tests of the grammar of statements.
use Rattle.std.specs.Prelude.{◌≡◌, refl, true}
use Rattle.dd_names.specs.Reserved.{is_reserved}
use Rattle.sql_grammar.specs.Lexemes.{takes}
use Rattle.sql_grammar.specs.Checks.{one_token_decides, has_examples}
use Rattle.sql_ast.specs.GrammarParts.{object, names, cols, db, index_or_key, from_or_in, if_not_exists, if_exists, equals, charset, charset_option, engine_option, db_option, table_option}
use Rattle.sql_ast.specs.GrammarColumns.{literal, int_size, unsigned, a_type, attribute, named_column}
use Rattle.sql_ast.specs.GrammarKeys.{what_is_done, rule, primary_key, unique_key, plain_key, foreign_key, constraint_key, key, element}
use Rattle.sql_ast.specs.GrammarActions.{place, maybe_column, added_columns, add_action, drop_action, modify_action, change_action, name_to_name, rename_action, alter_action, action}
use Rattle.sql_ast.specs.GrammarViews.{another_name, tail, item, source, select, part, view_words}
use Rattle.sql_ast.specs.Grammar.{create_db, like_object, body, create_table, create_index, create_view, create, drop_db, drop_table, drop_index, drop_view, drop, show, use_schema, rename, truncate, alter, table, set, statement}

pub decided : one_token_decides statement ≡ true
unfolding is_reserved takes object names cols db index_or_key from_or_in if_not_exists if_exists equals charset charset_option engine_option db_option table_option literal int_size unsigned a_type attribute named_column what_is_done rule primary_key unique_key plain_key foreign_key constraint_key key element place maybe_column added_columns add_action drop_action modify_action change_action name_to_name rename_action alter_action action another_name tail item source select part view_words create_db like_object body create_table create_index create_view create drop_db drop_table drop_index drop_view drop show use_schema rename truncate alter table set statement
decided = refl

pub shown : has_examples statement ≡ true
unfolding is_reserved takes object names cols db index_or_key from_or_in if_not_exists if_exists equals charset charset_option engine_option db_option table_option literal int_size unsigned a_type attribute named_column what_is_done rule primary_key unique_key plain_key foreign_key constraint_key key element place maybe_column added_columns add_action drop_action modify_action change_action name_to_name rename_action alter_action action another_name tail item source select part view_words create_db like_object body create_table create_index create_view create drop_db drop_table drop_index drop_view drop show use_schema rename truncate alter table set statement
shown = refl
