-- The texts of Tables, read by computing.
use Rattle.std.specs.Prelude.{refl}
use Rattle.dd_names.specs.Reserved.{is_reserved}
use Rattle.sql_grammar.specs.Lexemes.{takes, is_long}
use Rattle.sql_ast.specs.GrammarParts.{object, names, cols, db, index_or_key, from_or_in, if_not_exists, if_exists, equals, charset, charset_option, engine_option, db_option, table_option}
use Rattle.sql_ast.specs.GrammarColumns.{literal, int_size, unsigned, a_type, attribute, named_column}
use Rattle.sql_ast.specs.GrammarKeys.{what_is_done, rule, primary_key, unique_key, plain_key, foreign_key, constraint_key, key, element}
use Rattle.sql_ast.specs.GrammarActions.{place, maybe_column, added_columns, add_action, drop_action, modify_action, change_action, name_to_name, rename_action, alter_action, action}
use Rattle.sql_ast.specs.GrammarViews.{another_name, tail, item, source, select, part, view_words}
use Rattle.sql_ast.specs.Grammar.{create_db, like_object, body, create_table, create_index, create_view, create, drop_db, drop_table, drop_index, drop_view, drop, show, use_schema, rename, truncate, alter, table, set, statement}
use Rattle.sql_lex.specs.Pieces.{run, word_piece, line_piece, quoted_shape, quoted_piece, string_piece, comment_piece, opening_piece, slash_piece, star_piece, front}
use Rattle.sql_lex.specs.Texts.{lexemes, place_of}
use Rattle.sql_ast_examples.specs.Example.{AllRead}
use Rattle.sql_ast_examples.specs.Tables.{whole_tables_1, whole_tables_2, whole_tables_3, further_tables_1, further_tables_2, further_tables_3}

pub whole_tables_1_read : AllRead whole_tables_1
unfolding is_reserved takes is_long object names cols db index_or_key from_or_in if_not_exists if_exists equals charset charset_option engine_option db_option table_option literal int_size unsigned a_type attribute named_column what_is_done rule primary_key unique_key plain_key foreign_key constraint_key key element place maybe_column added_columns add_action drop_action modify_action change_action name_to_name rename_action alter_action action another_name tail item source select part view_words create_db like_object body create_table create_index create_view create drop_db drop_table drop_index drop_view drop show use_schema rename truncate alter table set statement run word_piece line_piece quoted_shape quoted_piece string_piece comment_piece opening_piece slash_piece star_piece front lexemes place_of
whole_tables_1_read = refl

pub whole_tables_2_read : AllRead whole_tables_2
unfolding is_reserved takes is_long object names cols db index_or_key from_or_in if_not_exists if_exists equals charset charset_option engine_option db_option table_option literal int_size unsigned a_type attribute named_column what_is_done rule primary_key unique_key plain_key foreign_key constraint_key key element place maybe_column added_columns add_action drop_action modify_action change_action name_to_name rename_action alter_action action another_name tail item source select part view_words create_db like_object body create_table create_index create_view create drop_db drop_table drop_index drop_view drop show use_schema rename truncate alter table set statement run word_piece line_piece quoted_shape quoted_piece string_piece comment_piece opening_piece slash_piece star_piece front lexemes place_of
whole_tables_2_read = refl

pub whole_tables_3_read : AllRead whole_tables_3
unfolding is_reserved takes is_long object names cols db index_or_key from_or_in if_not_exists if_exists equals charset charset_option engine_option db_option table_option literal int_size unsigned a_type attribute named_column what_is_done rule primary_key unique_key plain_key foreign_key constraint_key key element place maybe_column added_columns add_action drop_action modify_action change_action name_to_name rename_action alter_action action another_name tail item source select part view_words create_db like_object body create_table create_index create_view create drop_db drop_table drop_index drop_view drop show use_schema rename truncate alter table set statement run word_piece line_piece quoted_shape quoted_piece string_piece comment_piece opening_piece slash_piece star_piece front lexemes place_of
whole_tables_3_read = refl

pub further_tables_1_read : AllRead further_tables_1
unfolding is_reserved takes is_long object names cols db index_or_key from_or_in if_not_exists if_exists equals charset charset_option engine_option db_option table_option literal int_size unsigned a_type attribute named_column what_is_done rule primary_key unique_key plain_key foreign_key constraint_key key element place maybe_column added_columns add_action drop_action modify_action change_action name_to_name rename_action alter_action action another_name tail item source select part view_words create_db like_object body create_table create_index create_view create drop_db drop_table drop_index drop_view drop show use_schema rename truncate alter table set statement run word_piece line_piece quoted_shape quoted_piece string_piece comment_piece opening_piece slash_piece star_piece front lexemes place_of
further_tables_1_read = refl

pub further_tables_2_read : AllRead further_tables_2
unfolding is_reserved takes is_long object names cols db index_or_key from_or_in if_not_exists if_exists equals charset charset_option engine_option db_option table_option literal int_size unsigned a_type attribute named_column what_is_done rule primary_key unique_key plain_key foreign_key constraint_key key element place maybe_column added_columns add_action drop_action modify_action change_action name_to_name rename_action alter_action action another_name tail item source select part view_words create_db like_object body create_table create_index create_view create drop_db drop_table drop_index drop_view drop show use_schema rename truncate alter table set statement run word_piece line_piece quoted_shape quoted_piece string_piece comment_piece opening_piece slash_piece star_piece front lexemes place_of
further_tables_2_read = refl

pub further_tables_3_read : AllRead further_tables_3
unfolding is_reserved takes is_long object names cols db index_or_key from_or_in if_not_exists if_exists equals charset charset_option engine_option db_option table_option literal int_size unsigned a_type attribute named_column what_is_done rule primary_key unique_key plain_key foreign_key constraint_key key element place maybe_column added_columns add_action drop_action modify_action change_action name_to_name rename_action alter_action action another_name tail item source select part view_words create_db like_object body create_table create_index create_view create drop_db drop_table drop_index drop_view drop show use_schema rename truncate alter table set statement run word_piece line_piece quoted_shape quoted_piece string_piece comment_piece opening_piece slash_piece star_piece front lexemes place_of
further_tables_3_read = refl
