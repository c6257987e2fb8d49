-- The texts of Refused, read by computing.
use Rattle.std.specs.Prelude.{refl}
use Rattle.dd_names.specs.Reserved.{is_reserved}
use Rattle.sql_grammar.specs.Lexemes.{takes, is_long}
use Rattle.sql_ast.specs.GrammarParts.{object, names, cols, db, index_or_key, from_or_in, if_not_exists, if_exists, equals, charset, charset_option, engine_option, db_option, table_option}
use Rattle.sql_ast.specs.GrammarColumns.{literal, int_size, unsigned, a_type, attribute, named_column}
use Rattle.sql_ast.specs.GrammarKeys.{what_is_done, rule, primary_key, unique_key, plain_key, foreign_key, constraint_key, key, element}
use Rattle.sql_ast.specs.GrammarActions.{place, maybe_column, added_columns, add_action, drop_action, modify_action, change_action, name_to_name, rename_action, alter_action, action}
use Rattle.sql_ast.specs.GrammarViews.{another_name, tail, item, source, select, part, view_words}
use Rattle.sql_ast.specs.Grammar.{create_db, like_object, body, create_table, create_index, create_view, create, drop_db, drop_table, drop_index, drop_view, drop, show, use_schema, rename, truncate, alter, table, set, statement}
use Rattle.sql_lex.specs.Pieces.{run, word_piece, line_piece, quoted_shape, quoted_piece, string_piece, comment_piece, opening_piece, slash_piece, star_piece, front}
use Rattle.sql_lex.specs.Texts.{lexemes, place_of}
use Rattle.sql_ast_examples.specs.Example.{AllRead}
use Rattle.sql_ast_examples.specs.Refused.{databases_refused_1, databases_refused_2, databases_refused_3, databases_refused_4, tables_refused_1, tables_refused_2, tables_refused_3, tables_refused_4, changes_refused_1, changes_refused_2, changes_refused_3}

pub databases_refused_1_read : AllRead databases_refused_1
unfolding is_reserved takes is_long object names cols db index_or_key from_or_in if_not_exists if_exists equals charset charset_option engine_option db_option table_option literal int_size unsigned a_type attribute named_column what_is_done rule primary_key unique_key plain_key foreign_key constraint_key key element place maybe_column added_columns add_action drop_action modify_action change_action name_to_name rename_action alter_action action another_name tail item source select part view_words create_db like_object body create_table create_index create_view create drop_db drop_table drop_index drop_view drop show use_schema rename truncate alter table set statement run word_piece line_piece quoted_shape quoted_piece string_piece comment_piece opening_piece slash_piece star_piece front lexemes place_of
databases_refused_1_read = refl

pub databases_refused_2_read : AllRead databases_refused_2
unfolding is_reserved takes is_long object names cols db index_or_key from_or_in if_not_exists if_exists equals charset charset_option engine_option db_option table_option literal int_size unsigned a_type attribute named_column what_is_done rule primary_key unique_key plain_key foreign_key constraint_key key element place maybe_column added_columns add_action drop_action modify_action change_action name_to_name rename_action alter_action action another_name tail item source select part view_words create_db like_object body create_table create_index create_view create drop_db drop_table drop_index drop_view drop show use_schema rename truncate alter table set statement run word_piece line_piece quoted_shape quoted_piece string_piece comment_piece opening_piece slash_piece star_piece front lexemes place_of
databases_refused_2_read = refl

pub databases_refused_3_read : AllRead databases_refused_3
unfolding is_reserved takes is_long object names cols db index_or_key from_or_in if_not_exists if_exists equals charset charset_option engine_option db_option table_option literal int_size unsigned a_type attribute named_column what_is_done rule primary_key unique_key plain_key foreign_key constraint_key key element place maybe_column added_columns add_action drop_action modify_action change_action name_to_name rename_action alter_action action another_name tail item source select part view_words create_db like_object body create_table create_index create_view create drop_db drop_table drop_index drop_view drop show use_schema rename truncate alter table set statement run word_piece line_piece quoted_shape quoted_piece string_piece comment_piece opening_piece slash_piece star_piece front lexemes place_of
databases_refused_3_read = refl

pub databases_refused_4_read : AllRead databases_refused_4
unfolding is_reserved takes is_long object names cols db index_or_key from_or_in if_not_exists if_exists equals charset charset_option engine_option db_option table_option literal int_size unsigned a_type attribute named_column what_is_done rule primary_key unique_key plain_key foreign_key constraint_key key element place maybe_column added_columns add_action drop_action modify_action change_action name_to_name rename_action alter_action action another_name tail item source select part view_words create_db like_object body create_table create_index create_view create drop_db drop_table drop_index drop_view drop show use_schema rename truncate alter table set statement run word_piece line_piece quoted_shape quoted_piece string_piece comment_piece opening_piece slash_piece star_piece front lexemes place_of
databases_refused_4_read = refl

pub tables_refused_1_read : AllRead tables_refused_1
unfolding is_reserved takes is_long object names cols db index_or_key from_or_in if_not_exists if_exists equals charset charset_option engine_option db_option table_option literal int_size unsigned a_type attribute named_column what_is_done rule primary_key unique_key plain_key foreign_key constraint_key key element place maybe_column added_columns add_action drop_action modify_action change_action name_to_name rename_action alter_action action another_name tail item source select part view_words create_db like_object body create_table create_index create_view create drop_db drop_table drop_index drop_view drop show use_schema rename truncate alter table set statement run word_piece line_piece quoted_shape quoted_piece string_piece comment_piece opening_piece slash_piece star_piece front lexemes place_of
tables_refused_1_read = refl

pub tables_refused_2_read : AllRead tables_refused_2
unfolding is_reserved takes is_long object names cols db index_or_key from_or_in if_not_exists if_exists equals charset charset_option engine_option db_option table_option literal int_size unsigned a_type attribute named_column what_is_done rule primary_key unique_key plain_key foreign_key constraint_key key element place maybe_column added_columns add_action drop_action modify_action change_action name_to_name rename_action alter_action action another_name tail item source select part view_words create_db like_object body create_table create_index create_view create drop_db drop_table drop_index drop_view drop show use_schema rename truncate alter table set statement run word_piece line_piece quoted_shape quoted_piece string_piece comment_piece opening_piece slash_piece star_piece front lexemes place_of
tables_refused_2_read = refl

pub tables_refused_3_read : AllRead tables_refused_3
unfolding is_reserved takes is_long object names cols db index_or_key from_or_in if_not_exists if_exists equals charset charset_option engine_option db_option table_option literal int_size unsigned a_type attribute named_column what_is_done rule primary_key unique_key plain_key foreign_key constraint_key key element place maybe_column added_columns add_action drop_action modify_action change_action name_to_name rename_action alter_action action another_name tail item source select part view_words create_db like_object body create_table create_index create_view create drop_db drop_table drop_index drop_view drop show use_schema rename truncate alter table set statement run word_piece line_piece quoted_shape quoted_piece string_piece comment_piece opening_piece slash_piece star_piece front lexemes place_of
tables_refused_3_read = refl

pub tables_refused_4_read : AllRead tables_refused_4
unfolding is_reserved takes is_long object names cols db index_or_key from_or_in if_not_exists if_exists equals charset charset_option engine_option db_option table_option literal int_size unsigned a_type attribute named_column what_is_done rule primary_key unique_key plain_key foreign_key constraint_key key element place maybe_column added_columns add_action drop_action modify_action change_action name_to_name rename_action alter_action action another_name tail item source select part view_words create_db like_object body create_table create_index create_view create drop_db drop_table drop_index drop_view drop show use_schema rename truncate alter table set statement run word_piece line_piece quoted_shape quoted_piece string_piece comment_piece opening_piece slash_piece star_piece front lexemes place_of
tables_refused_4_read = refl

pub changes_refused_1_read : AllRead changes_refused_1
unfolding is_reserved takes is_long object names cols db index_or_key from_or_in if_not_exists if_exists equals charset charset_option engine_option db_option table_option literal int_size unsigned a_type attribute named_column what_is_done rule primary_key unique_key plain_key foreign_key constraint_key key element place maybe_column added_columns add_action drop_action modify_action change_action name_to_name rename_action alter_action action another_name tail item source select part view_words create_db like_object body create_table create_index create_view create drop_db drop_table drop_index drop_view drop show use_schema rename truncate alter table set statement run word_piece line_piece quoted_shape quoted_piece string_piece comment_piece opening_piece slash_piece star_piece front lexemes place_of
changes_refused_1_read = refl

pub changes_refused_2_read : AllRead changes_refused_2
unfolding is_reserved takes is_long object names cols db index_or_key from_or_in if_not_exists if_exists equals charset charset_option engine_option db_option table_option literal int_size unsigned a_type attribute named_column what_is_done rule primary_key unique_key plain_key foreign_key constraint_key key element place maybe_column added_columns add_action drop_action modify_action change_action name_to_name rename_action alter_action action another_name tail item source select part view_words create_db like_object body create_table create_index create_view create drop_db drop_table drop_index drop_view drop show use_schema rename truncate alter table set statement run word_piece line_piece quoted_shape quoted_piece string_piece comment_piece opening_piece slash_piece star_piece front lexemes place_of
changes_refused_2_read = refl

pub changes_refused_3_read : AllRead changes_refused_3
unfolding is_reserved takes is_long object names cols db index_or_key from_or_in if_not_exists if_exists equals charset charset_option engine_option db_option table_option literal int_size unsigned a_type attribute named_column what_is_done rule primary_key unique_key plain_key foreign_key constraint_key key element place maybe_column added_columns add_action drop_action modify_action change_action name_to_name rename_action alter_action action another_name tail item source select part view_words create_db like_object body create_table create_index create_view create drop_db drop_table drop_index drop_view drop show use_schema rename truncate alter table set statement run word_piece line_piece quoted_shape quoted_piece string_piece comment_piece opening_piece slash_piece star_piece front lexemes place_of
changes_refused_3_read = refl
