-- The texts, computed.
use Rattle.std.specs.Prelude.{refl}
use Rattle.show_text.specs.Keys.{names_text, between, parent_text, constraint_word, foreign_key_words, references_word, foreign_key_text}
use Rattle.sql_text_tests.specs.Cases.{AllSpelled}
use Rattle.sql_text_tests.specs.PieceTexts.{piece_texts}
use Rattle.sql_text_tests.specs.CanonicalTexts.{statement_texts, element_texts}
use Rattle.sql_text_tests.specs.ShownTexts.{shown_texts}

pub pieces_spelled : AllSpelled piece_texts
pieces_spelled = refl

pub statements_spelled : AllSpelled statement_texts
statements_spelled = refl

pub elements_spelled : AllSpelled element_texts
elements_spelled = refl

pub shown_spelled : AllSpelled shown_texts
unfolding names_text between parent_text constraint_word foreign_key_words references_word foreign_key_text
shown_spelled = refl
