-- Pieces, and their texts.
use Rattle.std.specs.Prelude.{List, [], ◌∷◌, codes}
use Rattle.sql_pieces.specs.Pieces.{gap, as_word, as_name, as_digits, as_string, as_sign, spelled, written}
use Rattle.sql_text_tests.specs.Cases.{TextCase, ◌spells◌}

-- words, names and digits; strings with each escape, and with what has none
abbrev pub piece_texts : List TextCase
piece_texts =
    (written (as_word (codes "USE") ∷ gap (32 ∷ []) ∷ as_name (codes "Select") ∷ []) spells "USE `Select`")
    ∷ (written (as_name (codes "d") ∷ as_sign 46 ∷ as_name (codes "t") ∷ []) spells "`d`.`t`")
    ∷ (spelled (as_digits (codes "007")) spells "007")
    ∷ (spelled (as_string []) spells "''")
    ∷ (spelled (as_string (codes "it's")) spells "'it''s'")
    ∷ (spelled (as_string (codes "\\%")) spells "'\\\\%'")
    ∷ (spelled (as_string (10 ∷ 13 ∷ 0 ∷ [])) spells "'\\n\\r\\0'")
    ∷ (spelled (as_string (codes "`\"-- #")) spells "'`\"-- #'")
    ∷ []
