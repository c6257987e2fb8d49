-- The text of keys and foreign keys, and of what a table is made of.
use Rattle.std.specs.Prelude.{ℕ, Bool, true, false, List, [], ◌∷◌, ◌++◌, Option, Some, None, ◌&&◌}
use Rattle.dd_names.specs.Names.{is_name}
use Rattle.sql_types.specs.declared.choices.IndexClass.{IndexClass}
use Rattle.sql_types.specs.declared.choices.IndexClass.TheVariants.{Primary, Unique, Plain}
use Rattle.sql_types.specs.declared.choices.FkRule.{FkRule}
use Rattle.sql_types.specs.declared.choices.FkRule.TheVariants.{NoAction, Restrict, Cascade, SetNull}
use Rattle.sql_types.specs.declared.words.KeyWords.{KeyWords}
use Rattle.sql_types.specs.declared.words.FkWords.{FkWords}
use Rattle.sql_ast.specs.declared.element.Element.{Element}
use Rattle.sql_ast.specs.declared.element.Element.TheVariants.{Column, Key, ForeignKey}
use Rattle.sql_pieces.specs.Pieces.{Piece, as_name}
use Rattle.sql_text.specs.Parts.{word, name_pieces, names_pieces, object_pieces, where_some, are_names, is_object, if_some}
use Rattle.sql_text.specs.Columns.{column_pieces, is_column}

-- ---- keys

-- [CONSTRAINT name]
abbrev pub constraint_pieces : Option (List ℕ) → List Piece
constraint_pieces constraint = where_some (λ n. word "CONSTRAINT" ∷ as_name n ∷ []) constraint

-- PRIMARY KEY | UNIQUE | INDEX
abbrev pub class_pieces : IndexClass → List Piece
class_pieces Primary = word "PRIMARY" ∷ word "KEY" ∷ []
class_pieces Unique = word "UNIQUE" ∷ []
class_pieces Plain = word "INDEX" ∷ []

-- PRIMARY KEY names | [CONSTRAINT name] UNIQUE [name] names | INDEX [name] names
abbrev pub key_pieces : KeyWords → List Piece
key_pieces k = constraint_pieces k.constraint ++ (class_pieces k.class ++ (where_some name_pieces k.name ++ names_pieces k.columns))

-- ---- foreign keys

-- RESTRICT | CASCADE | SET NULL; NO ACTION is left out
abbrev pub done_pieces : FkRule → List Piece
done_pieces NoAction = []
done_pieces Restrict = word "RESTRICT" ∷ []
done_pieces Cascade = word "CASCADE" ∷ []
done_pieces SetNull = word "SET" ∷ word "NULL" ∷ []

-- [ON DELETE rule] or [ON UPDATE rule]
abbrev pub rule_pieces : Piece → FkRule → List Piece
rule_pieces event NoAction = []
rule_pieces event rule = word "ON" ∷ event ∷ done_pieces rule

-- object names [ON DELETE rule] [ON UPDATE rule]
abbrev pub parent_pieces : FkWords → List Piece
parent_pieces f =
    object_pieces f.parent ++ (names_pieces f.parent_columns ++ (rule_pieces (word "DELETE") f.on_delete ++ rule_pieces (word "UPDATE") f.on_update))

-- FOREIGN KEY [name] names REFERENCES object names [ON DELETE rule] [ON UPDATE rule]
abbrev pub reference_pieces : FkWords → List Piece
reference_pieces f =
    word "FOREIGN" ∷ word "KEY" ∷ (where_some name_pieces f.name ++ (names_pieces f.columns ++ word "REFERENCES" ∷ parent_pieces f))

-- [CONSTRAINT name] and the same
abbrev pub foreign_key_pieces : FkWords → List Piece
foreign_key_pieces f = constraint_pieces f.constraint ++ reference_pieces f

-- ---- elements

-- element = name column | key
abbrev pub element_pieces : Element → List Piece
element_pieces (Column c) = column_pieces c
element_pieces (Key k) = key_pieces k
element_pieces (ForeignKey f) = foreign_key_pieces f

-- ---- which of these have a text

abbrev pub is_absent : {A : Type 0} → Option A → Bool
is_absent None = true
is_absent (Some x) = false

-- a primary key has neither constraint nor name, and a plain key has no constraint
abbrev pub is_key_of : IndexClass → Option (List ℕ) → Option (List ℕ) → Bool
is_key_of Primary constraint name = is_absent constraint && is_absent name
is_key_of Unique constraint name = if_some is_name constraint && if_some is_name name
is_key_of Plain constraint name = is_absent constraint && if_some is_name name

abbrev pub is_key : KeyWords → Bool
is_key k = is_key_of k.class k.constraint k.name && are_names k.columns

abbrev pub is_foreign_key : FkWords → Bool
is_foreign_key f =
    if_some is_name f.constraint && if_some is_name f.name && are_names f.columns && is_object f.parent && are_names f.parent_columns

abbrev pub is_element : Element → Bool
is_element (Column c) = is_column c
is_element (Key k) = is_key k
is_element (ForeignKey f) = is_foreign_key f
