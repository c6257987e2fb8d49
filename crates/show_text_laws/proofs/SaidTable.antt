-- The text of SHOW CREATE TABLE is spelled as the grammar reads it.
use Rattle.std.proofs.Common.{◌≡◌, ℕ, Bool, true, false, ◌&&◌, List, [], ◌∷◌, ◌++◌, map, refl}
use Rattle.std.specs.Prelude.{flat_map}
use Rattle.std.specs.List.{list_all}
use Rattle.dd_names.specs.Names.{is_name}
use Rattle.sql_grammar.specs.Grammar.{many}
use Rattle.sql_grammar.specs.Rules.{sign_of, ◌⊳◌, ◌⊲◌, listed}
use Rattle.sql_grammar.proofs.Bits.{and_true}
use Rattle.sql_types.specs.declared.words.ObjRef.{ObjRef}
use Rattle.dd_definitions.specs.Columns.{is_short_type}
use Rattle.dd_definitions.specs.declared.columns.ColumnDef.{ColumnDef}
use Rattle.dd_definitions.specs.declared.indexes.IndexDef.{IndexDef}
use Rattle.dd_definitions.specs.declared.foreign_keys.ForeignKeyDef.{ForeignKeyDef}
use Rattle.dd_definitions.specs.declared.parts.TableParts.{TableParts}
use Rattle.sql_ast.specs.declared.element.Element.{Element}
use Rattle.sql_ast.specs.GrammarParts.{maybe, equals, charset, charset_option, engine_option, table_option}
use Rattle.sql_ast.specs.GrammarKeys.{element}
use Rattle.sql_ast.specs.declared.table.TableBody.{TableBody}
use Rattle.sql_ast.specs.declared.table.TableBody.TheVariants.{Elements}
use Rattle.sql_ast.specs.Grammar.{body, table_of, create_table, create, statement}
use Rattle.sql_pieces.specs.Pieces.{Piece, gap, as_sign, blank}
use Rattle.sql_text.specs.Parts.{word, are_names, is_object}
use Rattle.sql_text.proofs.Spells.{Spells, SpellsNoKey, weaken, both, both_no_key, behind, before, by, by_no_key, left, right, there, left_out, a_word, word_then, a_sign, sign_then, no_more, one_more, many_joined, any_then, sign_no_key}
use Rattle.sql_text.proofs.SpelledParts.{object_spelled, if_not_exists_spelled}
use Rattle.show_text_laws.specs.Said.{column_element, index_element, foreign_key_element, keys_said, elements_said, table_named, parent_said, statement_said}
use Rattle.show_text_laws.specs.Pieces.{column_pieces, index_pieces, foreign_key_pieces, column_line, index_line, foreign_key_line, key_lines, next_line, lines_before, elements_pieces, options_pieces, table_pieces}
use Rattle.show_text_laws.proofs.SaidColumns.{gap_then, blank_then, column_element_spelled}
use Rattle.show_text_laws.proofs.SaidKeys.{index_element_spelled, foreign_key_element_spelled}

-- ---- which parts have these names and lengths

abbrev pub is_column_shown : ColumnDef → Bool
is_column_shown c = is_name c.name && is_short_type c.kind

abbrev pub is_index_shown : IndexDef → Bool
is_index_shown i = is_name i.name && are_names i.columns

abbrev pub is_foreign_key_shown : List ℕ → ForeignKeyDef → Bool
is_foreign_key_shown schema key = is_name key.name && are_names key.columns && is_object (parent_said schema key.parent) && are_names key.parent_columns

-- ---- lines

abbrev Lines : List Piece → List Element → Type 0
Lines ps es = Spells (many (sign_of 44 ⊳ element)) ps es

line_spelled : (ps : List Piece) (e : Element) → Spells element ps e → Spells (sign_of 44 ⊳ element) (next_line ps) e
line_spelled ps e p = sign_then refl (gap_then (10 ∷ 32 ∷ 32 ∷ []) refl p)

each_line : {A : Type 0} (test : A → Bool) (f : A → List Piece) (g : A → Element) → ((x : A) → test x ≡ true → Spells element (f x) (g x))
    → (xs : List A) → list_all test xs ≡ true → Lines (flat_map (λ x. next_line (f x)) xs) (map g xs)
each_line test f g each [] h = no_more
each_line test f g each (x ∷ xs) h =
    let k = and_true (test x) (list_all test xs) h in
    one_more (line_spelled (f x) (g x) (each x k.0)) (each_line test f g each xs k.1)

column_of : (c : ColumnDef) → is_column_shown c ≡ true → Spells element (column_pieces c) (column_element c)
column_of c h = let k = and_true (is_name c.name) (is_short_type c.kind) h in column_element_spelled c k.0 k.1

columns_spelled : (cs : List ColumnDef) → list_all is_column_shown cs ≡ true → Lines (flat_map column_line cs) (map column_element cs)
columns_spelled cs h = each_line is_column_shown column_pieces column_element column_of cs h

indexes_spelled : (is : List IndexDef) → list_all is_index_shown is ≡ true → Lines (flat_map index_line is) (map index_element is)
indexes_spelled is h =
    each_line is_index_shown index_pieces index_element (λ i k. let m = and_true (is_name i.name) (are_names i.columns) k in index_element_spelled i m.0 m.1) is h

foreign_key_of : (schema : List ℕ) (key : ForeignKeyDef) → is_foreign_key_shown schema key ≡ true → Spells element (foreign_key_pieces schema key) (foreign_key_element schema key)
foreign_key_of schema key h =
    let k = and_true (is_name key.name && are_names key.columns && is_object (parent_said schema key.parent)) (are_names key.parent_columns) h in
    let m = and_true (is_name key.name && are_names key.columns) (is_object (parent_said schema key.parent)) k.0 in
    let n = and_true (is_name key.name) (are_names key.columns) m.0 in
    foreign_key_element_spelled schema key n.0 n.1 m.1 k.1

foreign_keys_spelled : (schema : List ℕ) (ks : List ForeignKeyDef) → list_all (is_foreign_key_shown schema) ks ≡ true → Lines (flat_map (foreign_key_line schema) ks) (map (foreign_key_element schema) ks)
foreign_keys_spelled schema ks h = each_line (is_foreign_key_shown schema) (foreign_key_pieces schema) (foreign_key_element schema) (foreign_key_of schema) ks h

-- ---- what is asked of the whole table

pub record IsShown (parts : TableParts) : Type 0 where
  pub name : is_name parts.name.name ≡ true
  pub columns : list_all is_column_shown parts.columns ≡ true
  pub indexes : list_all is_index_shown parts.indexes ≡ true
  pub foreign_keys : list_all (is_foreign_key_shown parts.name.schema) parts.foreign_keys ≡ true

-- some column
abbrev pub HasColumns : List ColumnDef → Type 0
HasColumns [] = ⊥
HasColumns (c ∷ cs) = Unit {0}

keys_spelled : (parts : TableParts) → IsShown parts → SpellsNoKey (many (sign_of 44 ⊳ element)) (key_lines parts) (keys_said parts)
keys_spelled parts shown = many_joined (indexes_spelled parts.indexes shown.indexes) (weaken (foreign_keys_spelled parts.name.schema parts.foreign_keys shown.foreign_keys))

lines_spelled : (cs : List ColumnDef) (others : List Piece) (more : List Element) → HasColumns cs → list_all is_column_shown cs ≡ true → SpellsNoKey (many (sign_of 44 ⊳ element)) others more
    → SpellsNoKey (listed element) (lines_before cs others) (map column_element cs ++ more)
lines_spelled [] others more some h p = absurd some
lines_spelled (c ∷ cs) others more some h p =
    let k = and_true (is_column_shown c) (list_all is_column_shown cs) h in
    by_no_key (λ (x : Element × List Element). x.0 ∷ x.1) (any_then (gap_then (32 ∷ 32 ∷ []) refl (column_of c k.0)) (many_joined (columns_spelled cs k.1) p))

-- ---- options

equals_sign : Spells equals (as_sign 61 ∷ []) tt
unfolding equals
equals_sign = by (λ (x : Bool). tt) (there (a_sign refl))

engine_spelled : Spells engine_option (word "ENGINE" ∷ as_sign 61 ∷ word "InnoDB" ∷ []) tt
unfolding engine_option
engine_spelled = word_then refl (behind equals_sign (a_word refl))

charset_spelled : Spells charset_option (word "CHARSET" ∷ as_sign 61 ∷ word "utf8mb4" ∷ []) tt
unfolding charset_option charset
charset_spelled = left (behind (right (a_word refl)) (behind equals_sign (a_word refl)))

collate_spelled : Spells charset_option (word "COLLATE" ∷ as_sign 61 ∷ word "utf8mb4_0900_ai_ci" ∷ []) tt
unfolding charset_option
collate_spelled = right (word_then refl (behind equals_sign (a_word refl)))

engine_there : Spells table_option (blank ∷ word "ENGINE" ∷ as_sign 61 ∷ word "InnoDB" ∷ []) tt
unfolding table_option
engine_there = left (blank_then engine_spelled)

charset_there : Spells table_option (blank ∷ word "DEFAULT" ∷ blank ∷ word "CHARSET" ∷ as_sign 61 ∷ word "utf8mb4" ∷ []) tt
unfolding table_option
charset_there = right (right (behind (by (λ (x : Bool). tt) (there (blank_then (a_word refl)))) (blank_then charset_spelled)))

collate_there : Spells table_option (blank ∷ word "COLLATE" ∷ as_sign 61 ∷ word "utf8mb4_0900_ai_ci" ∷ []) tt
unfolding table_option
collate_there = right (right (behind left_out (blank_then collate_spelled)))

options_spelled : Spells (many (maybe (sign_of 44) ⊳ table_option)) options_pieces (tt ∷ tt ∷ tt ∷ [])
options_spelled = one_more (behind left_out engine_there) (one_more (behind left_out charset_there) (one_more (behind left_out collate_there) no_more))

-- ---- the statement

elements_spelled : (parts : TableParts) → IsShown parts → HasColumns parts.columns → Spells (listed element ⊲ sign_of 41) (elements_pieces parts) (elements_said parts)
elements_spelled parts shown some =
    by (λ (x : List Element × Unit {0}). x.0)
    (both_no_key (lines_spelled parts.columns (key_lines parts) (keys_said parts) some shown.columns (keys_spelled parts shown)) (gap_then (10 ∷ []) refl (a_sign refl)) (λ after. sign_no_key 41 after))

body_spelled : (parts : TableParts) → IsShown parts → HasColumns parts.columns → Spells body (as_sign 40 ∷ gap (10 ∷ []) ∷ (elements_pieces parts ++ options_pieces)) (Elements (elements_said parts))
unfolding body
body_spelled parts shown some = right (sign_then refl (right (by Elements (gap_then (10 ∷ []) refl (before (elements_spelled parts shown some) options_spelled)))))

pub table_spelled : (parts : TableParts) → IsShown parts → HasColumns parts.columns → Spells statement (table_pieces parts) (statement_said parts)
unfolding statement create create_table
table_spelled parts shown some =
    left (word_then refl (blank_then (right (left (by (λ (p : Bool × (ObjRef × TableBody)). table_of p.0 p.1.0 p.1.1)
    (word_then refl (blank_then (both (if_not_exists_spelled false) (both (object_spelled (table_named parts) shown.name) (blank_then (body_spelled parts shown some)))))))))))
