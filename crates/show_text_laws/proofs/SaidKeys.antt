-- The keys and foreign keys of SHOW CREATE TABLE are spelled as the grammar reads them.
use Rattle.std.proofs.Common.{◌≡◌, ℕ, Bool, true, List, [], ◌∷◌, ◌++◌, Option, Some, None, refl, ap}
use Rattle.dd_names.specs.Names.{is_name}
use Rattle.sql_grammar.specs.Grammar.{many}
use Rattle.sql_types.specs.declared.choices.IndexClass.{IndexClass}
use Rattle.sql_types.specs.declared.choices.IndexClass.TheVariants as classes
use Rattle.sql_types.specs.declared.choices.FkRule.{FkRule}
use Rattle.sql_types.specs.declared.choices.FkRule.TheVariants as rules
use Rattle.sql_types.specs.declared.words.ObjRef.{ObjRef}
use Rattle.sql_types.specs.declared.words.FkWords.{FkWords}
use Rattle.dd_definitions.specs.declared.indexes.IndexDef.{IndexDef}
use Rattle.dd_definitions.specs.declared.foreign_keys.ForeignKeyDef.{ForeignKeyDef}
use Rattle.sql_ast.specs.declared.element.Element.{Element}
use Rattle.sql_ast.specs.declared.element.Element.TheVariants.{ForeignKey}
use Rattle.sql_ast.specs.GrammarParts.{maybe, index_or_key}
use Rattle.sql_ast.specs.GrammarKeys.{Rule, on_delete, on_update, what_is_done, rule, with_rules, key_of, foreign_key_of, primary_key, unique_key, plain_key, foreign_key, with_constraint, constraint_key, key, element}
use Rattle.sql_pieces.specs.Pieces.{Piece, as_name, blank}
use Rattle.sql_text.specs.Parts.{word, names_pieces, are_names, is_object}
use Rattle.sql_text.proofs.Spells.{Spells, both, behind, by, by_is, left, right, there, present, absent, a_word, word_then, no_more, just_one, one_more}
use Rattle.sql_text.proofs.SpelledParts.{name_spelled, names_spelled, cols_spelled, object_spelled}
use Rattle.show_text_laws.specs.Said.{name_said, index_element, parent_said, foreign_key_element}
use Rattle.show_text_laws.specs.Pieces.{class_pieces, index_pieces, rule_pieces, reference_pieces, foreign_key_pieces}
use Rattle.show_text_laws.proofs.SaidColumns.{blank_then}

-- ---- keys

key_word : Spells index_or_key (word "KEY" ∷ []) tt
unfolding index_or_key
key_word = right (a_word refl)

key_word_there : Spells (maybe index_or_key) (blank ∷ word "KEY" ∷ []) tt
key_word_there = by (λ (x : Bool). tt) (there (blank_then key_word))

primary_spelled : (cs : List (List ℕ)) → are_names cs ≡ true → Spells key (class_pieces classes.Primary [] ++ names_pieces cs) (key_of classes.Primary None cs)
unfolding key constraint_key primary_key
primary_spelled cs h = right (left (left (by (key_of classes.Primary None) (word_then refl (blank_then (word_then refl (blank_then (cols_spelled cs h))))))))

unique_spelled : (n : List ℕ) (cs : List (List ℕ)) → is_name n ≡ true → are_names cs ≡ true → Spells key (class_pieces classes.Unique n ++ names_pieces cs) (key_of classes.Unique (Some n) cs)
unfolding key constraint_key unique_key
unique_spelled n cs h k =
    right (left (right (left (by (λ (p : Option (List ℕ) × List (List ℕ)). key_of classes.Unique p.0 p.1)
    (word_then refl (behind key_word_there (blank_then (both (present (name_spelled n h)) (blank_then (cols_spelled cs k))))))))))

plain_spelled : (n : List ℕ) (cs : List (List ℕ)) → is_name n ≡ true → are_names cs ≡ true → Spells key (class_pieces classes.Plain n ++ names_pieces cs) (key_of classes.Plain (Some n) cs)
unfolding key plain_key
plain_spelled n cs h k =
    right (right (by (λ (p : Option (List ℕ) × List (List ℕ)). key_of classes.Plain p.0 p.1) (behind key_word (blank_then (both (present (name_spelled n h)) (blank_then (cols_spelled cs k)))))))

key_spelled : (class : IndexClass) (n : List ℕ) (cs : List (List ℕ)) → is_name n ≡ true → are_names cs ≡ true → Spells key (class_pieces class n ++ names_pieces cs) (key_of class (name_said class n) cs)
key_spelled classes.Primary n cs h k = primary_spelled cs k
key_spelled classes.Unique n cs h k = unique_spelled n cs h k
key_spelled classes.Plain n cs h k = plain_spelled n cs h k

pub index_element_spelled : (i : IndexDef) → is_name i.name ≡ true → are_names i.columns ≡ true → Spells element (index_pieces i) (index_element i)
unfolding element
index_element_spelled i h k = right (key_spelled i.class i.name i.columns h k)

-- ---- rules of a foreign key

said_of : (FkRule → Rule) → FkRule → List Rule
said_of event rules.NoAction = []
said_of event rules.Restrict = event rules.Restrict ∷ []
said_of event rules.Cascade = event rules.Cascade ∷ []
said_of event rules.SetNull = event rules.SetNull ∷ []

restrict : Spells what_is_done (word "RESTRICT" ∷ []) rules.Restrict
unfolding what_is_done
restrict = left (by (λ x. rules.Restrict) (a_word refl))

cascade : Spells what_is_done (word "CASCADE" ∷ []) rules.Cascade
unfolding what_is_done
cascade = right (left (by (λ x. rules.Cascade) (a_word refl)))

set_null : Spells what_is_done (word "SET" ∷ blank ∷ word "NULL" ∷ []) rules.SetNull
unfolding what_is_done
set_null = right (right (left (by (λ x. rules.SetNull) (word_then refl (blank_then (a_word refl))))))

delete_one : (r : FkRule) (ps : List Piece) → Spells what_is_done ps r → Spells rule (blank ∷ word "ON" ∷ blank ∷ word "DELETE" ∷ blank ∷ ps) (on_delete r)
unfolding rule
delete_one r ps p = blank_then (word_then refl (blank_then (left (by on_delete (word_then refl (blank_then p))))))

update_one : (r : FkRule) (ps : List Piece) → Spells what_is_done ps r → Spells rule (blank ∷ word "ON" ∷ blank ∷ word "UPDATE" ∷ blank ∷ ps) (on_update r)
unfolding rule
update_one r ps p = blank_then (word_then refl (blank_then (right (by on_update (word_then refl (blank_then p))))))

update_spelled : (r : FkRule) → Spells (many rule) (rule_pieces (word "UPDATE") r) (said_of on_update r)
unfolding said_of
update_spelled rules.NoAction = no_more
update_spelled rules.Restrict = just_one (update_one rules.Restrict (word "RESTRICT" ∷ []) restrict)
update_spelled rules.Cascade = just_one (update_one rules.Cascade (word "CASCADE" ∷ []) cascade)
update_spelled rules.SetNull = just_one (update_one rules.SetNull (word "SET" ∷ blank ∷ word "NULL" ∷ []) set_null)

rules_spelled : (d : FkRule) (ps : List Piece) (more : List Rule) → Spells (many rule) ps more → Spells (many rule) (rule_pieces (word "DELETE") d ++ ps) (said_of on_delete d ++ more)
unfolding said_of
rules_spelled rules.NoAction ps more p = p
rules_spelled rules.Restrict ps more p = one_more (delete_one rules.Restrict (word "RESTRICT" ∷ []) restrict) p
rules_spelled rules.Cascade ps more p = one_more (delete_one rules.Cascade (word "CASCADE" ∷ []) cascade) p
rules_spelled rules.SetNull ps more p = one_more (delete_one rules.SetNull (word "SET" ∷ blank ∷ word "NULL" ∷ []) set_null) p

-- ---- foreign keys

abbrev with_both : List (List ℕ) → ObjRef → List (List ℕ) → FkRule → FkRule → FkWords
with_both columns parent parent_columns d u =
    record { constraint = None; name = None; columns = columns; parent = parent; parent_columns = parent_columns; on_delete = d; on_update = u }

update_kept : (columns : List (List ℕ)) (parent : ObjRef) (parent_columns : List (List ℕ)) (d u : FkRule)
    → with_both columns parent parent_columns d u ≡ with_rules (with_both columns parent parent_columns d rules.NoAction) (said_of on_update u)
unfolding said_of
update_kept columns parent parent_columns d rules.NoAction = refl
update_kept columns parent parent_columns d rules.Restrict = refl
update_kept columns parent parent_columns d rules.Cascade = refl
update_kept columns parent parent_columns d rules.SetNull = refl

rules_kept : (columns : List (List ℕ)) (parent : ObjRef) (parent_columns : List (List ℕ)) (d u : FkRule)
    → with_both columns parent parent_columns d u ≡ with_rules (foreign_key_of None columns parent parent_columns) (said_of on_delete d ++ said_of on_update u)
unfolding said_of
rules_kept columns parent parent_columns rules.NoAction u = update_kept columns parent parent_columns rules.NoAction u
rules_kept columns parent parent_columns rules.Restrict u = update_kept columns parent parent_columns rules.Restrict u
rules_kept columns parent parent_columns rules.Cascade u = update_kept columns parent parent_columns rules.Cascade u
rules_kept columns parent parent_columns rules.SetNull u = update_kept columns parent parent_columns rules.SetNull u

again : (columns : List (List ℕ)) (parent : ObjRef) (parent_columns : List (List ℕ)) (d u : FkRule)
    → ForeignKey (with_both columns parent parent_columns d u) ≡ ForeignKey (with_rules (foreign_key_of None columns parent parent_columns) (said_of on_delete d ++ said_of on_update u))
again columns parent parent_columns d u = ap ForeignKey (rules_kept columns parent parent_columns d u)

reference_spelled : (schema : List ℕ) (key : ForeignKeyDef) → are_names key.columns ≡ true → is_object (parent_said schema key.parent) ≡ true → are_names key.parent_columns ≡ true
    → Spells constraint_key (word "FOREIGN" ∷ blank ∷ word "KEY" ∷ blank ∷ reference_pieces schema key)
    (ForeignKey (with_both key.columns (parent_said schema key.parent) key.parent_columns key.on_delete key.on_update))
unfolding constraint_key foreign_key
reference_spelled schema key h k m =
    right (right (by_is (λ (p : Option (List ℕ) × (List (List ℕ) × (ObjRef × (List (List ℕ) × List Rule)))). ForeignKey (with_rules (foreign_key_of p.0 p.1.0 p.1.1.0 p.1.1.1.0) p.1.1.1.1))
    (again key.columns (parent_said schema key.parent) key.parent_columns key.on_delete key.on_update)
    (word_then refl (blank_then (word_then refl (blank_then (both absent (both (names_spelled key.columns h) (blank_then (word_then refl (blank_then
    (both (object_spelled (parent_said schema key.parent) k) (blank_then (both (names_spelled key.parent_columns m) (rules_spelled key.on_delete _ _ (update_spelled key.on_update))))))))))))))))

named_spelled : (n : List ℕ) (e : Element) (ps : List Piece) → is_name n ≡ true → Spells constraint_key ps e → Spells key (word "CONSTRAINT" ∷ blank ∷ as_name n ∷ blank ∷ ps) (with_constraint (Some n) e)
unfolding key
named_spelled n e ps h p =
    left (by (λ (x : Option (List ℕ) × Element). with_constraint x.0 x.1) (both (word_then refl (blank_then (present (name_spelled n h)))) (blank_then p)))

pub foreign_key_element_spelled : (schema : List ℕ) (key : ForeignKeyDef) → is_name key.name ≡ true → are_names key.columns ≡ true → is_object (parent_said schema key.parent) ≡ true → are_names key.parent_columns ≡ true
    → Spells element (foreign_key_pieces schema key) (foreign_key_element schema key)
unfolding element
foreign_key_element_spelled schema key n h k m =
    right (named_spelled key.name (ForeignKey (with_both key.columns (parent_said schema key.parent) key.parent_columns key.on_delete key.on_update))
    (word "FOREIGN" ∷ blank ∷ word "KEY" ∷ blank ∷ reference_pieces schema key) n (reference_spelled schema key h k m))
