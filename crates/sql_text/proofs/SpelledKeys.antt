-- Keys and foreign keys are spelled as the grammar reads them.
use Rattle.std.proofs.Common.{◌≡◌, ℕ, true, ◌&&◌, List, [], ◌∷◌, ◌++◌, Option, Some, None, refl, sym, ap, ◌∙◌}
use Rattle.dd_names.specs.Names.{is_name}
use Rattle.sql_grammar.specs.Grammar.{many}
use Rattle.sql_grammar.specs.Rules.{opt}
use Rattle.sql_grammar.proofs.Bits.{and_true}
use Rattle.sql_types.specs.declared.choices.IndexClass.{IndexClass}
use Rattle.sql_types.specs.declared.choices.IndexClass.TheVariants.{Primary, Unique, Plain}
use Rattle.sql_types.specs.declared.choices.FkRule.{FkRule}
use Rattle.sql_types.specs.declared.choices.FkRule.TheVariants.{NoAction, Restrict, Cascade, SetNull}
use Rattle.sql_types.specs.declared.words.ObjRef.{ObjRef}
use Rattle.sql_types.specs.declared.words.KeyWords.{KeyWords}
use Rattle.sql_types.specs.declared.words.FkWords.{FkWords}
use Rattle.sql_ast.specs.declared.element.Element.{Element}
use Rattle.sql_ast.specs.declared.element.Element.TheVariants.{Column, Key, ForeignKey}
use Rattle.sql_ast.specs.GrammarParts.{a_name}
use Rattle.sql_ast.specs.GrammarKeys.{Rule, on_delete, on_update, what_is_done, rule, with_rules, key_of, foreign_key_of, primary_key, unique_key, plain_key, foreign_key, with_constraint, constraint_key, key, element}
use Rattle.sql_pieces.specs.Pieces.{Piece, as_name}
use Rattle.sql_text.specs.Parts.{word, where_some, name_pieces, names_pieces, are_names, is_object, if_some}
use Rattle.sql_text.specs.Keys.{constraint_pieces, class_pieces, key_pieces, done_pieces, rule_pieces, reference_pieces, foreign_key_pieces, element_pieces, is_key_of, is_key, is_foreign_key, is_element}
use Rattle.sql_text.proofs.Spells.{Spells, SpellsNoKey, weaken, both, behind, by, by_is, by_no_key, left, right, left_no_key, present, absent, left_out, a_word, word_then, no_more, just_one, one_more}
use Rattle.sql_text.proofs.SpelledParts.{name_spelled, names_spelled, cols_spelled, object_spelled, index_spelled}
use Rattle.sql_text.proofs.SpelledColumns.{named_spelled}

-- ---- keys

key_name : (o : Option (List ℕ)) → if_some is_name o ≡ true → Spells (opt a_name) (where_some name_pieces o) o
key_name None h = absent
key_name (Some n) h = present (name_spelled n h)

primary_is : (cs : List (List ℕ)) → are_names cs ≡ true → Spells constraint_key (word "PRIMARY" ∷ word "KEY" ∷ names_pieces cs) (key_of Primary None cs)
unfolding constraint_key primary_key
primary_is cs h = left (by (key_of Primary None) (word_then refl (word_then refl (cols_spelled cs h))))

unique_is : (name : Option (List ℕ)) (cs : List (List ℕ)) → if_some is_name name ≡ true → are_names cs ≡ true → Spells constraint_key (word "UNIQUE" ∷ (where_some name_pieces name ++ names_pieces cs)) (key_of Unique name cs)
unfolding constraint_key unique_key
unique_is name cs h k =
    right (left (by (λ (p : Option (List ℕ) × List (List ℕ)). key_of Unique p.0 p.1) (word_then refl (behind left_out (both (key_name name h) (cols_spelled cs k))))))

plain_is : (name : Option (List ℕ)) (cs : List (List ℕ)) → if_some is_name name ≡ true → are_names cs ≡ true → Spells key (word "INDEX" ∷ (where_some name_pieces name ++ names_pieces cs)) (key_of Plain name cs)
unfolding key plain_key
plain_is name cs h k =
    right (right (by (λ (p : Option (List ℕ) × List (List ℕ)). key_of Plain p.0 p.1) (behind index_spelled (both (key_name name h) (cols_spelled cs k)))))

-- behind CONSTRAINT and a name
named_key : (n : List ℕ) (e : Element) (ps : List Piece) → is_name n ≡ true → Spells constraint_key ps e → Spells key (word "CONSTRAINT" ∷ as_name n ∷ ps) (with_constraint (Some n) e)
unfolding key
named_key n e ps h p =
    left (by (λ (p : Option (List ℕ) × Element). with_constraint p.0 p.1) (both (word_then refl (present (name_spelled n h))) p))

unnamed_key : (e : Element) (ps : List Piece) → Spells constraint_key ps e → Spells key ps e
unfolding key
unnamed_key e ps p = right (left p)

key_is : (class : IndexClass) (constraint name : Option (List ℕ)) (cs : List (List ℕ)) → is_key_of class constraint name ≡ true → are_names cs ≡ true
    → Spells key (constraint_pieces constraint ++ (class_pieces class ++ (where_some name_pieces name ++ names_pieces cs))) (Key (record { class = class; constraint = constraint; name = name; columns = cs }))
key_is Primary None None cs h k = unnamed_key (key_of Primary None cs) (word "PRIMARY" ∷ word "KEY" ∷ names_pieces cs) (primary_is cs k)
key_is Primary None (Some n) cs h k = absurd cc
key_is Primary (Some c) name cs h k = absurd cc
key_is Unique None name cs h k = unnamed_key (key_of Unique name cs) (word "UNIQUE" ∷ (where_some name_pieces name ++ names_pieces cs)) (unique_is name cs h k)
key_is Unique (Some c) name cs h k =
    let m = and_true (is_name c) (if_some is_name name) h in
    named_key c (key_of Unique name cs) (word "UNIQUE" ∷ (where_some name_pieces name ++ names_pieces cs)) m.0 (unique_is name cs m.1 k)
key_is Plain None name cs h k = plain_is name cs h k
key_is Plain (Some c) name cs h k = absurd cc

pub key_spelled : (k : KeyWords) → is_key k ≡ true → Spells key (key_pieces k) (Key k)
key_spelled k h =
    let m = and_true (is_key_of k.class k.constraint k.name) (are_names k.columns) h in
    key_is k.class k.constraint k.name k.columns m.0 m.1

-- ---- foreign keys

rules_said : (FkRule → Rule) → FkRule → List Rule
rules_said event NoAction = []
rules_said event Restrict = event Restrict ∷ []
rules_said event Cascade = event Cascade ∷ []
rules_said event SetNull = event SetNull ∷ []

done_spelled : (r : FkRule) → (r ≡ NoAction → ⊥) → Spells what_is_done (done_pieces r) r
unfolding what_is_done
done_spelled NoAction h = absurd (h refl)
done_spelled Restrict h = left (by (λ x. Restrict) (a_word refl))
done_spelled Cascade h = right (left (by (λ x. Cascade) (a_word refl)))
done_spelled SetNull h = right (right (left (by (λ x. SetNull) (word_then refl (a_word refl)))))

delete_one : (r : FkRule) → (r ≡ NoAction → ⊥) → Spells rule (word "ON" ∷ word "DELETE" ∷ done_pieces r) (on_delete r)
unfolding rule
delete_one r h = word_then refl (left (by on_delete (word_then refl (done_spelled r h))))

update_one : (r : FkRule) → (r ≡ NoAction → ⊥) → Spells rule (word "ON" ∷ word "UPDATE" ∷ done_pieces r) (on_update r)
unfolding rule
update_one r h = word_then refl (right (by on_update (word_then refl (done_spelled r h))))

update_spelled : (r : FkRule) → Spells (many rule) (rule_pieces (word "UPDATE") r) (rules_said on_update r)
unfolding rules_said
update_spelled NoAction = no_more
update_spelled Restrict = just_one (update_one Restrict (λ e. cc))
update_spelled Cascade = just_one (update_one Cascade (λ e. cc))
update_spelled SetNull = just_one (update_one SetNull (λ e. cc))

rules_spelled : (d u : FkRule) → Spells (many rule) (rule_pieces (word "DELETE") d ++ rule_pieces (word "UPDATE") u) (rules_said on_delete d ++ rules_said on_update u)
unfolding rules_said
rules_spelled NoAction u = update_spelled u
rules_spelled Restrict u = one_more (delete_one Restrict (λ e. cc)) (update_spelled u)
rules_spelled Cascade u = one_more (delete_one Cascade (λ e. cc)) (update_spelled u)
rules_spelled SetNull u = one_more (delete_one SetNull (λ e. cc)) (update_spelled u)

with_more : (f : FkWords) (xs ys : List Rule) → with_rules f (xs ++ ys) ≡ with_rules (with_rules f xs) ys
with_more f [] ys = refl
with_more f (on_delete r ∷ xs) ys = with_more (record f { on_delete = r }) xs ys
with_more f (on_update r ∷ xs) ys = with_more (record f { on_update = r }) xs ys

delete_kept : (f : FkWords) (d : FkRule) → f.on_delete ≡ NoAction → with_rules f (rules_said on_delete d) ≡ record f { on_delete = d }
unfolding rules_said
delete_kept f NoAction e = ap (λ (r : FkRule). record f { on_delete = r }) e
delete_kept f Restrict e = refl
delete_kept f Cascade e = refl
delete_kept f SetNull e = refl

update_kept : (f : FkWords) (u : FkRule) → f.on_update ≡ NoAction → with_rules f (rules_said on_update u) ≡ record f { on_update = u }
unfolding rules_said
update_kept f NoAction e = ap (λ (r : FkRule). record f { on_update = r }) e
update_kept f Restrict e = refl
update_kept f Cascade e = refl
update_kept f SetNull e = refl

-- but for the constraint it is the foreign key
reference_again : (f : FkWords) → record f { constraint = None } ≡ with_rules (foreign_key_of f.name f.columns f.parent f.parent_columns) (rules_said on_delete f.on_delete ++ rules_said on_update f.on_update)
reference_again f =
    let g : FkWords = foreign_key_of f.name f.columns f.parent f.parent_columns in
    sym (
    with_more g (rules_said on_delete f.on_delete) (rules_said on_update f.on_update)
    ∙ ap (λ (x : FkWords). with_rules x (rules_said on_update f.on_update)) (delete_kept g f.on_delete refl)
    ∙ update_kept (record g { on_delete = f.on_delete }) f.on_update refl
    )

reference_spelled : (f : FkWords) → is_foreign_key f ≡ true → Spells constraint_key (reference_pieces f) (ForeignKey (record f { constraint = None }))
unfolding constraint_key foreign_key
reference_spelled f h =
    let k = and_true (if_some is_name f.constraint && if_some is_name f.name && are_names f.columns && is_object f.parent) (are_names f.parent_columns) h in
    let m = and_true (if_some is_name f.constraint && if_some is_name f.name && are_names f.columns) (is_object f.parent) k.0 in
    let n = and_true (if_some is_name f.constraint && if_some is_name f.name) (are_names f.columns) m.0 in
    let o = and_true (if_some is_name f.constraint) (if_some is_name f.name) n.0 in
    right (right (by_is (λ (p : Option (List ℕ) × (List (List ℕ) × (ObjRef × (List (List ℕ) × List Rule)))). ForeignKey (with_rules (foreign_key_of p.0 p.1.0 p.1.1.0 p.1.1.1.0) p.1.1.1.1))
    (ap ForeignKey (reference_again f))
    (word_then refl (word_then refl (both (key_name f.name o.1) (both (names_spelled f.columns n.1) (word_then refl
    (both (object_spelled f.parent m.1) (both (names_spelled f.parent_columns k.1) (rules_spelled f.on_delete f.on_update))))))))))

constraint_said : (f : FkWords) (constraint : Option (List ℕ)) (ps : List Piece) → if_some is_name constraint ≡ true → Spells constraint_key ps (ForeignKey (record f { constraint = None }))
    → Spells key (constraint_pieces constraint ++ ps) (ForeignKey (record f { constraint = constraint }))
constraint_said f None ps h p = unnamed_key (ForeignKey (record f { constraint = None })) ps p
constraint_said f (Some n) ps h p = named_key n (ForeignKey (record f { constraint = None })) ps h p

pub foreign_key_spelled : (f : FkWords) → is_foreign_key f ≡ true → Spells key (foreign_key_pieces f) (ForeignKey f)
foreign_key_spelled f h =
    let k = and_true (if_some is_name f.constraint && if_some is_name f.name && are_names f.columns && is_object f.parent) (are_names f.parent_columns) h in
    let m = and_true (if_some is_name f.constraint && if_some is_name f.name && are_names f.columns) (is_object f.parent) k.0 in
    let n = and_true (if_some is_name f.constraint && if_some is_name f.name) (are_names f.columns) m.0 in
    let o = and_true (if_some is_name f.constraint) (if_some is_name f.name) n.0 in
    constraint_said f f.constraint (reference_pieces f) o.0 (reference_spelled f h)

-- ---- elements

pub element_spelled : (e : Element) → is_element e ≡ true → SpellsNoKey element (element_pieces e) e
unfolding element
element_spelled (Column c) h = left_no_key (by_no_key Column (named_spelled c h))
element_spelled (Key k) h = weaken (right (key_spelled k h))
element_spelled (ForeignKey f) h = weaken (right (foreign_key_spelled f h))
