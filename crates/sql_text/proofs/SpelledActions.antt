-- The actions of ALTER TABLE are spelled as the grammar reads them.
use Rattle.std.proofs.Common.{◌≡◌, ℕ, true, ◌&&◌, List, [], ◌∷◌, ◌++◌, Option, Some, None, refl}
use Rattle.dd_names.specs.Names.{is_name}
use Rattle.sql_grammar.specs.Lexemes.{Lexeme, takes}
use Rattle.sql_grammar.specs.Grammar.{Grammar}
use Rattle.sql_grammar.specs.Rules.{word_of, ◌⊳◌, listed, in_parentheses}
use Rattle.sql_grammar.proofs.Bits.{and_true}
use Rattle.sql_types.specs.declared.literal.Literal.{Literal}
use Rattle.sql_types.specs.declared.words.ObjRef.{ObjRef}
use Rattle.sql_types.specs.declared.words.ColumnWords.{ColumnWords}
use Rattle.sql_types.specs.declared.words.KeyWords.{KeyWords}
use Rattle.sql_types.specs.declared.words.FkWords.{FkWords}
use Rattle.sql_ast.specs.declared.action.Place.{Place}
use Rattle.sql_ast.specs.declared.action.Place.TheVariants.{First, After}
use Rattle.sql_ast.specs.declared.action.AlterAction.{AlterAction}
use Rattle.sql_ast.specs.declared.action.AlterAction.TheVariants as does
use Rattle.sql_ast.specs.GrammarParts.{◌&◌, engine_option, equals}
use Rattle.sql_ast.specs.GrammarColumns.{named_column}
use Rattle.sql_ast.specs.GrammarActions.{place, maybe_column, adds, added_columns, add_action, drop_action, modify_action, change_action, name_to_name, rename_action, default_action, alter_action, action}
use Rattle.sql_pieces.specs.Pieces.{Piece, as_word, as_name, tokens}
use Rattle.sql_text.specs.Parts.{word, where_some, divided, opens, closes, is_object, if_some, some_each}
use Rattle.sql_text.specs.Columns.{column_pieces, is_literal, is_column}
use Rattle.sql_text.specs.Keys.{is_key, is_foreign_key}
use Rattle.sql_text.specs.Actions.{place_pieces, action_pieces, is_place, is_action}
use Rattle.sql_text.proofs.Spells.{Spells, SpellsNoKey, NoKey, weaken, both, both_no_key, both_weak, any_then, behind, by, by_no_key, left, right, left_no_key, right_no_key, present, absent, left_out, is_written, a_word, word_then, a_sign, sign_then, divided_no_key, sign_no_key}
use Rattle.sql_text.proofs.SpelledParts.{name_spelled, object_spelled, index_spelled}
use Rattle.sql_text.proofs.SpelledColumns.{literal_spelled, named_spelled}
use Rattle.sql_text.proofs.SpelledKeys.{key_spelled, foreign_key_spelled}

-- a word, and then what KEY may not follow
pub word_weak : {A : Type 0} {k w : List ℕ} {h : Grammar A} {qs : List Piece} {v : A} → is_written k w ≡ true → SpellsNoKey h qs v → SpellsNoKey (word_of k ⊳ h) (as_word w ∷ qs) v
word_weak {A} {k} {w} e p = by_no_key (λ (x : Unit {0} × A). x.1) (any_then (a_word {k = k} {w = w} e) p)

behind_weak : {A B : Type 0} {g : Grammar A} {h : Grammar B} {ps qs : List Piece} {v : A} {w : B} → Spells g ps v → SpellsNoKey h qs w → SpellsNoKey (g ⊳ h) (ps ++ qs) w
behind_weak {A} {B} p q = by_no_key (λ (x : A × B). x.1) (any_then p q)

-- ---- places

place_spelled : (o : Option Place) → if_some is_place o ≡ true → Spells place (where_some place_pieces o) o
unfolding place
place_spelled None h = absent
place_spelled (Some First) h = present (left (by (λ x. First) (a_word refl)))
place_spelled (Some (After n)) h = present (right (by After (word_then refl (name_spelled n h))))

place_no_key : (o : Option Place) (after : List Lexeme) → NoKey after → NoKey (tokens (where_some place_pieces o) ++ after)
unfolding takes
place_no_key None after h = h
place_no_key (Some First) after h = refl
place_no_key (Some (After n)) after h = refl

placed_spelled : (c : ColumnWords) (o : Option Place) → is_column c ≡ true → if_some is_place o ≡ true → SpellsNoKey (named_column & place) (column_pieces c ++ where_some place_pieces o) (c, o)
placed_spelled c o h k = both_weak (named_spelled c h) (weaken (place_spelled o k)) (place_no_key o)

-- ---- ADD

one_added : (c : ColumnWords) (o : Option Place) → is_column c ≡ true → if_some is_place o ≡ true → SpellsNoKey action (action_pieces (does.AddColumn c o)) (does.AddColumn c o)
unfolding action add_action added_columns
one_added c o h k = left_no_key (word_weak refl (right_no_key (left_no_key (left_no_key (by_no_key (λ (p : ColumnWords × Option Place). does.AddColumn p.0 p.1) (placed_spelled c o h k))))))

-- columns between parentheses
columns_enclosed : (cs : List ColumnWords) → some_each is_column cs ≡ true → Spells (in_parentheses (listed named_column)) (opens ∷ (divided column_pieces cs ++ closes ∷ [])) cs
columns_enclosed cs h = sign_then refl (by (λ (x : List ColumnWords × Unit {0}). x.0) (both_no_key (divided_no_key named_spelled cs h) (a_sign refl) (λ after. sign_no_key 41 after)))

several_added : (cs : List ColumnWords) → some_each is_column cs ≡ true → Spells action (action_pieces (does.AddColumns cs)) (does.AddColumns cs)
unfolding action add_action added_columns
several_added cs h = left (word_then refl (right (left (right (by does.AddColumns (columns_enclosed cs h))))))

key_added : (k : KeyWords) → is_key k ≡ true → Spells action (action_pieces (does.AddKey k)) (does.AddKey k)
unfolding action add_action
key_added k h = left (word_then refl (right (right (by adds (key_spelled k h)))))

foreign_key_added : (f : FkWords) → is_foreign_key f ≡ true → Spells action (action_pieces (does.AddForeignKey f)) (does.AddForeignKey f)
unfolding action add_action
foreign_key_added f h = left (word_then refl (right (right (by adds (foreign_key_spelled f h)))))

-- ---- DROP

column_dropped : (n : List ℕ) → is_name n ≡ true → Spells action (action_pieces (does.DropColumn n)) (does.DropColumn n)
unfolding action drop_action
column_dropped n h = right (left (word_then refl (right (left (by does.DropColumn (name_spelled n h))))))

index_dropped : (n : List ℕ) → is_name n ≡ true → Spells action (action_pieces (does.DropIndex n)) (does.DropIndex n)
unfolding action drop_action
index_dropped n h = right (left (word_then refl (right (right (left (by does.DropIndex (behind index_spelled (name_spelled n h))))))))

primary_dropped : Spells action (action_pieces does.DropPrimaryKey) does.DropPrimaryKey
unfolding action drop_action
primary_dropped = right (left (word_then refl (right (right (right (left (by (λ x. does.DropPrimaryKey) (word_then refl (a_word refl)))))))))

foreign_key_dropped : (n : List ℕ) → is_name n ≡ true → Spells action (action_pieces (does.DropForeignKey n)) (does.DropForeignKey n)
unfolding action drop_action
foreign_key_dropped n h = right (left (word_then refl (right (right (right (right (by does.DropForeignKey (word_then refl (word_then refl (name_spelled n h))))))))))

-- ---- MODIFY and CHANGE

modified : (c : ColumnWords) (o : Option Place) → is_column c ≡ true → if_some is_place o ≡ true → SpellsNoKey action (action_pieces (does.ModifyColumn c o)) (does.ModifyColumn c o)
unfolding action modify_action maybe_column
modified c o h k = right_no_key (right_no_key (left_no_key (by_no_key (λ (p : ColumnWords × Option Place). does.ModifyColumn p.0 p.1) (word_weak refl (behind_weak left_out (placed_spelled c o h k))))))

changed : (n : List ℕ) (c : ColumnWords) (o : Option Place) → is_name n ≡ true → is_column c ≡ true → if_some is_place o ≡ true → SpellsNoKey action (action_pieces (does.ChangeColumn n c o)) (does.ChangeColumn n c o)
unfolding action change_action maybe_column
changed n c o h k m =
    right_no_key (right_no_key (right_no_key (left_no_key (by_no_key (λ (p : List ℕ × (ColumnWords × Option Place)). does.ChangeColumn p.0 p.1.0 p.1.1)
    (word_weak refl (behind_weak left_out (any_then (name_spelled n h) (placed_spelled c o k m))))))))

-- ---- RENAME

to_name : (from to : List ℕ) → is_name from ≡ true → is_name to ≡ true → Spells name_to_name (as_name from ∷ word "TO" ∷ as_name to ∷ []) (from, to)
unfolding name_to_name
to_name from to h k = both (name_spelled from h) (word_then refl (name_spelled to k))

column_renamed : (from to : List ℕ) → is_name from ≡ true → is_name to ≡ true → Spells action (action_pieces (does.RenameColumn from to)) (does.RenameColumn from to)
unfolding action rename_action
column_renamed from to h k = right (right (right (right (left (word_then refl (left (by (λ (p : List ℕ × List ℕ). does.RenameColumn p.0 p.1) (word_then refl (to_name from to h k)))))))))

index_renamed : (from to : List ℕ) → is_name from ≡ true → is_name to ≡ true → Spells action (action_pieces (does.RenameIndex from to)) (does.RenameIndex from to)
unfolding action rename_action
index_renamed from to h k = right (right (right (right (left (word_then refl (right (left (by (λ (p : List ℕ × List ℕ). does.RenameIndex p.0 p.1) (behind index_spelled (to_name from to h k))))))))))

table_renamed : (to : ObjRef) → is_object to ≡ true → Spells action (action_pieces (does.RenameTable to)) (does.RenameTable to)
unfolding action rename_action
table_renamed to h = right (right (right (right (left (word_then refl (right (right (by does.RenameTable (behind left_out (object_spelled to h))))))))))

-- ---- ALTER

default_set : (n : List ℕ) (l : Literal) → is_name n ≡ true → is_literal l ≡ true → Spells action (action_pieces (does.SetDefault n l)) (does.SetDefault n l)
unfolding action alter_action maybe_column
default_set n l h k =
    right (right (right (right (right (left (by (λ (p : List ℕ × Option Literal). default_action p.0 p.1)
    (word_then refl (behind left_out (both (name_spelled n h) (left (by Some (word_then refl (word_then refl (literal_spelled l k))))))))))))))

default_dropped : (n : List ℕ) → is_name n ≡ true → Spells action (action_pieces (does.DropDefault n)) (does.DropDefault n)
unfolding action alter_action maybe_column
default_dropped n h =
    right (right (right (right (right (left (by (λ (p : List ℕ × Option Literal). default_action p.0 p.1)
    (word_then refl (behind left_out (both (name_spelled n h) (right (by (λ x. None) (word_then refl (a_word refl)))))))))))))

-- ---- the others

forced : Spells action (action_pieces does.Force) does.Force
unfolding action
forced = right (right (right (right (right (right (left (by (λ x. does.Force) (a_word refl))))))))

engine_said : Spells action (action_pieces does.Engine) does.Engine
unfolding action engine_option equals
engine_said = right (right (right (right (right (right (right (by (λ x. does.Engine) (word_then refl (behind left_out (a_word refl))))))))))

pub action_spelled : (a : AlterAction) → is_action a ≡ true → SpellsNoKey action (action_pieces a) a
action_spelled (does.AddColumn c o) h = let k = and_true (is_column c) (if_some is_place o) h in one_added c o k.0 k.1
action_spelled (does.AddColumns cs) h = weaken (several_added cs h)
action_spelled (does.AddKey k) h = weaken (key_added k h)
action_spelled (does.AddForeignKey f) h = weaken (foreign_key_added f h)
action_spelled (does.DropColumn n) h = weaken (column_dropped n h)
action_spelled (does.ModifyColumn c o) h = let k = and_true (is_column c) (if_some is_place o) h in modified c o k.0 k.1
action_spelled (does.ChangeColumn n c o) h =
    let k = and_true (is_name n && is_column c) (if_some is_place o) h in
    let m = and_true (is_name n) (is_column c) k.0 in
    changed n c o m.0 m.1 k.1
action_spelled (does.RenameColumn from to) h = let k = and_true (is_name from) (is_name to) h in weaken (column_renamed from to k.0 k.1)
action_spelled (does.SetDefault n l) h = let k = and_true (is_name n) (is_literal l) h in weaken (default_set n l k.0 k.1)
action_spelled (does.DropDefault n) h = weaken (default_dropped n h)
action_spelled (does.DropIndex n) h = weaken (index_dropped n h)
action_spelled does.DropPrimaryKey h = weaken primary_dropped
action_spelled (does.DropForeignKey n) h = weaken (foreign_key_dropped n h)
action_spelled (does.RenameIndex from to) h = let k = and_true (is_name from) (is_name to) h in weaken (index_renamed from to k.0 k.1)
action_spelled (does.RenameTable to) h = weaken (table_renamed to h)
action_spelled does.Force h = weaken forced
action_spelled does.Engine h = weaken engine_said
