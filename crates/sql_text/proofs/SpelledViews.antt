-- A view's query is spelled as the grammar reads it.
use Rattle.std.proofs.Common.{◌≡◌, ℕ, true, ◌&&◌, List, [], Option, Some, None, refl}
use Rattle.dd_names.specs.Names.{is_name}
use Rattle.sql_grammar.proofs.Bits.{and_true}
use Rattle.sql_types.specs.declared.words.ObjRef.{ObjRef}
use Rattle.sql_ast.specs.declared.view.Item.{Item}
use Rattle.sql_ast.specs.declared.view.Item.TheVariants.{All, AllOf, Column}
use Rattle.sql_ast.specs.declared.view.SelectSource.{SelectSource}
use Rattle.sql_ast.specs.declared.view.Select.{Select}
use Rattle.sql_ast.specs.GrammarViews.{another_name, Tail, all_of, column_of, no_more, tail, item_of, item, source_of, source, select_of, select, view_words}
use Rattle.sql_text.specs.Parts.{where_some, is_object, if_some, some_each}
use Rattle.sql_text.specs.Views.{alias_pieces, item_pieces, source_pieces, select_pieces, is_item, is_source, is_select}
use Rattle.sql_text.proofs.Spells.{Spells, both, behind, by, left, right, present, absent, left_out, word_then, a_sign, sign_then, each_divided}
use Rattle.sql_text.proofs.SpelledParts.{name_spelled, object_spelled}

alias_spelled : (o : Option (List ℕ)) → if_some is_name o ≡ true → Spells another_name (where_some alias_pieces o) o
unfolding another_name
alias_spelled None h = absent
alias_spelled (Some n) h = present (left (word_then refl (name_spelled n h)))

all_of_spelled : (n : List ℕ) → is_name n ≡ true → Spells item (item_pieces (AllOf n)) (AllOf n)
unfolding item tail
all_of_spelled n h = right (by (λ (p : List ℕ × Tail). item_of p.0 p.1) (both (name_spelled n h) (left (sign_then refl (left (by (λ x. all_of) (a_sign refl)))))))

column_spelled : (alias : Option (List ℕ)) (column : List ℕ) (output : Option (List ℕ)) → if_some is_name alias ≡ true → is_name column ≡ true → if_some is_name output ≡ true → Spells item (item_pieces (Column alias column output)) (Column alias column output)
unfolding item tail
column_spelled None column output h k m = right (by (λ (p : List ℕ × Tail). item_of p.0 p.1) (both (name_spelled column k) (right (by no_more (alias_spelled output m)))))
column_spelled (Some alias) column output h k m =
    right (by (λ (p : List ℕ × Tail). item_of p.0 p.1) (both (name_spelled alias h) (left (sign_then refl (right (by (λ (p : List ℕ × Option (List ℕ)). column_of p.0 p.1) (both (name_spelled column k) (alias_spelled output m))))))))

item_spelled : (i : Item) → is_item i ≡ true → Spells item (item_pieces i) i
unfolding item
item_spelled All h = left (by (λ x. All) (a_sign refl))
item_spelled (AllOf n) h = all_of_spelled n h
item_spelled (Column alias column output) h =
    let k = and_true (if_some is_name alias && is_name column) (if_some is_name output) h in
    let m = and_true (if_some is_name alias) (is_name column) k.0 in
    column_spelled alias column output m.0 m.1 k.1

source_spelled : (s : SelectSource) → is_source s ≡ true → Spells source (source_pieces s) s
unfolding source
source_spelled s h =
    let k = and_true (is_object s.object) (if_some is_name s.alias) h in
    by (λ (p : ObjRef × Option (List ℕ)). source_of p.0 p.1) (both (object_spelled s.object k.0) (alias_spelled s.alias k.1))

pub select_spelled : (q : Select) → is_select q ≡ true → Spells select (select_pieces q) q
unfolding select
select_spelled q h =
    let k = and_true (some_each is_item q.items) (some_each is_source q.sources) h in
    by (λ (p : List Item × List SelectSource). select_of p.0 p.1) (word_then refl (both (each_divided item_spelled q.items k.0) (word_then refl (each_divided source_spelled q.sources k.1))))

pub view_words_spelled : Spells view_words [] tt
unfolding view_words
view_words_spelled = behind left_out (behind left_out left_out)
