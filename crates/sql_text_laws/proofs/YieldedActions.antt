-- What actions, queries and statements are read from a text.
use Rattle.std.proofs.Common.{◌≡◌, ℕ, Bool, true, false, ◌&&◌, List, Option, Some, None, refl}
use Rattle.dd_names.specs.Names.{is_name}
use Rattle.sql_grammar.proofs.Bits.{and_true}
use Rattle.sql_types.specs.declared.literal.Literal.{Literal}
use Rattle.sql_types.specs.declared.words.ObjRef.{ObjRef}
use Rattle.sql_ast.specs.declared.element.Element.{Element}
use Rattle.sql_ast.specs.declared.element.Element.TheVariants.{Column, Key, ForeignKey}
use Rattle.sql_ast.specs.GrammarActions.{place, adds, added_columns, add_action, drop_action, modify_action, change_action, name_to_name, rename_action, default_action, alter_action, action}
use Rattle.sql_ast.specs.GrammarViews.{another_name, Tail, all_of, column_of, no_more, tail, item_of, item, source, select}
use Rattle.sql_ast.specs.Grammar.{create_db, like_object, body, table_of, create_table, create_index, create_view, create, drop_db, drop_table, drop_index, drop_view, drop, in_named_schema, show, use_schema, rename, truncate, alter, table, set, statement}
use Rattle.sql_text.specs.Parts.{are_names, is_object, if_some, some_each}
use Rattle.sql_text.specs.Columns.{is_literal, is_column}
use Rattle.sql_text.specs.Keys.{is_element}
use Rattle.sql_text.specs.Actions.{is_place, is_action}
use Rattle.sql_text.specs.Views.{is_item, is_source, is_select}
use Rattle.sql_text.specs.Canonical.{is_pair, is_body, is_spellable}
use Rattle.sql_ast_laws.proofs.Yields.{Yields, any, both, by, or, then_by, before_by, maybe_some, inside, listed_by, a_name_by, both_are}
use Rattle.sql_text_laws.proofs.YieldedParts.{number_by, object_by, names_by, cols_by, literal_by, named_by, key_by, element_by}

-- ---- actions

place_by : Yields place (if_some is_place)
unfolding place
place_by = maybe_some (or (by any (λ x h. refl)) (by (then_by a_name_by) (λ n h. h)))

adds_is : (e : Element) → is_element e ≡ true → is_action (adds e) ≡ true
adds_is (Column c) h = both_are (is_column c) true h refl
adds_is (Key k) h = h
adds_is (ForeignKey f) h = h

added_by : Yields added_columns is_action
unfolding added_columns
added_by = or (by (both named_by place_by) (λ p h. h)) (by (inside (listed_by named_by)) (λ cs h. h))

add_by : Yields add_action is_action
unfolding add_action
add_by = then_by (or (then_by added_by) (or added_by (by key_by (λ e h. adds_is e h))))

drop_by : Yields drop_action is_action
unfolding drop_action
drop_by = then_by (or (by (then_by a_name_by) (λ n h. h)) (or (by a_name_by (λ n h. h)) (or (by (then_by a_name_by) (λ n h. h)) (or (by any (λ x h. refl)) (by (then_by (then_by a_name_by)) (λ n h. h))))))

modify_by : Yields modify_action is_action
unfolding modify_action
modify_by = by (then_by (then_by (both named_by place_by))) (λ p h. h)

three : (a b c : Bool) → (a && (b && c)) ≡ true → (a && b && c) ≡ true
three true b c h = h
three false b c h = absurd cc

change_by : Yields change_action is_action
unfolding change_action
change_by = by (then_by (then_by (both a_name_by (both named_by place_by)))) (λ p h. three (is_name p.0) (is_column p.1.0) (if_some is_place p.1.1) h)

to_name_by : Yields name_to_name (λ p. is_name p.0 && is_name p.1)
unfolding name_to_name
to_name_by = both a_name_by (then_by a_name_by)

rename_by : Yields rename_action is_action
unfolding rename_action
rename_by = then_by (or (by (then_by to_name_by) (λ p h. h)) (or (by (then_by to_name_by) (λ p h. h)) (by (then_by object_by) (λ o h. h))))

default_is : (n : List ℕ) (o : Option Literal) → is_name n ≡ true → if_some is_literal o ≡ true → is_action (default_action n o) ≡ true
default_is n None h k = h
default_is n (Some l) h k = both_are (is_name n) (is_literal l) h k

alter_by : Yields alter_action is_action
unfolding alter_action
alter_by = by {test = λ (p : List ℕ × Option Literal). is_name p.0 && if_some is_literal p.1} (then_by (then_by (both a_name_by (or (by (then_by (then_by literal_by)) (λ l h. h)) (by any (λ x h. refl))))))
    (λ p h. let k = and_true (is_name p.0) (if_some is_literal p.1) h in default_is p.0 p.1 k.0 k.1)

action_by : Yields action is_action
unfolding action
action_by = or add_by (or drop_by (or modify_by (or change_by (or rename_by (or alter_by (or (by any (λ x h. refl)) (by any (λ x h. refl))))))))

-- ---- queries

another_by : Yields another_name (if_some is_name)
unfolding another_name
another_by = maybe_some (or (then_by a_name_by) a_name_by)

is_tail : Tail → Bool
is_tail all_of = true
is_tail (column_of column output) = is_name column && if_some is_name output
is_tail (no_more output) = if_some is_name output

tail_by : Yields tail is_tail
unfolding tail is_tail
tail_by = or (then_by (or (by any (λ x h. refl)) (by (both a_name_by another_by) (λ p h. h)))) (by another_by (λ o h. h))

item_is : (first : List ℕ) (t : Tail) → is_name first ≡ true → is_tail t ≡ true → is_item (item_of first t) ≡ true
unfolding is_tail
item_is first all_of h k = h
item_is first (column_of column output) h k =
    let m = and_true (is_name column) (if_some is_name output) k in
    both_are (is_name first && is_name column) (if_some is_name output) (both_are (is_name first) (is_name column) h m.0) m.1
item_is first (no_more output) h k = both_are (is_name first) (if_some is_name output) h k

item_by : Yields item is_item
unfolding item
item_by = or (by any (λ x h. refl)) (by (both a_name_by tail_by) (λ p h. let k = and_true (is_name p.0) (is_tail p.1) h in item_is p.0 p.1 k.0 k.1))

source_by : Yields source is_source
unfolding source
source_by = by (both object_by another_by) (λ p h. h)

select_by : Yields select is_select
unfolding select
select_by = by (then_by (both (listed_by item_by) (then_by (listed_by source_by)))) (λ p h. h)

-- ---- CREATE

database_by : Yields create_db is_spellable
unfolding create_db
database_by = by (then_by (both any (before_by a_name_by))) (λ p h. h)

like_by : Yields like_object is_body
unfolding like_object
like_by = by (then_by object_by) (λ o h. h)

body_by : Yields body is_body
unfolding body
body_by = or like_by (then_by (or (before_by like_by) (by (before_by (before_by (listed_by element_by))) (λ es h. h))))

table_by : Yields create_table is_spellable
unfolding create_table
table_by = by (then_by (both any (both object_by body_by))) (λ p h. h)

index_by : Yields create_index is_spellable
unfolding create_index
index_by = by (both any (both a_name_by (then_by (both object_by cols_by)))) (λ p h. three (is_name p.1.0) (is_object p.1.1.0) (are_names p.1.1.1) h)

view_by : Yields create_view is_spellable
unfolding create_view
view_by = by (then_by (then_by (both object_by (both (maybe_some names_by) (then_by select_by))))) (λ p h. three (is_object p.0) (if_some are_names p.1.0) (is_select p.1.1) h)

create_by : Yields create is_spellable
unfolding create
create_by = then_by (or database_by (or table_by (or index_by view_by)))

-- ---- DROP

dropped_by : Yields drop is_spellable
unfolding drop drop_db drop_table drop_index drop_view
dropped_by = then_by (or (by (then_by (both any a_name_by)) (λ p h. h)) (or (by (then_by (both any (before_by (listed_by object_by)))) (λ p h. h))
    (or (by (then_by (both a_name_by (then_by object_by))) (λ p h. h)) (by (then_by (both any (listed_by object_by))) (λ p h. h)))))

-- ---- SHOW

in_schema_is : (o : ObjRef) (s : Option (List ℕ)) → is_object o ≡ true → if_some is_name s ≡ true → is_object (in_named_schema o s) ≡ true
in_schema_is o None h k = h
in_schema_is o (Some s) h k = both_are (is_name s) (is_name o.name) k (and_true (if_some is_name o.schema) (is_name o.name) h).1

show_by : Yields show is_spellable
unfolding show
show_by = then_by (or (by any (λ x h. refl)) (or (by (then_by (maybe_some (then_by a_name_by))) (λ o h. h))
    (or (by (then_by (then_by (both object_by (maybe_some (then_by a_name_by))))) (λ p h. let k = and_true (is_object p.0) (if_some is_name p.1) h in in_schema_is p.0 p.1 k.0 k.1))
    (then_by (or (by (then_by a_name_by) (λ n h. h)) (or (by (then_by object_by) (λ o h. h)) (by (then_by object_by) (λ o h. h))))))))

-- ---- all of them

rename_tables_by : Yields rename is_spellable
unfolding rename
rename_tables_by = by (then_by (then_by (listed_by {test = is_pair} (by (both object_by (then_by object_by)) (λ p h. h))))) (λ ps h. h)

pub statement_by : Yields statement is_spellable
unfolding statement use_schema truncate alter table set
statement_by = or create_by (or dropped_by (or show_by (or (by (then_by a_name_by) (λ n h. h)) (or rename_tables_by (or (by (then_by (then_by object_by)) (λ o h. h))
    (or (by (then_by (then_by (both object_by (listed_by action_by)))) (λ p h. h)) (or (by (then_by (then_by (then_by a_name_by))) (λ n h. h)) (by (then_by (then_by (then_by (then_by number_by)))) (λ n h. h)))))))))
