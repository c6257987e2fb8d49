-- Each statement is spelled as the grammar reads it.
use Rattle.std.proofs.Common.{◌≡◌, ℕ, Bool, true, false, ◌&&◌, List, [], ◌∷◌, ◌++◌, Option, Some, None, refl, subst}
use Rattle.dd_names.specs.Names.{is_name}
use Rattle.sql_grammar.specs.Grammar.{means, alt}
use Rattle.sql_grammar.specs.Rules.{◌⊳◌, gives, opt}
use Rattle.sql_grammar.proofs.Bits.{and_true}
use Rattle.sql_types.specs.declared.words.ObjRef.{ObjRef}
use Rattle.sql_ast.specs.declared.element.Element.{Element}
use Rattle.sql_ast.specs.declared.view.Select.{Select}
use Rattle.sql_ast.specs.declared.action.AlterAction.{AlterAction}
use Rattle.sql_ast.specs.declared.schema.SchemaStatement.{SchemaStatement}
use Rattle.sql_ast.specs.declared.schema.SchemaStatement.TheVariants as schemas
use Rattle.sql_ast.specs.declared.session.SessionStatement.{SessionStatement}
use Rattle.sql_ast.specs.declared.session.SessionStatement.TheVariants as sessions
use Rattle.sql_ast.specs.declared.show.ShowStatement.{ShowStatement}
use Rattle.sql_ast.specs.declared.show.ShowStatement.TheVariants as shows
use Rattle.sql_ast.specs.declared.show.ShownCreation.{ShownCreation}
use Rattle.sql_ast.specs.declared.show.ShownCreation.TheVariants as creations
use Rattle.sql_ast.specs.declared.table.CreateTable.{CreateTable}
use Rattle.sql_ast.specs.declared.table.IndexStatement.{IndexStatement}
use Rattle.sql_ast.specs.declared.table.IndexStatement.TheVariants as indexes
use Rattle.sql_ast.specs.declared.table.RenamePair.{RenamePair}
use Rattle.sql_ast.specs.declared.table.TableBody.{TableBody}
use Rattle.sql_ast.specs.declared.table.TableBody.TheVariants as bodies
use Rattle.sql_ast.specs.declared.table.TableStatement.{TableStatement}
use Rattle.sql_ast.specs.declared.table.TableStatement.TheVariants as tables
use Rattle.sql_ast.specs.declared.view.ViewStatement.{ViewStatement}
use Rattle.sql_ast.specs.declared.view.ViewStatement.TheVariants as views
use Rattle.sql_ast.specs.declared.statement.Statement.{Statement}
use Rattle.sql_ast.specs.declared.statement.Statement.TheVariants as is
use Rattle.sql_ast.specs.GrammarParts.{the, ◌&◌, object, names}
use Rattle.sql_ast.specs.Grammar.{create_db, like_object, body, table_of, create_table, create_index, create_view, create, drop_db, drop_table, drop_index, drop_view, drop, in_named_schema, show, use_schema, pair_of, rename, truncate, alter, table, set, statement}
use Rattle.sql_pieces.specs.Pieces.{Piece, as_name}
use Rattle.sql_text.specs.Parts.{word, where_some, where_true, names_pieces, object_pieces, is_number, are_names, is_object, if_some, some_each}
use Rattle.sql_text.specs.Keys.{is_element}
use Rattle.sql_text.specs.Actions.{is_action}
use Rattle.sql_text.specs.Views.{is_select}
use Rattle.sql_text.specs.Canonical.{elements_pieces, body_pieces, pair_pieces, canonical, is_pair, is_body, schema_is_spellable, table_is_spellable, index_is_spellable, view_is_spellable, show_is_spellable, creation_is_spellable, session_is_spellable, is_spellable}
use Rattle.sql_text.proofs.Spells.{Spells, SpellsNoKey, weaken, both, both_absent, both_no_key, any_then, behind, by, by_no_key, before_none, left, right, right_no_key, left_no_key, present, absent, left_out, a_word, word_then, a_sign, sign_then, no_more, each_divided, divided_no_key, sign_no_key}
use Rattle.sql_text.proofs.SpelledParts.{name_spelled, number_spelled, names_spelled, cols_spelled, object_spelled, if_not_exists_spelled, if_exists_spelled, db_spelled, from_spelled}
use Rattle.sql_text.proofs.SpelledKeys.{element_spelled}
use Rattle.sql_text.proofs.SpelledActions.{action_spelled, word_weak}
use Rattle.sql_text.proofs.SpelledViews.{select_spelled, view_words_spelled}

-- ---- CREATE

database_created : (b : Bool) (n : List ℕ) → is_name n ≡ true → Spells statement (canonical (is.Schema (schemas.Create b n))) (is.Schema (schemas.Create b n))
unfolding statement create create_db
database_created b n h =
    left (word_then refl (left (by (λ (p : Bool × List ℕ). is.Schema (schemas.Create p.0 p.1)) (behind db_spelled (both (if_not_exists_spelled b) (before_none (name_spelled n h) no_more))))))

elements_spelled : (es : List Element) → some_each is_element es ≡ true → Spells body (elements_pieces es) (bodies.Elements es)
unfolding body
elements_spelled es h =
    right (sign_then refl (right (by bodies.Elements (before_none (by (λ (x : List Element × Unit {0}). x.0) (both_no_key (divided_no_key element_spelled es h) (a_sign refl) (λ after. sign_no_key 41 after))) no_more))))

like_spelled : (s : ObjRef) → is_object s ≡ true → Spells body (word "LIKE" ∷ object_pieces s) (bodies.Like s)
unfolding body like_object
like_spelled s h = left (by bodies.Like (word_then refl (object_spelled s h)))

body_spelled : (b : TableBody) → is_body b ≡ true → Spells body (body_pieces b) b
body_spelled (bodies.Like s) h = like_spelled s h
body_spelled (bodies.Elements es) h = elements_spelled es h

table_created : (w : CreateTable) → is_object w.table ≡ true → is_body w.body ≡ true → Spells statement (canonical (is.Table (tables.Create w))) (is.Table (tables.Create w))
unfolding statement create create_table
table_created w h k =
    left (word_then refl (right (left (by (λ (p : Bool × (ObjRef × TableBody)). table_of p.0 p.1.0 p.1.1)
    (word_then refl (both (if_not_exists_spelled w.if_not_exists) (both (object_spelled w.table h) (body_spelled w.body k))))))))

class_spelled : (u : Bool) → Spells (alt (gives true (the "UNIQUE" ⊳ the "INDEX")) (gives false (the "INDEX"))) (where_true (word "UNIQUE" ∷ []) u ++ word "INDEX" ∷ []) u
class_spelled true = left (by (λ x. true) (word_then refl (a_word refl)))
class_spelled false = right (by (λ x. false) (a_word refl))

index_respelled : (u : Bool) (n : List ℕ) (ps : List Piece) → (where_true (word "UNIQUE" ∷ []) u ++ word "INDEX" ∷ []) ++ (as_name n ∷ ps) ≡ where_true (word "UNIQUE" ∷ []) u ++ word "INDEX" ∷ as_name n ∷ ps
index_respelled true n ps = refl
index_respelled false n ps = refl

index_created : (u : Bool) (n : List ℕ) (t : ObjRef) (cs : List (List ℕ)) → is_name n ≡ true → is_object t ≡ true → are_names cs ≡ true → Spells statement (canonical (is.Table (tables.Index (indexes.Create u n t cs)))) (is.Table (tables.Index (indexes.Create u n t cs)))
unfolding statement create create_index
index_created u n t cs h k m =
    subst (λ (ps : List Piece). Spells statement (word "CREATE" ∷ ps) (is.Table (tables.Index (indexes.Create u n t cs)))) (index_respelled u n (word "ON" ∷ (object_pieces t ++ names_pieces cs)))
    (left (word_then refl (right (right (left (by (λ (p : Bool × (List ℕ × (ObjRef × List (List ℕ)))). is.Table (tables.Index (indexes.Create p.0 p.1.0 p.1.1.0 p.1.1.1)))
    (both (class_spelled u) (both (name_spelled n h) (word_then refl (both (object_spelled t k) (cols_spelled cs m)))))))))))

view_columns : (o : Option (List (List ℕ))) → if_some are_names o ≡ true → Spells (opt names) (where_some names_pieces o) o
view_columns None h = absent
view_columns (Some ns) h = present (names_spelled ns h)

view_created : (v : ObjRef) (o : Option (List (List ℕ))) (q : Select) → is_object v ≡ true → if_some are_names o ≡ true → is_select q ≡ true → Spells statement (canonical (is.View (views.Create v o q))) (is.View (views.Create v o q))
unfolding statement create create_view
view_created v o q h k m =
    left (word_then refl (right (right (right (by (λ (p : ObjRef × (Option (List (List ℕ)) × Select)). is.View (views.Create p.0 p.1.0 p.1.1))
    (behind view_words_spelled (word_then refl (both (object_spelled v h) (both (view_columns o k) (word_then refl (select_spelled q m)))))))))))

-- ---- DROP

database_dropped : (b : Bool) (n : List ℕ) → is_name n ≡ true → Spells statement (canonical (is.Schema (schemas.Drop b n))) (is.Schema (schemas.Drop b n))
unfolding statement drop drop_db
database_dropped b n h = right (left (word_then refl (left (by (λ (p : Bool × List ℕ). is.Schema (schemas.Drop p.0 p.1)) (behind db_spelled (both (if_exists_spelled b) (name_spelled n h)))))))

table_dropped : (b : Bool) (ts : List ObjRef) → some_each is_object ts ≡ true → Spells statement (canonical (is.Table (tables.Drop b ts))) (is.Table (tables.Drop b ts))
unfolding statement drop drop_table
table_dropped b ts h =
    right (left (word_then refl (right (left (by (λ (p : Bool × List ObjRef). is.Table (tables.Drop p.0 p.1)) (word_then refl (both (if_exists_spelled b) (before_none (each_divided object_spelled ts h) left_out))))))))

index_dropped : (n : List ℕ) (t : ObjRef) → is_name n ≡ true → is_object t ≡ true → Spells statement (canonical (is.Table (tables.Index (indexes.Drop n t)))) (is.Table (tables.Index (indexes.Drop n t)))
unfolding statement drop drop_index
index_dropped n t h k = right (left (word_then refl (right (right (left (by (λ (p : List ℕ × ObjRef). is.Table (tables.Index (indexes.Drop p.0 p.1))) (word_then refl (both (name_spelled n h) (word_then refl (object_spelled t k))))))))))

view_dropped : (b : Bool) (vs : List ObjRef) → some_each is_object vs ≡ true → Spells statement (canonical (is.View (views.Drop b vs))) (is.View (views.Drop b vs))
unfolding statement drop drop_view
view_dropped b vs h = right (left (word_then refl (right (right (right (by (λ (p : Bool × List ObjRef). is.View (views.Drop p.0 p.1)) (word_then refl (both (if_exists_spelled b) (each_divided object_spelled vs h)))))))))

-- ---- SHOW

databases_shown : Spells statement (canonical (is.Show shows.Databases)) (is.Show shows.Databases)
unfolding statement show
databases_shown = right (right (left (word_then refl (left (by (λ x. is.Show shows.Databases) (left (a_word refl)))))))

tables_shown : (o : Option (List ℕ)) → if_some is_name o ≡ true → Spells statement (canonical (is.Show (shows.Tables o))) (is.Show (shows.Tables o))
unfolding statement show
tables_shown None h = right (right (left (word_then refl (right (left (by (λ (s : Option (List ℕ)). is.Show (shows.Tables s)) (word_then refl absent)))))))
tables_shown (Some n) h = right (right (left (word_then refl (right (left (by (λ (s : Option (List ℕ)). is.Show (shows.Tables s)) (word_then refl (present (behind from_spelled (name_spelled n h))))))))))

columns_shown : (o : ObjRef) → is_object o ≡ true → Spells statement (canonical (is.Show (shows.Columns o))) (is.Show (shows.Columns o))
unfolding statement show
columns_shown o h =
    right (right (left (word_then refl (right (right (left (by (λ (p : ObjRef × Option (List ℕ)). is.Show (shows.Columns (in_named_schema p.0 p.1)))
    (behind (left (a_word refl)) (behind from_spelled (both_absent (object_spelled o h)))))))))))

create_database_shown : (n : List ℕ) → is_name n ≡ true → Spells statement (canonical (is.Show (shows.Creation (creations.Database n)))) (is.Show (shows.Creation (creations.Database n)))
unfolding statement show
create_database_shown n h = right (right (left (word_then refl (right (right (right (word_then refl (left (by (λ (n : List ℕ). is.Show (shows.Creation (creations.Database n))) (behind db_spelled (name_spelled n h)))))))))))

create_table_shown : (o : ObjRef) → is_object o ≡ true → Spells statement (canonical (is.Show (shows.Creation (creations.Table o)))) (is.Show (shows.Creation (creations.Table o)))
unfolding statement show
create_table_shown o h = right (right (left (word_then refl (right (right (right (word_then refl (right (left (by (λ (o : ObjRef). is.Show (shows.Creation (creations.Table o))) (word_then refl (object_spelled o h))))))))))))

create_view_shown : (o : ObjRef) → is_object o ≡ true → Spells statement (canonical (is.Show (shows.Creation (creations.View o)))) (is.Show (shows.Creation (creations.View o)))
unfolding statement show
create_view_shown o h = right (right (left (word_then refl (right (right (right (word_then refl (right (right (by (λ (o : ObjRef). is.Show (shows.Creation (creations.View o))) (word_then refl (object_spelled o h))))))))))))

-- ---- the others

schema_used : (n : List ℕ) → is_name n ≡ true → Spells statement (canonical (is.Session (sessions.Use n))) (is.Session (sessions.Use n))
unfolding statement use_schema
schema_used n h = right (right (right (left (by (λ (n : List ℕ). is.Session (sessions.Use n)) (word_then refl (name_spelled n h))))))

pair_spelled : (p : RenamePair) → is_pair p ≡ true → Spells (means (λ (x : ObjRef × ObjRef). pair_of x.0 x.1) (object & (the "TO" ⊳ object))) (pair_pieces p) p
pair_spelled p h =
    let k = and_true (is_object p.from) (is_object p.to) h in
    by (λ (x : ObjRef × ObjRef). pair_of x.0 x.1) (both (object_spelled p.from k.0) (word_then refl (object_spelled p.to k.1)))

renamed : (ps : List RenamePair) → some_each is_pair ps ≡ true → Spells statement (canonical (is.Table (tables.Rename ps))) (is.Table (tables.Rename ps))
unfolding statement rename
renamed ps h = right (right (right (right (left (by (λ (pairs : List RenamePair). is.Table (tables.Rename pairs)) (word_then refl (word_then refl (each_divided pair_spelled ps h))))))))

truncated : (t : ObjRef) → is_object t ≡ true → Spells statement (canonical (is.Table (tables.Truncate t))) (is.Table (tables.Truncate t))
unfolding statement truncate
truncated t h = right (right (right (right (right (left (by (λ (o : ObjRef). is.Table (tables.Truncate o)) (word_then refl (behind left_out (object_spelled t h)))))))))

altered : (t : ObjRef) (actions : List AlterAction) → is_object t ≡ true → some_each is_action actions ≡ true → SpellsNoKey statement (canonical (is.Table (tables.Alter t actions))) (is.Table (tables.Alter t actions))
unfolding statement alter
altered t actions h k =
    right_no_key (right_no_key (right_no_key (right_no_key (right_no_key (right_no_key (left_no_key (by_no_key (λ (p : ObjRef × List AlterAction). is.Table (tables.Alter p.0 p.1))
    (word_weak refl (word_weak refl (any_then (object_spelled t h) (divided_no_key action_spelled actions k)))))))))))

table_asked : (n : List ℕ) → is_name n ≡ true → Spells statement (canonical (is.Show (shows.Information n))) (is.Show (shows.Information n))
unfolding statement table
table_asked n h = right (right (right (right (right (right (right (left (by (λ (n : List ℕ). is.Show (shows.Information n)) (word_then refl (word_then refl (sign_then refl (name_spelled n h))))))))))))

tries_set : (v : ℕ) → is_number v ≡ true → Spells statement (canonical (is.Session (sessions.SetTries v))) (is.Session (sessions.SetTries v))
unfolding statement set
tries_set v h = right (right (right (right (right (right (right (right (by (λ (n : ℕ). is.Session (sessions.SetTries n)) (word_then refl (behind left_out (word_then refl (sign_then refl (number_spelled v h)))))))))))))

-- ---- each family

schema_spelled : (s : SchemaStatement) → schema_is_spellable s ≡ true → Spells statement (canonical (is.Schema s)) (is.Schema s)
schema_spelled (schemas.Create b n) h = database_created b n h
schema_spelled (schemas.Drop b n) h = database_dropped b n h

index_statement_spelled : (s : IndexStatement) → index_is_spellable s ≡ true → Spells statement (canonical (is.Table (tables.Index s))) (is.Table (tables.Index s))
index_statement_spelled (indexes.Create u n t cs) h =
    let k = and_true (is_name n && is_object t) (are_names cs) h in
    let m = and_true (is_name n) (is_object t) k.0 in
    index_created u n t cs m.0 m.1 k.1
index_statement_spelled (indexes.Drop n t) h = let k = and_true (is_name n) (is_object t) h in index_dropped n t k.0 k.1

table_spelled : (s : TableStatement) → table_is_spellable s ≡ true → SpellsNoKey statement (canonical (is.Table s)) (is.Table s)
table_spelled (tables.Create w) h = let k = and_true (is_object w.table) (is_body w.body) h in weaken (table_created w k.0 k.1)
table_spelled (tables.Drop b ts) h = weaken (table_dropped b ts h)
table_spelled (tables.Rename ps) h = weaken (renamed ps h)
table_spelled (tables.Truncate t) h = weaken (truncated t h)
table_spelled (tables.Alter t actions) h = let k = and_true (is_object t) (some_each is_action actions) h in altered t actions k.0 k.1
table_spelled (tables.Index s) h = weaken (index_statement_spelled s h)

view_spelled : (s : ViewStatement) → view_is_spellable s ≡ true → Spells statement (canonical (is.View s)) (is.View s)
view_spelled (views.Create v o q) h =
    let k = and_true (is_object v && if_some are_names o) (is_select q) h in
    let m = and_true (is_object v) (if_some are_names o) k.0 in
    view_created v o q m.0 m.1 k.1
view_spelled (views.Drop b vs) h = view_dropped b vs h

creation_spelled : (c : ShownCreation) → creation_is_spellable c ≡ true → Spells statement (canonical (is.Show (shows.Creation c))) (is.Show (shows.Creation c))
creation_spelled (creations.Database n) h = create_database_shown n h
creation_spelled (creations.Table o) h = create_table_shown o h
creation_spelled (creations.View o) h = create_view_shown o h

show_spelled : (s : ShowStatement) → show_is_spellable s ≡ true → Spells statement (canonical (is.Show s)) (is.Show s)
show_spelled shows.Databases h = databases_shown
show_spelled (shows.Tables o) h = tables_shown o h
show_spelled (shows.Columns o) h = columns_shown o h
show_spelled (shows.Creation c) h = creation_spelled c h
show_spelled (shows.Information n) h = table_asked n h

session_spelled : (s : SessionStatement) → session_is_spellable s ≡ true → Spells statement (canonical (is.Session s)) (is.Session s)
session_spelled (sessions.Use n) h = schema_used n h
session_spelled (sessions.SetTries v) h = tries_set v h

pub statement_spelled : (s : Statement) → is_spellable s ≡ true → SpellsNoKey statement (canonical s) s
statement_spelled (is.Schema s) h = weaken (schema_spelled s h)
statement_spelled (is.Table s) h = table_spelled s h
statement_spelled (is.View s) h = weaken (view_spelled s h)
statement_spelled (is.Show s) h = weaken (show_spelled s h)
statement_spelled (is.Session s) h = weaken (session_spelled s h)
statement_spelled (is.Bad e) h = absurd cc
