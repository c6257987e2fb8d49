-- What a text reads as says names.
use Rattle.std.proofs.Common.{◌≡◌, ℕ, Bool, true, false, ◌&&◌, List, [], ◌∷◌, Option, Some, None, refl, ap, ◌∙◌}
use Rattle.std.specs.List.{list_all}
use Rattle.std.specs.Str.{IsUtf8}
use Rattle.dd_names.specs.Names.{is_name}
use Rattle.sql_grammar.proofs.Bits.{and_true}
use Rattle.sql_grammar.specs.Grammar.{Grammar}
use Rattle.sql_grammar.specs.Judging as judging
use Rattle.sql_grammar.specs.Judging.{Verdict, good, syntax_at, too_long}
use Rattle.sql_grammar.specs.Rules.{listed}
use Rattle.sql_lex.specs.Texts.{lexemes, reading_of}
use Rattle.sql_types.specs.declared.choices.IndexClass.{IndexClass}
use Rattle.sql_types.specs.declared.choices.IndexClass.TheVariants.{Primary, Unique, Plain}
use Rattle.sql_types.specs.declared.words.ColumnWords.{ColumnWords}
use Rattle.sql_types.specs.declared.words.FkWords.{FkWords}
use Rattle.sql_types.specs.declared.words.KeyWords.{KeyWords}
use Rattle.sql_types.specs.declared.words.ObjRef.{ObjRef}
use Rattle.sql_types.specs.declared.words.TypeWords.{TypeWords}
use Rattle.sql_ast.specs.declared.element.Element.{Element}
use Rattle.sql_ast.specs.declared.element.Element.TheVariants.{Column, Key, ForeignKey}
use Rattle.sql_ast.specs.declared.statement.Statement.{Statement}
use Rattle.sql_ast.specs.declared.table.TableBody.{TableBody}
use Rattle.sql_ast.specs.GrammarParts.{in_schema, object, names, cols}
use Rattle.sql_ast.specs.GrammarColumns.{Attribute, null_is, default_is, is_auto, is_unique, is_primary, says_nothing, with_attribute, with_attributes, plain_column, named_column}
use Rattle.sql_ast.specs.GrammarKeys.{Rule, on_delete, on_update, with_rule, with_rules, foreign_key_of, primary_key, unique_key, plain_key, foreign_key, key_with_constraint, with_constraint, constraint_key, key, element}
use Rattle.sql_ast.specs.Grammar.{create_db, like_object, body, create_table, create_index, create_view, create, drop_db, drop_table, drop_index, drop_view, drop, show, use_schema, rename, truncate, alter, table, set, statement}
use Rattle.sql_ast.specs.Names.{is_named, is_object_named, is_column_named, is_key_named, is_foreign_key_named, is_element_named, is_pair_named, body_says_names, says_names}
use Rattle.sql_ast.specs.Reads.{Reads, statement_read}
use Rattle.sql_ast_laws.proofs.FineTokens.{text_fine}
use Rattle.sql_ast_laws.proofs.Yields.{Yields, any, both, by, or, then_by, before_by, maybe_some, inside, each_of, listed_by, a_name_by, both_are, if_some, some_each}

-- ---- names and objects

each_one : {A : Type 0} (test : A → Bool) (xs : List A) → some_each test xs ≡ true → list_all test xs ≡ true
each_one test [] h = refl
each_one test (x ∷ xs) h = h

all_by : {A : Type 0} {g : Grammar A} {test : A → Bool} → Yields g test → Yields (listed g) (list_all test)
all_by {A} {g} {test} p = record { each = λ before after vs h s. each_one test vs ((listed_by p).each before after vs h s) }

named_if : (name : Option (List ℕ)) → if_some is_name name ≡ true → is_named name ≡ true
named_if None h = refl
named_if (Some name) h = h

in_schema_is : (first : List ℕ) (second : Option (List ℕ)) → is_name first ≡ true → if_some is_name second ≡ true → is_object_named (in_schema first second) ≡ true
in_schema_is first None h k = h
in_schema_is first (Some second) h k = both_are (is_name first) (is_name second) h k

object_by : Yields object is_object_named
unfolding object
object_by = by (both a_name_by (maybe_some (then_by a_name_by))) (λ p h. let k = and_true (is_name p.0) (if_some is_name p.1) h in in_schema_is p.0 p.1 k.0 k.1)

names_by : Yields names (list_all is_name)
unfolding names
names_by = inside (all_by a_name_by)

cols_by : Yields cols (list_all is_name)
unfolding cols
cols_by = before_by (inside (all_by (before_by a_name_by)))

-- ---- columns

with_one : (c : ColumnWords) (a : Attribute) → is_column_named c ≡ true → is_column_named (with_attribute c a) ≡ true
with_one c (null_is b) h = h
with_one c (default_is l) h = h
with_one c is_auto h = h
with_one c is_unique h = h
with_one c is_primary h = h
with_one c says_nothing h = h

with_all : (c : ColumnWords) (attributes : List Attribute) → is_column_named c ≡ true → is_column_named (with_attributes c attributes) ≡ true
with_all c [] h = h
with_all c (a ∷ more) h = with_all (with_attribute c a) more (with_one c a h)

column_by : Yields named_column is_column_named
unfolding named_column
column_by = by (both a_name_by any) (λ p h. with_all (plain_column p.0 p.1.0) p.1.1 (and_true (is_name p.0) true h).0)

-- ---- keys

abbrev is_key_element : Element → Bool
is_key_element (Column column) = false
is_key_element e = is_element_named e

primary_by : Yields primary_key is_key_element
unfolding primary_key
primary_by = by (then_by (then_by cols_by)) (λ cs h. h)

named_key : (name : Option (List ℕ)) (columns : List (List ℕ)) → (if_some is_name name && list_all is_name columns) ≡ true → (is_named name && list_all is_name columns) ≡ true
named_key None columns h = h
named_key (Some name) columns h = h

unique_by : Yields unique_key is_key_element
unfolding unique_key
unique_by = by (then_by (then_by (both (maybe_some a_name_by) cols_by))) (λ p h. named_key p.0 p.1 h)

plain_by : Yields plain_key is_key_element
unfolding plain_key
plain_by = by (then_by (both (maybe_some a_name_by) cols_by)) (λ p h. named_key p.0 p.1 h)

rules_kept : (f : FkWords) (rs : List Rule) → is_foreign_key_named f ≡ true → is_foreign_key_named (with_rules f rs) ≡ true
rules_kept f [] h = h
rules_kept f (on_delete r ∷ rs) h = rules_kept (with_rule f (on_delete r)) rs h
rules_kept f (on_update r ∷ rs) h = rules_kept (with_rule f (on_update r)) rs h

reference_made : (name : Option (List ℕ)) (columns : List (List ℕ)) (parent : ObjRef) (parent_columns : List (List ℕ)) (rs : List Rule)
    → (if_some is_name name && (list_all is_name columns && (is_object_named parent && (list_all is_name parent_columns && true)))) ≡ true
    → is_key_element (ForeignKey (with_rules (foreign_key_of name columns parent parent_columns) rs)) ≡ true
reference_made n cs p ps rs h =
    let a = and_true (if_some is_name n) (list_all is_name cs && (is_object_named p && (list_all is_name ps && true))) h in
    let b = and_true (list_all is_name cs) (is_object_named p && (list_all is_name ps && true)) a.1 in
    let c = and_true (is_object_named p) (list_all is_name ps && true) b.1 in
    let d = and_true (list_all is_name ps) true c.1 in
    let name : is_named n ≡ true = named_if n a.0 in
    rules_kept (foreign_key_of n cs p ps) rs (rw (name, b.0, c.0, d.0) refl)

foreign_by : Yields foreign_key is_key_element
unfolding foreign_key
foreign_by = by (then_by (then_by (both (maybe_some a_name_by) (both names_by (then_by (both object_by (both names_by any))))))) (λ p h. reference_made p.0 p.1.0 p.1.1.0 p.1.1.1.0 p.1.1.1.1 h)

constraint_by : Yields constraint_key is_key_element
unfolding constraint_key
constraint_by = or primary_by (or unique_by foreign_by)

unnamed : (e : Element) → is_key_element e ≡ true → is_element_named e ≡ true
unnamed (Column c) h = absurd cc
unnamed (Key k) h = h
unnamed (ForeignKey f) h = h

key_constraint : (c : Option (List ℕ)) (k : KeyWords) → is_named c ≡ true → is_key_named k ≡ true → is_key_named (record k { constraint = c }) ≡ true
key_constraint c k h m =
    let a = and_true (is_named k.constraint && is_named k.name) (list_all is_name k.columns) m in
    let b = and_true (is_named k.constraint) (is_named k.name) a.0 in
    rw (h, b.1, a.1) refl

named_made : (class : IndexClass) (k : KeyWords) (c : Option (List ℕ)) → is_named c ≡ true → is_key_named k ≡ true → is_element_named (key_with_constraint class k c) ≡ true
named_made Primary k c h m = m
named_made Unique k c h m = key_constraint c k h m
named_made Plain k c h m = key_constraint c k h m

named : (c : Option (List ℕ)) (e : Element) → is_named c ≡ true → is_key_element e ≡ true → is_element_named (with_constraint c e) ≡ true
named c (Column column) h k = absurd cc
named c (Key key) h k = named_made key.class key c h k
named c (ForeignKey f) h k =
    let a = and_true (is_named f.constraint && is_named f.name && list_all is_name f.columns && is_object_named f.parent) (list_all is_name f.parent_columns) k in
    let b = and_true (is_named f.constraint && is_named f.name && list_all is_name f.columns) (is_object_named f.parent) a.0 in
    let d = and_true (is_named f.constraint && is_named f.name) (list_all is_name f.columns) b.0 in
    let e = and_true (is_named f.constraint) (is_named f.name) d.0 in
    rw (h, e.1, d.1, b.1, a.1) refl

element_of : {g : Grammar Element} → Yields g is_key_element → Yields g is_element_named
element_of p = record { each = λ before after v h s. unnamed v (p.each before after v h s) }

key_by : Yields key is_element_named
unfolding key
key_by = or (by (both (then_by (maybe_some a_name_by)) constraint_by) (λ p h. let k = and_true (if_some is_name p.0) (is_key_element p.1) h in named p.0 p.1 (named_if p.0 k.0) k.1))
    (or (element_of constraint_by) (element_of plain_by))

element_by : Yields element is_element_named
unfolding element
element_by = or (by column_by (λ c h. h)) key_by

-- ---- statements

create_db_by : Yields create_db says_names
unfolding create_db
create_db_by = by (then_by (both any (before_by a_name_by))) (λ p h. h)

like_by : Yields like_object body_says_names
unfolding like_object
like_by = by (then_by object_by) (λ o h. h)

body_by : Yields body body_says_names
unfolding body
body_by = or like_by (then_by (or (before_by like_by) (by (before_by (before_by (all_by element_by))) (λ es h. h))))

create_table_by : Yields create_table says_names
unfolding create_table
create_table_by = by (then_by (both any (both object_by body_by))) (λ p h. h)

create_by : Yields create says_names
unfolding create create_index create_view
create_by = then_by (or create_db_by (or create_table_by (or (by any (λ p h. refl)) (by any (λ p h. refl)))))

drop_by : Yields drop says_names
unfolding drop drop_db drop_table drop_index drop_view
drop_by = then_by (or (by (then_by (both any a_name_by)) (λ p h. h)) (or (by any (λ p h. refl)) (or (by any (λ p h. refl)) (by any (λ p h. refl)))))

rename_by : Yields rename says_names
unfolding rename
rename_by = by {test = list_all is_pair_named} (then_by (then_by (all_by (by (both object_by (then_by object_by)) (λ p h. h))))) (λ pairs h. h)

show_by : Yields show says_names
unfolding show
show_by = then_by (or (by any (λ x h. refl)) (or (by any (λ s h. refl)) (or (by any (λ p h. refl)) (then_by (or (by any (λ n h. refl)) (or (by any (λ o h. refl)) (by any (λ o h. refl))))))))

statement_by : Yields statement says_names
unfolding statement use_schema truncate alter table set
statement_by = or create_by (or drop_by (or show_by (or (by (then_by a_name_by) (λ n h. h)) (or rename_by (or (by any (λ o h. refl)) (or (by any (λ p h. refl)) (or (by any (λ n h. refl)) (by any (λ n h. refl)))))))))

-- ---- what a text reads as

by_verdict : (text : List ℕ) → IsUtf8 text → (verdict : Verdict Statement) (s : Statement) → judging.Reads statement (lexemes text) verdict → s ≡ statement_read (reading_of text verdict) → says_names s ≡ true
by_verdict text u (good v) s r e = ap says_names e ∙ statement_by.each (lexemes text) [] v (text_fine text u r.short) r.says
by_verdict text u (syntax_at rest) s r e = ap says_names e
by_verdict text u (too_long l rest) s r e = ap says_names e

pub read_says_names : (text : List ℕ) (s : Statement) → IsUtf8 text → Reads text s → says_names s ≡ true
read_says_names text s u r = by_verdict text u r.1.0 s r.1.1 (r.2 ∙ ap statement_read r.1.2)
