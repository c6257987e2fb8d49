-- What columns, keys and foreign keys are read from a text.
use Rattle.std.proofs.Common.{◌≡◌, ℕ, ◌^◌, Bool, true, false, cond, not, ◌&&◌, ◌||◌, List, [], ◌∷◌, ◌++◌, length, nat_lt, Option, Some, None, refl, sym, subst, arith}
use Rattle.std.specs.Prelude.{◌==◌}
use Rattle.std.specs.List.{list_all}
use Rattle.std.specs.Char.{is_ascii_digit}
use Rattle.std.proofs.lemmas.Bool.{lt-ltb, ne_eqb}
use Rattle.std.proofs.lemmas.Bool.Decides.{nat_tests}
use Rattle.dd_names.specs.Names.{is_name}
use Rattle.sql_grammar.specs.Lexemes.{value_from}
use Rattle.sql_grammar.proofs.Bits.{and_true}
use Rattle.sql_types.specs.Numbers.{is_number_text}
use Rattle.sql_types.specs.declared.choices.IntSize.{IntSize}
use Rattle.sql_types.specs.declared.choices.IntSize.TheVariants.{Tiny, Small, Medium, Normal, Big}
use Rattle.sql_types.specs.declared.choices.IndexClass.{IndexClass}
use Rattle.sql_types.specs.declared.choices.IndexClass.TheVariants.{Primary, Unique, Plain}
use Rattle.sql_types.specs.declared.words.ObjRef.{ObjRef}
use Rattle.sql_types.specs.declared.words.TypeWords.{TypeWords}
use Rattle.sql_types.specs.declared.words.TypeWords.TheVariants as kind
use Rattle.sql_types.specs.declared.words.ColumnWords.{ColumnWords}
use Rattle.sql_types.specs.declared.words.KeyWords.{KeyWords}
use Rattle.sql_types.specs.declared.words.FkWords.{FkWords}
use Rattle.sql_ast.specs.declared.element.Element.{Element}
use Rattle.sql_ast.specs.declared.element.Element.TheVariants.{Column, Key, ForeignKey}
use Rattle.sql_ast.specs.GrammarParts.{a_number, number_of, in_schema, object, names, cols}
use Rattle.sql_ast.specs.GrammarColumns.{sign_written, literal, int_type, or_one, a_type, Attribute, null_is, default_is, is_auto, is_unique, is_primary, says_nothing, attribute, with_attribute, with_attributes, plain_column, named_column}
use Rattle.sql_ast.specs.GrammarKeys.{Rule, on_delete, on_update, with_rule, with_rules, foreign_key_of, primary_key, unique_key, plain_key, foreign_key, key_with_constraint, with_constraint, constraint_key, key, element}
use Rattle.sql_text.specs.Parts.{is_number, are_names, is_object, if_some}
use Rattle.sql_text.specs.Columns.{is_literal, is_type, is_column}
use Rattle.sql_text.specs.Keys.{is_key_of, is_key, is_foreign_key, is_element}
use Rattle.sql_ast_laws.proofs.Yields.{Yields, any, gives_one, both, by, or, then_by, before_by, maybe_some, inside, each_of, listed_by, a_name_by, are_digits, digits_by, is_sign_text, mark_by, both_are}

-- ---- names, objects, numbers

pub number_by : Yields a_number is_number
number_by = by digits_by (λ ds h. lt-ltb (number_of ds) (2 ^ 128) (omega arith))

in_schema_is : (first : List ℕ) (second : Option (List ℕ)) → is_name first ≡ true → if_some is_name second ≡ true → is_object (in_schema first second) ≡ true
in_schema_is first None h k = h
in_schema_is first (Some second) h k = both_are (is_name first) (is_name second) h k

pub object_by : Yields object is_object
unfolding object
object_by = by (both a_name_by (maybe_some (then_by a_name_by))) (λ p h. let k = and_true (is_name p.0) (if_some is_name p.1) h in in_schema_is p.0 p.1 k.0 k.1)

pub names_by : Yields names are_names
unfolding names
names_by = inside (listed_by a_name_by)

pub cols_by : Yields cols are_names
unfolding cols
cols_by = before_by (inside (listed_by (before_by a_name_by)))

-- ---- literals

no_sign : (d : ℕ) → is_ascii_digit d ≡ true → (d == 43 || d == 45) ≡ false
no_sign d h = grind (arith, nat_tests)

some_not_zero : (ds : List ℕ) → nat_lt 0 (length ds) ≡ true → not (length ds == 0) ≡ true
some_not_zero [] h = absurd cc
some_not_zero (d ∷ ds) h = let e : (length (d ∷ ds) == 0) ≡ false = ne_eqb (length (d ∷ ds)) 0 (λ e. omega (arith, e)) in rw e refl

abbrev HasDigits : List ℕ → Type 0
HasDigits ds = (not (length ds == 0) && list_all is_ascii_digit ds) ≡ true

has_digits : (ds : List ℕ) → are_digits ds ≡ true → HasDigits ds
has_digits ds h =
    let k = and_true (nat_lt 0 (length ds)) (list_all is_ascii_digit ds) h in
    both_are (not (length ds == 0)) (list_all is_ascii_digit ds) (some_not_zero ds k.0) k.1

unsigned_text : (ds : List ℕ) → are_digits ds ≡ true → is_number_text ds ≡ true
unsigned_text [] h = absurd cc
unsigned_text (d ∷ ds) h =
    let k = and_true (nat_lt 0 (length (d ∷ ds))) (list_all is_ascii_digit (d ∷ ds)) h in
    let m = and_true (is_ascii_digit d) (list_all is_ascii_digit ds) k.1 in
    subst (λ (b : Bool). HasDigits (cond b ds (d ∷ ds))) (sym (no_sign d m.0)) (has_digits (d ∷ ds) h)

signed_text : (s ds : List ℕ) → is_sign_text s ≡ true → are_digits ds ≡ true → is_number_text (s ++ ds) ≡ true
signed_text [] ds h k = unsigned_text ds k
signed_text (c ∷ []) ds h k = subst (λ (b : Bool). HasDigits (cond b ds (c ∷ ds))) (sym h) (has_digits ds k)
signed_text (c ∷ d ∷ s) ds h k = absurd cc

sign_by : Yields sign_written is_sign_text
sign_by = or (mark_by refl) (or (mark_by refl) (gives_one refl))

pub literal_by : Yields literal is_literal
unfolding literal
literal_by = or (by any (λ x h. refl)) (or (by any (λ x h. refl)) (by (both sign_by digits_by) (λ p h. let k = and_true (is_sign_text p.0) (are_digits p.1) h in signed_text p.0 p.1 k.0 k.1)))

-- ---- types

bool_or_int : (b : Bool) → is_type (cond b kind.Bool (kind.Int Tiny false)) ≡ true
bool_or_int true = refl
bool_or_int false = refl

int_is : (s : IntSize) (o : Option (List ℕ)) (u : Bool) → is_type (int_type s o u) ≡ true
int_is Tiny None u = refl
int_is Tiny (Some ds) true = refl
int_is Tiny (Some ds) false = bool_or_int (value_from 0 ds == 1)
int_is Small o u = refl
int_is Medium o u = refl
int_is Normal o u = refl
int_is Big o u = refl

one_or : (o : Option ℕ) → if_some is_number o ≡ true → is_number (or_one o) ≡ true
one_or None h = refl
one_or (Some n) h = h

type_by : Yields a_type is_type
unfolding a_type
type_by = or (by any (λ p h. int_is p.0 p.1.0 p.1.1)) (or (by any (λ x h. refl)) (or (by (then_by (maybe_some (inside number_by))) (λ o h. one_or o h))
    (or (by (then_by (inside number_by)) (λ n h. h)) (or (by any (λ x h. refl)) (by any (λ x h. refl))))))

-- ---- columns

is_attribute : Attribute → Bool
is_attribute (default_is l) = is_literal l
is_attribute _ = true

attribute_by : Yields attribute is_attribute
unfolding attribute is_attribute
attribute_by = or (by any (λ x h. refl)) (or (by any (λ x h. refl)) (or (by (then_by literal_by) (λ l h. h)) (or (by any (λ x h. refl)) (or (by any (λ x h. refl)) (or (by any (λ x h. refl)) (or (by any (λ x h. refl)) (by any (λ x h. refl))))))))

with_one : (c : ColumnWords) (a : Attribute) → is_column c ≡ true → is_attribute a ≡ true → is_column (with_attribute c a) ≡ true
unfolding is_attribute
with_one c (null_is b) h k = h
with_one c (default_is l) h k = let m = and_true (is_name c.name && is_type c.kind) (if_some is_literal c.default) h in both_are (is_name c.name && is_type c.kind) (is_literal l) m.0 k
with_one c is_auto h k = h
with_one c is_unique h k = h
with_one c is_primary h k = h
with_one c says_nothing h k = h

with_all : (c : ColumnWords) (attributes : List Attribute) → is_column c ≡ true → list_all is_attribute attributes ≡ true → is_column (with_attributes c attributes) ≡ true
with_all c [] h k = h
with_all c (a ∷ more) h k =
    let m = and_true (is_attribute a) (list_all is_attribute more) k in
    with_all (with_attribute c a) more (with_one c a h m.0) m.1

column_made : (n : List ℕ) (t : TypeWords) (attributes : List Attribute) → (is_name n && (is_type t && list_all is_attribute attributes)) ≡ true → is_column (with_attributes (plain_column n t) attributes) ≡ true
column_made n t attributes h =
    let k = and_true (is_name n) (is_type t && list_all is_attribute attributes) h in
    let m = and_true (is_type t) (list_all is_attribute attributes) k.1 in
    with_all (plain_column n t) attributes (both_are (is_name n && is_type t) true (both_are (is_name n) (is_type t) k.0 m.0) refl) m.1

pub named_by : Yields named_column is_column
unfolding named_column
named_by = by (both a_name_by (both type_by (each_of attribute_by))) (λ p h. column_made p.0 p.1.0 p.1.1 h)

-- ---- keys

abbrev named_class : IndexClass → Bool
named_class Plain = false
named_class _ = true

-- what CONSTRAINT may stand before
abbrev may_be_named : Element → Bool
may_be_named (Column c) = false
may_be_named (Key k) = named_class k.class && is_key k
may_be_named (ForeignKey f) = is_foreign_key f

primary_by : Yields primary_key may_be_named
unfolding primary_key
primary_by = by (then_by (then_by cols_by)) (λ cs h. h)

unique_by : Yields unique_key may_be_named
unfolding unique_key
unique_by = by (then_by (then_by (both (maybe_some a_name_by) cols_by))) (λ p h. h)

plain_by : Yields plain_key is_element
unfolding plain_key
plain_by = by (then_by (both (maybe_some a_name_by) cols_by)) (λ p h. h)

rules_kept : (f : FkWords) (rs : List Rule) → is_foreign_key f ≡ true → is_foreign_key (with_rules f rs) ≡ true
rules_kept f [] h = h
rules_kept f (on_delete r ∷ rs) h = rules_kept (with_rule f (on_delete r)) rs h
rules_kept f (on_update r ∷ rs) h = rules_kept (with_rule f (on_update r)) rs h

reference_made : (name : Option (List ℕ)) (columns : List (List ℕ)) (parent : ObjRef) (parent_columns : List (List ℕ)) (rs : List Rule)
    → (if_some is_name name && (are_names columns && (is_object parent && (are_names parent_columns && true)))) ≡ true
    → may_be_named (ForeignKey (with_rules (foreign_key_of name columns parent parent_columns) rs)) ≡ true
reference_made n cs p ps rs h =
    let a = and_true (if_some is_name n) (are_names cs && (is_object p && (are_names ps && true))) h in
    let b = and_true (are_names cs) (is_object p && (are_names ps && true)) a.1 in
    let c = and_true (is_object p) (are_names ps && true) b.1 in
    let d = and_true (are_names ps) true c.1 in
    rules_kept (foreign_key_of n cs p ps) rs (rw (a.0, b.0, c.0, d.0) refl)

foreign_by : Yields foreign_key may_be_named
unfolding foreign_key
foreign_by = by (then_by (then_by (both (maybe_some a_name_by) (both names_by (then_by (both object_by (both names_by any))))))) (λ p h. reference_made p.0 p.1.0 p.1.1.0 p.1.1.1.0 p.1.1.1.1 h)

constraint_by : Yields constraint_key may_be_named
unfolding constraint_key
constraint_by = or primary_by (or unique_by foreign_by)

unnamed : (e : Element) → may_be_named e ≡ true → is_element e ≡ true
unnamed (Column c) h = absurd cc
unnamed (Key k) h = (and_true (named_class k.class) (is_key k) h).1
unnamed (ForeignKey f) h = h

named_made : (class : IndexClass) (k : KeyWords) (c : Option (List ℕ)) → class ≡ k.class → if_some is_name c ≡ true → (named_class class && is_key k) ≡ true → is_element (key_with_constraint class k c) ≡ true
named_made Primary k c e h m = m
named_made Plain k c e h m = absurd cc
named_made Unique k c e h m =
    let parts = and_true (is_key_of k.class k.constraint k.name) (are_names k.columns) m in
    let unique = subst (λ (x : IndexClass). is_key_of x k.constraint k.name ≡ true) (sym e) parts.0 in
    let named = and_true (if_some is_name k.constraint) (if_some is_name k.name) unique in
    both_are (is_key_of k.class c k.name) (are_names k.columns) (subst (λ (x : IndexClass). is_key_of x c k.name ≡ true) e (both_are (if_some is_name c) (if_some is_name k.name) h named.1)) parts.1

named : (c : Option (List ℕ)) (e : Element) → if_some is_name c ≡ true → may_be_named e ≡ true → is_element (with_constraint c e) ≡ true
named c (Column column) h k = absurd cc
named c (Key key) h k = named_made key.class key c refl h k
named c (ForeignKey f) h k =
    let a = and_true (if_some is_name f.constraint && if_some is_name f.name && are_names f.columns && is_object f.parent) (are_names f.parent_columns) k in
    let b = and_true (if_some is_name f.constraint && if_some is_name f.name && are_names f.columns) (is_object f.parent) a.0 in
    let d = and_true (if_some is_name f.constraint && if_some is_name f.name) (are_names f.columns) b.0 in
    let e = and_true (if_some is_name f.constraint) (if_some is_name f.name) d.0 in
    rw (h, e.1, d.1, b.1, a.1) refl

unnamed_by : Yields constraint_key is_element
unnamed_by = record { each = λ before after v h s. unnamed v (constraint_by.each before after v h s) }

pub key_by : Yields key is_element
unfolding key
key_by = or (by (both (then_by (maybe_some a_name_by)) constraint_by) (λ p h. let k = and_true (if_some is_name p.0) (may_be_named p.1) h in named p.0 p.1 k.0 k.1)) (or unnamed_by plain_by)

pub element_by : Yields element is_element
unfolding element
element_by = or (by named_by (λ c h. h)) key_by
