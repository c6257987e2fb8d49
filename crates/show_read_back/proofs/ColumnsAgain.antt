-- The columns of a table that fits together, made again from what its text says.
use Rattle.std.specs.Prelude.{◌≡◌, ℕ, ◌==◌, Bool, true, false, ◌&&◌, ◌||◌, not, nat_le, nat_lt, List, [], ◌∷◌, ◌++◌, map, length, Option, Some, None, unwrap_or, codes, refl}
use Rattle.std.specs.List.{list_all}
use Rattle.std.specs.Option.{is_none}
use Rattle.std.proofs.Common.{sym, ◌∙◌, ap, subst, arith}
use Rattle.std.proofs.lemmas.Bool.{and_parts, not-true, cond-false}
use Rattle.std.proofs.lemmas.Bool.Decides.{nat_tests}
use Rattle.std.proofs.lemmas.List.{append-nil, append_assoc}
use Rattle.dd_errors.specs.Errors.{ErrorValue}
use Rattle.sql_types.specs.declared.choices.ColumnType.{ColumnType}
use Rattle.sql_types.specs.declared.choices.ColumnType.TheVariants as types
use Rattle.sql_types.specs.declared.words.ColumnWords.{ColumnWords}
use Rattle.dd_definitions.specs.Columns.{is_same_column, is_short_type, is_typed}
use Rattle.dd_definitions.specs.Defaults.{is_fitting_default}
use Rattle.dd_definitions.specs.Distinct.{are_distinct}
use Rattle.dd_definitions.specs.Indexes.{is_integer, leads_index, is_auto_formed}
use Rattle.dd_definitions.specs.declared.columns.ColumnDef.{ColumnDef}
use Rattle.dd_definitions.specs.declared.indexes.IndexDef.{IndexDef}
use Rattle.dd_catalog.specs.Walks.{Walk, done, refuse, over}
use Rattle.rules_elements.specs.Columns.{column_type, kept_unless, kept_default, defined_column, column_of}
use Rattle.rules_refusals.specs.Refusals.{too_big_fieldlength, wrong_field_spec, dup_fieldname}
use Rattle.rules_refusals.specs.Refusals as refusals
use Rattle.rules_create.specs.Tables.{has_column, one_column, all_columns}
use Rattle.show_text_laws.specs.Said.{type_said, null_said, default_said, column_said}
use Rattle.show_read_back.proofs.Lists.{apart_before}
use Rattle.show_read_back.proofs.Numbers.{kept_again}
use Rattle.show_read_back.proofs.Steps.{goes, passes}

-- ## One column

pub not_over : (most n : ℕ) → nat_le n most ≡ true → nat_lt most n ≡ false
not_over most n is = grind (arith, nat_tests)

pub not_none : (n : ℕ) → nat_le 1 n ≡ true → (n == 0) ≡ false
not_none n is = grind (arith, nat_tests)

type_again : (name : List ℕ) (kind : ColumnType) → is_short_type kind ≡ true → column_type name (type_said kind) ≡ done kind
unfolding column_type is_short_type
type_again name (types.Int size unsigned) is = refl
type_again name types.Bool is = refl
type_again name (types.Char most) is = cond-false (nat_lt 255 most) (refuse (too_big_fieldlength name (codes "255"))) (done (types.Char most)) (not_over 255 most is)
type_again name (types.VarChar most) is = cond-false (nat_lt 16383 most) (refuse (too_big_fieldlength name (codes "16383"))) (done (types.VarChar most)) (not_over 16383 most is)
type_again name types.Date is = refl
type_again name types.DateTime is = refl

-- an auto column is an integer, never NULL and without default
abbrev pub IsAutoAlone : Bool → ColumnType → Bool → Option (List ℕ) → Type 0
IsAutoAlone false kind nullable default = Unit {0}
IsAutoAlone true kind nullable default = (is_integer kind ≡ true) × (nullable ≡ false) × (default ≡ None)

none_is : (o : Option (List ℕ)) → is_none o ≡ true → o ≡ None
none_is None is = refl
none_is (Some x) is = absurd cc

auto_parts : (auto nullable leads : Bool) (kind : ColumnType) (default : Option (List ℕ)) → (not auto || (is_integer kind && not nullable && is_none default && leads)) ≡ true → IsAutoAlone auto kind nullable default
auto_parts false nullable leads kind default is = tt
auto_parts true nullable leads kind default is =
    let (three, _) = and_parts (is_integer kind && not nullable && is_none default) leads is in
    let (two, none) = and_parts (is_integer kind && not nullable) (is_none default) three in
    let (integer, null) = and_parts (is_integer kind) (not nullable) two in
    (integer, not-true nullable null, none_is default none)

auto_alone : (indexes : List IndexDef) (c : ColumnDef) → is_auto_formed indexes c ≡ true → IsAutoAlone c.auto c.kind c.nullable c.default
unfolding is_auto_formed
auto_alone indexes c is = auto_parts c.auto c.nullable (leads_index indexes c.name) c.kind c.default is

-- what is said of a column with these parts
abbrev words_of : List ℕ → ColumnType → Bool → Option (List ℕ) → Bool → ColumnWords
words_of name kind nullable default auto = column_said (record { name = name; kind = kind; nullable = nullable; default = default; auto = auto })

default_again : (name : List ℕ) (kind : ColumnType) (nullable : Bool) (default : Option (List ℕ)) (auto : Bool) → is_fitting_default kind default ≡ true → IsAutoAlone auto kind nullable default
    → kept_default (words_of name kind nullable default auto) kind (default_said auto nullable default) ≡ done default
unfolding kept_default
default_again name kind nullable default true fits alone = let made : Option (List ℕ) → Walk ErrorValue (Option (List ℕ)) = λ x. done x in ap made (sym alone.2)
default_again name kind nullable (Some text) false fits alone = ap (kept_unless false name) (kept_again kind text fits)
default_again name kind true None false fits alone = refl
default_again name kind false None false fits alone = refl

allowed_again : (nullable : Bool) → unwrap_or (null_said nullable) true ≡ nullable
allowed_again true = refl
allowed_again false = refl

auto_is_integer : (auto : Bool) (kind : ColumnType) (nullable : Bool) (default : Option (List ℕ)) → IsAutoAlone auto kind nullable default → (auto && not (is_integer kind)) ≡ false
auto_is_integer false kind nullable default alone = refl
auto_is_integer true kind nullable default alone = ap not alone.0

auto_is_not_null : (auto : Bool) (kind : ColumnType) (nullable : Bool) (default : Option (List ℕ)) → IsAutoAlone auto kind nullable default → (nullable && not auto) ≡ nullable
auto_is_not_null false kind true default alone = refl
auto_is_not_null false kind false default alone = refl
auto_is_not_null true kind true default alone = absurd (let null = alone.1 in cc)
auto_is_not_null true kind false default alone = refl

-- NULL is allowed as it was
null_again : (c : ColumnDef) → IsAutoAlone c.auto c.kind c.nullable c.default → (unwrap_or (null_said c.nullable) true && not c.auto) ≡ c.nullable
null_again c alone = ap (λ (b : Bool). b && not c.auto) (allowed_again c.nullable) ∙ auto_is_not_null c.auto c.kind c.nullable c.default alone

defined_again : (c : ColumnDef) → IsAutoAlone c.auto c.kind c.nullable c.default → defined_column (column_said c) c.kind c.default ≡ c
defined_again c alone = ap (λ (b : Bool). record c { nullable = b }) (null_again c alone)

column_again : (c : ColumnDef) → is_typed c ≡ true → IsAutoAlone c.auto c.kind c.nullable c.default → column_of (column_said c) ≡ done c
unfolding column_of is_typed
column_again c typed alone =
    let (short, fitting) = and_parts (is_short_type c.kind) (is_fitting_default c.kind c.default) typed in
    goes (column_type c.name (type_said c.kind)) _ c.kind (type_again c.name c.kind short)
    ∙ passes (c.auto && not (is_integer c.kind)) (wrong_field_spec c.name) _ (auto_is_integer c.auto c.kind c.nullable c.default alone)
    ∙ goes (kept_default (column_said c) c.kind (default_said c.auto c.nullable c.default)) _ c.default (default_again c.name c.kind c.nullable c.default c.auto fitting alone)
    ∙ (let made : ColumnDef → Walk ErrorValue ColumnDef = λ x. done x in ap made (defined_again c alone))

-- ## All columns

one_again : (before : List ColumnDef) (c : ColumnDef) → has_column before c.name ≡ false → is_typed c ≡ true → IsAutoAlone c.auto c.kind c.nullable c.default → one_column before (column_said c) ≡ done (before ++ c ∷ [])
unfolding one_column
one_again before c apart typed alone =
    passes (has_column before c.name) (dup_fieldname c.name) _ apart ∙ goes (column_of (column_said c)) _ c (column_again c typed alone)

columns_from : (indexes : List IndexDef) (before cs : List ColumnDef) → are_distinct is_same_column (before ++ cs) ≡ true → list_all is_typed cs ≡ true → list_all (is_auto_formed indexes) cs ≡ true
    → over {E = ErrorValue} one_column before (map column_said cs) ≡ done (before ++ cs)
columns_from indexes before [] distinct typed autos = let made : List ColumnDef → Walk ErrorValue (List ColumnDef) = λ xs. done xs in ap made (sym (append-nil before))
columns_from indexes before (c ∷ cs) distinct typed autos =
    let (here, later) = and_parts (is_typed c) (list_all is_typed cs) typed in
    let (auto, others) = and_parts (is_auto_formed indexes c) (list_all (is_auto_formed indexes) cs) autos in
    let same_list = append_assoc before (c ∷ []) cs in
    let rest = columns_from indexes (before ++ c ∷ []) cs (subst (λ (xs : List ColumnDef). are_distinct is_same_column xs ≡ true) (sym same_list) distinct) later others in
    goes (one_column before (column_said c)) _ (before ++ c ∷ []) (one_again before c (apart_before is_same_column before c cs distinct) here (auto_alone indexes c auto))
    ∙ subst (λ (xs : List ColumnDef). over {E = ErrorValue} one_column (before ++ c ∷ []) (map column_said cs) ≡ done xs) same_list rest

pub columns_again : (indexes : List IndexDef) (cs : List ColumnDef) → nat_le 1 (length cs) ≡ true → nat_le (length cs) 1017 ≡ true → are_distinct is_same_column cs ≡ true → list_all is_typed cs ≡ true
    → list_all (is_auto_formed indexes) cs ≡ true → all_columns (map column_said cs) ≡ done cs
unfolding all_columns
columns_again indexes cs some few distinct typed autos =
    goes (over one_column [] (map column_said cs)) _ cs (columns_from indexes [] cs distinct typed autos)
    ∙ passes (length cs == 0) refusals.table_must_have_columns _ (not_none (length cs) some)
    ∙ passes (nat_lt 1017 (length cs)) refusals.too_many_fields _ (not_over 1017 (length cs) few)
