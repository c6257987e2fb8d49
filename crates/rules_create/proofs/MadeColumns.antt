-- The columns that CREATE TABLE makes.
use Rattle.std.specs.Prelude.{◌≡◌, ℕ, ◌==◌, Bool, true, false, ◌&&◌, ◌||◌, not, nat_le, nat_lt, List, [], length, Option, Some, None, codes, refl}
use Rattle.std.specs.List.{list_all}
use Rattle.std.specs.Option.{is_none}
use Rattle.std.proofs.Common.{sym, ◌∙◌, ap, subst, arith}
use Rattle.std.proofs.lemmas.Bool.{and_from, and_right, not_from_false, not-false}
use Rattle.std.proofs.lemmas.Bool.Decides.{nat_tests}
use Rattle.dd_names.specs.Names.{same}
use Rattle.sql_types.specs.declared.choices.ColumnType.{ColumnType}
use Rattle.sql_types.specs.declared.choices.ColumnType.TheVariants as types
use Rattle.sql_types.specs.declared.literal.Literal.{Literal}
use Rattle.sql_types.specs.declared.literal.Literal.TheVariants as literals
use Rattle.sql_types.specs.declared.words.TypeWords.{TypeWords}
use Rattle.sql_types.specs.declared.words.TypeWords.TheVariants as words
use Rattle.sql_types.specs.declared.words.ColumnWords.{ColumnWords}
use Rattle.dd_definitions.specs.Columns.{is_same_column, are_columns_named, is_short_type, is_typed, are_columns_formed}
use Rattle.dd_definitions.specs.Defaults.{is_fitting_default}
use Rattle.dd_definitions.specs.Distinct.{are_distinct}
use Rattle.dd_definitions.specs.Indexes.{is_integer}
use Rattle.dd_definitions.specs.declared.columns.ColumnDef.{ColumnDef}
use Rattle.dd_catalog.specs.Walks.{fine, run, refuse_if, over}
use Rattle.dd_catalog.specs.WalkLaws.{Look}
use Rattle.dd_catalog.specs.Asked.{fine_is, bind_fine, over_keeps}
use Rattle.rules_elements.specs.Columns.{column_type, is_null_allowed, kept_unless, kept_default, column_of}
use Rattle.rules_elements.specs.Defaults.{decimal_text, kept_by}
use Rattle.rules_refusals.specs.Refusals.{too_big_fieldlength, invalid_default, wrong_field_spec, dup_fieldname}
use Rattle.rules_refusals.specs.Refusals as refusals
use Rattle.rules_create.specs.Tables.{has_column, one_column, all_columns}
use Rattle.rules_create.proofs.Lists.{all_push, distinct_push}
use Rattle.rules_create.proofs.Names.{not_refused, done_unless}
use Rattle.rules_create.proofs.MadeNumbers.{kept_fits}

-- an auto column is of integer type, not nullable and without default
abbrev pub is_auto_sound : ColumnDef → Bool
is_auto_sound column = not column.auto || (is_integer column.kind && not column.nullable && is_none column.default)

-- ## One column

length_within : (most length : ℕ) → nat_lt most length ≡ false → nat_le length most ≡ true
length_within most length is = grind (arith, nat_tests)

type_is_short : (look : Look) (name : List ℕ) (written : TypeWords) (kind : ColumnType) → run look (column_type name written) ≡ fine kind → is_short_type kind ≡ true
unfolding column_type is_short_type
type_is_short look name (words.Int size unsigned) kind is = ap is_short_type (sym (fine_is is))
type_is_short look name words.Bool kind is = ap is_short_type (sym (fine_is is))
type_is_short look name (words.Char most) kind is =
    let (short, same) = done_unless look (nat_lt 255 most) (too_big_fieldlength name (codes "255")) (types.Char most) kind is in
    ap is_short_type (sym same) ∙ length_within 255 most short
type_is_short look name (words.VarChar most) kind is =
    let (short, same) = done_unless look (nat_lt 16383 most) (too_big_fieldlength name (codes "16383")) (types.VarChar most) kind is in
    ap is_short_type (sym same) ∙ length_within 16383 most short
type_is_short look name words.Date kind is = ap is_short_type (sym (fine_is is))
type_is_short look name words.DateTime kind is = ap is_short_type (sym (fine_is is))

-- a default that is kept fits, and an auto column has none
record IsKept (auto : Bool) (kind : ColumnType) (default : Option (List ℕ)) : Type 0 where
  fits : is_fitting_default kind default ≡ true
  none : (not auto || is_none default) ≡ true

no_default : (auto : Bool) (kind : ColumnType) (default : Option (List ℕ)) → None ≡ default → IsKept auto kind default
no_default auto kind default is = subst (IsKept auto kind) is (record { fits = refl; none = at auto })
  where
    at : (b : Bool) → (not b || true) ≡ true
    at true = refl
    at false = refl

text_kept : (look : Look) (auto : Bool) (column : List ℕ) (kind : ColumnType) (text : List ℕ) (kept : Option (List ℕ)) (default : Option (List ℕ)) → kept_by kind text ≡ kept
    → run look (kept_unless auto column kept) ≡ fine default → IsKept auto kind default
text_kept look auto column kind text None default kept is = cc
text_kept look true column kind text (Some t) default kept is = cc
text_kept look false column kind text (Some t) default kept is = subst (IsKept false kind) (fine_is is) (record { fits = kept_fits kind text t kept; none = refl })

default_is_kept : (look : Look) (column : ColumnWords) (kind : ColumnType) (literal : Option Literal) (default : Option (List ℕ)) → run look (kept_default column kind literal) ≡ fine default → IsKept column.auto kind default
unfolding kept_default
default_is_kept look column kind None default is = no_default column.auto kind default (fine_is is)
default_is_kept look column kind (Some literals.Null) default is =
    no_default column.auto kind default (done_unless look (column.auto || not (is_null_allowed column)) (invalid_default column.name) None default is).1
default_is_kept look column kind (Some (literals.Number text)) default is = text_kept look column.auto column.name kind (decimal_text text) (kept_by kind (decimal_text text)) default refl is
default_is_kept look column kind (Some (literals.Str text)) default is = text_kept look column.auto column.name kind text (kept_by kind text) default refl is

record IsMade (words : ColumnWords) (column : ColumnDef) : Type 0 where
  named : words.name ≡ column.name
  typed : is_typed column ≡ true
  sound : is_auto_sound column ≡ true

sound : (auto allowed : Bool) (kind : ColumnType) (default : Option (List ℕ)) → (auto && not (is_integer kind)) ≡ false → (not auto || is_none default) ≡ true
    → (not auto || (is_integer kind && not (allowed && not auto) && is_none default)) ≡ true
sound false allowed kind default integer none = refl
sound true allowed kind default integer none =
    and_from (is_integer kind && not (allowed && false)) (is_none default) (and_from (is_integer kind) (not (allowed && false)) (not-false (is_integer kind) integer) (not_from_false (allowed && false) (and_right allowed false refl))) none

column_is_made : (look : Look) (words : ColumnWords) (column : ColumnDef) → run look (column_of words) ≡ fine column → IsMade words column
unfolding column_of is_typed
column_is_made look words column is =
    let (kind, typed, after_type) = bind_fine look (column_type words.name words.kind) _ column is in
    let (_, integer, after_auto) = bind_fine look (refuse_if (words.auto && not (is_integer kind)) (wrong_field_spec words.name)) _ column after_type in
    let (default, found, after_default) = bind_fine look (kept_default words kind words.default) _ column after_auto in
    let kept : IsKept words.auto kind default = default_is_kept look words kind words.default default found in
    subst (IsMade words) (fine_is after_default) (record {
      named = refl;
      typed = and_from (is_short_type kind) (is_fitting_default kind default) (type_is_short look words.name words.kind kind typed) kept.fits;
      sound = sound words.auto (is_null_allowed words) kind default (not_refused look (words.auto && not (is_integer kind)) (wrong_field_spec words.name) tt integer) kept.none;
    })

-- ## All columns

pub record AreColumns (columns : List ColumnDef) : Type 0 where
  pub distinct : are_distinct is_same_column columns ≡ true
  pub typed : list_all is_typed columns ≡ true
  pub sound : list_all is_auto_sound columns ≡ true

one_more : (look : Look) (before : List ColumnDef) (words : ColumnWords) (next : List ColumnDef) → AreColumns before → run look (one_column before words) ≡ fine next → AreColumns next
unfolding one_column
one_more look before words next so_far is =
    let (_, absent, after) = bind_fine look (refuse_if (has_column before words.name) (dup_fieldname words.name)) _ next is in
    let (column, found, last) = bind_fine look (column_of words) _ next after in
    let made : IsMade words column = column_is_made look words column found in
    let apart : has_column before words.name ≡ false = not_refused look (has_column before words.name) (dup_fieldname words.name) tt absent in
    subst AreColumns (fine_is last) (record {
      distinct = distinct_push is_same_column before column so_far.distinct (subst (λ (name : List ℕ). has_column before name ≡ false) made.named apart);
      typed = all_push is_typed before column so_far.typed made.typed;
      sound = all_push is_auto_sound before column so_far.sound made.sound;
    })

-- the columns of a table that is made
pub record AreSound (columns : List ColumnDef) : Type 0 where
  pub formed : are_columns_formed columns ≡ true
  pub distinct : are_distinct is_same_column columns ≡ true
  pub sound : list_all is_auto_sound columns ≡ true

few : (n : ℕ) → (n == 0) ≡ false → nat_lt 1017 n ≡ false → (nat_le 1 n && nat_le n 1017) ≡ true
few n some within = grind (arith, nat_tests)

pub columns_sound : (look : Look) (words : List ColumnWords) (columns : List ColumnDef) → run look (all_columns words) ≡ fine columns → AreSound columns
unfolding all_columns are_columns_formed are_columns_named
columns_sound look words columns is =
    let (made, over_all, after) = bind_fine look (over one_column [] words) _ columns is in
    let (_, some, next) = bind_fine look (refuse_if (length made == 0) refusals.table_must_have_columns) _ columns after in
    let (_, within, last) = bind_fine look (refuse_if (nat_lt 1017 (length made)) refusals.too_many_fields) _ columns next in
    let all : AreColumns made = over_keeps AreColumns look one_column (one_more look) [] words made (record { distinct = refl; typed = refl; sound = refl }) over_all in
    let counted = few (length made) (not_refused look (length made == 0) refusals.table_must_have_columns tt some) (not_refused look (nat_lt 1017 (length made)) refusals.too_many_fields tt within) in
    subst AreSound (fine_is last) (record {
      formed = and_from (are_columns_named made) (list_all is_typed made) (and_from (nat_le 1 (length made) && nat_le (length made) 1017) (are_distinct is_same_column made) counted all.distinct) all.typed;
      distinct = all.distinct;
      sound = all.sound;
    })
