-- Each column that the rules take is fit by itself.
use Rattle.std.proofs.Common.{◌≡◌, ℕ, Bool, true, false, ◌&&◌, ◌||◌, not, cond, List, Option, Some, None, nat_le, nat_lt, refl, sym, ◌∙◌, ap, subst, arith}
use Rattle.std.specs.Option.{is_none}
use Rattle.std.proofs.lemmas.Bool.Decides.{nat_tests}
use Rattle.dd_errors.specs.Errors.{ErrorValue}
use Rattle.sql_types.specs.declared.choices.IntSize.TheVariants as sizes
use Rattle.sql_types.specs.declared.choices.ColumnType.{ColumnType}
use Rattle.sql_types.specs.declared.choices.ColumnType.TheVariants as types
use Rattle.sql_types.specs.declared.literal.Literal.{Literal}
use Rattle.sql_types.specs.declared.literal.Literal.TheVariants as literals
use Rattle.sql_types.specs.declared.words.TypeWords.{TypeWords}
use Rattle.sql_types.specs.declared.words.TypeWords.TheVariants as words
use Rattle.sql_types.specs.declared.words.ColumnWords.{ColumnWords}
use Rattle.dd_definitions.specs.Columns.{is_short_type, is_typed}
use Rattle.dd_definitions.specs.Defaults.{height, depth, is_integer_text, is_short_text, fits, is_fitting_default}
use Rattle.dd_definitions.specs.Indexes.{is_integer}
use Rattle.dd_definitions.specs.declared.columns.ColumnDef.{ColumnDef}
use Rattle.dd_catalog.specs.Asked.{bind_fine, fine_is}
use Rattle.std.specs.Prelude.{codes}
use Rattle.dd_catalog.specs.Walks.{fine, run, done, refuse, refuse_if}
use Rattle.dd_catalog.specs.WalkLaws.{Look}
use Rattle.rules_elements.specs.Columns.{column_type, is_null_allowed, kept_unless, kept_default, defined_column, column_of}
use Rattle.rules_elements.specs.Defaults.{decimal_text, is_in_range, kept_number, kept_text, kept_by}
use Rattle.rules_refusals.specs.Refusals.{too_big_fieldlength, wrong_field_spec, invalid_default}
use Rattle.rules_elements_laws.specs.Taken.{IsFit}
use Rattle.rules_elements_laws.proofs.Numbers.{together, number_fits}

some_is : {A : Type 0} {x y : A} → ◌≡◌ {A = Option A} (Some x) (Some y) → x ≡ y
some_is e = cc

-- ## Types

within : (length most : ℕ) → nat_lt most length ≡ false → nat_le length most ≡ true
within length most is = grind (arith, nat_tests)

type_is_short : (look : Look) (name : List ℕ) (kind : TypeWords) (found : ColumnType) → run look (column_type name kind) ≡ fine found → is_short_type found ≡ true
unfolding column_type is_short_type
type_is_short look name (words.Int size unsigned) found is = sym (ap is_short_type (fine_is is))
type_is_short look name words.Bool found is = sym (ap is_short_type (fine_is is))
type_is_short look name (words.Char length) found is =
    elim (nat_lt 255 length) as (λ v. nat_lt 255 length ≡ v → run look (cond v (refuse (too_big_fieldlength name (codes "255"))) (done (types.Char length))) ≡ fine found → is_short_type found ≡ true) [
      | true ↦ λ over e. cc
      | false ↦ λ over e. sym (ap is_short_type (fine_is e)) ∙ within length 255 over
    ] refl is
type_is_short look name (words.VarChar length) found is =
    elim (nat_lt 16383 length) as (λ v. nat_lt 16383 length ≡ v → run look (cond v (refuse (too_big_fieldlength name (codes "16383"))) (done (types.VarChar length))) ≡ fine found → is_short_type found ≡ true) [
      | true ↦ λ over e. cc
      | false ↦ λ over e. sym (ap is_short_type (fine_is e)) ∙ within length 16383 over
    ] refl is
type_is_short look name words.Date found is = sym (ap is_short_type (fine_is is))
type_is_short look name words.DateTime found is = sym (ap is_short_type (fine_is is))

-- ## Defaults

number_kept_fits : (below above : ℕ) (text kept : List ℕ) → kept_number below above text ≡ Some kept → is_integer_text below above kept ≡ true
unfolding kept_number
number_kept_fits below above text kept is =
    elim (is_in_range below above text) as (λ v. is_in_range below above text ≡ v → ◌≡◌ {A = Option (List ℕ)} (cond v (Some (decimal_text text)) None) (Some kept) → is_integer_text below above kept ≡ true) [
      | true ↦ λ inside e. sym (ap (is_integer_text below above) (some_is e)) ∙ number_fits below above text inside
      | false ↦ λ inside e. cc
    ] refl is

text_kept_fits : (most : ℕ) (text kept : List ℕ) → kept_text most text ≡ Some kept → is_short_text most kept ≡ true
unfolding kept_text
text_kept_fits most text kept is =
    elim (is_short_text most text) as (λ v. is_short_text most text ≡ v → ◌≡◌ {A = Option (List ℕ)} (cond v (Some text) None) (Some kept) → is_short_text most kept ≡ true) [
      | true ↦ λ short e. sym (ap (is_short_text most) (some_is e)) ∙ short
      | false ↦ λ short e. cc
    ] refl is

kept_fits : (kind : ColumnType) (text kept : List ℕ) → kept_by kind text ≡ Some kept → fits kind kept ≡ true
unfolding kept_by fits
kept_fits (types.Int size unsigned) text kept is = number_kept_fits (depth size unsigned) (height size unsigned) text kept is
kept_fits types.Bool text kept is = number_kept_fits (depth sizes.Tiny false) (height sizes.Tiny false) text kept is
kept_fits (types.Char most) text kept is = text_kept_fits most text kept is
kept_fits (types.VarChar most) text kept is = text_kept_fits most text kept is
kept_fits types.Date text kept is = cc
kept_fits types.DateTime text kept is = cc

-- a default that is kept fits the type, and an AUTO_INCREMENT column has none
pub record IsDefault (auto : Bool) (kind : ColumnType) (kept : Option (List ℕ)) : Type 0 where
  pub fitting : is_fitting_default kind kept ≡ true
  pub absent : auto ≡ true → is_none kept ≡ true

no_default : (auto : Bool) (kind : ColumnType) (kept : Option (List ℕ)) → None ≡ kept → IsDefault auto kind kept
no_default auto kind kept is = subst (λ k. IsDefault auto kind k) is (record { fitting = refl; absent = λ _. refl })

unless_is : (look : Look) (auto : Bool) (name : List ℕ) (kind : ColumnType) (text : List ℕ) (found : Option (List ℕ)) (kept : Option (List ℕ)) → kept_by kind text ≡ found
    → run look (kept_unless auto name found) ≡ fine kept → IsDefault auto kind kept
unless_is look auto name kind text None kept by is = cc
unless_is look true name kind text (Some t) kept by is = cc
unless_is look false name kind text (Some t) kept by is = subst (λ k. IsDefault false kind k) (fine_is is) (record { fitting = kept_fits kind text t by; absent = λ wrong. cc })

pub default_is : (look : Look) (column : ColumnWords) (kind : ColumnType) (default : Option Literal) (kept : Option (List ℕ)) → run look (kept_default column kind default) ≡ fine kept → IsDefault column.auto kind kept
unfolding kept_default
default_is look column kind None kept is = no_default column.auto kind kept (fine_is is)
default_is look column kind (Some literals.Null) kept is =
    elim (column.auto || not (is_null_allowed column)) as (λ v. run look (cond v (refuse (invalid_default column.name)) (done None)) ≡ fine kept → IsDefault column.auto kind kept) [
      | true ↦ λ e. cc
      | false ↦ λ e. no_default column.auto kind kept (fine_is e)
    ] is
default_is look column kind (Some (literals.Number text)) kept is = unless_is look column.auto column.name kind (decimal_text text) (kept_by kind (decimal_text text)) kept refl is
default_is look column kind (Some (literals.Str text)) kept is = unless_is look column.auto column.name kind text (kept_by kind text) kept refl is

-- ## The column

pub allowed : (look : Look) (test : Bool) (e : ErrorValue) → run look (refuse_if test e) ≡ fine tt → test ≡ false
allowed look true e is = cc
allowed look false e is = refl

auto_is : (auto null integer none : Bool) → (auto && not integer) ≡ false → (auto ≡ true → none ≡ true) → (not auto || (integer && (not (null && not auto) && none))) ≡ true
auto_is false null integer none whole absent = refl
auto_is true null false none whole absent = cc
auto_is true true true none whole absent = absent refl
auto_is true false true none whole absent = absent refl

defined_fits : (column : ColumnWords) (kind : ColumnType) (kept : Option (List ℕ)) → is_short_type kind ≡ true → (column.auto && not (is_integer kind)) ≡ false → IsDefault column.auto kind kept → IsFit (defined_column column kind kept)
unfolding is_typed
defined_fits column kind kept short whole default = record {
  typed = together (is_short_type kind) (is_fitting_default kind kept) short default.fitting;
  auto = auto_is column.auto (is_null_allowed column) (is_integer kind) (is_none kept) whole default.absent;
}

pub columns_are_fit : (look : Look) (words : ColumnWords) (column : ColumnDef) → run look (column_of words) ≡ fine column → IsFit column
unfolding column_of
columns_are_fit look words column is =
    let (kind, typed, behind_type) = bind_fine look (column_type words.name words.kind) _ column is in
    let (_, whole, behind_auto) = bind_fine look (refuse_if (words.auto && not (is_integer kind)) (wrong_field_spec words.name)) _ column behind_type in
    let (kept, default, end) = bind_fine look (kept_default words kind words.default) _ column behind_auto in
    subst IsFit (fine_is end) (defined_fits words kind kept (type_is_short look words.name words.kind kind typed) (allowed look (words.auto && not (is_integer kind)) (wrong_field_spec words.name) whole) (default_is look words kind words.default kept default))
