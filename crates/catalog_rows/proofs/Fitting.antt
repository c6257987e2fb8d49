-- Fields of parts that fit have room.
use Rattle.std.proofs.Common.{◌≡◌, ℕ, zero, suc, ◌+◌, ◌<◌, ◌≤◌, ◌^◌, Bool, true, false, List, [], ◌∷◌, ◌++◌, length, take, get_or, Option, Some, None, refl, sym, ap, subst, ◌∙◌, append_assoc, arith}
use Rattle.std.specs.Prelude.{nat_lt, if◌then◌else◌}
use Rattle.std.specs.List.{list_all, flat_map, AllByRecursion, position_or_len}
use Rattle.std.specs.Option.{unwrap_or}
use Rattle.std.specs.Str.{bytes_eq}
use Rattle.std.proofs.lemmas.Bool.{ltb-true, and_parts}
use Rattle.std.proofs.lemmas.Bool.Decides.{nat_tests}
use Rattle.std.proofs.lemmas.List.{append-nil}
use Rattle.std.proofs.lemmas.List.Concat.{flat_map-append}
use Rattle.dd_names.specs.Names.{IsName, is_name_byte}
use Rattle.sql_types.specs.declared.choices.IntSize.{IntSize}
use Rattle.sql_types.specs.declared.choices.IntSize.TheVariants as sizes
use Rattle.sql_types.specs.declared.choices.ColumnType.{ColumnType}
use Rattle.sql_types.specs.declared.choices.ColumnType.TheVariants as types
use Rattle.sql_types.specs.declared.choices.IndexClass.{IndexClass}
use Rattle.sql_types.specs.declared.choices.IndexClass.TheVariants as classes
use Rattle.sql_types.specs.declared.choices.FkRule.{FkRule}
use Rattle.sql_types.specs.declared.choices.FkRule.TheVariants as rules
use Rattle.dd_definitions.specs.declared.columns.ColumnDef.{ColumnDef}
use Rattle.dd_definitions.specs.declared.indexes.IndexDef.{IndexDef}
use Rattle.dd_definitions.specs.declared.foreign_keys.ForeignKeyDef.{ForeignKeyDef}
use Rattle.dd_definitions.specs.declared.view_parts.ViewSource.{ViewSource}
use Rattle.dd_definitions.specs.declared.view_parts.ViewColumn.{ViewColumn}
use Rattle.dd_definitions.specs.declared.view_parts.ViewParts.{ViewParts}
use Rattle.row_fields.specs.declared.fields.Field.{Field}
use Rattle.row_fields.specs.declared.fields.Field.TheVariants.{Short, Long, Text, Ended}
use Rattle.row_fields.specs.Fields.{Fits, FitsMaybe, is_no_zero}
use Rattle.catalog_rows.specs.Parts.{flag, size_number, type_number, class_number, rule_number, column_fields, index_fields, key_fields, column_place, source_fields, output_fields, view_fields}
use Rattle.catalog_rows.specs.Stands.{FitsColumn, FitsDefault, FitsSource, FitsOutput, FitsView}

-- ## Names

-- names have no zeros
no_zeros : (bytes : List ℕ) → list_all is_name_byte bytes ≡ true → list_all is_no_zero bytes ≡ true
no_zeros [] e = refl
no_zeros (c ∷ bytes) e =
    let (first, others) = and_parts (is_name_byte c) (list_all is_name_byte bytes) e in
    rw (no_zero c first) (no_zeros bytes others)
  where
    no_zero : (c : ℕ) → is_name_byte c ≡ true → is_no_zero c ≡ true
    no_zero c e = grind (arith, nat_tests)

pub ended_fits : (name : List ℕ) → IsName name → Fits (Ended name)
ended_fits name is = no_zeros name is.each

pub text_fits : (name : List ℕ) → IsName name → Fits (Text name)
text_fits name is = let short = is.short in omega arith

-- ## Numbers of choices

flag_fits : (b : Bool) → flag b < 2 ^ 8
flag_fits true = omega arith
flag_fits false = omega arith

size_small : (size : IntSize) → size_number size < 6
size_small sizes.Tiny = omega arith
size_small sizes.Small = omega arith
size_small sizes.Medium = omega arith
size_small sizes.Normal = omega arith
size_small sizes.Big = omega arith

type_fits : (kind : ColumnType) → type_number kind < 2 ^ 8
type_fits (types.Int size true) = let small = size_small size in omega arith
type_fits (types.Int size false) = let small = size_small size in omega arith
type_fits types.Bool = omega arith
type_fits (types.Char most) = omega arith
type_fits (types.VarChar most) = omega arith
type_fits types.Date = omega arith
type_fits types.DateTime = omega arith

class_fits : (class : IndexClass) → class_number class < 2 ^ 8
class_fits classes.Primary = omega arith
class_fits classes.Unique = omega arith
class_fits classes.Plain = omega arith

rule_fits : (rule : FkRule) → rule_number rule < 2 ^ 8
rule_fits rules.NoAction = omega arith
rule_fits rules.Restrict = omega arith
rule_fits rules.Cascade = omega arith
rule_fits rules.SetNull = omega arith

-- ## Parts of a table

default_fits : (text : Option (List ℕ)) → FitsDefault text → FitsMaybe text
default_fits None fits = tt
default_fits (Some text) fits = fits.0

pub column_fits : (column : ColumnDef) → FitsColumn column → AllByRecursion Fits (column_fields column)
column_fits column fits =
    (text_fits column.name fits.name, (type_fits column.kind, (fits.length, (flag_fits column.nullable, (flag_fits column.auto, (default_fits column.default fits.default, tt))))))

pub index_fits : (index : IndexDef) → IsName index.name → AllByRecursion Fits (index_fields index)
index_fits index name = (text_fits index.name name, (class_fits index.class, tt))

pub key_fits : (key : ForeignKeyDef) → IsName key.name → IsName key.parent.schema → IsName key.parent.name → AllByRecursion Fits (key_fields key)
key_fits key name schema parent = (text_fits key.name name, (text_fits key.parent.schema schema, (text_fits key.parent.name parent, (rule_fits key.on_delete, (rule_fits key.on_update, tt)))))

within : (b : Bool) (n k : ℕ) → (b ≡ true → n < k) → unwrap_or (if b then Some n else None) k ≤ k
within true n k h = let low = h refl in omega arith
within false n k h = omega arith

pub place_within : (columns : List ColumnDef) (name : List ℕ) → column_place columns name ≤ length columns
unfolding column_place
place_within columns name =
    within (nat_lt (position_or_len (λ (c : ColumnDef). bytes_eq c.name name) columns) (length columns)) (position_or_len (λ (c : ColumnDef). bytes_eq c.name name) columns) (length columns) (λ e. ltb-true _ _ e)

pub place_fits : (columns : List ColumnDef) (name : List ℕ) → length columns < 2 ^ 16 → column_place columns name < 2 ^ 16
place_fits columns name few = let low = place_within columns name in omega arith

-- ## Parts of a view

pub both_fit : {X : Type 0} (P : X → Type 0) (xs ys : List X) → AllByRecursion P xs → AllByRecursion P ys → AllByRecursion P (xs ++ ys)
both_fit P [] ys p q = q
both_fit P (x ∷ xs) ys p q = (p.0, both_fit P xs ys p.1 q)

source_fits : (source : ViewSource) → FitsSource source → AllByRecursion Fits (source_fields source)
source_fits source fits = (text_fits source.object.schema fits.schema, (text_fits source.object.name fits.name, (text_fits source.alias fits.alias, tt)))

output_fits : (output : ViewColumn) → FitsOutput output → AllByRecursion Fits (output_fields output)
output_fits output fits = (fits.source, (text_fits output.column fits.column, (text_fits output.output fits.name, tt)))

pub sources_fit : (sources : List ViewSource) → AllByRecursion FitsSource sources → AllByRecursion Fits (flat_map source_fields sources)
sources_fit [] fits = tt
sources_fit (s ∷ sources) fits = both_fit Fits (source_fields s) (flat_map source_fields sources) (source_fits s fits.0) (sources_fit sources fits.1)

pub outputs_fit : (outputs : List ViewColumn) → AllByRecursion FitsOutput outputs → AllByRecursion Fits (flat_map output_fields outputs)
outputs_fit [] fits = tt
outputs_fit (o ∷ outputs) fits = both_fit Fits (output_fields o) (flat_map output_fields outputs) (output_fits o fits.0) (outputs_fit outputs fits.1)

pub view_fits : (parts : ViewParts) → FitsView parts → AllByRecursion Fits (view_fields parts)
unfolding view_fields
view_fits parts fits =
    both_fit Fits (Long (length parts.sources) ∷ flat_map source_fields parts.sources) (Short (length parts.outputs) ∷ flat_map output_fields parts.outputs)
    (fits.few_sources, sources_fit parts.sources fits.sources) (fits.few_outputs, outputs_fit parts.outputs fits.outputs)

-- ## One item more

pub take_one : {X : Type 0} (xs : List X) (k : ℕ) (d : X) → k < length xs → take (k + 1) xs ≡ take k xs ++ get_or xs k d ∷ []
take_one xs k d lt = let one : k + 1 ≡ suc k = omega arith in rw one (by xs k lt)
  where
    by : (xs : List _) (k : ℕ) → k < length xs → take (suc k) xs ≡ take k xs ++ get_or xs k d ∷ []
    by [] k lt = absurd (omega arith)
    by (x ∷ xs) zero lt = refl
    by (x ∷ xs) (suc k) lt = ap (λ ys. x ∷ ys) (by xs k (omega arith))

pub one_fits : {X : Type 0} (P : X → Type 0) (xs : List X) (k : ℕ) (x : X) → k < length xs → x ≡ get_or xs k x → AllByRecursion P (take k xs) → P x → AllByRecursion P (take (k + 1) xs)
one_fits P xs k x lt is all one =
    subst (λ ys. AllByRecursion P ys) (sym (take_one xs k x lt)) (both_fit P (take k xs) (get_or xs k x ∷ []) all (subst P is one, tt))

pub one_pushed : {X : Type 0} (fields : X → List Field) (xs : List X) (k : ℕ) (x : X) (old mid new : List Field) → k < length xs → x ≡ get_or xs k x → mid ≡ old ++ flat_map fields (take k xs) → new ≡ mid ++ fields x → new ≡ old ++ flat_map fields (take (k + 1) xs)
one_pushed fields xs k x old mid new lt is so_far one =
    let last : flat_map fields (get_or xs k x ∷ []) ≡ fields x = append-nil (fields (get_or xs k x)) ∙ ap fields (sym is) in
    let more : flat_map fields (take (k + 1) xs) ≡ flat_map fields (take k xs) ++ fields x =
    ap (flat_map fields) (take_one xs k x lt) ∙ flat_map-append fields (take k xs) (get_or xs k x ∷ []) ∙ ap (λ (l : List Field). flat_map fields (take k xs) ++ l) last in
    one ∙ ap (λ (l : List Field). l ++ fields x) so_far ∙ append_assoc old (flat_map fields (take k xs)) (fields x) ∙ ap (λ (l : List Field). old ++ l) (sym more)
