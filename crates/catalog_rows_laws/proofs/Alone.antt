-- What the fields of a part determine.
use Rattle.std.proofs.Common.{◌≡◌, ℕ, suc, ◌+◌, ◌<◌, Bool, true, false, List, [], ◌∷◌, ◌++◌, map, length, Option, Some, None, refl, sym, ap, ◌∙◌, arith}
use Rattle.std.specs.Prelude.{slice_get, ◌||◌, ◌==◌, if◌then◌else◌}
use Rattle.std.specs.List.{list_any, flat_map, position_or_len}
use Rattle.std.specs.Str.{bytes_eq}
use Rattle.std.proofs.lemmas.Slice.Eq.{bytes_eq-Decides}
use Rattle.std.proofs.lemmas.List.Concat.{flat_map-append}
use Rattle.std.proofs.lemmas.Bool.{lt-ltb}
use Rattle.sql_types.specs.declared.choices.IntSize.TheVariants as sizes
use Rattle.sql_types.specs.declared.choices.ColumnType.{ColumnType}
use Rattle.sql_types.specs.declared.choices.ColumnType.TheVariants as types
use Rattle.sql_types.specs.declared.choices.IndexClass.{IndexClass}
use Rattle.sql_types.specs.declared.choices.IndexClass.TheVariants as classes
use Rattle.sql_types.specs.declared.choices.FkRule.{FkRule}
use Rattle.sql_types.specs.declared.choices.FkRule.TheVariants as rules
use Rattle.dd_definitions.specs.declared.columns.ColumnDef.{ColumnDef}
use Rattle.dd_definitions.specs.declared.view_parts.ViewSource.{ViewSource}
use Rattle.dd_definitions.specs.declared.view_parts.ViewColumn.{ViewColumn}
use Rattle.dd_definitions.specs.declared.view_parts.ViewParts.{ViewParts}
use Rattle.dd_definitions.specs.Columns.{is_column}
use Rattle.row_fields.specs.declared.fields.Field.TheVariants.{Short, Long}
use Rattle.row_fields.specs.declared.fields.Kind.{Kind}
use Rattle.row_fields.specs.declared.fields.Kind.TheVariants as kinds
use Rattle.row_fields.specs.Fields.{kind_of, field_bytes, fields_bytes}
use Rattle.row_fields.specs.Repeated.{repeated}
use Rattle.row_fields.proofs.Again.{same_fields, same_all}
use Rattle.row_fields.proofs.Repeats.{kinds_repeat}
use Rattle.catalog_rows.specs.Parts.{flag, type_number, type_length, class_number, rule_number, column_fields, column_place, source_fields, output_fields, view_fields}
use Rattle.catalog_rows.specs.Stands.{FitsView}
use Rattle.catalog_rows.proofs.Fitting.{sources_fit, outputs_fit}

-- ## Choices

pub flag_alone : (a b : Bool) → flag a ≡ flag b → a ≡ b
flag_alone true true e = refl
flag_alone false false e = refl
flag_alone true false e = absurd (omega arith)
flag_alone false true e = absurd (omega arith)

pub class_alone : (a b : IndexClass) → class_number a ≡ class_number b → a ≡ b
class_alone classes.Primary classes.Primary e = refl
class_alone classes.Unique classes.Unique e = refl
class_alone classes.Plain classes.Plain e = refl
class_alone a b e = absurd (omega (arith, e))

pub rule_alone : (a b : FkRule) → rule_number a ≡ rule_number b → a ≡ b
rule_alone rules.NoAction rules.NoAction e = refl
rule_alone rules.Restrict rules.Restrict e = refl
rule_alone rules.Cascade rules.Cascade e = refl
rule_alone rules.SetNull rules.SetNull e = refl
rule_alone a b e = absurd (omega (arith, e))

type_of : ℕ → ℕ → Option ColumnType
type_of number length =
    if number == 1 then Some (types.Int sizes.Tiny false) else if number == 2 then Some (types.Int sizes.Small false) else if number == 3 then Some (types.Int sizes.Medium false)
    else if number == 4 then Some (types.Int sizes.Normal false) else if number == 5 then Some (types.Int sizes.Big false) else if number == 6 then Some (types.Int sizes.Tiny true)
    else if number == 7 then Some (types.Int sizes.Small true) else if number == 8 then Some (types.Int sizes.Medium true) else if number == 9 then Some (types.Int sizes.Normal true)
    else if number == 10 then Some (types.Int sizes.Big true) else if number == 11 then Some types.Bool else if number == 12 then Some (types.Char length)
    else if number == 13 then Some (types.VarChar length) else if number == 14 then Some types.Date else if number == 15 then Some types.DateTime else None

type_again : (kind : ColumnType) → type_of (type_number kind) (type_length kind) ≡ Some kind
unfolding type_of
type_again (types.Int sizes.Tiny true) = refl
type_again (types.Int sizes.Small true) = refl
type_again (types.Int sizes.Medium true) = refl
type_again (types.Int sizes.Normal true) = refl
type_again (types.Int sizes.Big true) = refl
type_again (types.Int sizes.Tiny false) = refl
type_again (types.Int sizes.Small false) = refl
type_again (types.Int sizes.Medium false) = refl
type_again (types.Int sizes.Normal false) = refl
type_again (types.Int sizes.Big false) = refl
type_again types.Bool = refl
type_again (types.Char most) = refl
type_again (types.VarChar most) = refl
type_again types.Date = refl
type_again types.DateTime = refl

some_is : {X : Type 0} (x y : X) → ◌≡◌ {A = Option X} (Some x) (Some y) → x ≡ y
some_is x y e = cc

type_alone : (a b : ColumnType) → type_number a ≡ type_number b → type_length a ≡ type_length b → a ≡ b
type_alone a b e f = some_is a b (sym (type_again a) ∙ (λ i. type_of (e i) (f i)) ∙ type_again b)

-- ## Columns

pub column_alone : (x y : ColumnDef) → column_fields x ≡ column_fields y → x ≡ y
column_alone x y e =
    let name : x.name ≡ y.name = cc in
    let number : type_number x.kind ≡ type_number y.kind = cc in
    let long : type_length x.kind ≡ type_length y.kind = cc in
    let null : flag x.nullable ≡ flag y.nullable = cc in
    let set : flag x.auto ≡ flag y.auto = cc in
    let default : x.default ≡ y.default = cc in
    let kind : x.kind ≡ y.kind = type_alone x.kind y.kind number long in
    let nullable : x.nullable ≡ y.nullable = flag_alone x.nullable y.nullable null in
    let auto : x.auto ≡ y.auto = flag_alone x.auto y.auto set in
    λ i. record { name = name i; kind = kind i; nullable = nullable i; default = default i; auto = auto i }

abbrev is_spelled : List ℕ → ColumnDef → Bool
is_spelled name c = bytes_eq c.name name

-- the first column that is spelled so
record First (name : List ℕ) (columns : List ColumnDef) : Type 0 where
  pub column : ColumnDef
  pub there : slice_get columns (position_or_len (is_spelled name) columns) ≡ Some column
  pub named : column.name ≡ name
  pub within : position_or_len (is_spelled name) columns < length columns

first_behind : (name : List ℕ) (c : ColumnDef) (columns : List ColumnDef) → is_spelled name c ≡ false → First name columns → First name (c ∷ columns)
first_behind name c columns h r =
    let next : 1 + position_or_len (is_spelled name) columns ≡ suc (position_or_len (is_spelled name) columns) = omega arith in
    let behind : slice_get (c ∷ columns) (1 + position_or_len (is_spelled name) columns) ≡ Some r.column = ap (slice_get (c ∷ columns)) next ∙ r.there in
    record { column = r.column; there = rw h behind; named = r.named; within = rw h (let low = r.within in omega arith) }

first : (name : List ℕ) (columns : List ColumnDef) → list_any (is_spelled name) columns ≡ true → First name columns
first name [] e = absurd cc
first name (c ∷ columns) e = by (is_spelled name c) refl (first name columns)
  where
    by : (b : Bool) → is_spelled name c ≡ b → (list_any (is_spelled name) columns ≡ true → First name columns) → First name (c ∷ columns)
    by true h rest = record { column = c; there = rw h refl; named = (bytes_eq-Decides c.name name).0 h; within = rw h (omega arith) }
    by false h rest = first_behind name c columns h (rest (sym (ap (λ b. b || list_any (is_spelled name) columns) h) ∙ e))

-- the column at the place of a name is spelled so
record Spelled (columns : List ColumnDef) (name : List ℕ) : Type 0 where
  pub column : ColumnDef
  pub there : slice_get columns (column_place columns name) ≡ Some column
  pub named : column.name ≡ name

place_is : (columns : List ColumnDef) (name : List ℕ) → position_or_len (is_spelled name) columns < length columns → column_place columns name ≡ position_or_len (is_spelled name) columns
unfolding column_place
place_is columns name low = rw (lt-ltb (position_or_len (is_spelled name) columns) (length columns) low) refl

placed_named : (columns : List ColumnDef) (name : List ℕ) → is_column columns name ≡ true → Spelled columns name
unfolding is_column
placed_named columns name e =
    let f = first name columns e in
    record { column = f.column; there = ap (slice_get columns) (place_is columns name f.within) ∙ f.there; named = f.named }

pub place_alone : (columns : List ColumnDef) (a b : List ℕ) → is_column columns a ≡ true → is_column columns b ≡ true → column_place columns a ≡ column_place columns b → a ≡ b
place_alone columns a b p q e =
    let x = placed_named columns a p in
    let y = placed_named columns b q in
    let same : x.column ≡ y.column = some_is x.column y.column (sym x.there ∙ ap (slice_get columns) e ∙ y.there) in
    sym x.named ∙ ap (λ (c : ColumnDef). c.name) same ∙ y.named

-- ## Lists by their items

pub none_some : {X : Type 0} (x : X) → ◌≡◌ {A = Option X} None (Some x) → ⊥
none_some x e = cc

pub same_list : {X : Type 0} (xs ys : List X) → ((i : ℕ) (x : X) → slice_get xs i ≡ Some x → slice_get ys i ≡ Some x) → ((i : ℕ) (x : X) → slice_get ys i ≡ Some x → slice_get xs i ≡ Some x) → xs ≡ ys
same_list [] [] f g = refl
same_list [] (y ∷ ys) f g = absurd (none_some y (g 0 y refl))
same_list (x ∷ xs) [] f g = absurd (none_some x (f 0 x refl))
same_list (x ∷ xs) (y ∷ ys) f g =
    let first : x ≡ y = sym (some_is y x (f 0 x refl)) in
    let rest : xs ≡ ys = same_list xs ys (λ i z. f (suc i) z) (λ i z. g (suc i) z) in
    λ i. first i ∷ rest i

-- ## Views

source_kinds : List Kind
source_kinds = kinds.Text ∷ kinds.Text ∷ kinds.Text ∷ []

output_kinds : List Kind
output_kinds = kinds.Long ∷ kinds.Text ∷ kinds.Text ∷ []

sources_kinds : (xs : List ViewSource) → map kind_of (flat_map source_fields xs) ≡ repeated (length xs) source_kinds
unfolding source_kinds
sources_kinds xs = kinds_repeat source_fields (kinds.Text ∷ kinds.Text ∷ kinds.Text ∷ []) (λ x. refl) xs

outputs_kinds : (xs : List ViewColumn) → map kind_of (flat_map output_fields xs) ≡ repeated (length xs) output_kinds
unfolding output_kinds
outputs_kinds xs = kinds_repeat output_fields (kinds.Long ∷ kinds.Text ∷ kinds.Text ∷ []) (λ x. refl) xs

sources_alone : (xs ys : List ViewSource) → flat_map source_fields xs ≡ flat_map source_fields ys → xs ≡ ys
sources_alone [] [] e = refl
sources_alone [] (y ∷ ys) e = absurd cc
sources_alone (x ∷ xs) [] e = absurd cc
sources_alone (x ∷ xs) (y ∷ ys) e =
    let schema : x.object.schema ≡ y.object.schema = cc in
    let name : x.object.name ≡ y.object.name = cc in
    let alias : x.alias ≡ y.alias = cc in
    let others : flat_map source_fields xs ≡ flat_map source_fields ys = cc in
    let rest : xs ≡ ys = sources_alone xs ys others in
    λ i. record { object = record { schema = schema i; name = name i }; alias = alias i } ∷ rest i

outputs_alone : (xs ys : List ViewColumn) → flat_map output_fields xs ≡ flat_map output_fields ys → xs ≡ ys
outputs_alone [] [] e = refl
outputs_alone [] (y ∷ ys) e = absurd cc
outputs_alone (x ∷ xs) [] e = absurd cc
outputs_alone (x ∷ xs) (y ∷ ys) e =
    let source : x.source ≡ y.source = cc in
    let column : x.column ≡ y.column = cc in
    let output : x.output ≡ y.output = cc in
    let others : flat_map output_fields xs ≡ flat_map output_fields ys = cc in
    let rest : xs ≡ ys = outputs_alone xs ys others in
    λ i. record { source = source i; column = column i; output = output i } ∷ rest i

view_split : (parts : ViewParts) → fields_bytes (view_fields parts)
    ≡ fields_bytes (Long (length parts.sources) ∷ []) ++ (fields_bytes (flat_map source_fields parts.sources) ++ (fields_bytes (Short (length parts.outputs) ∷ []) ++ fields_bytes (flat_map output_fields parts.outputs)))
unfolding view_fields
view_split parts =
    flat_map-append field_bytes (Long (length parts.sources) ∷ []) (flat_map source_fields parts.sources ++ (Short (length parts.outputs) ∷ flat_map output_fields parts.outputs))
    ∙ ap (λ (bytes : List ℕ). fields_bytes (Long (length parts.sources) ∷ []) ++ bytes) (flat_map-append field_bytes (flat_map source_fields parts.sources) (Short (length parts.outputs) ∷ flat_map output_fields parts.outputs)
    ∙ ap (λ (bytes : List ℕ). fields_bytes (flat_map source_fields parts.sources) ++ bytes) (flat_map-append field_bytes (Short (length parts.outputs) ∷ []) (flat_map output_fields parts.outputs)))

long_is : (a b : ℕ) → Long a ∷ [] ≡ Long b ∷ [] → a ≡ b
long_is a b e = cc

pub short_is : (a b : ℕ) → Short a ∷ [] ≡ Short b ∷ [] → a ≡ b
short_is a b e = cc

pub view_alone : (x y : ViewParts) → FitsView x → FitsView y → fields_bytes (view_fields x) ≡ fields_bytes (view_fields y) → (x.sources ≡ y.sources) × (x.outputs ≡ y.outputs)
view_alone x y p q e =
    let whole = sym (view_split x) ∙ e ∙ view_split y in
    let first = same_fields (Long (length x.sources) ∷ []) (Long (length y.sources) ∷ []) _ _ refl (p.few_sources, tt) (q.few_sources, tt) whole in
    let sized : length x.sources ≡ length y.sources = long_is (length x.sources) (length y.sources) first.0 in
    let second = same_fields (flat_map source_fields x.sources) (flat_map source_fields y.sources) _ _ (sources_kinds x.sources ∙ ap (λ n. repeated n source_kinds) sized ∙ sym (sources_kinds y.sources))
    (sources_fit x.sources p.sources) (sources_fit y.sources q.sources) first.1 in
    let third = same_fields (Short (length x.outputs) ∷ []) (Short (length y.outputs) ∷ []) _ _ refl (p.few_outputs, tt) (q.few_outputs, tt) second.1 in
    let many : length x.outputs ≡ length y.outputs = short_is (length x.outputs) (length y.outputs) third.0 in
    let fourth = same_all (flat_map output_fields x.outputs) (flat_map output_fields y.outputs) (outputs_kinds x.outputs ∙ ap (λ n. repeated n output_kinds) many ∙ sym (outputs_kinds y.outputs))
    (outputs_fit x.outputs p.outputs) (outputs_fit y.outputs q.outputs) third.1 in
    (sources_alone x.sources y.sources second.0, outputs_alone x.outputs y.outputs fourth)
