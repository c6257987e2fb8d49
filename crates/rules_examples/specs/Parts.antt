-- Parts of tables and views, written shortly, and whether they fit together.
use Rattle.std.specs.Prelude.{◌≡◌, ℕ, zero, suc, Bool, true, false, List, [], ◌∷◌, ◌++◌, Option, Some, None, map, replicate, codes}
use Prim.Native.String.{String}
use Rattle.dd_names.specs.declared.object_name.ObjName.{ObjName}
use Rattle.sql_types.specs.declared.choices.IntSize.TheVariants.{Normal}
use Rattle.sql_types.specs.declared.choices.ColumnType.{ColumnType}
use Rattle.sql_types.specs.declared.choices.ColumnType.TheVariants as kind
use Rattle.sql_types.specs.declared.choices.IndexClass.{IndexClass}
use Rattle.sql_types.specs.declared.choices.IndexClass.TheVariants.{Primary, Unique, Plain}
use Rattle.sql_types.specs.declared.choices.FkRule.TheVariants.{NoAction, Cascade}
use Rattle.dd_definitions.specs.declared.columns.ColumnDef.{ColumnDef}
use Rattle.dd_definitions.specs.declared.indexes.IndexDef.{IndexDef}
use Rattle.dd_definitions.specs.declared.foreign_keys.ForeignKeyDef.{ForeignKeyDef}
use Rattle.dd_definitions.specs.declared.parts.TableParts.{TableParts}
use Rattle.dd_definitions.specs.WellFormed.{is_well_formed}

-- whether the column may be NULL, its default, and whether it is auto
abbrev pub column : String → ColumnType → Bool → Option (List ℕ) → Bool → ColumnDef
column name kind nullable default auto = record { name = codes name; kind = kind; nullable = nullable; default = default; auto = auto }

abbrev pub int : ColumnType
int = kind.Int Normal false

-- a column that is never NULL and has no default
abbrev pub plain : String → ColumnType → ColumnDef
plain name kind = column name kind false None false

abbrev pub with_default : ColumnType → String → ColumnDef
with_default kind default = column "v" kind true (Some (codes default)) false

abbrev pub index : String → IndexClass → List (List ℕ) → IndexDef
index name class columns = record { name = codes name; class = class; columns = columns }

abbrev pub a : List ℕ
a = codes "a"

abbrev pub b : List ℕ
b = codes "b"

abbrev pub c : List ℕ
c = codes "c"

abbrev pub parent : ObjName
parent = record { schema = codes "d"; name = codes "p" }

-- its name, its columns and the parent's
abbrev pub foreign_key : String → List (List ℕ) → List (List ℕ) → ForeignKeyDef
foreign_key name columns parent_columns = record {
  name = codes name;
  columns = columns;
  parent = parent;
  parent_columns = parent_columns;
  on_delete = Cascade;
  on_update = NoAction;
}

abbrev pub table : List ColumnDef → List IndexDef → List ForeignKeyDef → TableParts
table columns indexes foreign_keys = record { name = record { schema = codes "d"; name = codes "t" }; columns = columns; indexes = indexes; foreign_keys = foreign_keys }

-- two columns that are never NULL, and one that may be
abbrev pub abc : List ColumnDef
abc = plain "a" int ∷ plain "b" int ∷ column "c" int true None false ∷ []

-- n names, each with one letter more than the one behind it
abbrev pub names : ℕ → List (List ℕ)
names zero = []
names (suc n) = replicate (suc n) 120 ∷ names n

abbrev pub ints : List (List ℕ) → List ColumnDef
ints ns = map (λ n. record { name = n; kind = int; nullable = false; default = None; auto = false }) ns

abbrev pub indexes_on_a : List (List ℕ) → List IndexDef
indexes_on_a ns = map (λ n. record { name = n; class = Plain; columns = a ∷ [] }) ns

-- each fits together
abbrev pub AllFit : List TableParts → Type 0
AllFit tables = map is_well_formed tables ≡ map (λ t. true) tables

-- none does
abbrev pub NoneFits : List TableParts → Type 0
NoneFits tables = map is_well_formed tables ≡ map (λ t. false) tables
