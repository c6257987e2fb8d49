-- Short ways to write columns, keys, tables and what checks come to.
use Rattle.std.specs.Prelude.{◌≡◌, ℕ, Bool, false, List, [], ◌∷◌, Option, None, map, codes}
use Rattle.std.specs.List.{starts_with}
use Rattle.std.specs.Str.{bytes_eq}
use Prim.Native.String.{String}
use Rattle.dd_names.specs.declared.object_name.ObjName.{ObjName}
use Rattle.dd_errors.specs.Errors.{ErrorValue}
use Rattle.sql_types.specs.declared.choices.IntSize.TheVariants.{Normal}
use Rattle.sql_types.specs.declared.choices.ColumnType.{ColumnType}
use Rattle.sql_types.specs.declared.choices.ColumnType.TheVariants as types
use Rattle.sql_types.specs.declared.choices.IndexClass.{IndexClass}
use Rattle.sql_types.specs.declared.literal.Literal.{Literal}
use Rattle.sql_types.specs.declared.words.TypeWords.{TypeWords}
use Rattle.sql_types.specs.declared.words.TypeWords.TheVariants as words
use Rattle.sql_types.specs.declared.words.ColumnWords.{ColumnWords}
use Rattle.sql_types.specs.declared.words.KeyWords.{KeyWords}
use Rattle.dd_definitions.specs.declared.columns.ColumnDef.{ColumnDef}
use Rattle.dd_definitions.specs.declared.indexes.IndexDef.{IndexDef}
use Rattle.dd_definitions.specs.declared.foreign_keys.ForeignKeyDef.{ForeignKeyDef}
use Rattle.dd_definitions.specs.declared.parts.TableParts.{TableParts}
use Rattle.dd_catalog.specs.Walks.{Walk, Found, fine, refused, needs, run}
use Rattle.dd_catalog.specs.WalkLaws.{Look}

abbrev pub nothing_known : Look
nothing_known key = None

-- each check comes to what stands beside it
abbrev pub AllCome : {A : Type 0} → Look → List (Walk ErrorValue A × Found ErrorValue A) → Type 0
AllCome look cases = map (λ c. run look c.0) cases ≡ map (λ c. c.1) cases

abbrev pub error : {A : Type 0} → ℕ → List (List ℕ) → Found ErrorValue A
error number args = refused (record { number = number; args = args })

-- the check is refused, and this is the first argument
abbrev pub tells : {A : Type 0} → List ℕ → Found ErrorValue A → Bool
tells name (fine x) = false
tells name (refused e) = starts_with bytes_eq e.args (name ∷ [])
tells name (needs key) = false

-- no check is refused with the first argument that stands beside it
abbrev pub NoneTells : {A : Type 0} → Look → List (Walk ErrorValue A × List ℕ) → Type 0
NoneTells look cases = map (λ c. tells c.1 (run look c.0)) cases ≡ map (λ c. false) cases

abbrev pub object : String → ObjName
object name = record { schema = codes "d"; name = codes name }

-- a column `v` as it is written: its type, whether NULL or NOT NULL is written, its default, and AUTO_INCREMENT
abbrev pub written : TypeWords → Option Bool → Option Literal → Bool → ColumnWords
written kind nullable default auto =
    record { name = codes "v"; kind = kind; nullable = nullable; default = default; auto = auto; unique = false; primary = false }

-- the column `v` as it is kept
abbrev pub kept : ColumnType → Bool → Option (List ℕ) → Bool → ColumnDef
kept kind nullable default auto = record { name = codes "v"; kind = kind; nullable = nullable; default = default; auto = auto }

abbrev pub int_words : TypeWords
int_words = words.Int Normal false

abbrev pub int : ColumnType
int = types.Int Normal false

abbrev pub column : String → ColumnType → Bool → ColumnDef
column name kind nullable = record { name = codes name; kind = kind; nullable = nullable; default = None; auto = false }

abbrev pub index : String → IndexClass → List (List ℕ) → IndexDef
index name class columns = record { name = codes name; class = class; columns = columns }

-- a key as it is written: with the name of its constraint, and its own
abbrev pub key_words : IndexClass → Option (List ℕ) → Option (List ℕ) → List (List ℕ) → KeyWords
key_words class constraint name columns = record { class = class; constraint = constraint; name = name; columns = columns }

abbrev pub table : String → List ColumnDef → List IndexDef → List ForeignKeyDef → TableParts
table name columns indexes foreign_keys = record { name = object name; columns = columns; indexes = indexes; foreign_keys = foreign_keys }

abbrev pub a : List ℕ
a = codes "a"

abbrev pub b : List ℕ
b = codes "b"

abbrev pub c : List ℕ
c = codes "c"
